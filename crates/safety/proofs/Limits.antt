-- The limits that a revoked state's commitment and its HTLC transactions keep, so that a digest signs one of them.
use Rattle.std.proofs.Common.{◌≡◌, ℕ, ◌+◌, ◌^◌, ◌<◌, ◌≤◌, Bool, true, false, List, [], ◌∷◌, map, length, Some, None, ap, refl, arith}
use Rattle.std.specs.Prelude.{nat_le, if◌then◌else◌}
use Rattle.std.specs.List.{All, Contains, cons_option}
use Rattle.std.proofs.lemmas.Bool.{leb-true}
use Rattle.std.proofs.lemmas.List.Elements.{All-nil, All-cons, All-append, All-head, All-tail, All-contains}
use Rattle.sha2.proofs.Facts256.{length-sha256}
use Rattle.digest.specs.Hash.{hash160}
use Rattle.digest.specs.Ripemd160.{ripemd160}
use Rattle.digest.proofs.OutsideVectors.{length-ripemd160}
use Rattle.script.specs.declared.opcode.Op.{Op}
use Rattle.script.specs.declared.limits.TheConstants.{MAX_SCRIPT_SIZE}
use Rattle.script.specs.Spelling.{spelling}
use Rattle.tx.specs.declared.limits.TheConstants.{MAX_VALUE, MAX_OUTPUTS}
use Rattle.tx.specs.Fields.{KeepsLimits}
use Rattle.tx.specs.Spelling.{transaction_id}
use Rattle.sighash.specs.Programs.{script_ops, ops_within}
use Rattle.keys.specs.Derivation.{point_of}
use Rattle.terms.specs.Agreement.{party}
use Rattle.terms.specs.declared.htlcs.Htlc.{Htlc}
use Rattle.claim.specs.declared.parts.Place.{Place}
use Rattle.commit.specs.declared.fees.Direction.{Direction}
use Rattle.commit.specs.declared.fees.Direction.TheVariants.{Offered, Received}
use Rattle.commit.specs.declared.outputs.OutputKind.{OutputKind}
use Rattle.commit.specs.declared.outputs.OutputKind.TheVariants.{ToLocal, ToRemote, ToHtlc}
use Rattle.commit.specs.declared.outputs.CommitmentOutput.{CommitmentOutput}
use Rattle.commit.specs.declared.outputs.HtlcOutput.{HtlcOutput}
use Rattle.commit.specs.Amounts.{amounts_of}
use Rattle.commit.specs.Fees.{satoshis_of}
use Rattle.commit.specs.Keys.{keys_of}
use Rattle.commit.specs.Outputs.{to_local_script}
use Rattle.commit.specs.Building.{refusal_of}
use Rattle.commit.specs.Commitments.{Contents, commitment_of, tx_output, transaction_of, id_of, htlcs_from, htlcs_of, htlc_at, htlc_tx_of, lock_time_of, IsOutputOf, IsHtlcOf}
use Rattle.commit.proofs.Collected.{short_script_program, each_output, few_outputs}
use Rattle.commit.proofs.Shared.{shared}
use Rattle.penalty.specs.declared.states.RevokedState.{RevokedState}
use Rattle.penalty.specs.Outputs.{IsOutput, HasHeight}
use Rattle.penalty.specs.Claimable.{Claimable, place_in, htlc_form, penalty_on, htlc_penalty_on, payment_on, second_stage_penalty, claims_on, claims_by, claims_from, commitment_in, claimable_of}
use Rattle.penalty.proofs.Programs.{same_htlc}
use Rattle.safety.specs.Signing.{Signed, IsSignable}
use Rattle.safety.specs.Fates.{htlc_signed}
use Rattle.safety.proofs.Spelt.{to_local_ops, key_hash_ops, offered_ops, received_ops}
use Rattle.safety.proofs.Claimed.{AreKeys, keys_in, outputs_in}
use Rattle.safety.proofs.Signing.{limits_fit}

-- what is read as opcodes is no longer than a script
none_some : {X : Type 0} (x : X) → None ≡ Some x → ⊥
none_some x e = cc

pub no_longer : (bytes : List ℕ) (ops : List Op) → script_ops bytes ≡ Some ops → length bytes ≤ MAX_SCRIPT_SIZE
unfolding script_ops
no_longer bytes ops e = by (nat_le (length bytes) MAX_SCRIPT_SIZE) refl e
  where
    by : (b : Bool) → nat_le (length bytes) MAX_SCRIPT_SIZE ≡ b → (if b then ops_within (length bytes) bytes else None) ≡ Some ops → length bytes ≤ MAX_SCRIPT_SIZE
    by true f g = leb-true (length bytes) MAX_SCRIPT_SIZE f
    by false f g = absurd (none_some ops g)

pub htlc_short : (c : Contents) (direction : Direction) (h : Htlc) → AreKeys c.keys → h.expiry_height < 2 ^ 32 → length (spelling (htlc_form c.keys direction h).ops) ≤ MAX_SCRIPT_SIZE
htlc_short c Offered h k l = no_longer _ _ (offered_ops (hash160 c.keys.revocation) c.keys.remote_htlc c.keys.local_htlc (ripemd160 h.hash) (length-ripemd160 _) (length-ripemd160 _) k.remote_htlc k.local_htlc)
htlc_short c Received h k l =
    no_longer _ _ (received_ops (hash160 c.keys.revocation) c.keys.remote_htlc c.keys.local_htlc (ripemd160 h.hash) h.expiry_height l (length-ripemd160 _) (length-ripemd160 _) k.remote_htlc k.local_htlc)

-- ---- what can be claimed

-- its script has at most 10,000 bytes, and its value is at most MAX_VALUE
pub record IsPlain (o : Claimable) : Type 0 where
  pub short : length (spelling o.form.ops) ≤ MAX_SCRIPT_SIZE
  pub low : o.place.value ≤ MAX_VALUE

on_to_local : (c : Contents) (place : Place) → c.delay_blocks < 2 ^ 16 → AreKeys c.keys → place.value ≤ MAX_VALUE → IsPlain (penalty_on c place)
on_to_local c place l k v = record { short = no_longer _ _ (to_local_ops c.keys.revocation c.delay_blocks c.keys.delayed l k.revocation k.delayed); low = v }

on_output : (c : Contents) (index : ℕ) (place : Place) (kind : OutputKind) (o : CommitmentOutput) → c.delay_blocks < 2 ^ 16 → AreKeys c.keys → HasHeight kind → IsHtlcOf c.keys o kind → place.value ≡ o.value → o.value ≤ MAX_VALUE → All IsPlain (claims_on c index place kind)
on_output c index place ToLocal o l k h s e v = All-cons IsPlain (penalty_on c place) [] (on_to_local c place l k (omega (arith, e, v))) (All-nil IsPlain)
on_output c index place ToRemote o l k h s e v =
    All-cons IsPlain (payment_on c place) [] (record { short = no_longer _ _ (key_hash_ops (hash160 c.keys.remote) (length-ripemd160 _)); low = omega (arith, e, v) }) (All-nil IsPlain)
on_output c index place (ToHtlc direction htlc) o l k h s e v =
    let z = s.0 in
    All-cons IsPlain (htlc_penalty_on c direction htlc place) (second_stage_penalty c (record { index = index; direction = direction; htlc = htlc }) ∷ [])
    (record { short = htlc_short c direction htlc k (omega (arith, h)); low = omega (arith, e, v) })
    (All-cons IsPlain (second_stage_penalty c (record { index = index; direction = direction; htlc = htlc })) []
    (on_to_local c _ l k (omega (arith, v, z))) (All-nil IsPlain))

from_here : (c : Contents) (index : ℕ) (os : List CommitmentOutput) → c.delay_blocks < 2 ^ 16 → AreKeys c.keys → All (λ o. IsOutput c.delay_blocks c.keys o) os → All (λ o. IsOutputOf c.keys o) os → All IsPlain (claims_from c index os)
unfolding claims_by
from_here c index [] l k a b = All-nil IsPlain
from_here c index (o ∷ os) l k a b =
    let first : IsOutput c.delay_blocks c.keys o = All-head (λ o. IsOutput c.delay_blocks c.keys o) o os a in
    let limits : IsOutputOf c.keys o = All-head (λ o. IsOutputOf c.keys o) o os b in
    All-append IsPlain (claims_on c index (place_in (transaction_of c) index (tx_output o)) o.kind) (claims_from c (index + 1) os)
    (on_output c index (place_in (transaction_of c) index (tx_output o)) o.kind o l k first.height limits.htlc refl limits.limits.value)
    (from_here c (index + 1) os l k (All-tail (λ o. IsOutput c.delay_blocks c.keys o) o os a) (All-tail (λ o. IsOutputOf c.keys o) o os b))

not_refused : (state : RevokedState) → refusal_of (commitment_in state).outputs ≡ None
not_refused state = shared state.terms state.view state.owner state.number (point_of state.secret) state.whole state.few

pub limited : (state : RevokedState) → All (λ o. IsOutputOf (commitment_in state).keys o) (commitment_in state).outputs
unfolding commitment_of
limited state =
    each_output (party state.owner state.terms).delay_blocks (keys_of state.terms state.owner (point_of state.secret)) (amounts_of state.terms state.view state.owner) (not_refused state)

pub is_plain : (state : RevokedState) → (commitment_in state).delay_blocks < 2 ^ 16 → (o : Claimable) → Contains (claimable_of state) o → IsPlain o
unfolding claimable_of
is_plain state l o i =
    All-contains IsPlain (claims_from (commitment_in state) 0 (commitment_in state).outputs) o
    (from_here (commitment_in state) 0 (commitment_in state).outputs l (keys_in state) (outputs_in state) (limited state)) i

-- ---- HTLC transactions

pub id_length : (c : Contents) → length (id_of c) ≡ 32
unfolding transaction_id
id_length c = length-sha256 _

low_lock : (direction : Direction) (h : Htlc) → h.expiry_height < 2 ^ 32 → lock_time_of direction h < 2 ^ 32
low_lock Offered h l = l
low_lock Received h l = omega arith

second_limits : (c : Contents) (h : HtlcOutput) → h.index < 2 ^ 32 → h.htlc.expiry_height < 2 ^ 32 → satoshis_of h.htlc.amount_msat ≤ MAX_VALUE → KeepsLimits (htlc_tx_of c h)
unfolding htlc_tx_of
second_limits c h i l v = record {
  version = omega arith;
  some_input = omega arith;
  inputs = record { count = omega arith; each = (record { txid = id_length c; index = i; sequence = omega arith; witness = record { count = omega arith; each = tt } }, tt) };
  outputs = record { count = omega arith; each = (record { value = omega (arith, v); script = short_script_program (to_local_script c.delay_blocks c.keys) }, tt) };
  lock_time = low_lock h.direction h.htlc l;
}

pub signable : (c : Contents) (h : HtlcOutput) → AreKeys c.keys → h.index < 2 ^ 32 → h.htlc.expiry_height < 2 ^ 32 → satoshis_of h.htlc.amount_msat ≤ MAX_VALUE → IsSignable (htlc_signed c h)
signable c h k i l v = record {
  transaction = limits_fit (htlc_tx_of c h) (second_limits c h i l v);
  input = record { txid = id_length c; index = i; sequence = omega arith; witness = record { count = omega arith; each = tt } };
  code = let s = htlc_short c h.direction h.htlc k l in let e = ap length (same_htlc c.keys h.direction h.htlc) in omega (arith, s, e);
  value = omega (arith, v);
}

-- and it keeps the limits
pub record IsLimited (s : Signed) : Type 0 where
  pub signable : IsSignable s
  pub limits : KeepsLimits s.transaction

limited_one : (c : Contents) (h : HtlcOutput) → AreKeys c.keys → h.index < 2 ^ 32 → h.htlc.expiry_height < 2 ^ 32 → satoshis_of h.htlc.amount_msat ≤ MAX_VALUE → IsLimited (htlc_signed c h)
limited_one c h k i l v = record { signable = signable c h k i l v; limits = second_limits c h i l v }

limited_from : (c : Contents) (index : ℕ) (os : List CommitmentOutput) → AreKeys c.keys → index + length os ≤ MAX_OUTPUTS → All (λ o. IsOutput c.delay_blocks c.keys o) os → All (λ o. IsOutputOf c.keys o) os
    → All IsLimited (map (htlc_signed c) (htlcs_from index os))
unfolding htlcs_from
limited_from c index [] k l a b = All-nil IsLimited
limited_from c index (o ∷ os) k l a b =
    let first : IsOutput c.delay_blocks c.keys o = All-head (λ o. IsOutput c.delay_blocks c.keys o) o os a in
    let limits : IsOutputOf c.keys o = All-head (λ o. IsOutputOf c.keys o) o os b in
    by o.kind first.height limits.htlc limits.limits.value
    (limited_from c (index + 1) os k (omega (arith, l)) (All-tail (λ o. IsOutput c.delay_blocks c.keys o) o os a) (All-tail (λ o. IsOutputOf c.keys o) o os b))
  where
    by : (kind : OutputKind) → HasHeight kind → IsHtlcOf c.keys o kind → o.value ≤ MAX_VALUE → All IsLimited (map (htlc_signed c) (htlcs_from (index + 1) os))
        → All IsLimited (map (htlc_signed c) (cons_option (htlc_at index kind) (htlcs_from (index + 1) os)))
    by ToLocal h s v rest = rest
    by ToRemote h s v rest = rest
    by (ToHtlc direction htlc) h s v rest =
        let z = s.0 in
        All-cons IsLimited (htlc_signed c (record { index = index; direction = direction; htlc = htlc })) (map (htlc_signed c) (htlcs_from (index + 1) os))
        (limited_one c (record { index = index; direction = direction; htlc = htlc }) k (omega (arith, l)) (omega (arith, h)) (omega (arith, v, z))) rest

pub few_in : (state : RevokedState) → length (commitment_in state).outputs ≤ MAX_OUTPUTS
few_in state = few_outputs (commitment_in state).outputs (not_refused state)

pub htlcs_limited : (state : RevokedState) → All IsLimited (map (htlc_signed (commitment_in state)) (htlcs_of (commitment_in state)))
htlcs_limited state =
    let few = few_in state in
    limited_from (commitment_in state) 0 (commitment_in state).outputs (keys_in state) (omega (arith, few)) (outputs_in state) (limited state)

all_signable : (xs : List Signed) → All IsLimited xs → All IsSignable xs
all_signable [] a = All-nil IsSignable
all_signable (x ∷ xs) a = let first : IsLimited x = All-head IsLimited x xs a in All-cons IsSignable x xs first.signable (all_signable xs (All-tail IsLimited x xs a))

pub htlcs_signable : (state : RevokedState) → All IsSignable (map (htlc_signed (commitment_in state)) (htlcs_of (commitment_in state)))
htlcs_signable state = all_signable (map (htlc_signed (commitment_in state)) (htlcs_of (commitment_in state))) (htlcs_limited state)
