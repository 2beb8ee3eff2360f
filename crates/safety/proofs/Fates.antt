-- Where outputs can go.
use Rattle.std.proofs.Common.{◌≡◌, ℕ, ◌+◌, ◌<◌, Bool, true, false, List, [], ◌∷◌, map, Some, None, sym, ap, ◌∙◌, refl, subst, inl, inr, ⊎_elim, arith}
use Rattle.std.specs.Prelude.{◌⊎◌, ◌&&◌, ◌||◌, ◌==◌, nat_lt, nat_le}
use Rattle.std.specs.List.{Contains, Any, All, cons_option, list_all}
use Rattle.std.proofs.lemmas.Bool.{false≢true, ltb-true, lt-leb}
use Rattle.std.proofs.lemmas.List.Elements.{All-nil, All-cons, All-append, All-head, All-tail, All-contains}
use Rattle.script.specs.declared.limits.TheConstants.{LOCKTIME_THRESHOLD}
use Rattle.tx.specs.declared.input.OutPoint.{OutPoint}
use Rattle.tx.specs.declared.input.TxIn.{TxIn}
use Rattle.tx.specs.Fields.{Transaction, unsigned_inputs, unsigned_transaction}
use Rattle.tx.specs.Spelling.{transaction_id}
use Rattle.tx.proofs.Witnesses.{same_id}
use Rattle.terms.specs.declared.htlcs.Htlc.{Htlc}
use Rattle.chain.specs.Blocks.{Coin}
use Rattle.chain.specs.Indexing.{marked}
use Rattle.chain.specs.Locks.{is_final}
use Rattle.chain.specs.Checks.{coin_refusal}
use Rattle.claim.specs.declared.parts.Place.{Place}
use Rattle.commit.specs.declared.fees.Direction.{Direction}
use Rattle.commit.specs.declared.fees.Direction.TheVariants.{Offered, Received}
use Rattle.commit.specs.declared.outputs.OutputKind.{OutputKind}
use Rattle.commit.specs.declared.outputs.OutputKind.TheVariants.{ToLocal, ToRemote, ToHtlc}
use Rattle.commit.specs.declared.outputs.CommitmentOutput.{CommitmentOutput}
use Rattle.commit.specs.declared.outputs.HtlcOutput.{HtlcOutput}
use Rattle.commit.specs.Commitments.{Contents, htlcs_of, htlcs_from, htlc_at, lock_time_of, htlc_tx_of, htlc_tx_output}
use Rattle.commit.specs.Signing.{htlc_digest}
use Rattle.penalty.specs.declared.states.RevokedState.{RevokedState}
use Rattle.penalty.specs.Outputs.{IsOutput, HasHeight}
use Rattle.penalty.specs.Claimable.{Claimable, commitment_in, claimable_of}
use Rattle.penalty.specs.Covering.{IsClaimedAt}
use Rattle.penalty.proofs.Covering.{each_second_stage}
use Rattle.penalty.proofs.Second.{transaction_at, first_output}
use Rattle.safety.specs.Signing.{Signed, IsSignable, AreSame}
use Rattle.safety.specs.Spending.{spend_on}
use Rattle.safety.specs.Ways.{by_peer, by_htlc_transaction, by_owner, by_collision}
use Rattle.safety.specs.Taking.{IsTaken}
use Rattle.safety.specs.Fates.{htlc_signed, SignedWithCommitment, signed_by_peer, IsClaimableAgain, Ending, Fate, NothingEscapes, NothingEscapesOnChains}
use Rattle.safety.proofs.Lists.{any_append, any_map, got}
use Rattle.safety.proofs.Claimed.{outputs_in}
use Rattle.safety.proofs.Limits.{htlcs_signable}
use Rattle.safety.proofs.OnChain.{passed}
use Rattle.safety.proofs.Passed.{inputs_have_passed}
use Rattle.safety.proofs.Taking.{only_as_signed}

pub signed_with_commitment : SignedWithCommitment
unfolding htlc_digest
signed_with_commitment c h = refl

-- ---- the lock time of an HTLC transaction

-- an HTLC expires at a height
abbrev ExpiresLow : HtlcOutput → Type 0
ExpiresLow h = h.htlc.expiry_height < LOCKTIME_THRESHOLD

expire_low : (c : Contents) (index : ℕ) (os : List CommitmentOutput) → All (λ o. IsOutput c.delay_blocks c.keys o) os → All ExpiresLow (htlcs_from index os)
unfolding htlcs_from
expire_low c index [] a = All-nil ExpiresLow
expire_low c index (o ∷ os) a =
    let first : IsOutput c.delay_blocks c.keys o = All-head (λ o. IsOutput c.delay_blocks c.keys o) o os a in
    by o.kind first.height (expire_low c (index + 1) os (All-tail (λ o. IsOutput c.delay_blocks c.keys o) o os a))
  where
    by : (kind : OutputKind) → HasHeight kind → All ExpiresLow (htlcs_from (index + 1) os) → All ExpiresLow (cons_option (htlc_at index kind) (htlcs_from (index + 1) os))
    by ToLocal h rest = rest
    by ToRemote h rest = rest
    by (ToHtlc direction htlc) h rest = All-cons ExpiresLow (record { index = index; direction = direction; htlc = htlc }) (htlcs_from (index + 1) os) h rest

low_lock : (direction : Direction) (h : Htlc) → h.expiry_height < LOCKTIME_THRESHOLD → lock_time_of direction h < LOCKTIME_THRESHOLD
low_lock Offered h l = l
low_lock Received h l = omega arith

-- the sequence of the first input
abbrev first_sequence : List TxIn → ℕ
first_sequence [] = 1
first_sequence (i ∷ is) = i.sequence

-- an input of sequence 0 is not final
not_final : (inputs : List TxIn) (o : OutPoint) → unsigned_inputs inputs ≡ record { outpoint = o; sequence = 0; witness = [] } ∷ [] → list_all (λ i. i.sequence == 0xffffffff) inputs ≡ false
not_final [] o e = absurd (omega (arith, ap first_sequence e))
not_final (i ∷ is) o e = let s : i.sequence ≡ 0 = ap first_sequence e in rw s refl

-- a lock time that is a height is below the block's
lock_reached : (height lock_time : ℕ) (inputs : List TxIn) → lock_time < LOCKTIME_THRESHOLD → list_all (λ i. i.sequence == 0xffffffff) inputs ≡ false → is_final height lock_time inputs ≡ true → lock_time < height
lock_reached height lock_time inputs l f e =
    ltb-true lock_time height
    (by (nat_lt lock_time LOCKTIME_THRESHOLD) (nat_lt lock_time height) (nat_le LOCKTIME_THRESHOLD lock_time) (nat_le lock_time 0x20ffffff) (list_all (λ i. i.sequence == 0xffffffff) inputs)
    (lt-leb LOCKTIME_THRESHOLD lock_time l) f e)
  where
    by : (a b c d g : Bool) → c ≡ false → g ≡ false → ((a && b) || (c && d) || g) ≡ true → b ≡ true
    by a b true d g h i e = absurd (false≢true (sym h))
    by a b false d true h i e = absurd (false≢true (sym i))
    by true true false d false h i e = refl
    by true false false d false h i e = absurd (false≢true e)
    by false b false d false h i e = absurd (false≢true e)

-- ---- an HTLC transaction

pub bare_second : (c : Contents) (h : HtlcOutput) → unsigned_transaction (htlc_tx_of c h) ≡ htlc_tx_of c h
unfolding htlc_tx_of
bare_second c h = refl

second_outputs : (c : Contents) (h : HtlcOutput) → (htlc_tx_of c h).outputs ≡ htlc_tx_output c h ∷ []
unfolding htlc_tx_of
second_outputs c h = refl

second_final : (c : Contents) (h : HtlcOutput) (t : Transaction) → h.htlc.expiry_height < LOCKTIME_THRESHOLD → unsigned_transaction t ≡ htlc_tx_of c h → (height : ℕ) → is_final height t.lock_time t.inputs ≡ true
    → lock_time_of h.direction h.htlc < height
unfolding htlc_tx_of
second_final c h t l e height final =
    let lock : t.lock_time ≡ lock_time_of h.direction h.htlc = ap (λ (u : Transaction). u.lock_time) e in
    let low = low_lock h.direction h.htlc l in
    let reached = lock_reached height t.lock_time t.inputs (omega (arith, lock, low)) (not_final t.inputs _ (ap (λ (u : Transaction). u.inputs) e)) final in
    omega (arith, lock, reached)

pub is_htlc_transaction : (state : RevokedState) (o : Claimable) (height : ℕ) (t : Transaction) (input : TxIn) (h : HtlcOutput) → Contains (htlcs_of (commitment_in state)) h
    → AreSame (spend_on o t input) (htlc_signed (commitment_in state) h) → is_final height t.lock_time t.inputs ≡ true → IsClaimableAgain state height t input
is_htlc_transaction state o height t input h (k, l, i) s final =
    let c = commitment_in state in
    let out = htlc_tx_output c h in
    let e : unsigned_transaction t ≡ htlc_tx_of c h = s.transaction ∙ bare_second c h in
    let low = All-contains ExpiresLow (htlcs_of c) h (expire_low c 0 c.outputs (outputs_in state)) (k, l, i) in
    let id : transaction_id (htlc_tx_of c h) ≡ transaction_id t = sym (same_id t (htlc_tx_of c h) s.transaction) in
    let claimed = each_second_stage state k (htlc_tx_of c h) out (transaction_at c k h (got (htlcs_of c) h k l i)) (first_output c h (htlc_tx_of c h) refl) in
    record {
      is = record { htlc = h; among = (k, l, i); at = ap (λ (x : TxIn). x.outpoint) s.input; same = e; reached = second_final c h t low e height final };
      output = out;
      alone = ap (λ (u : Transaction). u.outputs) e ∙ second_outputs c h;
      again = subst (λ (p : Place). IsClaimedAt (claimable_of state) p) (ap (λ (x : List ℕ). record { outpoint = record { txid = x; index = 0 }; value = out.value; program = out.script }) id) claimed;
    }

-- ---- each fate

-- the input is as the peer signed it with the commitment, for an HTLC
pub record IsForHtlc (c : Contents) (o : Claimable) (t : Transaction) (input : TxIn) : Type 0 where
  pub htlc : HtlcOutput
  pub among : Contains (htlcs_of c) htlc
  pub same : AreSame (spend_on o t input) (htlc_signed c htlc)

-- it is so, or it takes the output for good
pub taken_so : (state : RevokedState) (o : Claimable) (since height : ℕ) (t : Transaction) (input : TxIn) (own : List Signed)
    → IsTaken state o since height t input (signed_by_peer (commitment_in state) own) → IsForHtlc (commitment_in state) o t input ⊎ Ending state o since height t input own
taken_so state o since height t input own (by_htlc_transaction never) = absurd never
taken_so state o since height t input own (by_owner b) = inr (by_owner b)
taken_so state o since height t input own (by_collision z) = inr (by_collision z)
taken_so state o since height t input own (by_peer a) =
    ⊎_elim of_htlc (λ (b : Any (AreSame (spend_on o t input)) own). inr (by_peer b)) (any_append (AreSame (spend_on o t input)) (map (htlc_signed (commitment_in state)) (htlcs_of (commitment_in state))) own a)
  where
    of_htlc : Any (AreSame (spend_on o t input)) (map (htlc_signed (commitment_in state)) (htlcs_of (commitment_in state))) → IsForHtlc (commitment_in state) o t input ⊎ Ending state o since height t input own
    of_htlc b =
        let r = any_map (AreSame (spend_on o t input)) (htlc_signed (commitment_in state)) (htlcs_of (commitment_in state)) b in
        inl (record { htlc = r.0; among = r.1; same = r.2 })

for_good : (state : RevokedState) (o : Claimable) (since height : ℕ) (t : Transaction) (input : TxIn) (own : List Signed) → Ending state o since height t input own → Fate state o since height t input own
for_good state o since height t input own (by_peer a) = by_peer a
for_good state o since height t input own (by_htlc_transaction never) = absurd never
for_good state o since height t input own (by_owner b) = by_owner b
for_good state o since height t input own (by_collision z) = by_collision z

fated : (state : RevokedState) (o : Claimable) (since height : ℕ) (t : Transaction) (input : TxIn) (own : List Signed) → is_final height t.lock_time t.inputs ≡ true
    → IsTaken state o since height t input (signed_by_peer (commitment_in state) own) → Fate state o since height t input own
fated state o since height t input own final taken =
    ⊎_elim (λ (h : IsForHtlc (commitment_in state) o t input). by_htlc_transaction (is_htlc_transaction state o height t input h.htlc h.among h.same final)) (for_good state o since height t input own)
    (taken_so state o since height t input own taken)

pub nothing_escapes : NothingEscapes
nothing_escapes state o height t input coin k own all w =
    fated state o coin.height height t input own (passed height t input coin k.passes).final
    (only_as_signed state o height t input coin k (signed_by_peer (commitment_in state) own)
    (All-append IsSignable (map (htlc_signed (commitment_in state)) (htlcs_of (commitment_in state))) own (htlcs_signable state) all) w)

-- ---- on a chain

coin_is : {X : Type 0} (x y : X) → Some x ≡ Some y → x ≡ y
coin_is x y e = cc

pub nothing_escapes_on_chains : NothingEscapesOnChains
nothing_escapes_on_chains state o among blocks tested height t stands input i coin at output =
    let p = inputs_have_passed blocks tested height t stands input i in
    let same = coin_is p.0 coin (sym p.1 ∙ at) in
    nothing_escapes state o height t input (record { output = coin.output; height = coin.height; spent = false })
    (record { claimable = among; output = output; passes = subst (λ (x : Coin). coin_refusal height t input (Some (marked false x)) ≡ None) same p.2 })
