-- The transactions of a commitment keep the limits, and carry its number.
use Rattle.std.proofs.Common.{◌≡◌, ℕ, ◌+◌, ◌*◌, ◌/◌, ◌%◌, ◌^◌, ◌<◌, ◌≤◌, List, [], ◌∷◌, map, length, None, sym, ap, ◌∙◌, subst, bit_xor, arith}
use Rattle.std.specs.List.{All, AllByRecursion, Contains}
use Rattle.std.proofs.lemmas.List.{length-map}
use Rattle.std.proofs.lemmas.List.Elements.{All-head, All-tail, All-contains}
use Rattle.std.proofs.lemmas.Option.{same_Some, slice_get_within}
use Rattle.sha2.specs.Sha256.{sha256, digest_bytes, final_hash, initial_hash_256}
use Rattle.script.specs.declared.limits.TheConstants.{LOCKTIME_THRESHOLD}
use Rattle.tx.specs.declared.input.TxIn.{TxIn}
use Rattle.tx.specs.declared.limits.TheConstants.{MAX_VALUE, MAX_OUTPUTS}
use Rattle.tx.specs.Parts.{IsOutput as IsTxOutputWithin}
use Rattle.tx.specs.Fields.{Transaction, AreOutputs, KeepsLimits}
use Rattle.terms.specs.Agreement.{party}
use Rattle.terms.specs.Numbers.{low_48_bits, mask_of, obscured, revealed}
use Rattle.terms.proofs.Revealing.{numbers_come_back}
use Rattle.terms.specs.declared.agreement.Terms.{Terms}
use Rattle.terms.specs.declared.htlcs.Htlc.{Htlc}
use Rattle.commit.specs.declared.fees.Direction.{Direction}
use Rattle.commit.specs.declared.fees.Direction.TheVariants.{Offered, Received}
use Rattle.commit.specs.declared.outputs.OutputKind.TheVariants.{ToHtlc}
use Rattle.commit.specs.declared.outputs.CommitmentOutput.{CommitmentOutput}
use Rattle.commit.specs.declared.outputs.HtlcOutput.{HtlcOutput}
use Rattle.commit.specs.Amounts.{amounts_of}
use Rattle.commit.specs.Building.{refusal_of}
use Rattle.commit.specs.Fees.{satoshis_of}
use Rattle.commit.specs.Keys.{KeyBytes, keys_of}
use Rattle.commit.specs.Outputs.{to_local_script}
use Rattle.commit.specs.Commitments.{Contents, commitment_of, tx_output, transaction_of, htlcs_of, htlc_tx_of, lock_time_of, IsHtlcOf, IsOutputOf}
use Rattle.commit.proofs.Collected.{short_script_program, each_output, few_outputs}
use Rattle.commit.proofs.Shared.{shared}
use Rattle.penalty.specs.Outputs.{IsOutput, HasHeight}
use Rattle.penalty.specs.Paying.{CanPay}
use Rattle.penalty.proofs.Standing.{outputs_stand}
use Rattle.channel.specs.declared.commitments.CommitmentState.{CommitmentState}
use Rattle.channel.specs.Tokens.{contents_of}
use Rattle.safety.proofs.Limits.{id_length}
use Rattle.safety.proofs.Lists.{contained}
use Rattle.safety.proofs.Indices.{htlc_in}
use Rattle.safety.specs.Recorded.{IsOutPoint, IsPayable, of_commitment, of_htlc, RecordedLimits, SameNumber}

-- ---- the commitment transaction

outputs_each : (k : KeyBytes) (os : List CommitmentOutput) → All (λ o. IsOutputOf k o) os → AllByRecursion IsTxOutputWithin (map tx_output os)
outputs_each k [] a = tt
outputs_each k (o ∷ os) a =
    let first : IsOutputOf k o = All-head (λ o. IsOutputOf k o) o os a in
    (record { value = first.limits.value; script = first.limits.program }, outputs_each k os (All-tail (λ o. IsOutputOf k o) o os a))

outputs_within : (k : KeyBytes) (os : List CommitmentOutput) → length os ≤ MAX_OUTPUTS → All (λ o. IsOutputOf k o) os → AreOutputs (map tx_output os)
outputs_within k os l a = let n = length-map os tx_output in record { count = omega (arith, l, n); each = outputs_each k os a }

keeps : (c : Contents) → IsOutPoint c.funding → c.hidden.sequence < 2 ^ 32 → c.hidden.lock_time < 2 ^ 32 → length c.outputs ≤ MAX_OUTPUTS → All (λ o. IsOutputOf c.keys o) c.outputs
    → KeepsLimits (transaction_of c)
unfolding transaction_of
keeps c f s t l a = record {
  version = omega arith;
  some_input = omega arith;
  inputs = record { count = omega arith; each = (record { txid = f.txid; index = f.index; sequence = s; witness = record { count = omega arith; each = tt } }, tt) };
  outputs = outputs_within c.keys c.outputs l a;
  lock_time = t;
}

low_sequence : (hidden : ℕ) → 0x80 * 2 ^ 24 + hidden / 2 ^ 24 % 2 ^ 24 < 2 ^ 32
low_sequence hidden = omega arith

low_lock_time : (hidden : ℕ) → 0x20 * 2 ^ 24 + hidden % 2 ^ 24 < 2 ^ 32
low_lock_time hidden = omega arith

hidden_low : (terms : Terms) (k : CommitmentState) → ((contents_of terms k).hidden.sequence < 2 ^ 32) × ((contents_of terms k).hidden.lock_time < 2 ^ 32)
unfolding commitment_of
hidden_low terms k = (low_sequence (bit_xor k.number (mask_of terms)), low_lock_time (bit_xor k.number (mask_of terms)))

spends_funding : (terms : Terms) (k : CommitmentState) → IsOutPoint terms.funding → IsOutPoint (contents_of terms k).funding
unfolding commitment_of
spends_funding terms k f = f

not_refused : (terms : Terms) (k : CommitmentState) → CanPay terms k.view → refusal_of (contents_of terms k).outputs ≡ None
not_refused terms k p = shared terms k.view k.owner k.number k.point.bytes p.whole p.few

pub few_in : (terms : Terms) (k : CommitmentState) → CanPay terms k.view → length (contents_of terms k).outputs ≤ MAX_OUTPUTS
few_in terms k p = few_outputs (contents_of terms k).outputs (not_refused terms k p)

pub limited : (terms : Terms) (k : CommitmentState) → CanPay terms k.view → All (λ o. IsOutputOf (contents_of terms k).keys o) (contents_of terms k).outputs
unfolding commitment_of
limited terms k p = each_output (party k.owner terms).delay_blocks (keys_of terms k.owner k.point.bytes) (amounts_of terms k.view k.owner) (not_refused terms k p)

commitment_limits : (terms : Terms) (k : CommitmentState) → IsPayable terms k → KeepsLimits (transaction_of (contents_of terms k))
commitment_limits terms k p =
    let low = hidden_low terms k in
    keeps (contents_of terms k) (spends_funding terms k p.funding) low.0 low.1 (few_in terms k p.view) (limited terms k p.view)

-- ---- the HTLC transactions

low_lock : (direction : Direction) (h : Htlc) → h.expiry_height < 2 ^ 32 → lock_time_of direction h < 2 ^ 32
low_lock Offered h l = l
low_lock Received h l = omega arith

second_keeps : (c : Contents) (h : HtlcOutput) → h.index < 2 ^ 32 → h.htlc.expiry_height < 2 ^ 32 → satoshis_of h.htlc.amount_msat ≤ MAX_VALUE → KeepsLimits (htlc_tx_of c h)
unfolding htlc_tx_of
second_keeps c h i l v = record {
  version = omega arith;
  some_input = omega arith;
  inputs = record { count = omega arith; each = (record { txid = id_length c; index = i; sequence = omega arith; witness = record { count = omega arith; each = tt } }, tt) };
  outputs = record { count = omega arith; each = (record { value = omega (arith, v); script = short_script_program (to_local_script c.delay_blocks c.keys) }, tt) };
  lock_time = low_lock h.direction h.htlc l;
}

-- an HTLC of a commitment is one of its outputs, with the limits of that
pub record IsLimitedHtlc (h : HtlcOutput) : Type 0 where
  pub index : h.index < MAX_OUTPUTS
  pub height : h.htlc.expiry_height < LOCKTIME_THRESHOLD
  pub value : satoshis_of h.htlc.amount_msat ≤ MAX_VALUE

pub limited_htlc : (terms : Terms) (k : CommitmentState) → CanPay terms k.view → (h : HtlcOutput) → Contains (htlcs_of (contents_of terms k)) h → IsLimitedHtlc h
limited_htlc terms k p h i =
    let c = contents_of terms k in
    let at = htlc_in 0 c.outputs h i in
    let within : Contains c.outputs at.output = contained c.outputs at.place at.output at.there in
    let stands : IsOutput c.delay_blocks c.keys at.output = All-contains (λ o. IsOutput c.delay_blocks c.keys o) c.outputs at.output (outputs_stand terms k.view k.owner k.number k.point.bytes p).each within in
    let height : HasHeight (ToHtlc h.direction h.htlc) = subst HasHeight at.kind stands.height in
    let limits : IsOutputOf c.keys at.output = All-contains (λ o. IsOutputOf c.keys o) c.outputs at.output (limited terms k p) within in
    let value : IsHtlcOf c.keys at.output (ToHtlc h.direction h.htlc) = subst (λ kind. IsHtlcOf c.keys at.output kind) at.kind limits.htlc in
    let same = value.0 in
    let low = limits.limits.value in
    let few = few_in terms k p in
    let place = slice_get_within c.outputs at.place at.output at.there in
    let index = at.at in
    record { index = omega (arith, few, place, index); height = height; value = omega (arith, same, low) }

htlc_limits : (terms : Terms) (k : CommitmentState) → CanPay terms k.view → (h : HtlcOutput) → Contains (htlcs_of (contents_of terms k)) h → KeepsLimits (htlc_tx_of (contents_of terms k) h)
htlc_limits terms k p h i =
    let l = limited_htlc terms k p h i in
    let index = l.index in
    let height = l.height in
    second_keeps (contents_of terms k) h (omega (arith, index)) (omega (arith, height)) l.value

pub recorded_limits : RecordedLimits
recorded_limits terms k p t (of_commitment e) = subst KeepsLimits (sym e) (commitment_limits terms k p)
recorded_limits terms k p t (of_htlc h i e) = subst KeepsLimits (sym e) (htlc_limits terms k p.view h i)

-- ---- the number

-- a mask has 48 bits
low_of_words : (words : List ℕ) → low_48_bits (digest_bytes words 8) < 2 ^ 48
unfolding digest_bytes
low_of_words words = omega arith

low_of_hash : (message : List ℕ) → low_48_bits (sha256 message) < 2 ^ 48
unfolding sha256
low_of_hash message = low_of_words (final_hash initial_hash_256 message)

mask_is_low : (terms : Terms) → mask_of terms < 2 ^ 48
unfolding mask_of
mask_is_low terms = low_of_hash _

abbrev first_sequence : List TxIn → ℕ
first_sequence [] = 0
first_sequence (i ∷ is) = i.sequence

-- the fields that carry the number are those of the transaction
same_fields : (terms : Terms) (k m : CommitmentState) → transaction_of (contents_of terms k) ≡ transaction_of (contents_of terms m)
    → ((obscured (mask_of terms) k.number).lock_time ≡ (obscured (mask_of terms) m.number).lock_time) × ((obscured (mask_of terms) k.number).sequence ≡ (obscured (mask_of terms) m.number).sequence)
unfolding transaction_of commitment_of
same_fields terms k m e = (ap (λ (t : Transaction). t.lock_time) e, ap (λ (t : Transaction). first_sequence t.inputs) e)

one_number : (mask n m : ℕ) → mask < 2 ^ 48 → n < 2 ^ 48 → m < 2 ^ 48 → (obscured mask n).lock_time ≡ (obscured mask m).lock_time → (obscured mask n).sequence ≡ (obscured mask m).sequence → n ≡ m
one_number mask n m low l g e f =
    same_Some n m
    (sym (numbers_come_back mask n low l) ∙ ap (λ x. revealed mask x (obscured mask n).sequence) e ∙ ap (λ x. revealed mask (obscured mask m).lock_time x) f ∙ numbers_come_back mask m low g)

pub same_number : SameNumber
same_number terms k m l g e =
    let f = same_fields terms k m e in
    one_number (mask_of terms) k.number m.number (mask_is_low terms) l g f.0 f.1
