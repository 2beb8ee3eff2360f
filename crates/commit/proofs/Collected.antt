-- What holds of each output of a commitment.
use Rattle.std.proofs.Common.{◌≡◌, ℕ, ◌≤◌, Bool, true, false, cond, ltb, List, [], ◌∷◌, map, length, Option, Some, None, refl, arith}
use Rattle.std.specs.List.{All, list_any}
use Rattle.std.specs.Prelude.{◌||◌}
use Rattle.std.proofs.lemmas.Bool.{ltb-false, true≢false}
use Rattle.std.proofs.lemmas.List.Elements.{All-nil, All-cons, All-append}
use Rattle.std.proofs.lemmas.List.Sorted.{All-permutation}
use Rattle.sha2.specs.Sha256.{sha256}
use Rattle.sha2.proofs.Facts256.{length-sha256}
use Rattle.digest.specs.Hash.{hash160}
use Rattle.digest.proofs.OutsideVectors.{length-ripemd160}
use Rattle.tx.specs.declared.limits.TheConstants.{MAX_VALUE, MAX_OUTPUTS, MAX_BYTES}
use Rattle.terms.specs.declared.htlcs.Htlc.{Htlc}
use Rattle.commit.specs.declared.fees.Direction.{Direction}
use Rattle.commit.specs.declared.fees.Direction.TheVariants.{Offered, Received}
use Rattle.commit.specs.declared.amounts.Amounts.{Amounts}
use Rattle.commit.specs.declared.outputs.CommitmentOutput.{CommitmentOutput}
use Rattle.commit.specs.declared.errors.BuildError.TheVariants.{TooManyOutputs, ValueTooLarge}
use Rattle.commit.specs.Keys.{KeyBytes}
use Rattle.sighash.specs.Programs.{script_hash_program, key_hash_program}
use Rattle.commit.specs.Outputs.{to_local_script, htlc_script, to_local_output, to_remote_output, htlc_output, where_paid, outputs_of}
use Rattle.commit.specs.Order.{in_order}
use Rattle.commit.specs.Commitments.{IsHtlcOf, IsOutputOf}
use Rattle.commit.specs.Building.{refusal_of}
use Rattle.commit.proofs.Ordered.{there_is_one}

pub record IsCollected (k : KeyBytes) (o : CommitmentOutput) : Type 0 where
  pub program : length o.program ≤ MAX_BYTES
  pub htlc : IsHtlcOf k o o.kind

pub short_script_program : (script : List ℕ) → length (script_hash_program script) ≤ MAX_BYTES
unfolding script_hash_program
short_script_program script = let l : length (sha256 script) ≡ 32 = length-sha256 script in omega arith

short_key_program : (key : List ℕ) → length (key_hash_program key) ≤ MAX_BYTES
unfolding key_hash_program
short_key_program key = let l : length (hash160 key) ≡ 20 = length-ripemd160 _ in omega arith

of_htlc : (k : KeyBytes) (direction : Direction) (h : Htlc) → IsCollected k (htlc_output k direction h)
of_htlc k direction h = record { program = short_script_program (htlc_script k direction h); htlc = (refl, refl) }

of_htlcs : (k : KeyBytes) (direction : Direction) (hs : List Htlc) → All (IsCollected k) (map (htlc_output k direction) hs)
of_htlcs k direction [] = All-nil (IsCollected k)
of_htlcs k direction (h ∷ hs) = All-cons (IsCollected k) _ _ (of_htlc k direction h) (of_htlcs k direction hs)

of_to_local : (delay_blocks : ℕ) (k : KeyBytes) (value : Option ℕ) → All (IsCollected k) (where_paid (to_local_output delay_blocks k) value)
of_to_local delay_blocks k None = All-nil (IsCollected k)
of_to_local delay_blocks k (Some value) = All-cons (IsCollected k) (to_local_output delay_blocks k value) [] (record { program = short_script_program (to_local_script delay_blocks k); htlc = tt }) (All-nil (IsCollected k))

of_to_remote : (k : KeyBytes) (value : Option ℕ) → All (IsCollected k) (where_paid (to_remote_output k) value)
of_to_remote k None = All-nil (IsCollected k)
of_to_remote k (Some value) = All-cons (IsCollected k) (to_remote_output k value) [] (record { program = short_key_program k.remote; htlc = tt }) (All-nil (IsCollected k))

all_collected : (delay_blocks : ℕ) (k : KeyBytes) (a : Amounts) → All (IsCollected k) (outputs_of delay_blocks k a)
unfolding outputs_of
all_collected delay_blocks k a =
    All-append (IsCollected k) _ _
    (All-append (IsCollected k) _ _
    (All-append (IsCollected k) _ _ (of_htlcs k Offered a.offered) (of_htlcs k Received a.received))
    (of_to_local delay_blocks k a.to_local)) (of_to_remote k a.to_remote)

in_order_too : (delay_blocks : ℕ) (k : KeyBytes) (a : Amounts) → All (IsCollected k) (in_order (outputs_of delay_blocks k a))
in_order_too delay_blocks k a = All-permutation (IsCollected k) _ _ (there_is_one (outputs_of delay_blocks k a)).0.same (all_collected delay_blocks k a)

-- if nothing is refused, everything is within its limits
some_none : {A : Type 0} (x : A) → Some x ≡ None → ⊥
some_none x e = cc

low : (os : List CommitmentOutput) → list_any (λ o. ltb MAX_VALUE o.value) os ≡ false → All (λ o. o.value ≤ MAX_VALUE) os
low [] e = All-nil (λ (o : CommitmentOutput). o.value ≤ MAX_VALUE)
low (o ∷ os) e = All-cons (λ (o : CommitmentOutput). o.value ≤ MAX_VALUE) _ _ (ltb-false MAX_VALUE o.value (neither (ltb MAX_VALUE o.value) _ e).0) (low os (neither (ltb MAX_VALUE o.value) _ e).1)
  where
    neither : (a b : Bool) → (a || b) ≡ false → (a ≡ false) × (b ≡ false)
    neither true b e = absurd (true≢false e)
    neither false b e = (refl, e)

-- the two checks pass
passed : (few low : Bool) → cond few (Some TooManyOutputs) (cond low (Some ValueTooLarge) None) ≡ None → (few ≡ false) × (low ≡ false)
passed true low e = absurd (some_none TooManyOutputs e)
passed false true e = absurd (some_none ValueTooLarge e)
passed false false e = (refl, refl)

pub few_outputs : (os : List CommitmentOutput) → refusal_of os ≡ None → length os ≤ MAX_OUTPUTS
unfolding refusal_of
few_outputs os e = ltb-false MAX_OUTPUTS (length os) (passed (ltb MAX_OUTPUTS (length os)) (list_any (λ o. ltb MAX_VALUE o.value) os) e).0

low_values : (os : List CommitmentOutput) → refusal_of os ≡ None → All (λ o. o.value ≤ MAX_VALUE) os
unfolding refusal_of
low_values os e = low os (passed (ltb MAX_OUTPUTS (length os)) (list_any (λ o. ltb MAX_VALUE o.value) os) e).1

pub each_output : (delay_blocks : ℕ) (k : KeyBytes) (a : Amounts) → refusal_of (in_order (outputs_of delay_blocks k a)) ≡ None → All (λ o. IsOutputOf k o) (in_order (outputs_of delay_blocks k a))
each_output delay_blocks k a e i d l =
    let c = in_order_too delay_blocks k a i d l in
    record { limits = record { value = low_values (in_order (outputs_of delay_blocks k a)) e i d l; program = c.program }; htlc = c.htlc }
