-- What an unsigned spend is, once no refusal holds.
use Rattle.std.proofs.Common.{◌≡◌, ◌<◌, ℕ, Bool, true, false, List, map, Option, Some, None, sym, ap, subst, ◌∙◌, refl}
use Rattle.std.specs.Prelude.{if◌then◌else◌}
use Rattle.std.specs.List.{list_any}
use Rattle.tx.specs.declared.input.TxIn.{TxIn}
use Rattle.tx.specs.Parts.{Output}
use Rattle.tx.specs.Fields.{Transaction}
use Rattle.claim.specs.Claims.{ClaimParts}
use Rattle.filling.specs.declared.missing.MissingSignature.{MissingSignature}
use Rattle.filling.specs.declared.errors.SpendError.{SpendError}
use Rattle.filling.specs.declared.errors.SpendError.TheVariants.{FixedTransaction, SameOutpoint, OutputsExceed, MeasuredSignature, NoPreimage}
use Rattle.filling.specs.Filling.{open_transaction, filled_input, signed_transaction, filling_of}
use Rattle.filling.specs.Filled.{AllFit, AllRunClean}
use Rattle.filling.specs.Refusals.{has_fixed, share_outpoint, do_exceed, all_slots}
use Rattle.filling.specs.Standing.{AllCanSpend}
use Rattle.filling.specs.Spends.{blank_input, unsigned_spend_of, missing_from, missing_of, is_measured, lacks_preimage, first_spend_refusal, IsUnsignedSpend}
use Rattle.filling.proofs.Standing.{unsigned-open}
use Rattle.filling.proofs.Fitted.{all-fit, all-clean}
use Rattle.filling.proofs.OpenSlots.{have-all}
use Rattle.filling.proofs.Signed.{open-for, signed-spend}

-- no check refuses
pub record NoneHolds (claims : List ClaimParts) (outputs : List Output) (ps : List (List ℕ)) : Type 0 where
  pub open_alone : has_fixed claims ≡ false
  pub apart : share_outpoint claims ≡ false
  pub within : do_exceed claims outputs ≡ false
  pub unmeasured : list_any is_measured claims ≡ false
  pub given : list_any (lacks_preimage ps) claims ≡ false

five : (a b c d e : Bool) → a ≡ false → b ≡ false → c ≡ false → d ≡ false → e ≡ false
    → (if a then Some FixedTransaction else if b then Some SameOutpoint else if c then Some OutputsExceed else if d then Some MeasuredSignature else if e then Some NoPreimage else None) ≡ None
five true b c d e p q r s t = absurd (cc)
five false true c d e p q r s t = absurd (cc)
five false false true d e p q r s t = absurd (cc)
five false false false true e p q r s t = absurd (cc)
five false false false false true p q r s t = absurd (cc)
five false false false false false p q r s t = refl

passed : (claims : List ClaimParts) (outputs : List Output) (ps : List (List ℕ)) → NoneHolds claims outputs ps → first_spend_refusal claims outputs ps ≡ None
passed claims outputs ps n =
    five (has_fixed claims) (share_outpoint claims) (do_exceed claims outputs) (list_any is_measured claims) (list_any (lacks_preimage ps) claims) n.open_alone n.apart n.within n.unmeasured n.given

-- the inputs of the filling fit their claims
fits : (claims : List ClaimParts) (outputs : List Output) (ps : List (List ℕ)) → NoneHolds claims outputs ps → (open_transaction claims outputs).lock_time < 500000000 → AllCanSpend claims → AllFit (filling_of claims outputs ps) claims (filling_of claims outputs ps).inputs
fits claims outputs ps n low can =
    let t = open_transaction claims outputs in
    subst (λ u. AllFit (signed_transaction u ps claims) claims (map (filled_input u ps) claims)) (sym (open-for claims outputs n.open_alone))
    (all-fit t ps claims (unsigned-open claims outputs t n.open_alone refl low) can (have-all ps claims n.given))

the_spend : (claims : List ClaimParts) (outputs : List Output) (ps : List (List ℕ)) → NoneHolds claims outputs ps → (open_transaction claims outputs).lock_time < 500000000 → AllCanSpend claims → IsUnsignedSpend claims outputs ps (unsigned_spend_of claims outputs ps) (missing_of claims outputs)
the_spend claims outputs ps n low can =
    let fit = fits claims outputs ps n low can in
    record {
      passed = passed claims outputs ps n;
      unsigned = refl;
      missing = refl;
      signed = signed-spend claims outputs ps n.open_alone;
      fits = fit;
      clean = all-clean (filling_of claims outputs ps) claims (filling_of claims outputs ps).inputs can fit;
    }

abbrev with_inputs : Transaction → List TxIn → Transaction
with_inputs t inputs = record { version = t.version; inputs = inputs; outputs = t.outputs; lock_time = t.lock_time }

pub spend : (claims : List ClaimParts) (outputs : List Output) (ps : List (List ℕ)) (t tx : Transaction) (inputs : List TxIn) (ms : List MissingSignature) → NoneHolds claims outputs ps → t ≡ open_transaction claims outputs → t.lock_time < 500000000 → ms ≡ missing_from t 0 claims → inputs ≡ map (blank_input ps) claims → AllCanSpend claims → tx ≡ with_inputs t inputs → IsUnsignedSpend claims outputs ps tx ms
spend claims outputs ps t tx inputs ms n e low m i can w =
    let the_tx : tx ≡ unsigned_spend_of claims outputs ps = w ∙ ap (with_inputs t) i ∙ ap (λ u. with_inputs u (map (blank_input ps) claims)) e in
    let the_ms : ms ≡ missing_of claims outputs = m ∙ ap (λ u. missing_from u 0 claims) e in
    subst (λ x. IsUnsignedSpend claims outputs ps x ms) (sym the_tx)
    (subst (IsUnsignedSpend claims outputs ps (unsigned_spend_of claims outputs ps)) (sym the_ms)
    (the_spend claims outputs ps n (subst (λ u. u.lock_time < 500000000) e low) can))
