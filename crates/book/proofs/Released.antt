-- What a release says of its signer's rights.
use Rattle.std.proofs.Common.{◌≡◌, ◌↔◌, ℕ, if◌then◌else◌, Bool, true, false, List, [], ◌∷◌, Option, Some, None, Result, Ok, Err, refl, sym, ap, ◌∙◌, inl, inr, ◌⊎◌, subst}
use Rattle.std.specs.Prelude.{MatchResult, IfOk}
use Rattle.std.specs.Option.{option_or}
use Rattle.tx.specs.Parts.{Output}
use Rattle.keys.specs.Rights.{Rights, MaySign}
use Rattle.claim.specs.declared.parts.Slot.{Slot}
use Rattle.claim.specs.declared.parts.Slot.TheVariants.{Sig, Preimage, Exact}
use Rattle.claim.specs.Claims.{ClaimParts}
use Rattle.filling.specs.declared.errors.FillError.{FillError}
use Rattle.filling.specs.declared.errors.FillError.TheVariants.{NoMemory, NoRight, NoPreimage, OutputsExceed, MixedShells, SameOutpoint}
use Rattle.filling.specs.Filled.{Filling, IsFillingOf}
use Rattle.filling.specs.Refusals.{are_mixed, share_outpoint, do_exceed, all_slots, IsFirstRefusal}
use Rattle.book.specs.declared.calls.Batch.{Batch}
use Rattle.book.specs.Signers.{may_sign, lack_of, first_lack, fill_refusal}
use Rattle.book.specs.Calling.{IsFillRefusal, filling_by}
use Rattle.book.proofs.Deciding.{rights_are_tested}
use Rattle.book.proofs.Refusing.{refusals_are_found}

equal_tests : (a b : Bool) → (a ≡ true → b ≡ true) → (b ≡ true → a ≡ true) → a ≡ b
equal_tests true b on back = sym (on refl)
equal_tests false true on back = back refl
equal_tests false false on back = refl

-- two signers with the same rights
abbrev AreSame : Rights → Rights → Type 0
AreSame r s = (key : List ℕ) → MaySign r key ↔ MaySign s key

same_test : (r s : Rights) → AreSame r s → (key : List ℕ) → may_sign r key ≡ may_sign s key
same_test r s same key =
    let of_r = rights_are_tested r key in
    let of_s = rights_are_tested s key in
    equal_tests (may_sign r key) (may_sign s key) (λ e. of_s.1 ((same key).0 (of_r.0 e))) (λ e. of_r.1 ((same key).1 (of_s.0 e)))

same_lack : (r s : Rights) → AreSame r s → (preimages : List (List ℕ)) (slot : Slot) → lack_of r preimages slot ≡ lack_of s preimages slot
same_lack r s same preimages (Sig k) = ap (λ b. if b then None else Some NoRight) (same_test r s same k.bytes)
same_lack r s same preimages (Preimage h) = refl
same_lack r s same preimages (Exact b) = refl

same_lacks : (r s : Rights) → AreSame r s → (preimages : List (List ℕ)) (slots : List Slot) → first_lack r preimages slots ≡ first_lack s preimages slots
same_lacks r s same preimages [] = refl
same_lacks r s same preimages (slot ∷ slots) =
    ap (λ e. option_or e (first_lack r preimages slots)) (same_lack r s same preimages slot) ∙ ap (option_or (lack_of s preimages slot)) (same_lacks r s same preimages slots)

same_refusal : (claims : List ClaimParts) (outputs : List Output) (r s : Rights) (preimages : List (List ℕ)) → AreSame r s → fill_refusal claims outputs r preimages ≡ fill_refusal claims outputs s preimages
unfolding fill_refusal
same_refusal claims outputs r s preimages same =
    ap (λ e. if are_mixed claims then Some MixedShells else if share_outpoint claims then Some SameOutpoint else if do_exceed claims outputs then Some OutputsExceed else e)
    (same_lacks r s same preimages (all_slots claims))

named : (first : Option FillError) (e : FillError) → (e ≡ NoMemory) ⊎ (first ≡ Some e) → IsFillRefusal first e
named first NoMemory h = tt
named first NoRight (inr h) = h
named first NoPreimage (inr h) = h
named first OutputsExceed (inr h) = h
named first MixedShells (inr h) = h
named first SameOutpoint (inr h) = h
named first NoRight (inl h) = absurd cc
named first NoPreimage (inl h) = absurd cc
named first OutputsExceed (inl h) = absurd cc
named first MixedShells (inl h) = absurd cc
named first SameOutpoint (inl h) = absurd cc

-- filling with the signer tests the rights that it has
pub tested_by : (b : Batch) (r s : Rights) (given : Result Filling FillError) → AreSame r s → MatchResult given (IsFillingOf b.claims b.outputs r b.preimages) (IsFirstRefusal b.claims b.outputs r b.preimages)
    → MatchResult given (λ f. fill_refusal b.claims b.outputs s b.preimages ≡ None) (IsFillRefusal (fill_refusal b.claims b.outputs s b.preimages))
tested_by b r s (Ok f) same h = sym (same_refusal b.claims b.outputs r s b.preimages same) ∙ refusals_are_found.filled b.claims b.outputs r b.preimages h.passed h.fillable
tested_by b r s (Err e) same h = by (refusals_are_found.refused b.claims b.outputs r b.preimages e h)
  where
    by : (e ≡ NoMemory) ⊎ (fill_refusal b.claims b.outputs r b.preimages ≡ Some e) → IsFillRefusal (fill_refusal b.claims b.outputs s b.preimages) e
    by (inl h) = named _ e (inl h)
    by (inr h) = named _ e (inr (sym (same_refusal b.claims b.outputs r s b.preimages same) ∙ h))

pub filled_by : (b : Batch) (r : Rights) (given : Result Filling FillError) → MatchResult given (IsFillingOf b.claims b.outputs r b.preimages) (IsFirstRefusal b.claims b.outputs r b.preimages)
    → IfOk given (λ f. f ≡ filling_by b)
filled_by b r (Ok f) h = ap (λ t. record { tx = t; places = f.places }) h.tx ∙ ap (λ ps. record { tx = (filling_by b).tx; places = ps }) h.places
filled_by b r (Err e) h = tt

-- and any rights to the same keys
pub filled_as : (b : Batch) (r : Rights) (given : Result Filling FillError) → MatchResult given (IsFillingOf b.claims b.outputs r b.preimages) (IsFirstRefusal b.claims b.outputs r b.preimages) → (s : Rights) → AreSame r s
    → MatchResult given (λ f. (fill_refusal b.claims b.outputs s b.preimages ≡ None) × (f ≡ filling_by b)) (IsFillRefusal (fill_refusal b.claims b.outputs s b.preimages))
filled_as b r (Ok f) h s same = (tested_by b r s (Ok f) same h, filled_by b r (Ok f) h)
filled_as b r (Err e) h s same = tested_by b r s (Err e) same h

-- what is filled is a batch's
pub given_as : (b : Batch) (r : Rights) (given : Result Filling FillError) (claims : List ClaimParts) (outputs : List Output) (preimages : List (List ℕ)) → claims ≡ b.claims → outputs ≡ b.outputs → preimages ≡ b.preimages
    → MatchResult given (IsFillingOf claims outputs r preimages) (IsFirstRefusal claims outputs r preimages) → MatchResult given (IsFillingOf b.claims b.outputs r b.preimages) (IsFirstRefusal b.claims b.outputs r b.preimages)
given_as b r given claims outputs preimages of_claims of_outputs of_preimages h =
    subst (λ (ps : List (List ℕ)). MatchResult given (IsFillingOf b.claims b.outputs r ps) (IsFirstRefusal b.claims b.outputs r ps)) of_preimages
    (subst (λ (os : List Output). MatchResult given (IsFillingOf b.claims os r preimages) (IsFirstRefusal b.claims os r preimages)) of_outputs
    (subst (λ (cs : List ClaimParts). MatchResult given (IsFillingOf cs outputs r preimages) (IsFirstRefusal cs outputs r preimages)) of_claims h))
