-- The first of claims at which something holds, one by one.
use Rattle.std.proofs.Common.{◌≡◌, ◌<◌, ◌≤◌, ◌+◌, ℕ, true, false, List, [], ◌∷◌, ◌++◌, length, take, drop, get_or, refl, sym, ap, ◌∙◌, arith}
use Rattle.std.specs.Prelude.{Bool, if◌then◌else◌}
use Rattle.std.proofs.lemmas.List.{take_more, take_all, drop_more, drop_all, length-take-le}
use Rattle.claim.specs.Claims.{ClaimParts}
use Rattle.enforce_c.specs.declared.about.About.{About}
use Rattle.enforce_c.specs.declared.about.About.TheVariants.{Whole, OfClaim}
use Rattle.enforce_c.specs.Faulty.{is_again, first_again, first_at}

module _ (holds : ClaimParts → Bool) (claims : List ClaimParts) where
  left : (i : ℕ) (d c : ClaimParts) → i < length claims → c ≡ get_or claims i d → first_at holds i (drop i claims) ≡ (if holds c then OfClaim i else first_at holds (i + 1) (drop (i + 1) claims))
  left i d c h e = ap (first_at holds i) (drop_more claims i d h) ∙ ap (λ x. if holds x then OfClaim i else first_at holds (i + 1) (drop (i + 1) claims)) (sym e)

  pub first_next : (i : ℕ) (d c : ClaimParts) → i < length claims → c ≡ get_or claims i d → holds c ≡ false → first_at holds i (drop i claims) ≡ first_at holds 0 claims → first_at holds (i + 1) (drop (i + 1) claims) ≡ first_at holds 0 claims
  first_next i d c h e not_so whole = sym (ap (λ b. if b then OfClaim i else first_at holds (i + 1) (drop (i + 1) claims)) not_so) ∙ sym (left i d c h e) ∙ whole

  pub first_here : (i : ℕ) (d c : ClaimParts) → i < length claims → c ≡ get_or claims i d → holds c ≡ true → first_at holds i (drop i claims) ≡ first_at holds 0 claims → OfClaim i ≡ first_at holds 0 claims
  first_here i d c h e so whole = sym (ap (λ b. if b then OfClaim i else first_at holds (i + 1) (drop (i + 1) claims)) so) ∙ sym (left i d c h e) ∙ whole

  pub first_none : (i : ℕ) → length claims ≤ i → first_at holds i (drop i claims) ≡ first_at holds 0 claims → Whole ≡ first_at holds 0 claims
  first_none i h whole = sym (ap (first_at holds i) (drop_all i claims h)) ∙ whole

module _ (claims : List ClaimParts) where
  rest : (i : ℕ) (d c : ClaimParts) → i < length claims → c ≡ get_or claims i d
      → first_again (take i claims) (drop i claims) ≡ (if is_again (take i claims) c then OfClaim (length (take i claims)) else first_again (take i claims ++ c ∷ []) (drop (i + 1) claims))
  rest i d c h e = ap (first_again (take i claims)) (drop_more claims i d h)
      ∙ ap (λ x. if is_again (take i claims) x then OfClaim (length (take i claims)) else first_again (take i claims ++ x ∷ []) (drop (i + 1) claims)) (sym e)

  more : (i : ℕ) (d c : ClaimParts) → i < length claims → c ≡ get_or claims i d → take i claims ++ c ∷ [] ≡ take (i + 1) claims
  more i d c h e = ap (λ x. take i claims ++ x ∷ []) e ∙ sym (take_more claims i d h)

  pub again_next : (i : ℕ) (d c : ClaimParts) → i < length claims → c ≡ get_or claims i d → is_again (take i claims) c ≡ false → first_again (take i claims) (drop i claims) ≡ first_again [] claims
      → first_again (take (i + 1) claims) (drop (i + 1) claims) ≡ first_again [] claims
  again_next i d c h e not_so whole = ap (λ xs. first_again xs (drop (i + 1) claims)) (sym (more i d c h e))
      ∙ sym (ap (λ b. if b then OfClaim (length (take i claims)) else first_again (take i claims ++ c ∷ []) (drop (i + 1) claims)) not_so) ∙ sym (rest i d c h e) ∙ whole

  pub again_here : (i : ℕ) (d c : ClaimParts) → i < length claims → c ≡ get_or claims i d → is_again (take i claims) c ≡ true → first_again (take i claims) (drop i claims) ≡ first_again [] claims → OfClaim i ≡ first_again [] claims
  again_here i d c h e so whole =
      let few : length (take i claims) ≡ i = length-take-le i claims (omega arith) in
      ap OfClaim (sym few) ∙ sym (ap (λ b. if b then OfClaim (length (take i claims)) else first_again (take i claims ++ c ∷ []) (drop (i + 1) claims)) so) ∙ sym (rest i d c h e) ∙ whole

  pub again_none : (i : ℕ) → length claims ≤ i → first_again (take i claims) (drop i claims) ≡ first_again [] claims → Whole ≡ first_again [] claims
  again_none i h whole = sym (ap (first_again (take i claims)) (drop_all i claims h)) ∙ whole
