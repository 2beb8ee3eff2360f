-- Known preimages by their hashes.
use Rattle.std.proofs.Common.{◌≡◌, ℕ, ◌+◌, ◌<◌, Bool, true, false, cond, ◌||◌, List, [], ◌∷◌, ◌++◌, length, drop, Option, Some, None, sym, ap, subst, ◌∙◌, refl, get_or, add-one, drop-cons, nat_cmp}
use Rattle.std.specs.Ordering.{is_eq}
use Rattle.std.specs.Option.{option_or, is_some}
use Rattle.std.specs.Cmp.Lexicographic.{slice_cmp}
use Rattle.std.specs.Str.{bytes_eq}
use Rattle.std.proofs.lemmas.Map.Text.{is_eq-slice_cmp}
use Rattle.std.proofs.lemmas.Slice.Eq.{bytes_eq-Decides}
use Rattle.sha2.specs.Sha256.{sha256}
use Rattle.resolve.specs.Preimages.{first_of, is_known}

pub or_none : (o : Option (List ℕ)) → option_or o None ≡ o
or_none None = refl
or_none (Some x) = refl

absent : (o p : Option (List ℕ)) → is_some o ≡ false → p ≡ option_or o p
absent None p e = refl
absent (Some x) p e = (cc)

-- a hash that isn't there takes this one
pub added : (old : List ℕ → Option (List ℕ)) (x key h : List ℕ) → is_some (old key) ≡ false → cond (is_eq (slice_cmp nat_cmp key h)) (Some x) (old h) ≡ option_or (old h) (cond (bytes_eq key h) (Some x) None)
added old x key h lacks = ap (λ t. cond t (Some x) (old h)) (is_eq-slice_cmp key h) ∙ at (bytes_eq key h) refl
  where
    at : (b : Bool) → bytes_eq key h ≡ b → cond b (Some x) (old h) ≡ option_or (old h) (cond b (Some x) None)
    at false e = sym (or_none (old h))
    at true e = absent (old h) (Some x) (subst (λ k. is_some (old k) ≡ false) ((bytes_eq-Decides key h).0 e) lacks)

moved : (o : Option (List ℕ)) (t : Bool) (x : List ℕ) (p : Option (List ℕ)) → option_or (option_or o (cond t (Some x) None)) p ≡ option_or o (cond t (Some x) p)
moved (Some y) t x p = refl
moved None true x p = refl
moved None false x p = refl

split : (xs : List (List ℕ)) (i : ℕ) (d x : List ℕ) → i < length xs → x ≡ get_or xs i d → drop i xs ≡ x ∷ drop (i + 1) xs
split xs i d x h e = rw (add-one, e) (drop-cons xs i d h)

-- one more is noted
pub next : (old new : List ℕ → Option (List ℕ)) (more : List (List ℕ)) (i : ℕ) (d x : List ℕ) → i < length more → x ≡ get_or more i d → ((h : List ℕ) → new h ≡ option_or (old h) (first_of (x ∷ []) h))
    → (h : List ℕ) → option_or (new h) (first_of (drop (i + 1) more) h) ≡ option_or (old h) (first_of (drop i more) h)
next old new more i d x b e u h =
    ap (λ o. option_or o (first_of (drop (i + 1) more) h)) (u h)
    ∙ moved (old h) (bytes_eq (sha256 x) h) x (first_of (drop (i + 1) more) h)
    ∙ ap (λ (xs : List (List ℕ)). option_or (old h) (first_of xs h)) (sym (split more i d x b e))

chosen : {o : Option (List ℕ)} (t : Bool) (x : List ℕ) (p q : Option (List ℕ)) → o ≡ option_or p q → cond t (Some x) o ≡ option_or (cond t (Some x) p) q
chosen true x p q e = refl
chosen false x p q e = e

-- those behind are asked where the first ones have none
pub first_of_both : (a b : List (List ℕ)) (h : List ℕ) → first_of (a ++ b) h ≡ option_or (first_of a h) (first_of b h)
first_of_both [] b h = refl
first_of_both (x ∷ a) b h = chosen (bytes_eq (sha256 x) h) x (first_of a h) (first_of b h) (first_of_both a b h)

found : {k : Bool} (t : Bool) (x : List ℕ) (o : Option (List ℕ)) → is_some o ≡ k → is_some (cond t (Some x) o) ≡ (t || k)
found true x o e = refl
found false x o e = e

-- a hash is known if a preimage is found
pub found_is_known : (xs : List (List ℕ)) (h : List ℕ) → is_some (first_of xs h) ≡ is_known xs h
found_is_known [] h = refl
found_is_known (x ∷ xs) h = found (bytes_eq (sha256 x) h) x (first_of xs h) (found_is_known xs h)
