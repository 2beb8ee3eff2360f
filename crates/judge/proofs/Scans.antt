-- Scans of a list that end at the first element which decides them.
use Rattle.std.proofs.Common.{◌≡◌, ℕ, ◌+◌, ◌<◌, Bool, true, false, not, cond, ◌&&◌, if◌then◌else◌, List, length, get_or, drop, Option, Some, refl, ap, sym, ◌∙◌}
use Rattle.std.proofs.Math.Bool.{beq}
use Rattle.std.specs.List.{list_all, position_from}
use Rattle.std.proofs.lemmas.List.{at_drop_more}

pub as_stated : (holds stated : Bool) → not (beq holds stated) ≡ false → (if stated then holds else not holds) ≡ true
as_stated true true e = refl
as_stated true false e = sym e
as_stated false true e = sym e
as_stated false false e = refl

module _ {A : Type 0} (test : A → Bool) (xs : List A) (i : ℕ) (x : A) (within : i < length xs) (here : x ≡ get_or xs i x) where
  pub passed : (whole : Bool) → test x ≡ true → list_all test (drop i xs) ≡ whole → list_all test (drop (i + 1) xs) ≡ whole
  passed whole passes h = ap (λ b. b && list_all test (drop (i + 1) xs)) (sym passes ∙ ap test here) ∙ sym (at_drop_more (list_all test) xs i x within) ∙ h

  pub later : (whole : Option ℕ) → test x ≡ false → position_from test i (drop i xs) ≡ whole → position_from test (i + 1) (drop (i + 1) xs) ≡ whole
  later whole fails h = ap (λ b. cond b (Some i) (position_from test (i + 1) (drop (i + 1) xs))) (sym fails ∙ ap test here) ∙ sym (at_drop_more (position_from test i) xs i x within) ∙ h

  pub found : (whole : Option ℕ) → test x ≡ true → position_from test i (drop i xs) ≡ whole → Some i ≡ whole
  found whole passes h = ap (λ b. cond b (Some i) (position_from test (i + 1) (drop (i + 1) xs))) (sym passes ∙ ap test here) ∙ sym (at_drop_more (position_from test i) xs i x within) ∙ h
