-- What stands in a list from an index on, and still stands there where the list is longer.
use Rattle.std.proofs.Common.{◌≡◌, ◌≤◌, ◌-◌, ℕ, List, ◌++◌, length, take, drop, refl, sym, ap, ◌∙◌, arith, append_assoc}
use Rattle.std.specs.Prelude.{Bool, true, false, ◌&&◌, nat_le}
use Rattle.std.proofs.lemmas.Bool.{le-leb, leb-true}
use Rattle.std.proofs.lemmas.List.{take_all, drop_all, take-append-le, drop-append-le, length-append, length-drop}
use Rattle.enforce_c.specs.Ranges.{has_part, part}

-- from an index on there are these items
pub record Stands {A : Type 0} (at count : ℕ) (xs piece : List A) : Type 0 where
  pub there : has_part at count xs ≡ true
  pub same : part at count xs ≡ piece

both : (a b : Bool) → a ≡ true → b ≡ true → (a && b) ≡ true
both true true p q = refl
both true false p q = q
both false b p q = p

split : (a b : Bool) → (a && b) ≡ true → (a ≡ true) × (b ≡ true)
split true true e = (refl, refl)
split true false e = (refl, e)
split false b e = absurd (let t : true ≡ false = sym e in cc)

module _ {A : Type 0} where
  pub stands_here : (before piece after : List A) → Stands (length before) (length piece) ((before ++ piece) ++ after) piece
  stands_here before piece after =
      let long = length-append (before ++ piece) after in
      let short = length-append before piece in
      let whole : (before ++ piece) ++ after ≡ before ++ (piece ++ after) = append_assoc before piece after in
      let rest : drop (length before) (before ++ (piece ++ after)) ≡ piece ++ after =
      drop-append-le (length before) before (piece ++ after) (omega arith) ∙ ap (λ xs. xs ++ (piece ++ after)) (drop_all (length before) before (omega arith)) in
      record {
        there = both (nat_le (length before) (length ((before ++ piece) ++ after))) (nat_le (length piece) (length ((before ++ piece) ++ after) - length before))
            (le-leb (length before) (length ((before ++ piece) ++ after)) (omega arith)) (le-leb (length piece) (length ((before ++ piece) ++ after) - length before) (omega arith));
        same = ap (λ xs. take (length piece) (drop (length before) xs)) whole ∙ ap (take (length piece)) rest ∙ take-append-le (length piece) piece after (omega arith) ∙ take_all (length piece) piece (omega arith);
      }

  -- what stands in a list still stands where the list is longer
  pub stands_more : (at count : ℕ) (xs more : List A) → has_part at count xs ≡ true → Stands at count (xs ++ more) (part at count xs)
  stands_more at count xs more there =
      let two = split (nat_le at (length xs)) (nat_le count (length xs - at)) there in
      let begins : at ≤ length xs = leb-true at (length xs) two.0 in
      let ends : count ≤ length xs - at = leb-true count (length xs - at) two.1 in
      let long = length-append xs more in
      let left = length-drop at xs in
      record {
        there = both (nat_le at (length (xs ++ more))) (nat_le count (length (xs ++ more) - at)) (le-leb at (length (xs ++ more)) (omega arith)) (le-leb count (length (xs ++ more) - at) (omega arith));
        same = ap (take count) (drop-append-le at xs more begins) ∙ take-append-le count (drop at xs) more (omega arith);
      }
