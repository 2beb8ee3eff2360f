-- The order of marks, and the order of their words.
use Rattle.std.proofs.Common.{◌≡◌, ℕ, ◌/◌, ◌%◌, ◌<◌, ◌≤◌, max, true, List, [], ◌∷◌, ◌++◌, sym, refl, ◌∙◌, subst, ⊎_elim, ◌⊎◌, inl, inr, Contains, lt_of_not-le, arith}
use Rattle.std.specs.List.Sorted.{IsPermutation}
use Rattle.std.proofs.lemmas.Bool.Decides.{nat_tests}
use Rattle.std.proofs.lemmas.List.Elements.{All-push, All-weaker, Contains-append_left, Contains-push}
use Rattle.std.proofs.lemmas.List.Sorted.{All-permutation, Contains-permutation}
use native.Mathlib.Decide.{dec_le}
use Rattle.board.specs.declared.marks.Mark.{Mark}
use Rattle.board.specs.Order.{mark, start, at_most, word_of, mark_in, IsGreatest}

pub at_most_refl : (a : Mark) → at_most a a ≡ true
at_most_refl a = grind (arith, nat_tests)

pub at_most_trans : (a b c : Mark) → at_most a b ≡ true → at_most b c ≡ true → at_most a c ≡ true
at_most_trans a b c h k = grind (arith, nat_tests)

-- marks are ordered as their words are
pub at_most-words : (a b : Mark) → b.height < 4294967296 → word_of a ≤ word_of b → at_most a b ≡ true
at_most-words a b low h = grind (arith, nat_tests)

pub mark_in-word_of : (a : Mark) → a.height < 4294967296 → mark_in (word_of a) ≡ a
mark_in-word_of a low =
    let r : word_of a / 4294967296 ≡ a.round = omega arith in
    let s : word_of a % 4294967296 ≡ a.height = omega arith in
    λ i. mark (r i) (s i)

pub word_of-mark_in : (n : ℕ) → word_of (mark_in n) ≡ n
word_of-mark_in n = omega arith

-- the top after a mark was raised
pub record TopAfter (top raised after : Mark) : Type 0 where
  pub low : after.height < 4294967296
  pub word : max (word_of top) (word_of raised) ≡ word_of after
  pub kept : at_most top after ≡ true
  pub reached : at_most raised after ≡ true
  pub one : (after ≡ top) ⊎ (after ≡ raised)

top_by : (top raised : Mark) → top.height < 4294967296 → raised.height < 4294967296 → Dec (word_of top ≤ word_of raised) → (after : Mark) × TopAfter top raised after
top_by top raised low low' (yes le) = (raised, record { low = low'; word = omega arith; kept = at_most-words top raised low' le; reached = at_most_refl raised; one = inr refl })
top_by top raised low low' (no not_le) =
    let lt : word_of raised < word_of top = lt_of_not-le not_le in
    (top, record { low = low; word = omega arith; kept = at_most_refl top; reached = at_most-words raised top low (omega arith); one = inl refl })

pub top_after : (top raised : Mark) → top.height < 4294967296 → raised.height < 4294967296 → (after : Mark) × TopAfter top raised after
top_after top raised low low' = top_by top raised low low' (dec_le (word_of top) (word_of raised))

-- the greatest mark, after one more was raised
pub greatest_more : (top raised after : Mark) (marks more : List Mark) → TopAfter top raised after → IsGreatest top marks → IsPermutation (marks ++ raised ∷ []) more → IsGreatest after more
greatest_more top raised after marks more t g moved =
    let P : Mark → Type 0 = λ m. at_most m after ≡ true in record {
      bound = All-permutation P (marks ++ raised ∷ []) more moved
          (All-push P marks raised (All-weaker (λ m. at_most m top ≡ true) P (λ m h. at_most_trans m top after h t.kept) marks g.bound) t.reached);
      reached = ⊎_elim
          (λ (is : after ≡ top). ⊎_elim
          (λ (none_yet : top ≡ start). inl (is ∙ none_yet))
          (λ (there : Contains marks top). inr (subst (λ m. Contains more m) (sym is) (Contains-permutation (marks ++ raised ∷ []) more top moved (Contains-append_left marks (raised ∷ []) top there))))
          g.reached)
          (λ (is : after ≡ raised). inr (subst (λ m. Contains more m) (sym is) (Contains-permutation (marks ++ raised ∷ []) more raised moved (Contains-push marks raised))))
          t.one;
    }
