-- The definitions at chosen values: which mark is greater, the words of marks, the greatest mark, and boards that meet the rule or break it.
use Rattle.std.proofs.Common.{◌≡◌, ℕ, ◌<◌, true, false, List, [], ◌∷◌, sym, refl, ap, subst, ⊎_elim, inl, inr, Contains, arith}
use Rattle.std.proofs.lemmas.Bool.Decides.{nat_tests}
use Rattle.std.proofs.lemmas.List.Elements.{All-nil, All-cons, All-head, All-tail, All-contains}
use Rattle.std.proofs.lemmas.List.Sorted.{IsPermutation-swap, length_permutation, sum_by-IsPermutation}
use Rattle.board.specs.declared.marks.Mark.{Mark}
use Rattle.board.specs.Order.{mark, start, at_most, IsGreatest, word_of, mark_in}
use Rattle.board.specs.Rule.{knows, numbers_below, Standing, IsDrawnOnce, IsBoard, everything}

less : (m n : ℕ) → m ≡ n → m < n → ⊥
less m n e h = omega arith

-- a newer round is greater, at any height
older_round : at_most (mark 0 9) (mark 1 5) ≡ true
older_round = refl

newer_round : at_most (mark 1 5) (mark 0 9) ≡ false
newer_round = refl

-- in one round the height decides
lower : at_most (mark 0 3) (mark 0 5) ≡ true
lower = refl

higher : at_most (mark 0 5) (mark 0 3) ≡ false
higher = refl

same : at_most (mark 2 5) (mark 2 5) ≡ true
same = refl

-- 2^32 + 5, and 2^64 - 1
word : word_of (mark 1 5) ≡ 4294967301
word = refl

greatest_word : word_of (mark 4294967295 4294967295) ≡ 18446744073709551615
greatest_word = refl

mark_of_word : mark_in 4294967301 ≡ mark 1 5
mark_of_word = refl

three_numbers : numbers_below 3 ≡ 0 ∷ 1 ∷ 2 ∷ []
three_numbers = refl

all_shares : everything.shares ≡ 65536
all_shares = refl

-- (1, 5) is greater than (0, 9)
greatest_of_two : IsGreatest (mark 1 5) (mark 0 9 ∷ mark 1 5 ∷ [])
greatest_of_two = record {
  bound = All-cons (λ m. at_most m (mark 1 5) ≡ true) (mark 0 9) (mark 1 5 ∷ []) refl (All-cons (λ m. at_most m (mark 1 5) ≡ true) (mark 1 5) [] refl (All-nil (λ m. at_most m (mark 1 5) ≡ true)));
  reached = inr (1, omega arith, refl);
}

not_the_greater_height : IsGreatest (mark 0 9) (mark 0 9 ∷ mark 1 5 ∷ []) → ⊥
not_the_greater_height g =
    let P : Mark → Type 0 = λ m. at_most m (mark 0 9) ≡ true in
    let h : false ≡ true = All-head P (mark 1 5) [] (All-tail P (mark 0 9) (mark 1 5 ∷ []) g.bound) in cc

-- before a mark is raised, the top is (0, 0)
none_yet : IsGreatest (mark 0 0) []
none_yet = record { bound = All-nil (λ m. at_most m (mark 0 0) ≡ true); reached = inl refl }

none_made_up : IsGreatest (mark 0 1) [] → ⊥
none_made_up g = ⊎_elim
    (λ (is : mark 0 1 ≡ start). less 0 1 (sym (ap (λ (m : Mark). m.height) is)) (omega arith))
    (λ (there : Contains [] (mark 0 1)). let h = there.1 in omega arith)
    g.reached

-- a list of marks has one greatest mark
at_most_antisym : (a b : Mark) → at_most a b ≡ true → at_most b a ≡ true → a ≡ b
at_most_antisym a b h k =
    let r : a.round ≡ b.round = grind (arith, nat_tests) in
    let s : a.height ≡ b.height = grind (arith, nat_tests) in
    λ i. mark (r i) (s i)

start_is_least : (a : Mark) → at_most start a ≡ true
start_is_least a = grind (arith, nat_tests)

below_the_greatest : (a b : Mark) (marks : List Mark) → IsGreatest a marks → IsGreatest b marks → at_most a b ≡ true
below_the_greatest a b marks g h = ⊎_elim
    (λ (is : a ≡ start). subst (λ m. at_most m b ≡ true) (sym is) (start_is_least b))
    (λ (there : Contains marks a). All-contains (λ m. at_most m b ≡ true) marks a h.bound there)
    g.reached

one_greatest : (a b : Mark) (marks : List Mark) → IsGreatest a marks → IsGreatest b marks → a ≡ b
one_greatest a b marks g h = at_most_antisym a b (below_the_greatest a b marks g h) (below_the_greatest b a marks h g)

-- Two seats: one drew 0 and 2 and raised (0, 9), the other drew `others` and raised (1, 5).
abbrev board_with : ℕ → List ℕ → Standing
board_with draws others = record { top = mark 1 5; draws = draws; views = knows 1 (0 ∷ 2 ∷ []) (mark 0 9 ∷ []) [] ∷ knows 1 others (mark 1 5 ∷ []) [] ∷ [] }

drawn_once : IsDrawnOnce (board_with 3 (1 ∷ []))
drawn_once = record { tickets = IsPermutation-swap (0 ∷ 2 ∷ 1 ∷ []) (0 ∷ 1 ∷ 2 ∷ []) 1 2 (omega arith) (omega arith) refl; top = greatest_of_two }

-- a ticket that two seats drew
drawn_twice : IsDrawnOnce (board_with 3 (2 ∷ [])) → ⊥
drawn_twice h = less 3 4 (sum_by-IsPermutation (λ x. x) (0 ∷ 2 ∷ 2 ∷ []) (0 ∷ 1 ∷ 2 ∷ []) h.tickets) (omega arith)

-- a ticket below the count that no seat drew
skipped : IsDrawnOnce (board_with 4 (1 ∷ [])) → ⊥
skipped h = less 3 4 (sym (length_permutation (0 ∷ 2 ∷ 1 ∷ []) (0 ∷ 1 ∷ 2 ∷ 3 ∷ []) h.tickets)) (omega arith)

-- a ticket that is not below the count
too_early : IsDrawnOnce (board_with 3 (3 ∷ [])) → ⊥
too_early h = less 3 5 (sum_by-IsPermutation (λ x. x) (0 ∷ 2 ∷ 3 ∷ []) (0 ∷ 1 ∷ 2 ∷ []) h.tickets) (omega arith)

-- A seat holds all shares. There is another one without a share, which raised (0, 7), or one with a share.
no_share : IsBoard (7 ∷ 0 ∷ []) (everything ∷ knows 0 [] (mark 0 7 ∷ []) [] ∷ []) → ⊥
no_share h = less 0 0 refl (h.has_share 1 (knows 0 [] (mark 0 7 ∷ []) []) refl)

one_share_more : IsBoard (7 ∷ 0 ∷ []) (everything ∷ knows 1 [] (mark 0 7 ∷ []) [] ∷ []) → ⊥
one_share_more h = less 65536 65537 (sym h.shares) (omega arith)
