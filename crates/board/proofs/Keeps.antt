-- Each step keeps the rule of the board.
use Rattle.std.proofs.Common.{◌≡◌, ℕ, ◌+◌, ◌*◌, ◌%◌, ◌<◌, ◌≤◌, ◌^◌, max, true, List, [], ◌∷◌, ◌++◌, length, set, sym, refl, ap, ◌∙◌, subst, ◌⊎◌, inl, Contains, arith, length-append}
use Rattle.std.specs.List.{slice_index, AllPass}
use Rattle.std.specs.List.Sorted.{IsPermutation}
use Rattle.std.proofs.lemmas.List.Elements.{All-push, All-weaker, All-contains}
use Rattle.std.proofs.lemmas.List.Sorted.{IsPermutation-refl, IsPermutation-sym, IsPermutation-trans, IsPermutation-append_left, Contains-permutation, length_permutation}
use Rattle.std.proofs.lemmas.List.Concat.{length-flat_map}
use Rattle.std.proofs.lemmas.List.Sums.{sum_by_push}
use mathlib.Core.Option.{some-ne-none, none}
use Rattle.atomic_table.specs.Table.{State, Me, Allows, Splits, step, keeps}
use Rattle.board.specs.declared.marks.Mark.{Mark}
use Rattle.board.specs.declared.rule.SeatView.{SeatView}
use Rattle.board.specs.Order.{start, at_most, word_of, mark_in, IsGreatest}
use Rattle.board.specs.Rule.{knows, everything, one_share, less_one, drawn_by_all, raised_by_all, numbers_below, Standing, IsDrawnOnce, IsBoard}
use Rattle.board.specs.Steps.{Raises, Looks, Draws}
use Rattle.board.proofs.Lists.{At, set_each, push_each, sum_by_set, sum_by_within, grown, unmoved, joined, All_part, numbers_below-one_more, length-numbers_below, numbers_below-are_below}
use Rattle.board.proofs.Tops.{at_most_refl, at_most_trans, mark_in-word_of, word_of-mark_in, top_after, greatest_more}

abbrev standing : Mark → ℕ → List SeatView → Standing
standing top draws views = record { top = top; draws = draws; views = views }

abbrev Rules : State (Unit {0}) SeatView → Type 0
Rules s = IsBoard s.words s.views

pub begins : IsBoard (0 ∷ 0 ∷ []) (everything ∷ [])
begins = record {
  top = start;
  draws = 0;
  words_are = refl;
  low = omega arith;
  drawn_once = record { tickets = IsPermutation-refl []; top = record { bound = λ k d h. absurd (omega arith); reached = inl refl } };
  shares = refl;
  has_share = push_each (λ u. 0 < u.shares) [] everything (omega arith) (λ j u e. absurd (some-ne-none u (sym e)));
  within = push_each (λ u. length u.drawn ≤ 2 ^ 32 * u.shares) [] everything (omega arith) (λ j u e. absurd (some-ne-none u (sym e)));
  looked = push_each (λ u. AllPass (λ m. at_most m start) u.looked) [] everything (λ k d h. absurd (omega arith)) (λ j u e. absurd (some-ne-none u (sym e)));
}

-- the view of one seat changes, together with the top and the count
changed : (words' words : List ℕ) (views : List SeatView) (p : ℕ) (v w : SeatView) (top : Mark) (draws : ℕ) → (h : IsBoard words views) → At views p v
    → words' ≡ word_of top ∷ draws ∷ [] → top.height < 2 ^ 32 → w.shares ≡ v.shares → at_most h.top top ≡ true
    → IsDrawnOnce (standing top draws (set views p w)) → length w.drawn ≤ 2 ^ 32 * w.shares → AllPass (λ m. at_most m top) w.looked
    → IsBoard words' (set views p w)
changed words' words views p v w top draws h at is low same up once few looked = record {
  top = top;
  draws = draws;
  words_are = is;
  low = low;
  drawn_once = once;
  shares = (let s = sum_by_set (λ u. u.shares) views p v w at in omega (arith, h.shares));
  has_share = set_each (λ u. 0 < u.shares) views p w (omega (arith, same, h.has_share p v at)) h.has_share;
  within = set_each (λ u. length u.drawn ≤ 2 ^ 32 * u.shares) views p w few h.within;
  looked = set_each (λ u. AllPass (λ m. at_most m top) u.looked) views p w looked
      (λ j u e. All-weaker (λ m. at_most m h.top ≡ true) (λ m. at_most m top ≡ true) (λ m b. at_most_trans m h.top top b up) u.looked (h.looked j u e));
}

-- a view changes neither its tickets nor its raised marks
as_before : (top : Mark) (draws : ℕ) (views : List SeatView) (p : ℕ) (v w : SeatView) → At views p v → w.drawn ≡ v.drawn → w.raised ≡ v.raised
    → IsDrawnOnce (standing top draws views) → IsDrawnOnce (standing top draws (set views p w))
as_before top draws views p v w at drawn raised h = record {
  tickets = subst (λ l. IsPermutation l (numbers_below draws)) (sym (unmoved (λ u. u.drawn) views p v w at drawn)) h.tickets;
  top = subst (λ l. IsGreatest top l) (sym (unmoved (λ u. u.raised) views p v w at raised)) h.top;
}

pub raise_allows : (slots id : ℕ) (me : Me (Unit {0}) SeatView) (n : ℕ) → me.1 ≡ [] → Allows Rules slots id me 0 (λ k. max k n) (Raises (step slots 0 n 0 none) me)
raise_allows slots id me n empty s h none_out at small =
    let v = me.0 in
    let m = mark_in n in
    let w = knows v.shares v.drawn (v.raised ++ m ∷ []) v.looked in
    let low : m.height < 4294967296 = omega arith in
    let (after, t) = top_after h.top m h.low low in
    let views = set s.views id w in
    let found : slice_index s.words 0 ≡ word_of h.top = ap (λ l. slice_index l 0) h.words_are in
    let word : max (slice_index s.words 0) n ≡ word_of after = ap (λ k. max k n) found ∙ (ap (λ k. max (word_of h.top) k) (sym (word_of-mark_in n)) ∙ t.word) in
    let is : set s.words 0 (max (slice_index s.words 0) n) ≡ word_of after ∷ h.draws ∷ [] = ap (λ l. set l 0 (max (slice_index s.words 0) n)) h.words_are ∙ ap (λ k. k ∷ h.draws ∷ []) word in
    let once : IsDrawnOnce (standing after h.draws views) = record {
      tickets = subst (λ l. IsPermutation l (numbers_below h.draws)) (sym (unmoved (λ u. u.drawn) s.views id v w at refl)) h.drawn_once.tickets;
      top = greatest_more h.top m after (raised_by_all s.views) (raised_by_all views) t h.drawn_once.top (grown (λ u. u.raised) s.views id v w m at refl);
    } in (
      w,
      keeps,
      tt,
      changed (set s.words 0 (max (slice_index s.words 0) n)) s.words s.views id v w after h.draws h at is t.low refl t.kept once (h.within id v at)
          (All-weaker (λ x. at_most x h.top ≡ true) (λ x. at_most x after ≡ true) (λ x b. at_most_trans x h.top after b t.kept) v.looked (h.looked id v at)),
      (
        record {
          before = standing h.top h.draws s.views;
          after = standing after h.draws views;
          step = record { seat = id; here = at; others = refl; stood = h.drawn_once; stands = once };
          reached = t.reached;
          kept = t.kept;
          no_ticket = refl;
          added = refl;
        },
        empty,
      ),
    )

pub look_allows : (slots id : ℕ) (me : Me (Unit {0}) SeatView) → me.1 ≡ [] → Allows Rules slots id me 0 (λ k. k) (Looks (step slots 0 0 0 none) me)
look_allows slots id me empty s h none_out at small =
    let v = me.0 in
    let n = slice_index s.words 0 in
    let m = mark_in n in
    let w = knows v.shares v.drawn v.raised (v.looked ++ m ∷ []) in
    let views = set s.views id w in
    let found : n ≡ word_of h.top = ap (λ l. slice_index l 0) h.words_are in
    let is_top : h.top ≡ m = sym (ap mark_in found ∙ mark_in-word_of h.top h.low) in
    let is : set s.words 0 n ≡ word_of h.top ∷ h.draws ∷ [] = ap (λ l. set l 0 n) h.words_are ∙ ap (λ k. k ∷ h.draws ∷ []) found in
    let once = as_before h.top h.draws s.views id v w at refl refl h.drawn_once in (
      w,
      keeps,
      tt,
      changed (set s.words 0 n) s.words s.views id v w h.top h.draws h at is h.low refl (at_most_refl h.top) once (h.within id v at)
          (All-push (λ x. at_most x h.top ≡ true) v.looked m (h.looked id v at) (subst (λ x. at_most x h.top ≡ true) is_top (at_most_refl h.top))),
      (
        record {
          before = standing h.top h.draws s.views;
          after = standing h.top h.draws views;
          step = record { seat = id; here = at; others = refl; stood = h.drawn_once; stands = once };
          is_top = is_top;
          same_top = is_top;
          no_ticket = refl;
          above_raised = subst (λ t. AllPass (λ x. at_most x t) v.raised) is_top (All_part (λ u. u.raised) (λ x. at_most x h.top ≡ true) s.views id v at h.drawn_once.top.bound);
          above_looked = subst (λ t. AllPass (λ x. at_most x t) v.looked) is_top (h.looked id v at);
          from_a_seat = subst (λ t. (t ≡ start) ⊎ Contains (raised_by_all s.views) t) is_top h.drawn_once.top.reached;
          added = refl;
        },
        empty,
      ),
    )

-- the count stays below 2^64
count_low : (words : List ℕ) (views : List SeatView) → (h : IsBoard words views) → h.draws ≤ 281474976710656
count_low words views h =
    let drawn = drawn_by_all views in
    let all : length drawn ≡ h.draws = sym (length_permutation drawn (numbers_below h.draws) h.drawn_once.tickets) ∙ length-numbers_below h.draws in
    let within = sum_by_within (λ u. length u.drawn) (λ u. u.shares) views h.within in
    omega (arith, all, length-flat_map (λ (u : SeatView). u.drawn) views, h.shares, within)

pub draw_allows : (slots id : ℕ) (me : Me (Unit {0}) SeatView) → me.1 ≡ [] → 0 < me.0.shares → length me.0.drawn < 4294967296 → Allows Rules slots id me 1 (λ k. (k + 1) % 2 ^ 64) (Draws (step slots 1 1 0 none) me)
draw_allows slots id me empty share few s h none_out at small =
    let v = me.0 in
    let n = slice_index s.words 1 in
    let w = knows v.shares (v.drawn ++ n ∷ []) v.raised v.looked in
    let views = set s.views id w in
    let drawn = drawn_by_all s.views in
    let found : n ≡ h.draws = ap (λ l. slice_index l 1) h.words_are in
    let low = count_low s.words s.views h in
    let word : (n + 1) % 2 ^ 64 ≡ h.draws + 1 = omega arith in
    let is : set s.words 1 ((n + 1) % 2 ^ 64) ≡ word_of h.top ∷ (h.draws + 1) ∷ [] = ap (λ l. set l 1 ((n + 1) % 2 ^ 64)) h.words_are ∙ ap (λ k. word_of h.top ∷ k ∷ []) word in
    let one_more : IsPermutation (drawn_by_all views) (numbers_below h.draws ++ n ∷ []) = IsPermutation-trans (drawn_by_all views) (drawn ++ n ∷ []) (numbers_below h.draws ++ n ∷ [])
    (IsPermutation-sym (drawn ++ n ∷ []) (drawn_by_all views) (grown (λ u. u.drawn) s.views id v w n at refl))
    (IsPermutation-append_left (n ∷ []) drawn (numbers_below h.draws) h.drawn_once.tickets) in
    let once : IsDrawnOnce (standing h.top (h.draws + 1) views) = record {
      tickets = subst (λ l. IsPermutation (drawn_by_all views) l) (ap (λ k. numbers_below h.draws ++ k ∷ []) found ∙ sym (numbers_below-one_more h.draws)) one_more;
      top = subst (λ l. IsGreatest h.top l) (sym (unmoved (λ u. u.raised) s.views id v w at refl)) h.drawn_once.top;
    } in (
      w,
      keeps,
      tt,
      changed (set s.words 1 ((n + 1) % 2 ^ 64)) s.words s.views id v w h.top (h.draws + 1) h at is h.low refl (at_most_refl h.top) once
          (omega (arith, length-append v.drawn (n ∷ []))) (h.looked id v at),
      (
        record {
          before = standing h.top h.draws s.views;
          after = standing h.top (h.draws + 1) views;
          step = record { seat = id; here = at; others = refl; stood = h.drawn_once; stands = once };
          is_count = sym found;
          counted = ap (λ k. k + 1) (sym found);
          same_top = refl;
          is_new = λ had. let below : n < h.draws = All-contains (λ x. x < h.draws) (numbers_below h.draws) n (numbers_below-are_below h.draws) (Contains-permutation drawn (numbers_below h.draws) n h.drawn_once.tickets had) in omega arith;
          added = refl;
        },
        empty,
      ),
    )

pub deals : (id : ℕ) (v : SeatView) → v.drawn ≡ [] → 1 < v.shares → Splits Rules id v (less_one v) one_share
deals id v undrawn more s h at =
    let w = less_one v in
    let views = set s.views id w in
    let once = as_before h.top h.draws s.views id v w at refl refl h.drawn_once in
    let short : length v.drawn ≡ 0 = ap length undrawn in
    record {
      top = h.top;
      draws = h.draws;
      words_are = h.words_are;
      low = h.low;
      drawn_once = record {
        tickets = subst (λ l. IsPermutation l (numbers_below h.draws)) (sym (joined (λ u. u.drawn) views one_share refl)) once.tickets;
        top = subst (λ l. IsGreatest h.top l) (sym (joined (λ u. u.raised) views one_share refl)) once.top;
      };
      shares = (let t = sum_by_set (λ u. u.shares) s.views id v w at in omega (arith, h.shares, sum_by_push (λ (u : SeatView). u.shares) views one_share));
      has_share = push_each (λ u. 0 < u.shares) views one_share (omega arith) (set_each (λ u. 0 < u.shares) s.views id w (omega arith) h.has_share);
      within = push_each (λ u. length u.drawn ≤ 2 ^ 32 * u.shares) views one_share (omega arith) (set_each (λ u. length u.drawn ≤ 2 ^ 32 * u.shares) s.views id w (omega arith) h.within);
      looked = push_each (λ u. AllPass (λ m. at_most m h.top) u.looked) views one_share (λ k d none_there. absurd (omega arith)) (set_each (λ u. AllPass (λ m. at_most m h.top) u.looked) s.views id w (h.looked id v at) h.looked);
    }
