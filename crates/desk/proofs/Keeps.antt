-- Each step keeps the rule of the desk.
use Rattle.std.proofs.Common.{◌≡◌, ◌≢◌, ℕ, zero, suc, ◌+◌, ◌<◌, ◌≤◌, true, false, true≢false, List, [], ◌∷◌, ◌++◌, length, set, Some, None, sym, refl, ap, ◌∙◌, subst, ⊎_elim, ◌⊎◌, inl, inr, arith, length-append}
use mathlib.Core.Logic.{dite}
use native.Mathlib.Decide.{ℕ_discrete}
use mathlib.Core.Option.{some, some-ne-none, some-injective}
use lib.ListN.{get_elem?}
use Rattle.std.specs.List.{AllByRecursion}
use Rattle.crossbeam_channel.specs.Fifo.{Pushes, Pops, Forks, Merges}
use Rattle.atomic_table.proofs.Lists.{at_set, set_here, set_else, at_longer}
use Rattle.channel.specs.Tokens.{peer_tokens}
use Rattle.book.specs.declared.calls.Entry.{Entry}
use Rattle.book.specs.Accepted.{all_accepted}
use Rattle.book.specs.Guarding.{is_guarded}
use Rattle.desk.specs.declared.rule.Heard.{Heard}
use Rattle.desk.specs.declared.rule.SeatView.{SeatView}
use Rattle.desk.specs.Histories.{History, GoesOn, calls_of, first_seat}
use Rattle.desk.specs.Rule.{fresh, opened, taken, returned, moved_on, left_behind, joined, spent, At, Live, IsHeard, HasNoOthers, HasHeardAll, weight_of, seats_in, InQueue, IsOut, IsSeated, IsUnopened, IsOneBook, IsTaken, Follows}
use Rattle.desk.proofs.Parts.{others_same, none_from, goes_on_same, goes_on_more}

-- ---- places in a list

in_range : {A : Type 0} (l : List A) (i : ℕ) (a : A) → get_elem? l i ≡ some a → i < length l
in_range [] i a e = absurd (some-ne-none a (sym e))
in_range (x ∷ xs) zero a e = omega arith
in_range (x ∷ xs) (suc i) a e = let r = in_range xs i a e in omega arith

at_end : {A : Type 0} (l : List A) (a : A) → get_elem? (l ++ a ∷ []) (length l) ≡ some a
at_end [] a = refl
at_end (x ∷ xs) a = at_end xs a

push_cases : {A : Type 0} (l : List A) (a b : A) (j : ℕ) → get_elem? (l ++ a ∷ []) j ≡ some b → (get_elem? l j ≡ some b) ⊎ ((j ≡ length l) × (a ≡ b))
push_cases [] a b zero e = inr (refl, some-injective a b e)
push_cases [] a b (suc j) e = absurd (some-ne-none b (sym e))
push_cases (x ∷ xs) a b zero e = inl e
push_cases (x ∷ xs) a b (suc j) e = ⊎_elim (λ t. inl t) (λ t. inr (ap suc t.0, t.1)) (push_cases xs a b j e)

-- ---- facts of each view

-- a fact of each view, after one view changed
set_each : (F : ℕ → SeatView → Type 0) (views : List SeatView) (p : ℕ) (w : SeatView) → F p w → ((j : ℕ) (u : SeatView) → j ≢ p → At views j u → F j u) → (j : ℕ) (u : SeatView) → At (set views p w) j u → F j u
set_each F views p w mine others j u e = ⊎_elim
    (λ (is : (j ≡ p) × (w ≡ u)). subst (λ (y : ℕ × SeatView). F y.0 y.1) (λ i. (sym is.0 i, is.1 i)) mine)
    (λ (is : (j ≢ p) × At views j u). others j u is.0 is.1)
    (at_set views p j w u e)

-- a fact of each view, after one more view came
push_each : (F : ℕ → SeatView → Type 0) (views : List SeatView) (w : SeatView) → F (length views) w → ((j : ℕ) (u : SeatView) → At views j u → F j u) → (j : ℕ) (u : SeatView) → At (views ++ w ∷ []) j u → F j u
push_each F views w new others j u e = ⊎_elim
    (λ (is : At views j u). others j u is)
    (λ (is : (j ≡ length views) × (w ≡ u)). subst (λ (y : ℕ × SeatView). F y.0 y.1) (λ i. (sym is.0 i, is.1 i)) new)
    (push_cases views w u j e)

-- the same of those that were not taken in
set_live : (F : ℕ → SeatView → Type 0) (views : List SeatView) (p : ℕ) (w : SeatView) → (w.is_spent ≡ false → F p w) → ((j : ℕ) (u : SeatView) → j ≢ p → Live views j u → F j u)
    → (j : ℕ) (u : SeatView) → Live (set views p w) j u → F j u
set_live F views p w mine others j u e = set_each (λ j u. u.is_spent ≡ false → F j u) views p w mine (λ j u n at live. others j u n (at, live)) j u e.0 e.1

push_live : (F : ℕ → SeatView → Type 0) (views : List SeatView) (w : SeatView) → F (length views) w → ((j : ℕ) (u : SeatView) → Live views j u → F j u) → (j : ℕ) (u : SeatView) → Live (views ++ w ∷ []) j u → F j u
push_live F views w new others j u e = push_each (λ j u. u.is_spent ≡ false → F j u) views w (λ live. new) (λ j u at live. others j u (at, live)) j u e.0 e.1

-- ---- facts of what seats heard

every : (P Q : Heard → Type 0) → ((h : Heard) → P h → Q h) → (hs : List Heard) → AllByRecursion P hs → AllByRecursion Q hs
every P Q f [] all = tt
every P Q f (h ∷ hs) all = (f h all.0, every P Q f hs all.1)

all_of_both : (P : Heard → Type 0) (xs ys : List Heard) → AllByRecursion P xs → AllByRecursion P ys → AllByRecursion P (xs ++ ys)
all_of_both P [] ys a b = b
all_of_both P (x ∷ xs) ys a b = (a.0, all_of_both P xs ys a.1 b)

all_first : (P : Heard → Type 0) (xs ys : List Heard) → AllByRecursion P (xs ++ ys) → AllByRecursion P xs
all_first P [] ys a = tt
all_first P (x ∷ xs) ys a = (a.0, all_first P xs ys a.1)

all_second : (P : Heard → Type 0) (xs ys : List Heard) → AllByRecursion P (xs ++ ys) → AllByRecursion P ys
all_second P [] ys a = a
all_second P (x ∷ xs) ys a = all_second P xs ys a.1

-- what was heard holds of a longer history, in which only the entries of another number may be new
heard_more : (opening before after : History) (n : ℕ) → GoesOn before after → ((m : ℕ) → m ≢ n → calls_of m after ≡ calls_of m before) → (hs : List Heard) → AllByRecursion (λ h. h.number ≢ n) hs
    → AllByRecursion (IsHeard opening before) hs → AllByRecursion (IsHeard opening after) hs
heard_more opening before after n more theirs [] apart all = tt
heard_more opening before after n more theirs (h ∷ hs) apart all = (
  record { calls = theirs h.number apart.0 ∙ all.0.calls; since = goes_on_more h.last before after all.0.since more; later = all.0.later },
  heard_more opening before after n more theirs hs apart.1 all.1,
)

pub at_one : (p : ℕ) (v w : SeatView) → At (w ∷ []) p v → w ≡ v
at_one p v w e = ⊎_elim (λ none_there. absurd (some-ne-none v (sym none_there))) (λ (is : (p ≡ 0) × (w ≡ v)). is.1) (push_cases [] w v p e)

first_pass : (p : ℕ) (v w : SeatView) → At (w ∷ []) p v → p ≡ 0
first_pass p v w e = ⊎_elim (λ none_there. absurd (some-ne-none v (sym none_there))) (λ (is : (p ≡ 0) × (w ≡ v)). is.0) (push_cases [] w v p e)

-- the view that stood there before, with the same number
record Was (views : List SeatView) (j : ℕ) (u : SeatView) : Type 0 where
  before : SeatView
  at : Live views j before
  number : before.number ≡ u.number
  last : before.is_last ≡ u.is_last
  heard : before.heard ≡ u.heard

-- the view that stands there now, with the same number
stands : (views : List SeatView) (p j : ℕ) (v w u : SeatView) → At views p v → w.number ≡ v.number → w.heard ≡ v.heard → w.is_spent ≡ false → Live views j u
    → (t : SeatView) × Live (set views p w) j t × (t.number ≡ u.number) × (t.heard ≡ u.heard)
stands views p j v w u at number heard live e = dite (ℕ_discrete j p)
    (λ same.
    let is : v ≡ u = some-injective v u (sym at ∙ ap (get_elem? views) (sym same) ∙ e.0) in
    (w, (ap (get_elem? (set views p w)) same ∙ set_here views p w (in_range views p v at), live), number ∙ ap (λ (y : SeatView). y.number) is, heard ∙ ap (λ (y : SeatView). y.heard) is))
    (λ no. (u, (set_else views p j w no ∙ e.0, e.1), refl, refl))

-- ---- how many seats there are

live_weighs : (v : SeatView) → v.is_spent ≡ false → weight_of v ≡ length v.heard + 1
live_weighs v live = rw live refl

in_set : (views : List SeatView) (p : ℕ) (v w : SeatView) → At views p v → seats_in (set views p w) + weight_of v ≡ seats_in views + weight_of w
in_set [] p v w at = absurd (some-ne-none v (sym at))
in_set (x ∷ xs) zero v w at =
    let same : weight_of x ≡ weight_of v = ap weight_of (some-injective x v at) in
    omega (arith, same)
in_set (x ∷ xs) (suc p) v w at = let rest = in_set xs p v w at in omega (arith, rest)

in_more : (views : List SeatView) (w : SeatView) → seats_in (views ++ w ∷ []) ≡ seats_in views + weight_of w
in_more [] w = omega arith
in_more (x ∷ xs) w = let rest = in_more xs w in omega (arith, rest)

one_in : (views : List SeatView) (p : ℕ) (v : SeatView) → At views p v → weight_of v ≤ seats_in views
one_in [] p v at = absurd (some-ne-none v (sym at))
one_in (x ∷ xs) zero v at = let same : weight_of x ≡ weight_of v = ap weight_of (some-injective x v at) in omega (arith, same)
one_in (x ∷ xs) (suc p) v at = let rest = one_in xs p v at in omega (arith, rest)

two_in : (views : List SeatView) (p q : ℕ) (v u : SeatView) → At views p v → At views q u → p ≢ q → weight_of v + weight_of u ≤ seats_in views
two_in [] p q v u at at_q apart = absurd (some-ne-none v (sym at))
two_in (x ∷ xs) zero zero v u at at_q apart = absurd (apart refl)
two_in (x ∷ xs) zero (suc q) v u at at_q apart =
    let same : weight_of x ≡ weight_of v = ap weight_of (some-injective x v at) in
    let rest = one_in xs q u at_q in
    omega (arith, same, rest)
two_in (x ∷ xs) (suc p) zero v u at at_q apart =
    let same : weight_of x ≡ weight_of u = ap weight_of (some-injective x u at_q) in
    let rest = one_in xs p v at in
    omega (arith, same, rest)
two_in (x ∷ xs) (suc p) (suc q) v u at at_q apart = let rest = two_in xs p q v u at at_q (λ is. apart (ap suc is)) in omega (arith, rest)

-- ---- the steps

pub begins : IsOneBook [] (fresh ∷ [])
begins = inl (refl, refl)

-- a seat that is not new belongs to a desk with its book put in
seated : (items : List History) (views : List SeatView) (p : ℕ) (v : SeatView) → IsOneBook items views → At views p v → v.is_new ≡ false → IsSeated items views
seated items views p v h at old = ⊎_elim
    (λ (u : IsUnopened items views). absurd (true≢false (ap (λ (x : SeatView). x.is_new) (at_one p v fresh (subst (λ l. At l p v) u.1 at)) ∙ old)))
    (λ (s : IsSeated items views). s)
    h

-- the view after a step that keeps the seat's number: only that seat's part of the history may change
record Step (v w : SeatView) (before after : History) : Type 0 where
  number : w.number ≡ v.number
  last : w.is_last ≡ v.is_last
  made_with : w.opening ≡ v.opening
  heard : w.heard ≡ v.heard
  live : w.is_spent ≡ false
  old : w.is_new ≡ false
  accepted : all_accepted peer_tokens after ≡ true
  guarded : is_guarded after ≡ true
  mine : w.calls ≡ calls_of v.number after
  since : GoesOn w.last after
  more : GoesOn before after
  theirs : (n : ℕ) → n ≢ v.number → calls_of n after ≡ calls_of n before

again : (items items' : List History) (views : List SeatView) (s : IsSeated items views) (p : ℕ) (v w : SeatView) (history : History) → Live views p v → Step v w s.history history
    → InQueue items' (set views p w) history ⊎ IsOut items' (set views p w) history → IsSeated items' (set views p w)
again items items' views s p v w history at step place =
    let here = set_here views p w (in_range views p v at.0) in
    let was : (j : ℕ) (u : SeatView) → Live (set views p w) j u → Was views j u =
    set_live (Was views) views p w (λ live. record { before = v; at = at; number = sym step.number; last = sym step.last; heard = sym step.heard }) (λ j u n e. record { before = u; at = e; number = refl; last = refl; heard = refl }) in
    let kept : seats_in (set views p w) ≡ seats_in views =
    let changed = in_set views p v w at.0 in
    let before = live_weighs v at.1 in
    let after = live_weighs w step.live in
    let same : length w.heard ≡ length v.heard = ap (λ (hs : List Heard). length hs) step.heard in
    omega (arith, changed, before, after, same) in
    let on : (j : ℕ) (u : SeatView) → Live views j u → AllByRecursion (IsHeard s.opening history) u.heard =
    λ j u e. heard_more s.opening s.history history v.number step.more step.theirs u.heard (s.heard_apart p j v u at e) (s.heard j u e) in record {
      opening = s.opening;
      history = history;
      place = place;
      accepted = step.accepted;
      guarded = step.guarded;
      made_with = set_live (λ j u. u.opening ≡ s.opening) views p w (λ live. step.made_with ∙ s.made_with p v at) (λ j u n e. s.made_with j u e);
      began = goes_on_more s.opening s.history history s.began step.more;
      since = set_live (λ j u. GoesOn u.last history) views p w (λ live. step.since) (λ j u n e. goes_on_more u.last s.history history (s.since j u e) step.more);
      parts = set_live (λ j u. u.calls ≡ calls_of u.number history) views p w (λ live. step.mine ∙ ap (λ n. calls_of n history) (sym step.number)) (λ j u n e. s.parts j u e ∙ sym (step.theirs u.number (λ is. n (s.apart j p u v e at is))));
      heard = set_live (λ j u. AllByRecursion (IsHeard s.opening history) u.heard) views p w (λ live. subst (λ hs. AllByRecursion (IsHeard s.opening history) hs) (sym step.heard) (on p v at)) (λ j u n e. on j u e);
      others = λ n nobody. step.theirs n (λ is. (nobody p w (here, step.live)).0 (step.number ∙ sym is)) ∙ s.others n (λ j u e.
          let t = stands views p j v w u at.0 step.number step.heard step.live e in
          (λ is. (nobody j t.0 t.1).0 (t.2 ∙ is), subst (λ hs. AllByRecursion (λ (h : Heard). h.number ≢ n) hs) t.3 (nobody j t.0 t.1).1));
      apart = λ a b u t e f is. s.apart a b (was a u e).before (was b t f).before (was a u e).at (was b t f).at ((was a u e).number ∙ is ∙ sym (was b t f).number);
      later = set_live (λ j u. first_seat s.opening ≤ u.number) views p w (λ live. subst (λ n. first_seat s.opening ≤ n) (sym step.number) (s.later p v at)) (λ j u n e. s.later j u e);
      greatest = λ a b u t e is f. let le = s.greatest a b (was a u e).before (was b t f).before (was a u e).at ((was a u e).last ∙ is) (was b t f).at in
          let x = (was a u e).number in let y = (was b t f).number in omega arith;
      heard_apart = λ a b u t e f.
          let x = was a u e in
          let y = was b t f in
          subst (λ n. AllByRecursion (λ (h : Heard). h.number ≢ n) t.heard) x.number (subst (λ hs. AllByRecursion (λ (h : Heard). h.number ≢ x.before.number) hs) y.heard (s.heard_apart a b x.before y.before x.at y.at));
      heard_below = λ a b u t e is f.
          let x = was a u e in
          let y = was b t f in
          subst (λ n. AllByRecursion (λ (h : Heard). h.number ≤ n) t.heard) x.number (subst (λ hs. AllByRecursion (λ (h : Heard). h.number ≤ x.before.number) hs) y.heard (s.heard_below a b x.before y.before x.at (x.last ∙ is) y.at));
      all = λ j u e is.
          let x = was j u e in
          let count : first_seat s.opening + seats_in views ≡ x.before.number + 1 = s.all j x.before x.at (x.last ∙ is) in
          let number : x.before.number ≡ u.number = x.number in
          omega (arith, kept, count, number);
      old = set_each (λ j u. u.is_new ≡ false) views p w step.old (λ j u n e. s.old j u e);
    }

-- no seat has a number above that of the last one, or below the first
alone : (items : List History) (views : List SeatView) (s : IsSeated items views) (p : ℕ) (v : SeatView) → Live views p v → v.is_last ≡ true → HasNoOthers v.number v.opening s.history
alone items views s p v at last n out =
    let made : v.opening ≡ s.opening = s.made_with p v at in
    let bounds : (m : ℕ) → first_seat s.opening ≤ m → m ≤ v.number → m ≢ n =
    λ m low high is. ⊎_elim (λ (above : v.number < n). let z : ⊥ = omega arith in z) (λ (below : n < first_seat v.opening). let first = ap first_seat made in let z : ⊥ = omega arith in z) out in
    s.others n (λ j u e. (bounds u.number (s.later j u e) (s.greatest p j v u at last e), between bounds u.heard (s.heard j u e) (s.heard_below p j v u at last e))) ∙ ap (calls_of n) (sym made)
  where
    between : ((m : ℕ) → first_seat s.opening ≤ m → m ≤ v.number → m ≢ n) → (hs : List Heard) → AllByRecursion (IsHeard s.opening s.history) hs → AllByRecursion (λ h. h.number ≤ v.number) hs → AllByRecursion (λ h. h.number ≢ n) hs
    between bounds [] all below = tt
    between bounds (h ∷ hs) all below = (bounds h.number all.0.later below.0, between bounds hs all.1 below.1)

-- where as many seats came home to the last one as have a lower number, there is no other seat
whole : (items : List History) (views : List SeatView) (s : IsSeated items views) (p : ℕ) (v : SeatView) → Live views p v → v.is_last ≡ true → first_seat v.opening + length v.heard ≡ v.number
    → HasHeardAll v.number v.heard v.opening s.history
whole items views s p v at last many n own theirs =
    let made : v.opening ≡ s.opening = s.made_with p v at in
    let first : first_seat v.opening ≡ first_seat s.opening = ap first_seat made in
    let count : first_seat s.opening + seats_in views ≡ v.number + 1 = s.all p v at last in
    let weight = live_weighs v at.1 in
    let one : (j : ℕ) (u : SeatView) → Live views j u → j ≢ p → ⊥ =
    λ j u e other.
    let both = two_in views p j v u at.0 e.0 (λ is. other (sym is)) in
    let more = live_weighs u e.1 in
    omega (arith, first, count, weight, both, more, many) in
    s.others n (λ j u e. dite (ℕ_discrete j p)
    (λ same. subst (λ (y : SeatView). (y.number ≢ n) × AllByRecursion (λ (h : Heard). h.number ≢ n) y.heard) (some-injective v u (sym at.0 ∙ ap (get_elem? views) (sym same) ∙ e.0)) (own, theirs))
    (λ no. absurd (one j u e no)))
    ∙ ap (calls_of n) (sym made)

pub takes : (p : ℕ) (v : SeatView) → v.is_spent ≡ false → Pops IsOneBook p v (IsTaken v)
takes p v live x items views h at = ⊎_elim
    (λ (u : IsUnopened (x ∷ items) views). let e = u.0 in cc)
    (λ (s : IsSeated (x ∷ items) views). ⊎_elim
    (λ (q : InQueue (x ∷ items) views s.history).
    let w = taken v x in
    let mine : Live views p v = (at, live) in
    let made : v.opening ≡ s.opening = s.made_with p v mine in
    let one = q.one in
    let here : x ≡ s.history = cc in
    let left : items ≡ [] = cc in (
      w,
      inr (again (x ∷ items) items views s p v w s.history mine (record {
        number = refl;
        last = refl;
        made_with = refl;
        heard = refl;
        live = live;
        old = s.old p v at;
        accepted = s.accepted;
        guarded = s.guarded;
        mine = s.parts p v mine;
        since = s.since p v mine;
        more = goes_on_same s.history;
        theirs = λ n other. refl;
      }) (inr (record {
        empty = left;
        holder = p;
        held = (w, set_here views p w (in_range views p v at), ap Some here);
        only = set_each (λ j u. (u.book ≡ None) ⊎ ((j ≡ p) × (u.book ≡ Some s.history))) views p w (inr (refl, ap Some here)) (λ j u n e. inl (q.nobody j u e));
      }))),
      record {
        accepted = ap (all_accepted peer_tokens) here ∙ s.accepted;
        guarded = ap is_guarded here ∙ s.guarded;
        mine = ap (calls_of v.number) here ∙ sym (s.parts p v mine);
        since = subst (GoesOn v.last) (sym here) (s.since p v mine);
        began = subst (GoesOn v.opening) (sym here) (subst (λ o. GoesOn o s.history) (sym made) s.began);
        heard = subst (λ y. AllByRecursion (IsHeard v.opening y) v.heard) (sym here) (subst (λ o. AllByRecursion (IsHeard o s.history) v.heard) (sym made) (s.heard p v mine));
        alone = λ last. subst (HasNoOthers v.number v.opening) (sym here) (alone (x ∷ items) views s p v mine last);
        whole = λ last many. subst (HasHeardAll v.number v.heard v.opening) (sym here) (whole (x ∷ items) views s p v mine last many);
        out = refl;
      },
    ))
    (λ (o : IsOut (x ∷ items) views s.history). let e = o.empty in cc)
    s.place)
    h

follows_others : (n : ℕ) (h x : History) → Follows n h x → (m : ℕ) → m ≢ n → calls_of m x ≡ calls_of m h
follows_others n h x f m other = ⊎_elim
    (λ (same : x ≡ h). ap (calls_of m) same)
    (λ (one : (e : Entry) × (e.seat ≡ n) × (x ≡ h ++ e ∷ [])). ap (calls_of m) one.2 ∙ others_same m h one.0 (λ is. other (is ∙ one.1)))
    f

follows_goes_on : (n : ℕ) (h x : History) → Follows n h x → GoesOn h x
follows_goes_on n h x f = ⊎_elim
    (λ (same : x ≡ h). subst (GoesOn h) (sym same) (goes_on_same h))
    (λ (one : (e : Entry) × (e.seat ≡ n) × (x ≡ h ++ e ∷ [])). (one.0 ∷ [], one.2))
    f

same_Some : (x y : History) → Some x ≡ Some y → x ≡ y
same_Some x y e = cc

Some_ne_None : (x : History) → Some x ≢ None
Some_ne_None x e = cc

pub puts_back : (n p : ℕ) (v : SeatView) (x history : History) → v.is_spent ≡ false → n ≤ 1 → v.book ≡ Some history → Follows v.number history x → all_accepted peer_tokens x ≡ true → is_guarded x ≡ true → Pushes IsOneBook n p v x (λ w. w ≡ returned v x)
puts_back n p v x history live one mine follows accepted guarded items views room h at = ⊎_elim
    (λ (u : IsUnopened items views). absurd (Some_ne_None history (sym mine ∙ ap (λ (y : SeatView). y.book) (sym (at_one p v fresh (subst (λ l. At l p v) u.1 at))))))
    (λ (s : IsSeated items views). ⊎_elim
    (λ (q : InQueue items views s.history). absurd (Some_ne_None history (sym mine ∙ q.nobody p v at)))
    (λ (o : IsOut items views s.history).
    let w = returned v x in
    let is : (p ≡ o.holder) × (v.book ≡ Some s.history) = ⊎_elim (λ none_here. absurd (Some_ne_None history (sym mine ∙ none_here))) (λ it. it) (o.only p v at) in
    let here : history ≡ s.history = same_Some history s.history (sym mine ∙ is.1) in
    let goes : Follows v.number s.history x = subst (λ h. Follows v.number h x) here follows in (
      w,
      inr (again items (items ++ x ∷ []) views s p v w x (at, live) (record {
        number = refl;
        last = refl;
        made_with = refl;
        heard = refl;
        live = live;
        old = s.old p v at;
        accepted = accepted;
        guarded = guarded;
        mine = refl;
        since = goes_on_same x;
        more = follows_goes_on v.number s.history x goes;
        theirs = λ m other. follows_others v.number s.history x goes m other;
      }) (inl (record {
        one = ap (λ l. l ++ x ∷ []) o.empty;
        nobody = set_each (λ j u. u.book ≡ None) views p w refl (λ j u no e. ⊎_elim (λ none_there. none_there) (λ (it : (j ≡ o.holder) × (u.book ≡ Some s.history)). absurd (no (it.0 ∙ sym is.0))) (o.only j u e));
      }))),
      refl,
    ))
    s.place)
    h

pub opens : (n p : ℕ) (x : History) → all_accepted peer_tokens x ≡ true → is_guarded x ≡ true → Pushes IsOneBook n p fresh x (λ w. w ≡ opened x)
opens n p x accepted guarded items views room h at = ⊎_elim
    (λ (u : IsUnopened items views).
    let w = opened x in
    let first = first_pass p fresh fresh (subst (λ l. At l p fresh) u.1 at) in
    let only : set views p w ≡ w ∷ [] = λ i. set (u.1 i) (first i) w in
    let each : (F : ℕ → SeatView → Type 0) → F 0 w → (j : ℕ) (t : SeatView) → At (w ∷ []) j t → F j t = λ F mine. push_each F [] w mine (λ j t none_there. absurd (some-ne-none t (sym none_there))) in
    let live : (F : ℕ → SeatView → Type 0) → F 0 w → (j : ℕ) (t : SeatView) → Live (w ∷ []) j t → F j t = λ F mine j t e. each F mine j t e.0 in (
      w,
      inr (subst (λ l. IsSeated (items ++ x ∷ []) l) (sym only) (record {
        opening = x;
        history = x;
        place = inl (record { one = ap (λ l. l ++ x ∷ []) u.0; nobody = each (λ j t. t.book ≡ None) refl });
        accepted = accepted;
        guarded = guarded;
        made_with = live (λ j t. t.opening ≡ x) refl;
        began = goes_on_same x;
        since = live (λ j t. GoesOn t.last x) (goes_on_same x);
        parts = live (λ j t. t.calls ≡ calls_of t.number x) (sym (none_from (first_seat x) x (omega arith)));
        heard = live (λ j t. AllByRecursion (IsHeard x x) t.heard) tt;
        others = λ m nobody. refl;
        apart = λ a b t s e f is. live (λ j t. j ≡ 0) refl a t e ∙ sym (live (λ j t. j ≡ 0) refl b s f);
        later = live (λ j t. first_seat x ≤ t.number) (omega arith);
        greatest = λ a b t s e is f. let x1 = live (λ j t. t.number ≡ w.number) refl a t e in let y1 = live (λ j t. t.number ≡ w.number) refl b s f in omega arith;
        heard_apart = λ a b t s e f. live (λ j y. AllByRecursion (λ (h : Heard). h.number ≢ t.number) y.heard) tt b s f;
        heard_below = λ a b t s e is f. live (λ j y. AllByRecursion (λ (h : Heard). h.number ≤ t.number) y.heard) tt b s f;
        all = live (λ j t. t.is_last ≡ true → first_seat x + seats_in (w ∷ []) ≡ t.number + 1) (λ is. refl);
        old = each (λ j t. t.is_new ≡ false) refl;
      })),
      refl,
    ))
    (λ (s : IsSeated items views). absurd (true≢false (s.old p fresh at)))
    h

pub nexts : (p : ℕ) (v : SeatView) → v.is_new ≡ false → v.is_last ≡ true → v.book ≡ None → v.is_spent ≡ false → Forks IsOneBook p v (moved_on v) (left_behind v)
nexts p v old last idle live items views h there =
    let s = seated items views p v h there old in
    let at : Live views p v = (there, live) in
    let left = moved_on v in
    let right = left_behind v in
    let vs = set views p left in
    let every_one : (F : ℕ → SeatView → Type 0) → F p left → F (length vs) right → ((j : ℕ) (u : SeatView) → j ≢ p → At views j u → F j u) → (j : ℕ) (u : SeatView) → At (vs ++ right ∷ []) j u → F j u = λ F mine new others. push_each F vs right new (set_each F views p left mine others) in
    let each : (F : ℕ → SeatView → Type 0) → F p left → F (length vs) right → ((j : ℕ) (u : SeatView) → j ≢ p → Live views j u → F j u) → (j : ℕ) (u : SeatView) → Live (vs ++ right ∷ []) j u → F j u = λ F mine new others. push_live F vs right new (set_live F views p left (λ e. mine) others) in
    let beside : (j : ℕ) (u : SeatView) → j ≢ p → Live views j u → u.number ≢ v.number = λ j u no e is. no (s.apart j p u v e at is) in
    let below : (j : ℕ) (u : SeatView) → Live views j u → u.number ≤ v.number = λ j u e. s.greatest p j v u at last e in
    let heard_low : (j : ℕ) (u : SeatView) → Live views j u → AllByRecursion (λ (h : Heard). h.number ≤ v.number) u.heard = λ j u e. s.heard_below p j v u at last e in
    let heard_new : (j : ℕ) (u : SeatView) → Live views j u → AllByRecursion (λ (h : Heard). h.number ≢ v.number + 1) u.heard = λ j u e. every (λ h. h.number ≤ v.number) (λ h. h.number ≢ v.number + 1) (λ h le is. let z : ⊥ = omega arith in z) u.heard (heard_low j u e) in
    let not_last : (j : ℕ) (u : SeatView) → j ≢ p → Live views j u → u.is_last ≢ true = λ j u no e is. let le = s.greatest j p u v e is at in let ge = below j u e in beside j u no e (omega arith) in
    let unused : calls_of (v.number + 1) s.history ≡ [] =
    let from = s.later p v at in
    s.others (v.number + 1) (λ j u e. (λ is. let le = below j u e in let z : ⊥ = omega arith in z, heard_new j u e)) ∙ none_from (v.number + 1) s.opening (omega arith) in
    inr (record {
      opening = s.opening;
      history = s.history;
      place = ⊎_elim
          (λ (q : InQueue items views s.history). inl (record { one = q.one; nobody = every_one (λ j u. u.book ≡ None) idle idle (λ j u no e. q.nobody j u e) }))
          (λ (o : IsOut items views s.history).
          let u = o.held.0 in
          let other : o.holder ≢ p = λ is. Some_ne_None s.history (sym o.held.2 ∙ ap (λ (y : SeatView). y.book) (some-injective u v (sym o.held.1 ∙ ap (get_elem? views) is ∙ there)) ∙ idle) in
          inr (record {
            empty = o.empty;
            holder = o.holder;
            held = (u, at_longer vs (right ∷ []) o.holder u (set_else views p o.holder left other ∙ o.held.1), o.held.2);
            only = every_one (λ j t. (t.book ≡ None) ⊎ ((j ≡ o.holder) × (t.book ≡ Some s.history))) (inl idle) (inl idle) (λ j t no e. o.only j t e);
          }))
          s.place;
      accepted = s.accepted;
      guarded = s.guarded;
      made_with = each (λ j u. u.opening ≡ s.opening) (s.made_with p v at) (s.made_with p v at) (λ j u no e. s.made_with j u e);
      began = s.began;
      since = each (λ j u. GoesOn u.last s.history) (s.since p v at) (s.since p v at) (λ j u no e. s.since j u e);
      parts = each (λ j u. u.calls ≡ calls_of u.number s.history) (sym unused) (s.parts p v at) (λ j u no e. s.parts j u e);
      heard = each (λ j u. AllByRecursion (IsHeard s.opening s.history) u.heard) (s.heard p v at) tt (λ j u no e. s.heard j u e);
      others = λ n nobody. s.others n (λ j u e. dite (ℕ_discrete j p)
          (λ same.
          let is : v ≡ u = some-injective v u (sym there ∙ ap (get_elem? views) (sym same) ∙ e.0) in
          let as_left = nobody p left (at_longer vs (right ∷ []) p left (set_here views p left (in_range views p v there)), live) in
          let as_right = nobody (length vs) right (at_end vs right, live) in
          subst (λ (y : SeatView). (y.number ≢ n) × AllByRecursion (λ h. h.number ≢ n) y.heard) is (as_right.0, as_left.1))
          (λ no. nobody j u (at_longer vs (right ∷ []) j u (set_else views p j left no ∙ e.0), e.1)));
      apart = λ a b u t e f is.
          let Apart : ℕ → SeatView → Type 0 = λ a u. (b : ℕ) (t : SeatView) → Live (vs ++ right ∷ []) b t → u.number ≡ t.number → a ≡ b in
          each Apart
          (each (λ b t. left.number ≡ t.number → p ≡ b) (λ same. refl) (λ same. absurd (omega arith)) (λ b t no e same. let le = below b t e in absurd (omega arith)))
          (each (λ b t. right.number ≡ t.number → length vs ≡ b) (λ same. absurd (omega arith)) (λ same. refl) (λ b t no e same. absurd (beside b t no e (sym same))))
          (λ j t no e. each (λ b w. t.number ≡ w.number → j ≡ b) (λ same. let le = below j t e in absurd (omega arith)) (λ same. absurd (beside j t no e same)) (λ b w no' e' same. s.apart j b t w e e' same))
          a u e b t f is;
      later = each (λ j u. first_seat s.opening ≤ u.number) (let from = s.later p v at in omega arith) (s.later p v at) (λ j u no e. s.later j u e);
      greatest = λ a b u t e is f.
          let Top : ℕ → SeatView → Type 0 = λ a u. u.is_last ≡ true → (b : ℕ) (t : SeatView) → Live (vs ++ right ∷ []) b t → t.number ≤ u.number in
          each Top
          (λ top. each (λ b t. t.number ≤ left.number) (omega arith) (omega arith) (λ b t no e. let le = below b t e in omega arith))
          (λ top. absurd (true≢false (sym top)))
          (λ j t no e top. absurd (not_last j t no e top))
          a u e is b t f;
      heard_apart = λ a b u t e f.
          let Beside : ℕ → SeatView → Type 0 = λ a u. (b : ℕ) (t : SeatView) → Live (vs ++ right ∷ []) b t → AllByRecursion (λ (h : Heard). h.number ≢ u.number) t.heard in
          each Beside
          (each (λ b t. AllByRecursion (λ (h : Heard). h.number ≢ v.number + 1) t.heard) (heard_new p v at) tt (λ b t no e. heard_new b t e))
          (each (λ b t. AllByRecursion (λ (h : Heard). h.number ≢ v.number) t.heard) (s.heard_apart p p v v at at) tt (λ b t no e. s.heard_apart p b v t at e))
          (λ j x no e. each (λ b t. AllByRecursion (λ (h : Heard). h.number ≢ x.number) t.heard) (s.heard_apart j p x v e at) tt (λ b t no' f. s.heard_apart j b x t e f))
          a u e b t f;
      heard_below = λ a b u t e is f.
          let Top : ℕ → SeatView → Type 0 = λ a u. u.is_last ≡ true → (b : ℕ) (t : SeatView) → Live (vs ++ right ∷ []) b t → AllByRecursion (λ (h : Heard). h.number ≤ u.number) t.heard in
          let low : (hs : List Heard) → AllByRecursion (λ (h : Heard). h.number ≤ v.number) hs → AllByRecursion (λ (h : Heard). h.number ≤ v.number + 1) hs = every (λ h. h.number ≤ v.number) (λ h. h.number ≤ v.number + 1) (λ h le. omega arith) in
          each Top
          (λ top. each (λ b t. AllByRecursion (λ (h : Heard). h.number ≤ v.number + 1) t.heard) (low v.heard (heard_low p v at)) tt (λ b t no e. low t.heard (heard_low b t e)))
          (λ top. absurd (true≢false (sym top)))
          (λ j x no e top. absurd (not_last j x no e top))
          a u e is b t f;
      all = each (λ j u. u.is_last ≡ true → first_seat s.opening + seats_in (vs ++ right ∷ []) ≡ u.number + 1)
          (λ is.
          let count : first_seat s.opening + seats_in views ≡ v.number + 1 = s.all p v at last in
          let changed : seats_in vs + weight_of v ≡ seats_in views + weight_of left = in_set views p v left there in
          let longer : seats_in (vs ++ right ∷ []) ≡ seats_in vs + weight_of right = in_more vs right in
          let before : weight_of v ≡ length v.heard + 1 = live_weighs v live in
          let after : weight_of left ≡ length v.heard + 1 = live_weighs left live in
          let new : weight_of right ≡ 1 = live_weighs right live in
          let all : first_seat s.opening + seats_in (vs ++ right ∷ []) ≡ v.number + 1 + 1 = omega (arith, count, changed, longer, before, after, new) in
          all)
          (λ is. absurd (true≢false (sym is)))
          (λ j u no e is. absurd (not_last j u no e is));
      old = every_one (λ j u. u.is_new ≡ false) old old (λ j u no e. s.old j u e);
    })

-- the view that stood there before a seat came home
record WasBeside (views : List SeatView) (q j : ℕ) (u : SeatView) : Type 0 where
  before : SeatView
  at : Live views j before
  number : before.number ≡ u.number
  last : before.is_last ≡ u.is_last
  other : j ≢ q

pub joins : (p q : ℕ) (v w : SeatView) → v.is_new ≡ false → v.is_spent ≡ false → w.is_spent ≡ false → v.book ≡ None → w.book ≡ None → Merges IsOneBook p v q w (joined v w) spent
joins p q v w old live live_too idle idle_too items views h there differ there_too =
    let s = seated items views p v h there old in
    let both = joined v w in
    let vs = set views p both in
    let ws = set vs q spent in
    let at : Live views p v = (there, live) in
    let at_q : Live views q w = (sym (set_else views p q both differ) ∙ there_too, live_too) in
    let every_one : (F : ℕ → SeatView → Type 0) → F p both → F q spent → ((j : ℕ) (u : SeatView) → j ≢ p → At views j u → F j u) → (j : ℕ) (u : SeatView) → At ws j u → F j u =
    λ F mine gone others. set_each F vs q spent gone (λ j u n e. set_each F views p both mine others j u e) in
    let each : (F : ℕ → SeatView → Type 0) → F p both → ((j : ℕ) (u : SeatView) → j ≢ p → j ≢ q → Live views j u → F j u) → (j : ℕ) (u : SeatView) → Live ws j u → F j u =
    λ F mine others. set_live F vs q spent (λ e. absurd (true≢false e)) (λ j u n e. set_live (λ j u. j ≢ q → F j u) views p both (λ e n. mine) (λ j u np e n. others j u np n e) j u e n) in
    let p_not_q : p ≢ q = λ is. differ (sym is) in
    let was : (j : ℕ) (u : SeatView) → Live ws j u → WasBeside views q j u = each (WasBeside views q) (record { before = v; at = at; number = refl; last = refl; other = p_not_q }) (λ j u n m e. record { before = u; at = e; number = refl; last = refl; other = m }) in
    let stays : (j : ℕ) (u : SeatView) → j ≢ p → j ≢ q → At views j u → At ws j u = λ j u n m e. set_else vs q j spent m ∙ set_else views p j both n ∙ e in
    let both_at : Live ws p both = (set_else vs q p spent p_not_q ∙ set_here views p both (in_range views p v there), live) in
    inr (record {
      opening = s.opening;
      history = s.history;
      place = ⊎_elim
          (λ (x : InQueue items views s.history). inl (record { one = x.one; nobody = every_one (λ j u. u.book ≡ None) idle refl (λ j u n e. x.nobody j u e) }))
          (λ (o : IsOut items views s.history).
          let u = o.held.0 in
          let not_p : o.holder ≢ p = λ is. Some_ne_None s.history (sym o.held.2 ∙ ap (λ (y : SeatView). y.book) (some-injective u v (sym o.held.1 ∙ ap (get_elem? views) is ∙ there)) ∙ idle) in
          let not_q : o.holder ≢ q = λ is. Some_ne_None s.history (sym o.held.2 ∙ ap (λ (y : SeatView). y.book) (some-injective u w (sym o.held.1 ∙ ap (get_elem? views) is ∙ at_q.0)) ∙ idle_too) in
          inr (record {
            empty = o.empty;
            holder = o.holder;
            held = (u, stays o.holder u not_p not_q o.held.1, o.held.2);
            only = every_one (λ j t. (t.book ≡ None) ⊎ ((j ≡ o.holder) × (t.book ≡ Some s.history))) (inl idle) (inl refl) (λ j t n e. o.only j t e);
          }))
          s.place;
      accepted = s.accepted;
      guarded = s.guarded;
      made_with = each (λ j u. u.opening ≡ s.opening) (s.made_with p v at) (λ j u n m e. s.made_with j u e);
      began = s.began;
      since = each (λ j u. GoesOn u.last s.history) (s.since p v at) (λ j u n m e. s.since j u e);
      parts = each (λ j u. u.calls ≡ calls_of u.number s.history) (s.parts p v at) (λ j u n m e. s.parts j u e);
      heard = each (λ j u. AllByRecursion (IsHeard s.opening s.history) u.heard)
          (record { calls = sym (s.parts q w at_q); since = s.since q w at_q; later = s.later q w at_q }, all_of_both (IsHeard s.opening s.history) w.heard v.heard (s.heard q w at_q) (s.heard p v at))
          (λ j u n m e. s.heard j u e);
      others = λ n nobody.
          let mine = nobody p both both_at in
          let Is : SeatView → Type 0 = λ y. (y.number ≢ n) × AllByRecursion (λ (h : Heard). h.number ≢ n) y.heard in
          s.others n (λ j u e. dite (ℕ_discrete j p)
          (λ same. subst Is (some-injective v u (sym there ∙ ap (get_elem? views) (sym same) ∙ e.0)) (mine.0, all_second (λ h. h.number ≢ n) w.heard v.heard mine.1.1))
          (λ not_p. dite (ℕ_discrete j q)
          (λ same. subst Is (some-injective w u (sym at_q.0 ∙ ap (get_elem? views) (sym same) ∙ e.0)) (mine.1.0, all_first (λ h. h.number ≢ n) w.heard v.heard mine.1.1))
          (λ not_q. nobody j u (stays j u not_p not_q e.0, e.1))));
      apart = λ a b u t e f is. s.apart a b (was a u e).before (was b t f).before (was a u e).at (was b t f).at ((was a u e).number ∙ is ∙ sym (was b t f).number);
      later = each (λ j u. first_seat s.opening ≤ u.number) (s.later p v at) (λ j u n m e. s.later j u e);
      greatest = λ a b u t e is f. let le = s.greatest a b (was a u e).before (was b t f).before (was a u e).at ((was a u e).last ∙ is) (was b t f).at in
          let x = (was a u e).number in let y = (was b t f).number in omega arith;
      heard_apart = λ a b u t e f.
          let x = was a u e in
          let F : SeatView → Type 0 = λ y. AllByRecursion (λ (h : Heard). h.number ≢ u.number) y.heard in
          let moved : (hs : List Heard) → AllByRecursion (λ (h : Heard). h.number ≢ x.before.number) hs → AllByRecursion (λ (h : Heard). h.number ≢ u.number) hs = λ hs all. subst (λ n. AllByRecursion (λ (h : Heard). h.number ≢ n) hs) x.number all in
          each (λ b y. F y)
          (λ is. x.other (s.apart a q x.before w x.at at_q (x.number ∙ sym is)), all_of_both (λ h. h.number ≢ u.number) w.heard v.heard (moved w.heard (s.heard_apart a q x.before w x.at at_q)) (moved v.heard (s.heard_apart a p x.before v x.at at)))
          (λ j y n m g. moved y.heard (s.heard_apart a j x.before y x.at g))
          b t f;
      heard_below = λ a b u t e is f.
          let x = was a u e in
          let top = x.last ∙ is in
          let F : SeatView → Type 0 = λ y. AllByRecursion (λ (h : Heard). h.number ≤ u.number) y.heard in
          let moved : (hs : List Heard) → AllByRecursion (λ (h : Heard). h.number ≤ x.before.number) hs → AllByRecursion (λ (h : Heard). h.number ≤ u.number) hs = λ hs all. subst (λ n. AllByRecursion (λ (h : Heard). h.number ≤ n) hs) x.number all in
          each (λ b y. F y)
          (subst (λ n. w.number ≤ n) x.number (s.greatest a q x.before w x.at top at_q), all_of_both (λ h. h.number ≤ u.number) w.heard v.heard (moved w.heard (s.heard_below a q x.before w x.at top at_q)) (moved v.heard (s.heard_below a p x.before v x.at top at)))
          (λ j y n m g. moved y.heard (s.heard_below a j x.before y x.at top g))
          b t f;
      all = λ j u e is.
          let x = was j u e in
          let count : first_seat s.opening + seats_in views ≡ x.before.number + 1 = s.all j x.before x.at (x.last ∙ is) in
          let number : x.before.number ≡ u.number = x.number in
          let one : seats_in vs + weight_of v ≡ seats_in views + weight_of both = in_set views p v both there in
          let two : seats_in ws + weight_of w ≡ seats_in vs + weight_of spent = in_set vs q w spent there_too in
          let own : weight_of v ≡ length v.heard + 1 = live_weighs v live in
          let other : weight_of w ≡ length w.heard + 1 = live_weighs w live_too in
          let together : weight_of both ≡ suc (length (w.heard ++ v.heard)) + 1 = live_weighs both live in
          let gone : weight_of spent ≡ 0 = refl in
          let long = length-append w.heard v.heard in
          let all : first_seat s.opening + seats_in ws ≡ u.number + 1 = omega (arith, count, number, one, two, own, other, together, gone, long) in
          all;
      old = every_one (λ j u. u.is_new ≡ false) old refl (λ j u n e. s.old j u e);
    })
