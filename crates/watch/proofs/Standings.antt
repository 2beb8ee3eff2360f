-- What is forgotten is what the blocks that were taken off showed.
use Rattle.std.proofs.Common.{◌≡◌, ℕ, Bool, true, false, cond, ◌<◌, List, [], ◌∷◌, ◌++◌, map, sym, ap, ◌∙◌, refl, arith, append-nil}
use Rattle.std.specs.Prelude.{filter, nat_le}
use Rattle.std.specs.List.{AllByRecursion}
use Rattle.std.proofs.lemmas.Bool.{leb-true, le-leb}
use Rattle.std.proofs.lemmas.List.Elements.{filter-append}
use Rattle.chain.specs.Blocks.{names}
use Rattle.watch.specs.declared.spends.Spend.{Spend}
use Rattle.watch.specs.declared.unclaimed.Given.{Given}
use Rattle.watch.specs.Watching.{Seen, spend_at, given_at, claims_after, seen_up_to}
use Rattle.watch.specs.Standing.{Reading, Call, Look, Back, standing, AreInOrder, after_reading, seen_of, seen_by, SeesWhatStands}
use Rattle.watch.proofs.Giving.{all_append}

all_pass : {A : Type 0} (p : A → Bool) (xs : List A) → AllByRecursion (λ x. p x ≡ true) xs → filter p xs ≡ xs
all_pass p [] u = refl
all_pass p (x ∷ xs) (e, u) = ap (λ b. cond b (x ∷ filter p xs) (filter p xs)) e ∙ ap (λ ys. x ∷ ys) (all_pass p xs u)

none_pass : {A B : Type 0} (f : A → B) (p : B → Bool) (xs : List A) → ((x : A) → p (f x) ≡ false) → filter p (map f xs) ≡ []
none_pass f p [] u = refl
none_pass f p (x ∷ xs) u = ap (λ b. cond b (f x ∷ filter p (map f xs)) (filter p (map f xs))) (u x) ∙ none_pass f p xs u

all_mapped : {A B : Type 0} (f : A → B) (P : B → Type 0) (xs : List A) → ((x : A) → P (f x)) → AllByRecursion P (map f xs)
all_mapped f P [] u = tt
all_mapped f P (x ∷ xs) u = (u x, all_mapped f P xs u)

implied : {A : Type 0} (P Q : A → Type 0) (xs : List A) → ((x : A) → P x → Q x) → AllByRecursion P xs → AllByRecursion Q xs
implied P Q [] f u = tt
implied P Q (x ∷ xs) f (p, u) = (f x p, implied P Q xs f u)

kept_by : {A : Type 0} (P : A → Type 0) (p : A → Bool) (x : A) (xs : List A) (b : Bool) → P x → AllByRecursion P (filter p xs) → AllByRecursion P (cond b (x ∷ filter p xs) (filter p xs))
kept_by P p x xs true u v = (u, v)
kept_by P p x xs false u v = v

kept : {A : Type 0} (P : A → Type 0) (p : A → Bool) (xs : List A) → AllByRecursion P xs → AllByRecursion P (filter p xs)
kept P p [] u = tt
kept P p (x ∷ xs) (q, u) = kept_by P p x xs (p x) q (kept P p xs u)

-- each block is above those before it
abbrev IsRising : List Reading → Type 0
IsRising [] = Unit {0}
IsRising (r ∷ older) = AllByRecursion (λ q. q.height < r.height) older × IsRising older

rising_by : (h : ℕ) (r : Reading) (rest : List Reading) (b : Bool) → AllByRecursion (λ q. q.height < r.height) rest → IsRising rest → IsRising (cond b (r ∷ rest) rest)
rising_by h r rest true u v = (u, v)
rising_by h r rest false u v = v

rising : (h : ℕ) (rs : List Reading) → IsRising rs → IsRising (filter (λ r. nat_le r.height h) rs)
rising h [] u = tt
rising h (r ∷ older) (u, v) =
    rising_by h r (filter (λ q. nat_le q.height h) older) (nat_le r.height h) (kept (λ (q : Reading). q.height < r.height) (λ q. nat_le q.height h) older u) (rising h older v)

in_order : (calls : List Call) → AreInOrder calls → IsRising (standing calls)
in_order [] u = tt
in_order (Look r ∷ calls) (u, v) = (u, in_order calls v)
in_order (Back h ∷ calls) u = rising h (standing calls) (in_order calls u)

-- what was seen has the heights of the blocks that showed it
abbrev AreUpTo : ℕ → Seen → Type 0
AreUpTo h s = AllByRecursion (λ x. nat_le x.height h ≡ true) s.spends × AllByRecursion (λ g. nat_le g.height h ≡ true) s.given

up_to : (h : ℕ) (rs : List Reading) → AllByRecursion (λ r. nat_le r.height h ≡ true) rs → AreUpTo h (seen_of rs)
unfolding seen_of
up_to h [] u = (tt, tt)
up_to h (r ∷ older) (e, u) =
    let v = up_to h older u in (
      all_append (λ (x : Spend). nat_le x.height h ≡ true) (seen_of older).spends (map (spend_at r.height) (filter (names r.known.terms.funding) r.transactions)) v.0
          (all_mapped (spend_at r.height) (λ (x : Spend). nat_le x.height h ≡ true) (filter (names r.known.terms.funding) r.transactions) (λ x. e)),
      all_append (λ (g : Given). nat_le g.height h ≡ true) (seen_of older).given (map (given_at r.height) (claims_after (seen_of older) r.height r.transactions r.known)) v.1
          (all_mapped (given_at r.height) (λ (g : Given). nat_le g.height h ≡ true) (claims_after (seen_of older) r.height r.transactions r.known) (λ x. e)),
    )

abbrev seen_with : List Spend → List Given → Seen
seen_with spends given = record { spends = spends; given = given }

pub same_seen : (a b : List Spend) (c d : List Given) → a ≡ b → c ≡ d → seen_with a c ≡ seen_with b d
same_seen a b c d e f = ap (λ (x : List Spend). seen_with x c) e ∙ ap (λ (y : List Given). seen_with b y) f

all_kept : (h : ℕ) (s : Seen) → AreUpTo h s → seen_up_to h s ≡ s
all_kept h s (u, v) = same_seen _ s.spends _ s.given (all_pass (λ x. nat_le x.height h) s.spends u) (all_pass (λ g. nat_le g.height h) s.given v)

forgotten : (h : ℕ) (r : Reading) (s : Seen) → nat_le r.height h ≡ false → seen_up_to h (after_reading r s) ≡ seen_up_to h s
forgotten h r s e =
    same_seen _ (filter (λ x. nat_le x.height h) s.spends) _ (filter (λ g. nat_le g.height h) s.given)
    (filter-append (λ x. nat_le x.height h) s.spends (map (spend_at r.height) (filter (names r.known.terms.funding) r.transactions))
    ∙ ap (λ (x : List Spend). filter (λ x. nat_le x.height h) s.spends ++ x) (none_pass (spend_at r.height) (λ x. nat_le x.height h) (filter (names r.known.terms.funding) r.transactions) (λ x. e))
    ∙ append-nil _)
    (filter-append (λ g. nat_le g.height h) s.given (map (given_at r.height) (claims_after s r.height r.transactions r.known))
    ∙ ap (λ (x : List Given). filter (λ g. nat_le g.height h) s.given ++ x) (none_pass (given_at r.height) (λ g. nat_le g.height h) (claims_after s r.height r.transactions r.known) (λ x. e))
    ∙ append-nil _)

below : (h k : ℕ) (q : Reading) → nat_le k h ≡ true → q.height < k → nat_le q.height h ≡ true
below h k q e l = let m = leb-true k h e in le-leb q.height h (omega arith)

forgets : (h : ℕ) (rs : List Reading) → IsRising rs → seen_up_to h (seen_of rs) ≡ seen_of (filter (λ r. nat_le r.height h) rs)
unfolding seen_of
forgets h [] u = refl
forgets h (r ∷ older) (u, v) = by (nat_le r.height h) refl (forgets h older v)
  where
    by : (b : Bool) → nat_le r.height h ≡ b → seen_up_to h (seen_of older) ≡ seen_of (filter (λ q. nat_le q.height h) older) → seen_up_to h (after_reading r (seen_of older)) ≡ seen_of (cond b (r ∷ filter (λ q. nat_le q.height h) older) (filter (λ q. nat_le q.height h) older))
    by true e k =
        let all = implied (λ (q : Reading). q.height < r.height) (λ (q : Reading). nat_le q.height h ≡ true) older (λ q l. below h r.height q e l) u in
        all_kept h (seen_of (r ∷ older)) (up_to h (r ∷ older) (e, all)) ∙ ap (λ qs. seen_of (r ∷ qs)) (sym (all_pass (λ q. nat_le q.height h) older all))
    by false e k = forgotten h r (seen_of older) e ∙ k

pub sees_what_stands : SeesWhatStands
unfolding seen_of seen_by
sees_what_stands [] u = refl
sees_what_stands (Look r ∷ calls) (u, v) = ap (after_reading r) (sees_what_stands calls v)
sees_what_stands (Back h ∷ calls) u = ap (seen_up_to h) (sees_what_stands calls u) ∙ forgets h (standing calls) (in_order calls u)
