-- What was given is among what is due.
use Rattle.std.proofs.Common.{◌≡◌, ℕ, ◌++◌, Bool, true, false, cond, List, [], ◌∷◌, subst, sym, ap, ◌∙◌}
use Rattle.std.specs.Prelude.{Contains}
use Rattle.std.specs.List.{AllByRecursion}
use Rattle.std.proofs.lemmas.Grind.{flat_map-append}
use Rattle.std.proofs.lemmas.List.Elements.{Contains-push, Contains-append_left, Contains-append_right}
use Rattle.tx.specs.Fields.{Transaction}
use Rattle.penalty.specs.Claimable.{Claimable}
use Rattle.resolve.specs.declared.known.Known.{Known}
use Rattle.resolve.specs.Due.{due_of}
use Rattle.watch.specs.declared.spends.Spend.{Spend}
use Rattle.watch.specs.declared.unclaimed.Given.{Given}
use Rattle.watch.specs.Verdicts.{verdict_of}
use Rattle.watch.specs.Watching.{Seen, Extends, is_given, given_at, unclaimed, due_by, spends_after, claims_after}

-- the first element, and a later one
first : {A : Type 0} (x : A) (xs : List A) → Contains (x ∷ xs) x
first x xs = Contains-append_left (x ∷ []) xs x (Contains-push [] x)

later : {A : Type 0} (x y : A) (xs : List A) → Contains xs y → Contains (x ∷ xs) y
later x y xs i = Contains-append_right (x ∷ []) xs y i

-- those that weren't given yet are some of all
some_of : (h : ℕ) (all : List Claimable) (given : List Given) (os : List Claimable) → ((o : Claimable) → Contains os o → Contains all o) → AllByRecursion (Contains all) (unclaimed h given os)
unfolding unclaimed
some_of h all given [] f = tt
some_of h all given (o ∷ os) f =
    go (is_given given o) (f o (first o os)) (some_of h all given os (λ p i. f p (later o p os i))) (some_of h all (given ++ given_at h o ∷ []) os (λ p i. f p (later o p os i)))
  where
    go : (b : Bool) → Contains all o → AllByRecursion (Contains all) (unclaimed h given os) → AllByRecursion (Contains all) (unclaimed h (given ++ given_at h o ∷ []) os)
        → AllByRecursion (Contains all) (cond b (unclaimed h given os) (o ∷ unclaimed h (given ++ given_at h o ∷ []) os))
    go true here i j = i
    go false here i j = (here, j)

pub stays_due : (seen later : Seen) (h : ℕ) (txs : List Transaction) (known : Known) → Extends (spends_after seen h txs known) later.spends
    → AllByRecursion (Contains (due_by known later.spends)) (claims_after seen h txs known)
stays_due seen later h txs known e =
    let read = spends_after seen h txs known in
    let whole : due_by known later.spends ≡ due_by known read ++ due_by known e.more =
    ap (due_by known) e.is ∙ flat_map-append (λ (s : Spend). due_of known (verdict_of known s.tx)) read e.more in
    some_of h (due_by known later.spends) seen.given (due_by known read)
    (λ o i. subst (λ (os : List Claimable). Contains os o) (sym whole) (Contains-append_left (due_by known read) (due_by known e.more) o i))
