-- No release is left out of its channel's holding.
use Rattle.std.proofs.Common.{◌≡◌, ℕ, List, [], ◌∷◌, Option, Some, None, refl, sym, subst, ⊎_elim, eq-eqb}
use Rattle.std.specs.List.{Contains, cons_option}
use Rattle.safety.specs.Holdings.{Release}
use Rattle.safety.proofs.Slots.{contains_first, contains_later, contains_cases}
use Rattle.safety.proofs.Lists.{contains_none}
use Rattle.book.specs.declared.calls.Batch.{Batch}
use Rattle.book.specs.declared.calls.Call.TheVariants.{Release as Releasing}
use Rattle.book.specs.declared.calls.Entry.{Entry}
use Rattle.book_laws.specs.Holdings.{release_by, releases_in, HoldingsAreComplete}

abbrev released_by : Batch → Release
released_by batch = record { claims = batch.claims; outputs = batch.outputs }

behind : (r : Option Release) (rs : List Release) (x : Release) → Contains rs x → Contains (cons_option r rs) x
behind None rs x i = i
behind (Some r) rs x i = contains_later r rs x i

at_once : (c : ℕ) (batch : Batch) (rs : List Release) → Contains (cons_option (release_by c (Releasing c batch)) rs) (released_by batch)
at_once c batch rs = rw (eq-eqb c c refl) (contains_first (released_by batch) rs)

each_release : (es : List Entry) (seat c : ℕ) (batch : Batch) → Contains es (record { seat = seat; call = Releasing c batch }) → Contains (releases_in c es) (released_by batch)
each_release [] seat c batch i = absurd (contains_none (record { seat = seat; call = Releasing c batch }) i)
each_release (e ∷ es) seat c batch i =
    ⊎_elim {C = Contains (releases_in c (e ∷ es)) (released_by batch)}
    (λ (same : e ≡ record { seat = seat; call = Releasing c batch }).
    subst (λ (x : Entry). Contains (cons_option (release_by c x.call) (releases_in c es)) (released_by batch)) (sym same) (at_once c batch (releases_in c es)))
    (λ (j : Contains es (record { seat = seat; call = Releasing c batch })). behind (release_by c e.call) (releases_in c es) (released_by batch) (each_release es seat c batch j))
    (contains_cases e es (record { seat = seat; call = Releasing c batch }) i)

pub holdings_are_complete : HoldingsAreComplete
holdings_are_complete = each_release
