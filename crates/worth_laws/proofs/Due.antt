-- What a side counts on is due, and on its peer's commitment nothing else is.
use Rattle.std.proofs.Common.{◌≡◌, ℕ, ◌+◌, Bool, true, false, List, [], ◌∷◌, ◌++◌, refl, sym, ap, ◌∙◌, subst, arith}
use Rattle.std.specs.Prelude.{if◌then◌else◌, ◌&&◌}
use Rattle.std.specs.List.{Contains, AllByRecursion}
use Rattle.std.proofs.lemmas.List.Elements.{Contains-append_right}
use Rattle.terms.specs.declared.htlcs.Htlc.{Htlc}
use Rattle.claim.specs.declared.parts.Place.{Place}
use Rattle.commit.specs.declared.fees.Direction.{Direction}
use Rattle.commit.specs.declared.fees.Direction.TheVariants.{Offered, Received}
use Rattle.commit.specs.declared.outputs.OutputKind.{OutputKind}
use Rattle.commit.specs.declared.outputs.OutputKind.TheVariants.{ToLocal, ToRemote, ToHtlc}
use Rattle.commit.specs.declared.outputs.CommitmentOutput.{CommitmentOutput}
use Rattle.commit.specs.Commitments.{Contents, tx_output, transaction_of}
use Rattle.penalty.specs.Claimable.{Claimable, place_in, claims_by}
use Rattle.resolve.specs.Due.{can_pay, is_owners, is_peers, delayed_on, second_stage_on, delayed_second_stage, direct_on, owners_on, peers_on, owners_due, peers_due}
use Rattle.worth_laws.specs.Shares.{counts_on}
use Rattle.worth_laws.specs.Counted.{counted_on, counted, known_by, due_by, HasNoTwin, CountedAreDue}

-- a test that holds wherever another does adds nothing to it
joined : (a b : Bool) → (a ≡ true → b ≡ true) → (a && b) ≡ a
joined true b f = f refl
joined false b f = refl

-- what is due for an HTLC is what is counted on
owners_count : (preimages : List (List ℕ)) (c : Contents) → HasNoTwin preimages c → (direction : Direction) (h : Htlc) → is_owners preimages c.keys direction h ≡ counts_on true (known_by preimages) (ToHtlc direction h)
owners_count preimages c t Offered h = t.timeout
owners_count preimages c t Received h = joined (known_by preimages h) (can_pay c.keys h) (t.pays h)

peers_count : (preimages : List (List ℕ)) (c : Contents) → HasNoTwin preimages c → (direction : Direction) (h : Htlc) → is_peers preimages c.keys direction h ≡ counts_on false (known_by preimages) (ToHtlc direction h)
peers_count preimages c t Offered h = joined (known_by preimages h) (can_pay c.keys h) (t.pays h)
peers_count preimages c t Received h = t.timeout

-- ---- the peer's commitment

on_peers_output : (preimages : List (List ℕ)) (stands : ℕ → Bool) (c : Contents) → HasNoTwin preimages c → (index : ℕ) (place : Place) (kind : OutputKind)
    → peers_on preimages c index place kind ≡ counted_on false (known_by preimages) stands c index place kind
on_peers_output preimages stands c t index place ToLocal = refl
on_peers_output preimages stands c t index place ToRemote = refl
on_peers_output preimages stands c t index place (ToHtlc direction h) = ap (λ b. if b then direct_on c direction h place ∷ [] else []) (peers_count preimages c t direction h)

peers_from : (preimages : List (List ℕ)) (stands : ℕ → Bool) (c : Contents) → HasNoTwin preimages c → (index : ℕ) (os : List CommitmentOutput)
    → claims_by (peers_on preimages c) c index os ≡ claims_by (counted_on false (known_by preimages) stands c) c index os
unfolding claims_by
peers_from preimages stands c t index [] = refl
peers_from preimages stands c t index (o ∷ os) =
    let place = place_in (transaction_of c) index (tx_output o) in
    ap (λ xs. xs ++ claims_by (peers_on preimages c) c (index + 1) os) (on_peers_output preimages stands c t index place o.kind)
    ∙ ap (λ xs. counted_on false (known_by preimages) stands c index place o.kind ++ xs) (peers_from preimages stands c t (index + 1) os)

peers_are : (preimages : List (List ℕ)) (stands : ℕ → Bool) (c : Contents) → HasNoTwin preimages c → peers_due preimages c ≡ counted false (known_by preimages) stands c
unfolding peers_due
peers_are preimages stands c t = peers_from preimages stands c t 0 c.outputs

-- ---- one's own

at_first : (o : Claimable) (os : List Claimable) → Contains (o ∷ os) o
at_first o os = (0, omega arith, refl)

at_either : (b : Bool) (f s : Claimable) (os : List Claimable) → Contains (f ∷ s ∷ os) (if b then s else f)
at_either true f s os = (1, omega arith, refl)
at_either false f s os = (0, omega arith, refl)

stage_among : (counts b : Bool) (f s : Claimable) (rest : List Claimable) → AllByRecursion (Contains ((if counts then f ∷ s ∷ [] else []) ++ rest)) (if counts then (if b then s else f) ∷ [] else [])
stage_among true b f s rest = (at_either b f s rest, tt)
stage_among false b f s rest = tt

among : (preimages : List (List ℕ)) (stands : ℕ → Bool) (c : Contents) → HasNoTwin preimages c → (index : ℕ) (place : Place) (kind : OutputKind) (rest : List Claimable)
    → AllByRecursion (Contains (owners_on preimages c index place kind ++ rest)) (counted_on true (known_by preimages) stands c index place kind)
among preimages stands c t index place ToLocal rest = (at_first (delayed_on c place) rest, tt)
among preimages stands c t index place ToRemote rest = tt
among preimages stands c t index place (ToHtlc direction h) rest =
    let f = second_stage_on c (record { index = index; direction = direction; htlc = h }) place in
    let s = delayed_second_stage c (record { index = index; direction = direction; htlc = h }) in
    let counts = counts_on true (known_by preimages) (ToHtlc direction h) in
    subst (λ b. AllByRecursion (Contains ((if b then f ∷ s ∷ [] else []) ++ rest)) (if counts then (if stands index then s else f) ∷ [] else [])) (sym (owners_count preimages c t direction h))
    (stage_among counts (stands index) f s rest)

all_append : (xs ys os : List Claimable) → AllByRecursion (Contains os) xs → AllByRecursion (Contains os) ys → AllByRecursion (Contains os) (xs ++ ys)
all_append [] ys os a b = b
all_append (x ∷ xs) ys os a b = (a.0, all_append xs ys os a.1 b)

behind : (os ps xs : List Claimable) → AllByRecursion (Contains ps) xs → AllByRecursion (Contains (os ++ ps)) xs
behind os ps [] a = tt
behind os ps (x ∷ xs) a = (Contains-append_right os ps x a.0, behind os ps xs a.1)

owners_from : (preimages : List (List ℕ)) (stands : ℕ → Bool) (c : Contents) → HasNoTwin preimages c → (index : ℕ) (os : List CommitmentOutput)
    → AllByRecursion (Contains (claims_by (owners_on preimages c) c index os)) (claims_by (counted_on true (known_by preimages) stands c) c index os)
unfolding claims_by
owners_from preimages stands c t index [] = tt
owners_from preimages stands c t index (o ∷ os) =
    let place = place_in (transaction_of c) index (tx_output o) in
    all_append (counted_on true (known_by preimages) stands c index place o.kind) (claims_by (counted_on true (known_by preimages) stands c) c (index + 1) os) _
    (among preimages stands c t index place o.kind (claims_by (owners_on preimages c) c (index + 1) os))
    (behind (owners_on preimages c index place o.kind) (claims_by (owners_on preimages c) c (index + 1) os) (claims_by (counted_on true (known_by preimages) stands c) c (index + 1) os)
    (owners_from preimages stands c t (index + 1) os))

-- ---- both

each_in : (os : List Claimable) → AllByRecursion (Contains os) os
each_in [] = tt
each_in (o ∷ os) = (at_first o os, behind (o ∷ []) os os (each_in os))

each_due : (own : Bool) (preimages : List (List ℕ)) (stands : ℕ → Bool) (c : Contents) → HasNoTwin preimages c → AllByRecursion (Contains (due_by own preimages c)) (counted own (known_by preimages) stands c)
unfolding owners_due
each_due true preimages stands c t = owners_from preimages stands c t 0 c.outputs
each_due false preimages stands c t =
    subst (λ os. AllByRecursion (Contains os) (counted false (known_by preimages) stands c)) (sym (peers_are preimages stands c t)) (each_in (counted false (known_by preimages) stands c))

pub counted_are_due : CountedAreDue
counted_are_due = record { each = each_due; peers = peers_are }
