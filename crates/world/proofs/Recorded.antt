-- What a watch gives by what a side knows of a channel is on what the side's book records of it.
use Rattle.std.proofs.Common.{◌≡◌, ℕ, zero, suc, ◌+◌, ◌==◌, Bool, true, false, if◌then◌else◌, List, [], ◌∷◌, ◌++◌, map, length, Contains, Option, Some, None, refl, sym, ap, ◌∙◌, subst, inl, inr, ⊎_elim, arith}
use Rattle.std.specs.Prelude.{◌⊎◌, slice_get, option_map}
use Rattle.std.specs.List.{AllByRecursion, cons_option, flat_map}
use Rattle.std.proofs.lemmas.List.Elements.{Contains-append_right, Contains-append_cases}
use Rattle.std.proofs.lemmas.Option.{none-some, same_Some, slice_get-map}
use Rattle.keys.specs.Derivation.{point_of}
use Rattle.claim.specs.Claims.{ClaimParts}
use Rattle.commit.specs.Commitments.{Contents, commitment_of}
use Rattle.penalty.specs.Claimable.{Claimable, claims_from, claimable_of}
use Rattle.penalty.specs.Sets.{claimed_by, AreClaimsOn}
use Rattle.resolve.specs.declared.known.RevokedCommitment.{RevokedCommitment}
use Rattle.resolve.specs.declared.known.Known.{Known}
use Rattle.resolve.specs.declared.verdicts.Verdict.{Verdict}
use Rattle.resolve.specs.declared.verdicts.Verdict.TheVariants.{Ours, Theirs, TheirsNext, Revoked as RevokedOne, Unknown}
use Rattle.resolve.specs.Due.{owners_due, peers_due, peers_due_if, penalties_if, if_number, due_of}
use Rattle.watch.specs.declared.spends.Spend.{Spend}
use Rattle.watch.specs.declared.unclaimed.Given.{Given}
use Rattle.watch.specs.Verdicts.{verdict_of}
use Rattle.watch.specs.Watching.{is_given, given_at, unclaimed, due_by}
use Rattle.channel.specs.declared.commitments.CommitmentState.{CommitmentState}
use Rattle.channel.specs.Tokens.{contents_of}
use Rattle.channel.specs.States.{State}
use Rattle.book.specs.Knowing.{below, Signed, signed_parts, signed_by_peer, own_at, theirs_at, Revoked, revoked_parts, revoked_by, revoked_at, IsKnownOf}
use Rattle.book.specs.Penalties.{revoked_contents, claimable_in, claimable_at}
use Rattle.world.specs.Sources.{IsDueOf, of_own, of_peers, of_revoked}

-- ---- lists

pub none_in : {X : Type 0} (x : X) → Contains [] x → ⊥
none_in x (k, l, e) = omega (arith, l)

pub later_in : {X : Type 0} (y : X) (xs : List X) (x : X) → Contains xs x → Contains (y ∷ xs) x
later_in y xs x c = Contains-append_right (y ∷ []) xs x c

pub first_in : {X : Type 0} (x : X) (xs : List X) → Contains (x ∷ xs) x
first_in x xs = (0, omega arith, refl)

pub cases_in : {X : Type 0} (y : X) (xs : List X) (x : X) → Contains (y ∷ xs) x → (y ≡ x) ⊎ Contains xs x
cases_in y xs x (zero, l, e) = inl e
cases_in y xs x (suc k, l, e) = inr (k, omega (arith, l), e)

-- an element of a list of lists, and one of them
some_part : {X Y : Type 0} (f : X → List Y) (xs : List X) (y : Y) → Contains (flat_map f xs) y → (x : X) × Contains (f x) y
some_part f [] y c = absurd (none_in y c)
some_part {X} f (x ∷ xs) y c = ⊎_elim (λ (h : Contains (f x) y). (x, h)) (λ (h : Contains (flat_map f xs) y). some_part f xs y h) (Contains-append_cases (f x) (flat_map f xs) y c)

-- an element of two lists joined
either_at : {X : Type 0} (xs ys : List X) (n : ℕ) (x : X) → slice_get (xs ++ ys) n ≡ Some x → (slice_get xs n ≡ Some x) ⊎ ((k : ℕ) × (slice_get ys k ≡ Some x))
either_at [] ys n x e = inr (n, e)
either_at (z ∷ xs) ys zero x e = inl e
either_at (z ∷ xs) ys (suc n) x e = either_at xs ys n x e

the_one : {X : Type 0} (o : Option X) (k : ℕ) (x : X) → slice_get (cons_option o []) k ≡ Some x → o ≡ Some x
the_one None k x e = absurd (none-some x e)
the_one (Some y) zero x e = e
the_one (Some y) (suc k) x e = absurd (none-some x e)

-- what stands in a list by numbers is the value at some number
from_below : {X : Type 0} (at : ℕ → Option X) (m n : ℕ) (x : X) → slice_get (below at m) n ≡ Some x → (j : ℕ) × (at j ≡ Some x)
from_below at zero n x e = absurd (none-some x e)
from_below {X} at (suc m) n x e =
    ⊎_elim (λ (h : slice_get (below at m) n ≡ Some x). from_below at m n x h) (λ (h : (k : ℕ) × (slice_get (cons_option (at m) []) k ≡ Some x)). (m, the_one (at m) h.0 x h.1))
    (either_at (below at m) (cons_option (at m) []) n x e)

-- ---- one's own newest commitment, and the peer's

own_due : (s : State) (known : Known) (x : ClaimParts) → Some (signed_parts known.own) ≡ own_at s s.number → Contains (owners_due known.preimages known.own.commitment) (claimed_by x) → IsDueOf s x
own_due s known x is h = go (slice_get s.mine s.number) refl is
  where
    go : (o : Option CommitmentState) → slice_get s.mine s.number ≡ o → Some (signed_parts known.own) ≡ option_map (signed_by_peer s.held.terms) o → IsDueOf s x
    go None at e = absurd (none-some (signed_parts known.own) (sym e))
    go (Some k) at e =
        of_own s.number k known.preimages at
        (subst (λ (c : Contents). Contains (owners_due known.preimages c) (claimed_by x)) (ap (λ (p : Signed). p.commitment) (same_Some (signed_parts known.own) (signed_by_peer s.held.terms k) e)) h)

peers_are_due : (s : State) (preimages : List (List ℕ)) (c : Contents) (n : ℕ) (x : ClaimParts) → Some c ≡ theirs_at s n → Contains (peers_due preimages c) (claimed_by x) → IsDueOf s x
peers_are_due s preimages c n x is h = go (slice_get s.signed n) refl is
  where
    go : (o : Option CommitmentState) → slice_get s.signed n ≡ o → Some c ≡ option_map (contents_of s.held.terms) o → IsDueOf s x
    go None at e = absurd (none-some c (sym e))
    go (Some k) at e = of_peers n k preimages at (subst (λ (d : Contents). Contains (peers_due preimages d) (claimed_by x)) (same_Some c (contents_of s.held.terms k) e) h)

next_due : (s : State) (preimages : List (List ℕ)) (o : Option Contents) (n : ℕ) (x : ClaimParts) → o ≡ theirs_at s n → Contains (peers_due_if preimages o) (claimed_by x) → IsDueOf s x
next_due s preimages None n x is h = absurd (none_in (claimed_by x) h)
next_due s preimages (Some c) n x is h = peers_are_due s preimages c n x is h

-- ---- revoked ones

-- what a revoked commitment lets claim, once its secret is told
pub claimable_is : (s : State) (n : ℕ) (c : CommitmentState) (secret : List ℕ) → slice_get s.signed n ≡ Some c → slice_get s.secrets n ≡ Some secret → claimable_at s n ≡ Some (claimable_in (revoked_contents s c secret))
claimable_is s n c secret signed told = rw (signed, told) refl

same_claims : (r : RevokedCommitment) (s : State) (c : CommitmentState) (secret : List ℕ) (kept : Bool) → revoked_by s c secret kept ≡ revoked_parts r → claimable_of r.state ≡ claimable_in (revoked_contents s c secret)
unfolding claimable_of claimable_in
same_claims r s c secret kept e =
    let all : Revoked → List Claimable = λ p. let d = commitment_of p.terms p.view p.owner p.number (point_of p.secret) in claims_from d 0 d.outputs in
    sym (ap all e)

revoked_there : (s : State) (kept : ℕ → Bool) (n : ℕ) (r : RevokedCommitment) (x : ClaimParts) → revoked_at s kept n ≡ Some (revoked_parts r) → Contains (claimable_of r.state) (claimed_by x) → IsDueOf s x
revoked_there s kept n r x is h = go (slice_get s.signed n) (slice_get s.secrets n) refl refl
  where
    go : (o : Option CommitmentState) (p : Option (List ℕ)) → slice_get s.signed n ≡ o → slice_get s.secrets n ≡ p → IsDueOf s x
    go None p signed told =
        let none : revoked_at s kept n ≡ None = rw signed refl in
        absurd (none-some (revoked_parts r) (sym none ∙ is))
    go (Some c) None signed told =
        let none : revoked_at s kept n ≡ None = rw (signed, told) refl in
        absurd (none-some (revoked_parts r) (sym none ∙ is))
    go (Some c) (Some secret) signed told =
        let some : revoked_at s kept n ≡ Some (revoked_by s c secret (kept n)) = rw (signed, told) refl in
        of_revoked n (claimable_in (revoked_contents s c secret)) (claimable_is s n c secret signed told)
        (subst (λ (os : List Claimable). Contains os (claimed_by x)) (same_claims r s c secret (kept n) (same_Some (revoked_by s c secret (kept n)) (revoked_parts r) (sym some ∙ is))) h)

revoked_due : (s : State) (kept : ℕ → Bool) (rs : List RevokedCommitment) (n : ℕ) (x : ClaimParts) → map revoked_parts rs ≡ below (revoked_at s kept) (length s.secrets)
    → Contains (penalties_if (if_number n (slice_get rs n))) (claimed_by x) → IsDueOf s x
revoked_due s kept rs n x are h = go (slice_get rs n) refl h
  where
    here : (r : RevokedCommitment) → slice_get rs n ≡ Some r → Contains (claimable_of r.state) (claimed_by x) → IsDueOf s x
    here r at h =
        let there : slice_get (below (revoked_at s kept) (length s.secrets)) n ≡ Some (revoked_parts r)
        = ap (λ (ps : List Revoked). slice_get ps n) (sym are) ∙ slice_get-map revoked_parts rs n ∙ ap (λ (o : Option RevokedCommitment). option_map revoked_parts o) at in
        let found = from_below (revoked_at s kept) (length s.secrets) n (revoked_parts r) there in
        revoked_there s kept found.0 r x found.1 h

    if_so : (r : RevokedCommitment) → slice_get rs n ≡ Some r → (b : Bool) → Contains (penalties_if (if b then Some r else None)) (claimed_by x) → IsDueOf s x
    if_so r at true h = here r at h
    if_so r at false h = absurd (none_in (claimed_by x) h)

    go : (o : Option RevokedCommitment) → slice_get rs n ≡ o → Contains (penalties_if (if_number n o)) (claimed_by x) → IsDueOf s x
    go None at h = absurd (none_in (claimed_by x) h)
    go (Some r) at h = if_so r at (r.state.number == n) h

-- ---- by any verdict

due_of_recorded : (s : State) (kept : ℕ → Bool) (preimages : List (List ℕ)) (known : Known) (v : Verdict) (x : ClaimParts) → IsKnownOf s kept preimages known → Contains (due_of known v) (claimed_by x) → IsDueOf s x
unfolding due_of
due_of_recorded s kept preimages known Ours x is h = own_due s known x is.own_is h
due_of_recorded s kept preimages known Theirs x is h = peers_are_due s known.preimages known.theirs s.peer_number x is.theirs_is h
due_of_recorded s kept preimages known TheirsNext x is h = next_due s known.preimages known.next (s.peer_number + 1) x is.next_is h
due_of_recorded s kept preimages known (RevokedOne n) x is h = revoked_due s kept known.revoked n x is.revoked_are h
due_of_recorded s kept preimages known Unknown x is h = absurd (none_in (claimed_by x) h)

-- ---- what was not given yet

unclaimed_due : (h : ℕ) (given : List Given) (os : List Claimable) (y : Claimable) → Contains (unclaimed h given os) y → Contains os y
unfolding unclaimed
unclaimed_due h given [] y c = c
unclaimed_due h given (o ∷ os) y c = go (is_given given o) c (unclaimed_due h given os y) (unclaimed_due h (given ++ given_at h o ∷ []) os y)
  where
    go : (b : Bool) → Contains (if b then unclaimed h given os else o ∷ unclaimed h (given ++ given_at h o ∷ []) os) y → (Contains (unclaimed h given os) y → Contains os y)
        → (Contains (unclaimed h (given ++ given_at h o ∷ []) os) y → Contains os y) → Contains (o ∷ os) y
    go true c old new = later_in o os y (old c)
    go false c old new =
        ⊎_elim (λ (e : o ≡ y). subst (λ (z : Claimable). Contains (o ∷ os) z) e (first_in o os)) (λ (d : Contains (unclaimed h (given ++ given_at h o ∷ []) os) y). later_in o os y (new d))
        (cases_in o (unclaimed h (given ++ given_at h o ∷ []) os) y c)

claims_among : (os : List Claimable) (cs : List ClaimParts) (P : ClaimParts → Type 0) → ((x : ClaimParts) → Contains os (claimed_by x) → P x) → AreClaimsOn os cs → AllByRecursion P cs
claims_among [] [] P f a = tt
claims_among [] (c ∷ cs) P f a = absurd a
claims_among (o ∷ os) [] P f a = absurd a
claims_among (o ∷ os) (c ∷ cs) P f (i, a) =
    (f c (subst (λ (z : Claimable). Contains (o ∷ os) z) (sym i.exact) (first_in o os)), claims_among os cs P (λ x h. f x (later_in o os (claimed_by x) h)) a)

-- the claims that a watch gives are on what is recorded
pub given_are_due : (s : State) (kept : ℕ → Bool) (preimages : List (List ℕ)) (known : Known) (h : ℕ) (given : List Given) (spends : List Spend) (claims : List ClaimParts) → IsKnownOf s kept preimages known
    → AreClaimsOn (unclaimed h given (due_by known spends)) claims → AllByRecursion (IsDueOf s) claims
given_are_due s kept preimages known h given spends claims is are =
    claims_among (unclaimed h given (due_by known spends)) claims (IsDueOf s)
    (λ x c.
    let some = some_part (λ (t : Spend). due_of known (verdict_of known t.tx)) spends (claimed_by x) (unclaimed_due h given (due_by known spends) (claimed_by x) c) in
    due_of_recorded s kept preimages known (verdict_of known some.0.tx) x is some.1)
    are
