-- Each claim is on an output of the commitment, or on that of an HTLC transaction.
use Rattle.std.proofs.Common.{◌≡◌, ℕ, zero, suc, ◌+◌, Bool, true, false, List, [], ◌∷◌, Option, Some, None, sym, ap, ◌∙◌, refl, subst, inl, inr, ⊎_elim, arith}
use Rattle.std.specs.Prelude.{◌⊎◌, ◌==◌, slice_get, if◌then◌else◌}
use Rattle.std.specs.List.{Contains, cons_option}
use Rattle.std.proofs.lemmas.List.Elements.{Contains-append_cases}
use Rattle.std.proofs.lemmas.Bool.{eqb-true}
use Rattle.std.proofs.lemmas.Option.{same_Some}
use Rattle.terms.specs.declared.htlcs.Htlc.{Htlc}
use Rattle.claim.specs.declared.parts.Place.{Place}
use Rattle.commit.specs.declared.fees.Direction.{Direction}
use Rattle.commit.specs.declared.outputs.OutputKind.{OutputKind}
use Rattle.commit.specs.declared.outputs.OutputKind.TheVariants.{ToLocal, ToRemote, ToHtlc}
use Rattle.commit.specs.declared.outputs.CommitmentOutput.{CommitmentOutput}
use Rattle.commit.specs.declared.outputs.HtlcOutput.{HtlcOutput}
use Rattle.commit.specs.Commitments.{Contents, htlc_at, htlcs_from}
use Rattle.penalty.specs.Claimable.{Claimable, penalty_on, payment_on, htlc_penalty_on, second_stage_penalty, claims_on, claims_by, claimable_of}
use Rattle.resolve.specs.declared.verdicts.Verdict.TheVariants.{Ours, Theirs, TheirsNext, Revoked, Unknown}
use Rattle.resolve.specs.declared.known.RevokedCommitment.{RevokedCommitment}
use Rattle.resolve.specs.declared.known.Known.{Known}
use Rattle.resolve.specs.Due.{is_owners, is_peers, delayed_on, second_stage_on, delayed_second_stage, direct_on, owners_on, peers_on, owners_due, peers_due, peers_due_if, penalties_if, if_number, due_of}
use Rattle.safety.proofs.Slots.{contains_first, contains_later, contains_cases}
use Rattle.safety.proofs.Lists.{none_some, contains_none}
use Rattle.safety.specs.Places.{place_at, IsHtlcAt, IsOwnersClaim, delayed, second_stage, delayed_second, IsPeersClaim, payment, direct, IsRevokedClaim, penalty, own_payment, htlc_penalty, second_penalty}
use Rattle.safety.specs.Places.{IsOutPointOf, of_output, of_second_stage, OwnersPlaces, PeersPlaces, RevokedPlaces, IsKnownDue, on_own, on_theirs, on_next, on_revoked, KnownPlaces}

-- ---- lists of one and of two

pub contains_one : {X : Type 0} (y x : X) → Contains (y ∷ []) x → x ≡ y
contains_one {X} y x i = ⊎_elim {C = x ≡ y} (λ (e : y ≡ x). sym e) (λ (j : Contains [] x). absurd (contains_none x j)) (contains_cases y [] x i)

contains_two : {X : Type 0} (y z x : X) → Contains (y ∷ z ∷ []) x → (x ≡ y) ⊎ (x ≡ z)
contains_two {X} y z x i = ⊎_elim {C = (x ≡ y) ⊎ (x ≡ z)} (λ (e : y ≡ x). inl (sym e)) (λ (j : Contains (z ∷ []) x). inr (contains_one z x j)) (contains_cases y (z ∷ []) x i)

contains_if : {X : Type 0} (b : Bool) (xs : List X) (x : X) → Contains (if b then xs else []) x → Contains xs x
contains_if true xs x i = i
contains_if false xs x i = absurd (contains_none x i)

-- ---- the output that a claim is on

-- what an output gives by a rule
abbrev pub Rule : Type 0
Rule = ℕ → Place → OutputKind → List Claimable

-- one of the outputs, of which the first has this index, gives the claim
record IsFrom (on : Rule) (c : Contents) (index : ℕ) (os : List CommitmentOutput) (o : Claimable) : Type 0 where
  place : ℕ
  output : CommitmentOutput
  there : slice_get os place ≡ Some output
  given : Contains (on (index + place) (place_at c (index + place) output) output.kind) o

here : (on : Rule) (c : Contents) (index : ℕ) (p : CommitmentOutput) (os : List CommitmentOutput) (o : Claimable) → Contains (on index (place_at c index p) p.kind) o → IsFrom on c index (p ∷ os) o
here on c index p os o i =
    let at : index ≡ index + 0 = omega arith in
    record { place = 0; output = p; there = refl; given = subst (λ n. Contains (on n (place_at c n p) p.kind) o) at i }

later : (on : Rule) (c : Contents) (index : ℕ) (p : CommitmentOutput) (os : List CommitmentOutput) (o : Claimable) → IsFrom on c (index + 1) os o → IsFrom on c index (p ∷ os) o
later on c index p os o f =
    let at : index + 1 + f.place ≡ index + suc f.place = omega arith in
    record { place = suc f.place; output = f.output; there = f.there; given = subst (λ n. Contains (on n (place_at c n f.output) f.output.kind) o) at f.given }

from : (on : Rule) (c : Contents) (index : ℕ) (os : List CommitmentOutput) (o : Claimable) → Contains (claims_by on c index os) o → IsFrom on c index os o
unfolding claims_by
from on c index [] o i = absurd (contains_none o i)
from on c index (p ∷ os) o i =
    ⊎_elim {C = IsFrom on c index (p ∷ os) o} (λ (j : Contains (on index (place_at c index p) p.kind) o). here on c index p os o j)
    (λ (j : Contains (claims_by on c (index + 1) os) o). later on c index p os o (from on c (index + 1) os o j))
    (Contains-append_cases (on index (place_at c index p) p.kind) (claims_by on c (index + 1) os) o i)

-- an output of the commitment gives the claim
pub record IsGiven (on : Rule) (c : Contents) (o : Claimable) : Type 0 where
  pub index : ℕ
  pub output : CommitmentOutput
  pub there : slice_get c.outputs index ≡ Some output
  pub given : Contains (on index (place_at c index output) output.kind) o

pub given_by : (on : Rule) (c : Contents) (o : Claimable) → Contains (claims_by on c 0 c.outputs) o → IsGiven on c o
given_by on c o i =
    let f = from on c 0 c.outputs o i in
    let at : 0 + f.place ≡ f.place = omega arith in
    record { index = f.place; output = f.output; there = f.there; given = subst (λ n. Contains (on n (place_at c n f.output) f.output.kind) o) at f.given }

-- ---- the HTLC of an output

abbrev htlc_of : ℕ → Direction → Htlc → HtlcOutput
htlc_of index direction htlc = record { index = index; direction = direction; htlc = htlc }

behind : (x : Option HtlcOutput) (rest : List HtlcOutput) (h : HtlcOutput) → Contains rest h → Contains (cons_option x rest) h
behind None rest h i = i
behind (Some x) rest h i = contains_later x rest h i

htlc_from : (index : ℕ) (os : List CommitmentOutput) (place : ℕ) (output : CommitmentOutput) (direction : Direction) (htlc : Htlc) → slice_get os place ≡ Some output
    → output.kind ≡ ToHtlc direction htlc
    → Contains (htlcs_from index os) (htlc_of (index + place) direction htlc)
unfolding htlcs_from
htlc_from index [] place output direction htlc e k = absurd (none_some output e)
htlc_from index (p ∷ os) zero output direction htlc e k =
    let at : index ≡ index + 0 = omega arith in
    let kind : p.kind ≡ ToHtlc direction htlc = ap (λ (x : CommitmentOutput). x.kind) (same_Some p output e) ∙ k in
    subst (λ n. Contains (cons_option (htlc_at index p.kind) (htlcs_from (index + 1) os)) (htlc_of n direction htlc)) at
    (subst (λ x. Contains (cons_option (htlc_at index x) (htlcs_from (index + 1) os)) (htlc_of index direction htlc))
    (sym kind) (contains_first (htlc_of index direction htlc) (htlcs_from (index + 1) os)))
htlc_from index (p ∷ os) (suc place) output direction htlc e k =
    let at : index + 1 + place ≡ index + suc place = omega arith in
    subst (λ n. Contains (cons_option (htlc_at index p.kind) (htlcs_from (index + 1) os)) (htlc_of n direction htlc)) at
    (behind (htlc_at index p.kind) (htlcs_from (index + 1) os) (htlc_of (index + 1 + place) direction htlc) (htlc_from (index + 1) os place output direction htlc e k))

pub htlc_at_index : (c : Contents) (index : ℕ) (output : CommitmentOutput) (direction : Direction) (htlc : Htlc) → slice_get c.outputs index ≡ Some output → output.kind ≡ ToHtlc direction htlc
    → IsHtlcAt c (record { index = index; direction = direction; htlc = htlc }) output
htlc_at_index c index output direction htlc e k =
    let at : 0 + index ≡ index = omega arith in
    record { at = record { there = e; kind = k }; among = subst (λ n. Contains (htlcs_from 0 c.outputs) (htlc_of n direction htlc)) at (htlc_from 0 c.outputs index output direction htlc e k) }

-- ---- which claim it is

owners_by : (preimages : List (List ℕ)) (c : Contents) (index : ℕ) (output : CommitmentOutput) (kind : OutputKind) (o : Claimable) → slice_get c.outputs index ≡ Some output → output.kind ≡ kind
    → Contains (owners_on preimages c index (place_at c index output) kind) o → IsOwnersClaim c o
owners_by preimages c index output ToLocal o e k i = delayed index output (record { there = e; kind = k }) (contains_one (delayed_on c (place_at c index output)) o i)
owners_by preimages c index output ToRemote o e k i = absurd (contains_none o i)
owners_by preimages c index output (ToHtlc direction htlc) o e k i =
    let h = htlc_of index direction htlc in
    let at = htlc_at_index c index output direction htlc e k in
    let first = second_stage_on c h (place_at c index output) in
    let second = delayed_second_stage c h in
    ⊎_elim {C = IsOwnersClaim c o} (λ (f : o ≡ second_stage_on c h (place_at c index output)). second_stage h output at f) (λ (f : o ≡ delayed_second_stage c h). delayed_second h output at f)
    (contains_two first second o (contains_if (is_owners preimages c.keys direction htlc) (first ∷ second ∷ []) o i))

peers_by : (preimages : List (List ℕ)) (c : Contents) (index : ℕ) (output : CommitmentOutput) (kind : OutputKind) (o : Claimable) → slice_get c.outputs index ≡ Some output → output.kind ≡ kind
    → Contains (peers_on preimages c index (place_at c index output) kind) o → IsPeersClaim c o
peers_by preimages c index output ToLocal o e k i = absurd (contains_none o i)
peers_by preimages c index output ToRemote o e k i = payment index output (record { there = e; kind = k }) (contains_one (payment_on c (place_at c index output)) o i)
peers_by preimages c index output (ToHtlc direction htlc) o e k i =
    let only = direct_on c direction htlc (place_at c index output) in
    direct (htlc_of index direction htlc) output (htlc_at_index c index output direction htlc e k) (contains_one only o (contains_if (is_peers preimages c.keys direction htlc) (only ∷ []) o i))

revoked_by : (c : Contents) (index : ℕ) (output : CommitmentOutput) (kind : OutputKind) (o : Claimable) → slice_get c.outputs index ≡ Some output → output.kind ≡ kind
    → Contains (claims_on c index (place_at c index output) kind) o → IsRevokedClaim c o
revoked_by c index output ToLocal o e k i = penalty index output (record { there = e; kind = k }) (contains_one (penalty_on c (place_at c index output)) o i)
revoked_by c index output ToRemote o e k i = own_payment index output (record { there = e; kind = k }) (contains_one (payment_on c (place_at c index output)) o i)
revoked_by c index output (ToHtlc direction htlc) o e k i =
    let h = htlc_of index direction htlc in
    let at = htlc_at_index c index output direction htlc e k in
    ⊎_elim {C = IsRevokedClaim c o} (λ (f : o ≡ htlc_penalty_on c direction htlc (place_at c index output)). htlc_penalty h output at f) (λ (f : o ≡ second_stage_penalty c h). second_penalty h output at f)
    (contains_two (htlc_penalty_on c direction htlc (place_at c index output)) (second_stage_penalty c h) o i)

-- ---- where it is

pub owners_at : (c : Contents) (o : Claimable) → IsOwnersClaim c o → IsOutPointOf c o.place.outpoint
owners_at c o (delayed index output at e) = of_output index output at.there (ap (λ (x : Claimable). x.place.outpoint) e)
owners_at c o (second_stage h output at e) = of_output h.index output at.at.there (ap (λ (x : Claimable). x.place.outpoint) e)
owners_at c o (delayed_second h output at e) = of_second_stage h at.among (ap (λ (x : Claimable). x.place.outpoint) e)

peers_at : (c : Contents) (o : Claimable) → IsPeersClaim c o → IsOutPointOf c o.place.outpoint
peers_at c o (payment index output at e) = of_output index output at.there (ap (λ (x : Claimable). x.place.outpoint) e)
peers_at c o (direct h output at e) = of_output h.index output at.at.there (ap (λ (x : Claimable). x.place.outpoint) e)

pub revoked_at : (c : Contents) (o : Claimable) → IsRevokedClaim c o → IsOutPointOf c o.place.outpoint
revoked_at c o (penalty index output at e) = of_output index output at.there (ap (λ (x : Claimable). x.place.outpoint) e)
revoked_at c o (own_payment index output at e) = of_output index output at.there (ap (λ (x : Claimable). x.place.outpoint) e)
revoked_at c o (htlc_penalty h output at e) = of_output h.index output at.at.there (ap (λ (x : Claimable). x.place.outpoint) e)
revoked_at c o (second_penalty h output at e) = of_second_stage h at.among (ap (λ (x : Claimable). x.place.outpoint) e)

pub owners_places : OwnersPlaces
unfolding owners_due
owners_places preimages c o i =
    let g = given_by (owners_on preimages c) c o i in
    let w = owners_by preimages c g.index g.output g.output.kind o g.there refl g.given in
    (w, owners_at c o w)

pub peers_places : PeersPlaces
unfolding peers_due
peers_places preimages c o i =
    let g = given_by (peers_on preimages c) c o i in
    let w = peers_by preimages c g.index g.output g.output.kind o g.there refl g.given in
    (w, peers_at c o w)

pub revoked_places : RevokedPlaces
revoked_places c o i =
    let g = given_by (claims_on c) c o i in
    let w = revoked_by c g.index g.output g.output.kind o g.there refl g.given in
    (w, revoked_at c o w)

-- ---- by a verdict

next_due : (known : Known) (o : Claimable) (x : Option Contents) → known.next ≡ x → Contains (peers_due_if known.preimages x) o → IsKnownDue known o
next_due known o None e i = absurd (contains_none o i)
next_due known o (Some c) e i = on_next c e i

numbered_due : (known : Known) (o : Claimable) (n : ℕ) (r : RevokedCommitment) (b : Bool) → slice_get known.revoked n ≡ Some r → (r.state.number == n) ≡ b
    → Contains (penalties_if (if b then Some r else None)) o → IsKnownDue known o
unfolding claimable_of
numbered_due known o n r true e f i = on_revoked n r e (eqb-true r.state.number n f) i
numbered_due known o n r false e f i = absurd (contains_none o i)

revoked_due : (known : Known) (o : Claimable) (n : ℕ) (x : Option RevokedCommitment) → slice_get known.revoked n ≡ x → Contains (penalties_if (if_number n x)) o → IsKnownDue known o
revoked_due known o n None e i = absurd (contains_none o i)
revoked_due known o n (Some r) e i = numbered_due known o n r (r.state.number == n) e refl i

pub known_places : KnownPlaces
unfolding due_of
known_places known Ours o i = on_own i
known_places known Theirs o i = on_theirs i
known_places known TheirsNext o i = next_due known o known.next refl i
known_places known (Revoked n) o i = revoked_due known o n (slice_get known.revoked n) refl i
known_places known Unknown o i = absurd (contains_none o i)
