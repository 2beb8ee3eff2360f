-- What is due is on what a recorded commitment gives the node.
use Rattle.std.proofs.Common.{◌≡◌, ℕ, ◌+◌, length, List, Option, Some, None, sym, ap, ◌∙◌, refl, subst, arith}
use Rattle.std.specs.Prelude.{slice_get}
use Rattle.std.specs.List.{Contains}
use Rattle.std.proofs.lemmas.Option.{same_Some, slice_get_within}
use Rattle.keys.specs.Derivation.{point_of}
use Rattle.terms.specs.declared.sides.Side.{Side}
use Rattle.claim.specs.Claims.{ClaimParts}
use Rattle.commit.specs.Commitments.{Contents, commitment_of}
use Rattle.penalty.specs.Claimable.{commitment_in, claims_from}
use Rattle.penalty.specs.Sets.{claimed_by}
use Rattle.resolve.specs.declared.known.RevokedCommitment.{RevokedCommitment}
use Rattle.resolve.specs.declared.known.Known.{Known}
use Rattle.resolve.specs.Due.{owners_due, peers_due}
use Rattle.channel.specs.declared.commitments.CommitmentState.{CommitmentState}
use Rattle.channel.specs.Recording.{AreByNumber}
use Rattle.channel.specs.States.{State}
use Rattle.channel.specs.Tokens.{contents_of}
use Rattle.safety.specs.Holdings.{Holding, terms_in, IsOnRecorded, on_own, on_peers, on_revoked, KeepsRules}
use Rattle.safety.specs.Places.{IsKnownDue, on_own as of_own, on_theirs as of_theirs, on_next as of_next, on_revoked as of_revoked, KnownPlaces}
use Rattle.safety.proofs.Lists.{none_some}
use Rattle.due_laws.specs.Knowing.{IsKnownTo}
use Rattle.due_laws.specs.Recorded.{DuesAreRecorded}
use Rattle.due_laws.proofs.Lists.{some_at}
use Rattle.due_laws.proofs.Known.{own_known, theirs_known, next_known, contents_by, revoked_told}

-- each secret that the peer told opens the point of its commitment of that number
abbrev pub AllOpen : State → Type 0
AllOpen s = (n : ℕ) (k : CommitmentState) (secret : List ℕ) → slice_get s.signed n ≡ Some k → slice_get s.secrets n ≡ Some secret → k.point.bytes ≡ point_of secret

module _ (h : Holding) (numbered : AreByNumber h.state) (opens : AllOpen h.state) (known : Known) (w : IsKnownTo h known) (x : ClaimParts) where
  own_there : (k : CommitmentState) × (slice_get h.state.mine h.state.number ≡ Some k)
  own_there = let count = numbered.mine.count in some_at h.state.mine h.state.number (omega (arith, count))

  theirs_there : (k : CommitmentState) × (slice_get h.state.signed h.state.peer_number ≡ Some k)
  theirs_there = let count = numbered.signed.count in some_at h.state.signed h.state.peer_number (omega (arith, count))

  next_recorded : (c : Contents) → known.next ≡ Some c → (q : Option CommitmentState) → slice_get h.state.signed (h.state.peer_number + 1) ≡ q → Contains (peers_due known.preimages c) (claimed_by x) → IsOnRecorded h x
  next_recorded c e None f i = absurd (none_some c (sym (next_known h known w None f) ∙ e))
  next_recorded c e (Some k) f i =
      let same : contents_of (terms_in h) k ≡ c = same_Some (contents_of (terms_in h) k) c (sym (next_known h known w (Some k) f) ∙ e) in
      on_peers (h.state.peer_number + 1) k f known.preimages (subst (λ (d : Contents). Contains (peers_due known.preimages d) (claimed_by x)) (sym same) i)

  penalty_recorded : (n : ℕ) (r : RevokedCommitment) → slice_get known.revoked n ≡ Some r → Contains (claims_from (commitment_in r.state) 0 (commitment_in r.state).outputs) (claimed_by x) → IsOnRecorded h x
  penalty_recorded n r there i =
      let t = revoked_told h known w n r there in
      let k = t.commitment in
      let owner = (numbered.signed.each t.number k t.signed).owner in
      let same : commitment_in r.state ≡ contents_of (terms_in h) k =
      ap contents_by t.is ∙ ap (λ (side : Side). commitment_of (terms_in h) k.view side k.number (point_of t.secret)) (sym owner)
      ∙ ap (λ (point : List ℕ). commitment_of (terms_in h) k.view k.owner k.number point) (sym (opens t.number k t.secret t.signed t.told)) in
      on_revoked t.number k t.signed (subst (λ (c : Contents). Contains (claims_from c 0 c.outputs) (claimed_by x)) same i)

  pub recorded : IsKnownDue known (claimed_by x) → IsOnRecorded h x
  recorded (of_own i) =
      let k = own_there in
      on_own h.state.number k.0 k.1 known.preimages (subst (λ (c : Contents). Contains (owners_due known.preimages c) (claimed_by x)) (own_known h known w k.0 k.1) i)
  recorded (of_theirs i) =
      let k = theirs_there in
      on_peers h.state.peer_number k.0 k.1 known.preimages (subst (λ (c : Contents). Contains (peers_due known.preimages c) (claimed_by x)) (theirs_known h known w k.0 k.1) i)
  recorded (of_next c e i) = next_recorded c e (slice_get h.state.signed (h.state.peer_number + 1)) refl i
  recorded (of_revoked n r there number i) = penalty_recorded n r there i

-- a secret of a number that was revoked
opened : (h : Holding) → KeepsRules h → length h.state.secrets ≡ h.state.peer_number → AllOpen h.state
opened h kept count n k secret there told =
    let within = slice_get_within h.state.secrets n secret told in
    let r = kept.revealed n k (omega (arith, within, count)) there in
    r.opens ∙ ap point_of (same_Some r.secret secret (sym r.there ∙ told))

pub dues_are_recorded : KnownPlaces → DuesAreRecorded
dues_are_recorded places h kept count known w x d = recorded h kept.numbered (opened h kept count) known w x (places known d.verdict (claimed_by x) d.due)
