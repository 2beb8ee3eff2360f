-- What a state has of its peer's commitments besides their views: the secrets of those that the peer revoked, how far the numbers go, and the HTLCs that the side offers in them.
use Rattle.std.specs.Prelude.{◌≡◌, ℕ, ◌+◌, ◌≤◌, List, length, Some, slice_get, Contains}
use Rattle.std.specs.List.{AllByRecursion}
use Rattle.keys.specs.Derivation.{point_of}
use Rattle.terms.specs.Views.{share}
use Rattle.updates.specs.Updates.{offers}
use Rattle.channel.specs.declared.limits.TheConstants.{LAST_NUMBER}
use Rattle.channel.specs.declared.commitments.CommitmentState.{CommitmentState}
use Rattle.channel.specs.States.{Signing, State}
use Rattle.channel.specs.Peers.{IsLived}
use Rattle.channel.specs.Keeping.{one_if}

-- the peer revealed one secret for each of its commitments before its newest, and each is that of the point of the commitment of its number
pub record HasLearnt (s : State) : Type 0 where
  pub count : length s.secrets ≡ s.peer_number
  pub each : (n : ℕ) (k : CommitmentState) (secret : List ℕ) → slice_get s.signed n ≡ Some k → slice_get s.secrets n ≡ Some secret → k.point.bytes ≡ point_of secret

-- a side learns these, whatever the peer sends
abbrev pub SidesLearn : Type 0
SidesLearn = (tokens_of : Signing) (s : State) → IsLived tokens_of s → HasLearnt s

-- no number goes past the last: neither that of this side's newest commitment, nor that of the newest one that it signed for its peer
pub record IsLimited (s : State) : Type 0 where
  pub number : s.number ≤ LAST_NUMBER
  pub peer_number : s.peer_number + one_if s.awaiting ≤ LAST_NUMBER

abbrev pub SidesAreLimited : Type 0
SidesAreLimited = (tokens_of : Signing) (s : State) → IsLived tokens_of s → IsLimited s

-- each HTLC that this side offers in a commitment is one that its own updates offer
abbrev pub OffersOwn : State → CommitmentState → Type 0
OffersOwn s k = AllByRecursion (Contains (offers s.held.own.known)) (share s.held.side k.view).offered

-- so it is in each commitment that it signed for its peer, also once updates were forgotten
abbrev pub SidesOfferOwn : Type 0
SidesOfferOwn = (tokens_of : Signing) (s : State) → IsLived tokens_of s → AllByRecursion (OffersOwn s) s.signed
