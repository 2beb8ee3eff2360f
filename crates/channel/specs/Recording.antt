-- The commitments that a state records: each by its number, with the view of the sender's and the receiver's updates at the stage that it stands for.
use Rattle.std.specs.Prelude.{◌≡◌, ◌+◌, Bool, true, false, List, [], ◌∷◌, ◌++◌, length}
use Rattle.terms.specs.Sides.{other}
use Rattle.updates.specs.Views.{view_by}
use Rattle.channel.specs.declared.commitments.CommitmentState.{CommitmentState}
use Rattle.channel.specs.Points.{point_at}
use Rattle.channel.specs.States.{Signing, State}
use Rattle.channel.specs.Peers.{IsLived}
use Rattle.channel.specs.Keeping.{one_if}
use Rattle.channel.specs.Numbered.{AreNumbered}

-- one's own newest commitment
abbrev pub own_newest : State → CommitmentState
own_newest s = record { view = view_by s.held.terms s.held.side s.held.own.with_sender s.held.theirs.with_receiver; owner = s.held.side; number = s.number; point = point_at s.seed s.number }

-- the peer's newest that revoked the one before
abbrev pub peers_newest : State → CommitmentState
peers_newest s = record { view = view_by s.held.terms s.held.side s.held.own.past_receiver s.held.theirs.settled; owner = other s.held.side; number = s.peer_number; point = s.point }

-- and the one after it, where it is signed
abbrev pub peers_signed : State → Bool → List CommitmentState
peers_signed s true = record { view = view_by s.held.terms s.held.side s.held.own.with_receiver s.held.theirs.with_sender; owner = other s.held.side; number = s.peer_number + 1; point = s.next_point } ∷ []
peers_signed s false = []

-- one's own commitments by number, the last of them the newest; and the peer's: the revoked ones, the newest, and the one after it where it is signed
pub record IsRecorded (s : State) : Type 0 where
  pub older : List CommitmentState
  pub mine : s.mine ≡ older ++ own_newest s ∷ []
  pub older_count : length older ≡ s.number
  pub past : List CommitmentState
  pub signed : s.signed ≡ past ++ peers_newest s ∷ peers_signed s s.awaiting
  pub past_count : length past ≡ s.peer_number

-- the state has these records, whatever the peer sends
abbrev pub SidesRecord : Type 0
SidesRecord = (tokens_of : Signing) (s : State) → IsLived tokens_of s → IsRecorded s

-- the commitments of both sides stand by number, and the view of each shares out the capacity
pub record AreByNumber (s : State) : Type 0 where
  pub mine : AreNumbered s.held.terms s.held.side (s.number + 1) s.mine
  pub signed : AreNumbered s.held.terms (other s.held.side)
      (s.peer_number + 1 + one_if s.awaiting) s.signed

-- they do so, whatever the peer sends
abbrev pub SidesNumber : Type 0
SidesNumber = (tokens_of : Signing) (s : State) → IsLived tokens_of s → AreByNumber s
