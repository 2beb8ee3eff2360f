-- A side that is put back to an older state of its own, while its peer went on (BOLT 2, "Message Retransmission").
use Rattle.std.specs.Prelude.{◌≡◌, ℕ, ◌<◌, ◌≤◌, false, List, length, Some}
use Rattle.terms.specs.declared.sides.Side.{Side}
use Rattle.terms.specs.declared.sides.Side.TheVariants.{A, B}
use Rattle.terms.specs.declared.agreement.Terms.{Terms}
use Rattle.terms.specs.Sides.{other}
use Rattle.updates.specs.declared.errors.ChannelError.TheVariants.{NeverSigned}
use Rattle.channel.specs.declared.reestablish.Parcel.{Parcel}
use Rattle.channel.specs.declared.reestablish.Parcel.TheVariants.{Hello}
use Rattle.channel.specs.States.{Signing, State}
use Rattle.channel.specs.Reestablishing.{hello, last_signed, is_behind, hello_refusal}
use Rattle.channel.specs.Peers.{IsLived}
use Rattle.channel.specs.Resending.{IsSince}
use Rattle.channel.specs.Connections.{Connection, cut_off, Moves, IsReachable, IsTaken, AgreesOver}
use Rattle.channel.specs.Playing.{state_of, queue_of, moved}

-- the two, where one side has this state
abbrev pub with_state : Side → State → Connection → Connection
with_state A s w = record { a = s; b = w.b; to_a = w.to_a; to_b = w.to_b }
with_state B s w = record { a = w.a; b = s; to_a = w.to_a; to_b = w.to_b }

-- what two honest peers go through from one moment to a later one: their steps, cuts, and starts again, from any state since which a side gave nothing out. The
-- peer of this side starts again while it has no secret of the newest commitment that this side had at first
pub data LeadsTo (tokens_of : Signing) (side : Side) (v : Connection) : Connection → Type 0 where
  stays : LeadsTo tokens_of side v v
  moves_on : {w : Connection} {me : State} {sent rest : List Parcel} (mover : Side) → LeadsTo tokens_of side v w → Moves tokens_of (state_of mover w) (queue_of mover w) me sent rest
      → LeadsTo tokens_of side v (moved mover w me rest sent)
  is_cut_later : {w : Connection} → LeadsTo tokens_of side v w → LeadsTo tokens_of side v (cut_off w)
  restarts : {w : Connection} (s : State) → LeadsTo tokens_of side v w → IsLived tokens_of s → IsSince tokens_of s (state_of side w)
      → LeadsTo tokens_of side v (cut_off (with_state side s w))
  peer_restarts : {w : Connection} (s : State) → LeadsTo tokens_of side v w → IsLived tokens_of s → IsSince tokens_of s (state_of (other side) w)
      → is_behind (state_of side v) (hello (state_of (other side) w)) ≡ false → LeadsTo tokens_of side v (cut_off (with_state (other side) s w))

-- the side has the state that it had at the first moment, its peer the one of the second, and the connection is cut
abbrev pub put_back_to : Side → Connection → Connection → Connection
put_back_to side v w = cut_off (with_state side (state_of side v) w)

-- honest peers reach this with nobody put back, and they agree from here on
pub record GoesOn (tokens_of : Signing) (terms : Terms) (seed_a seed_b : List ℕ) (c : Connection) : Type 0 where
  pub reached : IsReachable tokens_of terms seed_a seed_b c
  pub agreed : (side : Side) (w : Connection) → LeadsTo tokens_of side c w → AgreesOver tokens_of w

-- a side that is put back to what it was, takes its peer's hello and is not behind goes on as if what it lost had been lost on the way
abbrev pub PutBackGoesOn : Type 0
PutBackGoesOn =
    (tokens_of : Signing) (terms : Terms) (seed_a seed_b : List ℕ) (side : Side) (v w : Connection) → IsReachable tokens_of terms seed_a seed_b v → LeadsTo tokens_of side v w
    → IsTaken tokens_of (state_of side v) (Hello (hello (state_of (other side) w))) → GoesOn tokens_of terms seed_a seed_b (put_back_to side v w)

-- where the peer has no secret of its newest commitment, the older state takes the hello, unless its peer took a signature that the state does not know
pub record IsAnswered (tokens_of : Signing) (old peer : State) : Type 0 where
  pub known : length peer.secrets ≤ old.number → peer.number ≤ last_signed old → IsTaken tokens_of old (Hello (hello peer))
  pub unknown : length peer.secrets ≤ old.number → last_signed old < peer.number → hello_refusal old (hello peer) ≡ Some NeverSigned

-- an honest peer's hello is refused for nothing else
abbrev pub PutBackIsAnswered : Type 0
PutBackIsAnswered =
    (tokens_of : Signing) (terms : Terms) (seed_a seed_b : List ℕ) (side : Side) (v w : Connection) → IsReachable tokens_of terms seed_a seed_b v → LeadsTo tokens_of side v w
    → IsAnswered tokens_of (state_of side v) (state_of (other side) w)
