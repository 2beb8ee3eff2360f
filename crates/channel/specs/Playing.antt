-- Two peers played by a list of steps; a refused step changes nothing.
use Rattle.std.specs.Prelude.{◌≡◌, Bool, true, false, if◌then◌else◌, List, [], ◌∷◌, ◌++◌, map, Option, Some, None, ◌⊎◌}
use Rattle.terms.specs.declared.sides.Side.{Side}
use Rattle.terms.specs.declared.sides.Side.TheVariants.{A, B}
use Rattle.updates.specs.declared.changes.Update.{Update}
use Rattle.updates.specs.declared.errors.ChannelError.{ChannelError}
use Rattle.updates.specs.declared.errors.ChannelError.TheVariants.{NoMemory}
use Rattle.channel.specs.declared.messages.Message.{Message}
use Rattle.updates.specs.declared.messages.PeerStep.TheVariants.{Update as Updated}
use Rattle.channel.specs.declared.messages.Message.TheVariants.{Step}
use Rattle.channel.specs.declared.reestablish.Parcel.{Parcel}
use Rattle.channel.specs.declared.reestablish.Parcel.TheVariants.{Hello, Sent}
use Rattle.channel.specs.declared.plays.Action.{Action}
use Rattle.channel.specs.declared.plays.Action.TheVariants.{Own, Sign, Deliver}
use Rattle.channel.specs.declared.plays.PairStep.{PairStep}
use Rattle.channel.specs.declared.plays.PairStep.TheVariants.{Turn, Cut}
use Rattle.channel.specs.declared.plays.Outcome.{Outcome}
use Rattle.channel.specs.declared.plays.Outcome.TheVariants.{Done, Refused, NoMessage, NotConnected, Behind}
use Rattle.channel.specs.States.{Signing, State, update_of, update_refusal, sign_refusal, receive_refusal, after_update, after_sign, after, answers, signature_message}
use Rattle.channel.specs.Reestablishing.{is_behind, hello_refusal, resends}
use Rattle.channel.specs.Peers.{World}
use Rattle.channel.specs.Connections.{Connection, is_cut, cut_off}

pub record Played : Type 0 where
  pub connection : Connection
  pub outcome : Outcome

abbrev pub state_of : Side → Connection → State
state_of A w = w.a
state_of B w = w.b

-- what is on its way to a side
abbrev pub queue_of : Side → Connection → List Parcel
queue_of A w = w.to_a
queue_of B w = w.to_b

-- the two once a side has a new state, what is left of its queue, and has sent parcels
abbrev pub moved : Side → Connection → State → List Parcel → List Parcel → Connection
moved A w me rest sent = record { a = me; b = w.b; to_a = rest; to_b = w.to_b ++ sent }
moved B w me rest sent = record { a = w.a; b = me; to_a = w.to_a ++ sent; to_b = rest }

-- the second connection, if nothing refuses it
abbrev pub unless : Option ChannelError → Connection → Connection → Played
unless None w v = record { connection = v; outcome = Done }
unless (Some r) w v = record { connection = w; outcome = Refused r }

-- a call of a side, which makes none while its peer's hello has not come
abbrev pub unless_cut : List Parcel → Connection → Played → Played
unless_cut queue w p =
    if is_cut queue then record { connection = w; outcome = NotConnected } else p

-- what a hello leads to, which nothing refuses and which tells the side to be behind or not
abbrev pub after_hello : Option ChannelError → Bool → Connection → Connection → Played
after_hello (Some r) behind w v = record { connection = w; outcome = Refused r }
after_hello None true w v = record { connection = w; outcome = Behind }
after_hello None false w v = record { connection = v; outcome = Done }

abbrev pub updated_by : Connection → Side → Update → Played
updated_by w side u = unless_cut (queue_of side w) w (unless (update_refusal (state_of side w) u) w (moved side w (after_update u (state_of side w)) (queue_of side w) (Sent (Step (Updated u)) ∷ [])))

abbrev pub signed_by : Signing → Connection → Side → Played
signed_by tokens_of w side =
    unless_cut (queue_of side w) w (unless (sign_refusal (state_of side w)) w (moved side w (after_sign (state_of side w)) (queue_of side w) (Sent (signature_message tokens_of (state_of side w)) ∷ [])))

abbrev pub delivered_to : Signing → Connection → Side → List Parcel → Played
delivered_to tokens_of w side [] = record { connection = w; outcome = NoMessage }
delivered_to tokens_of w side (Sent m ∷ rest) = unless (receive_refusal tokens_of (state_of side w) m) w (moved side w (after (state_of side w) m) rest (map Sent (answers (state_of side w) m)))
delivered_to tokens_of w side (Hello r ∷ rest) =
    after_hello (hello_refusal (state_of side w) r) (is_behind (state_of side w) r) w (moved side w (state_of side w) rest (map Sent (resends tokens_of (state_of side w) r)))

abbrev pub acted : Signing → Connection → Side → Action → Played
acted tokens_of w side (Own u) = updated_by w side (update_of (state_of side w) u)
acted tokens_of w side Sign = signed_by tokens_of w side
acted tokens_of w side Deliver = delivered_to tokens_of w side (queue_of side w)

-- one step
abbrev pub played : Signing → Connection → PairStep → Played
played tokens_of w (Turn side action) = acted tokens_of w side action
played tokens_of w Cut = record { connection = cut_off w; outcome = Done }

-- a step with this outcome, which leads to this; where memory runs out, it changes nothing
abbrev pub IsPlayed : Connection → Played → Outcome → Connection → Type 0
IsPlayed w p o v = ((o ≡ Refused NoMemory) × (v ≡ w)) ⊎ ((o ≡ p.outcome) × (v ≡ p.connection))

abbrev pub IsStep : Signing → Connection → PairStep → Outcome → Connection → Type 0
IsStep tokens_of w s o v = IsPlayed w (played tokens_of w s) o v

-- the world of a side and its peer, with the messages on their way to each
abbrev pub placed : Side → State → State → List Message → List Message → World
placed A me peer to_me to_peer = record { a = me; b = peer; to_a = to_me; to_b = to_peer }
placed B me peer to_me to_peer = record { a = peer; b = me; to_a = to_peer; to_b = to_me }

-- the same with parcels
abbrev pub joining : Side → State → State → List Parcel → List Parcel → Connection
joining A me peer to_me to_peer = record { a = me; b = peer; to_a = to_me; to_b = to_peer }
joining B me peer to_me to_peer = record { a = peer; b = me; to_a = to_peer; to_b = to_me }

-- what one side does in its step: the outcome, and then its state, the queue to it and the one to its peer. The side may be either one, and its peer stays
-- as it is
abbrev pub IsTurn : Signing → Action → State → List Parcel → List Parcel → Outcome → State → List Parcel → List Parcel → Type 0
IsTurn tokens_of action me to_me to_peer o new_me new_to_me new_to_peer =
    (side : Side) (peer : State) → IsStep tokens_of (joining side me peer to_me to_peer) (Turn side action) o (joining side new_me peer new_to_me new_to_peer)

-- steps that have these outcomes and lead to this; where memory runs out, a step changes nothing
abbrev pub IsPlay : Signing → Connection → List PairStep → List Outcome → Connection → Type 0
IsPlay tokens_of w [] [] v = v ≡ w
IsPlay tokens_of w (s ∷ steps) (o ∷ outcomes) v =
    ((o ≡ Refused NoMemory) × IsPlay tokens_of w steps outcomes v)
    ⊎ ((o ≡ (played tokens_of w s).outcome) × IsPlay tokens_of (played tokens_of w s).connection steps outcomes v)
IsPlay tokens_of w [] (o ∷ outcomes) v = ⊥
IsPlay tokens_of w (s ∷ steps) [] v = ⊥

-- the outcomes, where memory never runs out
abbrev pub outcomes_of : Signing → Connection → List PairStep → List Outcome
outcomes_of tokens_of w [] = []
outcomes_of tokens_of w (s ∷ steps) = (played tokens_of w s).outcome ∷ outcomes_of tokens_of (played tokens_of w s).connection steps

abbrev pub connection_after : Signing → Connection → List PairStep → Connection
connection_after tokens_of w [] = w
connection_after tokens_of w (s ∷ steps) = connection_after tokens_of (played tokens_of w s).connection steps

-- a delivery is refused only where memory ran out, and tells nobody to be behind
abbrev pub IsDelivered : PairStep → Outcome → Type 0
IsDelivered (Turn side Deliver) (Refused r) = r ≡ NoMemory
IsDelivered (Turn side Deliver) Behind = ⊥
IsDelivered step outcome = Unit {0}

abbrev pub AreDelivered : List PairStep → List Outcome → Type 0
AreDelivered [] outcomes = Unit {0}
AreDelivered (s ∷ steps) [] = Unit {0}
AreDelivered (s ∷ steps) (o ∷ outcomes) = IsDelivered s o × AreDelivered steps outcomes
