-- Two books that hold the two ends of the same channels, with the messages on their way between them.
use Rattle.std.specs.Prelude.{◌≡◌, ◌⊎◌, ℕ, ◌∷◌, List, [], Option, Some, slice_get, true}
use Rattle.terms.specs.declared.sides.Side.{Side}
use Rattle.channel.specs.declared.messages.Message.{Message}
use Rattle.updates.specs.declared.messages.PeerStep.TheVariants.{CommitmentSigned}
use Rattle.channel.specs.declared.messages.Message.TheVariants.{Step as StepMessage}
use Rattle.updates.specs.declared.messages.Tokens.{Tokens}
use Rattle.channel.specs.Tokens.{peer_tokens}
use Rattle.channel.specs.States.{State}
use Rattle.channel.specs.Playing.{placed}
use Rattle.channel.specs.Recording.{AreByNumber}
use Rattle.channel.specs.Agreeing.{FirstOf, IsSoundState, IsPaired}
use Rattle.book.specs.declared.calls.Entry.{Entry}
use Rattle.book.specs.Books.{ChannelBook, Channels, is_closed, replay}
use Rattle.book.specs.Replies.{is_accepted, reply_of}
use Rattle.book.specs.Acts.{call_of}

-- each channel of a side, the same one of its peer, and the messages between them are what steps of two honest peers make of a new channel
abbrev pub ArePaired : Side → Channels → Channels → List (List Message) → List (List Message) → Type 0
ArePaired side [] [] [] [] = Unit {0}
ArePaired side (x ∷ xs) (y ∷ ys) (p ∷ ps) (q ∷ qs) = IsPaired peer_tokens (placed side x.state y.state p q) × ArePaired side xs ys ps qs
ArePaired side xs ys ps qs = ⊥

-- the same for two books, by their histories
abbrev pub AgreeBy : Side → List Entry → List Entry → List (List Message) → List (List Message) → Type 0
AgreeBy side mine peers to_me to_peer = ArePaired side (replay mine) (replay peers) to_me to_peer

-- the channel was closed, and the message is a signature: the answer to it would reveal the secret of a commitment that was broadcast
pub record IsShutOut (o : Option ChannelBook) (m : Message) : Type 0 where
  pub ch : ChannelBook
  pub tokens : Tokens
  pub there : o ≡ Some ch
  pub closed : is_closed ch ≡ true
  pub signature : m ≡ StepMessage (CommitmentSigned tokens)

-- if two books agree, each takes the oldest message on its way to it, except a signature in a channel that it closed
abbrev pub DeliveriesAreTaken : Type 0
DeliveriesAreTaken = (side : Side) (mine peers : List Entry) (to_me to_peer : List (List Message)) (c : ℕ) (m : Message) (rest : List Message)
    → AgreeBy side mine peers to_me to_peer → slice_get to_me c ≡ Some (m ∷ rest)
    → (is_accepted (reply_of peer_tokens mine (call_of c m)) ≡ true) ⊎ IsShutOut (slice_get (replay mine) c) m

-- the two ends of a channel: they have the same terms, and each accepted what the other signed, commitment for commitment. In each view of either no balance is below 0, and balances and
-- HTLCs sum to the capacity. The commitments of each stand by number, and the view of each shares out the capacity
pub record AreEnds (a b : State) : Type 0 where
  pub terms : a.held.terms ≡ b.held.terms
  pub a_accepted : FirstOf a.mine b.signed
  pub b_accepted : FirstOf b.mine a.signed
  pub a_sound : IsSoundState a
  pub b_sound : IsSoundState b
  pub a_numbered : AreByNumber a
  pub b_numbered : AreByNumber b
