-- Two peers whose connection is cut at any moment, and who may start again from what they wrote (BOLT 2, "Message Retransmission").
use Rattle.std.specs.Prelude.{◌≡◌, ℕ, ◌<◌, ◌≤◌, Bool, true, false, List, [], ◌∷◌, ◌++◌, length, map, Option, None}
use Rattle.terms.specs.declared.agreement.Terms.{Terms}
use Rattle.updates.specs.declared.changes.Update.{Update}
use Rattle.updates.specs.declared.errors.ChannelError.{ChannelError}
use Rattle.updates.specs.Refusals.{first_refusal}
use Rattle.channel.specs.declared.messages.Message.{Message}
use Rattle.updates.specs.declared.messages.PeerStep.TheVariants.{Update as Updated}
use Rattle.channel.specs.declared.messages.Message.TheVariants.{Step}
use Rattle.channel.specs.declared.reestablish.Reestablish.{Reestablish}
use Rattle.channel.specs.declared.reestablish.Parcel.{Parcel}
use Rattle.channel.specs.declared.reestablish.Parcel.TheVariants.{Hello, Sent}
use Rattle.channel.specs.States.{Signing, State, update_refusal, sign_refusal, receive_refusal, after_update, after_sign, after, answers, signature_message}
use Rattle.channel.specs.Reestablishing.{forgotten, hello, is_behind, number_tests, hello_refusal, resends}
use Rattle.channel.specs.Peers.{opened_both, IsLived}
use Rattle.channel.specs.Resending.{IsSince}
use Rattle.channel.specs.Agreeing.{FirstOf, IsSoundState}

pub record Connection : Type 0 where
  pub a : State
  pub b : State
  pub to_a : List Parcel  -- the oldest first
  pub to_b : List Parcel

-- both sides of a new channel, whose connection stands
abbrev pub opened : Terms → List ℕ → List ℕ → Connection
opened terms seed_a seed_b = record {
  a = (opened_both terms seed_a seed_b).a;
  b = (opened_both terms seed_a seed_b).b;
  to_a = [];
  to_b = [];
}

-- a side whose connection was cut calls nothing until its peer's hello came, which is the oldest parcel on its way to it
abbrev pub is_cut : List Parcel → Bool
is_cut (Hello r ∷ rest) = true
is_cut parcels = false

-- the connection is cut, and made again: all that is on its way is lost, each side forgets, and its hello is on its way. What comes before a cut was
-- delivered before it, so that any last part of a queue may be what is lost
abbrev pub cut_off : Connection → Connection
cut_off w = record {
  a = forgotten w.a;
  b = forgotten w.b;
  to_a = Hello (hello w.b) ∷ [];
  to_b = Hello (hello w.a) ∷ [];
}

-- one step of a peer `me` that isn't refused: its state after the step, what it has sent, and what is left of its queue. A hello is answered by what goes out
-- again, unless it says that this side is behind
pub data Moves (tokens_of : Signing) (me : State) (queue : List Parcel) : State → List Parcel → List Parcel → Type 0 where
  makes : (u : Update) → is_cut queue ≡ false → update_refusal me u ≡ None → Moves tokens_of me queue (after_update u me) (Sent (Step (Updated u)) ∷ []) queue
  gives : is_cut queue ≡ false → sign_refusal me ≡ None → Moves tokens_of me queue (after_sign me) (Sent (signature_message tokens_of me) ∷ []) queue
  takes : (m : Message) (rest : List Parcel) → queue ≡ Sent m ∷ rest → receive_refusal tokens_of me m ≡ None → Moves tokens_of me queue (after me m) (map Sent (answers me m)) rest
  resumes : (r : Reestablish) (rest : List Parcel) → queue ≡ Hello r ∷ rest → hello_refusal me r ≡ None → is_behind me r ≡ false → Moves tokens_of me queue me (map Sent (resends tokens_of me r)) rest

-- what two honest peers reach, whatever becomes of their connection and of their memory. A side starts again from any state since which it gave nothing out: it
-- wrote each call before it sent what the call gave
pub data IsReachable (tokens_of : Signing) (terms : Terms) (seed_a seed_b : List ℕ) : Connection → Type 0 where
  opens : IsReachable tokens_of terms seed_a seed_b (opened terms seed_a seed_b)
  a_moves : {w : Connection} {me : State} {sent rest : List Parcel} → IsReachable tokens_of terms seed_a seed_b w → Moves tokens_of w.a w.to_a me sent rest
      → IsReachable tokens_of terms seed_a seed_b (record { a = me; b = w.b; to_a = rest; to_b = w.to_b ++ sent })
  b_moves : {w : Connection} {me : State} {sent rest : List Parcel} → IsReachable tokens_of terms seed_a seed_b w → Moves tokens_of w.b w.to_b me sent rest
      → IsReachable tokens_of terms seed_a seed_b (record { a = w.a; b = me; to_a = w.to_a ++ sent; to_b = rest })
  is_cut_off : {w : Connection} → IsReachable tokens_of terms seed_a seed_b w → IsReachable tokens_of terms seed_a seed_b (cut_off w)
  a_restarts : {w : Connection} (s : State) → IsReachable tokens_of terms seed_a seed_b w → IsLived tokens_of s → IsSince tokens_of s w.a
      → IsReachable tokens_of terms seed_a seed_b (cut_off (record { a = s; b = w.b; to_a = w.to_a; to_b = w.to_b }))
  b_restarts : {w : Connection} (s : State) → IsReachable tokens_of terms seed_a seed_b w → IsLived tokens_of s → IsSince tokens_of s w.b
      → IsReachable tokens_of terms seed_a seed_b (cut_off (record { a = w.a; b = s; to_a = w.to_a; to_b = w.to_b }))

abbrev pub parcel_refusal : Signing → State → Parcel → Option ChannelError
parcel_refusal tokens_of s (Hello r) = hello_refusal s r
parcel_refusal tokens_of s (Sent m) = receive_refusal tokens_of s m

abbrev pub is_told_behind : State → Parcel → Bool
is_told_behind s (Hello r) = is_behind s r
is_told_behind s (Sent m) = false

-- a parcel is not refused, and tells nobody to be behind
pub record IsTaken (tokens_of : Signing) (s : State) (p : Parcel) : Type 0 where
  pub passes : parcel_refusal tokens_of s p ≡ None
  pub ahead : is_told_behind s p ≡ false

-- the two have one value of the terms. The oldest parcel on its way to a side is taken. Each side accepted what the other signed, commitment for commitment
pub record AgreesOver (tokens_of : Signing) (w : Connection) : Type 0 where
  pub same_terms : w.a.held.terms ≡ w.b.held.terms
  pub a_takes : (p : Parcel) (rest : List Parcel) → w.to_a ≡ p ∷ rest → IsTaken tokens_of w.a p
  pub b_takes : (p : Parcel) (rest : List Parcel) → w.to_b ≡ p ∷ rest → IsTaken tokens_of w.b p
  pub a_accepted : FirstOf w.a.mine w.b.signed
  pub b_accepted : FirstOf w.b.mine w.a.signed
  pub a_sound : IsSoundState w.a
  pub b_sound : IsSoundState w.b

-- two honest peers agree, whatever becomes of their connection
abbrev pub PeersStillAgree : Type 0
PeersStillAgree = (tokens_of : Signing) (terms : Terms) (seed_a seed_b : List ℕ) (w : Connection) → IsReachable tokens_of terms seed_a seed_b w → AgreesOver tokens_of w

-- a side put back to an older state of its own is told by an honest peer to be behind exactly where the peer has the secret of its newest commitment; where the
-- peer has not, the numbers alone decide what becomes of its hello, so that the secret is never wrong
pub record IsToldBehind (old peer : State) : Type 0 where
  pub revoked : old.number < length peer.secrets → (hello_refusal old (hello peer) ≡ None) × (is_behind old (hello peer) ≡ true)
  pub newest : length peer.secrets ≤ old.number → (hello_refusal old (hello peer) ≡ first_refusal (number_tests old (hello peer))) × (is_behind old (hello peer) ≡ false)

abbrev pub BehindIsTold : Type 0
BehindIsTold = (tokens_of : Signing) (terms : Terms) (seed_a seed_b : List ℕ) (w : Connection) (old : State) → IsReachable tokens_of terms seed_a seed_b w
    → (old.seed ≡ w.a.seed → IsToldBehind old w.b) × (old.seed ≡ w.b.seed → IsToldBehind old w.a)
