-- Two peers with a queue in order each way.
use Rattle.std.specs.Prelude.{◌≡◌, ℕ, List, [], ◌∷◌, ◌++◌, None}
use Rattle.keys.specs.declared.compressed.Key.{Key}
use Rattle.terms.specs.declared.sides.Side.{Side}
use Rattle.terms.specs.declared.sides.Side.TheVariants.{A, B}
use Rattle.terms.specs.declared.agreement.Terms.{Terms}
use Rattle.updates.specs.declared.changes.Update.{Update}
use Rattle.channel.specs.declared.messages.Message.{Message}
use Rattle.updates.specs.declared.messages.PeerStep.TheVariants.{Update as Updated}
use Rattle.channel.specs.declared.messages.Message.TheVariants.{Step}
use Rattle.channel.specs.Points.{point_at}
use Rattle.channel.specs.States.{Signing, State, state_at_opening, update_refusal, sign_refusal, receive_refusal, after_update, after_sign, after, answers, signature_message}
use Rattle.channel.specs.Reestablishing.{forgotten}

pub record World : Type 0 where
  pub a : State
  pub b : State
  pub to_a : List Message  -- the oldest first
  pub to_b : List Message

-- both sides of a new channel, of one value of the terms, each with the other's points
abbrev pub opened_both : Terms → List ℕ → List ℕ → World
opened_both terms seed_a seed_b = record {
  a = state_at_opening terms A seed_a (point_at seed_b 0) (point_at seed_b 1);
  b = state_at_opening terms B seed_b (point_at seed_a 0) (point_at seed_a 1);
  to_a = [];
  to_b = [];
}

-- two states are those of both sides of a new channel
pub record AreOpened (a b : State) : Type 0 where
  pub terms : Terms
  pub seed_a : List ℕ
  pub seed_b : List ℕ
  pub a_is : a ≡ (opened_both terms seed_a seed_b).a
  pub b_is : b ≡ (opened_both terms seed_a seed_b).b

-- one step of a peer `me` that isn't refused: its state after the step, what it has sent, and what is left of its queue
pub data Acts (tokens_of : Signing) (me : State) (queue : List Message) : State → List Message → List Message → Type 0 where
  updates : (u : Update) → update_refusal me u ≡ None → Acts tokens_of me queue (after_update u me) (Step (Updated u) ∷ []) queue
  signs : sign_refusal me ≡ None → Acts tokens_of me queue (after_sign me) (signature_message tokens_of me ∷ []) queue
  receives : (m : Message) (rest : List Message) → queue ≡ m ∷ rest → receive_refusal tokens_of me m ≡ None → Acts tokens_of me queue (after me m) (answers me m) rest

-- one step of the two, which isn't refused (a refused one changes nothing)
pub data Steps (tokens_of : Signing) (w : World) : World → Type 0 where
  by_a : {me : State} {sent rest : List Message} → Acts tokens_of w.a w.to_a me sent rest → Steps tokens_of w (record { a = me; b = w.b; to_a = rest; to_b = w.to_b ++ sent })
  by_b : {me : State} {sent rest : List Message} → Acts tokens_of w.b w.to_b me sent rest → Steps tokens_of w (record { a = w.a; b = me; to_a = w.to_a ++ sent; to_b = rest })

-- the worlds that any interleaving of steps reaches from a new channel
pub data IsReached (tokens_of : Signing) (terms : Terms) (seed_a seed_b : List ℕ) : World → Type 0 where
  at_opening : IsReached tokens_of terms seed_a seed_b (opened_both terms seed_a seed_b)
  then : {w v : World} → IsReached tokens_of terms seed_a seed_b w → Steps tokens_of w v → IsReached tokens_of terms seed_a seed_b v

-- the states of one side that its own calls, any messages and cuts of its connection lead to, whoever sent the messages
pub data IsLived (tokens_of : Signing) : State → Type 0 where
  starts : (terms : Terms) (side : Side) (seed : List ℕ) (point next_point : Key) → IsLived tokens_of (state_at_opening terms side seed point next_point)
  updated_once : {s : State} (u : Update) → update_refusal s u ≡ None → IsLived tokens_of s → IsLived tokens_of (after_update u s)
  signed_once : {s : State} → sign_refusal s ≡ None → IsLived tokens_of s → IsLived tokens_of (after_sign s)
  received_once : {s : State} (m : Message) → receive_refusal tokens_of s m ≡ None → IsLived tokens_of s → IsLived tokens_of (after s m)
  forgot_once : {s : State} → IsLived tokens_of s → IsLived tokens_of (forgotten s)
