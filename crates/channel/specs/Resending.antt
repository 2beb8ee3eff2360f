-- What a side gives again, whoever asks for it.
use Rattle.std.specs.Prelude.{◌≡◌, ℕ, ◌+◌, ◌<◌, Bool, true, false, List, [], ◌∷◌, ◌++◌, slice_get, Some, None, Contains}
use Rattle.std.specs.List.{AllByRecursion, filter}
use Rattle.keys.specs.declared.compressed.Key.{Key}
use Rattle.terms.specs.declared.sides.Side.{Side}
use Rattle.terms.specs.declared.agreement.Terms.{Terms}
use Rattle.updates.specs.declared.changes.Update.{Update}
use Rattle.channel.specs.declared.commitments.CommitmentState.{CommitmentState}
use Rattle.channel.specs.declared.messages.Message.{Message}
use Rattle.updates.specs.declared.messages.PeerStep.TheVariants.{Update as Updated, CommitmentSigned}
use Rattle.channel.specs.declared.messages.Message.TheVariants.{Step, RevokeAndAck}
use Rattle.channel.specs.declared.reestablish.Reestablish.{Reestablish}
use Rattle.channel.specs.Points.{secret_at, point_at}
use Rattle.channel.specs.States.{Signing, State, state_at_opening, update_refusal, sign_refusal, receive_refusal, after_update, after_sign, after, answers, signature_message}
use Rattle.channel.specs.Reestablishing.{forgotten, resends}

-- an own signature covers the update; the tokens are of a commitment that this side signed; the secret is of a commitment of its own that a later one replaced
abbrev pub IsOld : Signing → State → Message → Type 0
IsOld tokens_of s (Step (Updated u)) = Contains s.held.own.with_receiver u
IsOld tokens_of s (Step (CommitmentSigned tokens)) =
    (c : CommitmentState) × Contains s.signed c × (tokens ≡ tokens_of s.held.terms c)
IsOld tokens_of s (RevokeAndAck revocation) =
    (n : ℕ) × (n < s.number) × (revocation.secret ≡ secret_at s.seed n) × (revocation.next_point ≡ point_at s.seed (n + 2))

-- whatever the hello, all that goes out again went out before
abbrev pub NothingNewGoesOut : Type 0
NothingNewGoesOut = (tokens_of : Signing) (s : State) (r : Reestablish) → AllByRecursion (IsOld tokens_of s) (resends tokens_of s r)

-- all that a side gave out for the first time in its life, the oldest first: its updates and signatures, and what answered messages
pub data HasGiven (tokens_of : Signing) : State → List Message → Type 0 where
  gave_nothing : (terms : Terms) (side : Side) (seed : List ℕ) (point next_point : Key) → HasGiven tokens_of (state_at_opening terms side seed point next_point) []
  gave_update : {s : State} {given : List Message} (u : Update) → update_refusal s u ≡ None → HasGiven tokens_of s given → HasGiven tokens_of (after_update u s) (given ++ Step (Updated u) ∷ [])
  gave_signature : {s : State} {given : List Message} → sign_refusal s ≡ None → HasGiven tokens_of s given → HasGiven tokens_of (after_sign s) (given ++ signature_message tokens_of s ∷ [])
  gave_answers : {s : State} {given : List Message} (m : Message) → receive_refusal tokens_of s m ≡ None → HasGiven tokens_of s given → HasGiven tokens_of (after s m) (given ++ answers s m)
  gave_no_more : {s : State} {given : List Message} → HasGiven tokens_of s given → HasGiven tokens_of (forgotten s) given

-- a list is another one without some of its messages, and so in the same order
pub data IsLeftOf : List Message → List Message → Type 0 where
  all_left : IsLeftOf [] []
  left_out : {xs ys : List Message} (m : Message) → IsLeftOf xs ys → IsLeftOf xs (m ∷ ys)
  left_in : {xs ys : List Message} (m : Message) → IsLeftOf xs ys → IsLeftOf (m ∷ xs) (m ∷ ys)

abbrev pub is_no_update : Message → Bool
is_no_update (Step (Updated u)) = false
is_no_update (Step (CommitmentSigned tokens)) = true
is_no_update (RevokeAndAck revocation) = true

abbrev pub is_no_revocation : Message → Bool
is_no_revocation (Step m) = true
is_no_revocation (RevokeAndAck revocation) = false

-- messages in the order in which they first went out: the signature and the revocation, and the updates and their signature. An update that went out before
-- the revocation, and that a later signature covers, goes out again with that signature
pub record InFirstOrder (again given : List Message) : Type 0 where
  pub signature_and_revocation : IsLeftOf (filter is_no_update again) given
  pub updates_and_signature : IsLeftOf (filter is_no_revocation again) given

-- whatever the hello, all that goes out again went out before, in this order
abbrev pub GoesOutInOrder : Type 0
GoesOutInOrder = (tokens_of : Signing) (s : State) (given : List Message) (r : Reestablish) → HasGiven tokens_of s given → InFirstOrder (resends tokens_of s r) given

-- a side was in a state, and since then it gave nothing out: it took messages that want no answer, and its connection was cut
pub data IsSince (tokens_of : Signing) (s : State) : State → Type 0 where
  still : IsSince tokens_of s s
  took : {t : State} (m : Message) → receive_refusal tokens_of t m ≡ None → answers t m ≡ [] → IsSince tokens_of s t → IsSince tokens_of s (after t m)
  forgot : {t : State} → IsSince tokens_of s t → IsSince tokens_of s (forgotten t)

-- the later states of a side: calls, any messages and cuts of its connection lead to them, and a start from a state since which it gave nothing out
pub data IsLater (tokens_of : Signing) (s : State) : State → Type 0 where
  now : IsLater tokens_of s s
  updated_later : {t : State} (u : Update) → update_refusal t u ≡ None → IsLater tokens_of s t → IsLater tokens_of s (after_update u t)
  signed_later : {t : State} → sign_refusal t ≡ None → IsLater tokens_of s t → IsLater tokens_of s (after_sign t)
  received_later : {t : State} (m : Message) → receive_refusal tokens_of t m ≡ None → IsLater tokens_of s t → IsLater tokens_of s (after t m)
  forgot_later : {t : State} → IsLater tokens_of s t → IsLater tokens_of s (forgotten t)
  restarted_later : {t : State} (u : State) → IsSince tokens_of u t → IsLater tokens_of s t → IsLater tokens_of s u

-- for each number one commitment is ever signed, whatever is cut, and wherever the side starts again
abbrev pub SignsOnce : Type 0
SignsOnce = (tokens_of : Signing) (s t : State) (n : ℕ) (c d : CommitmentState) → IsLater tokens_of s t → slice_get s.signed n ≡ Some c → slice_get t.signed n ≡ Some d → c ≡ d
