-- An HTLC that a side fulfilled, over its whole life.
use Rattle.std.specs.Prelude.{◌≡◌, ℕ, List, None, Contains}
use Rattle.updates.specs.declared.changes.Update.TheVariants.{Fulfil, Fail}
use Rattle.channel.specs.declared.messages.Message.{Message}
use Rattle.updates.specs.declared.messages.PeerStep.TheVariants.{Update as Updated}
use Rattle.channel.specs.declared.messages.Message.TheVariants.{Step}
use Rattle.channel.specs.States.{Signing, State, update_refusal}
use Rattle.channel.specs.Resending.{HasGiven, IsLater}

-- a side that gave a fulfilment never fails that HTLC, in any later state of its life: its preimage is out
abbrev pub FulfilledAreNotFailed : Type 0
FulfilledAreNotFailed =
    (tokens_of : Signing) (s t : State) (given : List Message) (id : ℕ) (preimage : List ℕ) → HasGiven tokens_of s given → Contains given (Step (Updated (Fulfil id preimage)))
    → IsLater tokens_of s t → update_refusal t (Fail id) ≡ None → ⊥
