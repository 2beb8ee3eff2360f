-- What stays true of one side's state, whatever its peer sends.
use Rattle.std.proofs.Common.{◌≡◌, ℕ, List, None}
use Rattle.keys.specs.declared.compressed.Key.{Key}
use Rattle.terms.specs.declared.sides.Side.{Side}
use Rattle.terms.specs.declared.agreement.Terms.{Terms}
use Rattle.updates.specs.declared.changes.Update.{Update}
use Rattle.updates.specs.Refusals.{first_refusal}
use Rattle.updates.specs.Steady.{IsSteady, own_tests}
use Rattle.channel.proofs.Repeats.{none_front}
use Rattle.updates.proofs.Committed.{steady_committed}
use Rattle.updates.proofs.Sums.{begins}
use Rattle.updates.proofs.Funds.{settled_past, settled_known, settled_receiver, sender_known, past_known}
use Rattle.updates.proofs.OneSide.{steady_none, steady_made, steady_signed, steady_update, steady_signature, steady_revocation, sound_at}
use Rattle.channel.specs.declared.messages.Message.{Message}
use Rattle.updates.specs.declared.messages.PeerStep.TheVariants.{Update as Updated, CommitmentSigned}
use Rattle.channel.specs.declared.messages.Message.TheVariants.{Step, RevokeAndAck}
use Rattle.channel.specs.States.{Signing, State, state_at_opening, repeat_tests, update_refusal, receive_refusal, after_update, after_sign, after}
use Rattle.channel.specs.Reestablishing.{forgotten}
use Rattle.channel.specs.Peers.{IsLived, starts, updated_once, signed_once, received_once, forgot_once}
use Rattle.channel.specs.Agreeing.{IsSoundState, SidesAreSound}

abbrev pub IsKept : State → Type 0
IsKept s = IsSteady s.held

pub kept_opened : (terms : Terms) (side : Side) (seed : List ℕ) (point next_point : Key) → IsKept (state_at_opening terms side seed point next_point)
kept_opened terms side seed point next_point = steady_none terms side

-- what no test refuses, the ledger's tests don't
pub tests_of : (s : State) (u : Update) → update_refusal s u ≡ None → first_refusal (own_tests s.held u) ≡ None
tests_of s u e = none_front (own_tests s.held u) (repeat_tests s.fulfilled u) e

pub kept_updated : (s : State) (u : Update) → update_refusal s u ≡ None → IsKept s → IsKept (after_update u s)
kept_updated s u e k = steady_made s.held u (tests_of s u e) k

pub kept_forgotten : (s : State) → IsKept s → IsKept (forgotten s)
kept_forgotten s k = steady_committed s.held k

pub kept_signed : (s : State) → IsKept s → IsKept (after_sign s)
kept_signed s k = steady_signed s.held k

pub kept_after : (tokens_of : Signing) (s : State) (m : Message) → receive_refusal tokens_of s m ≡ None → IsKept s → IsKept (after s m)
kept_after tokens_of s (Step (Updated u)) e k = steady_update s.held u e k
kept_after tokens_of s (Step (CommitmentSigned tokens)) e k = steady_signature s.held k
kept_after tokens_of s (RevokeAndAck revocation) e k = steady_revocation s.held k

pub sound_in : (s : State) → IsKept s → IsSoundState s
sound_in s k =
    let o = k.own in
    let t = k.theirs in
    let own = s.held.own in
    let theirs = s.held.theirs in
    record {
      newest = sound_at s.held own.with_sender theirs.with_receiver k (record { holds_settled = o.settled; is_known = sender_known own o }) (record { holds_settled = settled_receiver theirs t; is_known = t.receiver });
      next = sound_at s.held own.past_receiver theirs.known k (record { holds_settled = settled_past own o; is_known = past_known own o }) (record { holds_settled = settled_known theirs t; is_known = begins theirs.known });
      peers = sound_at s.held own.past_receiver theirs.settled k (record { holds_settled = settled_past own o; is_known = past_known own o }) (record { holds_settled = begins theirs.settled; is_known = settled_known theirs t });
      peers_next = sound_at s.held own.with_receiver theirs.with_sender k (record { holds_settled = settled_receiver own o; is_known = o.receiver }) (record { holds_settled = t.settled; is_known = sender_known theirs t });
      to_sign = sound_at s.held own.known theirs.past_receiver k (record { holds_settled = settled_known own o; is_known = begins own.known }) (record { holds_settled = settled_past theirs t; is_known = past_known theirs t });
    }

pub lived_kept : (tokens_of : Signing) (s : State) → IsLived tokens_of s → IsKept s
lived_kept tokens_of s (starts terms side seed point next_point) = kept_opened terms side seed point next_point
lived_kept tokens_of s (updated_once {s = r} u e l) = kept_updated r u e (lived_kept tokens_of r l)
lived_kept tokens_of s (signed_once {s = r} e l) = kept_signed r (lived_kept tokens_of r l)
lived_kept tokens_of s (received_once {s = r} m e l) = kept_after tokens_of r m e (lived_kept tokens_of r l)
lived_kept tokens_of s (forgot_once {s = r} l) = kept_forgotten r (lived_kept tokens_of r l)

pub sides_are_sound : SidesAreSound
sides_are_sound tokens_of s l = sound_in s (lived_kept tokens_of s l)
