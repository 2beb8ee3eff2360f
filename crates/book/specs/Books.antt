-- What a book knows, as a function of its history.
use Rattle.std.specs.Prelude.{ℕ, zero, suc, ◌+◌, ◌==◌, nat_lt, Bool, true, false, if◌then◌else◌, List, [], ◌∷◌, ◌++◌, length, map, reverse, Option, Some, None, is_some}
use Rattle.std.specs.List.{list_any}
use Rattle.tx.specs.declared.input.OutPoint.{OutPoint}
use Rattle.updates.specs.declared.changes.OwnUpdate.TheVariants.{Offer, Fulfil, Fail, SetFee}
use Rattle.updates.specs.declared.messages.PeerStep.TheVariants.{Update as Updated, CommitmentSigned}
use Rattle.channel.specs.declared.messages.Message.TheVariants.{Step as StepMessage, RevokeAndAck}
use Rattle.channel.specs.States.{State, update_of, state_at_opening, after_update, after_sign, after}
use Rattle.book.specs.declared.calls.Opening.{Opening}
use Rattle.book.specs.declared.calls.Step.{Step}
use Rattle.book.specs.declared.calls.Step.TheVariants.{Own, Peer}
use Rattle.book.specs.declared.calls.Call.{Call}
use Rattle.book.specs.declared.calls.Call.TheVariants.{Open, Step as Stepping, Sign, Revoke, Keep, Release, Close}
use Rattle.book.specs.declared.calls.Entry.{Entry}

-- a channel of a book: its state, the numbers of the peer's revoked commitments whose penalties are kept, and the number of the commitment with which this side closed the channel, if it did
pub record ChannelBook : Type 0 where
  pub state : State
  pub kept : List ℕ
  pub closed : Option ℕ

-- the channels, in the order in which they were opened
abbrev pub Channels : Type 0
Channels = List ChannelBook

-- the list with the value at an index changed
abbrev pub at_index : {A : Type 0} → (A → A) → ℕ → List A → List A
at_index f n [] = []
at_index f zero (x ∷ xs) = f x ∷ xs
at_index f (suc n) (x ∷ xs) = x ∷ at_index f n xs

abbrev pub stepped : Step → State → State
stepped (Own u) s = after_update (update_of s u) s
stepped (Peer step) s = after s (StepMessage step)

abbrev pub opened_by : Opening → ChannelBook
opened_by o =
    record { state = state_at_opening o.terms o.side o.seed o.first_point o.next_point; kept = []; closed = None }

abbrev pub with_state : (State → State) → ChannelBook → ChannelBook
with_state f ch = record ch { state = f ch.state }

abbrev pub with_kept : ℕ → ChannelBook → ChannelBook
with_kept n ch = record ch { kept = ch.kept ++ n ∷ [] }

-- this side closes the channel with its newest commitment
abbrev pub with_closed : ChannelBook → ChannelBook
with_closed ch = record ch { closed = Some ch.state.number }

-- the channels after an accepted call
abbrev pub channels_after : Call → Channels → Channels
channels_after (Open o) chs = chs ++ opened_by o ∷ []
channels_after (Stepping c step) chs = at_index (with_state (stepped step)) c chs
channels_after (Sign c) chs = at_index (with_state after_sign) c chs
channels_after (Revoke c revocation) chs =
    at_index (with_state (λ s. after s (RevokeAndAck revocation))) c chs
channels_after (Keep c n claims) chs = at_index (with_kept n) c chs
channels_after (Release c batch) chs = chs
channels_after (Close c) chs = at_index with_closed c chs

-- the channels after these accepted calls, which have the newest first
abbrev pub replayed : List Entry → Channels
replayed [] = []
replayed (e ∷ es) = channels_after e.call (replayed es)

-- the channels after a history, which has the oldest entry first
abbrev pub replay : List Entry → Channels
replay history = replayed (reverse history)

-- the funding outputs of the channels
abbrev pub fundings_of : Channels → List OutPoint
fundings_of chs = map (λ ch. ch.state.held.terms.funding) chs

-- ---- closed channels

abbrev pub is_closed : ChannelBook → Bool
is_closed ch = is_some ch.closed

-- whether a closed channel refuses a step: a received signature, whose answer would reveal the secret of the commitment that was broadcast; and an update of one's own but a fulfil, whose preimage the book
-- wants for its claims
abbrev pub is_barred : Step → Bool
is_barred (Own (Offer amount_msat hash expiry_height)) = true
is_barred (Own (Fulfil id preimage)) = false
is_barred (Own (Fail id)) = true
is_barred (Own (SetFee feerate_per_kw)) = true
is_barred (Peer (Updated u)) = false
is_barred (Peer (CommitmentSigned tokens)) = true

-- ---- the peer's revoked commitments

abbrev pub is_kept : List ℕ → ℕ → Bool
is_kept kept n = list_any (λ m. m == n) kept

-- whether the penalties of the peer's commitment of a number are kept, where it is revoked
abbrev pub kept_at : ChannelBook → ℕ → Option Bool
kept_at ch n = if nat_lt n (length ch.state.secrets) then Some (is_kept ch.kept n) else None

-- the lowest of `count` numbers from n on that is not kept
abbrev pub missing_from : List ℕ → ℕ → ℕ → Option ℕ
missing_from kept n zero = None
missing_from kept n (suc count) = if is_kept kept n then missing_from kept (n + 1) count else Some n

-- the lowest number of a revoked commitment whose penalties are not kept
abbrev pub first_missing : ChannelBook → Option ℕ
first_missing ch = missing_from ch.kept 0 (length ch.state.secrets)
