-- The commitments of a channel that its sides may broadcast without a penalty, and the HTLCs in them.
use Rattle.std.specs.Prelude.{ℕ, ◌+◌, ◌==◌, ◌&&◌, Bool, true, false, if◌then◌else◌, not, List, [], Option, Some, None}
use Rattle.std.specs.Prelude.{slice_get}
use Rattle.std.specs.List.{list_any}
use Rattle.terms.specs.declared.htlcs.Htlc.{Htlc}
use Rattle.terms.specs.declared.sides.Side.{Side}
use Rattle.terms.specs.Views.{share}
use Rattle.channel.specs.declared.commitments.CommitmentState.{CommitmentState}
use Rattle.channel.specs.States.{State}
use Rattle.book.specs.declared.calls.Call.{Call}
use Rattle.book.specs.declared.calls.Call.TheVariants.{Close}
use Rattle.book.specs.declared.calls.Entry.{Entry}
use Rattle.trace.specs.declared.dumps.standing.Source.{Source}
use Rattle.trace.specs.declared.dumps.standing.Source.TheVariants.{Ours, Theirs, Next}

-- one's own newest, the peer's newest whose predecessor is revoked, and the peer's after that, where it is signed
abbrev pub commitment_of : Source → State → Option CommitmentState
commitment_of Ours s = slice_get s.mine s.number
commitment_of Theirs s = slice_get s.signed s.peer_number
commitment_of Next s = slice_get s.signed (s.peer_number + 1)

abbrev pub htlcs_if : Side → Option CommitmentState → List Htlc
htlcs_if offerer None = []
htlcs_if offerer (Some c) = (share offerer c.view).offered

-- the HTLCs of a commitment that a side offered
abbrev pub htlcs_of : Source → Side → State → List Htlc
htlcs_of source offerer s = htlcs_if offerer (commitment_of source s)

-- one of these has the id; the ids of one side's HTLCs are unlike
abbrev pub has_id : ℕ → List Htlc → Bool
has_id id htlcs = list_any (λ h. h.id == id) htlcs

-- an HTLC with this id stands in a commitment
abbrev pub stands_in : Source → Side → State → ℕ → Bool
stands_in source offerer s id = has_id id (htlcs_of source offerer s)

-- it stands in none of the commitments before this one
abbrev pub is_new_in : Source → Side → State → ℕ → Bool
is_new_in Ours offerer s id = true
is_new_in Theirs offerer s id = not (stands_in Ours offerer s id)
is_new_in Next offerer s id = not (stands_in Ours offerer s id) && not (stands_in Theirs offerer s id)

-- ---- closed channels

abbrev pub is_close_of : ℕ → Call → Bool
is_close_of c (Close d) = d == c
is_close_of c call = false

-- the number of the commitment with which a side closed its channel of an index: its newest one, which it stays
abbrev pub closed_with : List Entry → ℕ → State → Option ℕ
closed_with history c s = if list_any (λ e. is_close_of c e.call) history then Some s.number else None
