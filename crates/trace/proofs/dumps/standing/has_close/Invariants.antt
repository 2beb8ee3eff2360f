use Rattle.std.proofs.Common.{◌≡◌, drop}
use Rattle.std.specs.List.{list_any}
use Rattle.trace.specs.Standing.{is_close_of}
use Rattle.trace.proofs.dumps.standing.has_close.Given as goal

-- one of the entries that are left closes the channel where one of all does
abbrev pub invariant-loop-entry : goal.invariant-loop-entry
invariant-loop-entry l = list_any (λ e. is_close_of l.index e.call) (drop l.entry-index l.entries) ≡ list_any (λ e. is_close_of l.index e.call) l.entries
