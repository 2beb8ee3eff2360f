use Rattle.std.proofs.Common.{◌≡◌, ◌++◌}
use Rattle.json_value.proofs.objects.into_list.Given as goal

-- what was taken, and then what is left, is the whole
abbrev pub invariant-loop-entry : goal.invariant-loop-entry
invariant-loop-entry l = l.list.items ++ l.entry-iterator ≡ l.fn.map.entries
