use Rattle.std.proofs.Common.{◌≡◌, ◌++◌, map, drop}
use Rattle.channel.specs.Reestablishing.{update_message}
use Rattle.channel.proofs.channel.resending.push_updates.Given as goal

abbrev pub invariant-loop-update : goal.invariant-loop-update
invariant-loop-update l = l.messages.items ++ map update_message (drop l.update-index l.updates) ≡ l.initial.messages.items ++ map update_message l.updates
