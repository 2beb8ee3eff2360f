use Rattle.std.proofs.Common.{length}
use Rattle.json_names.proofs.repeats.repeated_member.Given as goal

abbrev pub decreases-loop-token : goal.decreases-loop-token
decreases-loop-token l = length l.reader
