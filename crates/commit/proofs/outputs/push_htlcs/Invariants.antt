use Rattle.std.proofs.Common.{◌≡◌, ◌++◌, map, drop}
use Rattle.commit.specs.Keys.{bytes_of}
use Rattle.commit.specs.Outputs.{htlc_output}
use Rattle.commit.proofs.outputs.push_htlcs.Given as goal

-- what is left gives the whole
abbrev pub invariant-loop-htlc : goal.invariant-loop-htlc
invariant-loop-htlc l =
    l.outputs.items ++ map (htlc_output (bytes_of l.scripts.keys) l.direction) (drop l.htlc-index l.htlcs)
    ≡ l.initial.outputs.items ++ map (htlc_output (bytes_of l.scripts.keys) l.direction) l.htlcs
