-- The slots so far are filled as their rows say, and no row so far has a fault.
use Rattle.std.proofs.Common.{◌≡◌, take, drop}
use Rattle.enforce_c.specs.Claimed.{slots_fault, FillAs}
use Rattle.enforce_c.proofs.claims_of_c.slots_of.Given as goal

abbrev pub invariant-loop-index : goal.invariant-loop-index
invariant-loop-index l = record {
  faults : slots_fault l.bytes l.index (drop l.index l.rows) ≡ slots_fault l.bytes 0 l.rows;
  filled : FillAs l.bytes (take l.index l.rows) l.slots.items;
}
