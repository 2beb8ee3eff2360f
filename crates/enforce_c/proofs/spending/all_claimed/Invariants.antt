-- The claims so far are those of their rows, and a refusal of the rows that are left is one of all rows.
use Rattle.std.proofs.Common.{◌≡◌, take, drop, length}
use Rattle.enforce_c.specs.declared.about.Refused.{Refused}
use Rattle.enforce_c.specs.Spent.{AreClaimsOf, IsFirstNoClaim}
use Rattle.enforce_c.proofs.spending.all_claimed.Given as goal

abbrev pub invariant-loop-index : goal.invariant-loop-index
invariant-loop-index l = record {
  claims : AreClaimsOf l.slots l.bytes (take l.index l.rows) l.claims.items;
  refused : (e : Refused) → IsFirstNoClaim l.slots l.bytes l.index (drop l.index l.rows) e → IsFirstNoClaim l.slots l.bytes 0 l.rows e;
  count : length l.claims.items ≡ l.index;
}
