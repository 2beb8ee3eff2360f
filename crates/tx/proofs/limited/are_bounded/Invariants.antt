use Rattle.std.proofs.Common.{◌≡◌, take, drop}
use Rattle.std.specs.List.{list_all, AllByRecursion}
use Rattle.tx.proofs.limited.are_bounded.Given as goal

abbrev pub invariant-loop-item : goal.invariant-loop-item
invariant-loop-item g l = (list_all g.T.Element.is_bounded (drop l.item-index l.items) ≡ list_all g.T.Element.is_bounded l.items) × AllByRecursion g.T.Element.Keeps (take l.item-index l.items)
