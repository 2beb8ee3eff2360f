use Rattle.std.proofs.Common.{◌≡◌, take, drop, map}
use Rattle.filling.specs.declared.errors.FillError.{FillError}
use Rattle.filling.specs.Filling.{item_for}
use Rattle.filling.specs.Refusals.{AreFillable, LacksFirst}
use Rattle.filling.proofs.witnesses.items.Given as goal

abbrev pub invariant-loop-slot : goal.invariant-loop-slot
invariant-loop-slot l = record {
  items : l.items.items ≡ map (item_for l.digest l.preimages) (take l.slot-index l.slots);
  fillable : AreFillable l.signer l.preimages (drop l.slot-index l.slots) → AreFillable l.signer l.preimages l.slots;
  lacks : (e : FillError) → LacksFirst l.signer l.preimages (drop l.slot-index l.slots) e → LacksFirst l.signer l.preimages l.slots e;
}
