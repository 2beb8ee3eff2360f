use Rattle.std.proofs.Common.{◌≡◌, take, drop, map}
use Rattle.filling.specs.declared.errors.FillError.{FillError}
use Rattle.filling.specs.Filling.{filled_input}
use Rattle.filling.specs.Refusals.{AreFillable, LacksFirst, all_slots}
use Rattle.filling.specs.Standing.{AllCanSpend}
use Rattle.filling.proofs.witnesses.filled_inputs.Given as goal

abbrev pub invariant-loop-i : goal.invariant-loop-i
invariant-loop-i l = record {
  inputs : l.inputs ≡ map (filled_input l.tx l.preimages) (map (λ c. c.now) (take l.i l.claims));
  fillable : AreFillable l.signer l.preimages (all_slots (map (λ c. c.now) (drop l.i l.claims))) → AreFillable l.signer l.preimages (all_slots (map (λ c. c.now) l.claims));
  lacks : (e : FillError) → LacksFirst l.signer l.preimages (all_slots (map (λ c. c.now) (drop l.i l.claims))) e → LacksFirst l.signer l.preimages (all_slots (map (λ c. c.now) l.claims)) e;
  opening : AllCanSpend (map (λ c. c.now) (drop l.i l.claims)) → AllCanSpend (map (λ c. c.now) l.claims);
}
