use Rattle.std.proofs.Common.{◌≡◌, false, take, drop, map}
use Rattle.std.specs.List.{list_any}
use Rattle.filling.specs.Refusals.{has_fixed}
use Rattle.filling.specs.Standing.{AllCanSpend}
use Rattle.filling.specs.Spends.{blank_input, lacks_preimage}
use Rattle.filling.proofs.blanks.blank_inputs.Given as goal

abbrev pub invariant-loop-claim : goal.invariant-loop-claim
invariant-loop-claim l = record {
  inputs : l.inputs ≡ map (blank_input l.preimages) (map (λ c. c.now) (take l.claim-index l.claims));
  lone : has_fixed (map (λ c. c.now) (drop l.claim-index l.claims)) ≡ false;
  preimages : list_any (lacks_preimage l.preimages) (map (λ c. c.now) (drop l.claim-index l.claims)) ≡ false;
  can_spend : AllCanSpend (map (λ c. c.now) (drop l.claim-index l.claims)) → AllCanSpend (map (λ c. c.now) l.claims);
}
