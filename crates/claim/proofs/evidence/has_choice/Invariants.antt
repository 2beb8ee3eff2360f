use Rattle.std.proofs.Common.{◌≡◌, ◌≤◌, drop, length}
use Rattle.claim.specs.Evidence.{token_evidence, is_yes}
use Rattle.claim.proofs.Choosing.{greedy}
use Rattle.claim.proofs.evidence.has_choice.Given as goal

abbrev pub invariant-loop-key : goal.invariant-loop-key
invariant-loop-key l = record {
  rest : greedy (λ i k. is_yes (token_evidence l.known l.slots i k)) (drop l.taken l.places) (drop l.key-index l.keys) ≡ greedy (λ i k. is_yes (token_evidence l.known l.slots i k)) l.places l.keys;
  within : l.taken ≤ length l.places;
}
