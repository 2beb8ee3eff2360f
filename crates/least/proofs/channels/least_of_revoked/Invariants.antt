use Rattle.std.proofs.Common.{◌≡◌, ◌∷◌, true, map, drop}
use Rattle.channel.specs.Tokens.{contents_of}
use Rattle.penalty.specs.Worth.{staged, value_of}
use Rattle.worth_laws.specs.Least.{least}
use Rattle.least.proofs.channels.least_of_revoked.Given as goal

-- what is left from here gives the least of all
abbrev pub invariant-loop-commitment : goal.invariant-loop-commitment
invariant-loop-commitment l = least (l.least_sat ∷ map (λ k. value_of (staged (λ _. true) (contents_of l.terms k))) (drop l.commitment-index l.commitments)) ≡ least (l.fn.most_sat ∷ map (λ k. value_of (staged (λ _. true) (contents_of l.terms k))) l.commitments)
