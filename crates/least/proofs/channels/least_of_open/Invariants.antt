use Rattle.std.proofs.Common.{◌≡◌, ◌∷◌, false, map, drop}
use Rattle.channel.specs.Tokens.{contents_of}
use Rattle.worth_laws.specs.Counted.{known_by}
use Rattle.worth_laws.specs.Shares.{counted_sat}
use Rattle.worth_laws.specs.Least.{least}
use Rattle.least.proofs.channels.least_of_open.Given as goal

-- what is left from here gives the least of all
abbrev pub invariant-loop-commitment : goal.invariant-loop-commitment
invariant-loop-commitment l = least (l.least_sat ∷ map (λ k. counted_sat false (known_by l.known) (contents_of l.terms k).outputs) (drop l.commitment-index l.commitments)) ≡ least (l.fn.most_sat ∷ map (λ k. counted_sat false (known_by l.known) (contents_of l.terms k).outputs) l.commitments)
