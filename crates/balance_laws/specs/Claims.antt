-- What the claims on a commitment are worth that closed a channel.
use Rattle.std.specs.Prelude.{◌≢◌, ◌≤◌, ℕ, ◌+◌, ◌*◌, Bool, List}
use Rattle.std.specs.List.{Contains, AllPairs}
use Rattle.terms.specs.declared.amounts.TheConstants.{MSAT_PER_SAT}
use Rattle.terms.specs.declared.htlcs.Htlc.{Htlc}
use Rattle.penalty.specs.Claimable.{Claimable}
use Rattle.penalty.specs.Worth.{staged, value_of, fees_with}
use Rattle.channel.specs.declared.commitments.CommitmentState.{CommitmentState}
use Rattle.channel.specs.Tokens.{contents_of}
use Rattle.worth_laws.specs.Shares.{Deductions, counted_msat, deductions, all_deductions, IsLess}
use Rattle.worth_laws.specs.Counted.{counted, fees_counted}
use Rattle.worth_laws.specs.Least.{at_least_sat}
use Rattle.safety.specs.Holdings.{Holding, terms_in, peer_in}

-- Below, of the HTLCs that were offered to the node it counts on those that are `known`: it has the preimage. And `stands` says of an output's index whether the HTLC transaction that spends the output is on the chain.

-- No two claims are at one outpoint. With the fees of the HTLC transactions that stand they are worth an amount, less deductions; and without these fees they are worth what could be read before the close at the least.
-- And of each of them it holds what became of it
pub record AreWorth (h : Holding) (known : Htlc → Bool) (claims : List Claimable) (fees_sat whole_msat : ℕ) (d : Deductions) (BecameOf : Claimable → Type 0) : Type 0 where
  pub apart : AllPairs (λ o p. o.place.outpoint ≢ p.place.outpoint) claims
  pub worth : IsLess whole_msat d (value_of claims + fees_sat)
  pub least : at_least_sat known h.state ≤ value_of claims
  pub each : (o : Claimable) → Contains claims o → BecameOf o

-- Of a commitment that the peer revoked: a penalty for each output or, where its HTLC transaction stands, for the output of that. They are worth the capacity, less the deductions of both sides
abbrev pub AllAreWorth : Holding → (Htlc → Bool) → (ℕ → Bool) → CommitmentState → (Claimable → Type 0) → Type 0
AllAreWorth h known stands k BecameOf =
    AreWorth h known (staged stands (contents_of (terms_in h) k)) (fees_with stands (contents_of (terms_in h) k)) (MSAT_PER_SAT * (terms_in h).capacity_sat) (all_deductions (terms_in h) k.view (peer_in h)) BecameOf

-- Of one that is not revoked, the node's own or its peer's: one claim for each output on which the node counts. They are worth all that it counts on, less its deductions
abbrev pub ShareIsWorth : Holding → (own : Bool) → (Htlc → Bool) → (ℕ → Bool) → CommitmentState → (Claimable → Type 0) → Type 0
ShareIsWorth h own known stands k BecameOf =
    AreWorth h known (counted own known stands (contents_of (terms_in h) k)) (fees_counted own known stands (contents_of (terms_in h) k)) (counted_msat known h.state.held.side k.view)
    (deductions (terms_in h) k.view own h.state.held.side known) BecameOf
