-- That a preimage which a side learns makes nothing less.
use Rattle.std.specs.Prelude.{◌≡◌, ◌≤◌, Bool, true, List}
use Rattle.terms.specs.declared.htlcs.Htlc.{Htlc}
use Rattle.commit.specs.declared.outputs.CommitmentOutput.{CommitmentOutput}
use Rattle.channel.specs.States.{State}
use Rattle.worth_laws.specs.Shares.{counted_sat}
use Rattle.worth_laws.specs.Least.{at_least_sat}

-- each HTLC that is known here is known there
abbrev pub KnowsMore : (known more : Htlc → Bool) → Type 0
KnowsMore known more = (h : Htlc) → known h ≡ true → more h ≡ true

-- Whoever knows more HTLCs counts on outputs that are worth no less; nor is the least of what a channel gives
pub record MoreIsNotLess : Type 0 where
  pub outputs : (known more : Htlc → Bool) → KnowsMore known more → (own : Bool) (os : List CommitmentOutput) → counted_sat own known os ≤ counted_sat own more os
  pub least : (known more : Htlc → Bool) → KnowsMore known more → (s : State) → at_least_sat known s ≤ at_least_sat more s
