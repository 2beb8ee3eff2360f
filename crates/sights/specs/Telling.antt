-- What is told of a channel: each claim that is due, what became of its output, from which block on the claim can be filled, and from which one on somebody else can take the output.
use Rattle.std.specs.Prelude.{◌≡◌, ℕ, ◌+◌, max, List, [], map, reverse, Option, Some, None, option_map}
use Rattle.std.specs.List.{find}
use Rattle.tx.specs.declared.input.OutPoint.{OutPoint}
use Rattle.chain.specs.Blocks.{names}
use Rattle.claim.specs.Claims.{ClaimParts, sequence_of, lock_time_of}
use Rattle.commit.specs.Commitments.{Contents}
use Rattle.penalty.specs.Sets.{AreClaimsOn}
use Rattle.resolve.specs.declared.verdicts.Verdict.{Verdict}
use Rattle.resolve.specs.declared.known.Known.{Known}
use Rattle.resolve.specs.Due.{due_of}
use Rattle.watch.specs.Verdicts.{verdict_of}
use Rattle.watch.specs.Learning.{commitment_by}
use Rattle.sights.specs.declared.sighted.Sighted.{Sighted}
use Rattle.sights.specs.declared.telling.Told.{Told}
use Rattle.sights.specs.Sights.{made_at, was_taken}
use Rattle.sights.specs.Deadlines.{deadline_of}

-- the least height of a block that can have a filling of the claim: its output's age is reached (BIP 68), and the block is above its lock time (BIP 65)
abbrev pub fills_at : ClaimParts → (made : ℕ) → ℕ
fills_at x made = max (made + sequence_of x) (lock_time_of x + 1)

-- what is told of a claim that is due by a verdict on a commitment
abbrev pub told_by : List Sighted → Verdict → Option Contents → ClaimParts → Told
told_by ss verdict commitment x = record {
  claim = x;
  made_height = made_at x.place.outpoint ss;
  is_taken = was_taken x.place.outpoint ss;
  least_height = option_map (fills_at x) (made_at x.place.outpoint ss);
  deadline = deadline_of verdict commitment x.place.outpoint (made_at x.place.outpoint ss);
}

abbrev pub told_of : List Sighted → Known → Verdict → ClaimParts → Told
told_of ss known verdict x = told_by ss verdict (commitment_by known verdict) x

-- the transaction that closed a channel, of which a chain has one
abbrev pub close_of : OutPoint → List Sighted → Option Sighted
close_of funding ss = find (λ s. names funding s.tx) (reverse ss)

-- what is told by a verdict: a claim for each output that is due by it, in order
pub record IsToldBy (ss : List Sighted) (known : Known) (verdict : Verdict) (told : List Told) : Type 0 where
  pub claims : AreClaimsOn (due_of known verdict) (map (λ x. x.claim) told)
  pub each : told ≡ map (told_of ss known verdict) (map (λ x. x.claim) told)

-- by the transaction that closed the channel, if one did
abbrev pub IsToldIf : List Sighted → Known → Option Sighted → List Told → Type 0
IsToldIf ss known None told = told ≡ []
IsToldIf ss known (Some s) told = IsToldBy ss known (verdict_of known s.tx) told

abbrev pub IsTold : List Sighted → Known → List Told → Type 0
IsTold ss known told = IsToldIf ss known (close_of known.terms.funding ss) told
