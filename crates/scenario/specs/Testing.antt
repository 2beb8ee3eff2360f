-- The tests of a plain scenario: its limits first, and then the terms of its channels in order.
use Rattle.std.specs.Prelude.{ℕ, Bool, not, ◌&&◌, nat_le, if◌then◌else◌, List, length, Option, Some, None, Result, Ok, Err}
use Rattle.std.specs.List.{list_all, position_from}
use Rattle.terms.specs.declared.proposals.ProposedTerms.{ProposedTerms}
use Rattle.scenario.specs.declared.events.Event.{Event}
use Rattle.scenario.specs.declared.events.Event.TheVariants.{Blocks}
use Rattle.scenario.specs.declared.plain.PlainScenario.{PlainScenario}
use Rattle.terms.specs.Proposals.{can_agree}
use Rattle.scenario.specs.declared.errors.ScenarioError.{ScenarioError}
use Rattle.scenario.specs.declared.errors.ScenarioError.TheVariants.{OverLimit, BadTerms}
use Rattle.scenario.specs.declared.limits.TheConstants.{MAX_CHANNELS, MAX_EVENTS, MAX_BLOCKS}

-- the number of blocks by which an event grows the chain
abbrev pub blocks_of : Event → ℕ
blocks_of (Blocks count) = count
blocks_of event = 0

abbrev pub has_few_blocks : Event → Bool
has_few_blocks event = nat_le (blocks_of event) MAX_BLOCKS

abbrev pub have_few_blocks : List Event → Bool
have_few_blocks events = list_all has_few_blocks events

abbrev pub is_within_limits : List ProposedTerms → List Event → Bool
is_within_limits channels events = nat_le (length channels) MAX_CHANNELS && nat_le (length events) MAX_EVENTS && have_few_blocks events

-- the first channel on whose terms the two sides can't agree, counted from 0
abbrev pub first_bad_terms : List ProposedTerms → Option ℕ
first_bad_terms channels = position_from (λ terms. not (can_agree terms)) 0 channels

abbrev pub unless_bad : PlainScenario → Option ℕ → Result PlainScenario ScenarioError
unless_bad s None = Ok s
unless_bad s (Some channel) = Err (BadTerms channel)

abbrev pub tested : PlainScenario → Result PlainScenario ScenarioError
tested s = if is_within_limits s.channels s.events then unless_bad s (first_bad_terms s.channels) else Err OverLimit
