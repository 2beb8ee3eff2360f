-- The scenario that bytes spell, or the first reason why they spell none.
use Rattle.std.specs.Prelude.{◌≡◌, ℕ, if◌then◌else◌, List, Option, None, ok_or, Result, Ok, Err}
use Rattle.std.specs.Str.{is_utf8}
use Rattle.serde_json.specs.Data.{Data}
use Rattle.serde_json.specs.Read.{read}
use Rattle.scenario.specs.declared.plain.PlainScenario.{PlainScenario}
use Rattle.scenario.specs.Scenarios.{scenario_of}
use Rattle.scenario.specs.declared.errors.ScenarioError.{ScenarioError}
use Rattle.scenario.specs.declared.errors.ScenarioError.TheVariants.{NoMemory, NotJson, BadShape}
use Rattle.scenario.specs.declared.scenarios.Scenario.{Scenario}
use Rattle.scenario.specs.Testing.{tested}

-- a result, seen by view, is the defined one, unless memory ran out
abbrev pub Reads : {X Y : Type 0} → (X → Y) → Result X ScenarioError → Result Y ScenarioError → Type 0
Reads view (Ok x) answer = answer ≡ Ok (view x)
Reads view (Err NoMemory) answer = Unit {0}
Reads view (Err e) answer = answer ≡ Err e

-- a scenario without its proofs, as it was read
abbrev pub plain_of : Scenario → PlainScenario
plain_of s = record { seed_a = s.seeds.a; seed_b = s.seeds.b; channels = s.channels; events = s.events }

-- the second step, unless the first one is refused
infixl 10 ◌>>=◌
abbrev pub ◌>>=◌ : {X Y : Type 0} → Result X ScenarioError → (X → Result Y ScenarioError) → Result Y ScenarioError
(Ok x) >>= f = f x
(Err e) >>= f = Err e

-- the value that bytes spell: a JSON text in UTF-8 (RFC 8259)
abbrev pub value_in : List ℕ → Option Data
value_in bytes = if is_utf8 bytes then read bytes else None

-- the plain scenario that bytes spell: they are valid JSON, and then the whole value has the shape
abbrev pub plain_in : List ℕ → Result PlainScenario ScenarioError
plain_in bytes = ok_or (value_in bytes) NotJson >>= (λ d. ok_or (scenario_of d) BadShape)

-- the scenario that bytes spell: it keeps the limits, and then the sides can agree on the terms of each channel
unfoldable pub scenario_in : List ℕ → Result PlainScenario ScenarioError
scenario_in bytes = plain_in bytes >>= tested
