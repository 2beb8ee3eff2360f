-- Scenarios in JSON.
use Rattle.std.specs.Prelude.{Option, Some, codes}
use Rattle.serde_json.specs.Data.{Data}
use Rattle.scenario.specs.declared.plain.PlainScenario.{PlainScenario}
use Rattle.claim.specs.Opcodes.{◌>>=◌}
use Rattle.texts.specs.Values.{object_of, member_of, pair_of, list_of, bytes_of_len}
use Rattle.texts.specs.Terms.{terms_of}
use Rattle.scenario.specs.Events.{event_of}

-- an object of these three members
unfoldable pub scenario_of : Data → Option PlainScenario
scenario_of d = do
  form ← object_of 3 d
  seeds ← member_of (codes "seeds") (pair_of (bytes_of_len 32)) form
  channels ← member_of (codes "channels") (list_of terms_of) form
  events ← member_of (codes "events") (list_of event_of) form
  Some (record { seed_a = seeds.0; seed_b = seeds.1; channels = channels; events = events })
