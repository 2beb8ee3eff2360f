-- Values on both sides of the limits, the order of the refusals, and whole texts.
use Rattle.std.proofs.Common.{◌≡◌, ℕ, true, false, List, [], ◌∷◌, ◌++◌, replicate, map, Ok, Err, codes, refl}
use Rattle.std.specs.Str.{chars, is_utf8}
use Rattle.hex.proofs.OnLiterals.{hex_on_literals}
use Rattle.serde_json.proofs.OnLiterals.{serde_json_on_literals}
use Rattle.terms.specs.declared.sides.Side.TheVariants.{A, B}
use Rattle.terms.specs.declared.proposals.ProposedTerms.{ProposedTerms}
use Rattle.updates.specs.declared.changes.OwnUpdate.TheVariants.{Offer, Fulfil, Fail, SetFee}
use Rattle.scenario.specs.declared.events.Event.{Event}
use Rattle.scenario.specs.declared.events.Event.TheVariants.{Own, Sign, Deliver, Keep, Broadcast, BroadcastHtlc, Blocks, Look, Take, Release, Reorg, Close}
use Rattle.scenario.specs.declared.plain.PlainScenario.{PlainScenario}
use Rattle.scenario.specs.Scenarios.{scenario_of}
use Rattle.texts.specs.Terms.{terms_of}
use Rattle.scenario.specs.Events.{event_of, event_named, blocks_of as blocks_event_of, sign_of}
use Rattle.scenario.specs.declared.errors.ScenarioError.TheVariants.{NoMemory, NotJson, BadShape, OverLimit, BadTerms}
use Rattle.scenario.specs.declared.limits.TheConstants.{MAX_CHANNELS, MAX_EVENTS, MAX_BLOCKS}
use Rattle.scenario.specs.Refusals.{refusal_number}
use Rattle.scenario.specs.Seeds.{seed_of}
use Rattle.scenario.specs.Testing.{has_few_blocks, is_within_limits, tested}
use Rattle.scenario.specs.Reading.{scenario_in}

limits : (MAX_CHANNELS ≡ 8) × (MAX_EVENTS ≡ 10000) × (MAX_BLOCKS ≡ 10000)
limits = (refl, refl, refl)

refusals : map refusal_number (NoMemory ∷ NotJson ∷ BadShape ∷ OverLimit ∷ BadTerms 7 ∷ []) ≡ 0 ∷ 1 ∷ 2 ∷ 3 ∷ 4 ∷ []
refusals = refl

seeds : (seed_of A (record { a = 1 ∷ []; b = 2 ∷ [] }) ≡ 1 ∷ []) × (seed_of B (record { a = 1 ∷ []; b = 2 ∷ [] }) ≡ 2 ∷ [])
seeds = (refl, refl)

-- only `Blocks` counts: the numbers of all other events are not limited
abbrev hash : List ℕ
hash = replicate 32 9

blocks : (map has_few_blocks (Blocks 0 ∷ Blocks 10000 ∷ Blocks 10001 ∷ Blocks 18446744073709551615 ∷ []) ≡ true ∷ true ∷ false ∷ false ∷ [])
    × (map has_few_blocks (Own A 20000 (Offer 20000 hash 20000) ∷ Own A 20000 (Fulfil 20000 hash) ∷ Own A 20000 (Fail 20000) ∷ Own A 20000 (SetFee 20000) ∷ Sign A 20000 ∷ Deliver A 20000 ∷ Keep A 20000 20000 ∷ [])
    ≡ replicate 7 true)
    × (map has_few_blocks (Broadcast A 20000 20000 ∷ BroadcastHtlc A 20000 20000 20000 ∷ Look A ∷ Take A 20000 ∷ Release A 20000 ∷ Reorg 20000 20000 ∷ Close A 20000 ∷ []) ≡ replicate 7 true)
blocks = (refl, refl, refl)

-- terms of a capacity of one satoshi, whose sides begin with 999 and with this number of millisatoshis
abbrev terms : ℕ → ProposedTerms
terms b = record {
  capacity_sat = 1;
  opener = A;
  feerate_per_kw = 6;
  a = record { dust_sat = 4; delay_blocks = 2; minimum_msat = 7; start_msat = 999 };
  b = record { dust_sat = 5; delay_blocks = 3; minimum_msat = 8; start_msat = b };
}

abbrev scenario : List ProposedTerms → List Event → PlainScenario
scenario channels events = record { seed_a = replicate 32 10; seed_b = replicate 32 11; channels = channels; events = events }

within : (is_within_limits (replicate 8 (terms 1)) [] ≡ true)
    × (is_within_limits (replicate 9 (terms 1)) [] ≡ false)
    × (is_within_limits [] (replicate 10000 (Look A)) ≡ true)
    × (is_within_limits [] (replicate 10001 (Look A)) ≡ false)
    × (is_within_limits [] (Blocks 10000 ∷ Blocks 10000 ∷ []) ≡ true)
    × (is_within_limits [] (Blocks 1 ∷ Blocks 10001 ∷ []) ≡ false)
within = (refl, refl, refl, refl, refl, refl)

-- limits are tested before terms, and the first bad terms are named
tests : (tested (scenario [] []) ≡ Ok (scenario [] []))
    × (tested (scenario (terms 1 ∷ terms 1 ∷ []) (Sign A 9 ∷ [])) ≡ Ok (scenario (terms 1 ∷ terms 1 ∷ []) (Sign A 9 ∷ [])))
    × (tested (scenario (terms 2 ∷ terms 1 ∷ []) []) ≡ Err (BadTerms 0))
    × (tested (scenario (terms 1 ∷ terms 2 ∷ []) []) ≡ Err (BadTerms 1))
    × (tested (scenario (terms 1 ∷ terms 0 ∷ terms 2 ∷ []) []) ≡ Err (BadTerms 1))
    × (tested (scenario (terms 1 ∷ terms 2 ∷ []) (Blocks 10001 ∷ [])) ≡ Err OverLimit)
    × (tested (scenario (replicate 9 (terms 2)) []) ≡ Err OverLimit)
tests = (refl, refl, refl, refl, refl, refl, refl)

-- bytes that are invalid JSON or not UTF-8, and values of another shape
no_scenarios : (scenario_in [] ≡ Err NotJson)
    × (scenario_in (codes "{") ≡ Err NotJson)
    × (scenario_in (34 ∷ 255 ∷ 34 ∷ []) ≡ Err NotJson)
    × (scenario_in (34 ∷ 195 ∷ 169 ∷ 34 ∷ []) ≡ Err BadShape)
    × (scenario_in (codes "{}") ≡ Err BadShape)
    × (scenario_in (codes "{\"channels\":[],\"events\":[]}") ≡ Err BadShape)
unfolding scenario_in scenario_of chars is_utf8 serde_json_on_literals
no_scenarios = (refl, refl, refl, refl, refl, refl)

-- whole texts: `front` has both seeds
abbrev front : List ℕ
front = codes "{\"seeds\":[\"0a0a0a0a0a0a0a0a0a0a0a0a0a0a0a0a0a0a0a0a0a0a0a0a0a0a0a0a0a0a0a0a\",\"0b0b0b0b0b0b0b0b0b0b0b0b0b0b0b0b0b0b0b0b0b0b0b0b0b0b0b0b0b0b0b0b\"],"

abbrev channels : List ℕ
channels = codes "\"channels\":[{\"capacity\":1,\"opener\":\"A\",\"feerate\":6,\"dust\":[4,5],\"delay\":[2,3],\"minimum\":[7,8],\"start\":[999,1]}],"

scenarios : (scenario_in (front ++ channels ++ codes "\"events\":[[\"sign\",\"A\",9]]}") ≡ Ok (scenario (terms 1 ∷ []) (Sign A 9 ∷ [])))
    × (scenario_in (front ++ channels ++ codes "\"events\":[[\"blocks\",10001]]}") ≡ Err OverLimit)
    × (scenario_in (front ++ channels ++ codes "\"events\":[[\"blocks\"]]}") ≡ Err BadShape)
unfolding scenario_in scenario_of terms_of event_of event_named blocks_event_of sign_of chars is_utf8 hex_on_literals serde_json_on_literals
scenarios = (refl, refl, refl)
