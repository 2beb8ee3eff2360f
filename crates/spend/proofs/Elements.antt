-- Reading outputs in order: what was read, followed by what is left, is the whole.
use Rattle.std.proofs.Common.{◌≡◌, ℕ, List, ◌++◌, drop, Option, Some, None}
use Rattle.json_value.specs.View.{items_view}
use Rattle.json_value.specs.declared.value.Value.{Value}
use Rattle.serde_json.specs.Data.{Data}
use Rattle.texts.specs.Values.{each_of}

abbrev onto : {X : Type 0} → List X → Option (List X) → Option (List X)
onto done (Some xs) = Some (done ++ xs)
onto done None = None

-- the first i values of an array were read
abbrev pub SoFar : {X : Type 0} → (Data → Option X) → List X → List Value → ℕ → Type 0
SoFar reads done vs i = each_of reads (items_view vs) ≡ onto done (each_of reads (items_view (drop i vs)))
