-- Reading the items of an array in order: what was read, followed by what is left, is the whole.
use Rattle.std.proofs.Common.{◌≡◌, ℕ, List, ◌++◌, drop, Option, Some, None}
use Rattle.serde_json.specs.Data.{Data}
use Rattle.json_value.specs.View.{items_view}
use Rattle.json_value.specs.declared.value.Value.{Value}
use Rattle.texts.specs.Values.{each_of}

abbrev onto : {A : Type 0} → List A → Option (List A) → Option (List A)
onto done (Some xs) = Some (done ++ xs)
onto done None = None

-- the first i values of an array were read
abbrev pub SoFar : {A : Type 0} → (Data → Option A) → List A → List Value → ℕ → Type 0
SoFar form done vs i = each_of form (items_view vs) ≡ onto done (each_of form (items_view (drop i vs)))
