-- What C sees of a script's paths: rows, and the bytes that they refer to.
use Rattle.std.specs.Prelude.{ℕ, ◌-◌, Bool, true, false, List, [], ◌∷◌, ◌++◌, length, unwrap_or, is_some}
use Rattle.facts.specs.Symbols.{KeySource}
use Rattle.facts.specs.declared.symbols.KeySourceOver.TheVariants.{Const as FixedKey, Slot as SlotKey}
use Rattle.facts.specs.Symbols.{Fact, Stated}
use Rattle.facts.specs.declared.symbols.FactOver.TheVariants.{Hash, Size, Truth, Is, KeyForm, Form, Token, Assigned, Lock, Age}
use Rattle.paths.specs.declared.state.Path.{Path}
use Rattle.enforce_c.specs.declared.rows.PathRow.{PathRow}
use Rattle.enforce_c.specs.declared.rows.FactRow.{FactRow}

-- rows of paths, rows of their facts, and the facts' bytes
pub record RowLists : Type 0 where
  pub paths : List PathRow
  pub facts : List FactRow
  pub bytes : List ℕ

abbrev pub no_rows : RowLists
no_rows = record { paths = []; facts = []; bytes = [] }

-- a row of a kind, with the fact's polarity
abbrev pub blank_row : ℕ → Bool → FactRow
blank_row kind holds = record {
  kind = kind;
  holds = holds;
  key_is_slot = false;
  slot = 0;
  key_slot = 0;
  number = 0;
  bytes_at = 0;
  bytes_length = 0;
}

abbrev pub slot_row : ℕ → Bool → ℕ → FactRow
slot_row kind holds slot = record (blank_row kind holds) { slot = slot }

-- one more row, without bytes
abbrev pub with_row : FactRow → RowLists → RowLists
with_row row t = record t { facts = t.facts ++ row ∷ [] }

-- one more row, with its bytes
abbrev pub with_bytes : FactRow → List ℕ → RowLists → RowLists
with_bytes row bytes t = record t {
  facts = t.facts ++ record row { bytes_at = length t.bytes; bytes_length = length bytes } ∷ [];
  bytes = t.bytes ++ bytes;
}

-- one more row, with its key
abbrev pub with_key : FactRow → KeySource → RowLists → RowLists
with_key row (FixedKey bytes) t = with_bytes row bytes t
with_key row (SlotKey slot) t = with_row (record row { key_is_slot = true; key_slot = slot }) t

-- the slots and the keys of a choice
abbrev pub with_slots : Bool → List ℕ → RowLists → RowLists
with_slots holds [] t = t
with_slots holds (slot ∷ slots) t = with_slots holds slots (with_row (slot_row 9 holds slot) t)

abbrev pub with_keys : Bool → List KeySource → RowLists → RowLists
with_keys holds [] t = t
with_keys holds (key ∷ keys) t = with_keys holds keys (with_key (blank_row 10 holds) key t)

-- the rows of one more fact
abbrev pub with_fact_by : Fact → Bool → RowLists → RowLists
with_fact_by (Hash i h) p t = with_bytes (slot_row 1 p i) h t
with_fact_by (Size i n) p t = with_row (record (slot_row 2 p i) { number = n }) t
with_fact_by (Truth i) p t = with_row (slot_row 3 p i) t
with_fact_by (Is i b) p t = with_bytes (slot_row 4 p i) b t
with_fact_by (KeyForm i) p t = with_row (slot_row 5 p i) t
with_fact_by (Form i) p t = with_row (slot_row 6 p i) t
with_fact_by (Token i key) p t = with_key (slot_row 7 p i) key t
with_fact_by (Assigned slots keys) p t = with_keys p keys (with_slots p slots (with_row (blank_row 8 p) t))
with_fact_by (Lock n) p t = with_row (record (blank_row 11 p) { number = n }) t
with_fact_by (Age n) p t = with_row (record (blank_row 12 p) { number = n }) t

unfoldable pub with_fact : Stated → RowLists → RowLists
with_fact s t = with_fact_by s.fact s.holds t

abbrev pub with_facts : List Stated → RowLists → RowLists
with_facts [] t = t
with_facts (s ∷ facts) t = with_facts facts (with_fact s t)

-- the row of a path whose facts have the rows between two numbers
abbrev pub row_of : Path → ℕ → ℕ → PathRow
row_of p first end = record {
  arity = p.arity;
  counted = p.ops;
  height = p.height;
  first_fact = first;
  facts = end - first;
  lock = unwrap_or p.lock 0;
  age = unwrap_or p.age 0;
  has_lock = is_some p.lock;
  has_age = is_some p.age;
}

-- one more path: the rows of its facts, and its own
abbrev pub with_path_row : Path → ℕ → RowLists → RowLists
with_path_row p first t = record t { paths = t.paths ++ row_of p first (length t.facts) ∷ [] }

unfoldable pub with_path : Path → RowLists → RowLists
with_path p t = with_path_row p (length t.facts) (with_facts p.facts t)

abbrev pub with_paths : List Path → RowLists → RowLists
with_paths [] t = t
with_paths (p ∷ paths) t = with_paths paths (with_path p t)

-- what C sees of all paths of a script
abbrev pub rows_of : List Path → RowLists
rows_of paths = with_paths paths no_rows
