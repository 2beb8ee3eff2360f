-- What becomes of a script's bytes.
use Rattle.std.specs.Prelude.{◌≡◌, ℕ, List, Result, Ok, Err, All}
use Rattle.script.specs.declared.opcode.Op.{Op}
use Rattle.script.specs.Spelling.{Spells, IsFault}
use Rattle.paths.specs.Listing.{CheckedScript, listing}
use Rattle.paths.specs.Outcome.{IsRefusal}
use Rattle.paths.specs.Sound.{IsSound}
use Rattle.paths.specs.Exhaustive.{IsExhaustive}
use Rattle.enforce_c.specs.declared.statuses.Refusal.{Refusal}
use Rattle.enforce_c.specs.declared.statuses.Refusal.TheVariants.{NoMemory, Parse, Check}
use Rattle.script_words.specs.Texts.{listing_text}
use Rattle.enforce_c.specs.Rows.{RowLists, rows_of}
use Rattle.enforce_c.specs.Answers.{Left, left_by, LeftBytes, bytes_left_by}

-- the bytes spell a script, which has these paths. Whatever meets one of them runs clean, and nothing else does
pub record IsListed (bytes : List ℕ) (c : CheckedScript) : Type 0 where
  pub spelt : Spells c.ops bytes
  pub listed : listing c.ops ≡ Ok c.paths
  pub sound : All (IsSound c.ops) c.paths
  pub exhaustive : IsExhaustive c.ops c.paths

-- the script is not listed: its bytes have this fault, or the listing this refusal
abbrev pub IsRefused : List ℕ → Refusal → Type 0
IsRefused bytes NoMemory = Unit {0}
IsRefused bytes (Parse e) = IsFault bytes e
IsRefused bytes (Check e) = (ops : List Op) × Spells ops bytes × IsRefusal ops e
IsRefused bytes e = ⊥

-- what C sees of the script with these bytes, or why it is not listed
abbrev pub IsTold : List ℕ → Result RowLists Refusal → Type 0
IsTold bytes (Ok t) = (c : CheckedScript) × IsListed bytes c × (t ≡ rows_of c.paths)
IsTold bytes (Err e) = IsRefused bytes e

-- the call leaves this, by what becomes of the script's bytes
abbrev pub AnswersListing : List ℕ → RowLists → Left → Type 0
AnswersListing bytes before after = (r : Result RowLists Refusal) × IsTold bytes r × (left_by r before ≡ after)

-- the text of the listing of the script with these bytes, or why it is not listed
abbrev pub IsText : List ℕ → Result (List ℕ) Refusal → Type 0
IsText bytes (Ok text) = (c : CheckedScript) × IsListed bytes c × (text ≡ listing_text c.paths)
IsText bytes (Err e) = IsRefused bytes e

-- the call leaves this, by what becomes of the script's bytes
abbrev pub AnswersText : List ℕ → List ℕ → LeftBytes → Type 0
AnswersText bytes before after = (r : Result (List ℕ) Refusal) × IsText bytes r × (bytes_left_by r before ≡ after)
