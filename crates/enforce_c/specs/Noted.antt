-- What of a script endangers money, as rows.
use Rattle.std.specs.Prelude.{◌≡◌, ◌⊎◌, ℕ, ◌+◌, Bool, true, false, nat_le, if◌then◌else◌, List, [], ◌∷◌, ◌++◌, length, map, option_to_list, Option, Some, None, Result, Ok, Err}
use Rattle.paths.specs.declared.state.Path.{Path}
use Rattle.paths.specs.Listing.{CheckedScript}
use Rattle.warnings.specs.declared.takers.Taker.{Taker}
use Rattle.warnings.specs.declared.takers.Taker.TheVariants.{Signer, Finder, Anyone}
use Rattle.warnings.specs.Takers.{taker_of}
use Rattle.strictness.specs.declared.branches.Rule.{Rule}
use Rattle.strictness.specs.declared.branches.Rule.TheVariants.{Key, Signature, Number}
use Rattle.strictness.specs.declared.branches.StrictEnd.{StrictEnd}
use Rattle.strictness.specs.Balance.{is_balanced}
use Rattle.strictness.specs.Machine.{NobodySpends}
use Rattle.enforce_c.specs.declared.note_rows.NoteRow.{NoteRow}
use Rattle.enforce_c.specs.declared.note_rows.NotesAnswer.{NotesAnswer}
use Rattle.enforce_c.specs.declared.statuses.Refusal.{Refusal}
use Rattle.enforce_c.specs.Statuses.{status_of, number_of}
use Rattle.enforce_c.specs.Answers.{over}
use Rattle.enforce_c.specs.Listed.{IsListed, IsRefused}

-- the note on a path of an index, by who can take it
abbrev pub note_by : Taker → ℕ → Option NoteRow
note_by Signer at = None
note_by Finder at = Some (record { kind = 2; at = at })
note_by Anyone at = Some (record { kind = 1; at = at })

abbrev pub taker_note : Path → ℕ → Option NoteRow
taker_note p at = note_by (taker_of p.facts) at

-- those on paths, the first of which has this index
abbrev pub takers : ℕ → List Path → List NoteRow
takers at [] = []
takers at (p ∷ paths) = option_to_list (taker_note p at) ++ takers (at + 1) paths

-- the note on a script that nobody can spend
abbrev pub nobody : Bool → Option NoteRow
nobody is_exact = if is_exact then Some (record { kind = 3; at = 0 }) else None

-- the note on a branch that ends by a rule that consensus has not
abbrev pub kind_by : Rule → ℕ
kind_by Key = 4
kind_by Signature = 5
kind_by Number = 6

abbrev pub strict_note : StrictEnd → NoteRow
strict_note end = record { kind = kind_by end.rule; at = end.op }

-- the notes on the script with these bytes: those on its paths that others can take, that on a script that nobody can spend, and those on branches that end by a stricter rule. Where there is
-- that one, and the branches close, as those of a listed script do, no witness is taken by consensus
pub record IsNotedOf (bytes : List ℕ) (notes : List NoteRow) : Type 0 where
  pub ways : CheckedScript
  pub listed : IsListed bytes ways
  pub is_exact : Bool
  pub ends : List StrictEnd
  pub rows : notes ≡ (takers 0 ways.paths ++ option_to_list (nobody is_exact)) ++ map strict_note ends
  pub lost : is_exact ≡ true → is_balanced ways.ops [] ≡ true → NobodySpends ways.ops

abbrev pub IsNoted : List ℕ → Result (List NoteRow) Refusal → Type 0
IsNoted bytes (Ok notes) = IsNotedOf bytes notes
IsNoted bytes (Err e) = IsRefused bytes e

-- ---- what the call leaves

pub record LeftNotes : Type 0 where
  pub status : ℕ
  pub answer : NotesAnswer
  pub notes : List NoteRow

abbrev pub notes_told : List NoteRow → NotesAnswer
notes_told notes = record { notes = length notes; number = 0 }

abbrev pub notes_refused : Refusal → NotesAnswer
notes_refused e = record { notes = 0; number = number_of e }

abbrev pub left_by_notes : List NoteRow → List NoteRow → LeftNotes
left_by_notes notes room = if nat_le (length notes) (length room)
    then record { status = 0; answer = notes_told notes; notes = over notes room }
    else record { status = 2; answer = notes_told notes; notes = room }

abbrev pub notes_left_by : Result (List NoteRow) Refusal → List NoteRow → LeftNotes
notes_left_by (Ok notes) room = left_by_notes notes room
notes_left_by (Err e) room = record { status = status_of e; answer = notes_refused e; notes = room }

-- the call leaves this, by what becomes of the script's bytes
abbrev pub AnswersNotes : List ℕ → List NoteRow → LeftNotes → Type 0
AnswersNotes bytes before after = (r : Result (List NoteRow) Refusal) × IsNoted bytes r × (notes_left_by r before ≡ after)
