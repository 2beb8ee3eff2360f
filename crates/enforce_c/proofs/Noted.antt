-- Notes that are written one by one.
use Rattle.std.proofs.Common.{◌≡◌, ◌<◌, ◌≤◌, ◌+◌, ℕ, Bool, true, List, [], ◌∷◌, ◌++◌, length, drop, get_or, map, Result, Ok, Err, All, refl, sym, ap, ◌∙◌, append_assoc}
use Rattle.std.specs.Prelude.{option_to_list}
use Rattle.std.proofs.lemmas.List.{drop_more, drop_all, append-nil}
use Rattle.script.specs.declared.opcode.Op.{Op}
use Rattle.script.specs.Spelling.{IsOp}
use Rattle.paths.specs.declared.state.Path.{Path}
use Rattle.paths.specs.Listing.{CheckedScript}
use Rattle.strictness.specs.declared.branches.StrictEnd.{StrictEnd}
use Rattle.strictness.specs.Balance.{is_balanced}
use Rattle.strictness.specs.Machine.{NobodySpends}
use Rattle.enforce_c.specs.declared.note_rows.NoteRow.{NoteRow}
use Rattle.enforce_c.specs.declared.note_rows.NotesAnswer.{NotesAnswer}
use Rattle.enforce_c.specs.declared.statuses.Refusal.{Refusal}
use Rattle.enforce_c.specs.Statuses.{status_of}
use Rattle.enforce_c.specs.Listed.{IsListed, IsRefused}
use Rattle.enforce_c.specs.Noted.{taker_note, takers, nobody, strict_note, IsNotedOf, LeftNotes, left_by_notes, notes_refused, AnswersNotes}

-- those of the paths that are left, by the next one
pub takers_next : (paths : List Path) (i : ℕ) (d p : Path) (old whole : List NoteRow) → i < length paths → p ≡ get_or paths i d → old ++ takers i (drop i paths) ≡ whole
    → (old ++ option_to_list (taker_note p i)) ++ takers (i + 1) (drop (i + 1) paths) ≡ whole
takers_next paths i d p old whole h e is =
    append_assoc old (option_to_list (taker_note p i)) (takers (i + 1) (drop (i + 1) paths))
    ∙ ap (λ x. old ++ (option_to_list (taker_note x i) ++ takers (i + 1) (drop (i + 1) paths))) e ∙ sym (ap (λ xs. old ++ takers i xs) (drop_more paths i d h)) ∙ is

pub takers_all : (paths : List Path) (i : ℕ) (old whole : List NoteRow) → length paths ≤ i → old ++ takers i (drop i paths) ≡ whole → old ≡ whole
takers_all paths i old whole h is = sym (append-nil old) ∙ sym (ap (λ xs. old ++ takers i xs) (drop_all i paths h)) ∙ is

pub strict_next : (ends : List StrictEnd) (i : ℕ) (d end : StrictEnd) (old whole : List NoteRow) → i < length ends → end ≡ get_or ends i d → old ++ map strict_note (drop i ends) ≡ whole
    → (old ++ strict_note end ∷ []) ++ map strict_note (drop (i + 1) ends) ≡ whole
strict_next ends i d end old whole h e is =
    append_assoc old (strict_note end ∷ []) (map strict_note (drop (i + 1) ends))
    ∙ ap (λ x. old ++ (strict_note x ∷ map strict_note (drop (i + 1) ends))) e ∙ sym (ap (λ xs. old ++ map strict_note xs) (drop_more ends i d h)) ∙ is

pub strict_all : (ends : List StrictEnd) (i : ℕ) (old whole : List NoteRow) → length ends ≤ i → old ++ map strict_note (drop i ends) ≡ whole → old ≡ whole
strict_all ends i old whole h is = sym (append-nil old) ∙ sym (ap (λ xs. old ++ map strict_note xs) (drop_all i ends h)) ∙ is

pub is_noted : (bytes : List ℕ) (ways : CheckedScript) (is_exact : Bool) (ends : List StrictEnd) (notes : List NoteRow) → IsListed bytes ways
    → notes ≡ (takers 0 ways.paths ++ option_to_list (nobody is_exact)) ++ map strict_note ends → (is_exact ≡ true → All IsOp ways.ops → is_balanced ways.ops [] ≡ true → NobodySpends ways.ops) → IsNotedOf bytes notes
is_noted bytes ways is_exact ends notes listed rows lost = record { ways = ways; listed = listed; is_exact = is_exact; ends = ends; rows = rows; lost = λ exact closed. lost exact listed.spelt.each closed }

pub noted_rows : (bytes : List ℕ) (before notes shown : List NoteRow) (after : LeftNotes) → IsNotedOf bytes notes → shown ≡ notes → left_by_notes shown before ≡ after → AnswersNotes bytes before after
noted_rows bytes before notes shown after is same left = (Ok notes, is, ap (λ xs. left_by_notes xs before) (sym same) ∙ left)

pub refused_notes : (bytes : List ℕ) (before : List NoteRow) (e : Refusal) (s : ℕ) (n : NotesAnswer) → IsRefused bytes e → s ≡ status_of e → n ≡ notes_refused e → AnswersNotes bytes before (record { status = s; answer = n; notes = before })
refused_notes bytes before e s n is status answer = (Err e, is, rw (status, answer) refl)
