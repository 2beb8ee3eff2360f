-- The claim that rows ask for, or why there is none.
use Rattle.std.specs.Prelude.{◌≡◌, ℕ, ◌+◌, ◌==◌, nat_lt, if◌then◌else◌, not, List, [], ◌∷◌, length, Option, Some, None, Result, Ok, Err}
use Rattle.script.specs.Token.{is_key}
use Rattle.script.specs.declared.limits.TheConstants.{MAX_SCRIPT_ELEMENT_SIZE}
use Rattle.paths.specs.Listing.{CheckedScript}
use Rattle.claim.specs.declared.parts.Slot.{Slot}
use Rattle.claim.specs.declared.parts.Slot.TheVariants.{Sig, Preimage, Exact}
use Rattle.claim.specs.declared.parts.Place.{Place}
use Rattle.claim.specs.declared.parts.Shell.TheVariants.{Open}
use Rattle.claim.specs.declared.errors.AcceptError.{AcceptError}
use Rattle.claim.specs.Judgement.{judgement_of}
use Rattle.claim.specs.Claims.{ClaimParts, IsAcceptedOf, IsSpending, IsWhole, lock_time_of, sequence_of}
use Rattle.claim.specs.Fitting.{IsRefusal}
use Rattle.enforce_c.specs.declared.rows.Answer.{Answer}
use Rattle.enforce_c.specs.declared.claim_rows.ClaimRow.{ClaimRow}
use Rattle.enforce_c.specs.declared.claim_rows.SlotRow.{SlotRow}
use Rattle.enforce_c.specs.declared.claim_rows.Due.{Due}
use Rattle.enforce_c.specs.declared.statuses.Refusal.{Refusal}
use Rattle.enforce_c.specs.declared.statuses.Refusal.TheVariants.{NoMemory, Parse, Check, NotAKey, OutOfRange, NoSuchSlot, ItemTooLong, SlotOutOfRange, Accept}
use Rattle.enforce_c.specs.Statuses.{status_of}
use Rattle.enforce_c.specs.Ranges.{has_part, part}
use Rattle.enforce_c.specs.Answers.{refused_with, bytes_answer}
use Rattle.enforce_c.specs.Listed.{IsListed, IsRefused}

-- it is the first refusal that holds, or memory ran out
abbrev pub IsFirst : Option Refusal → Refusal → Type 0
IsFirst first NoMemory = Unit {0}
IsFirst first e = first ≡ Some e

-- the first refusal of two in their order
abbrev pub or_then : Option Refusal → Option Refusal → Option Refusal
or_then (Some e) next = Some e
or_then None next = next

-- ---- slots

-- why there is no item of these bytes for the slot of this index, if there is none: at most 520 of them
abbrev pub item_fault : List ℕ → ℕ → SlotRow → Option Refusal
item_fault bytes index row =
    if has_part row.bytes_at row.bytes_length bytes
    then (if nat_lt MAX_SCRIPT_ELEMENT_SIZE (length (part row.bytes_at row.bytes_length bytes)) then Some (ItemTooLong index) else None)
    else Some (SlotOutOfRange index)

-- why a row does not fill the slot of this index, if it does not
abbrev pub slot_fault : List ℕ → ℕ → SlotRow → Option Refusal
slot_fault bytes index row =
    if row.kind == 1 then (if is_key row.key then None else Some (NotAKey index))
    else if row.kind == 2 then None
    else if row.kind == 3 then item_fault bytes index row
    else Some (NoSuchSlot index)

-- the row fills a slot so
abbrev pub FillsAs : List ℕ → SlotRow → Slot → Type 0
FillsAs bytes row (Sig k) = (row.kind ≡ 1) × (k.bytes ≡ row.key)
FillsAs bytes row (Preimage h) = (row.kind ≡ 2) × (h ≡ row.hash)
FillsAs bytes row (Exact w) = (row.kind ≡ 3) × (w.item ≡ part row.bytes_at row.bytes_length bytes)

-- the same of rows, one by one, the first of which has this index
abbrev pub slots_fault : List ℕ → ℕ → List SlotRow → Option Refusal
slots_fault bytes index [] = None
slots_fault bytes index (row ∷ rows) = or_then (slot_fault bytes index row) (slots_fault bytes (index + 1) rows)

abbrev pub FillAs : List ℕ → List SlotRow → List Slot → Type 0
FillAs bytes [] [] = Unit {0}
FillAs bytes (row ∷ rows) (slot ∷ slots) = FillsAs bytes row slot × FillAs bytes rows slots
FillAs bytes rows slots = ⊥

-- ---- what the row of a claim refers to

abbrev pub script_in : ClaimRow → List ℕ → List ℕ
script_in row bytes = part row.script_at row.script_length bytes

abbrev pub slots_in : ClaimRow → List SlotRow → List SlotRow
slots_in row rows = part row.first_slot row.slots rows

-- the claimed output
abbrev pub place_in : ClaimRow → List ℕ → Place
place_in row bytes = record {
  outpoint = record { txid = row.txid; index = row.index };
  value = row.value;
  program = part row.program_at row.program_length bytes;
}

-- the first fault of the rows, in this order: the script's bytes, the program's, the rows of slots, and then slot by slot
abbrev pub rows_fault : ClaimRow → List SlotRow → List ℕ → Option Refusal
rows_fault row rows bytes =
    if not (has_part row.script_at row.script_length bytes) then Some OutOfRange
    else if not (has_part row.program_at row.program_length bytes) then Some OutOfRange
    else if not (has_part row.first_slot row.slots rows) then Some OutOfRange
    else slots_fault bytes 0 (slots_in row rows)

-- ---- the claim

-- a claim is accepted of the rows, in an open transaction. Whatever fits it spends its output
pub record IsClaimOf (row : ClaimRow) (rows : List SlotRow) (bytes : List ℕ) (c : ClaimParts) : Type 0 where
  pub read : rows_fault row rows bytes ≡ None
  pub listed : IsListed (script_in row bytes) c.ways
  pub filled : FillAs bytes (slots_in row rows) c.slots
  pub accepted : IsAcceptedOf c.ways row.path c.slots (place_in row bytes) Open c
  pub spends : IsSpending c
  pub whole : IsWhole c

-- the rows are read and the script is listed, but the claim is refused so
pub record IsNotAccepted (row : ClaimRow) (rows : List SlotRow) (bytes : List ℕ) (e : AcceptError) : Type 0 where
  pub read : rows_fault row rows bytes ≡ None
  pub ways : CheckedScript
  pub slots : List Slot
  pub listed : IsListed (script_in row bytes) ways
  pub filled : FillAs bytes (slots_in row rows) slots
  pub refused : IsRefusal (judgement_of ways row.path slots (place_in row bytes) Open) e

-- why there is no claim: the first fault of the rows, else of the script's bytes, else of its listing, else of the claim
abbrev pub IsNoClaim : ClaimRow → List SlotRow → List ℕ → Refusal → Type 0
IsNoClaim row rows bytes NoMemory = Unit {0}
IsNoClaim row rows bytes (Parse e) = (rows_fault row rows bytes ≡ None) × IsRefused (script_in row bytes) (Parse e)
IsNoClaim row rows bytes (Check e) = (rows_fault row rows bytes ≡ None) × IsRefused (script_in row bytes) (Check e)
IsNoClaim row rows bytes (Accept e) = IsNotAccepted row rows bytes e
IsNoClaim row rows bytes e = rows_fault row rows bytes ≡ Some e

abbrev pub IsClaimed : ClaimRow → List SlotRow → List ℕ → Result ClaimParts Refusal → Type 0
IsClaimed row rows bytes (Ok c) = IsClaimOf row rows bytes c
IsClaimed row rows bytes (Err e) = IsNoClaim row rows bytes e

-- ---- what the call leaves

-- when a claim is due
abbrev pub due_of : ClaimParts → Due
due_of c = record { height = lock_time_of c; sequence = sequence_of c }

pub record LeftDue : Type 0 where
  pub status : ℕ
  pub answer : Answer
  pub due : Due

abbrev pub due_left_by : Result ClaimParts Refusal → Due → LeftDue
due_left_by (Ok c) before = record { status = 0; answer = bytes_answer []; due = due_of c }
due_left_by (Err e) before = record { status = status_of e; answer = refused_with e; due = before }

-- the call leaves this, by what becomes of the rows
abbrev pub AnswersClaim : ClaimRow → List SlotRow → List ℕ → Due → LeftDue → Type 0
AnswersClaim row rows bytes before after = (r : Result ClaimParts Refusal) × IsClaimed row rows bytes r × (due_left_by r before ≡ after)
