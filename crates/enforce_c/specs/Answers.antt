-- What a call leaves in the caller's memory.
use Rattle.std.specs.Prelude.{ℕ, Bool, ◌&&◌, nat_le, if◌then◌else◌, List, ◌++◌, length, drop, Result, Ok, Err}
use Rattle.enforce_c.specs.declared.rows.Answer.{Answer}
use Rattle.enforce_c.specs.declared.statuses.Refusal.{Refusal}
use Rattle.enforce_c.specs.Rows.{RowLists}
use Rattle.enforce_c.specs.Statuses.{status_of, number_of}

-- items at the beginning of a buffer, whose rest stays
abbrev pub over : {A : Type 0} → List A → List A → List A
over items buffer = items ++ drop (length items) buffer

abbrev pub written : RowLists → RowLists → RowLists
written t room = record {
  paths = over t.paths room.paths;
  facts = over t.facts room.facts;
  bytes = over t.bytes room.bytes;
}

-- each buffer has room
abbrev pub fits : RowLists → RowLists → Bool
fits t room = nat_le (length t.paths) (length room.paths) && nat_le (length t.facts) (length room.facts)
    && nat_le (length t.bytes) (length room.bytes)

-- the answer with these sizes, and that of a refusal
abbrev pub sizes_of : RowLists → Answer
sizes_of t = record { paths = length t.paths; facts = length t.facts; bytes = length t.bytes; number = 0 }

abbrev pub refused_with : Refusal → Answer
refused_with e = record { paths = 0; facts = 0; bytes = 0; number = number_of e }

-- the status, the answer and the buffers that a call leaves
pub record Left : Type 0 where
  pub status : ℕ
  pub answer : Answer
  pub rows : RowLists

abbrev pub left_by_rows : RowLists → RowLists → Left
left_by_rows t room = if fits t room
    then record { status = 0; answer = sizes_of t; rows = written t room }
    else record { status = 2; answer = sizes_of t; rows = room }

abbrev pub left_by : Result RowLists Refusal → RowLists → Left
left_by (Ok t) room = left_by_rows t room
left_by (Err e) room = record { status = status_of e; answer = refused_with e; rows = room }

-- the same where bytes alone are written
pub record LeftBytes : Type 0 where
  pub status : ℕ
  pub answer : Answer
  pub bytes : List ℕ

abbrev pub bytes_answer : List ℕ → Answer
bytes_answer bytes = record { paths = 0; facts = 0; bytes = length bytes; number = 0 }

abbrev pub left_by_bytes : List ℕ → List ℕ → LeftBytes
left_by_bytes bytes room = if nat_le (length bytes) (length room)
    then record { status = 0; answer = bytes_answer bytes; bytes = over bytes room }
    else record { status = 2; answer = bytes_answer bytes; bytes = room }

abbrev pub bytes_left_by : Result (List ℕ) Refusal → List ℕ → LeftBytes
bytes_left_by (Ok bytes) room = left_by_bytes bytes room
bytes_left_by (Err e) room = record { status = status_of e; answer = refused_with e; bytes = room }
