-- Which calls of a worker's seat the book accepts.
use Rattle.std.specs.Prelude.{◌≡◌, ℕ, List, [], ◌∷◌, ◌++◌}
use Rattle.book.specs.declared.calls.Batch.{Batch}
use Rattle.book.specs.declared.calls.Call.TheVariants.{Release}
use Rattle.book.specs.declared.calls.Entry.{Entry}
use Rattle.node.specs.Tasks.{Task, Does}

-- entries of a seat for tasks, in their order: for each task one entry at most, and no entry is for anything else
pub data Made (seat : ℕ) : List Task → List Entry → Type 0 where
  nothing : Made seat [] []
  left_out : (task : Task) (tasks : List Task) (entries : List Entry) → Made seat tasks entries → Made seat (task ∷ tasks) entries
  entered : (task : Task) (tasks : List Task) (entry : Entry) (entries : List Entry) → entry.seat ≡ seat → Does task entry.call → Made seat tasks entries → Made seat (task ∷ tasks) (entry ∷ entries)

-- to a seat's calls such entries were added
pub record Adds (seat : ℕ) (tasks : List Task) (before after : List Entry) : Type 0 where
  pub entries : List Entry
  pub made : Made seat tasks entries
  pub after_is : after ≡ before ++ entries

-- the calls of a seat, and the release of a batch
abbrev pub by_release : ℕ → ℕ → Batch → List Entry → List Entry
by_release seat channel batch calls = calls ++ record { seat = seat; call = Release channel batch } ∷ []
