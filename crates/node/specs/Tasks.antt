-- What a job asks of a worker, and which call of a book does it.
use Rattle.std.specs.Prelude.{◌≡◌, ℕ, List, [], ◌∷◌, map, Option, Some, slice_get}
use Rattle.keys.specs.declared.compressed.Key.{Key}
use Rattle.book.specs.declared.calls.Call.{Call}
use Rattle.book.specs.declared.calls.Call.TheVariants.{Keep as KeepCall, Release as ReleaseCall}
use Rattle.book.specs.Calls.{IsBatchOf}
use Rattle.side.specs.declared.due.DueClaim.{DueClaim}
use Rattle.side.specs.Batches.{claims_in, preimages_for, output_for}
use Rattle.node.specs.declared.work.Job.{Job}
use Rattle.node.specs.declared.work.Job.TheVariants.{Keep, Claims}

pub data Task : Type 0 where
  keeping : ℕ → ℕ → Task  -- to keep the penalties of the peer's commitment of a number in a channel
  releasing : Option Key → DueClaim → Task  -- to release a claim by itself, to the payment key of its channel, if there is one

-- what is to be done with a due claim, by the payment keys of all channels
abbrev pub task_for : List Key → DueClaim → Task
task_for payments due = releasing (slice_get payments due.channel) due

-- what a job asks for, in order
abbrev pub tasks_of : List Key → Job → List Task
tasks_of payments (Keep channel number) = keeping channel number ∷ []
tasks_of payments (Claims due) = map (task_for payments) due.items

-- the call does the task: a keep for that commitment, or a release of the claim alone, with the preimages that it wants and its whole value to the hash of the key
abbrev pub Does : Task → Call → Type 0
Does (keeping channel number) (KeepCall c n claims) = (c ≡ channel) × (n ≡ number)
Does (releasing (Some key) due) (ReleaseCall c batch) = (c ≡ due.channel) × IsBatchOf (claims_in (due ∷ [])) (output_for key.bytes (due ∷ []) ∷ []) (preimages_for (due ∷ [])) batch
Does task call = ⊥
