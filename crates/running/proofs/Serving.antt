-- What workers and watchers give back.
use Rattle.std.proofs.Common.{◌≡◌, ℕ, List, [], ◌∷◌, ◌++◌, map, All, Option, Some, None, refl, sym, ap, ◌∙◌, subst}
use Rattle.std.specs.Prelude.{slice_get, option_map}
use Rattle.std.specs.List.{flat_map}
use Rattle.std.proofs.lemmas.List.Elements.{All-nil, All-cons, All-head, All-tail, All-append}
use Rattle.std.proofs.lemmas.Option.{slice_get-map}
use Rattle.keys.specs.declared.compressed.Key.{Key}
use Rattle.book.specs.declared.calls.Entry.{Entry}
use Rattle.book.specs.declared.calls.Call.{Call}
use Rattle.book.specs.declared.calls.Call.TheVariants as calls
use Rattle.desk.specs.declared.desk.Seat.{Seat}
use Rattle.desk.specs.Seats.{IsSeatOf, HasSameCalls, number_in, calls_in}
use Rattle.side.specs.declared.due.DueClaim.{DueClaim}
use Rattle.node.specs.declared.hands.Hands.{Hands}
use Rattle.node.specs.declared.workers.Done.{Done}
use Rattle.node.specs.declared.work.Job.{Job}
use Rattle.node.specs.declared.work.Job.TheVariants as jobs
use Rattle.node.specs.Tasks.{Task, keeping, releasing, task_for, tasks_of, Does}
use Rattle.node.specs.Entering.{Made, nothing, left_out, entered}
use Rattle.node.specs.Work.{IsWork}
use Rattle.running.specs.declared.shared.SideState.{SideState}
use Rattle.running.specs.declared.side_threads.Served.TheVariants.{Worked, Watched}
use Rattle.running.specs.Threads.{IsUnused, payment_bytes, IsKeepOrRelease, KeepsAndReleases, HasServed}

-- ---- what is done for a job is a keep or a release

-- a release is to the key of the claim's channel
abbrev IsPaid : List Key → Task → Type 0
IsPaid payments (keeping channel number) = Unit {0}
IsPaid payments (releasing key due) = key ≡ slice_get payments due.channel

due_paid : (payments : List Key) (due : List DueClaim) → All (IsPaid payments) (map (task_for payments) due)
due_paid payments [] = All-nil (IsPaid payments)
due_paid payments (d ∷ due) = All-cons (IsPaid payments) (task_for payments d) (map (task_for payments) due) refl (due_paid payments due)

job_paid : (payments : List Key) (job : Job) → All (IsPaid payments) (tasks_of payments job)
job_paid payments (jobs.Keep channel number) = All-cons (IsPaid payments) (keeping channel number) [] tt (All-nil (IsPaid payments))
job_paid payments (jobs.Claims due) = due_paid payments due.items

all_paid : (payments : List Key) (finished : List Job) → All (IsPaid payments) (flat_map (tasks_of payments) finished)
all_paid payments [] = All-nil (IsPaid payments)
all_paid payments (job ∷ finished) = All-append (IsPaid payments) (tasks_of payments job) (flat_map (tasks_of payments) finished) (job_paid payments job) (all_paid payments finished)

key_among : (payments : List Key) (channel : ℕ) (key : Key) → Some key ≡ slice_get payments channel → slice_get (payment_bytes payments) channel ≡ Some key.bytes
key_among payments channel key is = slice_get-map (λ (k : Key). k.bytes) payments channel ∙ ap (option_map (λ (k : Key). k.bytes)) (sym is)

for_task : (payments : List Key) (task : Task) (call : Call) → IsPaid payments task → Does task call → IsKeepOrRelease (payment_bytes payments) call
for_task payments (keeping channel number) (calls.Open opening) paid does = absurd does
for_task payments (keeping channel number) (calls.Step c step) paid does = absurd does
for_task payments (keeping channel number) (calls.Sign c) paid does = absurd does
for_task payments (keeping channel number) (calls.Revoke c revocation) paid does = absurd does
for_task payments (keeping channel number) (calls.Keep c n claims) paid does = tt
for_task payments (keeping channel number) (calls.Release c batch) paid does = absurd does
for_task payments (keeping channel number) (calls.Close c) paid does = absurd does
for_task payments (releasing None due) call paid does = absurd does
for_task payments (releasing (Some key) due) (calls.Open opening) paid does = absurd does
for_task payments (releasing (Some key) due) (calls.Step c step) paid does = absurd does
for_task payments (releasing (Some key) due) (calls.Sign c) paid does = absurd does
for_task payments (releasing (Some key) due) (calls.Revoke c revocation) paid does = absurd does
for_task payments (releasing (Some key) due) (calls.Keep c n claims) paid does = absurd does
for_task payments (releasing (Some key) due) (calls.Release c batch) paid does =
    let same : due.channel ≡ c = sym does.0 in
    (due, key.bytes, same, subst (λ (n : ℕ). slice_get (payment_bytes payments) n ≡ Some key.bytes) same (key_among payments due.channel key paid), does.1)
for_task payments (releasing (Some key) due) (calls.Close c) paid does = absurd does

made_work : (payments : List Key) (seat : ℕ) (tasks : List Task) (entries : List Entry) → All (IsPaid payments) tasks → Made seat tasks entries → All (λ e. IsKeepOrRelease (payment_bytes payments) e.call) entries
made_work payments seat _ _ paid nothing = All-nil (λ (e : Entry). IsKeepOrRelease (payment_bytes payments) e.call)
made_work payments seat _ _ paid (left_out task tasks entries made) = made_work payments seat tasks entries (All-tail (IsPaid payments) task tasks paid) made
made_work payments seat _ _ paid (entered task tasks entry entries mine does made) =
    All-cons (λ (e : Entry). IsKeepOrRelease (payment_bytes payments) e.call) entry entries (for_task payments task entry.call (All-head (IsPaid payments) task tasks paid) does)
    (made_work payments seat tasks entries (All-tail (IsPaid payments) task tasks paid) made)

-- ---- what is given back

pub idle_worked : (keys : List (List ℕ)) (s : Seat) → calls_in s ≡ [] → KeepsAndReleases keys s
idle_worked keys s none = subst (All (λ e. IsKeepOrRelease keys e.call)) (sym none) (All-nil (λ (e : Entry). IsKeepOrRelease keys e.call))

pub worked : (side : SideState) (before after : Hands) (done : Done) → IsUnused before.seat → IsSeatOf side.desk after.seat → IsWork side.payments.items before after done → HasServed side (Worked done after)
worked side before after done unused seat work =
    let payments = side.payments.items in
    let adds = work.calls in
    let all : calls_in after.seat ≡ adds.entries = adds.after_is ∙ ap (λ (l : List Entry). l ++ adds.entries) unused.calls in
    record {
      seat = record { seat_of = seat; heard = work.heard ∙ unused.heard };
      work = subst (All (λ e. IsKeepOrRelease (payment_bytes payments) e.call)) (sym all)
          (made_work payments (number_in before.seat) (flat_map (tasks_of payments) work.finished) adds.entries (all_paid payments work.finished) adds.made);
    }

pub watched : (side : SideState) (before after : Seat) → IsUnused before → HasSameCalls side.desk before after → HasServed side (Watched after)
watched side before after unused same = record {
  seat = record { seat_of = same.seat_of; heard = same.heard ∙ unused.heard };
  work = idle_worked (payment_bytes side.payments.items) after (same.calls ∙ unused.calls);
}
