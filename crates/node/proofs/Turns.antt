-- What a worker has done so far, turn by turn.
use Rattle.std.proofs.Common.{◌≡◌, ℕ, ◌+◌, ◌^◌, ◌≤◌, List, [], ◌∷◌, ◌++◌, length, Some, None, refl, sym, ap, ◌∙◌, subst, append_assoc, append-nil, length-append, arith}
use Rattle.std.specs.List.{flat_map}
use Rattle.std.proofs.lemmas.Grind.{flat_map-append}
use Rattle.keys.specs.declared.compressed.Key.{Key}
use Rattle.board.specs.declared.board.Board.{Board}
use Rattle.board.specs.declared.rule.SeatView.{SeatView}
use Rattle.board.specs.Rule.{knows}
use Rattle.board.specs.Seats.{known, IsSeatOf}
use Rattle.desk.specs.Seats.{number_in, calls_in, heard_in}
use Rattle.jobs.specs.declared.rule.Hand.{Hand}
use Rattle.jobs.specs.Rule.{hand}
use Rattle.jobs.specs.Ends.{JobPass, hand_of}
use Rattle.jobs.specs.Steps.{IsTake, WasEmpty}
use Rattle.node.specs.declared.work.Job.{Job}
use Rattle.node.specs.declared.hands.Hands.{Hands}
use Rattle.node.specs.Tasks.{tasks_of}
use Rattle.node.specs.Entering.{Adds}
use Rattle.node.specs.Work.{with_tickets, IsFinished, IsStopped, IsSpent, ran_dry, was_stopped, was_spent, IsWork}
use Rattle.node.proofs.Adding.{adds_nothing, adds_then, adds_from}

-- after a number of jobs, each of them finished
pub record HasWorked (payments : List Key) (before now : Hands) (jobs : ℕ) : Type 0 where
  pub finished : List Job
  pub tickets : List ℕ
  pub many : length finished ≡ jobs
  pub each : length tickets ≡ jobs
  pub taken : hand_of now.pass ≡ hand (hand_of before.pass).halvings (hand_of before.pass).put ((hand_of before.pass).taken ++ finished)
  pub drawn : known now.place ≡ with_tickets tickets (known before.place)
  pub number : number_in now.seat ≡ number_in before.seat
  pub heard : heard_in now.seat ≡ heard_in before.seat
  pub calls : Adds (number_in before.seat) (flat_map (tasks_of payments) finished) (calls_in before.seat) (calls_in now.seat)

-- ---- tickets

with_none : (v : SeatView) → v ≡ with_tickets [] v
with_none v = ap (λ l. knows v.shares l v.raised v.looked) (sym (append-nil v.drawn))

with_more : (ts us : List ℕ) (u v w : SeatView) → v ≡ with_tickets ts u → w ≡ with_tickets us v → w ≡ with_tickets (ts ++ us) u
with_more ts us u v w first next =
    next ∙ ap (with_tickets us) first ∙ ap (λ l. knows u.shares l u.raised u.looked) (append_assoc u.drawn ts us)

-- ---- jobs

taken_none : (h : Hand Job) → h ≡ hand h.halvings h.put (h.taken ++ [])
taken_none h = ap (λ l. hand h.halvings h.put l) (sym (append-nil h.taken))

taken_more : (g h k : Hand Job) (done : List Job) (job : Job) → h ≡ hand g.halvings g.put (g.taken ++ done) → k ≡ hand h.halvings h.put (h.taken ++ job ∷ []) → k ≡ hand g.halvings g.put (g.taken ++ (done ++ job ∷ []))
taken_more g h k done job first next =
    next ∙ ap (λ (x : Hand Job). hand x.halvings x.put (x.taken ++ job ∷ [])) first ∙ ap (λ l. hand g.halvings g.put l) (append_assoc g.taken done (job ∷ []))

tasks_more : (payments : List Key) (done : List Job) (job : Job) → flat_map (tasks_of payments) (done ++ job ∷ []) ≡ flat_map (tasks_of payments) done ++ tasks_of payments job
tasks_more payments done job = flat_map-append (tasks_of payments) done (job ∷ []) ∙ ap (λ l. flat_map (tasks_of payments) done ++ l) (append-nil (tasks_of payments job))

-- ---- turns

pub begun : (payments : List Key) (h : Hands) → HasWorked payments h h 0
begun payments h = record {
  finished = [];
  tickets = [];
  many = refl;
  each = refl;
  taken = taken_none (hand_of h.pass);
  drawn = with_none (known h.place);
  number = refl;
  heard = refl;
  calls = adds_nothing (number_in h.seat) [] (calls_in h.seat) (calls_in h.seat) refl;
}

-- there are no more than 2^32 of them
pub few : (payments : List Key) (before now : Hands) (jobs : ℕ) (board : Board) → HasWorked payments before now jobs → IsSeatOf board now.place → jobs ≤ 2 ^ 32
few payments before now jobs board w s =
    let all : length (known now.place).drawn ≡ length ((known before.place).drawn ++ w.tickets) = ap (λ (v : SeatView). length v.drawn) w.drawn in
    let each = w.each in
    let counted = s.counted in
    let few_draws = s.few in
    omega (arith, all, length-append (known before.place).drawn w.tickets)

module _ (payments : List Key) (before now : Hands) (pass : JobPass Job) (jobs : ℕ) (job : Job) where
  -- the hands with the pass that took a job
  abbrev pub took : Hands
  took = record { seat = now.seat; place = now.place; pass = pass }

  pub finished_one : (after : Hands) → HasWorked payments before now jobs → IsTake (hand_of now.pass) job (hand_of pass) → IsFinished payments job took after → HasWorked payments before after (jobs + 1)
  finished_one after w taking turn = record {
    finished = w.finished ++ job ∷ [];
    tickets = w.tickets ++ turn.ticket ∷ [];
    many = let m = w.many in omega (arith, length-append w.finished (job ∷ []));
    each = let m = w.each in omega (arith, length-append w.tickets (turn.ticket ∷ []));
    taken = ap (λ (p : JobPass Job). hand_of p) turn.same.pass ∙ taken_more (hand_of before.pass) (hand_of now.pass) (hand_of pass) w.finished job w.taken taking.added;
    drawn = with_more w.tickets (turn.ticket ∷ []) (known before.place) (known now.place) (known after.place) w.drawn turn.drawn;
    number = turn.same.number ∙ w.number;
    heard = turn.same.heard ∙ w.heard;
    calls = subst (λ ts. Adds (number_in before.seat) ts (calls_in before.seat) (calls_in after.seat)) (sym (tasks_more payments w.finished job))
        (adds_then (number_in before.seat) (flat_map (tasks_of payments) w.finished) (tasks_of payments job) (calls_in before.seat) (calls_in now.seat) (calls_in after.seat) w.calls
        (adds_from (number_in now.seat) (number_in before.seat) (tasks_of payments job) (calls_in now.seat) (calls_in now.seat) (calls_in after.seat) w.number refl turn.calls));
  }

  pub stopped_at : (after : Hands) (ticket : ℕ) → HasWorked payments before now jobs → IsTake (hand_of now.pass) job (hand_of pass) → IsStopped ticket took after → IsWork payments before after (record { jobs = jobs + 1; stopped = Some ticket })
  stopped_at after ticket w taking turn = record {
    finished = w.finished;
    dropped = job ∷ [];
    tickets = w.tickets ++ ticket ∷ [];
    ends = was_stopped job w.tickets ticket (w.each ∙ sym w.many);
    jobs = let m = w.many in omega (arith, length-append w.finished (job ∷ []));
    taken = ap (λ (p : JobPass Job). hand_of p) turn.same.pass ∙ taken_more (hand_of before.pass) (hand_of now.pass) (hand_of pass) w.finished job w.taken taking.added;
    drawn = with_more w.tickets (ticket ∷ []) (known before.place) (known now.place) (known after.place) w.drawn turn.drawn;
    number = turn.same.number ∙ w.number;
    heard = turn.same.heard ∙ w.heard;
    calls = subst (λ l. Adds (number_in before.seat) (flat_map (tasks_of payments) w.finished) (calls_in before.seat) l) (sym turn.calls) w.calls;
  }

  pub spent_before : (after : Hands) → HasWorked payments before now jobs → IsTake (hand_of now.pass) job (hand_of pass) → IsSpent took after → IsWork payments before after (record { jobs = jobs + 1; stopped = None })
  spent_before after w taking turn = record {
    finished = w.finished;
    dropped = job ∷ [];
    tickets = w.tickets;
    ends = was_spent job w.tickets (w.each ∙ sym w.many) (ap (λ (v : SeatView). length v.drawn) turn.drawn ∙ turn.many);
    jobs = let m = w.many in omega (arith, length-append w.finished (job ∷ []));
    taken = ap (λ (p : JobPass Job). hand_of p) turn.same.pass ∙ taken_more (hand_of before.pass) (hand_of now.pass) (hand_of pass) w.finished job w.taken taking.added;
    drawn = turn.drawn ∙ w.drawn;
    number = turn.same.number ∙ w.number;
    heard = turn.same.heard ∙ w.heard;
    calls = subst (λ l. Adds (number_in before.seat) (flat_map (tasks_of payments) w.finished) (calls_in before.seat) l) (sym turn.calls) w.calls;
  }

-- the queue was empty
pub ended_dry : (payments : List Key) (before now : Hands) (pass : JobPass Job) (jobs : ℕ) → HasWorked payments before now jobs → hand_of pass ≡ hand_of now.pass → WasEmpty (hand_of now.pass)
    → IsWork payments before (record { seat = now.seat; place = now.place; pass = pass }) (record { jobs = jobs; stopped = None })
ended_dry payments before now pass jobs w same empty = record {
  finished = w.finished;
  dropped = [];
  tickets = w.tickets;
  ends = ran_dry w.tickets (w.each ∙ sym w.many) (subst (λ (h : Hand Job). WasEmpty h) (sym same) empty);
  jobs = let m = w.many in omega (arith, ap length (append-nil w.finished));
  taken = same ∙ w.taken ∙ ap (λ l. hand (hand_of before.pass).halvings (hand_of before.pass).put ((hand_of before.pass).taken ++ l)) (sym (append-nil w.finished));
  drawn = w.drawn;
  number = w.number;
  heard = w.heard;
  calls = w.calls;
}
