use Rattle.std.proofs.Common.{ℕ, subst}
use Rattle.std.proofs.lemmas.Result.{IfOk-weaker}
use Rattle.running.specs.Homes.{HaveServed, HasReturned}
use Rattle.desk.specs.Seats.{last_in, opening_in}
use Rattle.running.specs.Reports.{IsPlayedOut}
use Rattle.running.proofs.Outcomes.{chain_from}
use Rattle.running.proofs.runs.prepare_and_run.Goals as goal

pub returns : goal.returns
returns g c =
    let shared = c.args.shared.now in
    let threads = c.in_ok-threads.threads in
    let is = c.in_ok-threads.ensures in
    IfOk-weaker c.run_threads.result (HasReturned shared c.args.events.now threads) (IsPlayedOut shared c.args.closing_seats.now c.args.channels c.args.workers c.args.events.now)
    (λ r back. record {
      played = record { channel_threads = threads.channel_threads.items; numbers = is.channels; first = is.first; each = back.played.each };
      played_channels = back.played.seats;
      chain_thread = back.played.chain_thread;
      chain = let p = r.played.chain_thread in
          chain_from c.args.events.now (opening_in c.args.closing_seats.now.a) (opening_in c.args.closing_seats.now.b) (last_in p.a) (last_in p.b) r.played.outcomes.items threads.chain_thread is.seen back.played.chain;
      side_threads_a = subst (λ (n : ℕ). HaveServed shared.a n r.side_threads_a.items) is.many_a back.side_threads_a;
      side_threads_b = subst (λ (n : ℕ). HaveServed shared.b n r.side_threads_b.items) is.many_b back.side_threads_b;
    })
    c.run_threads.ensures
