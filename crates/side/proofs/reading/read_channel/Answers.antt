use Rattle.std.proofs.Common.{[], refl, sym, append-nil}
use Rattle.side.proofs.reading.read_channel.Goals as goal

pub returns-in-Alone-clause-found : goal.returns-in-Alone-clause-found
returns-in-Alone-clause-found c =
    record {
      new_jobs = [];
      new_shown = [];
      finds = rw c.in-Alone.is (refl, refl, refl);
      jobs_are = sym (append-nil c.args.found.now.due.items);
      shown_are = sym (append-nil c.args.found.now.learnt.items);
    }
