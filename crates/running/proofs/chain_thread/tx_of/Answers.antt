use Rattle.std.proofs.Common.{sym, subst}
use Rattle.desk.specs.Seats.{last_in}
use Rattle.running.specs.Broadcasts.{IsBroadcast}
use Rattle.running.proofs.chain_thread.tx_of.Goals as goal

pub returns-in-Ok-clause-tx : goal.returns-in-Ok-clause-tx
returns-in-Ok-clause-tx g c = subst (IsBroadcast (last_in c.tx_by.new.seat) c.args.broadcast.now) (sym c.ok_or.ensures.value) c.in-Ok.ensures.tx
