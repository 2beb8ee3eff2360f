use Rattle.world.proofs.Sending.{takes_message}
use Rattle.world.proofs.delivering.deliver.Goals as goal

pub exchange-requires : goal.exchange-requires
exchange-requires c = takes_message c.args.channel _ c.in_ok-call.call c.in_ok-call.ensures
