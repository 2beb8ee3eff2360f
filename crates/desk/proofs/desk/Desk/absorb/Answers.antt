use Rattle.crossbeam_channel.specs.Claims.{view}
use Rattle.desk.proofs.Keeps.{joins}
use Rattle.desk.proofs.desk.Desk.absorb.Goals as goal

pub absorb-requires-clause-rule : goal.absorb-requires-clause-rule
absorb-requires-clause-rule c =
    let own = c.requires.seat in
    let other = c.requires.other in
    joins c.args.seat.now.pass.id c.args.other.pass.id (view c.args.seat.now.pass) (view c.args.other.pass) own.old own.live other.live own.idle other.idle
