use Rattle.world.proofs.Played.{played_steps, refused_steps}
use Rattle.world.proofs.parts.Parts.step.Goals as goal

pub returns-in-Ok : goal.returns-in-Ok
returns-in-Ok c = played_steps c.args.self.now c.play.new.self c.args.event.now c.in-Ok.outcome c.in-Ok.ensures

pub returns-in-Err : goal.returns-in-Err
returns-in-Err c = refused_steps c.args.self.now c.play.new.self c.args.event.now c.in-Err.error c.in-Err.ensures
