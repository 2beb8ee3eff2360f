use Rattle.std.specs.Prelude.{Ok, Err}
use Rattle.std.proofs.Common.{refl}
use Rattle.book.specs.declared.calling.Reply.TheVariants.{Released}
use Rattle.world.proofs.Releases.{is_filled, is_unfilled}
use Rattle.world.proofs.releasing.filled_by.Goals as goal

pub returns-in-Ok-clause-side : goal.returns-in-Ok-clause-side
returns-in-Ok-clause-side c =
    let f = is_filled c.args.me.now c.release.new.self c.args.channel c.args.batch c.in-Ok.filled.filled (Released (Ok c.in-Ok.filled.filled)) refl c.in-Ok.ensures.book c.release.ensures.rest in
    (f.none, f.after)

pub returns-in-Ok-clause-filled : goal.returns-in-Ok-clause-filled
returns-in-Ok-clause-filled c =
    (is_filled c.args.me.now c.release.new.self c.args.channel c.args.batch c.in-Ok.filled.filled (Released (Ok c.in-Ok.filled.filled)) refl c.in-Ok.ensures.book c.release.ensures.rest).answer

pub returns-in-Err-clause-side : goal.returns-in-Err-clause-side
returns-in-Err-clause-side c =
    is_unfilled c.args.me.now c.release.new.self c.args.channel c.args.batch c.in-Err.error c.of_release.result (Released (Err c.in-Err.error)) refl c.of_release.ensures c.in-Err.ensures.book c.release.ensures.rest
