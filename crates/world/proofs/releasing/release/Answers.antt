use Rattle.world.proofs.Releases.{whole}
use Rattle.world.proofs.releasing.release.Goals as goal

pub returns : goal.returns
returns c =
    let r = c.in_ok-release.release in
    let twice = c.in_ok-twice.twice in
    let is = c.in_ok-twice.ensures in
    let w = whole c.args.count c.args.me.now c.filled_by.new.me c.drop_taken.new.me r.channel r.batch twice.filled c.into_tx.result twice.copy is.copy c.in_ok-release.ensures.counted c.in_ok-release.ensures.ready
    is.side.0 is.side.1 is.filled c.into_tx.ensures.value c.drop_taken.ensures
    in
    (w.first, w.done, w.same)
