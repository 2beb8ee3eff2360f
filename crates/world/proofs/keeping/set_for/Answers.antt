use Rattle.std.proofs.Common.{subst}
use Rattle.world.specs.Worlds.{Node, channel_of}
use Rattle.world.specs.Refusing.{IsRefusal}
use Rattle.world.specs.Keeping.{keep_refusal, IsSetFor}
use Rattle.world.proofs.Keeps.{set_for, refused_so}
use Rattle.world.proofs.keeping.set_for.Goals as goal

pub returns-in_ok-set_by-in-Ok : goal.returns-in_ok-set_by-in-Ok
returns-in_ok-set_by-in-Ok c =
    let i = c.me.inside in
    let n : Node = record { history = i.book; lines = i.lines.items; read = i.read; learnt = i.learnt.items; jobs = i.jobs.items; taken = i.taken.items } in
    subst (λ (m : Node). IsSetFor m c.args.channel c.args.number c.in_ok-set_by-in-Ok.field-0.claims) c.me.view_is
    (set_for n c.args.channel c.args.number c.in-Ok.state c.in_ok-set_by-in-Ok.field-0.claims c.in-Ok.ensures c.in_ok-set_by-in-Ok.ensures)

pub returns-in-Err : goal.returns-in-Err
returns-in-Err c =
    let i = c.me.inside in
    let n : Node = record { history = i.book; lines = i.lines.items; read = i.read; learnt = i.learnt.items; jobs = i.jobs.items; taken = i.taken.items } in
    subst (λ (m : Node). IsRefusal (keep_refusal c.args.number (channel_of m c.args.channel)) c.of_keep.result) c.me.view_is
    (refused_so c.args.number (channel_of n c.args.channel) c.in-Err.error c.of_keep.result c.in-Err.ensures c.of_keep.ensures)
