use Rattle.world.proofs.Readings.{is_node_after}
use Rattle.world.proofs.looking.take_over.Goals as goal

pub invariant_of-me-2 : goal.invariant_of-me-2
invariant_of-me-2 c =
    let i = c.me.inside in
    let parts = c.args.parts in
    is_node_after (record { history = i.book; lines = i.lines.items; read = i.read; learnt = i.learnt.items; jobs = i.jobs.items; taken = i.taken.items }) parts.due.items c.append.new.self.items
    c.put_watches.new.lines c.deref_mut.result.now parts.watches.items i.lines.len c.max-me-inside.result parts.learnt.items c.me.invariant c.requires.jobs c.in_ok-append.ensures.items
    c.deref_mut.ensures.value c.deref_mut.ensures.len c.put_watches.ensures
