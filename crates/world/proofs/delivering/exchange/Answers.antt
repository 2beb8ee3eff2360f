use Rattle.std.proofs.Common.{◌<◌, length, set, Some, refl, sym, ap, ◌∙◌, subst, rules}
use Rattle.std.proofs.lemmas.Option.{slice_get_read}
use Rattle.book.specs.declared.calls.Call.{Call}
use Rattle.world.specs.Worlds.{Line, Node}
use Rattle.world.specs.Refusing.{IsEvent, sending_refusal, sent_by}
use Rattle.world.proofs.Sending.{exchanged, not_past}
use Rattle.world.proofs.delivering.exchange.Goals as goal

pub returns-clause-peer : goal.returns-clause-peer
returns-clause-peer c =
    let i = c.peer.inside in
    let n : Node = record { history = i.book; lines = i.lines.items; read = i.read; learnt = i.learnt.items; jobs = i.jobs.items; taken = i.taken.items } in
    let line : Line = record { inbox = c.line.inside.inbox.items; seen = c.line.inside.watch } in
    let call : Call = c.args.call in
    let within : c.args.channel < length i.lines.items = search rules in
    let found = slice_get_read i.lines.items (length i.lines.items) c.args.channel c.index_mut-line.result.now refl within c.index_mut-line.ensures.value in
    let done = exchanged c.send.result c.args.channel call c.args.me.now n line c.send.new.inbox.items (found ∙ ap Some (sym c.line.view_is)) (not_past (length i.lines.items) c.args.channel within) c.send.ensures.inbox in
    let new : Node = record n { lines = set i.lines.items c.args.channel (record line { inbox = c.send.new.inbox.items }) } in
    subst (λ (p : Node). IsEvent (sending_refusal c.args.channel call c.args.me.now p) c.send.result p (sent_by c.args.channel call c.args.me.now p) new) c.peer.view_is done
