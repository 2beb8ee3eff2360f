use Rattle.std.proofs.Common.{◌≡◌, ◌<◌, ◌≤◌, length, Some, refl, sym, ap, ◌∙◌, subst, rules}
use Rattle.std.proofs.lemmas.Option.{slice_get_read}
use Rattle.world.specs.Worlds.{Line, Node, received_by}
use Rattle.world.proofs.Sending.{took_off, none_came}
use Rattle.world.proofs.delivering.take_off.Goals as goal

pub returns-then-index-len : goal.returns-then-index-len
returns-then-index-len c =
    let i = c.me.inside in
    let n : Node = record { history = i.book; lines = i.lines.items; read = i.read; learnt = i.learnt.items; jobs = i.jobs.items; taken = i.taken.items } in
    let line : Line = record { inbox = c.line.inside.inbox.items; seen = c.line.inside.watch } in
    let within : c.args.channel < length i.lines.items = search rules in
    let found = slice_get_read i.lines.items (length i.lines.items) c.args.channel c.index_mut-line.result.now refl within c.index_mut-line.ensures.value in
    took_off n c.args.channel line c.pop_message.new.inbox.items (found ∙ ap Some (sym c.line.view_is)) c.pop_message.ensures ∙ ap (received_by c.args.channel) c.me.view_is

pub returns-else-index-len : goal.returns-else-index-len
returns-else-index-len c =
    let past : length c.me.inside.lines.items ≤ c.args.channel = search rules in
    subst (λ (n : Node). n ≡ received_by c.args.channel n) c.me.view_is (none_came _ c.args.channel past)
