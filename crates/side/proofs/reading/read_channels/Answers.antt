use Rattle.std.proofs.Common.{get_or, refl, reverse, arith}
use Rattle.std.specs.Prelude.{slice_set}
use Rattle.std.proofs.lemmas.List.{get_or_default}
use Rattle.side.proofs.Followed.{read_step, read_end}
use Rattle.side.proofs.reading.read_channels.Goals as goal

pub loop-index-preserved : goal.loop-index-preserved
loop-index-preserved c =
    let i = c.loop-index.index in
    let now = c.loop-index.channels in
    let old = get_or now i c.index-channels-index.result in
    let new = c.read_channel.new.followed in
    let more = c.in_ok-read_channel.ensures.found in
    read_step c.args.height (reverse c.args.block.now.transactions) c.args.channels.now i now (slice_set now i new) old new c.loop-index.found.due.items c.read_channel.new.found.due.items more.new_jobs
    c.loop-index.found.learnt.items c.read_channel.new.found.learnt.items more.new_shown c.loop-index.invariant (omega arith) (get_or_default now i c.index-channels-index.result old (omega arith)) refl
    more.finds c.in_ok-read_channel.ensures.known more.jobs_are more.shown_are

pub returns-clause-found : goal.returns-clause-found
returns-clause-found c =
    read_end c.args.height (reverse c.args.block.now.transactions) c.args.channels.now c.loop-index.index c.loop-index.channels c.loop-index.found.due.items c.loop-index.found.learnt.items
    c.loop-index.invariant (omega arith)
