use Rattle.std.proofs.Common.{length, ap, arith}
use Rattle.world.specs.Worlds.{Node}
use Rattle.world.specs.Looking.{parts_read}
use Rattle.world.proofs.QuietBlocks.{quiet_by_block, still_quiet}
use Rattle.world.proofs.looking.is_quiet_after.Goals as goal

pub returns-then-me-height : goal.returns-then-me-height
returns-then-me-height c =
    let me = c.args.me.now in
    let read = ap (λ (n : Node). n.read) c.me.view_is in
    let learnt = ap (λ (n : Node). length n.learnt) c.me.view_is in
    quiet_by_block me c.args.chain.now.blocks (parts_read c.args.parts.now) c.empty_blocks_give_nothing.ensures.settles c.requires.reads (omega (arith, learnt)) (omega (arith, read, c.height.ensures))

pub returns : goal.returns
returns c =
    let me = c.args.me.now in
    let learnt = ap (λ (n : Node). length n.learnt) c.me.view_is in
    still_quiet c.args.was_quiet me c.args.chain.now.blocks (parts_read c.args.parts.now) c.empty_blocks_give_nothing.ensures.settles c.requires.reads (omega (arith, learnt)) c.requires.quiet
