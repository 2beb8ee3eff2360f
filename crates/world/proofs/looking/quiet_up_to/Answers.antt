use Rattle.std.proofs.Common.{ℕ, reverse, refl, sym, ap, subst, ◌∙◌}
use Rattle.std.proofs.lemmas.Bool.{OnTrue_at}
use Rattle.world.specs.Worlds.{Node}
use Rattle.world.specs.Looking.{Upward, reading_of}
use Rattle.world.proofs.Readings.{upward_start}
use Rattle.world.proofs.QuietBlocks.{none_in, upward_quiet}
use Rattle.world.proofs.looking.quiet_up_to.Goals as goal

pub returns-then-not-is_quiet : goal.returns-then-not-is_quiet
returns-then-not-is_quiet c =
    let me = c.args.me.now in
    upward_start me.history (reverse c.args.chain.now.blocks) me.read c.me.inside.read (reading_of me) (reading_of me) (ap (λ (n : Node). n.read) c.me.view_is) refl

pub loop-read-init : goal.loop-read-init
loop-read-init c =
    let me = c.args.me.now in
    record {
      upward = upward_start me.history (reverse c.args.chain.now.blocks) me.read c.me.inside.read (reading_of me) (reading_of me) (ap (λ (n : Node). n.read) c.me.view_is) refl;
      height = refl;
    }

pub loop-read-preserved : goal.loop-read-preserved
loop-read-preserved c =
    let me = c.args.me.now in
    let b = c.in-Some.block.now in
    let empty = none_in (reverse b.transactions) c.transactions.result.now c.transactions.ensures (sym c.is_empty.ensures ∙ c.if-not-is_empty.false) in
    record {
      upward =
          upward_quiet me.history (reverse c.args.chain.now.blocks) me.read c.loop-read.read (reading_of me) (reading_of me) b c.empty_blocks_give_nothing.ensures.nothing c.loop-read.invariant.upward (sym c.in-Some.ensures) empty
          (OnTrue_at c.if-not-is_quiet.false c.requires);
      height = refl;
    }

pub returns-then-not-is_empty : goal.returns-then-not-is_empty
returns-then-not-is_empty c =
    let me = c.args.me.now in
    subst (λ (n : ℕ). Upward me.history (reverse c.args.chain.now.blocks) me.read (reading_of me) n (reading_of me)) (sym c.loop-read.invariant.height) c.loop-read.invariant.upward

pub returns : goal.returns
returns c =
    let me = c.args.me.now in
    subst (λ (n : ℕ). Upward me.history (reverse c.args.chain.now.blocks) me.read (reading_of me) n (reading_of me)) (sym c.loop-read.invariant.height) c.loop-read.invariant.upward
