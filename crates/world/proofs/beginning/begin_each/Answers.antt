use Rattle.std.proofs.Common.{sym, subst, arith}
use Rattle.std.proofs.lemmas.Option.{slice_get-get_or}
use Rattle.world.specs.Worlds.{World}
use Rattle.world.specs.Beginning.{HasBegun}
use Rattle.world.proofs.Begun.{IsLeft, nothing_begun, begin_next, has_begun, all_left}
use Rattle.world.proofs.beginning.begin_each.Goals as goal

pub loop-channel-init : goal.loop-channel-init
loop-channel-init c = subst (λ (w : World). IsLeft c.args.seeds.now c.args.terms.now 0 w × HasBegun 0 w) (sym c.requires.empty) ((λ end more. more), nothing_begun)

pub begin-requires-clause-agreed : goal.begin-requires-clause-agreed
begin-requires-clause-agreed c = c.requires.agreed c.loop-channel.channel _ (slice_get-get_or c.args.terms.now c.loop-channel.channel _ c.loop-channel-test.true)

pub loop-channel-preserved : goal.loop-channel-preserved
loop-channel-preserved c =
    let few = c.requires.few in
    let below = c.loop-channel-test.true in (
      begin_next c.args.seeds.now c.args.terms.now c.loop-channel.channel _ c.loop-channel.parts c.begin.new.parts (slice_get-get_or c.args.terms.now c.loop-channel.channel _ below) c.in_ok-begin.ensures
          c.loop-channel.invariant.0,
      has_begun c.openings_agree.ensures.paired c.openings_agree.ensures.taken c.args.seeds.now c.loop-channel.channel _ c.loop-channel.parts c.begin.new.parts (omega (arith, few, below))
          c.loop-channel.invariant.1 c.in_ok-begin.ensures,
    )

pub returns-clause-begins : goal.returns-clause-begins
returns-clause-begins c = all_left c.args.seeds.now c.args.terms.now c.loop-channel.channel c.loop-channel.parts (omega (arith, c.loop-channel-test.false)) c.loop-channel.invariant.0
