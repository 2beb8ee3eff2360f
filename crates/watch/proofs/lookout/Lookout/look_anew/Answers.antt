use Rattle.std.proofs.Common.{reverse, sym, subst}
use Rattle.resolve.specs.declared.known.Known.{Known}
use Rattle.watch.specs.Watching.{Seen, seen_after}
use Rattle.watch.specs.Lookouts.{IsSettled}
use Rattle.watch.proofs.Settled.{settled}
use Rattle.watch.proofs.lookout.Lookout.look_anew.Goals as goal

pub invariant_of-self-2 : goal.invariant_of-self-2
invariant_of-self-2 c =
    let i = c.self.inside in
    let txs = reverse c.args.block.now.transactions in (
      rw c.take.ensures.after tt,
      subst (λ (s : Seen). IsSettled s i.known.value) (sym c.in_ok-sight.ensures.ok)
          (subst (λ (k : Known). IsSettled (seen_after i.watch c.args.height txs k) i.known.value) (sym c.deref.ensures) (settled i.watch c.args.height txs i.known.value)),
    )
