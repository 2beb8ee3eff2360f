use Rattle.std.proofs.Common.{length, refl, sym, ap, ◌∙◌, subst, arith}
use Rattle.sights.specs.Sights.{Reading}
use Rattle.sights.proofs.Reading.{IsBelow, itself, read_next, next_below, gone_back}
use Rattle.sights.proofs.Marked.{fewer, oldest_below}
use Rattle.sights.proofs.sights.Sights.block.Goals as goal

pub loop-confirmed-init : goal.loop-confirmed-init
loop-confirmed-init c = record { read = refl; below = itself }

pub loop-confirmed-preserved : goal.loop-confirmed-preserved
loop-confirmed-preserved c = record {
  read = read_next c.args.self.now c.loop-confirmed.self c.read.new.self c.args.height c.transactions-confirmed-items.result.now c.loop-confirmed.confirmed-index _ c.confirmed-item.result (omega arith) c.confirmed-item.is
      c.loop-confirmed.invariant.read c.in_default.ensures.ok;
  below = next_below c.args.self.now c.loop-confirmed.self c.read.new.self c.args.height c.confirmed-item.result c.loop-confirmed.invariant.below c.in_default.ensures.ok;
}

pub returns-in-Err-clause-err : goal.returns-in-Err-clause-err
returns-in-Err-clause-err c =
    gone_back c.args.self.now c.loop-confirmed.self c.self-in-loop-confirmed.inside.fundings c.self-in-loop-confirmed.inside.records c.keep.new.self c.len-count.result
    (c.self-in-loop-confirmed.view_is ∙ c.in-Err.ensures.err) (ap (λ (r : Reading). r.fundings) c.loop-confirmed.invariant.read) c.loop-confirmed.invariant.below
    (c.len-count.ensures ∙ ap (λ (r : Reading). length r.sighted) c.self.view_is) c.keep.ensures

pub invariant_of-self : goal.invariant_of-self
invariant_of-self c =
    let old = c.self-in-loop-confirmed.inside in
    fewer old.marks.first.items old.marks.second.items old.fundings c.keep.new.self old.records
    (subst (λ xs. IsBelow xs old.records) (sym c.keep.ensures) (oldest_below c.len-count.result old.records)) c.self-in-loop-confirmed.invariant
