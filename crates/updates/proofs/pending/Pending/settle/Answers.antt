use Rattle.std.proofs.Common.{rules, ◌≡◌, ap, arith, length, filter}
use Rattle.std.proofs.lemmas.Fn.{filter_same}
use Rattle.updates.specs.Pending.{is_left}
use Rattle.updates.proofs.pending.Pending.settle.Goals as goal

pub returns-clause-htlcs : goal.returns-clause-htlcs
returns-clause-htlcs c = filter_same _ (is_left c.args.removed) _ (λ x b f k. search rules) _ _ c.retain.ensures.filtered

pub returns-clause-bound : goal.returns-clause-bound
returns-clause-bound c =
    let e : c.retain.new.self.items ≡ filter (is_left c.args.removed) c.args.self.now.htlcs.items = filter_same _ (is_left c.args.removed) _ (λ x b f k. search rules) _ _ c.retain.ensures.filtered in
    let l = ap length e in
    let g = c.fulfilled_at-self.ensures.bound in
    let h = c.requires in
    omega (arith, l, g, h)
