use Rattle.std.proofs.Common.{◌≡◌, ◌-◌, ◌+◌, arith}
use Rattle.std.proofs.lemmas.Bool.{eqb-true, eq-eqb, ltb-true}
use Rattle.secrets.proofs.Storing.{next-is, next-from}
use Rattle.secrets.proofs.store.Store.is_next.Goals as goal

pub returns-then-i-self : goal.returns-then-i-self
returns-then-i-self c =
    let s = c.self.inside in (
      λ t. next-from s.entries s.lowest c.args.i c.args.self.now c.self.invariant c.self.view_is
          (omega (arith, eqb-true (s.lowest - c.args.i) 1 t, c.if-i-self.true)),
      λ next.
          let is : s.lowest ≡ c.args.i + 1 = next-is s.entries s.lowest c.args.i c.args.self.now c.self.invariant c.self.view_is next in
          eq-eqb (s.lowest - c.args.i) 1 (omega arith),
    )

pub returns-else-i-self : goal.returns-else-i-self
returns-else-i-self c =
    let s = c.self.inside in (
      λ t. absurd (omega (arith, ltb-true c.args.i s.lowest t, c.if-i-self.false)),
      λ next.
          let is : s.lowest ≡ c.args.i + 1 = next-is s.entries s.lowest c.args.i c.args.self.now c.self.invariant c.self.view_is next in
          absurd (omega (arith, c.if-i-self.false)),
    )
