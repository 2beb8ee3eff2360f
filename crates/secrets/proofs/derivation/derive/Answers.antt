use Rattle.std.proofs.Common.{◌≡◌, ℕ, zero, sym, ap, ◌∙◌, arith}
use Rattle.secrets.specs.Derivation.{derived_secret}
use Rattle.secrets.proofs.Deriving.{derived-zero, further-set, further-clear}
use Rattle.secrets.proofs.derivation.derive.Goals as goal

pub loop-b-preserved-then-i-b-eq1 : goal.loop-b-preserved-then-i-b-eq1
loop-b-preserved-then-i-b-eq1 c =
    further-set c.loop-b.derived _ _ c.loop-b.b c.args.i (omega arith) c.if-i-b-eq1.true c.hash_flipped-derived.ensures c.loop-b.invariant

pub loop-b-preserved : goal.loop-b-preserved
loop-b-preserved c =
    further-clear c.loop-b.derived _ c.loop-b.b c.args.i (omega arith) c.if-i-b-eq1.false c.loop-b.invariant

pub returns : goal.returns
returns c =
    let end : zero ≡ c.loop-b.b = omega arith in
    sym (derived-zero c.loop-b.derived c.args.i) ∙ ap (λ (n : ℕ). derived_secret c.loop-b.derived n c.args.i) end ∙ c.loop-b.invariant
