use Rattle.std.proofs.Common.{◌≡◌, false, refl, subst}
use Rattle.std.specs.Prelude.{Result, Err}
use Rattle.tx.specs.declared.input.OutPoint.{OutPoint}
use Rattle.tx.specs.Parts.{Output}
use Rattle.chain.specs.declared.errors.ChainError.{ChainError}
use Rattle.chain.specs.declared.errors.ChainError.TheVariants as refusals
use Rattle.chain.specs.Blocks.{Standing}
use Rattle.chain.specs.Connecting.{Grants, is_program}
use Rattle.world.proofs.Begun.{funded_by, is_granted}
use Rattle.world.proofs.beginning.grant_funding.Goals as goal

-- if a grant is refused for anything but memory, the output has no witness program
not_granted : (old new : Standing) (o : Output) (e : ChainError) → Grants old o (Err e) new → (e ≡ refusals.NoMemory → ⊥) → is_program o.script ≡ false
not_granted old new o refusals.NoMemory g not = absurd (not refl)
not_granted old new o e g not = g.1.0

pub unreachable-requires-in_default-error : goal.unreachable-requires-in_default-error
unreachable-requires-in_default-error c =
    let o = funded_by c.args.seeds.now c.args.channel c.args.plain.now c.in-Some.output c.in_ok-output.field-0 c.in_ok-output.ensures c.in-Some.is in
    is_granted c.args.seeds.now c.args.channel c.args.plain.now c.in-Some.output o
    (not_granted c.args.chain.now c.grant.new.self c.in-Some.output c.in-Err.error (subst (λ (r : Result OutPoint ChainError). Grants c.args.chain.now c.in-Some.output r c.grant.new.self) c.in-Err.is c.grant.ensures) c.in_default-error.not-NoMemory)
