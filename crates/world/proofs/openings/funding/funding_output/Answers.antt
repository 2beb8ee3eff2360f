use Rattle.std.proofs.Common.{◌≡◌, ap, ◌∙◌}
use Rattle.std.specs.Result.{result_ok}
use Rattle.script.specs.Spelling.{spelling}
use Rattle.keys.specs.declared.bases.Base.TheVariants.{Funding}
use Rattle.keys.specs.Derivation.{base_key}
use Rattle.terms.specs.declared.sides.Side.TheVariants.{A}
use Rattle.terms.specs.declared.agreement.BaseKeys.{BaseKeys}
use Rattle.terms.specs.Scripts.{funding}
use Rattle.sighash.specs.Programs.{script_hash_program}
use Rattle.world.specs.Opening.{seed_in, funding_output}
use Rattle.world.proofs.Opened.{funded}
use Rattle.world.proofs.openings.funding.funding_output.Goals as goal

pub returns : goal.returns
returns c =
    let seeds = c.args.seeds.now in
    let n = c.args.channel in
    let a = ap (λ (b : BaseKeys). b.funding.bytes) c.bases_in-a.ensures in
    let b = ap (λ (b : BaseKeys). b.funding.bytes) c.bases_in-b.ensures in
    let script : c.in_ok-program.program ≡ (funding_output seeds n c.args.plain.now).script =
    c.in_ok-program.ensures ∙ ap (λ k. script_hash_program (spelling (funding k c.bases_in-b.result.funding.bytes))) a
    ∙ ap (λ k. script_hash_program (spelling (funding (base_key (seed_in seeds n A) Funding) k))) b in
    c.ok.ensures.value ∙ ap result_ok c.new.ensures ∙ funded seeds n c.args.plain.now c.in_ok-program.program script
