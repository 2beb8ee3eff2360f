use Rattle.std.proofs.Common.{◌≡◌, ◌≤◌, length, subst, sym, ap, ◌∙◌}
use Rattle.std.specs.List.{All}
use Rattle.tx.specs.declared.limits.TheConstants.{MAX_OUTPUTS}
use Rattle.terms.specs.declared.agreement.Party.{Party}
use Rattle.terms.specs.Agreement.{party}
use Rattle.terms.specs.Numbers.{obscured}
use Rattle.commit.specs.Amounts.{amounts_of}
use Rattle.commit.specs.Keys.{bytes_of}
use Rattle.commit.specs.Commitments.{commitment_of, IsOutputOf}
use Rattle.commit.specs.Building.{refusal_of}
use Rattle.commit.proofs.Collected.{few_outputs, each_output}
use Rattle.commit.proofs.Built.{contents_are, outputs_are, refused}
use Rattle.commit.proofs.building.build.Goals as goal

pub returns-in-Some : goal.returns-in-Some
returns-in-Some c =
    let o = outputs_are c.args.terms.now c.args.view.now c.args.owner c.args.n c.args.point.now.bytes c.commitment_keys-keys.result c.in_ok-outputs.outputs.items c.commitment_keys-keys.ensures c.in_ok-outputs.ensures in
    refused (commitment_of c.args.terms.now c.args.view.now c.args.owner c.args.n c.args.point.now.bytes) c.in-Some.refusal
    (ap refusal_of (sym (c.as_slice.ensures.value ∙ o)) ∙ sym c.in-Some.ensures)

pub new-requires-clause-few : goal.new-requires-clause-few
new-requires-clause-few c =
    subst (λ os. length os ≤ MAX_OUTPUTS) (sym c.from_vec.ensures) (few_outputs _ (ap refusal_of (sym c.as_slice.ensures.value) ∙ sym c.in_default.ensures))

pub new-requires-clause-each : goal.new-requires-clause-each
new-requires-clause-each c =
    subst (λ os. All (λ o. IsOutputOf (bytes_of c.commitment_keys-keys.result) o) os) (sym (c.from_vec.ensures ∙ c.in_ok-outputs.ensures))
    (each_output (party c.args.owner c.args.terms.now).delay_blocks (bytes_of c.commitment_keys-keys.result) (amounts_of c.args.terms.now c.args.view.now c.args.owner)
    (ap refusal_of (sym (c.as_slice.ensures.value ∙ c.in_ok-outputs.ensures)) ∙ sym c.in_default.ensures))

pub returns : goal.returns
returns c =
    let k = contents_are c.args.terms.now c.args.view.now c.args.owner c.args.n c.args.point.now.bytes c.commitment_keys-keys.result c.obscure.result c.from_vec.result c.commitment_keys-keys.ensures
    (c.obscure.ensures ∙ ap (λ m. obscured m c.args.n) c.mask.ensures.value) (c.from_vec.ensures ∙ c.in_ok-outputs.ensures) in
    let o = outputs_are c.args.terms.now c.args.view.now c.args.owner c.args.n c.args.point.now.bytes c.commitment_keys-keys.result c.in_ok-outputs.outputs.items c.commitment_keys-keys.ensures c.in_ok-outputs.ensures in
    let same : c.in_ok-built.built ≡ record { funding = c.args.terms.now.funding; hidden = c.obscure.result; keys = bytes_of c.commitment_keys-keys.result; delay_blocks = (party c.args.owner c.args.terms.now).delay_blocks; feerate_per_kw = c.args.view.now.feerate_per_kw; outputs = c.from_vec.result } =
    c.in_ok-built.ensures ∙ ap (λ (p : Party). record { funding = c.args.terms.now.funding; hidden = c.obscure.result; keys = bytes_of c.commitment_keys-keys.result; delay_blocks = p.delay_blocks; feerate_per_kw = c.args.view.now.feerate_per_kw; outputs = c.from_vec.result }) c.party.ensures in
    (same ∙ k, ap refusal_of (sym (c.as_slice.ensures.value ∙ o)) ∙ sym c.in_default.ensures)
