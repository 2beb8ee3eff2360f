use Rattle.std.proofs.Common.{◌≡◌, ◌-◌, ◌≤◌, [], ◌∷◌, ◌++◌, length, subst, sym, ap, ◌∙◌, arith}
use Rattle.std.specs.Prelude.{IfOk}
use Rattle.tx.specs.declared.limits.TheConstants.{MAX_VALUE, MAX_BYTES}
use Rattle.commit.specs.Fees.{satoshis_of, fee_sat_of, htlc_weight}
use Rattle.sighash.specs.Programs.{script_hash_program}
use Rattle.commit.specs.Outputs.{to_local_script}
use Rattle.commit.specs.Commitments.{id_of}
use Rattle.commit.proofs.Collected.{short_script_program}
use Rattle.commit.proofs.Limited.{no_fault, taken, same_ok, second_stage_is}
use Rattle.commit.proofs.commitments.Commitment.htlc_tx_of.Goals as goal

pub unreachable-requires : goal.unreachable-requires
unreachable-requires c =
    let s = c.saturating_sub-value.ensures in
    let r = c.requires in
    let t = c.satoshis.ensures in
    let v : c.saturating_sub-value.result ≤ MAX_VALUE = omega (arith, s, r, t) in
    let p : length c.in_ok-copy.field-0 ≤ MAX_BYTES = subst (λ q. length q ≤ MAX_BYTES) (sym (c.in_ok-copy.ensures ∙ c.self.invariant.program_is)) (short_script_program _) in
    no_fault _ _ _ _ _ _ _ v p c.in-Err.is c.new.ensures

pub returns : goal.returns
returns c =
    let s = c.saturating_sub-value.ensures in
    let r = c.requires in
    let t = c.satoshis.ensures in
    let f = c.htlc_fee-fee.ensures in
    let v : c.saturating_sub-value.result ≤ MAX_VALUE = omega (arith, s, r, t) in
    let p : length c.in_ok-copy.field-0 ≤ MAX_BYTES = subst (λ q. length q ≤ MAX_BYTES) (sym (c.in_ok-copy.ensures ∙ c.self.invariant.program_is)) (short_script_program _) in
    let o = same_ok _ _ _ c.in-Ok.is (taken _ _ _ _ _ _ v p c.new.ensures) in
    let e : c.self.inside.feerate_per_kw ≡ c.args.self.now.feerate_per_kw = ap (λ k. k.feerate_per_kw) c.self.view_is in
    let value : c.saturating_sub-value.result ≡ satoshis_of c.args.htlc.now.htlc.amount_msat - fee_sat_of (htlc_weight c.args.htlc.now.direction) c.args.self.now.feerate_per_kw = cc (s, t, f, e) in
    subst (λ x. IfOk c.spending.result (λ y. y ≡ x))
    (second_stage_is c.args.self.now c.args.htlc.now c.self.inside.id c.in_ok-copy.field-0 c.saturating_sub-value.result c.lock_time.result c.push_within_limit.new.self
    (c.self.invariant.id_is ∙ ap id_of c.self.view_is)
    (c.in_ok-copy.ensures ∙ c.self.invariant.program_is ∙ ap (λ k. script_hash_program (to_local_script k.delay_blocks k.keys)) c.self.view_is)
    value
    (c.in_ok-push_within_limit.ensures.ok ∙ ap (λ xs. xs ++ c.in-Ok.output ∷ []) c.new-outputs.ensures ∙ ap (λ x. x ∷ []) o)
    c.lock_time.ensures)
    c.spending.ensures
