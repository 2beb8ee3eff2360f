use Rattle.std.proofs.Common.{◌≡◌, Some, None, rules, sym, subst, ◌∙◌, nat_cmp}
use Rattle.std.specs.Cmp.Lexicographic.{slice_cmp}
use Rattle.std.specs.BTreeMap.{get}
use Rattle.revoked.specs.Parts.{RevokedParts}
use Rattle.revoked.specs.Programs.{output_with, HasPrograms}
use Rattle.revoked.proofs.Table.{found_local, not_local, found_remote, not_remote, is_of_htlcs, looked_up}
use Rattle.revoked.proofs.commitments.Revoked.output_with.Goals as goal

pub returns-then-eq : goal.returns-then-eq
returns-then-eq c =
    let inv : HasPrograms c.args.self.now c.self.inside.to_local c.self.inside.to_remote (λ p. get (slice_cmp nat_cmp) c.self.inside.by_program p) =
    subst (λ (r : RevokedParts). HasPrograms r c.self.inside.to_local c.self.inside.to_remote (λ p. get (slice_cmp nat_cmp) c.self.inside.by_program p)) c.self.view_is c.self.invariant in
    found_local c.args.self.now c.args.program.now c.bytes.result.now c.self.inside.to_local c.bytes.ensures inv.local c.if-eq.ensures

pub returns-then-eq-2 : goal.returns-then-eq-2
returns-then-eq-2 c =
    let inv : HasPrograms c.args.self.now c.self.inside.to_local c.self.inside.to_remote (λ p. get (slice_cmp nat_cmp) c.self.inside.by_program p) =
    subst (λ (r : RevokedParts). HasPrograms r c.self.inside.to_local c.self.inside.to_remote (λ p. get (slice_cmp nat_cmp) c.self.inside.by_program p)) c.self.view_is c.self.invariant in
    found_remote c.args.self.now c.args.program.now c.bytes-2.result.now c.self.inside.to_remote
    (not_local c.args.self.now c.args.program.now c.bytes.result.now c.self.inside.to_local c.bytes.ensures inv.local c.if-eq.ensures)
    c.bytes-2.ensures inv.remote c.if-eq-2.ensures

pub returns-in_err-htlc : goal.returns-in_err-htlc
returns-in_err-htlc c =
    let inv : HasPrograms c.args.self.now c.self.inside.to_local c.self.inside.to_remote (λ p. get (slice_cmp nat_cmp) c.self.inside.by_program p) =
    subst (λ (r : RevokedParts). HasPrograms r c.self.inside.to_local c.self.inside.to_remote (λ p. get (slice_cmp nat_cmp) c.self.inside.by_program p)) c.self.view_is c.self.invariant in
    let r = c.args.self.now in
    let p = c.args.program.now in
    let e : output_with r p ≡ None =
    is_of_htlcs r p None
    (not_local r p c.bytes.result.now c.self.inside.to_local c.bytes.ensures inv.local c.if-eq.ensures)
    (not_remote r p c.bytes-2.result.now c.self.inside.to_remote c.bytes-2.ensures inv.remote c.if-eq-2.ensures)
    (looked_up r.channel_type r.keys r.htlcs p (λ q. get (slice_cmp nat_cmp) c.self.inside.by_program q) None inv.htlcs c.in_err-htlc.ensures.of_length c.in_err-htlc.ensures.of_other) in
    let f : c.from_residual.result ≡ None = search rules in
    f ∙ sym e

pub returns : goal.returns
returns c =
    let inv : HasPrograms c.args.self.now c.self.inside.to_local c.self.inside.to_remote (λ p. get (slice_cmp nat_cmp) c.self.inside.by_program p) =
    subst (λ (r : RevokedParts). HasPrograms r c.self.inside.to_local c.self.inside.to_remote (λ p. get (slice_cmp nat_cmp) c.self.inside.by_program p)) c.self.view_is c.self.invariant in
    let r = c.args.self.now in
    let p = c.args.program.now in
    sym
    (is_of_htlcs r p (Some c.in_ok-htlc.htlc)
    (not_local r p c.bytes.result.now c.self.inside.to_local c.bytes.ensures inv.local c.if-eq.ensures)
    (not_remote r p c.bytes-2.result.now c.self.inside.to_remote c.bytes-2.ensures inv.remote c.if-eq-2.ensures)
    (looked_up r.channel_type r.keys r.htlcs p (λ q. get (slice_cmp nat_cmp) c.self.inside.by_program q) (Some c.in_ok-htlc.htlc) inv.htlcs c.in_ok-htlc.ensures.of_length c.in_ok-htlc.ensures.of_other))
