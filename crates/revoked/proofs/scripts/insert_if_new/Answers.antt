use Rattle.std.proofs.Common.{◌≡◌, false, cond, Some, sym, ap, subst, ◌∙◌, nat_cmp}
use Rattle.std.specs.Ordering.{is_eq}
use Rattle.std.specs.Option.{is_some}
use Rattle.std.specs.Cmp.Lexicographic.{slice_cmp}
use Rattle.std.specs.BTreeMap.{get}
use Rattle.commit.specs.Keys.{bytes_of}
use Rattle.revoked.specs.Programs.{htlc_program}
use Rattle.revoked.proofs.Table.{added}
use Rattle.revoked.proofs.scripts.insert_if_new.Goals as goal

pub returns : goal.returns
returns c =
    let x = c.args.htlc.now in
    let old = get (slice_cmp nat_cmp) c.args.by_program.now in
    let lacks = subst (λ k. is_some (get (slice_cmp nat_cmp) c.args.by_program.now k) ≡ false) c.in_ok-program.ensures (sym c.if-contains_key.ensures) in
    λ p.
    c.in_ok-insert.ensures.updates.0 p
    ∙ ap (λ k. cond (is_eq (slice_cmp nat_cmp k p)) (Some x) (old p)) c.in_ok-program.ensures
    ∙ added old x (htlc_program c.args.channel_type (bytes_of c.args.keys.now) x) p lacks
