use Rattle.std.proofs.Common.{◌≡◌, false, cond, Some, sym, ap, subst, ◌∙◌, nat_cmp}
use Rattle.std.specs.Ordering.{is_eq}
use Rattle.std.specs.Option.{is_some}
use Rattle.std.specs.Cmp.Lexicographic.{slice_cmp}
use Rattle.std.specs.BTreeMap.{get}
use Rattle.sha2.specs.Sha256.{sha256}
use Rattle.resolve.proofs.Knowing.{added}
use Rattle.resolve.proofs.known_preimages.insert_if_new.Goals as goal

pub returns : goal.returns
returns c =
    let x = c.args.preimage.now in
    let old = get (slice_cmp nat_cmp) c.args.by_hash.now in
    let lacks = subst (λ k. is_some (get (slice_cmp nat_cmp) c.args.by_hash.now k) ≡ false) c.sha256-hash.ensures (sym c.if-contains_key.ensures) in
    λ h.
    c.in_ok-insert.ensures.updates.0 h
    ∙ ap (λ k. cond (is_eq (slice_cmp nat_cmp k h)) (Some x) (old h)) c.sha256-hash.ensures
    ∙ added old x (sha256 x) h lacks
