use Rattle.std.proofs.Common.{◌≡◌, false, true, None, length, refl, sym, ap, subst, ◌∙◌}
use Rattle.std.specs.Prelude.{slice_get}
use Rattle.std.proofs.lemmas.Option.{slice_get_read}
use Rattle.keys.specs.Rights.{MaySign}
use Rattle.commit.specs.Keys.{KeyBytes}
use Rattle.publish.specs.Published.{signed_htlc_of}
use Rattle.publish.proofs.Rights.{given, no_right}
use Rattle.publish.proofs.signatures.htlc_tx_by_both.Goals as goal

pub htlc_tx_by-requires-clause-kth : goal.htlc_tx_by-requires-clause-kth
htlc_tx_by-requires-clause-kth c =
    let htlcs = c.htlcs.result.now in
    ap (λ xs. slice_get xs c.args.k) (sym c.htlcs.ensures.value) ∙ slice_get_read htlcs (length htlcs) c.args.k c.in-Some.htlc.now refl c.in-Some.ensures.lookup.3.0 c.in-Some.ensures.lookup.1

pub returns-in-Ok : goal.returns-in-Ok
returns-in-Ok c =
    given c.htlc_tx_by.result (MaySign c.args.signer.now c.args.commitment.now.keys.local_htlc) (signed_htlc_of c.args.commitment.now c.args.k c.args.preimages.now)
    (subst (λ (k : KeyBytes). MaySign c.args.signer.now k.local_htlc) c.keys.ensures (c.in-Ok.ensures.ok.0 refl)) c.htlc_tx_by.ensures

pub returns-in-Err : goal.returns-in-Err
returns-in-Err c =
    no_right (MaySign c.args.signer.now c.args.commitment.now.keys.local_htlc) (signed_htlc_of c.args.commitment.now c.args.k c.args.preimages.now) None
    (λ m. let h : false ≡ true = c.in-Err.ensures.ok.1 (subst (λ (k : KeyBytes). MaySign c.args.signer.now k.local_htlc) (sym c.keys.ensures) m) in cc) refl
