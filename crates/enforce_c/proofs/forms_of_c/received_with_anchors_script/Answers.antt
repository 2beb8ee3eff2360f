use Rattle.enforce_c.proofs.FormBytes.{received_with_anchors_spelt}
use Rattle.enforce_c.proofs.forms_of_c.received_with_anchors_script.Goals as goal

pub returns : goal.returns
returns c =
    let k = c.in_ok-htlc_keyed.ensures in
    let t = c.in_ok-expiry.expiry in
    received_with_anchors_spelt c.args.form.now c.received_with_anchors.result k.0 k.1 k.2 t.height c.in_ok-expiry.ensures t.low c.received_with_anchors.ensures
