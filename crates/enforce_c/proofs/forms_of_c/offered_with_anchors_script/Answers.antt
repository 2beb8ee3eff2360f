use Rattle.enforce_c.proofs.FormBytes.{offered_with_anchors_spelt}
use Rattle.enforce_c.proofs.forms_of_c.offered_with_anchors_script.Goals as goal

pub returns : goal.returns
returns c =
    let k = c.in_ok-htlc_keyed.ensures in
    offered_with_anchors_spelt c.args.form.now c.offered_with_anchors.result k.0 k.1 k.2 c.offered_with_anchors.ensures
