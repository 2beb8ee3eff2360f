use Rattle.anchor_forms.proofs.Forms.{offered_at, taken, built}
use Rattle.anchor_forms.proofs.htlc_scripts.offered_with_anchors.Goals as goal

pub instance_of-requires : goal.instance_of-requires
instance_of-requires c =
    let k = c.args.keys.now in
    taken _ _ _ _ c.args.patterns.now.of_offered (offered_at c.hash160-revocation.result k.revocation.bytes k.remote.bytes k.local.bytes c.ripemd160-payment.result c.args.payment_hash.now c.hash160-revocation.ensures c.ripemd160-payment.ensures k.remote.form k.local.form)

pub returns : goal.returns
returns c =
    let k = c.args.keys.now in
    built c.instance_of.result _ _ _ _ c.args.patterns.now.of_offered (offered_at c.hash160-revocation.result k.revocation.bytes k.remote.bytes k.local.bytes c.ripemd160-payment.result c.args.payment_hash.now c.hash160-revocation.ensures c.ripemd160-payment.ensures k.remote.form k.local.form) c.instance_of.ensures
