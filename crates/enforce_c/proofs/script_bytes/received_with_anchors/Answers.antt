use Rattle.std.proofs.Common.{◌∙◌}
use Rattle.digest.proofs.OutsideVectors.{length-ripemd160}
use Rattle.enforce_c.proofs.Spelled.{received_with_anchors_spells}
use Rattle.enforce_c.proofs.script_bytes.received_with_anchors.Goals as goal

pub returns : goal.returns
returns c = received_with_anchors_spells c.joined.result _ _ _ _ _ _ _ c.args.expiry_height (length-ripemd160 _) c.told-remote c.told-local (length-ripemd160 _) c.hash160-hash.ensures c.ripemd160-payment.ensures (c.bytes.ensures ∙ c.in_ok-expiry.ensures) c.joined.ensures
