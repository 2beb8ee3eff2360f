use Rattle.digest.proofs.OutsideVectors.{length-ripemd160}
use Rattle.enforce_c.proofs.Spelled.{offered_with_anchors_spells}
use Rattle.enforce_c.proofs.script_bytes.offered_with_anchors.Goals as goal

pub returns : goal.returns
returns c = offered_with_anchors_spells c.joined.result _ _ _ _ _ _ (length-ripemd160 _) c.told-remote c.told-local (length-ripemd160 _) c.hash160-hash.ensures c.ripemd160-payment.ensures c.joined.ensures
