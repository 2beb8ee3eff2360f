use Rattle.digest.proofs.OutsideVectors.{length-ripemd160}
use Rattle.std.proofs.Common.{rules, arith, length, ap, ◌∙◌}
use Rattle.commit.proofs.Spelt.{key_length, received_spelt}
use Rattle.commit.proofs.scripts.HtlcScripts.received.Goals as goal

pub returns : goal.returns
returns c = received_spelt c.args.self.now.revocation_hash c.args.self.now.keys.remote_htlc.bytes c.args.self.now.keys.local_htlc.bytes c.args.payment.now _ c.args.expiry_height (ap length c.args.self.now.hashed ∙ length-ripemd160 _) (key_length _ c.args.self.now.keys.remote_htlc.form) (key_length _ c.args.self.now.keys.local_htlc.form) (omega arith) (search rules)
