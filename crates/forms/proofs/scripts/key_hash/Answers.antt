use Rattle.forms.proofs.Forms.{key_hash_at, taken, built}
use Rattle.forms.proofs.scripts.key_hash.Goals as goal

pub instance_of-requires : goal.instance_of-requires
instance_of-requires c = taken _ _ _ _ c.args.patterns.now.of_key_hash (key_hash_at c.hash160-hash.result c.args.key.now.bytes c.hash160-hash.ensures)

pub returns : goal.returns
returns c = built c.instance_of.result _ _ _ _ c.args.patterns.now.of_key_hash (key_hash_at c.hash160-hash.result c.args.key.now.bytes c.hash160-hash.ensures) c.instance_of.ensures
