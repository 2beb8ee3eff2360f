use Rattle.filling.proofs.Fitted.{slots-short, have-preimages}
use Rattle.filling.proofs.witnesses.filled_input.Goals as goal

pub witness-requires : goal.witness-requires
witness-requires c = record {
  short = λ a. slots-short c.args.claim.now c.args.preimages.now c.args.cache.now c.args.index (record { path = c.path.result.now; at = c.path.ensures.at; taken = c.path.ensures.value; opens = c.path.ensures.spends }) c.requires.here c.requires.bare c.requires.stands (have-preimages c.args.signer.now c.args.preimages.now c.args.claim.now.slots a);
}
