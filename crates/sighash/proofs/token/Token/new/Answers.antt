use Rattle.std.proofs.Common.{refl}
use Rattle.sighash.proofs.Tokens.{written}
use Rattle.sighash.proofs.token.Token.new.Goals as goal

pub returns : goal.returns
returns c = rw c.copy_from_slice-2.ensures.after (written c.copy_from_slice.new.self c.args.key.now c.args.digest.now _ c.told-key c.copy_from_slice.ensures.after refl)
