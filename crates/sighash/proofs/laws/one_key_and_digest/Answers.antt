use Rattle.sighash.proofs.Tokens.{one_token}
use Rattle.sighash.proofs.laws.one_key_and_digest.Goals as goal

pub returns : goal.returns
returns c = λ key other digest another len e. one_token key other digest another len e
