use Rattle.std.proofs.Common.{◌≡◌, ℕ, List, Some, subst}
use Rattle.std.specs.Prelude.{IsTrue}
use Rattle.std.specs.List.{AllByRecursion}
use Rattle.script.specs.Token.{is_token}
use Rattle.texts.specs.Keys.{token_bytes_of}
use Rattle.texts.specs.Writing.{bytes_data}
use Rattle.texts.proofs.CallReturning.{signed_again}
use Rattle.texts.proofs.call_writing.TokensWriteValue.write_value.Goals as goal

pub returns-clause-back : goal.returns-clause-back
returns-clause-back c =
    let tokens = subst (λ (ts : List (List ℕ)). AllByRecursion (λ t. IsTrue (is_token t) → token_bytes_of (bytes_data t) ≡ Some t) ts) c.values.ensures c.in_ok-message.ensures.back in
    signed_again c.args.self.now c.in_ok-item.ensures.back tokens
