use Rattle.std.proofs.Common.{◌∙◌, refl}
use Rattle.std.proofs.lemmas.Bool.{false≢true}
use Rattle.filling.proofs.witnesses.item.Goals as goal

pub returns-in_ok-from_slice-in-Ok : goal.returns-in_ok-from_slice-in-Ok
returns-in_ok-from_slice-in-Ok c = rw c.in-Sig.is (c.in_ok-from_slice-in-Ok.ensures ∙ c.bytes.ensures ∙ c.in-Ok.ensures.token, c.in-Ok.ensures.ok.0 refl)

pub returns-in-Err : goal.returns-in-Err
returns-in-Err c = rw c.in-Sig.is (λ m. false≢true (c.in-Err.ensures.ok.1 m))
