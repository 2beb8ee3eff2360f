use Rattle.std.proofs.Common.{sym, ◌∙◌}
use Rattle.enforce_c.proofs.DerForms.{is_spelled, is_read}
use Rattle.enforce_c.proofs.der.is_der.Goals as goal

pub returns-clause-spelled : goal.returns-clause-spelled
returns-clause-spelled c =
    let value = c.has_der_form.ensures.value in
    (λ e. is_spelled c.args.item.now (sym value ∙ e), λ d. value ∙ is_read c.args.item.now d)
