use Rattle.keys.proofs.signing.Signer.sign.Goals as goal

pub returns-clause-no_right : goal.returns-clause-no_right
returns-clause-no_right c =
    (λ e. absurd cc, λ n. absurd (n (c.can_sign.ensures.0 c.if-not-can_sign.false)))
