use Rattle.std.proofs.lemmas.Result.{err_from_is_err_and}
use Rattle.plain_claims.proofs.Taking.{script_refused, is_taken, none_accepted}
use Rattle.plain_claims.proofs.accepting.claim_of.Goals as goal

pub returns-in_err-checked : goal.returns-in_err-checked
returns-in_err-checked c =
    let p = err_from_is_err_and c.from_residual.result c.from_residual.ensures.1 in
    rw (p.1, p.2) (script_refused c.args.plain c.in_err-checked.field-0.0 (rw c.bytes.ensures at c.in_err-checked.ensures))

pub returns-in-Ok : goal.returns-in-Ok
returns-in-Ok c =
    is_taken c.args.plain c.in_ok-checked.checked c.in-Ok.claim (rw c.bytes.ensures at c.in_ok-checked.ensures) (rw c.into_vec.ensures at c.in-Ok.ensures.accepted)

pub returns : goal.returns
returns c =
    none_accepted c.args.plain c.in_ok-checked.checked c.in-Err.error (rw c.bytes.ensures at c.in_ok-checked.ensures) (rw c.into_vec.ensures at c.in-Err.ensures.accepted) c.in_default.not-NoMemory
