use Rattle.std.proofs.Common.{rules}
use Rattle.texts.specs.Claims.{claim_of}
use Rattle.texts.specs.ClaimEnds.{claim_from}
use Rattle.texts.proofs.claims.PlainClaimReadValue.read_value.Goals as goal

pub returns-in_err-end : goal.returns-in_err-end
unfolding claim_of claim_from
returns-in_err-end c =
    let h = c.in_err-end.ensures c.in_ok-path.path (record { outpoint = c.in_ok-outpoint.outpoint; value = c.in_ok-satoshis.satoshis; program = c.in_ok-program.program }) in search rules

pub returns : goal.returns
unfolding claim_of claim_from
returns c = let h = c.in_ok-end.ensures c.in_ok-path.path (record { outpoint = c.in_ok-outpoint.outpoint; value = c.in_ok-satoshis.satoshis; program = c.in_ok-program.program }) in search rules
