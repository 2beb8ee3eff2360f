use Rattle.claim.proofs.OpcodesRead.{reads}
use Rattle.plain_claims.proofs.Taking.{none_read}
use Rattle.plain_claims.proofs.accepting.script_of.Goals as goal

pub returns-in-Ok : goal.returns-in-Ok
returns-in-Ok c = reads c.in-Ok.script c.args.bytes.now c.in-Ok.ensures.ok c.in-Ok.ensures.short

pub returns-in_default : goal.returns-in_default
returns-in_default c = none_read c.args.bytes.now c.in-Err.error c.in-Err.ensures.fault c.in_default.not-NoMemory
