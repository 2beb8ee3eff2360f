use Rattle.enforce_c.proofs.Spelled.{large_joined}
use Rattle.enforce_c.proofs.script_bytes.number_push.Goals as goal

pub returns : goal.returns
returns c = large_joined c.joined-2.result c.args.n _ _ _ _ c.if-n-eq0.false c.if-n-le16.false c.from.ensures c.in_ok-item.ensures.item c.bytes.ensures c.len.ensures c.joined-2.ensures
