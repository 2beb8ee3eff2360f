use Rattle.std.proofs.Common.{refl, arith}
use Rattle.json_value.specs.View.{view}
use Rattle.spend.proofs.Values.{is_value, no_value}
use Rattle.spend.proofs.asking.value_in.Goals as goal

pub returns-in-Ok : goal.returns-in-Ok
returns-in-Ok c = rw (is_value c.args.bytes.now (view c.in-Ok.value) c.in-Ok.ensures.ok.0 c.in-Ok.ensures.ok.1) refl

pub returns-in-Err-NotJson : goal.returns-in-Err-NotJson
returns-in-Err-NotJson c = rw (no_value c.args.bytes.now (c.in-Err-NotJson.ensures.err (grind arith))) refl
