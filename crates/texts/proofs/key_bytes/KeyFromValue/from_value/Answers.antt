use Rattle.std.proofs.Common.{rules, ◌≡◌, Some}
use Rattle.json_value.specs.View.{view}
use Rattle.texts.specs.Values.{bytes_of_len}
use Rattle.texts.proofs.SameKeys.{key_is}
use Rattle.texts.proofs.key_bytes.KeyFromValue.from_value.Goals as goal

pub returns : goal.returns
returns c =
    let told : bytes_of_len 33 (view c.args.value.now) ≡ Some c.in_ok-bytes.bytes = search rules in
    rw told (key_is c.read.result c.in_ok-bytes.bytes c.read.ensures.some c.read.ensures.none)
