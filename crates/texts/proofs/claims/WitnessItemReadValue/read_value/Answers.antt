use Rattle.std.proofs.Common.{rules, ◌≡◌, Some}
use Rattle.json_value.specs.View.{view}
use Rattle.texts.specs.Values.{bytes_of}
use Rattle.texts.proofs.SameItems.{item_found}
use Rattle.texts.proofs.claims.WitnessItemReadValue.read_value.Goals as goal

pub returns-in-Ok : goal.returns-in-Ok
returns-in-Ok c =
    let told : bytes_of (view c.args.value.now) ≡ Some c.in_ok-bytes.bytes.items = search rules in
    let same : c.in-Ok.item.item ≡ c.in_ok-bytes.bytes.items = search rules in
    rw told (item_found c.in-Ok.item c.in_ok-bytes.bytes.items same)
