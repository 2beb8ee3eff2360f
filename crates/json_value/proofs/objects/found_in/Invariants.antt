use Rattle.std.proofs.Common.{◌≡◌, drop}
use Rattle.serde_json.specs.Find.{get_member}
use Rattle.json_value.specs.View.{members_view}
use Rattle.json_value.proofs.objects.found_in.Given as goal

-- what is found in what is left is what is found in the whole
abbrev pub invariant-loop-index : goal.invariant-loop-index
invariant-loop-index l = get_member l.name (members_view (drop l.index l.members)) ≡ get_member l.name (members_view l.members)
