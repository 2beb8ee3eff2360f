use Rattle.std.proofs.Common.{Some, ap, ◌∙◌, arith}
use Rattle.json_value.specs.View.{view}
use Rattle.json_value.proofs.Views.{get_item_within, get_item_past}
use Rattle.json_value.proofs.objects.item_at.Goals as goal

pub returns-then-index-items : goal.returns-then-index-items
returns-then-index-items c = ap (λ v. Some (view v)) c.index-items-index.is ∙ get_item_within c.args.items.now c.args.index _ (omega arith)

pub returns-else-index-items : goal.returns-else-index-items
returns-else-index-items c = get_item_past c.args.items.now c.args.index (omega arith)
