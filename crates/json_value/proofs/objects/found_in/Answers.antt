use Rattle.std.proofs.Common.{sym, ◌∙◌, arith}
use Rattle.json_value.proofs.Views.{found_at, passed_at}
use Rattle.json_value.proofs.objects.found_in.Goals as goal

pub returns-then-is_named : goal.returns-then-is_named
returns-then-is_named c =
    sym (found_at c.args.name.now c.args.members.now c.loop-index.index _ _ (omega arith) c.index-members-index.is (sym c.if-is_named.ensures))
    ∙ c.loop-index.invariant

pub loop-index-preserved : goal.loop-index-preserved
loop-index-preserved c =
    sym (passed_at c.args.name.now c.args.members.now c.loop-index.index _ _ (omega arith) c.index-members-index.is (sym c.if-is_named.ensures))
    ∙ c.loop-index.invariant
