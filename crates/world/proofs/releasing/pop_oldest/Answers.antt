use Rattle.std.proofs.Common.{ap, ◌∙◌, drop}
use Rattle.std.proofs.lemmas.List.{drop-drop}
use Rattle.world.proofs.releasing.pop_oldest.Goals as goal

pub loop-job-preserved : goal.loop-job-preserved
loop-job-preserved c = c.pop_job.ensures ∙ ap (drop 1) c.loop-job.invariant ∙ drop-drop 1 c.loop-job._job c.args.taken.now.items
