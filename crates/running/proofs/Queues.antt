-- Passes and the copies of a queue's ends.
use Rattle.std.proofs.Common.{◌≡◌, sym, ◌∙◌, subst}
use Rattle.crossbeam_channel.specs.Claims.{IsSeatAt}
use Rattle.crossbeam_channel.specs.Ends.{ruled_capacity}
use Rattle.jobs.specs.declared.queue.JobSender.{JobSender}
use Rattle.jobs.specs.declared.queue.JobTaker.{JobTaker}
use Rattle.jobs.specs.Ends.{JobPass, PutsWith, TakesWith, PutIntoOne, TakeFromOne, IsOneQueue}
use Rattle.node.specs.declared.work.Job.{Job}

-- a pass of the sender's queue serves a copy of its taker
pub takes_with : (s : JobSender Job) (t u : JobTaker Job) (p : JobPass Job) → IsOneQueue s t → TakeFromOne u t → PutsWith s p → TakesWith u p
takes_with s t u p one same puts = subst (λ q. IsSeatAt q p) (sym (same ∙ one)) puts.0

-- and a copy of the sender
pub puts_with : (s r : JobSender Job) (p : JobPass Job) → PutIntoOne r s → PutsWith s p → PutsWith r p
puts_with s r p same puts = subst (λ q. IsSeatAt q p × (ruled_capacity q ≡ 64)) (sym same) puts
