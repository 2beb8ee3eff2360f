use Rattle.std.proofs.Common.{◌≤◌, ◌+◌, ◌∷◌, ap, ◌∙◌, refl}
use Rattle.std.proofs.lemmas.Result.{err_from_is_err_and}
use Rattle.script.specs.Run.{op_count}
use Rattle.machine.specs.Skips.{ahead_of}
use Rattle.machine.specs.Passing.{run_state_of}
use Rattle.machine.proofs.Past.{past_many, past_halt, past_jump, past_run, leads_as}
use Rattle.machine.proofs.progress.Machine.pass.Goals as goal

pub returns-in_err-count-clause-passed : goal.returns-in_err-count-clause-passed
returns-in_err-count-clause-passed c =
    let p = err_from_is_err_and c.from_residual.result c.from_residual.ensures.1 in
    rw (p.1, p.2, c.in_err-count.ensures.0) (λ rest. past_many c.args.spend.now c.args.op.now rest (run_state_of c.args.self.now (c.args.op.now ∷ rest)) c.in_err-count.ensures.1)

pub returns-in_err-open-clause-passed : goal.returns-in_err-open-clause-passed
returns-in_err-open-clause-passed c =
    let p = err_from_is_err_and c.from_residual-in_err-open.result c.from_residual-in_err-open.ensures.1 in
    let few : c.args.self.now.counted + op_count c.args.op.now ≤ 201 = rw c.in_ok-count.ensures.0 at c.in_ok-count.ensures.1 in
    rw (p.1, p.2) (past_halt c.args.spend.now c.args.op.now (λ rest. run_state_of c.args.self.now (c.args.op.now ∷ rest)) _ _ _ (λ rest. refl) (λ rest. refl) few c.in_err-open.ensures)

pub returns-in-Some-clause-passed : goal.returns-in-Some-clause-passed
returns-in-Some-clause-passed c = λ rest.
    past_jump c.args.spend.now c.args.op.now rest (run_state_of c.args.self.now (c.args.op.now ∷ rest)) c.count.new.counted c.open.new.ifs (ahead_of c.after-self.result rest) c.in_ok-count.ensures.0 c.in_ok-count.ensures.1 c.in_ok-open.ensures (ap (λ s. ahead_of s (c.args.op.now ∷ rest)) c.in-Some.is ∙ c.after-self.ensures.jumps rest)

pub returns-in-None-clause-passed : goal.returns-in-None-clause-passed
returns-in-None-clause-passed c =
    leads_as _ _ c.run_one.new.self c.run_one.result
    (λ rest. past_run c.args.spend.now c.args.op.now rest (run_state_of c.args.self.now (c.args.op.now ∷ rest)) c.count.new.counted c.open.new.ifs c.in_ok-count.ensures.0 c.in_ok-count.ensures.1 c.in_ok-open.ensures (ap (λ s. ahead_of s (c.args.op.now ∷ rest)) c.in-None.is))
    c.run_one.ensures.run
