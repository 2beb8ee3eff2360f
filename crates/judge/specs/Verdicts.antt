-- What is said of an input, by the definitions of a run.
use Rattle.std.specs.Prelude.{◌≡◌, ℕ, List, Option, Some, None, Result, Ok, Err, option_map, option_and_then}
use Rattle.script.specs.declared.opcode.Op.{Op}
use Rattle.script.specs.declared.spending.Spend.{Spend}
use Rattle.script.specs.declared.parse.ParseError.{ParseError}
use Rattle.script.specs.Step.{Elements}
use Rattle.script.specs.Spelling.{IsFault}
use Rattle.script.specs.Run.{Outcome, outcome, Clean as RunsClean, Stopped as StopsAt}
use Rattle.machine.specs.Elements.{elements_at}
use Rattle.tx.specs.declared.input.TxIn.{TxIn}
use Rattle.tx.specs.Parts.{Output}
use Rattle.tx.specs.Fields.{Transaction}
use Rattle.sighash.specs.Programs.{Given, given_of, script_ops, spend_of}
use Rattle.judge.specs.declared.verdicts.Verdict.{Verdict}
use Rattle.judge.specs.declared.verdicts.Verdict.TheVariants.{Refused, Stopped, Clean}
use Rattle.judge.specs.Meeting.{path_taken}

-- a script that is to be run, on what items, and under which spend
pub record Case : Type 0 where
  pub spend : Spend
  pub ops : List Op
  pub items : List (List ℕ)

-- how it runs, and the first listed path that its items meet
abbrev pub outcome_of : Case → Outcome
outcome_of c = outcome c.spend c.ops c.items

abbrev pub path_of : Case → Option ℕ
path_of c = path_taken c.spend c.ops c.items

abbrev pub elements_of : ℕ → Case → Option Elements
elements_of index c = elements_at c.spend c.ops c.items index

-- what an input that spends this value has to run, of a script and its items
abbrev pub case_of_given : Transaction → TxIn → ℕ → Given → Option Case
case_of_given t input value given = option_map (λ ops. record { spend = spend_of t input given.script value; ops = ops; items = given.items }) (script_ops given.script)

-- what an input that spends this output has to run; nothing where program, witness or script has no good form
unfoldable pub case_of : Transaction → TxIn → Output → Option Case
case_of t input output = option_and_then (case_of_given t input output.value) (given_of output.script input.witness)

-- bytes are read as these opcodes, or as none for this fault
abbrev pub IsParsed : List ℕ → Result (List Op) ParseError → Type 0
IsParsed bytes (Ok script) = script_ops bytes ≡ Some script
IsParsed bytes (Err error) = (script_ops bytes ≡ None) × IsFault bytes error

-- what is said of an input is so: nothing runs; the run stops there, with these elements; or it is clean, on that path; unless memory ran out
abbrev pub IsJudged : {E : Type 0} → Option Case → Result Verdict E → Type 0
IsJudged case (Err error) = Unit {0}
IsJudged case (Ok (Refused fault)) = case ≡ None
IsJudged case (Ok (Stopped s)) =
    (option_map outcome_of case ≡ Some (StopsAt s.index s.cause)) × (option_map (λ c. c.ops) case ≡ Some s.script)
    × (option_and_then (elements_of s.index) case ≡ s.stack) × (option_map (λ c. c.spend.digest) case ≡ Some s.digest)
IsJudged case (Ok (Clean c)) =
    (option_map outcome_of case ≡ Some (RunsClean c.run.counted c.run.height)) × (option_and_then path_of case ≡ c.path)
    × (option_map (λ c. c.spend.digest) case ≡ Some c.digest)
