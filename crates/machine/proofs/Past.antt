-- One opcode is passed: the steps of the definition.
use Rattle.std.proofs.Common.{◌≡◌, ℕ, suc, ◌+◌, ◌<◌, ◌≤◌, Bool, true, false, List, Result, Ok, Err, leb, ap, ◌∙◌, refl}
use Rattle.std.proofs.lemmas.Bool.{le-leb, lt-leb}
use Rattle.script.specs.declared.opcode.Op.{Op}
use Rattle.script.specs.declared.spending.Spend.{Spend}
use Rattle.script.specs.declared.stops.Cause.{Cause}
use Rattle.script.specs.declared.stops.Cause.TheVariants.{TooManyOps}
use Rattle.script.specs.Step.{effect, result_if, ◌>>=◌}
use Rattle.script.specs.Run.{RunState, op_count, open_ifs_after, state_after_effect, state_after_skip_or_run, state_after}
use Rattle.machine.specs.declared.halts.Halt.{Halt}
use Rattle.machine.specs.declared.halts.Halt.TheVariants.{NoMemory, Stop}
use Rattle.machine.specs.Doings.{IfStop}
use Rattle.machine.specs.declared.progress.Machine.{Machine}
use Rattle.machine.specs.Passing.{ReachesState}

pub result_if-true : {A E : Type 0} (b : Bool) (c : E) (r : Result A E) → b ≡ true → result_if b c r ≡ r
result_if-true true c r e = refl
result_if-true false c r e = absurd (cc)

pub result_if-false : {A E : Type 0} (b : Bool) (c : E) (r : Result A E) → b ≡ false → result_if b c r ≡ Err c
result_if-false true c r e = absurd (cc)
result_if-false false c r e = refl

module _ (spend : Spend) (op : Op) (rest : List Op) (p : RunState) where
  pub past_many : 201 < p.counted + op_count op → state_after spend op rest p ≡ Err TooManyOps
  unfolding state_after
  past_many l = result_if-false (leb (p.counted + op_count op) 201) TooManyOps _ (lt-leb _ 201 l)

  past_few : p.counted + op_count op ≤ 201 → state_after spend op rest p ≡ (open_ifs_after op p.open_ifs >>= state_after_skip_or_run spend op rest p.ahead p (p.counted + op_count op))
  unfolding state_after
  past_few l = result_if-true (leb (p.counted + op_count op) 201) TooManyOps _ (le-leb _ 201 l)

  past_refused : (c : Cause) → p.counted + op_count op ≤ 201 → open_ifs_after op p.open_ifs ≡ Err c → state_after spend op rest p ≡ Err c
  past_refused c l e = past_few l ∙ ap (λ o. o >>= state_after_skip_or_run spend op rest p.ahead p (p.counted + op_count op)) e

  past_open : (ifs : List Bool) → p.counted + op_count op ≤ 201 → open_ifs_after op p.open_ifs ≡ Ok ifs → state_after spend op rest p ≡ state_after_skip_or_run spend op rest p.ahead p (p.counted + op_count op) ifs
  past_open ifs l e = past_few l ∙ ap (λ o. o >>= state_after_skip_or_run spend op rest p.ahead p (p.counted + op_count op)) e

  pub past_run : (counted : ℕ) (ifs : List Bool) → counted ≡ p.counted + op_count op → counted ≤ 201 → open_ifs_after op p.open_ifs ≡ Ok ifs → p.ahead ≡ 0 → state_after spend op rest p ≡ (effect spend counted op p.stack >>= state_after_effect rest counted ifs p.height)
  past_run counted ifs f l e z = rw f (past_open ifs (rw f at l) e ∙ ap (λ a. state_after_skip_or_run spend op rest a p (p.counted + op_count op) ifs) z)

  pub past_jump : (counted : ℕ) (ifs : List Bool) (a : ℕ) → counted ≡ p.counted + op_count op → counted ≤ 201 → open_ifs_after op p.open_ifs ≡ Ok ifs → p.ahead ≡ suc a → state_after spend op rest p ≡ Ok (record { ahead = a; stack = p.stack; counted = counted; open_ifs = ifs; height = p.height })
  past_jump counted ifs a f l e z = rw f (past_open ifs (rw f at l) e ∙ ap (λ b. state_after_skip_or_run spend op rest b p (p.counted + op_count op) ifs) z)

-- refused for the branches, unless memory ran out
pub past_halt : (spend : Spend) (op : Op) (place : List Op → RunState) (counted : ℕ) (ifs : List Bool) (h : Halt) → ((rest : List Op) → (place rest).counted ≡ counted) → ((rest : List Op) → (place rest).open_ifs ≡ ifs) → counted + op_count op ≤ 201 → IfStop h (λ c. open_ifs_after op ifs ≡ Err c) → IfStop h (λ c. (rest : List Op) → state_after spend op rest (place rest) ≡ Err c)
past_halt spend op place counted ifs NoMemory e f l h = tt
past_halt spend op place counted ifs (Stop c) e f l h = λ rest. past_refused spend op rest (place rest) c (rw (e rest) l) (rw (f rest) h)

if_stop : (h : Halt) (next next' : List Op → Result RunState Cause) → ((rest : List Op) → next' rest ≡ next rest) → IfStop h (λ c. (rest : List Op) → next rest ≡ Err c) → IfStop h (λ c. (rest : List Op) → next' rest ≡ Err c)
if_stop NoMemory next next' e h = tt
if_stop (Stop c) next next' e h = λ rest. e rest ∙ h rest

-- equal states lead to equal results
pub leads_as : (next next' : List Op → Result RunState Cause) (new : Machine) (r : Result (Unit {0}) Halt) → ((rest : List Op) → next' rest ≡ next rest) → ReachesState next new r → ReachesState next' new r
leads_as next next' new (Ok u) e h = λ rest. e rest ∙ h rest
leads_as next next' new (Err halt) e h = if_stop halt next next' e h
