-- The table of rules where constants may be holes of a pattern.
use Rattle.std.specs.Prelude.{ℕ, Bool, List, Option, Result}
use Rattle.script.specs.declared.opcode.Op.{Op}
use Rattle.paths.specs.declared.constants.Constant.{Constant}
use Rattle.paths.specs.declared.constants.Amount.{Amount}
use Rattle.paths.specs.declared.state.Halt.{Halt}
use Rattle.paths.specs.Holes.{KeySource, Fact, Sym, State, SymbolicJump, Condition, with_holes}
use Rattle.paths.specs.Table as table

abbrev pub pop_of : List Sym → State → Sym × State
pop_of = table.pop_of

abbrev pub pop : State → Sym × State
pop = table.pop

abbrev pub pops : ℕ → State → List Sym × State
pops = table.pops

abbrev pub push : Sym → State → State
push = table.push

abbrev pub ask : Fact → Bool → State → State
ask = table.ask

abbrev pub goes_on : State → Result (SymbolicJump × State) Halt
goes_on = table.goes_on

abbrev pub size_of : Sym → Result Sym Halt
size_of = table.size_of with_holes

abbrev pub hash_of : Sym → Result Sym Halt
hash_of = table.hash_of with_holes

abbrev pub hash_is : ℕ → Constant → Sym
hash_is = table.hash_is with_holes

abbrev pub size_by : ℕ → Option ℕ → Sym
size_by = table.size_by with_holes

abbrev pub size_is : ℕ → Constant → Result Sym Halt
size_is = table.size_is with_holes

abbrev pub equal_of : Sym → Sym → Result Sym Halt
equal_of = table.equal_of with_holes

abbrev pub condition_of : Sym → Result Condition Halt
condition_of = table.condition_of with_holes

abbrev pub insist : Condition → State → Result State Halt
insist = table.insist

abbrev pub branch : Bool → Condition → State → Result (SymbolicJump × State) Halt
branch = table.branch

abbrev pub is_bad_key : Sym → Bool
is_bad_key = table.is_bad_key with_holes

abbrev pub is_bad_signature : Sym → Bool
is_bad_signature = table.is_bad_signature with_holes

abbrev pub is_bad_extra : Sym → Bool
is_bad_extra = table.is_bad_extra with_holes

abbrev pub source_of : Sym → Result KeySource Halt
source_of = table.source_of

abbrev pub ask_key : KeySource → State → State
ask_key = table.ask_key

abbrev pub signature_rule : KeySource → Sym → State → Result State Halt
signature_rule = table.signature_rule with_holes

abbrev pub check_sig : Sym → Sym → State → Result State Halt
check_sig = table.check_sig with_holes

abbrev pub count_of : ℕ → Sym → Result ℕ Halt
count_of = table.count_of with_holes

abbrev pub slots_of : List Sym → Result (List ℕ) Halt
slots_of = table.slots_of

abbrev pub sources_of : List Sym → Result (List KeySource) Halt
sources_of = table.sources_of

abbrev pub ask_forms : List ℕ → State → State
ask_forms = table.ask_forms

abbrev pub ask_keys : List KeySource → State → State
ask_keys = table.ask_keys

abbrev pub ask_extra : Sym → State → Result State Halt
ask_extra = table.ask_extra with_holes

abbrev pub answer_of : List ℕ → List KeySource → Sym
answer_of = table.answer_of with_holes

abbrev pub check_sigs : List Sym → List Sym → Sym → State → Result State Halt
check_sigs = table.check_sigs with_holes

unfoldable pub check_multi_sig : ℕ → State → Result State Halt
check_multi_sig = table.check_multi_sig with_holes

abbrev pub lock_of : Sym → Result (Amount ℕ) Halt
lock_of = table.lock_of with_holes

abbrev pub ask_age : Amount ℕ → State → State
ask_age = table.ask_age with_holes

unfoldable pub rule_of : ℕ → Op → State → Result (SymbolicJump × State) Halt
rule_of = table.rule_of with_holes
