-- The table of rules where all constants are known.
use Rattle.std.specs.Prelude.{ℕ, ◌+◌, ◌*◌, ◌/◌, ◌%◌, ◌^◌, Bool, true, false, ◌&&◌, not, ◌==◌, if◌then◌else◌, List, [], ◌∷◌, length, Option, Some, None, Result, Ok, ok_or}
use Rattle.std.specs.Str.{bytes_eq}
use Rattle.digest.specs.Hash.{hash160}
use Rattle.script.specs.declared.opcode.Op.{Op}
use Rattle.script.specs.declared.num.Number.{Number as Signed}
use Rattle.script.specs.declared.limits.TheConstants.{MAX_SCRIPT_ELEMENT_SIZE}
use Rattle.script.specs.Number.{number_of, minimal_bytes_of}
use Rattle.script.specs.Token.{is_key, is_signature}
use Rattle.script.specs.Step.{◌>>=◌, result_if, truth, flag, bit_at, is_count}
use Rattle.facts.specs.Symbols.{KeySource, Fact, Sym}
use Rattle.paths.specs.declared.state.Halt.{Halt}
use Rattle.paths.specs.declared.state.Halt.TheVariants.{Dead}
use Rattle.paths.specs.Plain.{State, SymbolicJump, Condition}
use Rattle.paths.specs.Table.{Words, StepOver}
use Rattle.paths.specs.Table as table

-- the number from 0 to 520 whose minimal encoding these bytes are
abbrev pub named_size : List ℕ → Option Signed → Option ℕ
named_size b None = None
named_size b (Some z) =
    if is_count MAX_SCRIPT_ELEMENT_SIZE z && bytes_eq (minimal_bytes_of z.magnitude) b
    then Some z.magnitude else None

-- the count from 0 to a limit that bytes encode
abbrev pub count_by : ℕ → Option Signed → Result ℕ Halt
count_by limit o = ok_or o Dead >>= λ z. result_if (is_count limit z) Dead (Ok z.magnitude)

abbrev pub count_bytes : ℕ → List ℕ → Result ℕ Halt
count_bytes limit b = count_by limit (number_of 4 b)

-- the number of a lock that bytes encode
abbrev pub lock_by : Option Signed → Result ℕ Halt
lock_by o = ok_or o Dead >>= λ z. result_if (not z.negative) Dead (Ok z.magnitude)

-- the bits of a relative lock that its check reads: those of the mask 0x40ffff (BIP 112)
abbrev pub age_bits : ℕ → ℕ
age_bits n = n % 2 ^ 16 + n / 2 ^ 22 % 2 * 2 ^ 22

abbrev pub is_empty : List ℕ → Bool
is_empty [] = true
is_empty (b ∷ bs) = false

abbrev pub plain : Words (List ℕ) ℕ ℕ
plain = record {
  known = λ b. b;
  size = λ b. Ok (minimal_bytes_of (length b));
  hash = λ b. Ok (hash160 b);
  equal = λ a b. Ok (flag (bytes_eq a b));
  truth = λ b. Ok (truth b);
  is_hash = λ b. length b == 20;
  named_size = λ b. Ok (named_size b (number_of 4 b));
  is_bad_key = λ b. not (is_key b);
  is_bad_signature = λ b. not (is_signature b);
  is_bad_extra = λ b. not (length b == 0);
  is_no_signature = is_empty;
  is_clear_extra = λ b. true;
  count = count_bytes;
  lock = λ b. lock_by (number_of 5 b);
  is_off = λ n. bit_at 31 n;
  age_bits = age_bits;
}

abbrev pub pop_of : List Sym → State → Sym × State
pop_of = table.pop_of

abbrev pub pop : State → Sym × State
pop = table.pop

abbrev pub pops : ℕ → State → List Sym × State
pops = table.pops

abbrev pub push : Sym → State → State
push = table.push

abbrev pub ask : Fact → Bool → State → State
ask = table.ask

abbrev pub goes_on : State → Result (SymbolicJump × State) Halt
goes_on = table.goes_on

abbrev pub size_of : Sym → Result Sym Halt
size_of = table.size_of plain

abbrev pub hash_of : Sym → Result Sym Halt
hash_of = table.hash_of plain

abbrev pub hash_is : ℕ → List ℕ → Sym
hash_is = table.hash_is plain

abbrev pub size_by : ℕ → Option ℕ → Sym
size_by = table.size_by plain

abbrev pub size_is : ℕ → List ℕ → Sym
size_is i b = size_by i (named_size b (number_of 4 b))

abbrev pub equal_of : Sym → Sym → Result Sym Halt
equal_of = table.equal_of plain

abbrev pub condition_of : Sym → Result Condition Halt
condition_of = table.condition_of plain

abbrev pub insist : Condition → State → Result State Halt
insist = table.insist

abbrev pub branch : Bool → Condition → State → Result (SymbolicJump × State) Halt
branch = table.branch

abbrev pub is_bad_key : Sym → Bool
is_bad_key = table.is_bad_key plain

abbrev pub is_bad_signature : Sym → Bool
is_bad_signature = table.is_bad_signature plain

abbrev pub is_bad_extra : Sym → Bool
is_bad_extra = table.is_bad_extra plain

abbrev pub source_of : Sym → Result KeySource Halt
source_of = table.source_of

abbrev pub ask_key : KeySource → State → State
ask_key = table.ask_key

abbrev pub signature_rule : KeySource → Sym → State → Result State Halt
signature_rule = table.signature_rule plain

abbrev pub check_sig : Sym → Sym → State → Result State Halt
check_sig = table.check_sig plain

abbrev pub count_of : ℕ → Sym → Result ℕ Halt
count_of = table.count_of plain

abbrev pub slots_of : List Sym → Result (List ℕ) Halt
slots_of = table.slots_of

abbrev pub sources_of : List Sym → Result (List KeySource) Halt
sources_of = table.sources_of

abbrev pub ask_forms : List ℕ → State → State
ask_forms = table.ask_forms

abbrev pub ask_keys : List KeySource → State → State
ask_keys = table.ask_keys

abbrev pub ask_extra : Sym → State → Result State Halt
ask_extra = table.ask_extra plain

abbrev pub answer_of : List ℕ → List KeySource → Sym
answer_of = table.answer_of plain

abbrev pub check_sigs : List Sym → List Sym → Sym → State → Result State Halt
check_sigs = table.check_sigs plain

unfoldable pub check_multi_sig : ℕ → State → Result State Halt
check_multi_sig = table.check_multi_sig plain

abbrev pub lock_of : Sym → Result ℕ Halt
lock_of = table.lock_of plain

abbrev pub ask_age : ℕ → State → State
ask_age = table.ask_age plain

unfoldable pub rule_of : ℕ → Op → State → StepOver (List ℕ) ℕ ℕ
rule_of = table.rule_of plain
