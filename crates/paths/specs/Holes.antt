-- Constants that may be holes of a pattern: what the rules ask of them, and what replaces the holes once the pattern is filled.
use Rattle.std.specs.Prelude.{ℕ, Bool, true, false, ◌&&◌, not, nat_lt, ◌==◌, if◌then◌else◌, List, [], ◌∷◌, length, Option, Some, None, Result, Ok, Err, slice_index_or}
use Rattle.script.specs.declared.opcode.Op.{Op}
use Rattle.script.specs.declared.opcode.Op.TheVariants.{Push, Number as SmallNumber}
use Rattle.script.specs.declared.num.Number.{Number as Signed}
use Rattle.script.specs.declared.limits.TheConstants.{LOCKTIME_THRESHOLD}
use Rattle.script.specs.Number.{number_of, minimal_bytes_of}
use Rattle.script.specs.Token.{is_key}
use Rattle.script.specs.Step.{◌>>=◌}
use Rattle.facts.specs.declared.symbols.KeySourceOver.{KeySourceOver}
use Rattle.facts.specs.declared.symbols.FactOver.{FactOver}
use Rattle.facts.specs.declared.symbols.StatedOver.{StatedOver}
use Rattle.facts.specs.declared.symbols.SymOver.{SymOver}
use Rattle.paths.specs.declared.constants.HoleKind.{HoleKind}
use Rattle.paths.specs.declared.constants.HoleKind.TheVariants.{Key, Hash, Number}
use Rattle.paths.specs.declared.constants.Constant.{Constant}
use Rattle.paths.specs.declared.constants.Constant.TheVariants.{Known, Hole}
use Rattle.paths.specs.declared.constants.Amount.{Amount}
use Rattle.paths.specs.declared.constants.Amount.TheVariants.{Known as KnownAmount, Hole as AmountHole}
use Rattle.paths.specs.declared.constants.TheConstants.{BLANK_KEY, BLANK_HASH}
use Rattle.paths.specs.declared.state.StateOver.{StateOver}
use Rattle.paths.specs.declared.state.SymbolicJumpOver.{SymbolicJumpOver}
use Rattle.paths.specs.declared.state.ConditionOver.{ConditionOver}
use Rattle.paths.specs.declared.state.ListedOver.{ListedOver}
use Rattle.paths.specs.declared.state.PatternPath.{PatternPath}
use Rattle.paths.specs.declared.state.Halt.{Halt}
use Rattle.paths.specs.declared.state.Halt.TheVariants.{Dead, Undecided}
use Rattle.paths.specs.Table.{Words}
use Rattle.paths.specs.Rules.{plain, age_bits}
use Rattle.paths.specs.Maps.{Replacing}

abbrev pub KeySource : Type 0
KeySource = KeySourceOver Constant

abbrev pub Fact : Type 0
Fact = FactOver Constant (Amount ℕ) (Amount ℕ)

abbrev pub Stated : Type 0
Stated = StatedOver Constant (Amount ℕ) (Amount ℕ)

abbrev pub Sym : Type 0
Sym = SymOver Constant (Amount ℕ) (Amount ℕ)

abbrev pub State : Type 0
State = StateOver Constant (Amount ℕ) (Amount ℕ)

abbrev pub SymbolicJump : Type 0
SymbolicJump = SymbolicJumpOver Constant (Amount ℕ) (Amount ℕ)

abbrev pub Condition : Type 0
Condition = ConditionOver Constant (Amount ℕ) (Amount ℕ)

abbrev pub Listed : Type 0
Listed = ListedOver PatternPath

-- SIZE: the lengths of a key and of a hash are known
abbrev pub size_in : Constant → Result Constant Halt
size_in (Known b) = plain.size b >>= λ d. Ok (Known d)
size_in (Hole Key at) = Ok (Known (minimal_bytes_of 33))
size_in (Hole Hash at) = Ok (Known (minimal_bytes_of 20))
size_in (Hole Number at) = Err Undecided

abbrev pub hash_in : Constant → Result Constant Halt
hash_in (Known b) = plain.hash b >>= λ d. Ok (Known d)
hash_in (Hole kind at) = Err Undecided

abbrev pub equal_in : Constant → Constant → Result Constant Halt
equal_in (Known a) (Known b) = plain.equal a b >>= λ d. Ok (Known d)
equal_in c d = Err Undecided

abbrev pub truth_in : Constant → Result Bool Halt
truth_in (Known b) = plain.truth b
truth_in (Hole kind at) = Err Undecided

-- a hash hole may be what HASH160 gives
abbrev pub is_hash_in : Constant → Bool
is_hash_in (Known b) = plain.is_hash b
is_hash_in (Hole Hash at) = true
is_hash_in (Hole kind at) = false

-- a key and a hash are too long for a number
abbrev pub named_size_in : Constant → Result (Option ℕ) Halt
named_size_in (Known b) = plain.named_size b
named_size_in (Hole Number at) = Err Undecided
named_size_in (Hole kind at) = Ok None

abbrev pub is_bad_key_in : Constant → Bool
is_bad_key_in (Known b) = plain.is_bad_key b
is_bad_key_in (Hole Key at) = false
is_bad_key_in (Hole kind at) = true

-- a key and a hash are neither empty nor a token; a number may be empty
abbrev pub is_bad_signature_in : Constant → Bool
is_bad_signature_in (Known b) = plain.is_bad_signature b
is_bad_signature_in (Hole Number at) = false
is_bad_signature_in (Hole kind at) = true

abbrev pub is_bad_extra_in : Constant → Bool
is_bad_extra_in (Known b) = plain.is_bad_extra b
is_bad_extra_in (Hole Number at) = false
is_bad_extra_in (Hole kind at) = true

abbrev pub is_no_signature_in : Constant → Bool
is_no_signature_in (Known b) = plain.is_no_signature b
is_no_signature_in (Hole kind at) = false

abbrev pub is_clear_extra_in : Constant → Bool
is_clear_extra_in (Known b) = plain.is_clear_extra b
is_clear_extra_in (Hole Number at) = false
is_clear_extra_in (Hole kind at) = true

abbrev pub count_in : ℕ → Constant → Result ℕ Halt
count_in limit (Known b) = plain.count limit b
count_in limit (Hole Number at) = Err Undecided
count_in limit (Hole kind at) = Err Dead

-- any number that fills a number hole is a lock
abbrev pub lock_in : Constant → Result (Amount ℕ) Halt
lock_in (Known b) = plain.lock b >>= λ n. Ok (KnownAmount n)
lock_in (Hole Number at) = Ok (AmountHole at)
lock_in (Hole kind at) = Err Dead

-- a number below 500,000,000 has bit 31 clear
abbrev pub is_off_in : Amount ℕ → Bool
is_off_in (KnownAmount n) = plain.is_off n
is_off_in (AmountHole at) = false

abbrev pub age_bits_in : Amount ℕ → Amount ℕ
age_bits_in (KnownAmount n) = KnownAmount (plain.age_bits n)
age_bits_in (AmountHole at) = AmountHole at

abbrev pub with_holes : Words Constant (Amount ℕ) (Amount ℕ)
with_holes = record {
  known = Known;
  size = size_in;
  hash = hash_in;
  equal = equal_in;
  truth = truth_in;
  is_hash = is_hash_in;
  named_size = named_size_in;
  is_bad_key = is_bad_key_in;
  is_bad_signature = is_bad_signature_in;
  is_bad_extra = is_bad_extra_in;
  is_no_signature = is_no_signature_in;
  is_clear_extra = is_clear_extra_in;
  count = count_in;
  lock = lock_in;
  is_off = is_off_in;
  age_bits = age_bits_in;
}

-- what an opcode pushes
abbrev pub pushed_by : Op → List ℕ
pushed_by (Push item) = item
pushed_by (SmallNumber n) = n ∷ []
pushed_by op = []

-- a number from 0 to 499,999,999
abbrev pub is_low_number : Option Signed → Bool
is_low_number None = false
is_low_number (Some z) = not z.negative && nat_lt z.magnitude LOCKTIME_THRESHOLD

-- a hole takes these bytes
unfoldable pub fits : HoleKind → List ℕ → Bool
fits Key b = is_key b
fits Hash b = length b == 20
fits Number b = is_low_number (number_of 5 b)

-- default bytes that fit the hole
abbrev pub blank : HoleKind → List ℕ
blank Key = BLANK_KEY
blank Hash = BLANK_HASH
blank Number = []

-- what the opcode at a position pushes
abbrev pub pushed_at : List Op → ℕ → List ℕ
pushed_at ops at = pushed_by (slice_index_or ops at (Push []))

-- what replaces a hole: what the filled script pushes there if it fits, else the default
abbrev pub hole_bytes : List Op → HoleKind → ℕ → List ℕ
hole_bytes ops kind at = if fits kind (pushed_at ops at) then pushed_at ops at else blank kind

abbrev pub magnitude_in : Option Signed → ℕ
magnitude_in None = 0
magnitude_in (Some z) = z.magnitude

abbrev pub hole_number : List Op → ℕ → ℕ
hole_number ops at = magnitude_in (number_of 5 (hole_bytes ops Number at))

abbrev pub bytes_by : List Op → Constant → List ℕ
bytes_by ops (Known b) = b
bytes_by ops (Hole kind at) = hole_bytes ops kind at

abbrev pub lock_by : List Op → Amount ℕ → ℕ
lock_by ops (KnownAmount n) = n
lock_by ops (AmountHole at) = hole_number ops at

abbrev pub age_by : List Op → Amount ℕ → ℕ
age_by ops (KnownAmount n) = n
age_by ops (AmountHole at) = age_bits (hole_number ops at)

abbrev pub filling : List Op → Replacing Constant (Amount ℕ) (Amount ℕ) (List ℕ) ℕ ℕ
filling ops = record { bytes = bytes_by ops; lock = lock_by ops; age = age_by ops }
