-- Opcodes, and the bytes that spell them.
use Rattle.std.specs.Prelude.{◌≡◌, ◌≢◌, ℕ, ◌+◌, ◌<◌, ◌≤◌, List, [], ◌∷◌, ◌++◌, length, drop, All}
use Rattle.script.specs.declared.opcode.Op.{Op}
use Rattle.script.specs.declared.parse.ParseError.{ParseError}
use Rattle.script.specs.declared.parse.ParseError.TheVariants.{NoMemory, BadOpcode, Truncated, TooLong}
use Rattle.script.specs.declared.opcode.Op.TheVariants.{Push, Number, If, NotIf, Else, EndIf, Drop, Dup, Swap, Size, Equal, EqualVerify, Hash160, CheckSig, CheckMultiSig, CheckLockTimeVerify, CheckSequenceVerify}
use Rattle.script.specs.declared.limits.TheConstants.{MAX_SCRIPT_SIZE}

-- the byte of an opcode, those of branches first; that of a push is its length
abbrev pub code_of : Op → ℕ
code_of If = 0x63
code_of NotIf = 0x64
code_of Else = 0x67
code_of EndIf = 0x68
code_of (Push item) = length item
code_of (Number n) = 0x50 + n
code_of Drop = 0x75
code_of Dup = 0x76
code_of Swap = 0x7c
code_of Size = 0x82
code_of Equal = 0x87
code_of EqualVerify = 0x88
code_of Hash160 = 0xa9
code_of CheckSig = 0xac
code_of CheckMultiSig = 0xae
code_of CheckLockTimeVerify = 0xb1
code_of CheckSequenceVerify = 0xb2

-- the bytes that follow the opcode's own
abbrev pub payload_of : Op → List ℕ
payload_of (Push item) = item
payload_of op = []

-- the payload is in its range
abbrev pub IsOp : Op → Type 0
IsOp (Push item) = length item ≤ 75
IsOp (Number n) = (1 ≤ n) × (n ≤ 16)
IsOp op = Unit {0}

-- the bytes of a list of opcodes, one after another
abbrev pub spelling : List Op → List ℕ
spelling [] = []
spelling (op ∷ ops) = code_of op ∷ (payload_of op ++ spelling ops)

-- the bytes split into these opcodes
pub record Spells (ops : List Op) (bytes : List ℕ) : Type 0 where
  pub each : All IsOp ops
  pub same : spelling ops ≡ bytes

-- no opcode begins with this byte
abbrev pub StartsNone : ℕ → Type 0
StartsNone b = (op : Op) → IsOp op → code_of op ≢ b

-- the bytes before `at` split into opcodes, and `rest` is what follows them
pub record SplitsUpTo (bytes : List ℕ) (at : ℕ) (rest : List ℕ) : Type 0 where
  pub ops : List Op
  pub each : All IsOp ops
  pub same : spelling ops ++ rest ≡ bytes
  pub place : length (spelling ops) ≡ at

-- the byte at `at` is the first that does not begin an opcode
abbrev pub HasBadOpcode : List ℕ → ℕ → Type 0
HasBadOpcode bytes at = (b : ℕ) × (rest : List ℕ) × SplitsUpTo bytes at (b ∷ rest) × StartsNone b

-- the push at `at` is the first with bytes missing
abbrev pub HasShortPush : List ℕ → ℕ → Type 0
HasShortPush bytes at = (b : ℕ) × (rest : List ℕ) × SplitsUpTo bytes at (b ∷ rest) × (b ≤ 75) × (length rest < b)

-- the bytes have this fault: there are more than 10,000, or else it is the first fault from the
-- left
abbrev pub IsFault : List ℕ → ParseError → Type 0
IsFault bytes NoMemory = Unit {0}
IsFault bytes (BadOpcode at) = (length bytes ≤ MAX_SCRIPT_SIZE) × HasBadOpcode bytes at
IsFault bytes (Truncated at) = (length bytes ≤ MAX_SCRIPT_SIZE) × HasShortPush bytes at
IsFault bytes TooLong = MAX_SCRIPT_SIZE < length bytes

-- the opcode begins with this byte and continues in these
pub record Begins (first : ℕ) (after : List ℕ) (op : Op) : Type 0 where
  pub valid : IsOp op
  pub byte : code_of op ≡ first
  pub payload : payload_of op ++ drop (length (payload_of op)) after ≡ after

-- no opcode begins so, and the fault is at this position
abbrev pub Refuses : ℕ → List ℕ → ℕ → ParseError → Type 0
Refuses first after at NoMemory = Unit {0}
Refuses first after at (BadOpcode k) = (k ≡ at) × StartsNone first
Refuses first after at (Truncated k) = (k ≡ at) × (first ≤ 75) × (length after < first)
Refuses first after at TooLong = ⊥
