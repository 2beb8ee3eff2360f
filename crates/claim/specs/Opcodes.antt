-- The opcodes that bytes spell, read from the left (BIP 141's witness scripts).
use Rattle.std.specs.Prelude.{ℕ, zero, suc, ◌-◌, ◌==◌, ◌&&◌, nat_le, nat_lt, if◌then◌else◌, List, [], ◌∷◌, length, take, drop, Option, Some, None}
use Rattle.script.specs.declared.opcode.Op.{Op}
use Rattle.script.specs.declared.opcode.Op.TheVariants.{Push, Number, If, NotIf, Else, EndIf, Drop, Dup, Swap, Size, Equal, EqualVerify, Hash160, CheckSig, CheckMultiSig, CheckLockTimeVerify, CheckSequenceVerify}
use Rattle.script.specs.declared.limits.TheConstants.{MAX_SCRIPT_SIZE}
use Rattle.script.specs.Spelling.{code_of, payload_of}

-- the second step, if the first one gave a value
infixl 10 ◌>>=◌
abbrev pub ◌>>=◌ : {A B : Type 0} → Option A → (A → Option B) → Option B
(Some x) >>= f = f x
None >>= f = None

-- the opcodes without a payload
abbrev pub bare_ops : List Op
bare_ops =
    If ∷ NotIf ∷ Else ∷ EndIf ∷ Drop ∷ Dup ∷ Swap ∷ Size ∷ Equal ∷ EqualVerify ∷ Hash160 ∷ CheckSig ∷ CheckMultiSig ∷ CheckLockTimeVerify ∷ CheckSequenceVerify ∷ []

-- the one with this byte
abbrev pub with_code : ℕ → List Op → Option Op
with_code b [] = None
with_code b (op ∷ ops) = if code_of op == b then Some op else with_code b ops

-- the opcode that begins with a byte, followed by these bytes
abbrev pub op_at : ℕ → List ℕ → Option Op
op_at b rest =
    if nat_le b 75 then (if nat_le b (length rest) then Some (Push (take b rest)) else None)
    else if nat_lt 0x50 b && nat_le b 0x60 then Some (Number (b - 0x50))
    else with_code b bare_ops

-- the opcodes that bytes spell, with at most this number of opcodes
unfoldable pub ops_in : ℕ → List ℕ → Option (List Op)
ops_in zero [] = Some []
ops_in zero (b ∷ rest) = None
ops_in (suc n) [] = Some []
ops_in (suc n) (b ∷ rest) = do
  op ← op_at b rest
  ops ← ops_in n (drop (length (payload_of op)) rest)
  Some (op ∷ ops)

-- the opcodes of a script, which has at most 10,000 bytes
unfoldable pub ops_of : List ℕ → Option (List Op)
ops_of bytes = if nat_le (length bytes) MAX_SCRIPT_SIZE then ops_in (length bytes) bytes else None
