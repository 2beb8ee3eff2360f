-- The version 0 witness programs of outputs (BIP 141): the script that a program and a witness determine, and what it runs under.
use Rattle.std.specs.Prelude.{ℕ, zero, suc, Bool, ◌&&◌, nat_le, ◌==◌, if◌then◌else◌, List, [], ◌∷◌, ◌++◌, length, take, drop, reverse, Option, Some, None, option_map, option_and_then, map}
use Rattle.std.specs.List.{find}
use Rattle.std.specs.Str.{bytes_eq}
use Rattle.sha2.specs.Sha256.{sha256}
use Rattle.digest.specs.Hash.{sha256d, hash160}
use Rattle.script.specs.declared.opcode.Op.{Op}
use Rattle.script.specs.declared.opcode.Op.TheVariants.{Push, Number, If, NotIf, Else, EndIf, Drop, Dup, Swap, Size, Equal, EqualVerify, Hash160, CheckSig, CheckMultiSig, CheckLockTimeVerify, CheckSequenceVerify}
use Rattle.script.specs.declared.spending.Spend.{Spend}
use Rattle.script.specs.declared.limits.TheConstants.{MAX_SCRIPT_SIZE}
use Rattle.script.specs.Spelling.{code_of}
use Rattle.script.specs.Run.{Outcome, outcome}
use Rattle.tx.specs.declared.input.TxIn.{TxIn}
use Rattle.tx.specs.Parts.{Output}
use Rattle.tx.specs.Fields.{Transaction}
use Rattle.sighash.specs.Signing.{signed_list}

-- the opcodes that are one byte
abbrev pub single_ops : List Op
single_ops =
    If ∷ NotIf ∷ Else ∷ EndIf ∷ Drop ∷ Dup ∷ Swap ∷ Size ∷ Equal ∷ EqualVerify ∷ Hash160
    ∷ CheckSig ∷ CheckMultiSig ∷ CheckLockTimeVerify ∷ CheckSequenceVerify
    ∷ map Number (1 ∷ 2 ∷ 3 ∷ 4 ∷ 5 ∷ 6 ∷ 7 ∷ 8 ∷ 9 ∷ 10 ∷ 11 ∷ 12 ∷ 13 ∷ 14 ∷ 15 ∷ 16 ∷ [])

-- the opcode that consists of this byte alone
unfoldable pub single_op : ℕ → Option Op
single_op b = find (λ op. code_of op == b) single_ops

-- an opcode, followed by those of what comes after it
abbrev pub op_before : Op → Option (List Op) → Option (List Op)
op_before op ops = option_map (λ others. op ∷ others) ops

-- the opcodes that bytes split into, where they do and there are at most this many: a byte up to 75 pushes that many of the bytes after it
abbrev pub ops_within : ℕ → List ℕ → Option (List Op)
ops_within zero [] = Some []
ops_within zero (b ∷ rest) = None
ops_within (suc n) [] = Some []
ops_within (suc n) (b ∷ rest) =
    if nat_le b 75 then (if nat_le b (length rest)
    then op_before (Push (take b rest)) (ops_within n (drop b rest)) else None)
    else option_and_then (λ op. op_before op (ops_within n rest)) (single_op b)

-- the opcodes of a script; nothing where the bytes are more than 10,000 or do not split into opcodes
unfoldable pub script_ops : List ℕ → Option (List Op)
script_ops bs = if nat_le (length bs) MAX_SCRIPT_SIZE then ops_within (length bs) bs else None

-- the program of a key's hash (BIP 141, "Witness program"): version 0 and the key's HASH160
unfoldable pub key_hash_program : List ℕ → List ℕ
key_hash_program key = 0x00 ∷ 0x14 ∷ hash160 key

-- the program of a script's hash: version 0 and the script's SHA-256
unfoldable pub script_hash_program : List ℕ → List ℕ
script_hash_program script = 0x00 ∷ 0x20 ∷ sha256 script

-- version 0 and the hash of a key
abbrev pub is_key_hash_program : List ℕ → Bool
is_key_hash_program p = length p == 22 && bytes_eq (take 2 p) (0x00 ∷ 0x14 ∷ [])

-- version 0 and the hash of a script
abbrev pub is_script_hash_program : List ℕ → Bool
is_script_hash_program p = length p == 34 && bytes_eq (take 2 p) (0x00 ∷ 0x20 ∷ [])

-- DUP HASH160 hash EQUALVERIFY CHECKSIG
abbrev pub key_hash_script : List ℕ → List ℕ
key_hash_script hash = 0x76 ∷ 0xa9 ∷ 0x14 ∷ (hash ++ 0x88 ∷ 0xac ∷ [])

-- a script, which is also the script code that is signed, and the items that it is run on
pub record Given : Type 0 where
  pub script : List ℕ
  pub items : List (List ℕ)

-- the script is the last item of the witness, and has this hash
abbrev pub given_by_hash : List ℕ → List (List ℕ) → Option Given
given_by_hash hash [] = None
given_by_hash hash (script ∷ below) = if bytes_eq (sha256 script) hash
    then Some (record { script = script; items = reverse below }) else None

-- the script and items that a program and a witness determine, where the witness has the program's form
unfoldable pub given_of : List ℕ → List (List ℕ) → Option Given
given_of program witness =
    if is_key_hash_program program then (if length witness == 2
    then Some (record { script = key_hash_script (drop 2 program); items = witness }) else None)
    else if is_script_hash_program program then given_by_hash (drop 2 program) (reverse witness)
    else None

-- what a script can ask of the input that runs it (BIP 65, 68 and 112), with the digest for its script code and for the value that it spends
abbrev pub spend_of : Transaction → TxIn → List ℕ → ℕ → Spend
spend_of t i code value = let digest = sha256d (signed_list t i code value) in
    record { version = t.version; lock_time = t.lock_time; sequence = i.sequence; digest = digest }

-- the outcome of the script that spends an input, where its bytes are a script
abbrev pub run_of_given : Transaction → TxIn → ℕ → Given → Option Outcome
run_of_given t i value g =
    option_map (λ ops. outcome (spend_of t i g.script value) ops g.items) (script_ops g.script)

-- how the program of an output runs on the witness of an input; nothing where program, witness or script is malformed
unfoldable pub run_of : Transaction → TxIn → Output → Option Outcome
run_of t i o = option_and_then (run_of_given t i o.value) (given_of o.script i.witness)
