-- Bytes that are no witness script: programs of outputs, transactions (BIP 144) and PSBTs (BIP 174).
use Rattle.std.specs.Prelude.{ℕ, ◌+◌, ◌-◌, ◌*◌, Bool, ◌&&◌, ◌||◌, not, ◌==◌, nat_le, nat_lt, if◌then◌else◌, List, [], ◌∷◌, length, slice_index, Option, Some, None, option_map}
use Rattle.warnings.specs.Parts.{has_at}
use Rattle.warnings.specs.declared.looks.Look.{Look}
use Rattle.warnings.specs.declared.looks.Look.TheVariants.{KeyHash, ScriptHash, Key, WitnessKeyHash, WitnessScriptHash, Taproot, WitnessProgram, Transaction, Psbt}

-- DUP HASH160, a push of 20 bytes, EQUALVERIFY CHECKSIG
unfoldable pub is_key_hash : List ℕ → Bool
is_key_hash bytes = length bytes == 25 && has_at 0 (0x76 ∷ 0xa9 ∷ 0x14 ∷ []) bytes && has_at 23 (0x88 ∷ 0xac ∷ []) bytes

-- HASH160, a push of 20 bytes, EQUAL (BIP 16)
unfoldable pub is_script_hash : List ℕ → Bool
is_script_hash bytes = length bytes == 23 && has_at 0 (0xa9 ∷ 0x14 ∷ []) bytes && has_at 22 (0x87 ∷ []) bytes

-- a push of 65 bytes that begin with 04, CHECKSIG
unfoldable pub is_key : List ℕ → Bool
is_key bytes = length bytes == 67 && has_at 0 (0x41 ∷ 0x04 ∷ []) bytes && has_at 66 (0xac ∷ []) bytes

-- the version of a witness program by its first byte: 00, or 51 to 60 for 1 to 16 (BIP 141)
abbrev pub version_of : ℕ → Option ℕ
version_of b = if b == 0 then Some 0 else if nat_le 0x51 b && nat_le b 0x60 then Some (b - 0x50) else None

-- the version of a witness program, which is that byte and a push of 2 to 40 bytes (BIP 141)
unfoldable pub witness_version : List ℕ → Option ℕ
witness_version [] = None
witness_version (version ∷ []) = None
witness_version (version ∷ size ∷ payload) =
    if nat_le 2 size && nat_le size 40 && length payload == size then version_of version else None

-- a witness program by its version and its length: 20 or 32 bytes after the two at the front
unfoldable pub kind_of : ℕ → ℕ → Look
kind_of version len =
    if version == 0 && len == 22 then WitnessKeyHash
    else if version == 0 && len == 34 then WitnessScriptHash
    else if version == 1 && len == 34 then Taproot
    else WitnessProgram version

-- the program of an output
unfoldable pub program_of : List ℕ → Option Look
program_of bytes =
    if is_key_hash bytes then Some KeyHash
    else if is_script_hash bytes then Some ScriptHash
    else if is_key bytes then Some Key
    else option_map (λ version. kind_of version (length bytes)) (witness_version bytes)

-- the magic bytes of a PSBT (BIP 174)
unfoldable pub is_psbt : List ℕ → Bool
is_psbt bytes = has_at 0 (0x70 ∷ 0x73 ∷ 0x62 ∷ 0x74 ∷ 0xff ∷ []) bytes

-- at least 60 bytes, of which the first are a version from 1 to 3, little-endian, and then a number of inputs that is not 0, or marker and flag (BIP 144)
unfoldable pub is_transaction : List ℕ → Bool
is_transaction bytes =
    nat_le 60 (length bytes) && nat_le 1 (slice_index bytes 0) && nat_le (slice_index bytes 0) 3 && has_at 1 (0 ∷ 0 ∷ 0 ∷ []) bytes
    && (not (slice_index bytes 4 == 0) || has_at 4 (0 ∷ 1 ∷ []) bytes)

-- what the bytes look like
abbrev pub look_of : List ℕ → Option Look
look_of bytes = if is_psbt bytes then Some Psbt else if is_transaction bytes then Some Transaction else program_of bytes

-- the number of bytes of a length at the front that is that of all bytes after it: below 253 it is one byte, and from then on fd and two, the lower one first
unfoldable pub length_before : List ℕ → Option ℕ
length_before bytes =
    if nat_le (length bytes) 1 then None
    else if nat_lt (slice_index bytes 0) 253 && slice_index bytes 0 + 1 == length bytes then Some 1
    else if slice_index bytes 0 == 253 && slice_index bytes 1 + 256 * slice_index bytes 2 + 3 == length bytes then Some 3
    else None
