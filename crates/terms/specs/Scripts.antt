-- The scripts of BOLT 3 ("Funding Transaction Output" and "Commitment Transaction Outputs"), as opcodes.
use Rattle.std.specs.Prelude.{ℕ, Bool, ◌==◌, nat_le, if◌then◌else◌, List, [], ◌∷◌}
use Rattle.std.specs.Ordering.{nat_cmp, is_lt}
use Rattle.std.specs.Cmp.Lexicographic.{slice_cmp}
use Rattle.script.specs.declared.opcode.Op.{Op}
use Rattle.script.specs.declared.opcode.Op.TheVariants.{Push, Number, If, NotIf, Else, EndIf, Drop, Dup, Swap, Size, Equal, EqualVerify, Hash160, CheckSig, CheckMultiSig, CheckLockTimeVerify, CheckSequenceVerify}
use Rattle.script.specs.Number.{minimal_bytes_of}

-- the push of a number that is not negative, minimally encoded
unfoldable pub number_push : ℕ → Op
number_push n =
    if n == 0 then Push [] else if nat_le n 16 then Number n else Push (minimal_bytes_of n)

-- one key is less than another, byte by byte
abbrev pub is_lesser : List ℕ → List ℕ → Bool
is_lesser a b = is_lt (slice_cmp nat_cmp a b)

-- both keys sign
abbrev pub two_of_two : List ℕ → List ℕ → List Op
two_of_two first second = Number 2 ∷ Push first ∷ Push second ∷ Number 2 ∷ CheckMultiSig ∷ []

-- the funding output: both keys sign, the lesser key first
abbrev pub funding : List ℕ → List ℕ → List Op
funding key other = if is_lesser other key then two_of_two other key else two_of_two key other

-- to_local: the revocation key, or the delayed key after the delay
abbrev pub to_local : (revocation : List ℕ) (delay_blocks : ℕ) (delayed : List ℕ) → List Op
to_local revocation delay_blocks delayed =
    If ∷ Push revocation
    ∷ Else ∷ number_push delay_blocks ∷ CheckSequenceVerify ∷ Drop ∷ Push delayed
    ∷ EndIf ∷ CheckSig ∷ []

-- to_remote: the key of this hash
abbrev pub key_hash : List ℕ → List Op
key_hash hash = Dup ∷ Hash160 ∷ Push hash ∷ EqualVerify ∷ CheckSig ∷ []

-- an offered HTLC: the revocation key; both HTLC keys, for the timeout; or the remote key with the preimage
abbrev pub offered : (revocation_hash remote local payment_hash : List ℕ) → List Op
offered revocation_hash remote local payment_hash =
    Dup ∷ Hash160 ∷ Push revocation_hash ∷ Equal
    ∷ If ∷ CheckSig
    ∷ Else ∷ Push remote ∷ Swap ∷ Size ∷ number_push 32 ∷ Equal
    ∷ NotIf ∷ Drop ∷ Number 2 ∷ Swap ∷ Push local ∷ Number 2 ∷ CheckMultiSig
    ∷ Else ∷ Hash160 ∷ Push payment_hash ∷ EqualVerify ∷ CheckSig
    ∷ EndIf ∷ EndIf ∷ []

-- a received HTLC: the revocation key; both HTLC keys with the preimage; or the remote key from a height on
abbrev pub received : (revocation_hash remote local payment_hash : List ℕ) (expiry_height : ℕ) → List Op
received revocation_hash remote local payment_hash expiry_height =
    Dup ∷ Hash160 ∷ Push revocation_hash ∷ Equal
    ∷ If ∷ CheckSig
    ∷ Else ∷ Push remote ∷ Swap ∷ Size ∷ number_push 32 ∷ Equal
    ∷ If ∷ Hash160 ∷ Push payment_hash ∷ EqualVerify
    ∷ Number 2 ∷ Swap ∷ Push local ∷ Number 2 ∷ CheckMultiSig
    ∷ Else ∷ Drop ∷ number_push expiry_height ∷ CheckLockTimeVerify ∷ Drop ∷ CheckSig
    ∷ EndIf ∷ EndIf ∷ []
