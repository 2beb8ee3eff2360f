-- The scripts of HTLCs in a channel with anchors (BOLT 3, "Offered HTLC Outputs" and "Received HTLC Outputs", `option_anchors`), as opcodes.
use Rattle.std.specs.Prelude.{ℕ, List, [], ◌∷◌}
use Rattle.script.specs.declared.opcode.Op.{Op}
use Rattle.script.specs.declared.opcode.Op.TheVariants.{Push, Number, If, NotIf, Else, EndIf, Drop, Dup, Swap, Size, Equal, EqualVerify, Hash160, CheckSig, CheckMultiSig, CheckLockTimeVerify, CheckSequenceVerify}
use Rattle.terms.specs.Scripts.{number_push}

-- an offered HTLC: the revocation key; or, after one block, both HTLC keys, for the timeout, or the remote key with the preimage
abbrev pub offered_with_anchors : (revocation_hash remote local payment_hash : List ℕ) → List Op
offered_with_anchors revocation_hash remote local payment_hash =
    Dup ∷ Hash160 ∷ Push revocation_hash ∷ Equal
    ∷ If ∷ CheckSig
    ∷ Else ∷ Push remote ∷ Swap ∷ Size ∷ number_push 32 ∷ Equal
    ∷ NotIf ∷ Drop ∷ Number 2 ∷ Swap ∷ Push local ∷ Number 2 ∷ CheckMultiSig
    ∷ Else ∷ Hash160 ∷ Push payment_hash ∷ EqualVerify ∷ CheckSig
    ∷ EndIf ∷ Number 1 ∷ CheckSequenceVerify ∷ Drop
    ∷ EndIf ∷ []

-- a received HTLC: the revocation key; or, after one block, both HTLC keys with the preimage, or the remote key from a height on
abbrev pub received_with_anchors : (revocation_hash remote local payment_hash : List ℕ)
    (expiry_height : ℕ) → List Op
received_with_anchors revocation_hash remote local payment_hash expiry_height =
    Dup ∷ Hash160 ∷ Push revocation_hash ∷ Equal
    ∷ If ∷ CheckSig
    ∷ Else ∷ Push remote ∷ Swap ∷ Size ∷ number_push 32 ∷ Equal
    ∷ If ∷ Hash160 ∷ Push payment_hash ∷ EqualVerify
    ∷ Number 2 ∷ Swap ∷ Push local ∷ Number 2 ∷ CheckMultiSig
    ∷ Else ∷ Drop ∷ number_push expiry_height ∷ CheckLockTimeVerify ∷ Drop ∷ CheckSig
    ∷ EndIf ∷ Number 1 ∷ CheckSequenceVerify ∷ Drop
    ∷ EndIf ∷ []
