-- The scripts as patterns: their opcodes, with holes for keys, hashes and numbers.
use Rattle.std.specs.Prelude.{List, [], ◌∷◌, ◌++◌}
use Rattle.script.specs.declared.opcode.Op.TheVariants.{Number, If, NotIf, Else, EndIf, Drop, Swap, EqualVerify, Hash160, CheckSig, CheckMultiSig, CheckLockTimeVerify, CheckSequenceVerify}
use Rattle.paths.specs.declared.pieces.Piece.{Piece}
use Rattle.paths.specs.declared.pieces.Piece.TheVariants.{Op as Code, KeyHole, HashHole, NumHole}
use Rattle.forms.specs.Pieces.{htlc_beginning_pieces}

-- both branches end here, and wait for one block
abbrev pub block_pieces : List Piece
block_pieces =
    Code EndIf ∷ Code (Number 1) ∷ Code CheckSequenceVerify ∷ Code Drop ∷ Code EndIf ∷ []

abbrev pub offered_with_anchors_pieces : List Piece
offered_with_anchors_pieces =
    htlc_beginning_pieces ++ (Code NotIf
    ∷ Code Drop ∷ Code (Number 2) ∷ Code Swap ∷ KeyHole ∷ Code (Number 2) ∷ Code CheckMultiSig
    ∷ Code Else
    ∷ Code Hash160 ∷ HashHole ∷ Code EqualVerify
    ∷ Code CheckSig
    ∷ block_pieces)

abbrev pub received_with_anchors_pieces : List Piece
received_with_anchors_pieces =
    htlc_beginning_pieces ++ (Code If
    ∷ Code Hash160 ∷ HashHole ∷ Code EqualVerify
    ∷ Code (Number 2) ∷ Code Swap ∷ KeyHole ∷ Code (Number 2) ∷ Code CheckMultiSig
    ∷ Code Else
    ∷ Code Drop ∷ NumHole ∷ Code CheckLockTimeVerify ∷ Code Drop
    ∷ Code CheckSig
    ∷ block_pieces)
