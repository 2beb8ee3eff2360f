-- The scripts as patterns: their opcodes, with holes for keys, hashes and numbers.
use Rattle.std.specs.Prelude.{Bool, List, [], ◌∷◌, ◌++◌, is_ok, is_some}
use Rattle.script.specs.declared.opcode.Op.TheVariants.{Push, Number, If, NotIf, Else, EndIf, Drop, Dup, Swap, Size, Equal, EqualVerify, Hash160, CheckSig, CheckMultiSig, CheckLockTimeVerify, CheckSequenceVerify}
use Rattle.paths.specs.declared.pieces.Piece.{Piece}
use Rattle.paths.specs.declared.pieces.Piece.TheVariants.{Op as Code, KeyHole, HashHole, NumHole}
use Rattle.paths.specs.declared.pieces.Fill.{Fill}
use Rattle.paths.specs.Patterns.{pattern_of, filled}

abbrev pub two_of_two_pieces : List Piece
two_of_two_pieces = Code (Number 2) ∷ KeyHole ∷ KeyHole ∷ Code (Number 2) ∷ Code CheckMultiSig ∷ []

abbrev pub to_local_pieces : List Piece
to_local_pieces = Code If ∷ KeyHole ∷ Code Else ∷ NumHole ∷ Code CheckSequenceVerify ∷ Code Drop ∷ KeyHole ∷ Code EndIf ∷ Code CheckSig ∷ []

abbrev pub key_hash_pieces : List Piece
key_hash_pieces = Code Dup ∷ Code Hash160 ∷ HashHole ∷ Code EqualVerify ∷ Code CheckSig ∷ []

-- the beginning of an HTLC's script
abbrev pub htlc_beginning_pieces : List Piece
htlc_beginning_pieces =
    Code Dup ∷ Code Hash160 ∷ HashHole ∷ Code Equal
    ∷ Code If
    ∷ Code CheckSig
    ∷ Code Else
    ∷ KeyHole ∷ Code Swap ∷ Code Size ∷ Code (Push (32 ∷ [])) ∷ Code Equal ∷ []

abbrev pub offered_pieces : List Piece
offered_pieces =
    htlc_beginning_pieces ++ (Code NotIf
    ∷ Code Drop ∷ Code (Number 2) ∷ Code Swap ∷ KeyHole ∷ Code (Number 2) ∷ Code CheckMultiSig
    ∷ Code Else
    ∷ Code Hash160 ∷ HashHole ∷ Code EqualVerify
    ∷ Code CheckSig
    ∷ Code EndIf
    ∷ Code EndIf ∷ [])

abbrev pub received_pieces : List Piece
received_pieces =
    htlc_beginning_pieces ++ (Code If
    ∷ Code Hash160 ∷ HashHole ∷ Code EqualVerify
    ∷ Code (Number 2) ∷ Code Swap ∷ KeyHole ∷ Code (Number 2) ∷ Code CheckMultiSig
    ∷ Code Else
    ∷ Code Drop ∷ NumHole ∷ Code CheckLockTimeVerify ∷ Code Drop
    ∷ Code CheckSig
    ∷ Code EndIf
    ∷ Code EndIf ∷ [])

-- a pattern's ways are listed
abbrev pub is_listed : List Piece → Bool
is_listed pieces = is_ok (pattern_of pieces)

-- a pattern's holes take these fills
abbrev pub are_taken : List Piece → List Fill → Bool
are_taken pieces fills = is_some (filled pieces fills)
