-- The listings of small patterns, and what fills them, by computing.
use Rattle.std.proofs.Common.{◌≡◌, ℕ, true, false, Bool, List, [], ◌∷◌, ◌++◌, map, Some, None, Ok, Err, replicate, refl}
use Rattle.std.specs.Prelude.{Option, Result}
use Rattle.script.specs.declared.opcode.Op.{Op}
use Rattle.script.specs.declared.opcode.Op.TheVariants.{Push, Number, If, NotIf, Else, EndIf, Drop, Dup, Swap, Size, Equal, EqualVerify, Hash160, CheckSig, CheckMultiSig, CheckLockTimeVerify, CheckSequenceVerify}
use Rattle.script.specs.Token.{is_key, is_signature, is_token}
use Rattle.script.specs.Number.{number_of, minimal_bytes_of, digits}
use Rattle.facts.specs.declared.symbols.KeySourceOver.TheVariants.{Const as FixedKey}
use Rattle.facts.specs.declared.symbols.FactOver.TheVariants.{Hash as HashIs, Truth, Is, Form, Token, Lock, Age}
use Rattle.paths.specs.declared.constants.HoleKind.TheVariants.{Key as ForKey, Hash as ForHash, Number as ForNumber}
use Rattle.paths.specs.declared.constants.Constant.TheVariants.{Known, Hole}
use Rattle.paths.specs.declared.constants.Amount.TheVariants.{Hole as AmountHole}
use Rattle.paths.specs.declared.errors.CheckError.TheVariants.{OpenBranch, Undecided}
use Rattle.paths.specs.declared.pieces.Piece.{Piece}
use Rattle.paths.specs.declared.pieces.Piece.TheVariants.{Op as Fixed, KeyHole, HashHole, NumHole}
use Rattle.paths.specs.declared.pieces.Fill.{Fill}
use Rattle.paths.specs.declared.pieces.Fill.TheVariants.{Key, Hash, Num}
use Rattle.paths.specs.declared.pieces.PatternError.{PatternError}
use Rattle.paths.specs.declared.pieces.PatternError.TheVariants.{Check, TooLong, BadOpcode}
use Rattle.paths.specs.declared.state.Path.{Path}
use Rattle.paths.specs.declared.state.PatternPath.{PatternPath}
use Rattle.paths.specs.Holes.{Fact, Stated, fits}
use Rattle.paths.specs.HoleRules.{rule_of, check_multi_sig}
use Rattle.paths.specs.HoleListing.{pattern_listing}
use Rattle.paths.specs.Filling.{filled_path}
use Rattle.paths.specs.Patterns.{pattern_of, filled}

abbrev yes : Fact → Stated
yes f = record { fact = f; holds = true }

abbrev no : Fact → Stated
no f = record { fact = f; holds = false }

-- a hole, and then these opcodes
abbrev after : Piece → List Op → List Piece
after hole ops = hole ∷ map Fixed ops

abbrev undecided_at : ℕ → Result (List PatternPath) PatternError
undecided_at at = Err (Check (Undecided at))

-- a path that asks for nothing
abbrev free : (arity ops height : ℕ) → PatternPath
free arity ops height = record { arity = arity; facts = []; ops = ops; height = height }

-- a rule that needs the value of a hole: a branch, the end, a comparison, a hash, a size, a count, an extra item
needed :
    map pattern_of (after NumHole (If ∷ Number 1 ∷ EndIf ∷ []) ∷ after KeyHole (NotIf ∷ Number 1 ∷ EndIf ∷ []) ∷ after HashHole [] ∷ after HashHole (Push (replicate 20 1) ∷ Equal ∷ []) ∷ (KeyHole ∷ KeyHole ∷ Fixed Equal ∷ []) ∷ after HashHole (Hash160 ∷ []) ∷ after NumHole (Size ∷ []) ∷ (Fixed Size ∷ NumHole ∷ Fixed Equal ∷ []) ∷ after NumHole (CheckMultiSig ∷ []) ∷ (NumHole ∷ KeyHole ∷ Fixed CheckSig ∷ []) ∷ after NumHole (Push [] ∷ Push [] ∷ CheckMultiSig ∷ []) ∷ [])
    ≡ undecided_at 1 ∷ undecided_at 1 ∷ undecided_at 1 ∷ undecided_at 2 ∷ undecided_at 2 ∷ undecided_at 1 ∷ undecided_at 1 ∷ undecided_at 2 ∷ undecided_at 1 ∷ undecided_at 2 ∷ undecided_at 3 ∷ []
unfolding pattern_listing rule_of check_multi_sig is_key is_signature is_token number_of minimal_bytes_of digits
needed = refl

-- the size of a key is 33, and that of a hash 20
sizes :
    map pattern_of (after KeyHole (Size ∷ Push (33 ∷ []) ∷ EqualVerify ∷ Drop ∷ Number 1 ∷ []) ∷ after HashHole (Size ∷ Push (20 ∷ []) ∷ EqualVerify ∷ Drop ∷ Number 1 ∷ []) ∷ after KeyHole (Size ∷ Push (20 ∷ []) ∷ EqualVerify ∷ Drop ∷ Number 1 ∷ []) ∷ [])
    ≡ Ok (free 0 3 3 ∷ []) ∷ Ok (free 0 3 3 ∷ []) ∷ Ok [] ∷ []
unfolding pattern_listing rule_of number_of minimal_bytes_of digits
sizes = refl

-- dead, whatever fills the hole: no hash and no size, no number, no key, no signature, no empty item
dead :
    map pattern_of ((Fixed Hash160 ∷ KeyHole ∷ Fixed Equal ∷ []) ∷ (Fixed Hash160 ∷ NumHole ∷ Fixed Equal ∷ []) ∷ (Fixed Size ∷ KeyHole ∷ Fixed EqualVerify ∷ []) ∷ (Fixed Size ∷ HashHole ∷ Fixed EqualVerify ∷ []) ∷ after KeyHole (CheckSequenceVerify ∷ []) ∷ after HashHole (CheckLockTimeVerify ∷ []) ∷ after KeyHole (CheckMultiSig ∷ []) ∷ after HashHole (CheckSig ∷ []) ∷ after NumHole (CheckSig ∷ []) ∷ (KeyHole ∷ KeyHole ∷ Fixed CheckSig ∷ []) ∷ (HashHole ∷ KeyHole ∷ Fixed CheckSig ∷ []) ∷ after KeyHole (Push [] ∷ Push [] ∷ CheckMultiSig ∷ []) ∷ [])
    ≡ replicate 12 (Ok [])
unfolding pattern_listing rule_of check_multi_sig is_key is_signature is_token number_of minimal_bytes_of digits
dead = refl

-- asked of the witness, with the hole in its place
asked :
    map pattern_of ((Fixed Hash160 ∷ HashHole ∷ Fixed Equal ∷ []) ∷ after KeyHole (Equal ∷ []) ∷ after NumHole (CheckLockTimeVerify ∷ Drop ∷ Number 1 ∷ []) ∷ [])
    ≡ Ok (record { arity = 1; facts = yes (HashIs 0 (Hole ForHash 1)) ∷ []; ops = 2; height = 2 } ∷ [])
    ∷ Ok (record { arity = 1; facts = yes (Is 0 (Hole ForKey 0)) ∷ []; ops = 1; height = 2 } ∷ [])
    ∷ Ok (record { arity = 0; facts = yes (Lock (AmountHole 0)) ∷ []; ops = 2; height = 1 } ∷ [])
    ∷ []
unfolding pattern_listing rule_of
asked = refl

to_local : List Piece
to_local = Fixed If ∷ KeyHole ∷ Fixed Else ∷ NumHole ∷ Fixed CheckSequenceVerify ∷ Fixed Drop ∷ KeyHole ∷ Fixed EndIf ∷ Fixed CheckSig ∷ []

delayed : PatternPath
delayed = record { arity = 2; facts = no (Truth 0) ∷ yes (Age (AmountHole 3)) ∷ yes (Form 1) ∷ yes (Token 1 (FixedKey (Hole ForKey 6))) ∷ []; ops = 6; height = 2 }

to_local-listed : pattern_of to_local ≡ Ok (record { arity = 2; facts = yes (Truth 0) ∷ yes (Form 1) ∷ yes (Token 1 (FixedKey (Hole ForKey 1))) ∷ []; ops = 6; height = 2 } ∷ delayed ∷ [])
unfolding pattern_listing rule_of to_local delayed
to_local-listed = refl

-- the age is that of the delay that fills the hole
abbrev age_under : Op → Option ℕ
age_under delay = (filled_path (If ∷ Push (2 ∷ replicate 32 17) ∷ Else ∷ delay ∷ CheckSequenceVerify ∷ Drop ∷ Push (2 ∷ replicate 32 34) ∷ EndIf ∷ CheckSig ∷ []) delayed).age

ages : map age_under (Push [] ∷ Number 16 ∷ Push (17 ∷ []) ∷ Push (0x40 ∷ 0x9c ∷ 0 ∷ []) ∷ []) ≡ Some 0 ∷ Some 16 ∷ Some 17 ∷ Some 40000 ∷ []
unfolding delayed fits number_of
ages = refl

-- a number has the encoding that scripts give it; 499,999,999 is the greatest
numbers :
    map (λ n. filled (NumHole ∷ []) (Num n ∷ [])) (0 ∷ 1 ∷ 16 ∷ 17 ∷ 40000 ∷ 499999999 ∷ 500000000 ∷ [])
    ≡ Some (Push [] ∷ []) ∷ Some (Number 1 ∷ []) ∷ Some (Number 16 ∷ []) ∷ Some (Push (17 ∷ []) ∷ []) ∷ Some (Push (0x40 ∷ 0x9c ∷ 0 ∷ []) ∷ []) ∷ Some (Push (0xff ∷ 0x64 ∷ 0xcd ∷ 0x1d ∷ []) ∷ []) ∷ None ∷ []
unfolding minimal_bytes_of digits
numbers = refl

-- number, kind and range of the fills
a_key : Fill
a_key = Key (3 ∷ replicate 32 1)

a_hash : Fill
a_hash = Hash (replicate 20 1)

fills :
    map (filled (KeyHole ∷ HashHole ∷ [])) ((a_key ∷ a_hash ∷ []) ∷ (a_key ∷ []) ∷ (a_key ∷ a_hash ∷ a_hash ∷ []) ∷ (a_hash ∷ a_key ∷ []) ∷ (a_key ∷ a_key ∷ []) ∷ (a_key ∷ Num 1 ∷ []) ∷ (Key (4 ∷ replicate 32 1) ∷ a_hash ∷ []) ∷ [])
    ≡ Some (Push (3 ∷ replicate 32 1) ∷ Push (replicate 20 1) ∷ []) ∷ None ∷ None ∷ None ∷ None ∷ None ∷ None ∷ []
unfolding a_key a_hash fits is_key
fills = refl

-- pieces that are not valid opcodes, and 10,000 and 10,001 bytes; other refusals come before TooLong
refusals :
    map pattern_of ((Fixed (Number 17) ∷ Fixed If ∷ []) ∷ (Fixed (Number 0) ∷ []) ∷ (Fixed (Push (replicate 76 1)) ∷ []) ∷ (Fixed (Push (replicate 75 1)) ∷ []) ∷ (replicate 294 KeyHole ++ replicate 4 (Fixed Drop)) ∷ (replicate 294 KeyHole ++ replicate 5 (Fixed Drop)) ∷ (Fixed If ∷ replicate 295 KeyHole) ∷ [])
    ≡ Err BadOpcode ∷ Err BadOpcode ∷ Err BadOpcode ∷ Ok (free 0 0 1 ∷ []) ∷ Ok [] ∷ Err TooLong ∷ Err (Check OpenBranch) ∷ []
unfolding pattern_listing rule_of
refusals = refl
