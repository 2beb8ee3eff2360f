-- Patterns of scripts: opcodes, and holes for keys, hashes and numbers.
use Rattle.std.specs.Prelude.{◌≡◌, ℕ, ◌+◌, Bool, true, false, ◌&&◌, nat_lt, nat_le, if◌then◌else◌, List, [], ◌∷◌, length, map, Option, Some, None, Result, Ok, Err}
use Rattle.std.specs.List.{list_all}
use Rattle.script.specs.declared.opcode.Op.{Op}
use Rattle.script.specs.declared.opcode.Op.TheVariants.{Push, Number as SmallNumber}
use Rattle.script.specs.declared.limits.TheConstants.{LOCKTIME_THRESHOLD, MAX_SCRIPT_SIZE}
use Rattle.script.specs.Number.{minimal_bytes_of}
use Rattle.script.specs.Spelling.{payload_of}
use Rattle.script.specs.Step.{◌>>=◌, result_if}
use Rattle.paths.specs.declared.constants.HoleKind.{HoleKind}
use Rattle.paths.specs.declared.constants.HoleKind.TheVariants.{Key as ForKey, Hash as ForHash, Number as ForNumber}
use Rattle.paths.specs.declared.errors.CheckError.{CheckError}
use Rattle.paths.specs.declared.errors.CheckError.TheVariants.{NoMemory}
use Rattle.paths.specs.declared.pieces.Piece.{Piece}
use Rattle.paths.specs.declared.pieces.Piece.TheVariants.{Op as Fixed, KeyHole, HashHole, NumHole}
use Rattle.paths.specs.declared.pieces.Fill.{Fill}
use Rattle.paths.specs.declared.pieces.Fill.TheVariants.{Key, Hash, Num}
use Rattle.paths.specs.declared.pieces.PatternError.{PatternError}
use Rattle.paths.specs.declared.pieces.PatternError.TheVariants.{Check, TooLong, BadOpcode}
use Rattle.paths.specs.declared.pieces.InstanceError.{InstanceError}
use Rattle.paths.specs.declared.pieces.InstanceError.TheVariants.{NoMemory as OutOfMemory, WrongHoles}
use Rattle.paths.specs.declared.state.PatternPath.{PatternPath}
use Rattle.paths.specs.Holes.{fits}
use Rattle.paths.specs.HoleListing.{pattern_listing}
use Rattle.paths.specs.Listing.{CheckedScript, listing}

-- a pattern's pieces and its paths
pub record ListedPattern : Type 0 where
  pub pieces : List Piece
  pub paths : List PatternPath

-- what a hole takes
abbrev pub hole_of : Piece → Option HoleKind
hole_of (Fixed op) = None
hole_of KeyHole = Some ForKey
hole_of HashHole = Some ForHash
hole_of NumHole = Some ForNumber

-- the opcode of a piece; an empty push for a hole
abbrev pub op_of : Piece → Op
op_of (Fixed op) = op
op_of hole = Push []

-- a valid opcode: a push has at most 75 bytes, and a number is from 1 to 16
abbrev pub is_op : Op → Bool
is_op (Push item) = nat_le (length item) 75
is_op (SmallNumber n) = nat_le 1 n && nat_le n 16
is_op op = true

-- the greatest length of a piece in bytes
abbrev pub longest_of : Piece → ℕ
longest_of (Fixed op) = 1 + length (payload_of op)
longest_of KeyHole = 34
longest_of HashHole = 21
longest_of NumHole = 5

abbrev pub longest : List Piece → ℕ
longest [] = 0
longest (p ∷ pieces) = longest_of p + longest pieces

abbrev pub as_pattern : {A : Type 0} → Result A CheckError → Result A PatternError
as_pattern (Ok x) = Ok x
as_pattern (Err e) = Err (Check e)

abbrev pub all_ops : List Piece → Bool
all_ops pieces = list_all is_op (map op_of pieces)

-- the paths of a pattern
abbrev pub pattern_of : List Piece → Result (List PatternPath) PatternError
pattern_of pieces =
    result_if (all_ops pieces) BadOpcode (as_pattern (pattern_listing (map hole_of pieces) (map op_of pieces)) >>= λ paths. result_if (nat_le (longest pieces) MAX_SCRIPT_SIZE) TooLong (Ok paths))

-- a hole takes a fill of its kind: a key, 20 bytes, or a number from 0 to 499,999,999
abbrev pub takes : HoleKind → Fill → Bool
takes ForKey (Key k) = fits ForKey k
takes ForHash (Hash h) = fits ForHash h
takes ForNumber (Num n) = nat_lt n LOCKTIME_THRESHOLD
takes kind fill = false

-- a number from 1 to 16 has an opcode of its own
abbrev pub number_op : ℕ → Op
number_op n = if nat_le 1 n && nat_le n 16 then SmallNumber n else Push (minimal_bytes_of n)

-- the opcode that pushes a fill
abbrev pub op_by : Fill → Op
op_by (Key k) = Push k
op_by (Hash h) = Push h
op_by (Num n) = number_op n

abbrev pub also : Op → Option (List Op) → Option (List Op)
also op (Some ops) = Some (op ∷ ops)
also op None = None

abbrev pub filled_by : Option HoleKind → Op → List Fill → (List Fill → Option (List Op)) → Option (List Op)
filled_by None op fills go = also op (go fills)
filled_by (Some kind) op [] go = None
filled_by (Some kind) op (f ∷ fills) go = if takes kind f then also (op_by f) (go fills) else None

-- the opcodes of a pattern with its holes filled in order; None if number, kind or range of the fills do not fit
abbrev pub filled : List Piece → List Fill → Option (List Op)
filled [] [] = Some []
filled [] (f ∷ fills) = None
filled (p ∷ pieces) fills = filled_by (hole_of p) (op_of p) fills (filled pieces)

-- the pattern with its paths, or the refusal
abbrev pub IsPatternRefusal : List Piece → PatternError → Type 0
IsPatternRefusal pieces (Check NoMemory) = Unit {0}
IsPatternRefusal pieces e = pattern_of pieces ≡ Err e

abbrev pub ArePatternPaths : List Piece → Result (List PatternPath) PatternError → Type 0
ArePatternPaths pieces (Ok paths) = pattern_of pieces ≡ Ok paths
ArePatternPaths pieces (Err e) = IsPatternRefusal pieces e

abbrev pub IsPattern : List Piece → Result ListedPattern PatternError → Type 0
IsPattern pieces (Ok p) = (p.pieces ≡ pieces) × (pattern_of pieces ≡ Ok p.paths)
IsPattern pieces (Err e) = IsPatternRefusal pieces e

-- the filled script, with the paths that its listing has
abbrev pub IsListedAs : Option (List Op) → CheckedScript → Type 0
IsListedAs None c = ⊥
IsListedAs (Some ops) c = (c.ops ≡ ops) × (listing ops ≡ Ok c.paths)

abbrev pub IsInstance : List Piece → List Fill → Result CheckedScript InstanceError → Type 0
IsInstance pieces fills (Ok c) = IsListedAs (filled pieces fills) c
IsInstance pieces fills (Err WrongHoles) = filled pieces fills ≡ None
IsInstance pieces fills (Err OutOfMemory) = Unit {0}
