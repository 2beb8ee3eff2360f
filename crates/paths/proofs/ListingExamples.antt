-- Which paths are listed, in which order, and which refusal comes first.
use Rattle.std.proofs.Common.{◌≡◌, ◌≤◌, ℕ, true, false, List, [], ◌∷◌, ◌++◌, length, map, replicate, flat_map, refl, Some, None, Result, Ok, Err}
use Rattle.script.specs.declared.opcode.Op.{Op}
use Rattle.script.specs.declared.opcode.Op.TheVariants.{Push, Number, If, NotIf, Else, EndIf, Drop, Dup, Swap, Size, Equal, EqualVerify, Hash160, CheckMultiSig, CheckLockTimeVerify, CheckSequenceVerify}
use Rattle.script.specs.Token.{is_key, is_signature, is_token}
use Rattle.script.specs.Number.{number_of, minimal_bytes_of, digits}
use Rattle.facts.specs.Symbols.{Fact}
use Rattle.facts.specs.declared.symbols.FactOver.TheVariants.{Truth, Is, Lock, Age}
use Rattle.facts.specs.Symbols.{Stated}
use Rattle.paths.specs.declared.errors.CheckError.{CheckError}
use Rattle.paths.specs.declared.errors.CheckError.TheVariants.{NoMemory, OpenBranch, TooManyOps, Undecided, TooManyPaths, TooTall}
use Rattle.paths.specs.declared.state.Path.{Path}
use Rattle.paths.specs.Refusals.{refusal_number as number_of_refusal}
use Rattle.paths.specs.Rules.{rule_of, check_multi_sig}
use Rattle.paths.specs.Sound.{IsSound}
use Rattle.paths.specs.Listing.{is_balanced, greatest_lock_in, greatest_age_in, listing}

abbrev yes : Fact → Stated
yes f = record { fact = f; holds = true }

abbrev no : Fact → Stated
no f = record { fact = f; holds = false }

-- a path with no lock
abbrev path : ℕ → List Stated → ℕ → ℕ → Path
path arity facts ops height = record { arity = arity; facts = facts; ops = ops; height = height; lock = None; age = None }

abbrev paths : List Path → Result (List Path) CheckError
paths ps = Ok ps

abbrev refused : CheckError → Result (List Path) CheckError
refused e = Err e

-- an IF has its ENDIF, an ELSE or ENDIF its IF, and no IF a second ELSE
balanced : map (λ ops. is_balanced ops []) ([] ∷ (If ∷ EndIf ∷ []) ∷ (NotIf ∷ Else ∷ EndIf ∷ []) ∷ (If ∷ If ∷ Else ∷ EndIf ∷ Else ∷ EndIf ∷ []) ∷ (Number 1 ∷ Drop ∷ []) ∷ []) ≡ replicate 5 true
balanced = refl

not_balanced : map (λ ops. is_balanced ops []) ((If ∷ []) ∷ (NotIf ∷ Else ∷ []) ∷ (If ∷ Else ∷ Else ∷ EndIf ∷ []) ∷ (Else ∷ []) ∷ (EndIf ∷ []) ∷ (If ∷ EndIf ∷ EndIf ∷ []) ∷ (If ∷ If ∷ EndIf ∷ []) ∷ (If ∷ EndIf ∷ Else ∷ []) ∷ []) ≡ replicate 8 false
not_balanced = refl

-- the greatest absolute lock, wherever it stands
greatest_lock : map greatest_lock_in ([] ∷ (yes (Truth 0) ∷ []) ∷ (yes (Lock 0) ∷ []) ∷ (yes (Lock 500) ∷ yes (Lock 600) ∷ []) ∷ (yes (Lock 600) ∷ yes (Age 700) ∷ yes (Lock 500) ∷ []) ∷ []) ≡ None ∷ None ∷ Some 0 ∷ Some 600 ∷ Some 600 ∷ []
greatest_lock = refl

-- the greatest relative lock, of those in blocks: bit 22 is clear, and the low 16 bits count
greatest_age : map greatest_age_in ([] ∷ (yes (Lock 500) ∷ []) ∷ (yes (Age 0) ∷ []) ∷ (yes (Age 144) ∷ yes (Age 10) ∷ []) ∷ (yes (Age 10) ∷ yes (Age 144) ∷ []) ∷ (yes (Age 0x400090) ∷ []) ∷ (yes (Age 0x400090) ∷ yes (Age 5) ∷ []) ∷ (yes (Age 0xffff) ∷ []) ∷ (yes (Age 0x10007) ∷ []) ∷ (yes (Age 0x200007) ∷ []) ∷ []) ≡ None ∷ None ∷ Some 0 ∷ Some 144 ∷ Some 144 ∷ None ∷ Some 5 ∷ Some 65535 ∷ Some 7 ∷ Some 7 ∷ []
greatest_age = refl

refusal_numbers : map number_of_refusal (NoMemory ∷ OpenBranch ∷ TooManyOps ∷ Undecided 9 ∷ TooManyPaths ∷ TooTall ∷ []) ≡ 0 ∷ 1 ∷ 2 ∷ 3 ∷ 4 ∷ 5 ∷ []
refusal_numbers = refl

-- the end: one element that is true, asked of the next slot where there is none
ends : map listing ((Number 1 ∷ []) ∷ (Push [] ∷ []) ∷ (Push (0 ∷ 0x80 ∷ []) ∷ []) ∷ (Number 1 ∷ Number 1 ∷ []) ∷ (Drop ∷ []) ∷ (Size ∷ Push [] ∷ Equal ∷ EqualVerify ∷ []) ∷ []) ≡
    paths (path 0 [] 0 1 ∷ []) ∷ paths [] ∷ paths [] ∷ paths [] ∷ paths (path 2 (yes (Truth 1) ∷ []) 1 2 ∷ []) ∷ refused (Undecided 3) ∷ []
unfolding listing rule_of check_multi_sig number_of minimal_bytes_of digits
ends = refl

-- an opcode that no rule decides refuses the script, and so does such an end; each names its place
undecided : map listing ((Size ∷ Size ∷ []) ∷ (Hash160 ∷ []) ∷ (Number 1 ∷ Drop ∷ Size ∷ Swap ∷ Drop ∷ []) ∷ (If ∷ Number 1 ∷ Else ∷ Size ∷ Size ∷ EndIf ∷ []) ∷ (Push [] ∷ If ∷ Size ∷ Size ∷ EndIf ∷ Hash160 ∷ Hash160 ∷ []) ∷ (CheckLockTimeVerify ∷ []) ∷ (Number 1 ∷ Drop ∷ CheckSequenceVerify ∷ []) ∷ []) ≡
    refused (Undecided 1) ∷ refused (Undecided 1) ∷ refused (Undecided 5) ∷ refused (Undecided 4) ∷ refused (Undecided 6) ∷ refused (Undecided 0) ∷ refused (Undecided 2) ∷ []
unfolding listing rule_of check_multi_sig number_of minimal_bytes_of digits
undecided = refl

-- the branch that stands first in the text comes first, for NOTIF too
branch_order : map listing ((If ∷ Number 1 ∷ Else ∷ Number 2 ∷ EndIf ∷ []) ∷ (NotIf ∷ Number 1 ∷ Else ∷ Number 2 ∷ EndIf ∷ []) ∷ (If ∷ Drop ∷ EndIf ∷ []) ∷ []) ≡
    paths (path 1 (yes (Truth 0) ∷ []) 3 1 ∷ path 1 (no (Truth 0) ∷ []) 3 1 ∷ [])
    ∷ paths (path 1 (no (Truth 0) ∷ []) 3 1 ∷ path 1 (yes (Truth 0) ∷ []) 3 1 ∷ [])
    ∷ paths (path 3 (yes (Truth 0) ∷ yes (Truth 2) ∷ []) 3 3 ∷ path 2 (no (Truth 0) ∷ yes (Truth 1) ∷ []) 3 2 ∷ [])
    ∷ []
unfolding listing rule_of check_multi_sig
branch_order = refl

-- a known condition does not split, and a path that dies is not listed
not_split : map listing ((Number 1 ∷ If ∷ Number 2 ∷ Else ∷ Push [] ∷ EndIf ∷ []) ∷ (Push [] ∷ If ∷ Number 2 ∷ Else ∷ Number 3 ∷ EndIf ∷ []) ∷ (If ∷ Number 1 ∷ Number 2 ∷ EqualVerify ∷ Number 1 ∷ Else ∷ Number 3 ∷ EndIf ∷ []) ∷ []) ≡
    paths (path 0 [] 3 1 ∷ []) ∷ paths (path 0 [] 3 1 ∷ []) ∷ paths (path 1 (no (Truth 0) ∷ []) 4 1 ∷ []) ∷ []
unfolding listing rule_of check_multi_sig
not_split = refl

-- a fact that arises twice stands twice
repeated : listing (Dup ∷ Number 5 ∷ EqualVerify ∷ Dup ∷ Number 5 ∷ EqualVerify ∷ Number 5 ∷ Equal ∷ []) ≡ paths (path 1 (yes (Is 0 (5 ∷ [])) ∷ yes (Is 0 (5 ∷ [])) ∷ yes (Is 0 (5 ∷ [])) ∷ []) 5 3 ∷ [])
unfolding listing rule_of check_multi_sig
repeated = refl

-- locks: the greatest of each kind
locked : listing (Push (0xf4 ∷ 0x01 ∷ []) ∷ CheckLockTimeVerify ∷ Drop ∷ Push (0x58 ∷ 0x02 ∷ []) ∷ CheckLockTimeVerify ∷ Drop ∷ Push (0x90 ∷ 0 ∷ []) ∷ CheckSequenceVerify ∷ Drop ∷ Number 5 ∷ CheckSequenceVerify ∷ Drop ∷ Number 1 ∷ []) ≡
    paths (record { arity = 0; facts = yes (Lock 500) ∷ yes (Lock 600) ∷ yes (Age 144) ∷ yes (Age 5) ∷ []; ops = 8; height = 1; lock = Some 600; age = Some 144 } ∷ [])
unfolding listing rule_of check_multi_sig number_of
locked = refl

-- an age in units of 512 seconds, one that is disabled (bit 31), and one whose bit 30 is set
other_ages : map listing ((Push (0x90 ∷ 0 ∷ 0x40 ∷ []) ∷ CheckSequenceVerify ∷ []) ∷ (Push (0x90 ∷ 0 ∷ 0 ∷ 0x80 ∷ 0 ∷ []) ∷ CheckSequenceVerify ∷ []) ∷ (Push (0x90 ∷ 0 ∷ 0 ∷ 0x40 ∷ []) ∷ CheckSequenceVerify ∷ []) ∷ []) ≡
    paths (path 0 (yes (Age 0x400090) ∷ []) 1 1 ∷ []) ∷ paths (path 0 [] 1 1 ∷ []) ∷ paths (record { arity = 0; facts = yes (Age 144) ∷ []; ops = 1; height = 1; lock = None; age = Some 144 } ∷ []) ∷ []
unfolding listing rule_of check_multi_sig number_of
other_ages = refl

-- the whole script is tested for open branches, and then for its count, before any opcode is followed
whole_first : map listing ((replicate 202 Dup ++ (EndIf ∷ [])) ∷ (Size ∷ Size ∷ replicate 200 Dup) ∷ (Size ∷ Size ∷ EndIf ∷ []) ∷ []) ≡ refused OpenBranch ∷ refused TooManyOps ∷ refused OpenBranch ∷ []
unfolding listing
whole_first = refl

abbrev key : ℕ → List ℕ
key b = 2 ∷ replicate 32 b

-- two keys and no signature, which leave one element
abbrev two_keys : List Op
two_keys = Push [] ∷ Push [] ∷ Push (key 1) ∷ Push (key 2) ∷ Number 2 ∷ CheckMultiSig ∷ []

-- the keys count with the whole script: with 199 opcodes that is 201, and with 200 too many at CHECKMULTISIG, before the undecided opcode
-- after it
keys_counted : (listing (two_keys ++ (replicate 99 Dup ++ replicate 99 Drop)) ≡ paths (path 0 [] 201 100 ∷ [])) × (listing (two_keys ++ (replicate 99 Dup ++ replicate 100 Drop)) ≡ refused TooManyOps) × (listing (two_keys ++ (Drop ∷ Size ∷ Size ∷ Size ∷ (replicate 98 Dup ++ replicate 97 Drop))) ≡ refused TooManyOps) × (listing (Size ∷ Size ∷ (two_keys ++ (replicate 99 Dup ++ replicate 98 Drop))) ≡ refused (Undecided 1))
unfolding listing rule_of check_multi_sig number_of minimal_bytes_of digits is_key is_signature is_token
keys_counted = (refl, refl, refl, refl)

-- a thousand elements, the slots that a path reaches later included
heights : (listing (Dup ∷ replicate 998 (Number 1)) ≡ paths []) × (listing (Dup ∷ replicate 999 (Number 1)) ≡ refused TooTall) × (listing (replicate 1000 (Number 1) ++ (EqualVerify ∷ [])) ≡ paths []) × (listing (replicate 999 (Number 1) ++ (Equal ∷ [])) ≡ paths [])
unfolding listing rule_of check_multi_sig
heights = (refl, refl, refl, refl)

-- n IFs, each in the ELSE of the one before, and what stands in the innermost ELSE
abbrev nest : ℕ → List Op → List Op
nest n inner = flat_map (λ op. op ∷ Else ∷ []) (replicate n If) ++ (inner ++ replicate n EndIf)

abbrev count_of : Result (List Path) CheckError → Result ℕ CheckError
count_of (Ok ps) = Ok (length ps)
count_of (Err e) = Err e

abbrev counted : ℕ → Result ℕ CheckError
counted n = Ok n

-- 64 paths may begin; a path begins with its branch, once all paths of the branch before have ended, and not where it splits off
begun : (count_of (listing (nest 63 [])) ≡ counted 64) × (count_of (listing (nest 64 [])) ≡ Err TooManyPaths) × (count_of (listing (nest 63 (If ∷ Size ∷ Size ∷ EndIf ∷ []))) ≡ Err (Undecided 128)) × (count_of (listing (nest 62 (If ∷ Push [] ∷ Else ∷ EndIf ∷ []))) ≡ counted 63)
unfolding listing rule_of check_multi_sig number_of minimal_bytes_of digits
begun = (refl, refl, refl, refl)

-- paths that end dead count too
dead_begun : count_of (listing (If ∷ Number 1 ∷ Number 1 ∷ Push [] ∷ EqualVerify ∷ Else ∷ (nest 63 [] ++ (EndIf ∷ [])))) ≡ Err TooManyPaths
unfolding listing rule_of check_multi_sig
dead_begun = refl

-- a path that is sound runs with at most 201 counted opcodes and 1,000 entries
sound_limits : (ops : List Op) (p : Path) → IsSound ops p → (p.ops ≤ 201) × (p.height ≤ 1000)
sound_limits ops p sound = (sound.few, sound.low)
