-- What becomes of branches, worked by hand from BIPs 65, 66, 112, 141 and 147: the way of each, and the fault by which it ends.
use Rattle.std.proofs.Common.{◌≡◌, ℕ, Bool, true, false, List, [], ◌∷◌, map, replicate, reverse, arith, refl}
use Rattle.std.proofs.lemmas.Bool.{true≢false}
use Rattle.std.proofs.lemmas.List.Elements.{All-nil, All-cons}
use Rattle.script.specs.Spelling.{IsOp}
use Rattle.script.specs.declared.opcode.Op.{Op}
use Rattle.script.specs.declared.opcode.Op.TheVariants.{Push, Number, If, NotIf, Else, EndIf, Drop, Dup, Equal, EqualVerify, Hash160, CheckSig, CheckMultiSig, CheckLockTimeVerify, CheckSequenceVerify}
use Rattle.script.specs.declared.spending.Spend.{Spend}
use Rattle.script.specs.Number.{number_of}
use Rattle.script.specs.Token.{is_key}
use Rattle.strictness.specs.declared.branches.Mode.TheVariants.{Running}
use Rattle.strictness.specs.declared.faults.Fault.TheVariants.{Lock, Count, Signature, Extra, Unequal, TwoLeft, FalseLeft}
use Rattle.strictness.specs.declared.ways.Choice.{Choice}
use Rattle.strictness.specs.Values.{natural_of, is_der}
use Rattle.strictness.specs.Machine.{Oracle}
use Rattle.strictness.specs.Ways.{Told, splits, dies, lives, fate_of, ends_well_by, NobodySpendsBy}
use Rattle.strictness.proofs.ByWay.{nobody_by}

abbrev way : ℕ → Bool → Choice
way op runs = record { op = op; runs = runs }

abbrev key : List ℕ
key = 2 ∷ replicate 32 17

-- IF 1 ELSE 0 ENDIF; an IF in an IF; NOTIF 0 ENDIF 0
abbrev halves : List Op
halves = If ∷ Number 1 ∷ Else ∷ Push [] ∷ EndIf ∷ []

abbrev nested : List Op
nested = If ∷ If ∷ Number 1 ∷ Else ∷ Push [] ∷ EndIf ∷ Else ∷ Number 1 ∷ EndIf ∷ []

abbrev skipping : List Op
skipping = NotIf ∷ Push [] ∷ EndIf ∷ Push [] ∷ []

abbrev fate : List Choice × List Op → Told
fate r = fate_of r.0 r.1 0 Running []

-- no way, either way, and two of them; a way at another opcode is none
branches : map fate (
    ([], halves) ∷ (way 0 true ∷ [], halves) ∷ (way 0 false ∷ [], halves) ∷ (way 2 false ∷ way 0 false ∷ [], halves) ∷ (way 0 true ∷ [], nested) ∷ (way 0 true ∷ way 1 false ∷ [], nested) ∷ (way 0 false ∷ [], nested)
    ∷ (way 0 true ∷ [], skipping) ∷ (way 0 false ∷ [], skipping) ∷ ([], Number 1 ∷ If ∷ Push [] ∷ Else ∷ Number 1 ∷ EndIf ∷ []) ∷ ([], Push [] ∷ If ∷ Push [] ∷ EndIf ∷ Push [] ∷ []) ∷ [])
    ≡ splits 0 ∷ lives ∷ dies 5 FalseLeft [] ∷ dies 5 FalseLeft [] ∷ splits 1 ∷ dies 9 FalseLeft [] ∷ lives
    ∷ dies 4 TwoLeft [] ∷ dies 4 FalseLeft [] ∷ dies 6 FalseLeft [] ∷ dies 5 FalseLeft [] ∷ []
branches = refl

-- -1 as an age, and a lock of six bytes; 21 keys, and a key for a number of signatures; bytes that are not in DER under both opcodes; an extra item; two numbers, and a hash and a number; two elements with a number on top, below, and in neither
faults : map fate (
    ([], Push (129 ∷ []) ∷ CheckSequenceVerify ∷ []) ∷ ([], Push (replicate 6 1) ∷ CheckLockTimeVerify ∷ []) ∷ ([], Push [] ∷ Push [] ∷ Push (21 ∷ []) ∷ CheckMultiSig ∷ []) ∷ ([], Push key ∷ Push key ∷ Number 1 ∷ CheckMultiSig ∷ [])
    ∷ ([], Number 1 ∷ Push key ∷ CheckSig ∷ []) ∷ ([], Number 7 ∷ Number 1 ∷ Number 1 ∷ Push key ∷ Number 1 ∷ CheckMultiSig ∷ []) ∷ ([], Number 1 ∷ Push [] ∷ Push key ∷ Number 1 ∷ CheckMultiSig ∷ [])
    ∷ ([], Number 1 ∷ Number 2 ∷ EqualVerify ∷ []) ∷ ([], Hash160 ∷ Number 9 ∷ EqualVerify ∷ []) ∷ ([], Dup ∷ Number 4 ∷ []) ∷ ([], Number 3 ∷ Dup ∷ Drop ∷ Dup ∷ Equal ∷ []) ∷ ([], Number 3 ∷ Number 4 ∷ []) ∷ ([], Dup ∷ []) ∷ [])
    ≡ dies 1 Lock (129 ∷ []) ∷ dies 1 Lock (replicate 6 1) ∷ dies 3 Count (21 ∷ []) ∷ dies 3 Count key
    ∷ dies 2 Signature (1 ∷ []) ∷ dies 5 Signature (1 ∷ []) ∷ dies 4 Extra (1 ∷ [])
    ∷ dies 2 Unequal (1 ∷ []) ∷ dies 2 Unequal (9 ∷ []) ∷ dies 2 TwoLeft (4 ∷ []) ∷ lives ∷ dies 2 TwoLeft (3 ∷ []) ∷ dies 1 TwoLeft [] ∷ []
unfolding number_of is_key natural_of is_der
faults = refl

-- no opcode, a true end, an answer, a lock and a key that consensus takes, and a count that the witness gives
others : map fate (([], []) ∷ ([], Number 1 ∷ []) ∷ ([], Push key ∷ CheckSig ∷ []) ∷ ([], Push (1 ∷ 0 ∷ []) ∷ CheckLockTimeVerify ∷ Drop ∷ Push [] ∷ []) ∷ ([], Push (4 ∷ replicate 64 17) ∷ CheckSig ∷ Push [] ∷ []) ∷ ([], CheckMultiSig ∷ Push [] ∷ []) ∷ [])
    ≡ replicate 6 lives
unfolding number_of is_key natural_of is_der
others = refl

abbrev yes : Oracle
yes k s = true

abbrev spend : Spend
spend = record { version = 2; lock_time = 500; sequence = 144; digest = replicate 32 0 }

abbrev ends : List Choice × List (List ℕ) → Bool
ends r = ends_well_by yes spend r.0 (If ∷ Number 1 ∷ Else ∷ Number 2 ∷ EndIf ∷ []) 0 (record { branches = []; stack = reverse r.1; counted = 0 })

-- by either item, where no way is chosen, the way of each, and a way after the IF is closed
runs : map ends (
    ([], (1 ∷ []) ∷ []) ∷ ([], [] ∷ []) ∷ (way 0 true ∷ [], (1 ∷ []) ∷ []) ∷ (way 0 true ∷ [], [] ∷ []) ∷ (way 0 false ∷ [], (1 ∷ []) ∷ []) ∷ (way 0 false ∷ [], [] ∷ []) ∷ (way 4 true ∷ [], (1 ∷ []) ∷ []) ∷ [])
    ≡ true ∷ true ∷ true ∷ false ∷ false ∷ true ∷ false ∷ []
runs = refl

-- somebody spends by IF, and nobody by a false end
somebody_by : NobodySpendsBy (way 0 true ∷ []) halves → ⊥
somebody_by h = true≢false (h yes spend ((1 ∷ []) ∷ []))

nobody_by_a_false_end : NobodySpendsBy [] (Push [] ∷ [])
nobody_by_a_false_end = nobody_by [] (Push [] ∷ []) (All-cons IsOp (Push []) [] (omega arith) (All-nil IsOp)) refl refl
