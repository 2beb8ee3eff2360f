-- Runs by consensus, worked by hand from BIPs 65, 66, 112, 141, 143 and 147: what it takes that the rules here refuse, and what it refuses too.
use Rattle.std.proofs.Common.{◌≡◌, ℕ, Bool, true, false, List, [], ◌∷◌, ◌++◌, length, map, replicate, slice_index, ◌==◌, Option, Some, None, arith, refl}
use Rattle.std.proofs.lemmas.Bool.{true≢false}
use Rattle.std.proofs.lemmas.List.Elements.{All-nil, All-cons}
use Rattle.script.specs.Spelling.{IsOp}
use Rattle.script.specs.declared.opcode.Op.{Op}
use Rattle.script.specs.declared.opcode.Op.TheVariants.{Push, Number, If, NotIf, Else, EndIf, Drop, Dup, Swap, Size, Equal, EqualVerify, Hash160, CheckSig, CheckMultiSig, CheckLockTimeVerify, CheckSequenceVerify}
use Rattle.script.specs.declared.spending.Spend.{Spend}
use Rattle.script.specs.Number.{number_of, minimal_bytes_of, digits}
use Rattle.script.specs.Token.{is_key, is_token, is_signature}
use Rattle.digest.specs.Hash.{hash160}
use Rattle.script.specs.Step.{Elements, effect, multi_sig, lock_passes, age_passes}
use Rattle.script.specs.Run.{state_after, Outcome, Clean, Stopped, outcome}
use Rattle.strictness.specs.Values.{natural_of, is_der}
use Rattle.strictness.specs.Machine.{Oracle, ◌>>=◌, State, if_low, effect as run, is_taken, answer_of_all, NobodySpends}
use Rattle.strictness.proofs.Unspendable.{nobody}

abbrev key : List ℕ
key = 2 ∷ replicate 32 17

-- an uncompressed key, which consensus takes
abbrev long_key : List ℕ
long_key = 4 ∷ replicate 64 17

-- a signature in DER whose last byte before the hash type is this
abbrev der : ℕ → List ℕ
der n = 0x30 ∷ 6 ∷ 2 ∷ 1 ∷ 1 ∷ 2 ∷ 1 ∷ n ∷ 1 ∷ []

-- every signature holds, or none
abbrev yes : Oracle
yes k s = true

abbrev no : Oracle
no k s = false

-- a transaction of version 2 with the lock time 500, by an input of age 144
abbrev spend : Spend
spend = record { version = 2; lock_time = 500; sequence = 144; digest = replicate 32 0 }

abbrev is_clean : Outcome → Bool
is_clean (Clean counted height) = true
is_clean (Stopped at cause) = false

abbrev here : List Op → List (List ℕ) → Bool
here ops witness = is_clean (outcome spend ops witness)

-- a key of 65 bytes, one of 2, a signature in DER of 9 bytes and one of 73; locks and counts of two bytes, and 0 with a sign; an IF with two ELSEs
abbrev lax : List (List Op × List (List ℕ))
lax =
    (Push long_key ∷ CheckSig ∷ [], der 1 ∷ [])
    ∷ (Push (9 ∷ 9 ∷ []) ∷ CheckSig ∷ [], der 1 ∷ [])
    ∷ (Push (der 1) ∷ Swap ∷ CheckSig ∷ [], key ∷ [])
    ∷ (Push (0x30 ∷ 70 ∷ ((2 ∷ 33 ∷ replicate 33 127) ++ (2 ∷ 33 ∷ replicate 33 127) ++ 1 ∷ [])) ∷ Push key ∷ CheckSig ∷ [], [])
    ∷ (Push (1 ∷ 0 ∷ []) ∷ CheckSequenceVerify ∷ [], [])
    ∷ (Push (1 ∷ 0 ∷ []) ∷ CheckLockTimeVerify ∷ [], [])
    ∷ (Push (0x80 ∷ []) ∷ CheckLockTimeVerify ∷ Drop ∷ Number 1 ∷ [], [])
    ∷ (Push [] ∷ Push [] ∷ Push (0 ∷ 0x80 ∷ []) ∷ CheckMultiSig ∷ [], [])
    ∷ (Push [] ∷ Push [] ∷ Push key ∷ Push (1 ∷ 0 ∷ []) ∷ CheckMultiSig ∷ [], [])
    ∷ (Push (1 ∷ 0 ∷ []) ∷ Push key ∷ Number 1 ∷ CheckMultiSig ∷ [], [] ∷ der 1 ∷ [])
    ∷ (If ∷ Else ∷ Number 5 ∷ Else ∷ Number 1 ∷ EndIf ∷ [], (1 ∷ []) ∷ [])
    ∷ []

taken_laxly : map (λ (r : List Op × List (List ℕ)). is_taken yes spend r.0 r.1) lax ≡ replicate 11 true
unfolding natural_of is_der lock_passes age_passes
taken_laxly = refl

refused_here : map (λ (r : List Op × List (List ℕ)). here r.0 r.1) lax ≡ replicate 11 false
unfolding state_after effect multi_sig number_of is_key is_token is_signature lock_passes age_passes
refused_here = refl

-- what both take: no opcodes, with one true item; one of 520 bytes; a NOTIF in an IF, and branches within one that does not run; locks that are reached; two elements that are equal, and two that change places; the length of an item of 256 bytes
abbrev common : List (List Op × List (List ℕ))
common =
    ([], (1 ∷ []) ∷ [])
    ∷ (Drop ∷ Number 1 ∷ [], replicate 520 7 ∷ [])
    ∷ (If ∷ NotIf ∷ Number 16 ∷ EndIf ∷ Else ∷ Push [] ∷ EndIf ∷ [], [] ∷ (2 ∷ 0 ∷ []) ∷ [])
    ∷ (Push [] ∷ If ∷ If ∷ Number 2 ∷ Else ∷ Number 3 ∷ EndIf ∷ NotIf ∷ Number 4 ∷ Else ∷ Number 5 ∷ EndIf ∷ Else ∷ Number 6 ∷ EndIf ∷ [], [])
    ∷ (Push (0xf4 ∷ 1 ∷ []) ∷ CheckLockTimeVerify ∷ [], [])
    ∷ (Push (0x90 ∷ 0 ∷ []) ∷ CheckSequenceVerify ∷ [], [])
    ∷ (Dup ∷ Equal ∷ [], (5 ∷ []) ∷ [])
    ∷ (Swap ∷ Drop ∷ [], [] ∷ (1 ∷ []) ∷ [])
    ∷ (Size ∷ Push (0 ∷ 1 ∷ []) ∷ EqualVerify ∷ Drop ∷ Number 1 ∷ [], replicate 256 0 ∷ [])
    ∷ []

taken : map (λ (r : List Op × List (List ℕ)). is_taken no spend r.0 r.1) common ≡ replicate 9 true
unfolding natural_of lock_passes age_passes minimal_bytes_of digits
taken = refl

taken_here : map (λ (r : List Op × List (List ℕ)). here r.0 r.1) common ≡ replicate 9 true
unfolding state_after effect multi_sig number_of lock_passes age_passes minimal_bytes_of digits
taken_here = refl

hashes : (x : List ℕ) (stack : Elements) → run yes spend 9 Hash160 (x ∷ stack) ≡ Some (hash160 x ∷ stack, 0)
hashes x stack = refl

-- a false end, two elements, none; an opcode without its element; an item of 521 bytes; an IF without a condition, without its ENDIF, an ENDIF and an ELSE without their IF; numbers that differ; a negative lock, one a block too high and one a block too old;
-- a signature that is not in DER; 21 keys; two signatures of one key; an extra item that is full
refused : map (λ (r : List Op × List (List ℕ)). is_taken yes spend r.0 r.1)
    ((Push [] ∷ [], []) ∷ (Number 1 ∷ Number 1 ∷ [], []) ∷ ([], []) ∷ (Drop ∷ Number 1 ∷ [], []) ∷ (Drop ∷ Number 1 ∷ [], replicate 521 7 ∷ [])
    ∷ (If ∷ Number 1 ∷ EndIf ∷ [], []) ∷ (Number 1 ∷ If ∷ Number 1 ∷ [], []) ∷ (Number 1 ∷ EndIf ∷ [], []) ∷ (Number 1 ∷ Else ∷ [], [])
    ∷ (Number 1 ∷ Number 2 ∷ EqualVerify ∷ Number 1 ∷ [], []) ∷ (Number 1 ∷ Number 2 ∷ Equal ∷ [], []) ∷ (Push (0x81 ∷ []) ∷ CheckSequenceVerify ∷ [], []) ∷ (Push (0xf5 ∷ 1 ∷ []) ∷ CheckLockTimeVerify ∷ [], []) ∷ (Push (0x91 ∷ 0 ∷ []) ∷ CheckSequenceVerify ∷ [], [])
    ∷ (Push key ∷ CheckSig ∷ [], (1 ∷ []) ∷ []) ∷ (Push [] ∷ Push [] ∷ (replicate 21 (Push key) ++ Push (21 ∷ []) ∷ CheckMultiSig ∷ []), []) ∷ (Push [] ∷ Push (der 1) ∷ Push (der 1) ∷ Number 2 ∷ Push key ∷ Number 1 ∷ CheckMultiSig ∷ [], [])
    ∷ (Number 1 ∷ Push [] ∷ Push [] ∷ CheckMultiSig ∷ [], []) ∷ [])
    ≡ replicate 18 false
unfolding natural_of is_der lock_passes age_passes
refused = refl

-- a check that fails leaves a false element, with the empty signature and, unlike relay policy, with another one; each opcode wants its elements
abbrev fails : List Op
fails = Push key ∷ CheckSig ∷ NotIf ∷ Number 1 ∷ Else ∷ Push [] ∷ EndIf ∷ []

answers : (is_taken no spend fails ([] ∷ []) ≡ true) × (is_taken yes spend fails ([] ∷ []) ≡ true) × (is_taken no spend fails (der 1 ∷ []) ≡ true) × (is_taken yes spend fails (der 1 ∷ []) ≡ false)
unfolding is_der
answers = (refl, refl, refl, refl)

missing : map (λ (op : Op). is_taken yes spend (op ∷ Number 1 ∷ []) []) (If ∷ NotIf ∷ Else ∷ EndIf ∷ Drop ∷ Dup ∷ Swap ∷ Size ∷ Equal ∷ EqualVerify ∷ Hash160 ∷ CheckSig ∷ CheckMultiSig ∷ CheckLockTimeVerify ∷ CheckSequenceVerify ∷ []) ≡ replicate 15 false
missing = refl

-- 201 opcodes and 202; also in a branch that does not run; with the keys of a CHECKMULTISIG
limits : map (λ (ops : List Op). is_taken yes spend ops [])
    ((Number 1 ∷ replicate 201 CheckSequenceVerify) ∷ (Number 1 ∷ replicate 202 CheckSequenceVerify)
    ∷ (Number 1 ∷ Push [] ∷ If ∷ (replicate 199 Drop ++ EndIf ∷ [])) ∷ (Number 1 ∷ Push [] ∷ If ∷ (replicate 200 Drop ++ EndIf ∷ []))
    ∷ (Push [] ∷ Push [] ∷ (replicate 20 (Push key) ++ Push (20 ∷ []) ∷ CheckMultiSig ∷ replicate 180 CheckSequenceVerify))
    ∷ (Push [] ∷ Push [] ∷ (replicate 20 (Push key) ++ Push (20 ∷ []) ∷ CheckMultiSig ∷ replicate 181 CheckSequenceVerify)) ∷ [])
    ≡ true ∷ false ∷ true ∷ false ∷ true ∷ false ∷ []
unfolding natural_of age_passes
limits = refl

-- 1,000 elements and 1,001
abbrev length_of : Option State → Option ℕ
length_of o = o >>= λ p. Some (length p.stack)

heights : map (λ (n : ℕ). length_of (if_low (record { branches = []; stack = replicate n []; counted = 0 }))) (1000 ∷ 1001 ∷ []) ≡ Some 1000 ∷ None ∷ []
heights = refl

-- a signature holds for the key of its number
abbrev own : Oracle
own k s = slice_index k 0 == slice_index s 7

-- the topmost signature is checked with the topmost key. Of three keys, 3 and 1 sign in the order of the keys and not against it; the empty signature is false; bytes that are no signature fail where they are checked, and only there
orders : map (λ (r : List (List ℕ) × List (List ℕ)). answer_of_all own r.0 r.1)
    (((3 ∷ []) ∷ (2 ∷ []) ∷ (1 ∷ []) ∷ [], der 3 ∷ der 1 ∷ []) ∷ ((3 ∷ []) ∷ (2 ∷ []) ∷ (1 ∷ []) ∷ [], der 1 ∷ der 3 ∷ []) ∷ ((3 ∷ []) ∷ (2 ∷ []) ∷ [], []) ∷ ((3 ∷ []) ∷ [], [] ∷ [])
    ∷ ((2 ∷ []) ∷ (1 ∷ []) ∷ [], (9 ∷ []) ∷ der 1 ∷ []) ∷ ((2 ∷ []) ∷ (1 ∷ []) ∷ [], der 2 ∷ (9 ∷ []) ∷ []) ∷ ((2 ∷ []) ∷ (1 ∷ []) ∷ [], der 5 ∷ (9 ∷ []) ∷ [])
    ∷ ((3 ∷ []) ∷ (2 ∷ []) ∷ (1 ∷ []) ∷ [], der 2 ∷ (9 ∷ []) ∷ der 1 ∷ []) ∷ [])
    ≡ Some true ∷ Some false ∷ Some true ∷ Some false ∷ None ∷ None ∷ Some false ∷ Some false ∷ []
unfolding is_der
orders = refl

-- somebody spends by the number 1, and nobody by a false end
somebody : NobodySpends (Number 1 ∷ []) → ⊥
somebody h = true≢false (h yes spend [])

nobody_by_a_false_end : NobodySpends (Push [] ∷ [])
nobody_by_a_false_end = nobody (Push [] ∷ []) (All-cons IsOp (Push []) [] (omega arith) (All-nil IsOp)) refl refl
