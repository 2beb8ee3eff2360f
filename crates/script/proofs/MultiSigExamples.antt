-- CHECKMULTISIG: its operands, its checks in their order, and the keys that it counts (BIP 147; Bitcoin's limits of 20 keys and 201 opcodes).
use Rattle.std.proofs.Common.{◌≡◌, ℕ, List, [], ◌∷◌, ◌++◌, map, replicate, refl, Result, Ok, Err}
use Rattle.script.specs.declared.opcode.Op.TheVariants.{CheckMultiSig}
use Rattle.script.specs.declared.spending.Spend.{Spend}
use Rattle.script.specs.declared.stops.Kind.{Kind}
use Rattle.script.specs.declared.stops.Kind.TheVariants.{Number, KeyCount, SigCount, KeyForm, TokenForm, Extra}
use Rattle.script.specs.declared.stops.Cause.{Cause}
use Rattle.script.specs.declared.stops.Cause.TheVariants.{MissingOperand, FailedCheck, TooManyOps}
use Rattle.script.specs.Token.{token_of, is_key, is_token, is_signature}
use Rattle.script.specs.Number.{number_of}
use Rattle.script.specs.declared.jumps.Jump.TheVariants.{Next}
use Rattle.script.specs.Step.{Elements, Effect, effect, multi_sig}

abbrev spend : Spend
spend = record { version = 2; lock_time = 500; sequence = 144; digest = replicate 32 7 }

abbrev key : ℕ → List ℕ
key b = 2 ∷ replicate 32 b

abbrev token : ℕ → List ℕ
token b = 2 ∷ (replicate 32 b ++ (replicate 32 7 ++ 1 ∷ []))

-- a key and a token of bad form
abbrev bad_key : List ℕ
bad_key = 4 ∷ replicate 32 1

abbrev bad_token : List ℕ
bad_token = 2 ∷ replicate 65 9

-- an element below the operands, which stays
abbrev under : List ℕ
under = 0xee ∷ []

-- CHECKMULTISIG with this number of opcodes counted, itself included; the elements, the top first
abbrev checks : ℕ → Elements → Result Effect Cause
checks counted stack = effect spend counted CheckMultiSig stack

abbrev answers : List ℕ → ℕ → Result Effect Cause
answers item keys = Ok (record { jump = Next; stack = item ∷ under ∷ []; keys = keys })

abbrev yes : ℕ → Result Effect Cause
yes keys = answers (1 ∷ []) keys

abbrev no : ℕ → Result Effect Cause
no keys = answers [] keys

abbrev fails : Kind → Result Effect Cause
fails kind = Err (FailedCheck kind)

abbrev stops : Cause → Result Effect Cause
stops cause = Err cause

-- signatures, the topmost first, before the keys 1, 2 and 3 of a script
abbrev of_three : ℕ → Elements → Result Effect Cause
of_three m sigs = checks 1 ((3 ∷ []) ∷ key 3 ∷ key 2 ∷ key 1 ∷ (m ∷ []) ∷ (sigs ++ ([] ∷ under ∷ [])))

-- the keys are counted, whatever the number of signatures is
signed : (of_three 1 (token 1 ∷ []) ≡ yes 3) × (of_three 1 (token 3 ∷ []) ≡ yes 3) × (of_three 2 (token 2 ∷ token 1 ∷ []) ≡ yes 3) × (of_three 2 (token 3 ∷ token 1 ∷ []) ≡ yes 3) × (of_three 3 (token 3 ∷ token 2 ∷ token 1 ∷ []) ≡ yes 3)
    × (of_three 1 (token 4 ∷ []) ≡ no 3) × (of_three 1 ([] ∷ []) ≡ no 3) × (of_three 2 (token 1 ∷ token 2 ∷ []) ≡ no 3) × (of_three 2 (token 2 ∷ [] ∷ []) ≡ no 3) × (of_three 2 (token 2 ∷ token 2 ∷ []) ≡ no 3)
unfolding effect multi_sig number_of token_of is_signature is_token is_key
signed = (refl, refl, refl, refl, refl, refl, refl, refl, refl, refl)

-- where no signature is required, the result is true
none_due : (checks 1 ([] ∷ [] ∷ [] ∷ under ∷ []) ≡ yes 0) × (checks 1 ((1 ∷ []) ∷ key 1 ∷ [] ∷ [] ∷ under ∷ []) ≡ yes 1) × (checks 1 ((20 ∷ []) ∷ (replicate 20 (key 1) ++ ([] ∷ [] ∷ under ∷ []))) ≡ yes 20)
unfolding effect multi_sig number_of is_key
none_due = (refl, refl, refl)

-- as many signatures as keys, up to 20
twenty : checks 181 ((20 ∷ []) ∷ (replicate 20 (key 1) ++ ((20 ∷ []) ∷ (replicate 20 (token 1) ++ ([] ∷ under ∷ []))))) ≡ yes 20
unfolding effect multi_sig number_of token_of is_signature is_token is_key
twenty = refl

-- the number of keys: of at most four bytes, minimal, from 0 to 20; it is tested before the keys are taken
key_counts : map (λ n. checks 1 (n ∷ under ∷ [])) ((21 ∷ []) ∷ (0x81 ∷ []) ∷ (0x94 ∷ []) ∷ (0x14 ∷ 0 ∷ []) ∷ (0 ∷ []) ∷ (0x80 ∷ []) ∷ (1 ∷ 0 ∷ 0 ∷ 0 ∷ 1 ∷ []) ∷ (0xff ∷ 0xff ∷ 0xff ∷ 0x7f ∷ []) ∷ (0 ∷ 1 ∷ []) ∷ []) ≡
    fails KeyCount ∷ fails KeyCount ∷ fails KeyCount ∷ fails Number ∷ fails Number ∷ fails Number ∷ fails Number ∷ fails KeyCount ∷ fails KeyCount ∷ []
unfolding effect multi_sig number_of
key_counts = refl

twenty_one : checks 1 ((21 ∷ []) ∷ (replicate 21 (key 1) ++ ([] ∷ [] ∷ under ∷ []))) ≡ fails KeyCount
unfolding effect multi_sig number_of
twenty_one = refl

-- the keys may raise the count to 201; a higher count stops the run before they are taken, even if they are missing
counts : (checks 199 ((2 ∷ []) ∷ key 2 ∷ key 1 ∷ [] ∷ [] ∷ under ∷ []) ≡ yes 2) × (checks 200 ((2 ∷ []) ∷ key 2 ∷ key 1 ∷ [] ∷ [] ∷ under ∷ []) ≡ stops TooManyOps) × (checks 200 ((2 ∷ []) ∷ []) ≡ stops TooManyOps) × (checks 199 ((2 ∷ []) ∷ key 1 ∷ []) ≡ stops MissingOperand) × (checks 201 ([] ∷ [] ∷ [] ∷ under ∷ []) ≡ yes 0) × (checks 201 ((21 ∷ []) ∷ []) ≡ fails KeyCount)
unfolding effect multi_sig number_of is_key
counts = (refl, refl, refl, refl, refl, refl)

-- the number of signatures: of at most four bytes, minimal, from 0 to the number of keys; it is tested before they are taken
sig_counts : map (λ m. checks 1 ((2 ∷ []) ∷ key 2 ∷ key 1 ∷ m ∷ [])) ((3 ∷ []) ∷ (0x81 ∷ []) ∷ (0x82 ∷ []) ∷ (1 ∷ 0 ∷ []) ∷ (0x80 ∷ []) ∷ (1 ∷ 0 ∷ 0 ∷ 0 ∷ 1 ∷ []) ∷ (20 ∷ []) ∷ (0 ∷ 1 ∷ []) ∷ []) ≡
    fails SigCount ∷ fails SigCount ∷ fails SigCount ∷ fails Number ∷ fails Number ∷ fails Number ∷ fails SigCount ∷ fails SigCount ∷ []
unfolding effect multi_sig number_of
sig_counts = refl

-- a missing operand, in turn: the number of keys, a key, the number of signatures, a signature, the extra item
missing : map (checks 1) ([] ∷ ((2 ∷ []) ∷ key 2 ∷ []) ∷ ((1 ∷ []) ∷ bad_key ∷ []) ∷ ((1 ∷ []) ∷ bad_key ∷ (1 ∷ []) ∷ []) ∷ ((1 ∷ []) ∷ bad_key ∷ (1 ∷ []) ∷ bad_token ∷ []) ∷ ([] ∷ [] ∷ []) ∷ []) ≡ replicate 6 (stops MissingOperand)
unfolding effect multi_sig number_of
missing = refl

-- the form of every signature, then that of every key, then the extra item
abbrev formed : List ℕ → List ℕ → List ℕ → List ℕ → List ℕ → Result Effect Cause
formed k1 k2 s1 s2 extra = checks 1 ((2 ∷ []) ∷ k2 ∷ k1 ∷ (2 ∷ []) ∷ s2 ∷ s1 ∷ extra ∷ under ∷ [])

forms : (formed (key 1) (key 2) (token 1) (token 2) [] ≡ yes 2) × (formed (key 1) (key 2) (token 1) bad_token [] ≡ fails TokenForm) × (formed (key 1) (key 2) bad_token (token 2) [] ≡ fails TokenForm) × (formed (key 1) bad_key (token 1) (token 2) [] ≡ fails KeyForm) × (formed bad_key (key 2) (token 1) (token 2) [] ≡ fails KeyForm)
    × (formed bad_key bad_key bad_token [] (0 ∷ []) ≡ fails TokenForm) × (formed bad_key (key 2) [] [] (0 ∷ []) ≡ fails KeyForm) × (formed (key 1) (key 2) [] [] [] ≡ no 2) × (formed (key 1) bad_key (token 1) [] [] ≡ fails KeyForm)
unfolding effect multi_sig number_of token_of is_signature is_token is_key
forms = (refl, refl, refl, refl, refl, refl, refl, refl, refl)

-- the extra item must be empty, also where no signature is required
extras : (formed (key 1) (key 2) (token 1) (token 2) (0 ∷ []) ≡ fails Extra) × (formed (key 1) (key 2) [] [] (1 ∷ []) ≡ fails Extra) × (checks 1 ([] ∷ [] ∷ (0x80 ∷ []) ∷ under ∷ []) ≡ fails Extra)
unfolding effect multi_sig number_of token_of is_signature is_token is_key
extras = (refl, refl, refl)
