-- Each opcode on a small state, by computing: where the path goes, what stands on the stack, what is asked, and what is dead or undecided.
use Rattle.std.proofs.Common.{◌≡◌, ℕ, Bool, true, false, List, [], ◌∷◌, ◌++◌, map, replicate, refl, Result, Ok, Err}
use Rattle.digest.specs.Hash.{hash160}
use Rattle.script.specs.declared.opcode.Op.{Op}
use Rattle.script.specs.declared.opcode.Op.TheVariants.{Push, Number, If, NotIf, Else, EndIf, Drop, Dup, Swap, Size, Equal, EqualVerify, Hash160, CheckSig, CheckMultiSig, CheckLockTimeVerify, CheckSequenceVerify}
use Rattle.script.specs.Token.{is_key, is_signature, is_token}
use Rattle.script.specs.Number.{number_of, minimal_bytes_of, digits}
use Rattle.facts.specs.declared.symbols.KeySourceOver.TheVariants.{Const as FixedKey, Slot as SlotKey}
use Rattle.facts.specs.Symbols.{Fact}
use Rattle.facts.specs.declared.symbols.FactOver.TheVariants.{Hash as HashIs, Size as SizeIs, Truth, Is, KeyForm, Form, Token, Assigned, Lock, Age}
use Rattle.facts.specs.Symbols.{Stated}
use Rattle.facts.specs.Symbols.{Sym}
use Rattle.facts.specs.declared.symbols.SymOver.TheVariants.{Slot, Const, HashOf, SizeOf, Holds}
use Rattle.paths.specs.Plain.{State}
use Rattle.paths.specs.declared.state.Halt.{Halt}
use Rattle.paths.specs.declared.state.Halt.TheVariants.{Dead, Undecided, TooManyOps}
use Rattle.paths.specs.Plain.{SymbolicJump}
use Rattle.paths.specs.declared.state.SymbolicJumpOver.TheVariants.{Next, AfterElse, AfterEndIf, Splits}
use Rattle.paths.specs.Rules.{rule_of, check_multi_sig}

abbrev Outcome : Type 0
Outcome = Result (SymbolicJump × State) Halt

-- a state with these symbols, the top first, once the slots below 5 are reached
abbrev state : List Sym → State
state xs = record { ahead = 0; stack = xs; slots = 5; facts = []; keys = 0; excess = 0 }

-- where the path goes: the symbols on the stack, the number of slots reached, the facts asked, the number of keys counted
abbrev goes : SymbolicJump → List Sym → ℕ → List Stated → ℕ → Outcome
goes jump xs slots facts keys = Ok (jump, record { ahead = 0; stack = xs; slots = slots; facts = facts; keys = keys; excess = 0 })

abbrev leaves : List Sym → ℕ → Outcome
leaves xs slots = goes Next xs slots [] 0

abbrev yes : Fact → Stated
yes f = record { fact = f; holds = true }

abbrev dead : Outcome
dead = Err Dead

abbrev undecided : Outcome
undecided = Err Undecided

-- a key and a token of good form
abbrev key : ℕ → List ℕ
key b = 2 ∷ replicate 32 b

abbrev token : List ℕ
token = 3 ∷ (replicate 64 7 ++ 1 ∷ [])

abbrev flag_yes : Sym
flag_yes = Const (1 ∷ [])

abbrev flag_no : Sym
flag_no = Const []

pushes : (rule_of 0 (Push (1 ∷ 2 ∷ [])) (state (Slot 3 ∷ [])) ≡ leaves (Const (1 ∷ 2 ∷ []) ∷ Slot 3 ∷ []) 5) × (rule_of 0 (Number 16) (state []) ≡ leaves (Const (16 ∷ []) ∷ []) 5)
unfolding rule_of
pushes = (refl, refl)

drops : map (λ xs. rule_of 0 Drop (state xs)) ((HashOf 1 ∷ Slot 2 ∷ []) ∷ [] ∷ []) ≡ leaves (Slot 2 ∷ []) 5 ∷ leaves [] 6 ∷ []
unfolding rule_of
drops = refl

dups : map (λ xs. rule_of 0 Dup (state xs)) ((Slot 2 ∷ HashOf 1 ∷ []) ∷ [] ∷ []) ≡ leaves (Slot 2 ∷ Slot 2 ∷ HashOf 1 ∷ []) 5 ∷ leaves (Slot 5 ∷ Slot 5 ∷ []) 6 ∷ []
unfolding rule_of
dups = refl

swaps : map (λ xs. rule_of 0 Swap (state xs)) ((HashOf 1 ∷ Slot 2 ∷ []) ∷ (HashOf 1 ∷ []) ∷ [] ∷ []) ≡ leaves (Slot 2 ∷ HashOf 1 ∷ []) 5 ∷ leaves (Slot 5 ∷ HashOf 1 ∷ []) 6 ∷ leaves (Slot 6 ∷ Slot 5 ∷ []) 7 ∷ []
unfolding rule_of
swaps = refl

-- known conditions, a zero with a sign among them, a slot, and what decides nothing
ifs : map (λ xs. rule_of 0 If (state xs)) ((Const [] ∷ []) ∷ (Const (0 ∷ 0x80 ∷ []) ∷ []) ∷ (Const (0x80 ∷ 0 ∷ []) ∷ []) ∷ [] ∷ (HashOf 1 ∷ []) ∷ []) ≡
    goes AfterElse [] 5 [] 0 ∷ goes AfterElse [] 5 [] 0 ∷ leaves [] 5 ∷ goes (Splits (Truth 5) true) [] 6 [] 0 ∷ undecided ∷ []
unfolding rule_of
ifs = refl

not_ifs : map (λ xs. rule_of 0 NotIf (state xs)) ((Const [] ∷ []) ∷ (Const (0 ∷ 0x80 ∷ []) ∷ []) ∷ (Const (0x80 ∷ 0 ∷ []) ∷ []) ∷ (Holds (SizeIs 0 32) ∷ Slot 0 ∷ []) ∷ (SizeOf 1 ∷ []) ∷ []) ≡
    leaves [] 5 ∷ leaves [] 5 ∷ goes AfterElse [] 5 [] 0 ∷ goes (Splits (SizeIs 0 32) false) (Slot 0 ∷ []) 5 [] 0 ∷ undecided ∷ []
unfolding rule_of
not_ifs = refl

branch_ends : map (λ op. rule_of 0 op (state [])) (Else ∷ EndIf ∷ []) ≡ goes AfterEndIf [] 5 [] 0 ∷ leaves [] 5 ∷ []
unfolding rule_of
branch_ends = refl

sizes : map (λ xs. rule_of 0 Size (state xs)) ([] ∷ (Const (9 ∷ 9 ∷ 9 ∷ []) ∷ []) ∷ (HashOf 1 ∷ []) ∷ (SizeOf 1 ∷ []) ∷ (Holds (Truth 0) ∷ []) ∷ []) ≡
    leaves (SizeOf 5 ∷ Slot 5 ∷ []) 6 ∷ leaves (Const (3 ∷ []) ∷ Const (9 ∷ 9 ∷ 9 ∷ []) ∷ []) 5 ∷ leaves (Const (20 ∷ []) ∷ HashOf 1 ∷ []) 5 ∷ undecided ∷ undecided ∷ []
unfolding rule_of minimal_bytes_of digits
sizes = refl

hashes : map (λ xs. rule_of 0 Hash160 (state xs)) ([] ∷ (Const (7 ∷ []) ∷ []) ∷ (HashOf 1 ∷ []) ∷ (SizeOf 1 ∷ []) ∷ []) ≡ leaves (HashOf 5 ∷ []) 6 ∷ leaves (Const (hash160 (7 ∷ [])) ∷ []) 5 ∷ undecided ∷ undecided ∷ []
unfolding rule_of
hashes = refl

-- the minimal encodings of 32, 0, 128 and 520 are sizes; those of 521, -0, -32 and numbers of five bytes, and 32 encoded in two bytes, are not
size_names : List (List ℕ)
size_names = (0x20 ∷ []) ∷ [] ∷ (0x80 ∷ 0 ∷ []) ∷ (8 ∷ 2 ∷ []) ∷ (9 ∷ 2 ∷ []) ∷ (0x20 ∷ 0 ∷ []) ∷ (0x80 ∷ []) ∷ (0xa0 ∷ []) ∷ (1 ∷ 0 ∷ 0 ∷ 0 ∷ 0 ∷ []) ∷ []

size_answers : List Outcome
size_answers = leaves (Holds (SizeIs 4 32) ∷ []) 5 ∷ leaves (Holds (SizeIs 4 0) ∷ []) 5 ∷ leaves (Holds (SizeIs 4 128) ∷ []) 5 ∷ leaves (Holds (SizeIs 4 520) ∷ []) 5 ∷ replicate 5 (leaves (flag_no ∷ []) 5)

sizes_compared : (map (λ b. rule_of 0 Equal (state (Const b ∷ SizeOf 4 ∷ []))) size_names ≡ size_answers) × (map (λ b. rule_of 0 Equal (state (SizeOf 4 ∷ Const b ∷ []))) size_names ≡ size_answers)
unfolding rule_of number_of minimal_bytes_of digits size_names size_answers
sizes_compared = (refl, refl)

equals : map (λ xs. rule_of 0 Equal (state xs)) ((Const (1 ∷ 2 ∷ []) ∷ Const (1 ∷ 2 ∷ []) ∷ []) ∷ (Const (1 ∷ 3 ∷ []) ∷ Const (1 ∷ 2 ∷ []) ∷ []) ∷ (Slot 2 ∷ Const (1 ∷ 2 ∷ []) ∷ []) ∷ (Const [] ∷ []) ∷ (Const (replicate 20 3) ∷ HashOf 3 ∷ []) ∷ (HashOf 3 ∷ Const (replicate 20 3) ∷ []) ∷ (HashOf 3 ∷ Const (replicate 19 3) ∷ []) ∷ (HashOf 3 ∷ Const (replicate 21 3) ∷ []) ∷ [] ∷ (SizeOf 1 ∷ HashOf 1 ∷ []) ∷ []) ≡
    leaves (flag_yes ∷ []) 5 ∷ leaves (flag_no ∷ []) 5 ∷ leaves (Holds (Is 2 (1 ∷ 2 ∷ [])) ∷ []) 5 ∷ leaves (Holds (Is 5 []) ∷ []) 6
    ∷ leaves (Holds (HashIs 3 (replicate 20 3)) ∷ []) 5 ∷ leaves (Holds (HashIs 3 (replicate 20 3)) ∷ []) 5 ∷ leaves (flag_no ∷ []) 5 ∷ leaves (flag_no ∷ []) 5 ∷ undecided ∷ undecided ∷ []
unfolding rule_of
equals = refl

equal_verifies : map (λ xs. rule_of 0 EqualVerify (state xs)) ((Const (0x20 ∷ []) ∷ SizeOf 4 ∷ []) ∷ (Const (9 ∷ 2 ∷ []) ∷ SizeOf 4 ∷ []) ∷ (Const (1 ∷ 2 ∷ []) ∷ Const (1 ∷ 2 ∷ []) ∷ []) ∷ (Const (1 ∷ 3 ∷ []) ∷ Const (1 ∷ 2 ∷ []) ∷ []) ∷ [] ∷ []) ≡
    goes Next [] 5 (yes (SizeIs 4 32) ∷ []) 0 ∷ dead ∷ leaves [] 5 ∷ dead ∷ undecided ∷ []
unfolding rule_of number_of minimal_bytes_of digits
equal_verifies = refl

-- the key is on top
signatures : map (λ xs. rule_of 0 CheckSig (state xs)) ((Const (key 17) ∷ Slot 1 ∷ []) ∷ [] ∷ (Const (key 17) ∷ Const [] ∷ []) ∷ (Slot 0 ∷ Const [] ∷ []) ∷ []) ≡
    goes Next (Holds (Token 1 (FixedKey (key 17))) ∷ []) 5 (yes (Form 1) ∷ []) 0
    ∷ goes Next (Holds (Token 6 (SlotKey 5)) ∷ []) 7 (yes (KeyForm 5) ∷ yes (Form 6) ∷ []) 0
    ∷ leaves (flag_no ∷ []) 5
    ∷ goes Next (flag_no ∷ []) 5 (yes (KeyForm 0) ∷ []) 0
    ∷ []
unfolding rule_of is_key is_signature is_token
signatures = refl

-- a key of 32 bytes, a signature of one byte: dead, also next to an operand that no rule decides
dead_signatures : map (λ xs. rule_of 0 CheckSig (state xs)) ((Const (replicate 32 2) ∷ Slot 1 ∷ []) ∷ (Const [] ∷ HashOf 1 ∷ []) ∷ (Slot 0 ∷ Const (1 ∷ []) ∷ []) ∷ (HashOf 0 ∷ Const (1 ∷ []) ∷ []) ∷ []) ≡ replicate 4 dead
unfolding rule_of is_key is_signature is_token
dead_signatures = refl

undecided_signatures : map (λ xs. rule_of 0 CheckSig (state xs)) ((Slot 0 ∷ Const token ∷ []) ∷ (Slot 0 ∷ HashOf 1 ∷ []) ∷ (HashOf 0 ∷ Slot 1 ∷ []) ∷ []) ≡ replicate 3 undecided
unfolding rule_of is_key is_signature is_token
undecided_signatures = refl

lock_times : map (λ b. rule_of 0 CheckLockTimeVerify (state (Const b ∷ []))) ((0xf4 ∷ 1 ∷ []) ∷ (255 ∷ 255 ∷ 255 ∷ 255 ∷ 127 ∷ []) ∷ (0x81 ∷ []) ∷ (0x80 ∷ []) ∷ (1 ∷ 0 ∷ 0 ∷ 0 ∷ 0 ∷ 1 ∷ []) ∷ []) ≡
    goes Next (Const (0xf4 ∷ 1 ∷ []) ∷ []) 5 (yes (Lock 500) ∷ []) 0 ∷ goes Next (Const (255 ∷ 255 ∷ 255 ∷ 255 ∷ 127 ∷ []) ∷ []) 5 (yes (Lock 549755813887) ∷ []) 0 ∷ dead ∷ dead ∷ dead ∷ []
unfolding rule_of number_of
lock_times = refl

-- blocks, units of 512 seconds, and a lock that bit 31 disables
sequences : map (λ b. rule_of 0 CheckSequenceVerify (state (Const b ∷ []))) ((0x90 ∷ 0 ∷ []) ∷ (0x90 ∷ 0 ∷ 0xe1 ∷ 0 ∷ []) ∷ (5 ∷ 0 ∷ 0 ∷ 0x80 ∷ 0 ∷ []) ∷ (0x81 ∷ []) ∷ (0 ∷ []) ∷ []) ≡
    goes Next (Const (0x90 ∷ 0 ∷ []) ∷ []) 5 (yes (Age 144) ∷ []) 0 ∷ goes Next (Const (0x90 ∷ 0 ∷ 0xe1 ∷ 0 ∷ []) ∷ []) 5 (yes (Age 0x400090) ∷ []) 0 ∷ leaves (Const (5 ∷ 0 ∷ 0 ∷ 0x80 ∷ 0 ∷ []) ∷ []) 5 ∷ dead ∷ dead ∷ []
unfolding rule_of number_of
sequences = refl

locks_of_slots : map (λ op. rule_of 0 op (state [])) (CheckLockTimeVerify ∷ CheckSequenceVerify ∷ []) ≡ undecided ∷ undecided ∷ []
unfolding rule_of
locks_of_slots = refl

-- the number of keys is on top, then the keys, the number of signatures, the signatures and the extra item
multi_signatures : map (λ xs. rule_of 0 CheckMultiSig (state xs)) ((Const (2 ∷ []) ∷ Const (key 34) ∷ Const (key 17) ∷ Const (2 ∷ []) ∷ Slot 1 ∷ Slot 2 ∷ Slot 3 ∷ []) ∷ (Const (3 ∷ []) ∷ Slot 0 ∷ Const (key 34) ∷ Slot 1 ∷ Const (1 ∷ []) ∷ Slot 2 ∷ Const [] ∷ []) ∷ (Const (1 ∷ []) ∷ Const (key 17) ∷ Const [] ∷ []) ∷ (Const [] ∷ Const [] ∷ Const [] ∷ []) ∷ []) ≡
    goes Next (Holds (Assigned (2 ∷ 1 ∷ []) (FixedKey (key 17) ∷ FixedKey (key 34) ∷ [])) ∷ []) 5 (yes (Form 2) ∷ yes (Form 1) ∷ yes (Is 3 []) ∷ []) 2
    ∷ goes Next (Holds (Assigned (2 ∷ []) (SlotKey 1 ∷ FixedKey (key 34) ∷ SlotKey 0 ∷ [])) ∷ []) 5 (yes (Form 2) ∷ yes (KeyForm 1) ∷ yes (KeyForm 0) ∷ []) 3
    ∷ goes Next (flag_yes ∷ []) 6 (yes (Is 5 []) ∷ []) 1
    ∷ leaves (flag_yes ∷ []) 5
    ∷ []
unfolding rule_of check_multi_sig number_of is_key is_signature is_token
multi_signatures = refl

-- a bad key, an extra item, more signatures than keys, a negative number of them, 21 keys, a negative number of keys, a number that is not minimal
dead_multi_signatures : map (λ xs. rule_of 0 CheckMultiSig (state xs)) ((Const (1 ∷ []) ∷ Const (replicate 32 2) ∷ Const (1 ∷ []) ∷ HashOf 1 ∷ Slot 2 ∷ []) ∷ (Const (1 ∷ []) ∷ HashOf 0 ∷ Const (1 ∷ []) ∷ HashOf 1 ∷ Const (0 ∷ []) ∷ []) ∷ (Const (1 ∷ []) ∷ HashOf 0 ∷ Const (2 ∷ []) ∷ Slot 1 ∷ Slot 2 ∷ []) ∷ (Const (1 ∷ []) ∷ HashOf 0 ∷ Const (0x81 ∷ []) ∷ Slot 1 ∷ Slot 2 ∷ []) ∷ (Const (21 ∷ []) ∷ []) ∷ (Const (0x81 ∷ []) ∷ []) ∷ (Const (2 ∷ 0 ∷ []) ∷ []) ∷ []) ≡
    replicate 7 dead
unfolding rule_of check_multi_sig number_of is_key is_signature is_token
dead_multi_signatures = refl

-- a number of signatures, a signature, a key or an extra item that no rule decides; 20 keys are not too many
undecided_multi_signatures : map (λ xs. rule_of 0 CheckMultiSig (state xs)) ((Const (1 ∷ []) ∷ Slot 0 ∷ Slot 0 ∷ Slot 1 ∷ Slot 2 ∷ []) ∷ (Const (1 ∷ []) ∷ Slot 0 ∷ Const (1 ∷ []) ∷ HashOf 1 ∷ Slot 2 ∷ []) ∷ (Const (1 ∷ []) ∷ Slot 0 ∷ Const (1 ∷ []) ∷ Const [] ∷ Slot 2 ∷ []) ∷ (Const (1 ∷ []) ∷ HashOf 0 ∷ Const (1 ∷ []) ∷ Slot 1 ∷ Slot 2 ∷ []) ∷ (Const (1 ∷ []) ∷ Slot 0 ∷ Const (1 ∷ []) ∷ Slot 1 ∷ HashOf 2 ∷ []) ∷ (Const (20 ∷ []) ∷ []) ∷ [] ∷ []) ≡
    replicate 7 undecided
unfolding rule_of check_multi_sig number_of is_key is_signature is_token
undecided_multi_signatures = refl

-- the keys count with the opcodes, up to 201, before they are looked at; a bad number of keys comes first
keys_counted : (rule_of 199 CheckMultiSig (state (Const (2 ∷ []) ∷ Slot 1 ∷ Slot 0 ∷ Const [] ∷ Const [] ∷ [])) ≡ goes Next (flag_yes ∷ []) 5 (yes (KeyForm 0) ∷ yes (KeyForm 1) ∷ []) 2) × (rule_of 200 CheckMultiSig (state (Const (2 ∷ []) ∷ Slot 1 ∷ HashOf 0 ∷ Const [] ∷ Const [] ∷ [])) ≡ Err TooManyOps) × (rule_of 201 CheckMultiSig (state (Const (21 ∷ []) ∷ [])) ≡ dead)
unfolding rule_of check_multi_sig number_of is_key is_signature is_token
keys_counted = (refl, refl, refl)
