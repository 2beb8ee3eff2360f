-- Which refusal of a claim comes first, and what fits a claim.
use Rattle.std.proofs.Common.{◌≡◌, ℕ, Bool, true, false, reverse, sym, subst, ap, List, [], ◌∷◌, ◌++◌, map, replicate, refl, lit≤, lit<, arith, Some, None, Result, Ok, Err}
use Rattle.std.specs.Prelude.{IsTrue}
use Rattle.sha2.specs.Sha256.{sha256, digest_bytes, hash_after, compress, rounds, schedule, first_words}
use Rattle.script.specs.declared.opcode.Op.{Op}
use Rattle.script.specs.declared.opcode.Op.TheVariants.{Push, Dup, Hash160, EqualVerify, CheckSig}
use Rattle.script.specs.declared.spending.Spend.{Spend}
use Rattle.script.specs.Token.{token_of, is_key}
use Rattle.tx.specs.declared.input.TxIn.{TxIn}
use Rattle.tx.specs.Fields.{Transaction, total_value}
use Rattle.sighash.specs.Programs.{script_hash_program, spend_of}
use Rattle.facts.specs.Symbols.{Fact}
use Rattle.facts.specs.declared.symbols.FactOver.TheVariants.{Truth, Lock}
use Rattle.facts.specs.Symbols.{Stated}
use Rattle.paths.specs.declared.state.Path.{Path}
use Rattle.paths.specs.Listing.{CheckedScript}
use Rattle.claim.specs.declared.parts.Slot.{Slot}
use Rattle.claim.specs.declared.parts.Slot.TheVariants.{Sig, Preimage, Exact}
use Rattle.claim.specs.declared.parts.Place.{Place}
use Rattle.claim.specs.declared.errors.AcceptError.{AcceptError}
use Rattle.claim.specs.declared.errors.AcceptError.TheVariants.{NoMemory, NoSuchPath, WrongArity, Unmet, Contradiction, WrongProgram, WrongShell}
use Rattle.claim.specs.Refusals.{refusal_number as number_of_refusal}
use Rattle.claim.specs.declared.parts.Shell.{Shell}
use Rattle.claim.specs.declared.parts.Shell.TheVariants.{Open, Fixed}
use Rattle.claim.specs.Judgement.{is_program, is_shell, bare_shell, judgement_of, needed_height, age_of}
use Rattle.claim.specs.Fitting.{FillsSlot, FillsSlots, StandsRound, Fits}
use Rattle.claim.specs.Claims.{IsBare}

-- the script of a key hash, and its bytes
abbrev ops : List Op
ops = Dup ∷ Hash160 ∷ Push (replicate 20 0x33) ∷ EqualVerify ∷ CheckSig ∷ []

abbrev script : List ℕ
script = 0x76 ∷ 0xa9 ∷ 0x14 ∷ (replicate 20 0x33 ++ 0x88 ∷ 0xac ∷ [])

abbrev program : List ℕ
program = 0x00 ∷ 0x14 ∷ replicate 20 0x33

-- BIP 141: the program of a key hash is version 0 and 20 bytes, and stands for just this script
key_programs : (is_program script program ≡ true) × (is_program script (0x00 ∷ 0x14 ∷ replicate 20 0x34) ≡ false) × (is_program script (0x51 ∷ 0x14 ∷ replicate 20 0x33) ≡ false) × (is_program script (0x00 ∷ 0x13 ∷ replicate 20 0x33) ≡ false) × (is_program script (0x00 ∷ 0x14 ∷ replicate 19 0x33) ≡ false)
    × (is_program (0x75 ∷ 0xa9 ∷ 0x14 ∷ (replicate 20 0x33 ++ 0x88 ∷ 0xac ∷ [])) program ≡ false) × (is_program (0x76 ∷ 0xa9 ∷ 0x14 ∷ (replicate 20 0x33 ++ 0x87 ∷ 0xac ∷ [])) program ≡ false) × (is_program (script ++ 0x68 ∷ []) program ≡ false)
unfolding script_hash_program
key_programs = (refl, refl, refl, refl, refl, refl, refl, refl)

-- the witness script 51, whose SHA-256 an independent script computed: version 0 and that hash, and no other program of 34 bytes
abbrev hash : List ℕ
hash = 0x4a ∷ 0xe8 ∷ 0x15 ∷ 0x72 ∷ 0xf0 ∷ 0x6e ∷ 0x1b ∷ 0x88 ∷ 0xfd ∷ 0x5c ∷ 0xed ∷ 0x7a ∷ 0x1a ∷ 0x00 ∷ 0x09 ∷ 0x45 ∷ 0x43 ∷ 0x2e ∷ 0x83 ∷ 0xe1 ∷ 0x55 ∷ 0x1e ∷ 0x6f ∷ 0x72 ∷ 0x1e ∷ 0xe9 ∷ 0xc0 ∷ 0x0b ∷ 0x8c ∷ 0xc3 ∷ 0x32 ∷ 0x60 ∷ []

script_hash : sha256 (0x51 ∷ []) ≡ hash
unfolding sha256 digest_bytes hash_after compress rounds schedule first_words
script_hash = refl

script_programs : (is_program (0x51 ∷ []) (0x00 ∷ 0x20 ∷ hash) ≡ true) × (is_program (0x51 ∷ []) (0x51 ∷ 0x20 ∷ hash) ≡ false) × (is_program (0x51 ∷ []) (0x00 ∷ 0x20 ∷ replicate 32 0) ≡ false) × (is_program (0x51 ∷ []) hash ≡ false)
unfolding script_hash_program sha256 digest_bytes hash_after compress rounds schedule first_words
script_programs = (refl, refl, refl, refl)

-- a path with no slot, and one of one slot that contradicts itself
abbrev free : ℕ → List Stated → Path
free arity facts = record { arity = arity; facts = facts; ops = 4; height = 4; lock = None; age = None }

abbrev yes : Fact → Stated
yes f = record { fact = f; holds = true }

abbrev no : Fact → Stated
no f = record { fact = f; holds = false }

abbrev ways : CheckedScript
ways = record { ops = ops; paths = free 0 [] ∷ free 1 (yes (Truth 0) ∷ []) ∷ free 1 (no (Truth 0) ∷ yes (Truth 0) ∷ []) ∷ free 2 (yes (Truth 1) ∷ no (Truth 0) ∷ yes (Lock 500000000) ∷ []) ∷ [] }

abbrev one : Slot
one = Exact (record { item = 1 ∷ []; short = lit≤ tt })

abbrev empty : Slot
empty = Exact (record { item = []; short = lit≤ tt })

abbrev at : List ℕ → Place
at bytes = record { outpoint = record { txid = replicate 32 7; index = 0 }; value = 1000; program = bytes }

abbrev refused : AcceptError → Result Path AcceptError
refused e = Err e

-- the first of the refusals that hold, in this order: the path, its arity, the program, a contradiction, the first fact that is not met
order : (judgement_of ways 4 [] (at []) Open ≡ refused NoSuchPath) × (judgement_of ways 1 [] (at []) Open ≡ refused WrongArity) × (judgement_of ways 2 [] (at []) Open ≡ refused WrongArity) × (judgement_of ways 0 (one ∷ []) (at program) Open ≡ refused WrongArity) × (judgement_of ways 2 (empty ∷ []) (at (0x00 ∷ 0x14 ∷ replicate 20 0x34)) Open ≡ refused WrongProgram)
    × (judgement_of ways 2 (empty ∷ []) (at program) Open ≡ refused Contradiction) × (judgement_of ways 2 (one ∷ []) (at program) Open ≡ refused Contradiction) × (judgement_of ways 1 (empty ∷ []) (at program) Open ≡ refused (Unmet (yes (Truth 0)))) × (judgement_of ways 3 (one ∷ empty ∷ []) (at program) Open ≡ refused (Unmet (yes (Truth 1)))) × (judgement_of ways 3 (one ∷ one ∷ []) (at program) Open ≡ refused (Unmet (no (Truth 0)))) × (judgement_of ways 3 (empty ∷ one ∷ []) (at program) Open ≡ refused (Unmet (yes (Lock 500000000))))
unfolding judgement_of script_hash_program
order = (refl, refl, refl, refl, refl, refl, refl, refl, refl, refl, refl)

taken : (judgement_of ways 0 [] (at program) Open ≡ Ok (free 0 [])) × (judgement_of ways 1 (one ∷ []) (at program) Open ≡ Ok (free 1 (yes (Truth 0) ∷ [])))
unfolding judgement_of script_hash_program
taken = (refl, refl)

refusal_numbers : map number_of_refusal (NoMemory ∷ NoSuchPath ∷ WrongArity ∷ Unmet (yes (Truth 0)) ∷ Contradiction ∷ WrongProgram ∷ WrongShell ∷ []) ≡ 0 ∷ 1 ∷ 2 ∷ 3 ∷ 4 ∷ 5 ∷ 6 ∷ []
refusal_numbers = refl

-- the height and the age that a claim needs: 0 where its path has none; a fixed transaction has its own lock time
abbrev locked : Path
locked = record { arity = 1; facts = []; ops = 4; height = 4; lock = Some 500; age = Some 144 }

abbrev input_of : ℕ → ℕ → ℕ → List (List ℕ) → TxIn
input_of byte index sequence witness = record { outpoint = record { txid = replicate 32 byte; index = index }; sequence = sequence; witness = witness }

abbrev tx : ℕ → ℕ → List TxIn → ℕ → Transaction
tx version lock_time inputs paid = record { version = version; inputs = inputs; outputs = record { value = paid; script = [] } ∷ record { value = 1; script = [] } ∷ []; lock_time = lock_time }

abbrev only : List TxIn
only = input_of 7 0 144 [] ∷ []

needs : (age_of (free 0 []) ≡ 0) × (age_of locked ≡ 144) × (needed_height (free 0 []) Open ≡ 0) × (needed_height locked Open ≡ 500) × (needed_height locked (Fixed (tx 2 501 only 999)) ≡ 501)
needs = (refl, refl, refl, refl, refl)

-- a fixed transaction fits: version 2, the one input, a lock time from the path's on that is a height, and outputs up to the place's value of 1,000
abbrev fits_shell : Transaction → Bool
fits_shell t = is_shell locked (at program) (Fixed t)

shells : map fits_shell (tx 2 500 only 999 ∷ tx 2 499999999 only 999 ∷ tx 2 500 (input_of 7 0 144 (([]) ∷ []) ∷ []) 0 ∷ []) ≡ true ∷ true ∷ true ∷ []
shells = refl

no_shells : map fits_shell (tx 1 500 only 999 ∷ tx 3 500 only 999 ∷ tx 2 499 only 999 ∷ tx 2 500000000 only 999 ∷ tx 2 500 only 1000 ∷ tx 2 500 [] 999 ∷ tx 2 500 (input_of 7 0 144 [] ∷ input_of 7 0 144 [] ∷ []) 999
    ∷ tx 2 500 (input_of 8 0 144 [] ∷ []) 999 ∷ tx 2 500 (input_of 7 1 144 [] ∷ []) 999 ∷ tx 2 500 (input_of 7 0 145 [] ∷ []) 999 ∷ tx 2 500 (input_of 7 0 0 [] ∷ []) 999 ∷ []) ≡ replicate 11 false
no_shells = refl

-- after the program and before a contradiction
shell_order : (judgement_of ways 2 (empty ∷ []) (at program) (Fixed (tx 1 500 only 999)) ≡ refused WrongShell) × (judgement_of ways 1 (empty ∷ []) (at program) (Fixed (tx 1 500 only 999)) ≡ refused WrongShell) × (judgement_of ways 2 (empty ∷ []) (at (0x00 ∷ 0x14 ∷ replicate 20 0x34)) (Fixed (tx 1 500 only 999)) ≡ refused WrongProgram)
    × (judgement_of ways 2 (empty ∷ []) (at program) (Fixed (tx 2 0 (input_of 7 0 0 [] ∷ []) 999)) ≡ refused Contradiction) × (judgement_of ways 1 (one ∷ []) (at program) (Fixed (tx 2 0 (input_of 7 0 0 [] ∷ []) 999)) ≡ Ok (free 1 (yes (Truth 0) ∷ [])))
unfolding judgement_of script_hash_program
shell_order = (refl, refl, refl, refl, refl)

-- a claim keeps the fixed transaction without its witness
bare : bare_shell (Fixed (tx 2 500 (input_of 7 0 144 ((1 ∷ []) ∷ []) ∷ []) 999)) ≡ Fixed (tx 2 500 only 999)
bare = refl

-- an open shell is bare, and so is a fixed transaction whose inputs have no witness item; one item, also an empty one, is one too many
are_bare : IsBare Open × IsBare (Fixed (tx 2 500 only 999)) × IsBare (Fixed (tx 2 500 [] 999))
are_bare = (refl, refl, refl)

-- the witness of a shell's first input
abbrev first_witness : List TxIn → List (List ℕ)
first_witness [] = []
first_witness (i ∷ is) = i.witness

abbrev witness_in : Shell → List (List ℕ)
witness_in Open = []
witness_in (Fixed t) = first_witness t.inputs

not_bare : IsBare (Fixed (tx 2 500 (input_of 7 0 144 ([] ∷ []) ∷ []) 999)) → ⊥
not_bare e = let none : ◌≡◌ {A = List (List ℕ)} ([] ∷ []) [] = ap witness_in e in cc

-- what fits a claim on a path of height 500 and age 144: in a transaction of two inputs, the second of which is the claim's
abbrev spends : ℕ → ℕ → TxIn → Transaction
spends version lock_time input = tx version lock_time (input_of 8 3 5 [] ∷ input ∷ []) 12345

abbrev FitsAt : ℕ → ℕ → ℕ → List (List ℕ) → Type 0
FitsAt version lock_time sequence witness = Fits script locked (one ∷ []) (at program) Open (spends version lock_time (input_of 7 0 sequence witness)) (input_of 7 0 sequence witness)

fits : FitsAt 2 500 144 ((1 ∷ []) ∷ [])
fits = record { among = (1, lit< tt, refl); outpoint = refl; sequence = refl; stands = (refl, lit≤ tt, lit< tt); items = (1 ∷ []) ∷ []; witness = refl; filled = (refl, tt) }

-- a lock time is a height up to 499,999,999
fits_late : FitsAt 2 499999999 144 ((1 ∷ []) ∷ [])
fits_late = record { among = (1, lit< tt, refl); outpoint = refl; sequence = refl; stands = (refl, lit≤ tt, lit< tt); items = (1 ∷ []) ∷ []; witness = refl; filled = (refl, tt) }

no_time : FitsAt 2 500000000 144 ((1 ∷ []) ∷ []) → ⊥
no_time h = omega (arith, h.stands.2)

not_early : FitsAt 2 499 144 ((1 ∷ []) ∷ []) → ⊥
not_early h = omega (arith, h.stands.1)

no_other_version : FitsAt 1 500 144 ((1 ∷ []) ∷ []) → ⊥
no_other_version h = omega (arith, h.stands.0)

no_third_version : FitsAt 3 500 144 ((1 ∷ []) ∷ []) → ⊥
no_third_version h = omega (arith, h.stands.0)

no_other_sequence : FitsAt 2 500 145 ((1 ∷ []) ∷ []) → ⊥
no_other_sequence h = omega (arith, h.sequence)

unfilled : (w : List (List ℕ)) → w ≡ [] → FillsSlots (spend_of (spends 2 500 (input_of 7 0 144 [])) (input_of 7 0 144 []) script 1000) (one ∷ []) (reverse w) → ⊥
unfilled w e f = subst (λ v. FillsSlots (spend_of (spends 2 500 (input_of 7 0 144 [])) (input_of 7 0 144 []) script 1000) (one ∷ []) (reverse v)) e f

no_item_missing : FitsAt 2 500 144 [] → ⊥
no_item_missing h = unfilled h.items (sym h.witness) h.filled

-- the top fills the first slot, and the script stands last where the program is its hash
top_first : Fits script locked (one ∷ empty ∷ []) (at (0x00 ∷ 0x20 ∷ hash)) Open (spends 2 500 (input_of 7 0 144 ([] ∷ (1 ∷ []) ∷ script ∷ []))) (input_of 7 0 144 ([] ∷ (1 ∷ []) ∷ script ∷ []))
top_first = record { among = (1, lit< tt, refl); outpoint = refl; sequence = refl; stands = (refl, lit≤ tt, lit< tt); items = [] ∷ (1 ∷ []) ∷ []; witness = refl; filled = (refl, (refl, tt)) }

-- the fixed transaction, whatever its witness, may stand round a fixed claim, and no other may
fixed_stands : StandsRound locked (Fixed (tx 2 500 only 999)) (tx 2 500 (input_of 7 0 144 ((1 ∷ []) ∷ []) ∷ []) 999)
fixed_stands = refl

no_other_stands : StandsRound locked (Fixed (tx 2 500 only 999)) (tx 2 501 only 999) → ⊥
no_other_stands h = omega (arith, ap (λ t. t.lock_time) h)

no_other_paid : StandsRound locked (Fixed (tx 2 500 only 999)) (tx 2 500 only 998) → ⊥
no_other_paid h = omega (arith, ap (λ t. total_value t.outputs) h)

key_form : IsTrue (is_key (2 ∷ replicate 32 1))
unfolding is_key
key_form = refl

abbrev spend : Spend
spend = record { version = 2; lock_time = 500; sequence = 144; digest = replicate 32 7 }

-- a signature slot is filled by the token of its key over the spend's digest
signature : FillsSlot spend (Sig (record { bytes = 2 ∷ replicate 32 1; form = key_form })) (2 ∷ (replicate 32 1 ++ (replicate 32 7 ++ 1 ∷ [])))
unfolding token_of
signature = refl

-- a preimage slot by 32 bytes of its hash
preimage : FillsSlot spend (Preimage (sha256 (replicate 32 5))) (replicate 32 5)
preimage = (refl, refl)

no_long_preimage : FillsSlot spend (Preimage (sha256 (replicate 33 5))) (replicate 33 5) → ⊥
no_long_preimage h = omega (arith, h.0)
