-- Inputs whose witnesses are set or taken away.
use Rattle.std.proofs.Common.{◌≡◌, ℕ, zero, suc, ◌+◌, ◌<◌, ◌≤◌, List, [], ◌∷◌, ◌++◌, length, get_or, set, take, drop, map, refl, sym, ap, ◌∙◌, add-one, arith}
use Rattle.std.specs.List.{flat_map, AllByRecursion}
use Rattle.std.proofs.lemmas.List.{append-nil, take_all, drop_all}
use Rattle.tx.specs.declared.input.TxIn.{TxIn}
use Rattle.tx.specs.Fields.{Transaction, IsInput, AreInputs, signed_input, inputs_with_witness, unsigned_inputs, transaction_with_witness, unsigned_transaction}
use Rattle.tx.specs.Spelling.{input, body, stripped_spelling, transaction_id}

-- a write at an index
pub set_is : (xs : List TxIn) (i : ℕ) (x : TxIn) (items : List (List ℕ)) → i < length xs → x ≡ get_or xs i x → set xs i (signed_input x items) ≡ inputs_with_witness xs i items
set_is [] i x items lt e = absurd (omega arith)
set_is (y ∷ xs) zero x items lt e = ap (λ (z : TxIn). signed_input z items ∷ xs) e
set_is (y ∷ xs) (suc i) x items lt e = ap (λ (zs : List TxIn). y ∷ zs) (set_is xs i x items (omega arith) e)

-- ---- a loop that takes the witnesses away

-- the first i inputs are stripped, and the others are as they were
abbrev pub stripped_front : ℕ → List TxIn → List TxIn
stripped_front i xs = unsigned_inputs (take i xs) ++ drop i xs

pub unsigned_length : (xs : List TxIn) → length (unsigned_inputs xs) ≡ length xs
unsigned_length [] = refl
unsigned_length (x ∷ xs) = ap suc (unsigned_length xs)

strips_suc : (xs : List TxIn) (i : ℕ) (x : TxIn) → i < length xs → x ≡ get_or (stripped_front i xs) i x → set (stripped_front i xs) i (signed_input x []) ≡ stripped_front (suc i) xs
strips_suc [] i x lt e = absurd (omega arith)
strips_suc (y ∷ xs) zero x lt e = ap (λ (z : TxIn). signed_input z [] ∷ xs) e
strips_suc (y ∷ xs) (suc i) x lt e = ap (λ (zs : List TxIn). signed_input y [] ∷ zs) (strips_suc xs i x (omega arith) e)

pub strips_more : (xs ys : List TxIn) (i : ℕ) (x : TxIn) → ys ≡ stripped_front i xs → i < length xs → x ≡ get_or ys i x → set ys i (signed_input x []) ≡ stripped_front (i + 1) xs
strips_more xs ys i x e lt h =
    let k : i + 1 ≡ suc i = add-one i in
    ap (λ (zs : List TxIn). set zs i (signed_input x [])) e
    ∙ strips_suc xs i x lt (h ∙ ap (λ (zs : List TxIn). get_or zs i x) e)
    ∙ ap (λ (n : ℕ). stripped_front n xs) (sym k)

pub strips_all : (xs ys : List TxIn) (i : ℕ) → ys ≡ stripped_front i xs → length xs ≤ i → ys ≡ unsigned_inputs xs
strips_all xs ys i e le = rw e (rw (take_all i xs le, drop_all i xs le) (append-nil (unsigned_inputs xs)))

unsigned_each : (xs : List TxIn) → AllByRecursion IsInput xs → AllByRecursion IsInput (unsigned_inputs xs)
unsigned_each [] good = tt
unsigned_each (x ∷ xs) good =
    (record { txid = good.0.txid; index = good.0.index; sequence = good.0.sequence; witness = record { count = omega arith; each = tt } }, unsigned_each xs good.1)

pub unsigned_within : (xs : List TxIn) → AreInputs xs → AreInputs (unsigned_inputs xs)
unsigned_within xs good = record { count = omega (arith, unsigned_length xs, good.count); each = unsigned_each xs good.each }

pub strips_within : (xs ys : List TxIn) (i : ℕ) → ys ≡ stripped_front i xs → length xs ≤ i → AreInputs xs → AreInputs ys
strips_within xs ys i e le good = rw (strips_all xs ys i e le) (unsigned_within xs good)

-- ---- laws

unsigned_text : (xs : List TxIn) → flat_map input (unsigned_inputs xs) ≡ flat_map input xs
unfolding input
unsigned_text [] = refl
unsigned_text (x ∷ xs) = ap (λ (t : List ℕ). input x ++ t) (unsigned_text xs)

unsigned_spelling : (t : Transaction) → stripped_spelling (unsigned_transaction t) ≡ stripped_spelling t
unfolding stripped_spelling body
unsigned_spelling t = rw (unsigned_length t.inputs, unsigned_text t.inputs) refl

unsigned_id : (t : Transaction) → transaction_id (unsigned_transaction t) ≡ transaction_id t
unfolding transaction_id
unsigned_id t = rw (unsigned_spelling t) refl

pub same_id : (t u : Transaction) → unsigned_transaction t ≡ unsigned_transaction u → transaction_id t ≡ transaction_id u
same_id t u e = sym (unsigned_id t) ∙ ap transaction_id e ∙ unsigned_id u

pub unsigned_again : (xs : List TxIn) (i : ℕ) (items : List (List ℕ)) → unsigned_inputs (inputs_with_witness xs i items) ≡ unsigned_inputs xs
unsigned_again [] i items = refl
unsigned_again (x ∷ xs) zero items = refl
unsigned_again (x ∷ xs) (suc i) items = ap (λ (zs : List TxIn). signed_input x [] ∷ zs) (unsigned_again xs i items)

pub unsigned_twice : (xs : List TxIn) → unsigned_inputs (unsigned_inputs xs) ≡ unsigned_inputs xs
unsigned_twice [] = refl
unsigned_twice (x ∷ xs) = ap (λ (zs : List TxIn). signed_input x [] ∷ zs) (unsigned_twice xs)
