-- One digest signs one input of one transaction, or lists of bytes collide.
use Rattle.std.proofs.Common.{◌≡◌, ◌≢◌, ℕ, ◌^◌, ◌<◌, ◌≤◌, Bool, true, false, List, [], ◌∷◌, ◌++◌, length, Ok, sym, ap, ◌∙◌, refl, inl, inr, append_assoc, length-append, arith}
use Rattle.std.specs.Prelude.{◌⊎◌}
use Rattle.std.specs.List.{AllByRecursion}
use Rattle.std.specs.Str.{bytes_eq}
use Rattle.std.proofs.lemmas.Bool.{false≢true}
use Rattle.std.proofs.lemmas.Slice.Eq.{bytes_eq-Decides}
use Rattle.sha2.proofs.Facts256.{length-sha256}
use Rattle.digest.specs.Hash.{sha256d}
use Rattle.tx.specs.declared.input.OutPoint.{OutPoint}
use Rattle.tx.specs.declared.input.TxIn.{TxIn}
use Rattle.tx.specs.Parts.{IsBounded, Output, IsOutput}
use Rattle.tx.specs.Fields.{Transaction, IsInput, KeepsLimits, signed_input, unsigned_inputs, unsigned_transaction}
use Rattle.tx.specs.Spelling.{number, compact_size, bytes_with_length, outpoint, output}
use Rattle.tx.specs.Reading.{Field, compact_size_up_to}
use Rattle.tx.proofs.Numbers.{ok_is, Reads, taken_reads, wide32, wide64, number_reads}
use Rattle.tx.proofs.Counts.{count_up_to_reads, text_reads}
use Rattle.sighash.specs.Signing.{all_outpoints, all_sequences, all_outputs, signed_list}
use Rattle.sighash.proofs.Tokens.{one_token}
use Rattle.safety.specs.Signing.{Signed, list_of, digest_of, FieldsFit, IsSignable, AreSame, ListsCollide, wholes, outpoints, sequences, outputs, OneDigest, OneToken}
use Rattle.safety.proofs.Slots.{same_bytes}

pair_of : {A : Type 0} (x y : A) (a b : List ℕ) → ◌≡◌ {A = Field A} (Ok (x, a)) (Ok (y, b)) → (x ≡ y) × (a ≡ b)
pair_of {A} x y a b e =
    let f = ok_is {A = A × List ℕ} (x, a) (y, b) e in
    (ap (λ (p : A × List ℕ). p.0) f, ap (λ (p : A × List ℕ). p.1) f)

-- a field that can be read back determines where it ends
fronts : {A : Type 0} (read : List ℕ → Field A) (spell : A → List ℕ) (Good : A → Type 0) → Reads read spell Good → (x y : A) (a b : List ℕ) → Good x → Good y → spell x ++ a ≡ spell y ++ b → (x ≡ y) × (a ≡ b)
fronts read spell Good r x y a b g h e = pair_of x y a b (sym (r.again x a g) ∙ ap read e ∙ r.again y b h)

hashes : (x y a b : List ℕ) → length x ≡ 32 → length y ≡ 32 → x ++ a ≡ y ++ b → (x ≡ y) × (a ≡ b)
hashes x y a b g h e = fronts _ (λ x. x) (λ x. length x ≡ 32) (taken_reads 32) x y a b g h e

words : (x y : ℕ) (a b : List ℕ) → x < 2 ^ 32 → y < 2 ^ 32 → number 4 x ++ a ≡ number 4 y ++ b → (x ≡ y) × (a ≡ b)
words x y a b g h e = fronts _ (number 4) (λ n. n < 2 ^ 32) (number_reads 4 (2 ^ 32) wide32) x y a b g h e

values : (x y : ℕ) (a b : List ℕ) → x < 2 ^ 64 → y < 2 ^ 64 → number 8 x ++ a ≡ number 8 y ++ b → (x ≡ y) × (a ≡ b)
values x y a b g h e = fronts _ (number 8) (λ n. n < 2 ^ 64) (number_reads 8 (2 ^ 64) wide64) x y a b g h e

texts : (x y a b : List ℕ) → IsBounded x → IsBounded y → bytes_with_length x ++ a ≡ bytes_with_length y ++ b → (x ≡ y) × (a ≡ b)
texts x y a b g h e = fronts _ bytes_with_length IsBounded text_reads x y a b g h e

-- bytes of any length after it
long_texts : (x y a b : List ℕ) → length x < 2 ^ 64 → length y < 2 ^ 64 → bytes_with_length x ++ a ≡ bytes_with_length y ++ b → (x ≡ y) × (a ≡ b)
unfolding bytes_with_length
long_texts x y a b g h e =
    let p = fronts (compact_size_up_to 0xffffffffffffffff) compact_size (λ n. n ≤ 0xffffffffffffffff) (count_up_to_reads 0xffffffffffffffff (omega arith)) (length x) (length y) (x ++ a) (y ++ b) (omega (arith, g)) (omega (arith, h))
    (sym (append_assoc (compact_size (length x)) x a) ∙ e ∙ append_assoc (compact_size (length y)) y b) in
    fronts _ (λ z. z) (λ z. length z ≡ length y) (taken_reads (length y)) x y a b p.0 refl p.1

-- an outpoint
point_parts : (o : OutPoint) (a : List ℕ) → outpoint o ++ a ≡ o.txid ++ (number 4 o.index ++ a)
unfolding outpoint
point_parts o a = append_assoc o.txid (number 4 o.index) a

same_point : (o p : OutPoint) → o.txid ≡ p.txid → o.index ≡ p.index → o ≡ p
same_point o p e f = ap (λ (t : List ℕ). record { txid = t; index = o.index }) e ∙ ap (λ (n : ℕ). record { txid = p.txid; index = n }) f

points : (i j : TxIn) (a b : List ℕ) → IsInput (signed_input i []) → IsInput (signed_input j []) → outpoint i.outpoint ++ a ≡ outpoint j.outpoint ++ b → (i.outpoint ≡ j.outpoint) × (a ≡ b)
points i j a b g h e =
    let p = hashes i.outpoint.txid j.outpoint.txid _ _ g.txid h.txid (sym (point_parts i.outpoint a) ∙ e ∙ point_parts j.outpoint b) in
    let q = words i.outpoint.index j.outpoint.index a b g.index h.index p.1 in
    (same_point i.outpoint j.outpoint p.0 q.0, q.1)

same_input : (i j : TxIn) → i.outpoint ≡ j.outpoint → i.sequence ≡ j.sequence → signed_input i [] ≡ signed_input j []
same_input i j e f = ap (λ (o : OutPoint). record { outpoint = o; sequence = i.sequence; witness = [] }) e ∙ ap (λ (n : ℕ). record { outpoint = j.outpoint; sequence = n; witness = [] }) f

-- the bytes of a number are not empty
not_empty : (k n : ℕ) (a : List ℕ) → length (number k n) ≡ k → 0 < k → [] ≡ number k n ++ a → ⊥
not_empty k n a l h e = omega (arith, l, h, ap length e, length-append (number k n) a)

same_inputs : (xs ys : List TxIn) → AllByRecursion IsInput (unsigned_inputs xs) → AllByRecursion IsInput (unsigned_inputs ys) → all_outpoints xs ≡ all_outpoints ys → all_sequences xs ≡ all_sequences ys → unsigned_inputs xs ≡ unsigned_inputs ys
unfolding all_outpoints all_sequences
same_inputs [] [] g h e f = refl
same_inputs [] (y ∷ ys) g h e f = absurd (not_empty 4 y.sequence (all_sequences ys) (wide32.len y.sequence) (omega arith) f)
same_inputs (x ∷ xs) [] g h e f = absurd (not_empty 4 x.sequence (all_sequences xs) (wide32.len x.sequence) (omega arith) (sym f))
same_inputs (x ∷ xs) (y ∷ ys) g h e f =
    let p = points x y (all_outpoints xs) (all_outpoints ys) g.0 h.0 e in
    let q = words x.sequence y.sequence (all_sequences xs) (all_sequences ys) g.0.sequence h.0.sequence f in
    let r = same_inputs xs ys g.1 h.1 p.1 q.1 in
    let s = same_input x y p.0 q.0 in
    rw (s, r) refl

output_parts : (o : Output) (a : List ℕ) → output o ++ a ≡ number 8 o.value ++ (bytes_with_length o.script ++ a)
unfolding output
output_parts o a = append_assoc (number 8 o.value) (bytes_with_length o.script) a

same_output : (o p : Output) → o.value ≡ p.value → o.script ≡ p.script → o ≡ p
same_output o p e f = ap (λ (n : ℕ). record { value = n; script = o.script }) e ∙ ap (λ (s : List ℕ). record { value = p.value; script = s }) f

output_there : (o : Output) (a : List ℕ) → [] ≡ output o ++ a → ⊥
output_there o a e = not_empty 8 o.value (bytes_with_length o.script ++ a) (wide64.len o.value) (omega arith) (e ∙ output_parts o a)

abbrev OutputsFit : List Output → Type 0
OutputsFit os = AllByRecursion (λ (o : Output). (o.value < 2 ^ 64) × (length o.script < 2 ^ 64)) os

same_outputs : (xs ys : List Output) → OutputsFit xs → OutputsFit ys → all_outputs xs ≡ all_outputs ys → xs ≡ ys
unfolding all_outputs
same_outputs [] [] g h e = refl
same_outputs [] (y ∷ ys) g h e = absurd (output_there y (all_outputs ys) e)
same_outputs (x ∷ xs) [] g h e = absurd (output_there x (all_outputs xs) (sym e))
same_outputs (x ∷ xs) (y ∷ ys) g h e =
    let p = values x.value y.value _ _ g.0.0 h.0.0 (sym (output_parts x (all_outputs xs)) ∙ e ∙ output_parts y (all_outputs ys)) in
    let q = long_texts x.script y.script (all_outputs xs) (all_outputs ys) g.0.1 h.0.1 p.1 in
    let r = same_outputs xs ys g.1 h.1 q.1 in
    let s = same_output x y p.0 q.0 in
    rw (s, r) refl

-- the list of what is signed, field by field
list_parts : (s : Signed) → list_of s ≡
    number 4 s.transaction.version ++ (sha256d (all_outpoints s.transaction.inputs) ++ (sha256d (all_sequences s.transaction.inputs) ++ (outpoint s.input.outpoint ++ (bytes_with_length s.code ++ (number 8 s.value ++ (number 4 s.input.sequence ++ (sha256d (all_outputs s.transaction.outputs) ++ (number 4 s.transaction.lock_time ++ number 4 1))))))))
unfolding signed_list
list_parts s = simp append_assoc

record SameFields (s z : Signed) : Type 0 where
  version : s.transaction.version ≡ z.transaction.version
  outpoints : sha256d (all_outpoints s.transaction.inputs) ≡ sha256d (all_outpoints z.transaction.inputs)
  sequences : sha256d (all_sequences s.transaction.inputs) ≡ sha256d (all_sequences z.transaction.inputs)
  point : s.input.outpoint ≡ z.input.outpoint
  code : s.code ≡ z.code
  value : s.value ≡ z.value
  sequence : s.input.sequence ≡ z.input.sequence
  outputs : sha256d (all_outputs s.transaction.outputs) ≡ sha256d (all_outputs z.transaction.outputs)
  lock_time : s.transaction.lock_time ≡ z.transaction.lock_time

same_fields : (s z : Signed) → IsSignable s → IsSignable z → list_of s ≡ list_of z → SameFields s z
same_fields s z g h e =
    let a = words s.transaction.version z.transaction.version _ _ g.transaction.version h.transaction.version (sym (list_parts s) ∙ e ∙ list_parts z) in
    let b = hashes _ _ _ _ (length-sha256 _) (length-sha256 _) a.1 in
    let c = hashes _ _ _ _ (length-sha256 _) (length-sha256 _) b.1 in
    let d = points s.input z.input _ _ g.input h.input c.1 in
    let f = texts s.code z.code _ _ g.code h.code d.1 in
    let i = values s.value z.value _ _ g.value h.value f.1 in
    let j = words s.input.sequence z.input.sequence _ _ g.input.sequence h.input.sequence i.1 in
    let k = hashes _ _ _ _ (length-sha256 _) (length-sha256 _) j.1 in
    let l = words s.transaction.lock_time z.transaction.lock_time _ _ g.transaction.lock_time h.transaction.lock_time k.1 in
    record { version = a.0; outpoints = b.0; sequences = c.0; point = d.0; code = f.0; value = i.0; sequence = j.0; outputs = k.0; lock_time = l.0 }

different : (a b : List ℕ) → bytes_eq a b ≡ false → a ≢ b
different a b e d = false≢true (sym e ∙ (bytes_eq-Decides a b).1 d)

same_transaction : (t u : Transaction) → t.version ≡ u.version → unsigned_inputs t.inputs ≡ unsigned_inputs u.inputs → t.outputs ≡ u.outputs → t.lock_time ≡ u.lock_time → unsigned_transaction t ≡ unsigned_transaction u
same_transaction t u a b c d =
    ap (λ (n : ℕ). record { version = n; inputs = unsigned_inputs t.inputs; outputs = t.outputs; lock_time = t.lock_time }) a
    ∙ ap (λ (is : List TxIn). record { version = u.version; inputs = is; outputs = t.outputs; lock_time = t.lock_time }) b
    ∙ ap (λ (os : List Output). record { version = u.version; inputs = unsigned_inputs u.inputs; outputs = os; lock_time = t.lock_time }) c
    ∙ ap (λ (n : ℕ). record { version = u.version; inputs = unsigned_inputs u.inputs; outputs = u.outputs; lock_time = n }) d

with_fields : (s z : Signed) → IsSignable s → IsSignable z → SameFields s z → AreSame s z ⊎ ListsCollide s z
with_fields s z g h f =
    by (bytes_eq (all_outpoints s.transaction.inputs) (all_outpoints z.transaction.inputs)) (bytes_eq (all_sequences s.transaction.inputs) (all_sequences z.transaction.inputs)) (bytes_eq (all_outputs s.transaction.outputs) (all_outputs z.transaction.outputs)) refl refl refl
  where
    by : (a b c : Bool) → bytes_eq (all_outpoints s.transaction.inputs) (all_outpoints z.transaction.inputs) ≡ a → bytes_eq (all_sequences s.transaction.inputs) (all_sequences z.transaction.inputs) ≡ b
        → bytes_eq (all_outputs s.transaction.outputs) (all_outputs z.transaction.outputs) ≡ c → AreSame s z ⊎ ListsCollide s z
    by false b c i j k = inr (outpoints (different _ _ i, f.outpoints))
    by true false c i j k = inr (sequences (different _ _ j, f.sequences))
    by true true false i j k = inr (outputs (different _ _ k, f.outputs))
    by true true true i j k =
        inl (record {
          transaction = same_transaction s.transaction z.transaction f.version
              (same_inputs s.transaction.inputs z.transaction.inputs g.transaction.inputs h.transaction.inputs (same_bytes _ _ i) (same_bytes _ _ j))
              (same_outputs s.transaction.outputs z.transaction.outputs g.transaction.outputs h.transaction.outputs (same_bytes _ _ k)) f.lock_time;
          input = same_input s.input z.input f.point f.sequence;
          code = f.code;
          value = f.value;
        })

pub one_digest : OneDigest
one_digest s z g h e = by (bytes_eq (list_of s) (list_of z)) refl
  where
    by : (b : Bool) → bytes_eq (list_of s) (list_of z) ≡ b → AreSame s z ⊎ ListsCollide s z
    by true f = with_fields s z g h (same_fields s z g h (same_bytes (list_of s) (list_of z) f))
    by false f = inr (wholes (different (list_of s) (list_of z) f, e))

pub one_token_signs : OneToken
one_token_signs key other s z l g h e =
    let p = one_token key other (digest_of s) (digest_of z) l e in
    (p.0, one_digest s z g h p.1)

-- ---- what keeps the limits fits

pub bare_input : (i : TxIn) → IsInput i → IsInput (signed_input i [])
bare_input i g = record { txid = g.txid; index = g.index; sequence = g.sequence; witness = record { count = omega arith; each = tt } }

inputs_fit : (xs : List TxIn) → AllByRecursion IsInput xs → AllByRecursion IsInput (unsigned_inputs xs)
inputs_fit [] g = tt
inputs_fit (x ∷ xs) g = (bare_input x g.0, inputs_fit xs g.1)

outputs_fit : (os : List Output) → AllByRecursion IsOutput os → OutputsFit os
outputs_fit [] g = tt
outputs_fit (o ∷ os) g = let v = g.0.value in let s = g.0.script in ((omega (arith, v), omega (arith, s)), outputs_fit os g.1)

pub limits_fit : (t : Transaction) → KeepsLimits t → FieldsFit t
limits_fit t k = record { version = k.version; inputs = inputs_fit t.inputs k.inputs.each; outputs = outputs_fit t.outputs k.outputs.each; lock_time = k.lock_time }
