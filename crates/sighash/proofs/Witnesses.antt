-- Digests do not depend on witnesses.
use Rattle.std.proofs.Common.{◌≡◌, ℕ, zero, suc, List, [], ◌∷◌, ◌++◌, Option, Some, None, refl, sym, ap, ◌∙◌}
use Rattle.std.specs.Prelude.{slice_get, option_map}
use Rattle.digest.specs.Hash.{sha256d}
use Rattle.tx.specs.declared.input.TxIn.{TxIn}
use Rattle.tx.specs.Fields.{Transaction, signed_input, unsigned_inputs, unsigned_transaction}
use Rattle.tx.specs.Spelling.{number, outpoint}
use Rattle.sighash.specs.Signing.{all_outpoints, all_sequences, signed_list, sighash}

unsigned_outpoints : (xs : List TxIn) → all_outpoints (unsigned_inputs xs) ≡ all_outpoints xs
unfolding all_outpoints
unsigned_outpoints [] = refl
unsigned_outpoints (x ∷ xs) = ap (λ (t : List ℕ). outpoint x.outpoint ++ t) (unsigned_outpoints xs)

unsigned_sequences : (xs : List TxIn) → all_sequences (unsigned_inputs xs) ≡ all_sequences xs
unfolding all_sequences
unsigned_sequences [] = refl
unsigned_sequences (x ∷ xs) = ap (λ (t : List ℕ). number 4 x.sequence ++ t) (unsigned_sequences xs)

unsigned_at : (xs : List TxIn) (i : ℕ) → slice_get (unsigned_inputs xs) i ≡ option_map (λ (x : TxIn). signed_input x []) (slice_get xs i)
unsigned_at [] i = refl
unsigned_at (x ∷ xs) zero = refl
unsigned_at (x ∷ xs) (suc i) = unsigned_at xs i

-- what is hashed for an input
pub unsigned_list : (t : Transaction) (x : TxIn) (code : List ℕ) (value : ℕ) → signed_list (unsigned_transaction t) (signed_input x []) code value ≡ signed_list t x code value
unfolding signed_list
unsigned_list t x code value = rw (unsigned_outpoints t.inputs, unsigned_sequences t.inputs) refl

abbrev digest_in : Transaction → List ℕ → ℕ → TxIn → List ℕ
digest_in t code value input = sha256d (signed_list t input code value)

at_input : (t : Transaction) (code : List ℕ) (value : ℕ) (o : Option TxIn) → option_map (digest_in (unsigned_transaction t) code value) (option_map (λ (x : TxIn). signed_input x []) o) ≡ option_map (digest_in t code value) o
at_input t code value None = refl
at_input t code value (Some x) = ap (λ (bytes : List ℕ). Some (sha256d bytes)) (unsigned_list t x code value)

unsigned_digest : (t : Transaction) (index : ℕ) (code : List ℕ) (value : ℕ) → sighash (unsigned_transaction t) index code value ≡ sighash t index code value
unsigned_digest t index code value =
    ap (λ (o : Option TxIn). option_map (digest_in (unsigned_transaction t) code value) o) (unsigned_at t.inputs index)
    ∙ at_input t code value (slice_get t.inputs index)

pub same_digest : (t u : Transaction) (index : ℕ) (code : List ℕ) (value : ℕ) → unsigned_transaction t ≡ unsigned_transaction u → sighash t index code value ≡ sighash u index code value
same_digest t u index code value e =
    sym (unsigned_digest t index code value)
    ∙ ap (λ (x : Transaction). sighash x index code value) e
    ∙ unsigned_digest u index code value
