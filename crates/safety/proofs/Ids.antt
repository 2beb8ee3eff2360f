-- One id is of one transaction, but for its witnesses.
use Rattle.std.proofs.Common.{◌≡◌, ℕ, Bool, true, false, List, [], ◌∷◌, ◌++◌, sym, ap, ◌∙◌, refl, inl, inr, arith}
use Rattle.std.specs.Prelude.{◌⊎◌}
use Rattle.std.specs.List.{flat_map}
use Rattle.std.specs.Str.{bytes_eq}
use Rattle.std.proofs.lemmas.Bool.{false≢true}
use Rattle.std.proofs.lemmas.Slice.Eq.{bytes_eq-Decides}
use Rattle.digest.specs.Hash.{sha256d, Collide}
use Rattle.tx.specs.declared.input.TxIn.{TxIn}
use Rattle.tx.specs.Fields.{Transaction, KeepsLimits, has_witness, unsigned_inputs, unsigned_transaction}
use Rattle.tx.specs.Spelling.{input, body, stripped_spelling, IsStripped, transaction_id}
use Rattle.tx.proofs.Whole.{one_stripped_value}
use Rattle.tx.proofs.Witnesses.{unsigned_length, unsigned_within}
use Rattle.safety.specs.Ids.{OneId}

-- ---- without its witnesses

unsigned_text : (xs : List TxIn) → flat_map input (unsigned_inputs xs) ≡ flat_map input xs
unfolding input
unsigned_text [] = refl
unsigned_text (x ∷ xs) = ap (λ (t : List ℕ). input x ++ t) (unsigned_text xs)

pub unsigned_bytes : (t : Transaction) → stripped_spelling (unsigned_transaction t) ≡ stripped_spelling t
unfolding stripped_spelling body
unsigned_bytes t = rw (unsigned_length t.inputs, unsigned_text t.inputs) refl

no_witness : (xs : List TxIn) → has_witness (unsigned_inputs xs) ≡ false
no_witness [] = refl
no_witness (x ∷ xs) = no_witness xs

-- a transaction without its witnesses keeps the limits that it keeps with them
pub unsigned_limits : (t : Transaction) → KeepsLimits t → KeepsLimits (unsigned_transaction t)
unsigned_limits t k = record {
  version = k.version;
  some_input = omega (arith, unsigned_length t.inputs, k.some_input);
  inputs = unsigned_within t.inputs k.inputs;
  outputs = k.outputs;
  lock_time = k.lock_time;
}

-- the form without marker, flag and witnesses spells it
stripped : (t : Transaction) → KeepsLimits (unsigned_transaction t) → IsStripped (unsigned_transaction t) (stripped_spelling t)
stripped t k = record {
  limits = k;
  unsigned = no_witness t.inputs;
  spelled = sym (unsigned_bytes t);
}

pub same_stripped : (t u : Transaction) → KeepsLimits (unsigned_transaction t) → KeepsLimits (unsigned_transaction u) → stripped_spelling t ≡ stripped_spelling u → unsigned_transaction t ≡ unsigned_transaction u
same_stripped t u k l e =
    let s = stripped u l in
    one_stripped_value (unsigned_transaction t) (unsigned_transaction u) (stripped_spelling t) (stripped t k) (record { limits = s.limits; unsigned = s.unsigned; spelled = e ∙ s.spelled })

-- ---- by its id

-- two strings of one hash are the same, or they collide
pub same_or_collide : (hash : List ℕ → List ℕ) (a b : List ℕ) → hash a ≡ hash b → (a ≡ b) ⊎ Collide hash a b
same_or_collide hash a b e = by (bytes_eq a b) refl
  where
    by : (t : Bool) → bytes_eq a b ≡ t → (a ≡ b) ⊎ Collide hash a b
    by true f = inl ((bytes_eq-Decides a b).0 f)
    by false f = inr (λ d. false≢true (sym f ∙ (bytes_eq-Decides a b).1 d), e)

pub id_is : (t : Transaction) → transaction_id t ≡ sha256d (stripped_spelling t)
unfolding transaction_id
id_is t = refl

pub one_unsigned_id : (t u : Transaction) → KeepsLimits (unsigned_transaction t) → KeepsLimits (unsigned_transaction u) → transaction_id t ≡ transaction_id u
    → (unsigned_transaction t ≡ unsigned_transaction u) ⊎ Collide sha256d (stripped_spelling t) (stripped_spelling u)
one_unsigned_id t u k l e = by (same_or_collide sha256d (stripped_spelling t) (stripped_spelling u) (sym (id_is t) ∙ e ∙ id_is u))
  where
    by : (stripped_spelling t ≡ stripped_spelling u) ⊎ Collide sha256d (stripped_spelling t) (stripped_spelling u) → (unsigned_transaction t ≡ unsigned_transaction u) ⊎ Collide sha256d (stripped_spelling t) (stripped_spelling u)
    by (inl s) = inl (same_stripped t u k l s)
    by (inr c) = inr c

pub one_id : OneId
one_id t u k l = one_unsigned_id t u (unsigned_limits t k) (unsigned_limits u l)
