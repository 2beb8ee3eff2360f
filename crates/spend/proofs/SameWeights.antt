-- The weight of a spend does not depend on the value that it pays.
use Rattle.std.proofs.Common.{◌≡◌, ℕ, suc, ◌+◌, ◌*◌, Bool, true, false, List, [], ◌∷◌, ◌++◌, length, map, refl, arith}
use Rattle.std.specs.Prelude.{if◌then◌else◌}
use Rattle.std.specs.List.{flat_map}
use Rattle.std.proofs.lemmas.List.{length-append}
use Rattle.tx.specs.declared.input.TxIn.{TxIn}
use Rattle.tx.specs.Fields.{Transaction, has_witness}
use Rattle.tx.specs.Spelling.{number, compact_size, bytes_with_length, input, output, body, witnesses, spelling, stripped_spelling}
use Rattle.claim.specs.declared.parts.Slot.{Slot}
use Rattle.claim.specs.declared.parts.Slot.TheVariants.{Sig, Preimage, Exact}
use Rattle.claim.specs.Claims.{ClaimParts, lock_time_of}
use Rattle.filling.specs.Filling.{greatest_of, open_transaction, digest_for}
use Rattle.filling.specs.Spends.{blank_input, unsigned_spend_of, missing_here, missing_on, missing_from, missing_of}
use Rattle.spend.specs.Weights.{weight_of, greatest_weight}
use Rattle.spend.specs.Planning.{paying}

joined : {A : Type 0} (a b c d : List A) → length a ≡ length b → length c ≡ length d → length (a ++ c) ≡ length (b ++ d)
joined a b c d p q = omega (arith, length-append a c, length-append b d, p, q)

-- ---- the bytes

output_same : (v w : ℕ) (script : List ℕ) → length (output (record { value = v; script = script })) ≡ length (output (record { value = w; script = script }))
unfolding output number
output_same v w script = joined (number 8 v) (number 8 w) (bytes_with_length script) (bytes_with_length script) refl refl

outputs_same : (v w : ℕ) (script : List ℕ) → length (flat_map output (paying v script)) ≡ length (flat_map output (paying w script))
outputs_same v w script = joined (output (record { value = v; script = script })) (output (record { value = w; script = script })) [] [] (output_same v w script) refl

body_same : (inputs : List TxIn) (v w : ℕ) (script : List ℕ) → length (body inputs (paying v script)) ≡ length (body inputs (paying w script))
unfolding body
body_same inputs v w script =
    let front = compact_size (length inputs) ++ flat_map input inputs ++ compact_size 1 in
    joined front front (flat_map output (paying v script)) (flat_map output (paying w script)) refl (outputs_same v w script)

abbrev pays : List TxIn → ℕ → ℕ → List ℕ → Transaction
pays inputs lock v script = record { version = 2; inputs = inputs; outputs = paying v script; lock_time = lock }

stripped_same : (inputs : List TxIn) (lock v w : ℕ) (script : List ℕ) → length (stripped_spelling (pays inputs lock v script)) ≡ length (stripped_spelling (pays inputs lock w script))
unfolding stripped_spelling
stripped_same inputs lock v w script =
    let a = body inputs (paying v script) in
    let b = body inputs (paying w script) in
    joined (number 4 2 ++ a) (number 4 2 ++ b) (number 4 lock) (number 4 lock) (joined (number 4 2) (number 4 2) a b refl (body_same inputs v w script)) refl

whole_same : (inputs : List TxIn) (lock v w : ℕ) (script : List ℕ) → length (spelling (pays inputs lock v script)) ≡ length (spelling (pays inputs lock w script))
unfolding spelling
whole_same inputs lock v w script =
    let a = body inputs (paying v script) in
    let b = body inputs (paying w script) in
    let head = number 4 2 ++ (0 ∷ 1 ∷ []) in
    let end = number 4 lock in
    joined (head ++ a ++ witnesses inputs) (head ++ b ++ witnesses inputs) end end
    (joined (head ++ a) (head ++ b) (witnesses inputs) (witnesses inputs) (joined head head a b refl (body_same inputs v w script)) refl) refl

summed : (signed : Bool) (a b x y : ℕ) → a ≡ b → x ≡ y → 3 * a + (if signed then x else a) ≡ 3 * b + (if signed then y else b)
summed true a b x y p q = omega (arith, p, q)
summed false a b x y p q = omega (arith, p)

weight_same : (inputs : List TxIn) (lock v w : ℕ) (script : List ℕ) → weight_of (pays inputs lock v script) ≡ weight_of (pays inputs lock w script)
weight_same inputs lock v w script = summed (has_witness inputs) _ _ _ _ (stripped_same inputs lock v w script) (whole_same inputs lock v w script)

-- ---- the number of signatures

here_same : (i k : ℕ) (d e : List ℕ) (slot : Slot) → length (missing_here i k d slot) ≡ length (missing_here i k e slot)
here_same i k d e (Sig key) = refl
here_same i k d e (Preimage h) = refl
here_same i k d e (Exact b) = refl

on_same : (i : ℕ) (d e : List ℕ) (slots : List Slot) → length (missing_on i d slots) ≡ length (missing_on i e slots)
on_same i d e [] = refl
on_same i d e (slot ∷ below) =
    joined (missing_here i (length below) d slot) (missing_here i (length below) e slot) (missing_on i d below) (missing_on i e below) (here_same i (length below) d e slot) (on_same i d e below)

from_same : (t u : Transaction) (i : ℕ) (claims : List ClaimParts) → length (missing_from t i claims) ≡ length (missing_from u i claims)
from_same t u i [] = refl
from_same t u i (c ∷ claims) =
    joined (missing_on i (digest_for t c) c.slots) (missing_on i (digest_for u c) c.slots) (missing_from t (suc i) claims) (missing_from u (suc i) claims)
    (on_same i (digest_for t c) (digest_for u c) c.slots) (from_same t u (suc i) claims)

-- ---- both

added : (a b m n : ℕ) → a ≡ b → m ≡ n → a + 73 * m ≡ b + 73 * n
added a b m n p q = omega (arith, p, q)

pub same_weight : (claims : List ClaimParts) (script : List ℕ) (ps : List (List ℕ)) (v w : ℕ)
    → greatest_weight (unsigned_spend_of claims (paying v script) ps) (missing_of claims (paying v script)) ≡ greatest_weight (unsigned_spend_of claims (paying w script) ps) (missing_of claims (paying w script))
same_weight claims script ps v w =
    added _ _ _ _ (weight_same (map (blank_input ps) claims) (greatest_of (map lock_time_of claims)) v w script)
    (from_same (open_transaction claims (paying v script)) (open_transaction claims (paying w script)) 0 claims)
