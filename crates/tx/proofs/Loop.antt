-- Reading fields one after the other, as a loop does.
use Rattle.std.proofs.Common.{◌≡◌, ℕ, suc, ◌-◌, ◌+◌, ◌≤◌, ◌<◌, List, [], ◌∷◌, ◌++◌, length, drop, get_or, Result, Ok, Err, refl, sym, ap, ◌∙◌, append_assoc, add-one, arith, length-append, drop-cons}
use Rattle.std.proofs.lemmas.List.{append-nil, drop_all}
use Rattle.tx.specs.declared.errors.DecodeError.{DecodeError}
use Rattle.tx.specs.declared.errors.DecodeError.TheVariants.{NoMemory, Truncated, LongCount, BadMarker, NoInputs, NoWitness, ValueTooLarge, Trailing, OverLimit}
use Rattle.tx.specs.declared.input.TxIn.{TxIn}
use Rattle.tx.specs.Reading.{◌>>=◌, Field, Fails, fields_at, signed_input_at, signed_inputs_at}

-- what was read before, and what is still read
abbrev pub with_front : {A : Type 0} → List A → Field (List A) → Field (List A)
with_front front read = read >>= λ x. Ok (front ++ x.0, x.1)

-- the state of a loop over `count` fields
pub record SoFar {A : Type 0} (read : List ℕ → Field A) (front : List A) (count i : ℕ) (rest bytes : List ℕ) : Type 0 where
  pub told : with_front front (fields_at read (count - i) rest) ≡ fields_at read count bytes
  pub len : length front ≡ i

regroup : {A : Type 0} (front : List A) (n : A) (read : Field (List A)) → with_front front (read >>= λ x. Ok (n ∷ x.0, x.1)) ≡ with_front (front ++ n ∷ []) read
regroup {A = A} front n (Ok x) = ap (λ (ns : List A). Ok (ns, x.1)) (simp append_assoc)
regroup front n (Err f) = refl

-- a fault that is met is the answer
pub fails_is : {A B : Type 0} (e : DecodeError) (first : Result A DecodeError) (total : Result B DecodeError) → Fails e first → (first ≡ Err e → total ≡ Err e) → Fails e total
fails_is NoMemory first total h k = tt
fails_is Truncated first total h k = k h
fails_is LongCount first total h k = k h
fails_is BadMarker first total h k = k h
fails_is NoInputs first total h k = k h
fails_is NoWitness first total h k = k h
fails_is ValueTooLarge first total h k = k h
fails_is Trailing first total h k = k h
fails_is OverLimit first total h k = k h

pub goes_on : {A : Type 0} (read : List ℕ → Field A) (front : List A) (count i : ℕ) (rest bytes : List ℕ) (n : A) (after : List ℕ) → i < count → read rest ≡ Ok (n, after)
    → SoFar read front count i rest bytes → SoFar read (front ++ n ∷ []) count (i + 1) after bytes
unfolding fields_at
goes_on read front count i rest bytes n after lt h so_far =
    let k : count - i ≡ suc (count - (i + 1)) = omega arith in
    let one : with_front front (fields_at read (count - i) rest) ≡ with_front (front ++ n ∷ []) (fields_at read (count - (i + 1)) after) = rw (k, h) (regroup front n (fields_at read (count - (i + 1)) after)) in
    record { told = sym one ∙ so_far.told; len = omega (arith, length-append front (n ∷ []), so_far.len) }

pub ends : {A : Type 0} (e : DecodeError) (read : List ℕ → Field A) (front : List A) (count i : ℕ) (rest bytes : List ℕ) → i < count → Fails e (read rest)
    → SoFar read front count i rest bytes → Fails e (fields_at read count bytes)
unfolding fields_at
ends e read front count i rest bytes lt h so_far = fails_is e (read rest) (fields_at read count bytes) h (λ f.
    let k : count - i ≡ suc (count - (i + 1)) = omega arith in
    let one : with_front front (fields_at read (count - i) rest) ≡ Err e = rw (k, f) refl in
    sym so_far.told ∙ one)

pub is_done : {A : Type 0} (read : List ℕ → Field A) (front : List A) (count i : ℕ) (rest bytes : List ℕ) → count ≤ i → SoFar read front count i rest bytes → fields_at read count bytes ≡ Ok (front, rest)
unfolding fields_at
is_done {A = A} read front count i rest bytes le so_far =
    let k : count - i ≡ 0 = omega arith in
    let one : with_front front (fields_at read (count - i) rest) ≡ Ok (front, rest) = rw k (ap (λ (ns : List A). Ok (ns, rest)) (append-nil front)) in
    sym so_far.told ∙ one

drop_here : (xs : List TxIn) (i : ℕ) (x : TxIn) → i < length xs → x ≡ get_or xs i x → drop i xs ≡ x ∷ drop (i + 1) xs
drop_here xs i x lt is = rw add-one (drop-cons xs i x lt ∙ ap (λ (y : TxIn). y ∷ drop (suc i) xs) (sym is))

-- the state of a loop over inputs that are not yet signed
pub record SignedSoFar (front unsigned : List TxIn) (i : ℕ) (rest bytes : List ℕ) : Type 0 where
  pub told : with_front front (signed_inputs_at (drop i unsigned) rest) ≡ signed_inputs_at unsigned bytes
  pub len : length front ≡ i

pub signed_goes_on : (front unsigned : List TxIn) (i : ℕ) (rest bytes : List ℕ) (input n : TxIn) (after : List ℕ) → i < length unsigned → input ≡ get_or unsigned i input → signed_input_at input rest ≡ Ok (n, after)
    → SignedSoFar front unsigned i rest bytes → SignedSoFar (front ++ n ∷ []) unsigned (i + 1) after bytes
unfolding signed_inputs_at
signed_goes_on front unsigned i rest bytes input n after lt is h so_far =
    let k : drop i unsigned ≡ input ∷ drop (i + 1) unsigned = drop_here unsigned i input lt is in
    let one : with_front front (signed_inputs_at (drop i unsigned) rest) ≡ with_front (front ++ n ∷ []) (signed_inputs_at (drop (i + 1) unsigned) after) = rw (k, h) (regroup front n (signed_inputs_at (drop (i + 1) unsigned) after)) in
    record { told = sym one ∙ so_far.told; len = omega (arith, length-append front (n ∷ []), so_far.len) }

pub signed_ends : (e : DecodeError) (front unsigned : List TxIn) (i : ℕ) (rest bytes : List ℕ) (input : TxIn) → i < length unsigned → input ≡ get_or unsigned i input → Fails e (signed_input_at input rest)
    → SignedSoFar front unsigned i rest bytes → Fails e (signed_inputs_at unsigned bytes)
unfolding signed_inputs_at
signed_ends e front unsigned i rest bytes input lt is h so_far = fails_is e (signed_input_at input rest) (signed_inputs_at unsigned bytes) h (λ f.
    let k : drop i unsigned ≡ input ∷ drop (i + 1) unsigned = drop_here unsigned i input lt is in
    let one : with_front front (signed_inputs_at (drop i unsigned) rest) ≡ Err e = rw (k, f) refl in
    sym so_far.told ∙ one)

pub signed_is_done : (front unsigned : List TxIn) (i : ℕ) (rest bytes : List ℕ) → length unsigned ≤ i → SignedSoFar front unsigned i rest bytes → signed_inputs_at unsigned bytes ≡ Ok (front, rest)
unfolding signed_inputs_at
signed_is_done front unsigned i rest bytes le so_far =
    let k : drop i unsigned ≡ [] = drop_all i unsigned le in
    let one : with_front front (signed_inputs_at (drop i unsigned) rest) ≡ Ok (front, rest) = rw k (ap (λ (ns : List TxIn). Ok (ns, rest)) (append-nil front)) in
    sym so_far.told ∙ one
