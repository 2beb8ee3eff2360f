-- The words on constants that may be holes agree with the words on known ones: where they are known, and where the holes are filled.
use Rattle.std.proofs.Common.{◌≡◌, ℕ, ◌<◌, Bool, true, false, not, ◌&&◌, List, [], ◌∷◌, length, Option, Some, None, Result, Ok, Err, sym, ap, ◌∙◌, refl, inl, inr, arith}
use Rattle.std.specs.Prelude.{if◌then◌else◌, nat_lt, ◌==◌, slice_index}
use Rattle.script.specs.declared.opcode.Op.{Op}
use Rattle.script.specs.declared.num.Number.{Number as Signed}
use Rattle.script.specs.Number.{number_of, minimal_bytes_of}
use Rattle.script.specs.Token.{is_key, is_key_start, is_signature, is_token}
use Rattle.script.specs.Step.{◌>>=◌, bit_at, result_if}
use Rattle.script.proofs.Numbers.{number_of-long}
use Rattle.paths.specs.declared.constants.HoleKind.{HoleKind}
use Rattle.paths.specs.declared.constants.HoleKind.TheVariants.{Key, Hash, Number}
use Rattle.paths.specs.declared.constants.Constant.{Constant}
use Rattle.paths.specs.declared.constants.Constant.TheVariants.{Known, Hole}
use Rattle.paths.specs.declared.constants.Amount.{Amount}
use Rattle.paths.specs.declared.constants.Amount.TheVariants.{Known as KnownAmount, Hole as AmountHole}
use Rattle.paths.specs.declared.state.Halt.{Halt}
use Rattle.paths.specs.declared.state.Halt.TheVariants.{NoMemory, Dead, Undecided, TooManyOps}
use Rattle.paths.specs.Maps.{Replacing}
use Rattle.paths.specs.Rules.{plain, is_empty, named_size, count_by, lock_by as lock_of_number}
use Rattle.paths.specs.Holes.{with_holes, fits, blank, pushed_at, hole_bytes, hole_number, magnitude_in, is_low_number, bytes_by, lock_by, age_by, filling}
use Rattle.paths.proofs.MapWords.{Agrees, Respects, Clear}

-- all constants are known
abbrev pub knowing : Replacing (List ℕ) ℕ ℕ Constant (Amount ℕ) (Amount ℕ)
knowing = record { bytes = Known; lock = KnownAmount; age = KnownAmount }

mapped : {A B : Type 0} (f : A → B) (r : Result A Halt) → Agrees true f r (r >>= λ x. Ok (f x))
mapped f (Ok x) = refl
mapped f (Err h) = refl

same : {A : Type 0} (r : Result A Halt) → Agrees true (λ x. x) r r
same (Ok x) = refl
same (Err h) = refl

pub knowing_respects : Respects true knowing plain with_holes
knowing_respects = record {
  known = λ b. refl;
  size = λ c. refl;
  hash = λ c. refl;
  equal = λ c d. refl;
  truth = λ c. refl;
  is_hash = λ c. refl;
  named_size = λ c. refl;
  is_bad_key = λ c. refl;
  signature = λ c. inl (refl, refl);
  extra = λ c. inl (refl, refl);
  count = λ limit c. same (plain.count limit c);
  lock = λ c. mapped KnownAmount (plain.lock c);
  is_off = λ n. refl;
  age_bits = λ n. refl;
}

-- what stands in the place of a hole fits it
pub blank_fits : (kind : HoleKind) → fits kind (blank kind) ≡ true
unfolding fits is_key number_of
blank_fits Key = refl
blank_fits Hash = refl
blank_fits Number = refl

pub hole_fits : (ops : List Op) (kind : HoleKind) (at : ℕ) → fits kind (hole_bytes ops kind at) ≡ true
hole_fits ops kind at = go (fits kind (pushed_at ops at)) refl
  where
    go : (b : Bool) → fits kind (pushed_at ops at) ≡ b → fits kind (if b then pushed_at ops at else blank kind) ≡ true
    go true e = e
    go false e = blank_fits kind

-- lengths
pub key_length : (b : List ℕ) → fits Key b ≡ true → length b ≡ 33
unfolding fits is_key
key_length b e = grind (arith, e)

pub hash_length : (b : List ℕ) → fits Hash b ≡ true → length b ≡ 20
unfolding fits
hash_length b e = grind (arith, e)

is_fit : (b : List ℕ) → is_key b ≡ true → fits Key b ≡ true
unfolding fits
is_fit b e = e

is_hash_fit : (b : List ℕ) → (length b == 20) ≡ true → fits Hash b ≡ true
unfolding fits
is_hash_fit b e = e

fit_key : (b : List ℕ) → fits Key b ≡ true → is_key b ≡ true
unfolding fits
fit_key b e = e

-- a number hole's bytes spell a number below 500,000,000
record IsLow (b : List ℕ) : Type 0 where
  z : Signed
  spelt : number_of 5 b ≡ Some z
  positive : z.negative ≡ false
  low : nat_lt z.magnitude 500000000 ≡ true

low_number : (b : List ℕ) → fits Number b ≡ true → IsLow b
unfolding fits
low_number b e = go (number_of 5 b) refl e
  where
    parts : (x y : Bool) → (not x && y) ≡ true → (x ≡ false) × (y ≡ true)
    parts true y e = absurd (cc)
    parts false y e = (refl, e)

    go : (o : Option Signed) → number_of 5 b ≡ o → is_low_number o ≡ true → IsLow b
    go None s e = absurd (cc)
    go (Some z) s e = let p = parts z.negative (nat_lt z.magnitude 500000000) e in record { z = z; spelt = s; positive = p.0; low = p.1 }

-- bytes that are longer spell none
not_long : (b : List ℕ) (n : ℕ) → fits Number b ≡ true → length b ≡ n → 5 < n → ⊥
not_long b n e l h = let none : number_of 5 b ≡ None = number_of-long 5 b (omega (arith, l, h)) in let s = (low_number b e).spelt in absurd (cc)

no_key : (b : List ℕ) (n : ℕ) → length b ≡ n → (n == 33) ≡ false → is_key b ≡ false
unfolding is_key
no_key b n l h = ap (λ k. (k == 33) && is_key_start (slice_index b 0)) l ∙ ap (λ t. t && is_key_start (slice_index b 0)) h

low_no_key : (b : List ℕ) → fits Number b ≡ true → is_key b ≡ false
low_no_key b e = go (is_key b) refl
  where
    go : (t : Bool) → is_key b ≡ t → is_key b ≡ false
    go true k = absurd (not_long b 33 e (key_length b (is_fit b k)) (omega arith))
    go false k = k

low_no_hash : (b : List ℕ) → fits Number b ≡ true → (length b == 20) ≡ false
low_no_hash b e = go (length b == 20) refl
  where
    go : (t : Bool) → (length b == 20) ≡ t → (length b == 20) ≡ false
    go true k = absurd (not_long b 20 e (hash_length b (is_hash_fit b k)) (omega arith))
    go false k = k

no_signature : (b : List ℕ) (n : ℕ) → length b ≡ n → (n == 0) ≡ false → (n == 66) ≡ false → is_signature b ≡ false
unfolding is_signature is_token
no_signature b n l h k = rw l (rw h (rw k refl))

not_empty : (b : List ℕ) (n : ℕ) → length b ≡ n → (n == 0) ≡ false → is_empty b ≡ false
not_empty [] n l h = let e : (0 == 0) ≡ false = ap (λ k. k == 0) l ∙ h in absurd (cc)
not_empty (x ∷ b) n l h = refl

-- bit 31 is clear
low_bit : (n : ℕ) → nat_lt n 500000000 ≡ true → bit_at 31 n ≡ false
low_bit n h = grind (arith, h)

lax : {A : Type 0} (r : Result A Halt) → Agrees false (λ x. x) r r
lax (Ok x) = refl
lax (Err NoMemory) = refl
lax (Err Dead) = refl
lax (Err Undecided) = tt
lax (Err TooManyOps) = refl

module _ (ops : List Op) where
  key_bytes : (at : ℕ) → length (hole_bytes ops Key at) ≡ 33
  key_bytes at = key_length (hole_bytes ops Key at) (hole_fits ops Key at)

  hash_bytes : (at : ℕ) → length (hole_bytes ops Hash at) ≡ 20
  hash_bytes at = hash_length (hole_bytes ops Hash at) (hole_fits ops Hash at)

  number_bytes : (at : ℕ) → IsLow (hole_bytes ops Number at)
  number_bytes at = low_number (hole_bytes ops Number at) (hole_fits ops Number at)

  no_number : (limit : ℕ) (b : List ℕ) (n : ℕ) → length b ≡ n → limit < n → number_of limit b ≡ None
  no_number limit b n l h = number_of-long limit b (omega (arith, l, h))

  fill_size : (c : Constant) → Agrees false (bytes_by ops) (with_holes.size c) (plain.size (bytes_by ops c))
  fill_size (Known b) = refl
  fill_size (Hole Key at) = ap (λ n. Ok (minimal_bytes_of n)) (key_bytes at)
  fill_size (Hole Hash at) = ap (λ n. Ok (minimal_bytes_of n)) (hash_bytes at)
  fill_size (Hole Number at) = tt

  fill_hash : (c : Constant) → Agrees false (bytes_by ops) (with_holes.hash c) (plain.hash (bytes_by ops c))
  fill_hash (Known b) = refl
  fill_hash (Hole kind at) = tt

  fill_equal : (c d : Constant) → Agrees false (bytes_by ops) (with_holes.equal c d) (plain.equal (bytes_by ops c) (bytes_by ops d))
  fill_equal (Known a) (Known b) = refl
  fill_equal c d = tt

  fill_truth : (c : Constant) → Agrees false (λ b. b) (with_holes.truth c) (plain.truth (bytes_by ops c))
  fill_truth (Known b) = refl
  fill_truth (Hole kind at) = tt

  fill_is_hash : (c : Constant) → with_holes.is_hash c ≡ plain.is_hash (bytes_by ops c)
  fill_is_hash (Known b) = refl
  fill_is_hash (Hole Key at) = sym (ap (λ n. n == 20) (key_bytes at))
  fill_is_hash (Hole Hash at) = sym (ap (λ n. n == 20) (hash_bytes at))
  fill_is_hash (Hole Number at) = sym (low_no_hash (hole_bytes ops Number at) (hole_fits ops Number at))

  fill_named_size : (c : Constant) → Agrees false (λ n. n) (with_holes.named_size c) (plain.named_size (bytes_by ops c))
  fill_named_size (Known b) = refl
  fill_named_size (Hole Key at) = ap (λ o. Ok (named_size (hole_bytes ops Key at) o)) (no_number 4 (hole_bytes ops Key at) 33 (key_bytes at) (omega arith))
  fill_named_size (Hole Hash at) = ap (λ o. Ok (named_size (hole_bytes ops Hash at) o)) (no_number 4 (hole_bytes ops Hash at) 20 (hash_bytes at) (omega arith))
  fill_named_size (Hole Number at) = tt

  fill_bad_key : (c : Constant) → with_holes.is_bad_key c ≡ plain.is_bad_key (bytes_by ops c)
  fill_bad_key (Known b) = refl
  fill_bad_key (Hole Key at) = sym (ap not (fit_key (hole_bytes ops Key at) (hole_fits ops Key at)))
  fill_bad_key (Hole Hash at) = sym (ap not (no_key (hole_bytes ops Hash at) 20 (hash_bytes at) refl))
  fill_bad_key (Hole Number at) = sym (ap not (low_no_key (hole_bytes ops Number at) (hole_fits ops Number at)))

  fill_signature : (c : Constant) → Clear false (with_holes.is_bad_signature c) (with_holes.is_no_signature c) (plain.is_bad_signature (bytes_by ops c)) (plain.is_no_signature (bytes_by ops c))
  fill_signature (Known b) = inl (refl, refl)
  fill_signature (Hole Key at) = inl (sym (ap not (no_signature (hole_bytes ops Key at) 33 (key_bytes at) refl refl)), sym (not_empty (hole_bytes ops Key at) 33 (key_bytes at) refl))
  fill_signature (Hole Hash at) = inl (sym (ap not (no_signature (hole_bytes ops Hash at) 20 (hash_bytes at) refl refl)), sym (not_empty (hole_bytes ops Hash at) 20 (hash_bytes at) refl))
  fill_signature (Hole Number at) = inr (refl, refl, refl)

  fill_extra : (c : Constant) → Clear false (with_holes.is_bad_extra c) (with_holes.is_clear_extra c) (plain.is_bad_extra (bytes_by ops c)) (plain.is_clear_extra (bytes_by ops c))
  fill_extra (Known b) = inl (refl, refl)
  fill_extra (Hole Key at) = inl (sym (ap (λ n. not (n == 0)) (key_bytes at)), refl)
  fill_extra (Hole Hash at) = inl (sym (ap (λ n. not (n == 0)) (hash_bytes at)), refl)
  fill_extra (Hole Number at) = inr (refl, refl, refl)

  fill_count : (limit : ℕ) (c : Constant) → Agrees false (λ n. n) (with_holes.count limit c) (plain.count limit (bytes_by ops c))
  fill_count limit (Known b) = lax (plain.count limit b)
  fill_count limit (Hole Key at) = ap (count_by limit) (no_number 4 (hole_bytes ops Key at) 33 (key_bytes at) (omega arith))
  fill_count limit (Hole Hash at) = ap (count_by limit) (no_number 4 (hole_bytes ops Hash at) 20 (hash_bytes at) (omega arith))
  fill_count limit (Hole Number at) = tt

  mapped_lock : (r : Result ℕ Halt) → Agrees false (lock_by ops) (r >>= λ n. Ok (KnownAmount n)) r
  mapped_lock (Ok n) = refl
  mapped_lock (Err NoMemory) = refl
  mapped_lock (Err Dead) = refl
  mapped_lock (Err Undecided) = tt
  mapped_lock (Err TooManyOps) = refl

  fill_lock : (c : Constant) → Agrees false (lock_by ops) (with_holes.lock c) (plain.lock (bytes_by ops c))
  fill_lock (Known b) = mapped_lock (plain.lock b)
  fill_lock (Hole Key at) = ap lock_of_number (no_number 5 (hole_bytes ops Key at) 33 (key_bytes at) (omega arith))
  fill_lock (Hole Hash at) = ap lock_of_number (no_number 5 (hole_bytes ops Hash at) 20 (hash_bytes at) (omega arith))
  fill_lock (Hole Number at) =
      let l = number_bytes at in
      ap lock_of_number l.spelt ∙ ap (λ t. result_if (not t) Dead (Ok l.z.magnitude)) l.positive ∙ ap Ok (sym (ap magnitude_in l.spelt))

  fill_is_off : (n : Amount ℕ) → with_holes.is_off n ≡ plain.is_off (lock_by ops n)
  fill_is_off (KnownAmount n) = refl
  fill_is_off (AmountHole at) =
      let l = number_bytes at in
      let e : hole_number ops at ≡ l.z.magnitude = ap magnitude_in l.spelt in
      sym (ap (bit_at 31) e ∙ low_bit l.z.magnitude l.low)

  fill_age : (n : Amount ℕ) → age_by ops (with_holes.age_bits n) ≡ plain.age_bits (lock_by ops n)
  fill_age (KnownAmount n) = refl
  fill_age (AmountHole at) = refl

  pub filling_respects : Respects false (filling ops) with_holes plain
  filling_respects = record {
    known = λ b. refl;
    size = fill_size;
    hash = fill_hash;
    equal = fill_equal;
    truth = fill_truth;
    is_hash = fill_is_hash;
    named_size = fill_named_size;
    is_bad_key = fill_bad_key;
    signature = fill_signature;
    extra = fill_extra;
    count = fill_count;
    lock = fill_lock;
    is_off = fill_is_off;
    age_bits = fill_age;
  }
