-- Sizes and locks as items.
use Rattle.std.proofs.Common.{◌≡◌, ℕ, ◌/◌, ◌%◌, ◌^◌, ◌≤◌, Bool, true, false, not, ◌&&◌, nat_le, ◌==◌, List, [], length, Option, Some, None, if◌then◌else◌, eqb-true, le-leb, leb-true, sym, ap, ◌∙◌, refl, arith}
use Rattle.std.specs.Str.{bytes_eq}
use Rattle.std.proofs.lemmas.Bool.{eqb-false, and_parts, and_from, true≢false, agree_below, agree_below_at, false_from_ne_true, not-true}
use Rattle.std.proofs.lemmas.Bool.Decides.{same_from_decides, Decides-eqb}
use Rattle.std.proofs.lemmas.Slice.Eq.{bytes_eq-Decides}
use Rattle.digest.proofs.OutsideVectors.{length-ripemd160}
use Rattle.digest.specs.Hash.{hash160}
use Rattle.script.specs.declared.num.Number.{Number as Signed}
use Rattle.script.specs.declared.spending.Spend.{Spend}
use Rattle.script.specs.Number.{number_of, minimal_bytes_of, digits}
use Rattle.script.specs.Step.{bit_at, age_passes, flag}
use Rattle.facts.specs.declared.symbols.FactOver.TheVariants.{Hash as HashIs}
use Rattle.facts.specs.declared.symbols.SymOver.TheVariants.{Const, Holds}
use Rattle.facts.specs.Meaning.{slot_of, item_for}
use Rattle.script.specs.Step.{Elements}
use Rattle.paths.specs.Rules.{age_bits, named_size, size_by, size_is, hash_is}

-- HASH160 gives 20 bytes
pub hash160-length : (m : List ℕ) → length (hash160 m) ≡ 20
hash160-length m = length-ripemd160 _

-- each number from 0 to 520 is that of its item: by computing
is_numbered : Option Signed → ℕ → Bool
is_numbered None n = false
is_numbered (Some z) n = not z.negative && z.magnitude == n

all_numbered : agree_below (λ n. is_numbered (number_of 4 (minimal_bytes_of n)) n) (λ n. true) 521 ≡ true
unfolding is_numbered number_of minimal_bytes_of digits
all_numbered = refl

numbered_at : (o : Option Signed) (n : ℕ) → is_numbered o n ≡ true → o ≡ Some (record { negative = false; magnitude = n })
unfolding is_numbered
numbered_at None n e = absurd (true≢false (sym e))
numbered_at (Some z) n e =
    let p = and_parts (not z.negative) (z.magnitude == n) e in
    let a : z.negative ≡ false = not-true z.negative p.0 in
    let b : z.magnitude ≡ n = eqb-true z.magnitude n p.1 in
    ap {B = Option Signed} (λ t. Some (record { negative = t; magnitude = z.magnitude })) a ∙ ap {B = Option Signed} (λ t. Some (record { negative = false; magnitude = t })) b

pub number_of-item : (n : ℕ) → n ≤ 520 → number_of 4 (minimal_bytes_of n) ≡ Some (record { negative = false; magnitude = n })
number_of-item n l = numbered_at (number_of 4 (minimal_bytes_of n)) n (agree_below_at (λ n. is_numbered (number_of 4 (minimal_bytes_of n)) n) (λ n. true) 521 n all_numbered (omega arith))

-- a relative lock reads only the bits of the mask
pub age_bits-passes : (spend : Spend) (n : ℕ) → bit_at 31 n ≡ false → age_passes spend (age_bits n) ≡ age_passes spend n
unfolding age_passes
age_bits-passes spend n e =
    let b31 : bit_at 31 (age_bits n) ≡ false = false_from_ne_true _ (λ t. absurd (high n (eqb-true _ _ t))) in
    let b22 : bit_at 22 (age_bits n) ≡ bit_at 22 n = ap (λ k. k == 1) (middle n) in
    let low : age_bits n % 2 ^ 16 ≡ n % 2 ^ 16 = lower n in
    rw (e, b31, b22, low) refl
  where
    high : (n : ℕ) → age_bits n / 2 ^ 31 % 2 ≡ 1 → ⊥
    high n h = omega arith

    middle : (n : ℕ) → age_bits n / 2 ^ 22 % 2 ≡ n / 2 ^ 22 % 2
    middle n = omega arith

    lower : (n : ℕ) → age_bits n % 2 ^ 16 ≡ n % 2 ^ 16
    lower n = omega arith

pub bytes_eq-sym : (a b : List ℕ) → bytes_eq a b ≡ bytes_eq b a
bytes_eq-sym a b = same_from_decides (bytes_eq a b) (bytes_eq b a) (bytes_eq-Decides a b) ((λ e. sym ((bytes_eq-Decides b a).0 e)), λ e. (bytes_eq-Decides b a).1 (sym e))

same_bytes : (a b : List ℕ) → bytes_eq a b ≡ true → a ≡ b
same_bytes a b = (bytes_eq-Decides a b).0

-- the hash of a slot
pub hash_is-good : (spend : Spend) (w : Elements) (i : ℕ) (h : List ℕ) → item_for spend w (hash_is i h) ≡ flag (bytes_eq (hash160 (slot_of w i)) h)
hash_is-good spend w i h = go (length h == 20) refl
  where
    none : (length h == 20) ≡ false → bytes_eq (hash160 (slot_of w i)) h ≡ true → ⊥
    none e t = eqb-false (length h) 20 e (sym (ap length (same_bytes (hash160 (slot_of w i)) h t)) ∙ hash160-length (slot_of w i))

    go : (t : Bool) → (length h == 20) ≡ t → item_for spend w (if t then Holds (HashIs i h) else Const []) ≡ flag (bytes_eq (hash160 (slot_of w i)) h)
    go true e = refl
    go false e = ap flag (sym (false_from_ne_true (bytes_eq (hash160 (slot_of w i)) h) (none e)))

magnitude_in : Option Signed → ℕ
magnitude_in None = 0
magnitude_in (Some z) = z.magnitude

number-injective : (n m : ℕ) → n ≤ 520 → m ≤ 520 → minimal_bytes_of n ≡ minimal_bytes_of m → n ≡ m
unfolding magnitude_in
number-injective n m l k e = ap magnitude_in (sym (number_of-item n l) ∙ ap (number_of 4) e ∙ number_of-item m k)

-- the length of a slot
pub size_is-good : (spend : Spend) (w : Elements) (i : ℕ) (b : List ℕ) → length (slot_of w i) ≤ 520 → item_for spend w (size_is i b) ≡ flag (bytes_eq (minimal_bytes_of (length (slot_of w i))) b)
size_is-good spend w i b l = go (number_of 4 b) refl
  where
    size : ℕ
    size = length (slot_of w i)

    named : bytes_eq (minimal_bytes_of size) b ≡ true → number_of 4 b ≡ Some (record { negative = false; magnitude = size })
    named t = ap (number_of 4) (sym (same_bytes (minimal_bytes_of size) b t)) ∙ number_of-item size l

    record_of : ℕ → Signed
    record_of n = record { negative = false; magnitude = n }

    is_named : Signed → Bool
    is_named z = not z.negative && nat_le z.magnitude 520 && bytes_eq (minimal_bytes_of z.magnitude) b

    good : (z : Signed) → is_named z ≡ true → flag (size == z.magnitude) ≡ flag (bytes_eq (minimal_bytes_of size) b)
    good z e =
        let p = and_parts (not z.negative && nat_le z.magnitude 520) (bytes_eq (minimal_bytes_of z.magnitude) b) e in
        let q = and_parts (not z.negative) (nat_le z.magnitude 520) p.0 in
        let m : z.magnitude ≤ 520 = leb-true z.magnitude 520 q.1 in
        let same : minimal_bytes_of z.magnitude ≡ b = same_bytes (minimal_bytes_of z.magnitude) b p.1 in
        ap flag (same_from_decides (size == z.magnitude) (bytes_eq (minimal_bytes_of size) b) (Decides-eqb size z.magnitude) (
          (λ t. number-injective size z.magnitude l m (same_bytes (minimal_bytes_of size) b t ∙ sym same)),
          λ t. (bytes_eq-Decides (minimal_bytes_of size) b).1 (ap minimal_bytes_of t ∙ same),
        ))

    missed : (z : Signed) → number_of 4 b ≡ Some z → is_named z ≡ false → bytes_eq (minimal_bytes_of size) b ≡ true → ⊥
    missed z o e t =
        let q : ◌≡◌ {A = Option Signed} (Some (record_of size)) (Some z) = sym (named t) ∙ o in
        let r : is_named (record { negative = false; magnitude = size }) ≡ true = and_from (nat_le size 520) (bytes_eq (minimal_bytes_of size) b) (le-leb size 520 l) t in
        let same : record_of size ≡ z = cc in
        true≢false (sym r ∙ ap is_named same ∙ e)

    chosen : (z : Signed) (t : Bool) → number_of 4 b ≡ Some z → is_named z ≡ t → item_for spend w (size_by i (if t then Some z.magnitude else None)) ≡ flag (bytes_eq (minimal_bytes_of size) b)
    chosen z true o e = good z e
    chosen z false o e = ap flag (sym (false_from_ne_true (bytes_eq (minimal_bytes_of size) b) (missed z o e)))

    go : (o : Option Signed) → number_of 4 b ≡ o → item_for spend w (size_by i (named_size b o)) ≡ flag (bytes_eq (minimal_bytes_of size) b)
    go None e = ap flag (sym (false_from_ne_true (bytes_eq (minimal_bytes_of size) b) (λ t. let n = named t in absurd (cc))))
    go (Some z) e = chosen z (is_named z) e refl
