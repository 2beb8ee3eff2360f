-- Number pushes: an item, or an opcode of its own.
use Rattle.std.proofs.Common.{◌≡◌, ℕ, zero, suc, ◌/◌, ◌%◌, ◌^◌, ◌<◌, ◌≤◌, Bool, true, false, eqb, leb, List, [], ◌∷◌, length, Option, Some, None, sym, ap, ◌∙◌, refl, arith}
use Rattle.std.specs.Prelude.{if◌then◌else◌}
use Rattle.std.proofs.lemmas.Bool.{le-leb, lt-leb, leb-true, leb-false, eqb-true, ne_eqb}
use Rattle.script.specs.declared.opcode.Op.{Op}
use Rattle.script.specs.declared.opcode.Op.TheVariants.{Push, Number}
use Rattle.script.specs.declared.num.Number.{Number as Signed}
use Rattle.script.specs.Number.{number_of, minimal_bytes_of, digits}
use Rattle.script.proofs.RoundTrip.{read_back}
use Rattle.script.proofs.Numbers.{number_of-nil, number_of-long}
use Rattle.paths.specs.Patterns.{number_op}
use Rattle.terms.specs.Scripts.{number_push}

-- a number that is not negative
abbrev pub signed : ℕ → Option Signed
signed n = Some (record { negative = false; magnitude = n })

-- the item of a small number is one byte
small_item : (n : ℕ) → 0 < n → n ≤ 16 → minimal_bytes_of n ≡ n ∷ []
unfolding minimal_bytes_of digits
small_item n a b =
    let z : eqb n 0 ≡ false = ne_eqb n 0 (λ e. omega arith) in
    let h : leb 128 n ≡ false = lt-leb 128 n (omega arith) in
    let m : n % 256 ≡ n = omega arith in
    let d : n / 256 ≡ 0 = omega arith in
    rw (z, h, m, d) refl

small_read : (n : ℕ) → 0 < n → n ≤ 16 → number_of 5 (n ∷ []) ≡ signed n
small_read n a b = ap (number_of 5) (sym (small_item n a b)) ∙ read_back n (omega arith)

-- an item that is read has at most five bytes
some_none : {A : Type 0} (x : A) → Some x ≡ None → ⊥
some_none x e = cc

by_length : (b : List ℕ) (n : ℕ) (t : Bool) → number_of 5 b ≡ signed n → leb (length b) 5 ≡ t → length b ≤ 5
by_length b n true e l = leb-true (length b) 5 l
by_length b n false e l = absurd (let none : number_of 5 b ≡ None = number_of-long 5 b (leb-false (length b) 5 l) in some_none _ (sym e ∙ none))

short_item : (b : List ℕ) (n : ℕ) → number_of 5 b ≡ signed n → length b ≤ 5
short_item b n e = by_length b n (leb (length b) 5) e refl

positive : (m : ℕ) → eqb m 0 ≡ false → 0 < m
positive zero e = absurd (let t : true ≡ false = e in cc)
positive (suc m) e = omega arith

-- what holds of each form of a push, holds of the push: an item that is read as the number, or an opcode
pub by_push : (P : Op → Type 0) (n : ℕ) → n < 2 ^ 32
    → ((b : List ℕ) → length b ≤ 5 → number_of 5 b ≡ signed n → P (Push b))
    → (0 < n → n ≤ 16 → number_of 5 (n ∷ []) ≡ signed n → P (Number n))
    → P (number_push n)
unfolding number_push
by_push P n l item number = zero_or (eqb n 0) (leb n 16) refl refl
  where
    long : P (Push (minimal_bytes_of n))
    long = item (minimal_bytes_of n) (short_item (minimal_bytes_of n) n (read_back n l)) (read_back n l)

    zero_or : (z s : Bool) → eqb n 0 ≡ z → leb n 16 ≡ s → P (if z then Push [] else (if s then Number n else Push (minimal_bytes_of n)))
    zero_or true s e f = let z : n ≡ 0 = eqb-true n 0 e in item [] (omega arith) (number_of-nil 5 [] refl ∙ ap signed (sym z))
    zero_or false true e f =
        let p : 0 < n = positive n e in
        let q : n ≤ 16 = leb-true n 16 f in
        number p q (small_read n p q)
    zero_or false false e f = long

-- a pattern encodes numbers in the same way
empty_item : minimal_bytes_of 0 ≡ []
unfolding minimal_bytes_of digits
empty_item = refl

pub pushed_alike : (n : ℕ) → number_op n ≡ number_push n
unfolding number_push
pushed_alike n = by_zero (eqb n 0) refl
  where
    by_zero : (z : Bool) → eqb n 0 ≡ z → number_op n ≡ number_push n
    by_zero true e =
        let z : n ≡ 0 = eqb-true n 0 e in
        let l : leb 1 n ≡ false = lt-leb 1 n (omega arith) in
        rw (e, l) (ap (λ m. Push (minimal_bytes_of m)) z ∙ ap Push empty_item)
    by_zero false e =
        let p = positive n e in
        let l : leb 1 n ≡ true = le-leb 1 n (omega arith) in
        rw (e, l) refl
