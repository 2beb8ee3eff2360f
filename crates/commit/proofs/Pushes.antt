-- The bytes of a number's push.
use Rattle.std.proofs.Common.{◌≡◌, ◌≢◌, ℕ, ◌^◌, ◌<◌, ◌≤◌, Bool, true, false, leb, List, [], ◌∷◌, length, Some, None, sym, ◌∙◌, refl, arith}
use Rattle.std.proofs.lemmas.Bool.{le-leb, lt-leb, leb-true, leb-false, eq-eqb, ne_eqb}
use Rattle.script.specs.declared.opcode.Op.TheVariants.{Push, Number}
use Rattle.script.specs.Number.{number_of, minimal_bytes_of, digits}
use Rattle.script.proofs.RoundTrip.{read_back}
use Rattle.script.proofs.Numbers.{number_of-long}
use Rattle.terms.specs.Scripts.{number_push}

-- an item that is read has at most five bytes
some_none : {A : Type 0} (x : A) → Some x ≡ None → ⊥
some_none x e = cc

by_length : (b : List ℕ) (n : ℕ) (t : Bool) → number_of 5 b ≡ Some (record { negative = false; magnitude = n }) → leb (length b) 5 ≡ t → length b ≤ 5
by_length b n true e l = leb-true (length b) 5 l
by_length b n false e l = absurd (let none : number_of 5 b ≡ None = number_of-long 5 b (leb-false (length b) 5 l) in some_none _ (sym e ∙ none))

pub push_of_zero : (n : ℕ) → n ≡ 0 → number_push n ≡ Push []
unfolding number_push
push_of_zero n e = rw (eq-eqb n 0 e) refl

pub push_of_small : (n : ℕ) → n ≢ 0 → n ≤ 16 → number_push n ≡ Number n
unfolding number_push
push_of_small n e l = rw (ne_eqb n 0 e, le-leb n 16 l) refl

pub push_of_great : (n : ℕ) → 16 < n → number_push n ≡ Push (minimal_bytes_of n)
unfolding number_push
push_of_great n l = rw (ne_eqb n 0 (λ e. omega arith), lt-leb n 16 l) refl

pub short_push : (n : ℕ) → n < 2 ^ 32 → length (minimal_bytes_of n) ≤ 5
short_push n l = by_length (minimal_bytes_of n) n (leb (length (minimal_bytes_of n)) 5) (read_back n l) refl

pub push_of_32 : number_push 32 ≡ Push (32 ∷ [])
unfolding number_push minimal_bytes_of digits
push_of_32 = refl
