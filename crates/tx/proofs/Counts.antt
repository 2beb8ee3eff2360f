-- Counts, texts and lists of fields: the bytes spell what is read, and what they spell is read.
use Rattle.std.proofs.Common.{◌≡◌, ℕ, zero, suc, ◌^◌, ◌<◌, ◌≤◌, false, cond, ltb, eqb, List, [], ◌∷◌, ◌++◌, length, Result, Ok, Err, refl, ap, subst, ◌∙◌, append_assoc, arith, inl, inr}
use Rattle.std.specs.List.{flat_map, AllByRecursion}
use Rattle.std.proofs.lemmas.Bool.{cases_lt, ltb-false, le-ltb, lt-ltb, eqb-true, eqb-false, ne_eqb}
use Rattle.tx.specs.declared.errors.DecodeError.{DecodeError}
use Rattle.tx.specs.declared.errors.DecodeError.TheVariants.{OverLimit}
use Rattle.tx.specs.declared.limits.TheConstants.{MAX_BYTES}
use Rattle.tx.specs.Parts.{IsBounded}
use Rattle.tx.specs.Spelling.{number, compact_size, bytes_with_length}
use Rattle.tx.specs.Reading.{◌>>=◌, Field, bytes_at, wide_at, compact_size_at, compact_size_up_to, byte_string_at, fields_at, list_at}
use Rattle.tx.proofs.Numbers.{IsBytes, IsBytes-rest, bind_ok, guard_ok, chosen, ok_is, Takes, Takes-then, Reads, taken_reads, wide16, wide32, wide64, wide_reads}

abbrev done : {A : Type 0} → A → Result A DecodeError
done x = Ok x

count_of_byte : (n : ℕ) → n < 0xfd → compact_size n ≡ n ∷ []
unfolding compact_size
count_of_byte n lt = rw (lt-ltb _ _ lt) refl

count_of_16 : (n : ℕ) → 0xfd ≤ n → n < 2 ^ 16 → compact_size n ≡ 0xfd ∷ number 2 n
unfolding compact_size
count_of_16 n le lt = rw (le-ltb _ _ le, lt-ltb _ _ lt) refl

count_of_32 : (n : ℕ) → 2 ^ 16 ≤ n → n < 2 ^ 32 → compact_size n ≡ 0xfe ∷ number 4 n
unfolding compact_size
count_of_32 n le lt =
    let a : ltb n 0xfd ≡ false = le-ltb _ _ (omega arith) in
    rw (a, le-ltb _ _ le, lt-ltb _ _ lt) refl

count_of_64 : (n : ℕ) → 2 ^ 32 ≤ n → compact_size n ≡ 0xff ∷ number 8 n
unfolding compact_size
count_of_64 n le =
    let a : ltb n 0xfd ≡ false = le-ltb _ _ (omega arith) in
    let b : ltb n (2 ^ 16) ≡ false = le-ltb _ _ (omega arith) in
    rw (a, b, le-ltb _ _ le) refl

-- a byte before what was taken
Takes-behind : (b : ℕ) (bytes spelled whole rest : List ℕ) → whole ≡ b ∷ spelled → Takes bytes spelled rest → Takes (b ∷ bytes) whole rest
Takes-behind b bytes spelled whole rest e t = rw e (record { parts = ap (λ (w : List ℕ). b ∷ w) t.parts; rest_fits = t.rest_fits })

abbrev in_byte : ℕ → List ℕ → Field ℕ
in_byte b rest = Ok (b, rest)

abbrev in_eight : ℕ → List ℕ → Field ℕ
in_eight b rest = cond (eqb b 0xff) (wide_at 8 (2 ^ 32) rest) (in_byte b rest)

abbrev in_four : ℕ → List ℕ → Field ℕ
in_four b rest = cond (eqb b 0xfe) (wide_at 4 (2 ^ 16) rest) (in_eight b rest)

abbrev by_first : ℕ → List ℕ → Field ℕ
by_first b rest = cond (eqb b 0xfd) (wide_at 2 0xfd rest) (in_four b rest)

by_first_takes : (b : ℕ) (bytes : List ℕ) (x : ℕ × List ℕ) → IsBytes (b ∷ bytes) → by_first b bytes ≡ Ok x → Takes (b ∷ bytes) (compact_size x.0) x.1 × (x.0 < 2 ^ 64)
by_first_takes b bytes x fits e =
    elim (chosen (eqb b 0xfd) (wide_at 2 0xfd bytes) (in_four b bytes) (Ok x) e) [
      | inl p ↦
          let t = (wide_reads 2 (2 ^ 16) 0xfd wide16).takes bytes x (IsBytes-rest b bytes fits) p.1 in
          (Takes-behind b bytes (number 2 x.0) (compact_size x.0) x.1 (rw (eqb-true _ _ p.0) (count_of_16 x.0 t.1.1 t.1.0)) t.0, omega (arith, t.1.0))
      | inr p ↦ elim (chosen (eqb b 0xfe) (wide_at 4 (2 ^ 16) bytes) (in_eight b bytes) (Ok x) p.1) [
        | inl q ↦
            let t = (wide_reads 4 (2 ^ 32) (2 ^ 16) wide32).takes bytes x (IsBytes-rest b bytes fits) q.1 in
            (Takes-behind b bytes (number 4 x.0) (compact_size x.0) x.1 (rw (eqb-true _ _ q.0) (count_of_32 x.0 t.1.1 t.1.0)) t.0, omega (arith, t.1.0))
        | inr q ↦ elim (chosen (eqb b 0xff) (wide_at 8 (2 ^ 32) bytes) (in_byte b bytes) (Ok x) q.1) [
          | inl r ↦
              let t = (wide_reads 8 (2 ^ 64) (2 ^ 32) wide64).takes bytes x (IsBytes-rest b bytes fits) r.1 in
              (Takes-behind b bytes (number 8 x.0) (compact_size x.0) x.1 (rw (eqb-true _ _ r.0) (count_of_64 x.0 t.1.1)) t.0, t.1.0)
          | inr r ↦
              let small : b < 0xfd = omega (arith, fits 0, eqb-false _ _ p.0, eqb-false _ _ q.0, eqb-false _ _ r.0) in
              subst (λ (y : ℕ × List ℕ). Takes (b ∷ bytes) (compact_size y.0) y.1 × (y.0 < 2 ^ 64)) (ok_is (b, bytes) x r.1)
              (Takes-behind b bytes [] (compact_size b) bytes (count_of_byte b small) (record { parts = refl; rest_fits = IsBytes-rest b bytes fits }), omega arith)
        ]
      ]
    ]

count_takes : (bytes : List ℕ) (x : ℕ × List ℕ) → IsBytes bytes → compact_size_at bytes ≡ Ok x → Takes bytes (compact_size x.0) x.1 × (x.0 < 2 ^ 64)
unfolding compact_size_at
count_takes [] x fits e = absurd cc
count_takes (b ∷ bytes) x fits e = by_first_takes b bytes x fits e

count_again : (n : ℕ) (rest : List ℕ) → n < 2 ^ 64 → compact_size_at (compact_size n ++ rest) ≡ Ok (n, rest)
unfolding compact_size_at
count_again n rest lt =
    elim (cases_lt n 0xfd) [
      | inl byte ↦
          let a : eqb n 0xfd ≡ false = ne_eqb _ _ (omega arith) in
          let b : eqb n 0xfe ≡ false = ne_eqb _ _ (omega arith) in
          let c : eqb n 0xff ≡ false = ne_eqb _ _ (omega arith) in
          rw (count_of_byte n byte, a, b, c) refl
      | inr le ↦ elim (cases_lt n (2 ^ 16)) [
        | inl two ↦ rw (count_of_16 n le two) ((wide_reads 2 (2 ^ 16) 0xfd wide16).again n rest (two, le))
        | inr le2 ↦ elim (cases_lt n (2 ^ 32)) [
          | inl four ↦ rw (count_of_32 n le2 four) ((wide_reads 4 (2 ^ 32) (2 ^ 16) wide32).again n rest (four, le2))
          | inr le4 ↦ rw (count_of_64 n le4) ((wide_reads 8 (2 ^ 64) (2 ^ 32) wide64).again n rest (lt, le4))
        ]
      ]
    ]

pub count_up_to_reads : (limit : ℕ) → limit < 2 ^ 64 → Reads (compact_size_up_to limit) compact_size (λ n. n ≤ limit)
unfolding compact_size_up_to
count_up_to_reads limit small = record {
  takes = λ bytes x fits e.
      let a = bind_ok (compact_size_at bytes) (λ n. cond (ltb limit n.0) (Err OverLimit) (Ok n)) x e in
      let g = guard_ok (ltb limit a.0.0) OverLimit (done a.0) x a.2 in
      let t = count_takes bytes a.0 fits a.1 in
      subst (λ (p : ℕ × List ℕ). Takes bytes (compact_size p.0) p.1 × (p.0 ≤ limit)) (ok_is a.0 x g.1) (t.0, ltb-false _ _ g.0);
  again = λ n rest le.
      let lt : n < 2 ^ 64 = omega arith in
      rw (count_again n rest lt, le-ltb _ _ le) refl;
}

pub text_reads : Reads byte_string_at bytes_with_length IsBounded
unfolding byte_string_at bytes_with_length
text_reads = record {
  takes = λ bytes x fits e.
      let a = bind_ok (compact_size_up_to MAX_BYTES bytes) (λ n. bytes_at n.0 n.1) x e in
      let t = (count_up_to_reads MAX_BYTES (omega arith)).takes bytes a.0 fits a.1 in
      let u = (taken_reads a.0.0).takes a.0.1 x t.0.rest_fits a.2 in
      (Takes-then bytes (compact_size (length x.0)) a.0.1 x.0 x.1 (rw u.1 t.0) u.0, omega (arith, u.1, t.1));
  again = λ b rest le.
      let regrouped : (compact_size (length b) ++ b) ++ rest ≡ compact_size (length b) ++ (b ++ rest) = append_assoc (compact_size (length b)) b rest in
      rw (regrouped, (count_up_to_reads MAX_BYTES (omega arith)).again (length b) (b ++ rest) le) ((taken_reads (length b)).again b rest refl);
}

-- ---- lists of fields

pub many_takes : {A : Type 0} (read : List ℕ → Field A) (spell : A → List ℕ) (Good : A → Type 0) → Reads read spell Good
    → (n : ℕ) (bytes : List ℕ) (x : List A × List ℕ) → IsBytes bytes → fields_at read n bytes ≡ Ok x
    → Takes bytes (flat_map spell x.0) x.1 × (length x.0 ≡ n) × AllByRecursion Good x.0
unfolding fields_at
many_takes {A = A} read spell Good reads zero bytes x fits e =
    subst (λ (p : List A × List ℕ). Takes bytes (flat_map spell p.0) p.1 × (length p.0 ≡ zero) × AllByRecursion Good p.0) (ok_is ([], bytes) x e)
    (record { parts = refl; rest_fits = fits }, refl, tt)
many_takes {A = A} read spell Good reads (suc n) bytes x fits e =
    let a = bind_ok (read bytes) (λ first. fields_at read n first.1 >>= λ others. Ok (first.0 ∷ others.0, others.1)) x e in
    let b = bind_ok (fields_at read n a.0.1) (λ others. Ok (a.0.0 ∷ others.0, others.1)) x a.2 in
    let t = reads.takes bytes a.0 fits a.1 in
    let u = many_takes read spell Good reads n a.0.1 b.0 t.0.rest_fits b.1 in
    subst (λ (p : List A × List ℕ). Takes bytes (flat_map spell p.0) p.1 × (length p.0 ≡ suc n) × AllByRecursion Good p.0) (ok_is (a.0.0 ∷ b.0.0, b.0.1) x b.2)
    (Takes-then bytes (spell a.0.0) a.0.1 (flat_map spell b.0.0) b.0.1 t.0 u.0, ap suc u.1, (t.1, u.2))

pub many_again : {A : Type 0} (read : List ℕ → Field A) (spell : A → List ℕ) (Good : A → Type 0) → Reads read spell Good
    → (xs : List A) (rest : List ℕ) → AllByRecursion Good xs → fields_at read (length xs) (flat_map spell xs ++ rest) ≡ Ok (xs, rest)
unfolding fields_at
many_again read spell Good reads [] rest good = refl
many_again read spell Good reads (x ∷ xs) rest good =
    let regrouped : flat_map spell (x ∷ xs) ++ rest ≡ spell x ++ (flat_map spell xs ++ rest) = append_assoc (spell x) (flat_map spell xs) rest in
    ap (fields_at read (suc (length xs))) regrouped ∙ rw (reads.again x (flat_map spell xs ++ rest) good.0, many_again read spell Good reads xs rest good.1) refl

-- a list after its count
pub record IsCounted {A : Type 0} (Few : ℕ → Type 0) (Good : A → Type 0) (xs : List A) : Type 0 where
  pub count : Few (length xs)
  pub each : AllByRecursion Good xs

pub counted_reads : {A : Type 0} (counts : List ℕ → Field ℕ) (Few : ℕ → Type 0) → Reads counts compact_size Few → (read : List ℕ → Field A) (spell : A → List ℕ) (Good : A → Type 0) → Reads read spell Good
    → Reads (list_at counts read) (λ xs. compact_size (length xs) ++ flat_map spell xs) (IsCounted Few Good)
unfolding list_at
counted_reads counts Few few read spell Good reads = record {
  takes = λ bytes x fits e.
      let a = bind_ok (counts bytes) (λ n. fields_at read n.0 n.1) x e in
      let t = few.takes bytes a.0 fits a.1 in
      let u = many_takes read spell Good reads a.0.0 a.0.1 x t.0.rest_fits a.2 in
      (Takes-then bytes (compact_size (length x.0)) a.0.1 (flat_map spell x.0) x.1 (rw u.1 t.0) u.0, record { count = rw u.1 t.1; each = u.2 });
  again = λ xs rest good.
      let regrouped : (compact_size (length xs) ++ flat_map spell xs) ++ rest ≡ compact_size (length xs) ++ (flat_map spell xs ++ rest) = append_assoc (compact_size (length xs)) (flat_map spell xs) rest in
      rw (regrouped, few.again (length xs) (flat_map spell xs ++ rest) good.count) (many_again read spell Good reads xs rest good.each);
}
