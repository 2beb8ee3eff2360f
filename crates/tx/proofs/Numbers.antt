-- Numbers, counts and texts: the bytes spell what is read, and what they spell is read.
use Rattle.std.proofs.Common.{◌≡◌, ℕ, suc, ◌+◌, ◌^◌, ◌<◌, ◌≤◌, ◌⊎◌, Bool, true, false, cond, ltb, List, ◌∷◌, ◌++◌, length, get_or, take, drop, Result, Ok, Err, refl, sym, ap, subst, ◌∙◌, append_assoc, arith, inl, inr}
use Rattle.std.proofs.lemmas.Bool.{cases_lt, ltb-false, le-ltb}
use Rattle.std.proofs.lemmas.List.{take_at, drop_at, take-append-drop, length-append, length-take, get_or-drop, get_or-take, get_or_past}
use Rattle.std.proofs.lemmas.Nat.{le_bytes_2, le_bytes_4, le_bytes_8, from_le_bytes-to_le_bytes_2, from_le_bytes-to_le_bytes_4, from_le_bytes-to_le_bytes_8}
use Rattle.byteorder.specs.Endian.{little_number}
use Rattle.tx.specs.declared.errors.DecodeError.{DecodeError}
use Rattle.tx.specs.declared.errors.DecodeError.TheVariants.{Truncated, LongCount}
use Rattle.tx.specs.Spelling.{number}
use Rattle.tx.specs.Reading.{◌>>=◌, Field, bytes_at, number_at, wide_at}

abbrev pub IsBytes : List ℕ → Type 0
IsBytes bytes = (i : ℕ) → get_or bytes i 0 < 256

IsBytes-drop : (n : ℕ) (bytes : List ℕ) → IsBytes bytes → IsBytes (drop n bytes)
IsBytes-drop n bytes h i = rw get_or-drop (h (n + i))

IsBytes-take : (n : ℕ) (bytes : List ℕ) → IsBytes bytes → IsBytes (take n bytes)
IsBytes-take n bytes h i =
    elim (cases_lt i n) [
      | inl lt ↦ rw (get_or-take n bytes i 0 lt) (h i)
      | inr le ↦ rw (get_or_past (take n bytes) i 0 (omega (arith, length-take n bytes))) (omega arith)
    ]

pub IsBytes-rest : (b : ℕ) (bytes : List ℕ) → IsBytes (b ∷ bytes) → IsBytes bytes
IsBytes-rest b bytes h i = h (suc i)

-- the value of a step that did not fail
pub bind_ok : {A B : Type 0} (r : Result A DecodeError) (f : A → Result B DecodeError) (y : B) → (r >>= f) ≡ Ok y → (x : A) × (r ≡ Ok x) × (f x ≡ Ok y)
bind_ok (Ok x) f y e = (x, refl, e)
bind_ok (Err d) f y e = absurd cc

-- a test that did not fail
pub guard_ok : {A : Type 0} (b : Bool) (d : DecodeError) (r : Result A DecodeError) (y : A) → cond b (Err d) r ≡ Ok y → (b ≡ false) × (r ≡ Ok y)
guard_ok true d r y e = absurd cc
guard_ok false d r y e = (refl, e)

pub guard_passed : {A : Type 0} (b : Bool) (d : DecodeError) (r : Result A DecodeError) (y : A) → cond b r (Err d) ≡ Ok y → (b ≡ true) × (r ≡ Ok y)
guard_passed true d r y e = (refl, e)
guard_passed false d r y e = absurd cc

pub chosen : {A : Type 0} (b : Bool) (x y z : A) → cond b x y ≡ z → ((b ≡ true) × (x ≡ z)) ⊎ ((b ≡ false) × (y ≡ z))
chosen true x y z e = inl (refl, e)
chosen false x y z e = inr (refl, e)

abbrev done : {A : Type 0} → A → Result A DecodeError
done x = Ok x

pub ok_is : {A : Type 0} (x y : A) → done x ≡ done y → x ≡ y
ok_is x y e = cc

-- what a reader took from the front
pub record Takes (bytes spelled rest : List ℕ) : Type 0 where
  pub parts : bytes ≡ spelled ++ rest
  pub rest_fits : IsBytes rest

pub Takes-then : (a x b y c : List ℕ) → Takes a x b → Takes b y c → Takes a (x ++ y) c
Takes-then a x b y c p q = record { parts = p.parts ∙ ap (λ (t : List ℕ). x ++ t) q.parts ∙ sym (append_assoc x y c); rest_fits = q.rest_fits }

-- a reader takes off what `spell` writes for good values, and gives the value back whatever follows
pub record Reads {A : Type 0} (read : List ℕ → Field A) (spell : A → List ℕ) (Good : A → Type 0) : Type 0 where
  pub takes : (bytes : List ℕ) (x : A × List ℕ) → IsBytes bytes → read bytes ≡ Ok x → Takes bytes (spell x.0) x.1 × Good x.0
  pub again : (a : A) (rest : List ℕ) → Good a → read (spell a ++ rest) ≡ Ok (a, rest)

-- ---- n bytes

pub taken_reads : (k : ℕ) → Reads (bytes_at k) (λ x. x) (λ x. length x ≡ k)
unfolding bytes_at
taken_reads k = record {
  takes = λ bytes x fits e.
      let g = guard_ok (ltb (length bytes) k) Truncated (done (take k bytes, drop k bytes)) x e in
      let long : k ≤ length bytes = ltb-false _ _ g.0 in
      subst (λ (p : List ℕ × List ℕ). Takes bytes p.0 p.1 × (length p.0 ≡ k)) (ok_is (take k bytes, drop k bytes) x g.1)
      (record { parts = sym (take-append-drop k bytes); rest_fits = IsBytes-drop k bytes fits }, omega (arith, length-take k bytes));
  again = λ a rest len.
      let long : ltb (length (a ++ rest)) k ≡ false = le-ltb _ _ (omega (arith, length-append a rest)) in
      rw (long, take_at a rest k len, drop_at a rest k len) refl;
}

taken_fits : (k : ℕ) (bytes : List ℕ) (x : List ℕ × List ℕ) → IsBytes bytes → bytes_at k bytes ≡ Ok x → IsBytes x.0
unfolding bytes_at
taken_fits k bytes x fits e =
    let g = guard_ok (ltb (length bytes) k) Truncated (done (take k bytes, drop k bytes)) x e in
    subst (λ (p : List ℕ × List ℕ). IsBytes p.0) (ok_is (take k bytes, drop k bytes) x g.1) (IsBytes-take k bytes fits)

-- ---- numbers

-- numbers of k bytes are below limit
pub record IsWide (k limit : ℕ) : Type 0 where
  pub len : (n : ℕ) → length (number k n) ≡ k
  pub back : (bytes : List ℕ) → length bytes ≡ k → IsBytes bytes → number k (little_number k bytes) ≡ bytes
  pub again : (n : ℕ) → n < limit → little_number k (number k n) ≡ n
  pub below : (bytes : List ℕ) → IsBytes bytes → little_number k bytes < limit

pub wide16 : IsWide 2 (2 ^ 16)
unfolding number
wide16 = record {
  len = λ n. refl;
  back = λ bytes len fits. le_bytes_2 bytes _ len fits (omega arith);
  again = λ n lt. let e = from_le_bytes-to_le_bytes_2 n lt in omega (arith, e);
  below = λ bytes fits. omega (arith, fits 0, fits 1);
}

pub wide32 : IsWide 4 (2 ^ 32)
unfolding number
wide32 = record {
  len = λ n. refl;
  back = λ bytes len fits. le_bytes_4 bytes _ len fits (omega arith);
  again = λ n lt. let e = from_le_bytes-to_le_bytes_4 n lt in omega (arith, e);
  below = λ bytes fits. omega (arith, fits 0, fits 1, fits 2, fits 3);
}

pub wide64 : IsWide 8 (2 ^ 64)
unfolding number
wide64 = record {
  len = λ n. refl;
  back = λ bytes len fits. le_bytes_8 bytes _ len fits (omega arith);
  again = λ n lt. let e = from_le_bytes-to_le_bytes_8 n lt in omega (arith, e);
  below = λ bytes fits. omega (arith, fits 0, fits 1, fits 2, fits 3, fits 4, fits 5, fits 6, fits 7);
}

pub number_reads : (k limit : ℕ) → IsWide k limit → Reads (number_at k) (number k) (λ n. n < limit)
unfolding number_at
number_reads k limit wide = record {
  takes = λ bytes x fits e.
      let a = bind_ok (bytes_at k bytes) (λ digits. Ok (little_number k digits.0, digits.1)) x e in
      let t = (taken_reads k).takes bytes a.0 fits a.1 in
      let f = taken_fits k bytes a.0 fits a.1 in
      let b = wide.back a.0.0 t.1 f in
      subst (λ (p : ℕ × List ℕ). Takes bytes (number k p.0) p.1 × (p.0 < limit)) (ok_is (little_number k a.0.0, a.0.1) x a.2)
      (rw b t.0, wide.below a.0.0 f);
  again = λ n rest lt. rw ((taken_reads k).again (number k n) rest (wide.len n), wide.again n lt) refl;
}

pub wide_reads : (k limit least : ℕ) → IsWide k limit → Reads (wide_at k least) (number k) (λ n. (n < limit) × (least ≤ n))
unfolding wide_at
wide_reads k limit least wide = record {
  takes = λ bytes x fits e.
      let a = bind_ok (number_at k bytes) (λ n. cond (ltb n.0 least) (Err LongCount) (Ok n)) x e in
      let g = guard_ok (ltb a.0.0 least) LongCount (done a.0) x a.2 in
      let t = (number_reads k limit wide).takes bytes a.0 fits a.1 in
      subst (λ (p : ℕ × List ℕ). Takes bytes (number k p.0) p.1 × ((p.0 < limit) × (least ≤ p.0))) (ok_is a.0 x g.1)
      (t.0, (t.1, ltb-false _ _ g.0));
  again = λ n rest fits. rw ((number_reads k limit wide).again n rest fits.0, le-ltb _ _ fits.1) refl;
}
