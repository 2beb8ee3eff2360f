-- What is read as a signature in strict DER is spelled as one, and the other way round.
use Rattle.std.proofs.Common.{◌≡◌, ◌<◌, ◌≤◌, ◌+◌, ℕ, Bool, true, false, not, List, [], ◌∷◌, ◌++◌, length, take, drop, arith, refl, subst, sym, ap, ◌∙◌, nat_le, nat_lt, le-leb, leb-true, eq-eqb, length-append}
use Rattle.std.specs.Prelude.{Option, Some, None, ◌&&◌, ◌||◌, ◌==◌, if◌then◌else◌, slice_index}
use Rattle.std.proofs.lemmas.Bool.{and_parts, and_from, eqb-true}
use Rattle.std.proofs.lemmas.List.{take-append-drop, length-take-le}
use Rattle.std.proofs.Math.Seq.{take-append_seam, drop-append_seam}
use Rattle.enforce_c.specs.Der.{is_shortest, number_spelling, signature_spelling, IsDer, after_number, is_hash_type, is_last_number, is_der}

-- ---- by indices

pub shortest_none : (number : List ℕ) → length number ≡ 0 → is_shortest number ≡ false
shortest_none [] h = refl
shortest_none (b ∷ bytes) h = absurd (omega (arith, h))

pub shortest_one : (number : List ℕ) → length number ≡ 1 → is_shortest number ≡ nat_lt (slice_index number 0) 0x80
shortest_one [] h = absurd (omega (arith, h))
shortest_one (b ∷ []) h = refl
shortest_one (b ∷ c ∷ bytes) h = absurd (omega (arith, h))

pub shortest_more : (number : List ℕ) → 2 ≤ length number → is_shortest number ≡ (nat_lt (slice_index number 0) 0x80 && (not (slice_index number 0 == 0) || nat_le 0x80 (slice_index number 1)))
shortest_more [] h = absurd (omega (arith, h))
shortest_more (b ∷ []) h = absurd (omega (arith, h))
shortest_more (b ∷ c ∷ bytes) h = refl

pub after_of : (bytes : List ℕ) → 2 ≤ length bytes → after_number bytes
    ≡ (if slice_index bytes 0 == 0x02 && (nat_le (slice_index bytes 1) (length (drop 2 bytes)) && is_shortest (take (slice_index bytes 1) (drop 2 bytes))) then Some (drop (slice_index bytes 1) (drop 2 bytes)) else None)
after_of [] h = absurd (omega (arith, h))
after_of (tag ∷ []) h = absurd (omega (arith, h))
after_of (tag ∷ size ∷ bytes) h = refl

pub after_none : (bytes : List ℕ) → length bytes < 2 → after_number bytes ≡ None
after_none [] h = refl
after_none (tag ∷ []) h = refl
after_none (tag ∷ size ∷ bytes) h = absurd (omega (arith, h))

pub der_of : (item : List ℕ) → 2 ≤ length item → is_der item
    ≡ (nat_le (length (drop 2 item)) 71 && (slice_index item 0 == 0x30 && (slice_index item 1 + 1 == length (drop 2 item) && is_last_number (after_number (drop 2 item)))))
der_of [] h = absurd (omega (arith, h))
der_of (tag ∷ []) h = absurd (omega (arith, h))
der_of (tag ∷ size ∷ bytes) h = refl

pub der_none : (item : List ℕ) → length item < 2 → is_der item ≡ false
der_none [] h = refl
der_none (tag ∷ []) h = refl
der_none (tag ∷ size ∷ bytes) h = absurd (omega (arith, h))

-- ---- what is read is spelled

record Begins (bytes rest : List ℕ) : Type 0 where
  n : List ℕ
  shortest : is_shortest n ≡ true
  spelled : bytes ≡ number_spelling n ++ rest

begins_with : (tag size : ℕ) (bytes rest : List ℕ) (b : Bool) → (tag == 0x02 && (nat_le size (length bytes) && is_shortest (take size bytes))) ≡ b
    → (if b then Some (drop size bytes) else None) ≡ Some rest → Begins (tag ∷ size ∷ bytes) rest
begins_with tag size bytes rest true whole e =
    let first = and_parts (tag == 0x02) (nat_le size (length bytes) && is_shortest (take size bytes)) whole in
    let others = and_parts (nat_le size (length bytes)) (is_shortest (take size bytes)) first.1 in
    let two : tag ≡ 0x02 = eqb-true tag 0x02 first.0 in
    let within : size ≤ length bytes = leb-true size (length bytes) others.0 in
    let many : size ≡ length (take size bytes) = sym (length-take-le size bytes within) in
    let after : drop size bytes ≡ rest = cc in
    record {
      n = take size bytes;
      shortest = others.1;
      spelled = ap (λ t. t ∷ size ∷ bytes) two ∙ ap (λ m. 0x02 ∷ m ∷ bytes) many ∙ ap (λ l. 0x02 ∷ length (take size bytes) ∷ l) (sym (take-append-drop size bytes)) ∙ ap (λ l. 0x02 ∷ length (take size bytes) ∷ (take size bytes ++ l)) after;
    }
begins_with tag size bytes rest false whole e = absurd (cc)

begins : (bytes rest : List ℕ) → after_number bytes ≡ Some rest → Begins bytes rest
begins [] rest e = absurd (cc)
begins (tag ∷ []) rest e = absurd (cc)
begins (tag ∷ size ∷ bytes) rest e = begins_with tag size bytes rest (tag == 0x02 && (nat_le size (length bytes) && is_shortest (take size bytes))) refl e

record AreTwo (bytes : List ℕ) : Type 0 where
  r : List ℕ
  s : List ℕ
  hash_type : ℕ
  spelled : bytes ≡ number_spelling r ++ (number_spelling s ++ hash_type ∷ [])
  r_shortest : is_shortest r ≡ true
  s_shortest : is_shortest s ≡ true

one_byte : (bytes : List ℕ) → (length bytes == 1) ≡ true → (b : ℕ) × (bytes ≡ b ∷ [])
one_byte [] e = absurd (cc)
one_byte (b ∷ []) e = (b, refl)
one_byte (b ∷ c ∷ bytes) e = let n = eqb-true (length (b ∷ c ∷ bytes)) 1 e in absurd (omega (arith, n))

last_of : (bytes rest : List ℕ) (first : Begins bytes rest) (o : Option (List ℕ)) → after_number rest ≡ o → is_hash_type o ≡ true → AreTwo bytes
last_of bytes rest first (Some left) e is =
    let next = begins rest left e in
    let last = one_byte left is in
    record {
      r = first.n;
      s = next.n;
      hash_type = last.0;
      spelled = first.spelled ∙ ap (λ l. number_spelling first.n ++ l) next.spelled ∙ ap (λ l. number_spelling first.n ++ (number_spelling next.n ++ l)) last.1;
      r_shortest = first.shortest;
      s_shortest = next.shortest;
    }
last_of bytes rest first None e is = absurd (cc)

two_of : (bytes : List ℕ) (o : Option (List ℕ)) → after_number bytes ≡ o → is_last_number o ≡ true → AreTwo bytes
two_of bytes (Some rest) e is = last_of bytes rest (begins bytes rest e) (after_number rest) refl is
two_of bytes None e is = absurd (cc)

many_of : (r s : List ℕ) (hash_type : ℕ) → length (number_spelling r ++ (number_spelling s ++ hash_type ∷ [])) ≡ length r + length s + 5
many_of r s hash_type = omega (arith, length-append r (number_spelling s ++ hash_type ∷ []), length-append s (hash_type ∷ []))

spelled_of : (tag size : ℕ) (bytes : List ℕ) → tag ≡ 0x30 → size + 1 ≡ length bytes → length bytes ≤ 71 → AreTwo bytes → IsDer (tag ∷ size ∷ bytes)
spelled_of tag size bytes first many few two =
    let size_is : size ≡ length two.r + length two.s + 4 = omega (arith, many, ap length two.spelled, many_of two.r two.s two.hash_type) in
    record {
      r = two.r;
      s = two.s;
      hash_type = two.hash_type;
      spelled = ap (λ t. t ∷ size ∷ bytes) first ∙ ap (λ n. 0x30 ∷ n ∷ bytes) size_is ∙ ap (λ l. 0x30 ∷ (length two.r + length two.s + 4) ∷ l) two.spelled;
      r_shortest = two.r_shortest;
      s_shortest = two.s_shortest;
      few = omega (arith, few);
    }

pub is_spelled : (item : List ℕ) → is_der item ≡ true → IsDer item
is_spelled [] e = absurd (cc)
is_spelled (tag ∷ []) e = absurd (cc)
is_spelled (tag ∷ size ∷ bytes) e =
    let last = is_last_number (after_number bytes) in
    let one = and_parts (nat_le (length bytes) 71) (tag == 0x30 && (size + 1 == length bytes && last)) e in
    let two = and_parts (tag == 0x30) (size + 1 == length bytes && last) one.1 in
    let three = and_parts (size + 1 == length bytes) last two.1 in
    spelled_of tag size bytes (eqb-true tag 0x30 two.0) (eqb-true (size + 1) (length bytes) three.0) (leb-true (length bytes) 71 one.0) (two_of bytes (after_number bytes) refl three.1)

-- ---- what is spelled is read

read_number : (n rest : List ℕ) → is_shortest n ≡ true → after_number (number_spelling n ++ rest) ≡ Some rest
read_number n rest e =
    let within = le-leb (length n) (length (n ++ rest)) (omega (arith, length-append n rest)) in
    let whole = and_from (nat_le (length n) (length (n ++ rest))) (is_shortest (take (length n) (n ++ rest))) within (ap is_shortest (take-append_seam n rest) ∙ e) in
    ap (λ b. if b then Some (drop (length n) (n ++ rest)) else None) whole ∙ ap Some (drop-append_seam n rest)

read_two : (r s : List ℕ) (hash_type : ℕ) → is_shortest r ≡ true → is_shortest s ≡ true → is_last_number (after_number (number_spelling r ++ (number_spelling s ++ hash_type ∷ []))) ≡ true
read_two r s hash_type e f =
    ap is_last_number (read_number r (number_spelling s ++ hash_type ∷ []) e) ∙ ap is_hash_type (read_number s (hash_type ∷ []) f)

read_spelling : (r s : List ℕ) (hash_type : ℕ) → is_shortest r ≡ true → is_shortest s ≡ true → length (signature_spelling r s hash_type) ≤ 73 → is_der (signature_spelling r s hash_type) ≡ true
read_spelling r s hash_type e f few =
    let bytes = number_spelling r ++ (number_spelling s ++ hash_type ∷ []) in
    let size = length r + length s + 4 in
    let many : size + 1 ≡ length bytes = omega (arith, many_of r s hash_type) in
    and_from (nat_le (length bytes) 71) _ (le-leb (length bytes) 71 (omega (arith, few)))
    (and_from (size + 1 == length bytes) (is_last_number (after_number bytes)) (eq-eqb (size + 1) (length bytes) many) (read_two r s hash_type e f))

pub is_read : (item : List ℕ) → IsDer item → is_der item ≡ true
is_read item d = subst (λ l. is_der l ≡ true) (sym d.spelled) (read_spelling d.r d.s d.hash_type d.r_shortest d.s_shortest (subst (λ l. length l ≤ 73) d.spelled d.few))
