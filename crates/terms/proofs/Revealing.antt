-- A number is found in the fields that carry it, and such fields are those of a number.
use Rattle.std.proofs.Common.{◌≡◌, ℕ, ◌+◌, ◌*◌, ◌/◌, ◌%◌, ◌^◌, ◌<◌, Bool, true, false, eqb, ◌&&◌, cond, List, [], ◌∷◌, Some, None, sym, ap, ◌∙◌, refl, arith, eq-eqb, bit_xor, length, get_or}
use Rattle.std.specs.Prelude.{◌↔◌}
use Rattle.std.specs.Int.Bits.{xor_assoc, xor_self, xor_zero_r}
use Rattle.std.proofs.lemmas.Nat.{xor_lt}
use Rattle.std.proofs.lemmas.Bool.{eqb-true}
use Rattle.tx.specs.Fields.{Transaction}
use Rattle.tx.specs.declared.input.TxIn.{TxIn}
use Rattle.terms.specs.declared.agreement.Terms.{Terms}
use Rattle.terms.specs.declared.numbers.Obscured.{Obscured}
use Rattle.terms.specs.Numbers.{mask_of, fields_of, obscured, revealed, HasNumber, NumbersComeBack, FieldsComeBack}

back : (n mask : ℕ) → bit_xor (bit_xor n mask) mask ≡ n
back n mask = xor_assoc n mask mask ∙ ap (bit_xor n) (xor_self mask) ∙ xor_zero_r n

-- the 48 bits that fields carry
carried : ℕ → ℕ → ℕ
carried lock_time sequence = sequence % 2 ^ 24 * 2 ^ 24 + lock_time % 2 ^ 24

reveals : (mask lock_time sequence : ℕ) → lock_time / 2 ^ 24 ≡ 0x20 → sequence / 2 ^ 24 ≡ 0x80 → revealed mask lock_time sequence ≡ Some (bit_xor (sequence % 2 ^ 24 * 2 ^ 24 + lock_time % 2 ^ 24) mask)
reveals mask lock_time sequence p q = rw (eq-eqb _ _ p, eq-eqb _ _ q) refl

joined : (h : ℕ) → h < 2 ^ 48 → (0x80 * 2 ^ 24 + h / 2 ^ 24 % 2 ^ 24) % 2 ^ 24 * 2 ^ 24 + (0x20 * 2 ^ 24 + h % 2 ^ 24) % 2 ^ 24 ≡ h
joined h l = omega arith

pub numbers_come_back : NumbersComeBack
numbers_come_back mask n m l =
    let h : bit_xor n mask < 2 ^ 48 = xor_lt 48 n mask l m in
    reveals mask _ _ (omega arith) (omega arith) ∙ ap (λ k. Some (bit_xor k mask)) (joined (bit_xor n mask) h) ∙ ap Some (back n mask)

unpacked : (a b : Bool) (mask lock_time sequence n : ℕ) → eqb (lock_time / 2 ^ 24) 0x20 ≡ a → eqb (sequence / 2 ^ 24) 0x80 ≡ b
    → cond (a && b) (Some (bit_xor (sequence % 2 ^ 24 * 2 ^ 24 + lock_time % 2 ^ 24) mask)) None ≡ Some n
    → (lock_time / 2 ^ 24 ≡ 0x20) × (sequence / 2 ^ 24 ≡ 0x80) × (bit_xor (sequence % 2 ^ 24 * 2 ^ 24 + lock_time % 2 ^ 24) mask ≡ n)
unpacked true true mask lock_time sequence n p q e = (eqb-true _ _ p, eqb-true _ _ q, (cc))
unpacked true false mask lock_time sequence n p q e = absurd (cc)
unpacked false b mask lock_time sequence n p q e = absurd (cc)

same_fields : (h lock_time sequence : ℕ) → 0x20 * 2 ^ 24 + h % 2 ^ 24 ≡ lock_time → 0x80 * 2 ^ 24 + h / 2 ^ 24 % 2 ^ 24 ≡ sequence → fields_of h ≡ record { lock_time = lock_time; sequence = sequence }
same_fields h lock_time sequence f g =
    ap (λ (x : ℕ). record { lock_time = x; sequence = 0x80 * 2 ^ 24 + h / 2 ^ 24 % 2 ^ 24 }) f ∙ ap (λ (x : ℕ). record { lock_time = lock_time; sequence = x }) g

pub fields_come_back : FieldsComeBack
fields_come_back mask n lock_time sequence m e = by (unpacked _ _ mask lock_time sequence n refl refl e)
  where
    by : (lock_time / 2 ^ 24 ≡ 0x20) × (sequence / 2 ^ 24 ≡ 0x80) × (bit_xor (sequence % 2 ^ 24 * 2 ^ 24 + lock_time % 2 ^ 24) mask ≡ n) → (n < 2 ^ 48) × (obscured mask n ≡ record { lock_time = lock_time; sequence = sequence })
    by (p, q, r) =
        let low : sequence % 2 ^ 24 * 2 ^ 24 + lock_time % 2 ^ 24 < 2 ^ 48 = omega arith in
        let k : bit_xor n mask ≡ sequence % 2 ^ 24 * 2 ^ 24 + lock_time % 2 ^ 24 = ap (λ x. bit_xor x mask) (sym r) ∙ back _ mask in
        (rw (← r) (xor_lt 48 _ mask low m), same_fields (bit_xor n mask) lock_time sequence (omega arith) (omega arith))

-- a list of one input
pub alone : (x : TxIn) (xs : List TxIn) → length xs ≡ 1 → x ≡ get_or xs 0 x → xs ≡ x ∷ []
alone x [] l e = absurd (cc)
alone x (y ∷ []) l e = ap (λ z. z ∷ []) (sym e)
alone x (y ∷ z ∷ zs) l e = absurd (omega arith)

-- what is found in the fields is the number, where the only input spends the funding output
pub numbered : (terms : Terms) (t : Transaction) (x : TxIn) (n mask : ℕ) → mask ≡ mask_of terms → mask < 2 ^ 48 → t.inputs ≡ x ∷ [] → x.outpoint ≡ terms.funding
    → (revealed mask t.lock_time x.sequence ≡ Some n) ↔ HasNumber terms t n
numbered terms t x n mask m l only spent = (there, here)
  where
    there : revealed mask t.lock_time x.sequence ≡ Some n → HasNumber terms t n
    there e =
        let f = fields_come_back mask n t.lock_time x.sequence l e in
        record { range = f.0; input = x; alone = only; spends = spent; carries = ap (λ k. obscured k n) (sym m) ∙ f.1 }

    here : HasNumber terms t n → revealed mask t.lock_time x.sequence ≡ Some n
    here h =
        let same : h.input ≡ x = (let a = h.alone in cc) in
        let f : obscured mask n ≡ record { lock_time = t.lock_time; sequence = x.sequence } =
        ap (λ k. obscured k n) m ∙ h.carries ∙ ap (λ (i : TxIn). record { lock_time = t.lock_time; sequence = i.sequence }) same in
        ap (λ (o : Obscured). revealed mask o.lock_time o.sequence) (sym f) ∙ numbers_come_back mask n l h.range
