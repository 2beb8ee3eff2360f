-- The number of an item that is not negative, by the value and the power that a loop computes.
use Rattle.std.proofs.Common.{◌≡◌, ℕ, zero, suc, ◌+◌, ◌*◌, ◌/◌, ◌^◌, ◌<◌, ◌≤◌, ◌==◌, Bool, false, List, [], ◌∷◌, length, get_or, Some, None, sym, ◌∙◌, subst, refl, arith}
use Rattle.std.proofs.Math.Nat.{pow-suc, one-le-pow, mul-le-mul_right}
use Rattle.std.proofs.lemmas.Bool.{true≢false, le-leb, lt-leb, cond-true, cond-false}
use Rattle.script.specs.Number.{unsigned}
use Rattle.strictness.specs.Values.{natural_by, natural_of}

pub natural_of-nil : (limit : ℕ) (bs : List ℕ) → length bs ≡ 0 → natural_of limit bs ≡ Some 0
unfolding natural_of
natural_of-nil limit [] e = cond-true _ _ _ (le-leb 0 limit (omega arith))
natural_of-nil limit (b ∷ bs) e = absurd (omega arith)

pub natural_of-long : (limit : ℕ) (bs : List ℕ) → limit < length bs → natural_of limit bs ≡ None
unfolding natural_of
natural_of-long limit bs e = cond-false _ _ _ (lt-leb (length bs) limit e)

pub natural_of-short : (limit : ℕ) (bs : List ℕ) (value scale : ℕ) → length bs ≤ limit → value ≡ unsigned bs → scale ≡ 256 ^ length bs → natural_of limit bs ≡ natural_by (scale / 2) value
unfolding natural_of
natural_of-short limit bs value scale l v e = cond-true _ _ _ (le-leb (length bs) limit l) ∙ rw (e, v) refl

low_power : (i : ℕ) → i ≤ 4 → 256 ^ i ≤ 4294967296
low_power zero l = omega arith
low_power (suc zero) l = omega arith
low_power (suc (suc zero)) l = omega arith
low_power (suc (suc (suc zero))) l = omega arith
low_power (suc (suc (suc (suc zero)))) l = omega arith
low_power (suc (suc (suc (suc (suc i))))) l = absurd (omega arith)

-- what the loop computes at a byte fits, since at most five bytes are read
low_place : (bs : List ℕ) (limit i scale : ℕ) → limit ≤ 5 → length bs ≤ limit → i < length bs → scale ≡ 256 ^ i → scale ≤ 4294967296
low_place bs limit i scale l m h e = subst (λ (n : ℕ). n ≤ 4294967296) (sym e) (low_power i (omega arith))

pub low_scale : (bs : List ℕ) (limit i scale : ℕ) → limit ≤ 5 → length bs ≤ limit → i < length bs → scale ≡ 256 ^ i → scale * 256 < 18446744073709551616
low_scale bs limit i scale l m h e = let p : scale ≤ 4294967296 = low_place bs limit i scale l m h e in omega arith

byte_times : (scale b c : ℕ) → scale ≤ 4294967296 → b ≡ c → c < 256 → b * scale ≤ 1095216660480
byte_times scale b c p e s = let q : b * scale ≤ 255 * scale = mul-le-mul_right scale (omega arith) in omega (arith, p, q)

pub low_product : (bs : List ℕ) (limit i scale b : ℕ) → limit ≤ 5 → length bs ≤ limit → i < length bs → scale ≡ 256 ^ i → b ≡ get_or bs i 0 → get_or bs i 0 < 256 → b * scale < 18446744073709551616
low_product bs limit i scale b l m h e f s = let p : b * scale ≤ 1095216660480 = byte_times scale b (get_or bs i 0) (low_place bs limit i scale l m h e) f s in omega (arith, p)

pub low_step : (bs : List ℕ) (limit i value scale b : ℕ) → limit ≤ 5 → length bs ≤ limit → i < length bs → scale ≡ 256 ^ i → value < scale → b ≡ get_or bs i 0 → get_or bs i 0 < 256 → value + b * scale < 18446744073709551616
low_step bs limit i value scale b l m h e v f s =
    let q : scale ≤ 4294967296 = low_place bs limit i scale l m h e in
    let p : b * scale ≤ 1095216660480 = byte_times scale b (get_or bs i 0) q f s in
    omega (arith, p, q, v)

full : (bs : List ℕ) (t : Bool) → t ≡ (length bs == 0) → t ≡ false → 0 < length bs
full [] t e f = absurd (true≢false (sym e ∙ f))
full (b ∷ bs) t e f = omega arith

half_power : (i scale : ℕ) → 0 < i → scale ≡ 256 ^ i → 0 < scale / 2
half_power zero scale l e = absurd (omega arith)
half_power (suc k) scale l e =
    let p : 1 ≤ 256 ^ k = one-le-pow k 256 (omega arith) in
    let q : scale ≡ 256 ^ k * 256 = e ∙ pow-suc 256 k in
    omega (arith, p, q)

-- the sign's bit, past the last byte
pub half_scale : (bs : List ℕ) (i scale : ℕ) (t : Bool) → t ≡ (length bs == 0) → t ≡ false → length bs ≤ i → scale ≡ 256 ^ i → 0 < scale / 2
half_scale bs i scale t e f l s = let p : 0 < length bs = full bs t e f in half_power i scale (omega arith) s
