-- The bytes of tokens.
use Rattle.std.proofs.Common.{◌≡◌, ℕ, List, [], ◌∷◌, ◌++◌, length, take, drop, refl, ap, arith, length-append}
use Rattle.std.proofs.lemmas.List.{take_at, drop_at}
use borrow.Rule.Slice.PartMut.{put_mid}
use Rattle.script.specs.Token.{token_of}

-- 32 bytes after the first 33 are overwritten
pub written : (front key digest tail : List ℕ) → length key ≡ 33 → front ≡ key → drop 32 tail ≡ 1 ∷ [] → put_mid 33 32 (front ++ tail) digest ≡ token_of key digest
unfolding token_of
written front key digest tail len is last =
    let t : take 33 (key ++ tail) ≡ key = take_at key tail 33 len in
    let d : drop 33 (key ++ tail) ≡ tail = drop_at key tail 33 len in
    rw is (rw (t, d, last) refl)

front_is : (key other x y : List ℕ) → length key ≡ length other → key ++ x ≡ other ++ y → (key ≡ other) × (x ≡ y)
front_is [] [] x y len e = (refl, e)
front_is [] (b ∷ other) x y len e = absurd cc
front_is (a ∷ key) [] x y len e = absurd cc
front_is (a ∷ key) (b ∷ other) x y len e =
    let tails : key ++ x ≡ other ++ y = cc in
    let heads : a ≡ b = cc in
    let r = front_is key other x y (omega (arith, len)) tails in
    (rw (heads, r.0) refl, r.1)

pub one_token : (key other digest another : List ℕ) → length key ≡ length other → token_of key digest ≡ token_of other another → (key ≡ other) × (digest ≡ another)
unfolding token_of
one_token key other digest another len e =
    let r = front_is key other (digest ++ 1 ∷ []) (another ++ 1 ∷ []) len e in
    let n : length digest ≡ length another = omega (arith, ap length r.1, length-append digest (1 ∷ []), length-append another (1 ∷ [])) in
    (r.0, (front_is digest another (1 ∷ []) (1 ∷ []) n r.1).0)
