-- Revoked commitments that stand by their numbers.
use Rattle.std.proofs.Common.{◌≡◌, ℕ, zero, suc, ◌+◌, ◌<◌, ◌≤◌, List, [], ◌∷◌, ◌++◌, length, get_or, set, Option, Some, None, refl, sym, ap, ◌∙◌, arith}
use Rattle.std.specs.Prelude.{slice_get}
use Rattle.std.proofs.lemmas.Option.{slice_get-get_or, slice_get_past}
use Rattle.resolve.specs.declared.known.RevokedCommitment.{RevokedCommitment}
use Rattle.resolve.specs.Known.{as_kept}
use Rattle.resolve.specs.Numbered.{AreNumbered, kept_if, with_kept}

-- the i-th has the i-th number from one on
abbrev From : ℕ → List RevokedCommitment → Type 0
From k rs = (i : ℕ) (r : RevokedCommitment) → slice_get rs i ≡ Some r → r.state.number ≡ k + i

some_is : (x y : RevokedCommitment) → Some x ≡ Some y → x ≡ y
some_is x y e = cc

pushed_from : (k : ℕ) (rs : List RevokedCommitment) (x : RevokedCommitment) → From k rs → x.state.number ≡ k + length rs → From k (rs ++ x ∷ [])
pushed_from k [] x h e zero r g = ap (λ (o : RevokedCommitment). o.state.number) (sym (some_is x r g)) ∙ e
pushed_from k [] x h e (suc i) r g = absurd (cc)
pushed_from k (y ∷ ys) x h e zero r g = h zero r g
pushed_from k (y ∷ ys) x h e (suc i) r g =
    let rest : From (k + 1) ys = (λ j s f. let n = h (suc j) s f in omega (arith, n)) in
    let here : x.state.number ≡ k + 1 + length ys = omega (arith, e) in
    let n = pushed_from (k + 1) ys x rest here i r g in
    omega (arith, n)

-- one more, with the next number
pub pushed : (rs : List RevokedCommitment) (x : RevokedCommitment) → AreNumbered rs → x.state.number ≡ length rs → AreNumbered (rs ++ x ∷ [])
pushed rs x h e i r g =
    let n = pushed_from 0 rs x (λ j s f. let m = h j s f in omega (arith, m)) (omega (arith, e)) i r g in
    omega (arith, n)

kept_behind : (y : RevokedCommitment) (ys : List RevokedCommitment) (n : ℕ) (o : Option RevokedCommitment) → kept_if (y ∷ ys) (suc n) o ≡ y ∷ kept_if ys n o
kept_behind y ys n None = refl
kept_behind y ys n (Some r) = refl

kept_from : (k : ℕ) (rs : List RevokedCommitment) (n : ℕ) → From k rs → From k (with_kept rs n)
kept_from k [] n h i r g = h i r g
kept_from k (y ∷ ys) zero h zero r g = ap (λ (o : RevokedCommitment). o.state.number) (sym (some_is (as_kept y) r g)) ∙ h zero y refl
kept_from k (y ∷ ys) zero h (suc i) r g = h (suc i) r g
kept_from k (y ∷ ys) (suc n) h zero r g = h zero r (sym (ap (λ rs. slice_get rs zero) (kept_behind y ys n (slice_get ys n))) ∙ g)
kept_from k (y ∷ ys) (suc n) h (suc i) r g =
    let rest : From (k + 1) ys = (λ j s f. let n = h (suc j) s f in omega (arith, n)) in
    let m = kept_from (k + 1) ys n rest i r (sym (ap (λ rs. slice_get rs (suc i)) (kept_behind y ys n (slice_get ys n))) ∙ g) in
    omega (arith, m)

-- the same numbers
pub kept : (rs : List RevokedCommitment) (n : ℕ) → AreNumbered rs → AreNumbered (with_kept rs n)
kept rs n h i r g =
    let m = kept_from 0 rs n (λ j s f. let m = h j s f in omega (arith, m)) i r g in
    omega (arith, m)

-- by its index, where there is one and where there is none
pub kept_at : (rs : List RevokedCommitment) (n : ℕ) (d : RevokedCommitment) → n < length rs → set rs n (as_kept (get_or rs n d)) ≡ with_kept rs n
kept_at rs n d h = sym (ap (kept_if rs n) (slice_get-get_or rs n d h))

pub kept_past : (rs : List RevokedCommitment) (n : ℕ) → length rs ≤ n → rs ≡ with_kept rs n
kept_past rs n h = sym (ap (kept_if rs n) (slice_get_past rs n h))
