-- What is signed where the right is there.
use Rattle.std.proofs.Common.{◌≡◌, Option, Some, None, Result, Ok, Err, refl, sym, ◌∙◌}
use Rattle.std.specs.Prelude.{IfOk}
use Rattle.tx.specs.Fields.{Transaction}
use Rattle.publish.specs.Signed.{IsSignedWhere}

-- nothing is wanted
pub nothing_wanted : (right : Type 0) (wanted answer : Option Transaction) → wanted ≡ None → answer ≡ None → IsSignedWhere right wanted answer
nothing_wanted right wanted answer w a t = (λ e. absurd (cc), λ p. let e = p.1 in absurd (cc))

-- the right is missing
pub no_right : (right : Type 0) (wanted answer : Option Transaction) → (¬ right) → answer ≡ None → IsSignedWhere right wanted answer
no_right right wanted answer lacks a t = (λ e. absurd (cc), λ p. absurd (lacks p.0))

-- what is wanted is signed
pub signed_one : (right : Type 0) (wanted answer : Option Transaction) → right → answer ≡ wanted → IsSignedWhere right wanted answer
signed_one right wanted answer r a t = (λ e. (r, sym a ∙ e), λ p. a ∙ p.1)

-- with the right, the answer is what is wanted
pub is_wanted : (right : Type 0) (wanted answer : Option Transaction) → right → IsSignedWhere right wanted answer → answer ≡ wanted
is_wanted right (Some t) answer r is = (is t).1 (r, refl)
is_wanted right None None r is = refl
is_wanted right None (Some t) r is = let e = ((is t).0 refl).1 in absurd (cc)

-- so it is with a result
pub answered : {E : Type 0} (r : Result (Option Transaction) E) (right : Type 0) (wanted same : Option Transaction) → right → wanted ≡ same → IfOk r (IsSignedWhere right wanted) → IfOk r (λ t. t ≡ same)
answered (Ok t) right wanted same is e h = is_wanted right wanted t is h ∙ e
answered (Err x) right wanted same is e h = tt

-- and the other way
pub given : {E : Type 0} (r : Result (Option Transaction) E) (right : Type 0) (wanted : Option Transaction) → right → IfOk r (λ t. t ≡ wanted) → IfOk r (IsSignedWhere right wanted)
given (Ok t) right wanted is h = signed_one right wanted t is h
given (Err x) right wanted is h = tt
