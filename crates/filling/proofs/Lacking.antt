-- The missing signatures, claim after claim.
use Rattle.std.proofs.Common.{◌≡◌, ◌<◌, ◌+◌, ℕ, suc, List, ◌∷◌, ◌++◌, length, map, drop, sym, ap, ◌∙◌, append_assoc, get_or, add-one, Bor}
use Rattle.tx.specs.Fields.{Transaction}
use Rattle.claim.specs.Claims.{ClaimParts}
use Rattle.filling.specs.declared.missing.MissingSignature.{MissingSignature}
use Rattle.filling.specs.Filling.{digest_for}
use Rattle.filling.specs.Spends.{missing_on, missing_from}
use Rattle.filling.proofs.Lists.{split}
use Rattle.filling.proofs.Going.{values}

-- those of one claim more, and what is left
pub missing-next : (t u : Transaction) (claims : List (Bor ClaimParts)) (i : ℕ) (d c : Bor ClaimParts) (old new : List MissingSignature) → u ≡ t → i < length claims → c ≡ get_or claims i d → new ≡ old ++ missing_on i (digest_for u c.now) c.now.slots → old ++ missing_from t i (values (drop i claims)) ≡ missing_from t 0 (values claims) → new ++ missing_from t (i + 1) (values (drop (i + 1) claims)) ≡ missing_from t 0 (values claims)
missing-next t u claims i d c old new e h f n whole =
    let here = missing_on i (digest_for t c.now) c.now.slots in
    let rest = missing_from t (suc i) (values (drop (i + 1) claims)) in
    ap (λ k. new ++ missing_from t k (values (drop (i + 1) claims))) (add-one i)
    ∙ ap (λ l. l ++ rest) (n ∙ ap (λ x. old ++ missing_on i (digest_for x c.now) c.now.slots) e)
    ∙ append_assoc old here rest
    ∙ ap (λ l. old ++ missing_from t i (values l)) (sym (split claims i d c h f))
    ∙ whole
