-- Where claims are accepted, each plain one is.
use Rattle.std.proofs.Common.{◌≡◌, suc, List, [], ◌∷◌, length, Option, Some, None, refl, sym, ap, ◌∙◌}
use Rattle.claim.specs.Claims.{ClaimParts}
use Rattle.claim.specs.Opcodes.{◌>>=◌}
use Rattle.texts.specs.declared.claims.PlainClaim.{PlainClaim}
use Rattle.plain_claims.specs.Claims.{claim_of, claims_of}

some_is : {A : Type 0} (x y : A) → Some x ≡ Some y → x ≡ y
some_is x y h = cc

pub same_count : (plains : List PlainClaim) (claims : List ClaimParts) → claims_of plains ≡ Some claims → length claims ≡ length plains
unfolding claims_of
same_count [] claims h = ap length (sym (some_is [] claims h))
same_count (p ∷ ps) claims h = go (claim_of p) (claims_of ps) refl (λ cs. same_count ps cs) h
  where
    go : (first : Option ClaimParts) (later : Option (List ClaimParts)) → claims_of ps ≡ later → ((cs : List ClaimParts) → claims_of ps ≡ Some cs → length cs ≡ length ps) → (first >>= (λ c. later >>= (λ cs. Some (c ∷ cs)))) ≡ Some claims → length claims ≡ suc (length ps)
    go None later is same h = absurd (cc)
    go (Some c) None is same h = absurd (cc)
    go (Some c) (Some cs) is same h = ap length (sym (some_is (c ∷ cs) claims h)) ∙ ap suc (same cs is)
