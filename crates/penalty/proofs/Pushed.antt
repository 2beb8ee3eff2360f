-- Claims on outputs, one after another.
use Rattle.std.proofs.Common.{◌≡◌, List, [], ◌∷◌, ◌++◌, sym, ap, subst, ◌∙◌, append_assoc}
use Rattle.claim.specs.Claims.{ClaimParts}
use Rattle.penalty.specs.Claimable.{Claimable}
use Rattle.penalty.specs.Sets.{IsClaimOn, AreClaimsOn}

-- one claim more
one_more : (os : List Claimable) (cs : List ClaimParts) (o : Claimable) (c : ClaimParts) → AreClaimsOn os cs → IsClaimOn o c → AreClaimsOn (os ++ o ∷ []) (cs ++ c ∷ [])
one_more [] [] o c a i = (i, tt)
one_more [] (d ∷ cs) o c a i = absurd a
one_more (p ∷ os) [] o c a i = absurd a
one_more (p ∷ os) (d ∷ cs) o c a i = (a.0, one_more os cs o c a.1 i)

pub push_one : (os new_os : List Claimable) (cs new_cs : List ClaimParts) (o : Claimable) (c : ClaimParts) → IsClaimOn o c → new_os ≡ o ∷ [] → new_cs ≡ cs ++ c ∷ []
    → AreClaimsOn os cs → AreClaimsOn (os ++ new_os) new_cs
push_one os new_os cs new_cs o c i e f a =
    subst (λ ds. AreClaimsOn (os ++ new_os) ds) (sym f) (subst (λ ps. AreClaimsOn (os ++ ps) (cs ++ c ∷ [])) (sym e) (one_more os cs o c a i))

-- two claims more
pub push_two : (os new_os : List Claimable) (cs some_cs new_cs : List ClaimParts) (o p : Claimable) (c d : ClaimParts) → IsClaimOn o c → IsClaimOn p d → new_os ≡ o ∷ p ∷ []
    → some_cs ≡ cs ++ c ∷ [] → new_cs ≡ some_cs ++ d ∷ [] → AreClaimsOn os cs → AreClaimsOn (os ++ new_os) new_cs
push_two os new_os cs some_cs new_cs o p c d i j e f g a =
    let b : AreClaimsOn ((os ++ o ∷ []) ++ p ∷ []) ((cs ++ c ∷ []) ++ d ∷ []) = one_more (os ++ o ∷ []) (cs ++ c ∷ []) p d (one_more os cs o c a i) j in
    let k : (os ++ o ∷ []) ++ p ∷ [] ≡ os ++ new_os = append_assoc os (o ∷ []) (p ∷ []) ∙ ap (λ ps. os ++ ps) (sym e) in
    let l : (cs ++ c ∷ []) ++ d ∷ [] ≡ new_cs = ap (λ ds. ds ++ d ∷ []) (sym f) ∙ sym g in
    subst (λ ds. AreClaimsOn (os ++ new_os) ds) l (subst (λ ps. AreClaimsOn ps ((cs ++ c ∷ []) ++ d ∷ [])) k b)
