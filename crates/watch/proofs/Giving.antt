-- Claims that weren't given yet.
use Rattle.std.proofs.Common.{◌≡◌, ℕ, ◌+◌, ◌<◌, Bool, true, false, cond, List, [], ◌∷◌, ◌++◌, map, drop, length, get_or, Result, Ok, Err, Vec, Global, sym, ap, ◌∙◌, refl, append_assoc, append-nil, subst}
use Rattle.std.specs.Prelude.{IfOk}
use Rattle.std.specs.declared.alloc.AllocError.{AllocError}
use Rattle.std.specs.List.{AllByRecursion}
use Rattle.std.proofs.lemmas.List.{map-append}
use Rattle.claim.specs.Claims.{ClaimParts, IsAccepted}
use Rattle.penalty.specs.Claimable.{Claimable}
use Rattle.penalty.specs.Sets.{claimed_by, AreClaimsOn}
use Rattle.watch.specs.declared.unclaimed.Given.{Given}
use Rattle.resolve.specs.declared.known.Known.{Known}
use Rattle.resolve.specs.Due.{due_of}
use Rattle.watch.specs.declared.spends.Spend.{Spend}
use Rattle.watch.specs.Verdicts.{verdict_of}
use Rattle.watch.specs.Watching.{is_given, given_at, unclaimed, due_by}
use Rattle.watch.proofs.Walks.{on, flat_mapped}

-- claims by what they claim, and that they were accepted
pub exact : (os : List Claimable) (cs : List ClaimParts) → AreClaimsOn os cs → map claimed_by cs ≡ os
exact [] [] a = refl
exact [] (c ∷ cs) a = absurd a
exact (o ∷ os) [] a = absurd a
exact (o ∷ os) (c ∷ cs) (i, a) = ap (λ y. y ∷ map claimed_by cs) i.exact ∙ ap (λ ys. o ∷ ys) (exact os cs a)

pub accepted : (os : List Claimable) (cs : List ClaimParts) → AreClaimsOn os cs → AllByRecursion IsAccepted cs
accepted [] [] a = tt
accepted [] (c ∷ cs) a = absurd a
accepted (o ∷ os) [] a = absurd a
accepted (o ∷ os) (c ∷ cs) (i, a) = (i.accepted, accepted os cs a)

pub claims_on : (os : List Claimable) (cs : List ClaimParts) → map claimed_by cs ≡ os → AllByRecursion IsAccepted cs → AreClaimsOn os cs
claims_on [] [] e a = tt
claims_on [] (c ∷ cs) e a = absurd (cc)
claims_on (o ∷ os) [] e a = absurd (cc)
claims_on (o ∷ os) (c ∷ cs) e (i, a) = (record { exact = (cc); accepted = i }, claims_on os cs (cc) a)

pub all_append : {A : Type 0} (P : A → Type 0) (xs ys : List A) → AllByRecursion P xs → AllByRecursion P ys → AllByRecursion P (xs ++ ys)
all_append P [] ys u v = v
all_append P (x ∷ xs) ys (p, u) v = (p, all_append P xs ys u v)

-- one claim more, which was given or wasn't
claims_by : (h : ℕ) (old new : List ClaimParts) (given given' : List Given) (c : ClaimParts) (cs : List ClaimParts) (whole : List Claimable) (b : Bool) → is_given given (claimed_by c) ≡ b
    → new ≡ old ++ cond b [] (c ∷ []) → given' ≡ given ++ cond b [] (given_at h (claimed_by c) ∷ [])
    → map claimed_by old ++ unclaimed h given (claimed_by c ∷ map claimed_by cs) ≡ whole → map claimed_by new ++ unclaimed h given' (map claimed_by cs) ≡ whole
unfolding unclaimed
claims_by h old new given given' c cs whole true e n g u =
    ap (λ (x : List ClaimParts). map claimed_by x ++ unclaimed h given' (map claimed_by cs)) (n ∙ append-nil old)
    ∙ ap (λ (x : List Given). map claimed_by old ++ unclaimed h x (map claimed_by cs)) (g ∙ append-nil given)
    ∙ sym (ap (λ b. map claimed_by old ++ cond b (unclaimed h given (map claimed_by cs)) (claimed_by c ∷ unclaimed h (given ++ given_at h (claimed_by c) ∷ []) (map claimed_by cs))) e)
    ∙ u
claims_by h old new given given' c cs whole false e n g u =
    ap (λ (x : List ClaimParts). map claimed_by x ++ unclaimed h given' (map claimed_by cs)) n
    ∙ ap (λ (x : List Claimable). x ++ unclaimed h given' (map claimed_by cs)) (map-append claimed_by old (c ∷ []))
    ∙ append_assoc (map claimed_by old) (claimed_by c ∷ []) (unclaimed h given' (map claimed_by cs))
    ∙ ap (λ (x : List Given). map claimed_by old ++ claimed_by c ∷ unclaimed h x (map claimed_by cs)) g
    ∙ sym (ap (λ b. map claimed_by old ++ cond b (unclaimed h given (map claimed_by cs)) (claimed_by c ∷ unclaimed h (given ++ given_at h (claimed_by c) ∷ []) (map claimed_by cs))) e)
    ∙ u

pub claims_step : (h : ℕ) (old new : List ClaimParts) (given given' : List Given) (c : ClaimParts) (cs : List ClaimParts) (whole : List Claimable)
    → new ≡ old ++ cond (is_given given (claimed_by c)) [] (c ∷ []) → given' ≡ given ++ cond (is_given given (claimed_by c)) [] (given_at h (claimed_by c) ∷ [])
    → map claimed_by old ++ unclaimed h given (map claimed_by (c ∷ cs)) ≡ whole → map claimed_by new ++ unclaimed h given' (map claimed_by cs) ≡ whole
claims_step h old new given given' c cs whole n g u = claims_by h old new given given' c cs whole (is_given given (claimed_by c)) refl n g u

given_by : (h : ℕ) (given given' : List Given) (o : Claimable) (os : List Claimable) (whole : List Given) (b : Bool) → is_given given o ≡ b → given' ≡ given ++ cond b [] (given_at h o ∷ [])
    → given ++ map (given_at h) (unclaimed h given (o ∷ os)) ≡ whole → given' ++ map (given_at h) (unclaimed h given' os) ≡ whole
unfolding unclaimed
given_by h given given' o os whole true e g u =
    ap (λ (x : List Given). x ++ map (given_at h) (unclaimed h x os)) (g ∙ append-nil given)
    ∙ sym (ap (λ b. given ++ map (given_at h) (cond b (unclaimed h given os) (o ∷ unclaimed h (given ++ given_at h o ∷ []) os))) e)
    ∙ u
given_by h given given' o os whole false e g u =
    ap (λ (x : List Given). x ++ map (given_at h) (unclaimed h x os)) g
    ∙ append_assoc given (given_at h o ∷ []) (map (given_at h) (unclaimed h (given ++ given_at h o ∷ []) os))
    ∙ sym (ap (λ b. given ++ map (given_at h) (cond b (unclaimed h given os) (o ∷ unclaimed h (given ++ given_at h o ∷ []) os))) e)
    ∙ u

pub given_step : (h : ℕ) (given given' : List Given) (o : Claimable) (os : List Claimable) (whole : List Given) → given' ≡ given ++ cond (is_given given o) [] (given_at h o ∷ [])
    → given ++ map (given_at h) (unclaimed h given (o ∷ os)) ≡ whole → given' ++ map (given_at h) (unclaimed h given' os) ≡ whole
given_step h given given' o os whole g u = given_by h given given' o os whole (is_given given o) refl g u

accepted_by : (old new : List ClaimParts) (c : ClaimParts) (b : Bool) → new ≡ old ++ cond b [] (c ∷ []) → IsAccepted c → AllByRecursion IsAccepted old → AllByRecursion IsAccepted new
accepted_by old new c true n i a = subst (AllByRecursion IsAccepted) (sym (n ∙ append-nil old)) a
accepted_by old new c false n i a = subst (AllByRecursion IsAccepted) (sym n) (all_append IsAccepted old (c ∷ []) a (i, tt))

pub accepted_step : (old new : List ClaimParts) (given : List Given) (c : ClaimParts) → new ≡ old ++ cond (is_given given (claimed_by c)) [] (c ∷ []) → IsAccepted c
    → AllByRecursion IsAccepted old → AllByRecursion IsAccepted new
accepted_step old new given c n i a = accepted_by old new c (is_given given (claimed_by c)) n i a

-- at the end
pub claims_end : (h : ℕ) (cs rest : List ClaimParts) (given : List Given) (whole : List Claimable) → rest ≡ [] → map claimed_by cs ++ unclaimed h given (map claimed_by rest) ≡ whole → map claimed_by cs ≡ whole
unfolding unclaimed
claims_end h cs rest given whole e u = sym (append-nil (map claimed_by cs)) ∙ sym (ap (λ (r : List ClaimParts). map claimed_by cs ++ unclaimed h given (map claimed_by r)) e) ∙ u

pub given_end : (h : ℕ) (rest : List ClaimParts) (given whole : List Given) → rest ≡ [] → given ++ map (given_at h) (unclaimed h given (map claimed_by rest)) ≡ whole → given ≡ whole
unfolding unclaimed
given_end h rest given whole e u = sym (append-nil given) ∙ sym (ap (λ (r : List ClaimParts). given ++ map (given_at h) (unclaimed h given (map claimed_by r))) e) ∙ u

-- what is due by one transaction more
pub due_on : (known : Known) (old new from : List ClaimParts) (i : ℕ) (spends : List Spend) (s : Spend) (whole : List Claimable) → i < length spends → s ≡ get_or spends i s
    → new ≡ old ++ from → map claimed_by from ≡ due_of known (verdict_of known s.tx) → map claimed_by old ++ due_by known (drop i spends) ≡ whole
    → map claimed_by new ++ due_by known (drop (i + 1) spends) ≡ whole
due_on known old new from i spends s whole l e n f h =
    on (due_by known) (flat_mapped (λ (x : Spend). due_of known (verdict_of known x.tx))) (map claimed_by old) (map claimed_by new) whole i spends s l e h
    (ap (map claimed_by) n ∙ map-append claimed_by old from ∙ ap (λ x. map claimed_by old ++ x) (f ∙ sym (append-nil (due_of known (verdict_of known s.tx)))))

-- what is given after a block
pub given_after : (h : ℕ) (known : Known) (given : List Given) (new none due : List ClaimParts) (slice now all : List Spend)
    → map claimed_by new ≡ map claimed_by none ++ unclaimed h given (map claimed_by due) → none ≡ [] → map claimed_by due ≡ due_by known slice → slice ≡ now → now ≡ all
    → map claimed_by new ≡ unclaimed h given (due_by known all)
given_after h known given new none due slice now all n z d s a =
    n ∙ ap (λ (x : List ClaimParts). map claimed_by x ++ unclaimed h given (map claimed_by due)) z ∙ ap (unclaimed h given) (d ∙ ap (due_by known) (s ∙ a))

-- what is due, as accepted claims on it
pub due_on_all : (known : Known) (given : Result (Vec ClaimParts Global) AllocError) (slice spends : List Spend) → slice ≡ spends → IfOk given (λ v. map claimed_by v.items ≡ due_by known slice)
    → IfOk given (λ v. AllByRecursion IsAccepted v.items) → IfOk given (λ v. AreClaimsOn (due_by known spends) v.items)
due_on_all known (Ok v) slice spends e is a = claims_on (due_by known spends) v.items (is ∙ ap (due_by known) e) a
due_on_all known (Err error) slice spends e is a = tt
