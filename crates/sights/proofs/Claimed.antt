-- What is told of a channel, claim by claim.
use Rattle.std.proofs.Common.{◌≡◌, ℕ, ◌+◌, ◌<◌, Bool, true, false, ◌||◌, cond, List, [], ◌∷◌, length, drop, map, get_or, reverse, Option, Some, Result, Ok, Err, refl, sym, ap, subst, ◌∙◌, add-one, drop-cons}
use Rattle.std.specs.Prelude.{IfOk}
use Rattle.std.specs.List.{find}
use Rattle.std.specs.Ordering.{is_eq}
use Rattle.tx.specs.declared.input.OutPoint.{OutPoint}
use Rattle.tx.specs.declared.input.TxIn.{TxIn}
use Rattle.chain.specs.Indexing.{outpoint_cmp}
use Rattle.chain.proofs.Lists.{any_reversed}
use Rattle.chain.proofs.Noting.{ties}
use Rattle.claim.specs.Claims.{ClaimParts}
use Rattle.commit.specs.Commitments.{Contents}
use Rattle.penalty.specs.Sets.{AreClaimsOn}
use Rattle.tx.specs.Fields.{Transaction, same_outpoint}
use Rattle.resolve.specs.declared.verdicts.Verdict.{Verdict}
use Rattle.resolve.specs.declared.known.Known.{Known}
use Rattle.resolve.specs.Due.{due_of}
use Rattle.watch.specs.Verdicts.{verdict_of}
use Rattle.watch.specs.Learning.{commitment_by}
use Rattle.chain.specs.Blocks.{names}
use Rattle.sights.specs.declared.sighted.Sighted.{Sighted}
use Rattle.sights.specs.declared.telling.Told.{Told}
use Rattle.sights.specs.Sights.{among, was_taken}
use Rattle.sights.specs.Telling.{told_by, IsToldBy, close_of, IsToldIf, IsTold}

split : {A : Type 0} (xs : List A) (i : ℕ) (d x : A) → i < length xs → x ≡ get_or xs i d → drop i xs ≡ x ∷ drop (i + 1) xs
split xs i d x h e = rw (add-one, e) (drop-cons xs i d h)

moved : (t a b : Bool) → (a || cond t true b) ≡ ((t || a) || b)
moved true true b = refl
moved true false b = refl
moved false a b = refl

-- one input more is in the set
pub input_added : (old new : OutPoint → Bool) (inputs : List TxIn) (i : ℕ) (d x : TxIn) (whole : OutPoint → Bool) → i < length inputs → x ≡ get_or inputs i d
    → ((q : OutPoint) → new q ≡ cond (is_eq (outpoint_cmp x.outpoint q)) true (old q)) → ((o : OutPoint) → (among o (drop i inputs) || old o) ≡ whole o)
    → (o : OutPoint) → (among o (drop (i + 1) inputs) || new o) ≡ whole o
input_added old new inputs i d x whole l e u v o =
    ap (λ t. among o (drop (i + 1) inputs) || t) (u o ∙ ap (λ t. cond t true (old o)) (ties x.outpoint o))
    ∙ moved (same_outpoint x.outpoint o) (among o (drop (i + 1) inputs)) (old o)
    ∙ ap (λ (xs : List TxIn). among o xs || old o) (sym (split inputs i d x l e))
    ∙ v o

regrouped : (a b c : Bool) → (b || (a || c)) ≡ ((a || b) || c)
regrouped true true c = refl
regrouped true false c = refl
regrouped false b c = refl

-- the inputs of one transaction more are in the set
pub entry_added : (old new : OutPoint → Bool) (ss : List Sighted) (i : ℕ) (d s : Sighted) (inputs : List TxIn) (whole : OutPoint → Bool) → i < length ss → s ≡ get_or ss i d → inputs ≡ s.tx.inputs
    → ((o : OutPoint) → new o ≡ (among o inputs || old o)) → ((o : OutPoint) → (was_taken o (drop i ss) || old o) ≡ whole o)
    → (o : OutPoint) → (was_taken o (drop (i + 1) ss) || new o) ≡ whole o
entry_added old new ss i d s inputs whole l e same u v o =
    ap (λ b. was_taken o (drop (i + 1) ss) || b) (u o ∙ ap (λ (xs : List TxIn). among o xs || old o) same)
    ∙ regrouped (names o s.tx) (was_taken o (drop (i + 1) ss)) (old o)
    ∙ ap (λ (xs : List Sighted). was_taken o xs || old o) (sym (split ss i d s l e))
    ∙ v o

-- the set of what a list takes is that of what its reverse takes
pub of_reverse : (has : OutPoint → Bool) (ss values : List Sighted) → values ≡ reverse ss → ((o : OutPoint) → has o ≡ was_taken o values) → (o : OutPoint) → has o ≡ was_taken o ss
of_reverse has ss values e h o = h o ∙ ap (was_taken o) e ∙ any_reversed (λ s. names o s.tx) ss

claims_back : (ss : List Sighted) (verdict : Verdict) (c : Option Contents) (claims : List ClaimParts) → map (λ x. x.claim) (map (told_by ss verdict c) claims) ≡ claims
claims_back ss verdict c [] = refl
claims_back ss verdict c (x ∷ xs) = ap (λ (ys : List ClaimParts). x ∷ ys) (claims_back ss verdict c xs)

-- what is told of each claim that is due is what is told
pub told_each : (ss : List Sighted) (known : Known) (verdict : Verdict) (c : Option Contents) (claims : List ClaimParts) (told : List Told) → c ≡ commitment_by known verdict → AreClaimsOn (due_of known verdict) claims
    → told ≡ map (told_by ss verdict c) claims → IsToldBy ss known verdict told
told_each ss known verdict c claims told same due is =
    let back : map (λ x. x.claim) told ≡ claims = ap (map (λ x. x.claim)) is ∙ claims_back ss verdict c claims in
    record {
      claims = subst (λ (xs : List ClaimParts). AreClaimsOn (due_of known verdict) xs) (sym back) due;
      each = is ∙ ap (λ (k : Option Contents). map (told_by ss verdict k) claims) same ∙ ap (λ (xs : List ClaimParts). map (told_by ss verdict (commitment_by known verdict)) xs) (sym back);
    }

-- so it is where the result is there
pub told_if : {V E : Type 0} (items : V → List Told) (ss : List Sighted) (known : Known) (verdict : Verdict) (c : Option Contents) (claims : List ClaimParts) (r : Result V E) → c ≡ commitment_by known verdict
    → AreClaimsOn (due_of known verdict) claims → IfOk r (λ v. items v ≡ map (told_by ss verdict c) claims) → IfOk r (λ v. IsToldBy ss known verdict (items v))
told_if items ss known verdict c claims (Ok v) same due is = told_each ss known verdict c claims (items v) same due is
told_if items ss known verdict c claims (Err e) same due is = tt

-- what is told by the verdict on what closed the channel is what is told
pub told_close : {V E : Type 0} (items : V → List Told) (ss inside values : List Sighted) (known : Known) (s : Sighted) (t : Transaction) (verdict : Verdict) (r : Result V E) → inside ≡ ss → values ≡ reverse inside
    → Some s ≡ find (λ x. names known.terms.funding x.tx) values → t ≡ s.tx → verdict ≡ verdict_of known t → IfOk r (λ v. IsToldBy inside known verdict (items v)) → IfOk r (λ v. IsTold ss known (items v))
told_close items ss inside values known s t verdict (Err e) same is some at by told = tt
told_close items ss inside values known s t verdict (Ok v) same is some at by told =
    let found : Some s ≡ close_of known.terms.funding ss = some ∙ ap (find (λ (x : Sighted). names known.terms.funding x.tx)) (is ∙ ap reverse same) in
    subst (λ (x : Option Sighted). IsToldIf ss known x (items v)) found
    (subst (λ (w : Verdict). IsToldBy ss known w (items v)) (by ∙ ap (verdict_of known) at) (subst (λ (xs : List Sighted). IsToldBy xs known verdict (items v)) same told))
