-- The test accepts exactly the penalty sets.
use Rattle.std.proofs.Common.{◌≡◌, ℕ, ◌+◌, ◌==◌, ◌&&◌, not, Bool, true, false, true≢false, List, [], ◌∷◌, ◌++◌, map, drop, length, get_or, ◌<◌, ◌≤◌, All, Result, Ok, refl, sym, ap, ◌∙◌, subst, bytes_eq}
use Rattle.std.specs.Prelude.{is_ok}
use Rattle.std.specs.List.{AllByRecursion}
use Rattle.std.proofs.lemmas.Bool.{and_parts, and_from, eqb-true, eq-eqb}
use Rattle.std.proofs.lemmas.List.{drop_all}
use Rattle.std.proofs.lemmas.List.Elements.{All-from_recursion, All-get_or}
use Rattle.std.proofs.lemmas.Slice.Eq.{bytes_eq-Decides}
use Rattle.tx.specs.declared.input.OutPoint.{OutPoint}
use Rattle.tx.specs.Fields.{same_outpoint}
use Rattle.script.specs.Spelling.{spelling}
use Rattle.script.proofs.Unique.{spelling-unique}
use Rattle.paths.specs.Listing.{CheckedScript, listing}
use Rattle.claim.specs.declared.parts.Place.{Place}
use Rattle.claim.specs.declared.parts.Shell.{Shell}
use Rattle.claim.specs.declared.parts.Shell.TheVariants.{Open, Fixed}
use Rattle.claim.specs.Judgement.{judgement_of}
use Rattle.claim.specs.Claims.{ClaimParts, IsAccepted, IsWhole}
use Rattle.commit.specs.declared.outputs.OutputKind.{OutputKind}
use Rattle.commit.specs.declared.outputs.OutputKind.TheVariants.{ToLocal, ToRemote, ToHtlc}
use Rattle.commit.specs.declared.outputs.CommitmentOutput.{CommitmentOutput}
use Rattle.commit.specs.Commitments.{Contents, commitment_of}
use Rattle.forms.specs.Fillings.{Filling, Signature, PreimageOf, Bytes, filling_of}
use Rattle.penalty.specs.Claimable.{Claimable, claims_on, claims_by, claims_from, commitment_in, claimable_of}
use Rattle.penalty.specs.Sets.{claimed_by, IsClaimOn, AreClaimsOn}
use Rattle.penalty.specs.declared.states.RevokedState.{RevokedState}
use Rattle.filling.specs.Refusals.{is_fixed}
use Rattle.filling.proofs.Lists.{split}
use Rattle.book.specs.Penalties.{same_place, same_filling, same_fillings, same_claimable, is_claim_on, are_claims_on, claimable_in, IsChecked, PenaltySetsAreExact}
use Rattle.book.proofs.Alike.{nothing_in}
use Rattle.book.proofs.CheckedForms.{forms_are_checked}

-- ---- equal parts pass the test

bytes_same : (a : List ℕ) → bytes_eq a a ≡ true
bytes_same a = (bytes_eq-Decides a a).1 refl

filling_same : (a : Filling) → same_filling a a ≡ true
filling_same (Signature a) = bytes_same a
filling_same (PreimageOf a) = bytes_same a
filling_same (Bytes a) = bytes_same a

fillings_same : (xs : List Filling) → same_fillings xs xs ≡ true
fillings_same [] = refl
fillings_same (x ∷ xs) = and_from _ _ (filling_same x) (fillings_same xs)

place_same : (a : Place) → same_place a a ≡ true
place_same a = and_from _ _ (and_from _ _ (and_from _ _ (bytes_same a.outpoint.txid) (eq-eqb a.outpoint.index _ refl)) (eq-eqb a.value _ refl)) (bytes_same a.program)

claimable_same : (a : Claimable) → same_claimable a a ≡ true
claimable_same a = and_from _ _ (and_from _ _ (and_from _ _ (place_same a.place) (bytes_same (spelling a.form.ops))) (eq-eqb a.path _ refl)) (fillings_same a.slots)

-- ---- parts that pass the test are equal

not_so : {P : Type 0} → false ≡ true → P
not_so e = absurd (true≢false (sym e))

pub filling_is : (a b : Filling) → same_filling a b ≡ true → a ≡ b
filling_is (Signature a) (Signature b) e = ap Signature ((bytes_eq-Decides a b).0 e)
filling_is (PreimageOf a) (PreimageOf b) e = ap PreimageOf ((bytes_eq-Decides a b).0 e)
filling_is (Bytes a) (Bytes b) e = ap Bytes ((bytes_eq-Decides a b).0 e)
filling_is (Signature a) (PreimageOf b) e = not_so e
filling_is (Signature a) (Bytes b) e = not_so e
filling_is (PreimageOf a) (Signature b) e = not_so e
filling_is (PreimageOf a) (Bytes b) e = not_so e
filling_is (Bytes a) (Signature b) e = not_so e
filling_is (Bytes a) (PreimageOf b) e = not_so e

pub fillings_are : (xs ys : List Filling) → same_fillings xs ys ≡ true → xs ≡ ys
fillings_are [] [] e = refl
fillings_are [] (y ∷ ys) e = not_so e
fillings_are (x ∷ xs) [] e = not_so e
fillings_are (x ∷ xs) (y ∷ ys) e =
    let h = and_parts (same_filling x y) (same_fillings xs ys) e in
    ap (λ z. z ∷ xs) (filling_is x y h.0) ∙ ap (λ zs. y ∷ zs) (fillings_are xs ys h.1)

outpoint_is : (a b : OutPoint) → same_outpoint a b ≡ true → a ≡ b
outpoint_is a b e =
    let h = and_parts (bytes_eq a.txid b.txid) (a.index == b.index) e in
    ap (λ t. record { txid = t; index = a.index }) ((bytes_eq-Decides a.txid b.txid).0 h.0) ∙ ap (λ n. record { txid = b.txid; index = n }) (eqb-true a.index b.index h.1)

place_is : (a b : Place) → same_place a b ≡ true → a ≡ b
place_is a b e =
    let h = and_parts (same_outpoint a.outpoint b.outpoint && a.value == b.value) (bytes_eq a.program b.program) e in
    let k = and_parts (same_outpoint a.outpoint b.outpoint) (a.value == b.value) h.0 in
    ap (λ o. record { outpoint = o; value = a.value; program = a.program }) (outpoint_is a.outpoint b.outpoint k.0)
    ∙ ap (λ n. record { outpoint = b.outpoint; value = n; program = a.program }) (eqb-true a.value b.value k.1)
    ∙ ap (λ p. record { outpoint = b.outpoint; value = b.value; program = p }) ((bytes_eq-Decides a.program b.program).0 h.1)

same_list : {A E : Type 0} (x y : A) (r : Result A E) → r ≡ Ok x → r ≡ Ok y → x ≡ y
same_list x y r h k = cc

-- scripts of equal bytes have equal paths
pub same_ways : (a b : CheckedScript) → IsChecked a → IsChecked b → bytes_eq (spelling a.ops) (spelling b.ops) ≡ true → a ≡ b
same_ways a b h k e =
    let ops : a.ops ≡ b.ops = spelling-unique a.ops b.ops h.each k.each ((bytes_eq-Decides (spelling a.ops) (spelling b.ops)).0 e) in
    let paths : a.paths ≡ b.paths = same_list a.paths b.paths (listing b.ops) (ap listing (sym ops) ∙ h.listed) k.listed in
    ap (λ o. record { ops = o; paths = a.paths }) ops ∙ ap (λ p. record { ops = b.ops; paths = p }) paths

claimable_is : (a b : Claimable) → IsChecked a.form → IsChecked b.form → a.shell ≡ b.shell → same_claimable a b ≡ true → a ≡ b
claimable_is a b h k shell e =
    let slots = and_parts (same_place a.place b.place && bytes_eq (spelling a.form.ops) (spelling b.form.ops) && a.path == b.path) (same_fillings a.slots b.slots) e in
    let path = and_parts (same_place a.place b.place && bytes_eq (spelling a.form.ops) (spelling b.form.ops)) (a.path == b.path) slots.0 in
    let form = and_parts (same_place a.place b.place) (bytes_eq (spelling a.form.ops) (spelling b.form.ops)) path.0 in
    ap (λ x. record { place = x; form = a.form; path = a.path; slots = a.slots; shell = a.shell }) (place_is a.place b.place form.0)
    ∙ ap (λ x. record { place = b.place; form = x; path = a.path; slots = a.slots; shell = a.shell }) (same_ways a.form b.form h k form.1)
    ∙ ap (λ x. record { place = b.place; form = b.form; path = x; slots = a.slots; shell = a.shell }) (eqb-true a.path b.path path.1)
    ∙ ap (λ x. record { place = b.place; form = b.form; path = b.path; slots = x; shell = a.shell }) (fillings_are a.slots b.slots slots.1)
    ∙ ap (λ x. record { place = b.place; form = b.form; path = b.path; slots = b.slots; shell = x }) shell

open_is : (s : Shell) → not (is_fixed s) ≡ true → s ≡ Open
open_is Open e = refl
open_is (Fixed t) e = not_so e

-- ---- the claims have open shells

abbrev pub AllOpen : List Claimable → Type 0
AllOpen os = AllByRecursion (λ o. o.shell ≡ Open) os

open_append : (xs ys : List Claimable) → AllOpen xs → AllOpen ys → AllOpen (xs ++ ys)
open_append [] ys a b = b
open_append (x ∷ xs) ys a b = (a.0, open_append xs ys a.1 b)

open_on : (c : Contents) (index : ℕ) (place : Place) (k : OutputKind) → AllOpen (claims_on c index place k)
open_on c index place ToLocal = (refl, tt)
open_on c index place ToRemote = (refl, tt)
open_on c index place (ToHtlc d h) = (refl, (refl, tt))

pub open_from : (c : Contents) (index : ℕ) (os : List CommitmentOutput) → AllOpen (claims_from c index os)
unfolding claims_by
open_from c index [] = tt
open_from c index (o ∷ os) = open_append _ _ (open_on c index _ o.kind) (open_from c (index + 1) os)

-- ---- claims on outputs

-- a claim that was accepted on a checked script of its own is judged on another of equal bytes
pub judged : (k c : ClaimParts) → IsChecked k.ways → IsChecked c.ways → IsAccepted c → is_claim_on (claimed_by k) c ≡ (same_claimable (claimed_by c) (claimed_by k) && not (is_fixed c.shell))
judged k c h j accepted = by (same_claimable (claimed_by c) (claimed_by k)) refl
  where
    ways : same_claimable (claimed_by c) (claimed_by k) ≡ true → c.ways ≡ k.ways
    ways e =
        let slots = and_parts (same_place c.place k.place && bytes_eq (spelling c.ways.ops) (spelling k.ways.ops) && c.index == k.index) (same_fillings (map filling_of c.slots) (map filling_of k.slots)) e in
        let path = and_parts (same_place c.place k.place && bytes_eq (spelling c.ways.ops) (spelling k.ways.ops)) (c.index == k.index) slots.0 in
        same_ways c.ways k.ways j h (and_parts (same_place c.place k.place) (bytes_eq (spelling c.ways.ops) (spelling k.ways.ops)) path.0).1

    by : (t : Bool) → same_claimable (claimed_by c) (claimed_by k) ≡ t
        → (t && is_ok (judgement_of k.ways c.index c.slots c.place c.shell) && not (is_fixed c.shell)) ≡ (t && not (is_fixed c.shell))
    by true e = ap (λ b. b && not (is_fixed c.shell)) (ap (λ w. is_ok (judgement_of w c.index c.slots c.place c.shell)) (sym (ways e)) ∙ accepted)
    by false e = refl

pub claim_found : (o : Claimable) (c : ClaimParts) → o.shell ≡ Open → IsClaimOn o c → is_claim_on o c ≡ true
claim_found o c p h = and_from _ _ (and_from _ _ same accepted) open_one
  where
    same : same_claimable (claimed_by c) o ≡ true
    same = ap (same_claimable (claimed_by c)) (sym h.exact) ∙ claimable_same (claimed_by c)

    accepted : is_ok (judgement_of o.form c.index c.slots c.place c.shell) ≡ true
    accepted = ap (λ (x : Claimable). is_ok (judgement_of x.form c.index c.slots c.place c.shell)) (sym h.exact) ∙ h.accepted

    open_one : not (is_fixed c.shell) ≡ true
    open_one = ap (λ s. not (is_fixed s)) (ap (λ (x : Claimable). x.shell) h.exact ∙ p)

pub claim_is : (o : Claimable) (c : ClaimParts) → o.shell ≡ Open → IsChecked o.form → IsChecked c.ways → is_claim_on o c ≡ true → IsClaimOn o c
claim_is o c p h k e = record { exact = exact; accepted = ap (λ w. is_ok (judgement_of w c.index c.slots c.place c.shell)) (ap (λ (x : Claimable). x.form) exact) ∙ front.1 }
  where
    all : (same_claimable (claimed_by c) o && is_ok (judgement_of o.form c.index c.slots c.place c.shell) ≡ true) × (not (is_fixed c.shell) ≡ true)
    all = and_parts (same_claimable (claimed_by c) o && is_ok (judgement_of o.form c.index c.slots c.place c.shell)) (not (is_fixed c.shell)) e

    front : (same_claimable (claimed_by c) o ≡ true) × (is_ok (judgement_of o.form c.index c.slots c.place c.shell) ≡ true)
    front = and_parts (same_claimable (claimed_by c) o) (is_ok (judgement_of o.form c.index c.slots c.place c.shell)) all.0

    exact : claimed_by c ≡ o
    exact = claimable_is (claimed_by c) o k h (open_is c.shell all.1 ∙ sym p) front.0

pub claims_found : (os : List Claimable) (claims : List ClaimParts) → AllOpen os → AreClaimsOn os claims → are_claims_on os claims ≡ true
unfolding are_claims_on
claims_found [] [] p h = refl
claims_found [] (c ∷ cs) p h = absurd h
claims_found (o ∷ os) [] p h = absurd h
claims_found (o ∷ os) (c ∷ cs) p h = and_from _ _ (claim_found o c p.0 h.0) (claims_found os cs p.1 h.1)

pub claims_are : (os : List Claimable) (claims : List ClaimParts) → AllOpen os → AllByRecursion (λ o. IsChecked o.form) os → AllByRecursion (λ c. IsChecked c.ways) claims
    → are_claims_on os claims ≡ true → AreClaimsOn os claims
unfolding are_claims_on
claims_are [] [] p h k e = tt
claims_are [] (c ∷ cs) p h k e = not_so e
claims_are (o ∷ os) [] p h k e = not_so e
claims_are (o ∷ os) (c ∷ cs) p h k e =
    let parts = and_parts (is_claim_on o c) (are_claims_on os cs) e in
    (claim_is o c p.0 h.0 k.0 parts.0, claims_are os cs p.1 h.1 k.1 parts.1)

-- ---- two lists side by side

-- if what is left of both lists is claims on outputs, so are the whole lists
abbrev pub Onward : List ClaimParts → List ClaimParts → ℕ → List ClaimParts → Type 0
Onward kept claims i others = All (λ k. k.shell ≡ Open) kept → AreClaimsOn (map claimed_by (drop i kept)) others → AreClaimsOn (map claimed_by kept) claims

pub steps : (kept claims : List ClaimParts) (i : ℕ) (d k : ClaimParts) (others : List ClaimParts) (c : ClaimParts) (rest : List ClaimParts) → i < length kept → k ≡ get_or kept i d → others ≡ c ∷ rest
    → (k.shell ≡ Open → IsClaimOn (claimed_by k) c) → Onward kept claims i others → Onward kept claims (i + 1) rest
steps kept claims i d k others c rest lt is both on so_far all_open left =
    let here : k.shell ≡ Open = subst (λ (x : ClaimParts). x.shell ≡ Open) (sym is) (All-get_or (λ x. x.shell ≡ Open) kept i d lt all_open) in
    so_far all_open (rw (split kept i d k lt is, both) (on here, left))

pub nothing_left : (others : List ClaimParts) (t : Bool) → t ≡ (length others == 0) → t ≡ true → length others ≡ 0
nothing_left others t e h = eqb-true (length others) 0 (sym e ∙ h)

pub arrives : (kept claims : List ClaimParts) (i : ℕ) (others : List ClaimParts) → length kept ≤ i → length others ≡ 0 → Onward kept claims i others → All (λ k. k.shell ≡ Open) kept → AreClaimsOn (map claimed_by kept) claims
arrives kept claims i others le nothing so_far all_open = so_far all_open (rw (drop_all i kept le, nothing_in others nothing) tt)

open_claims : (os : List Claimable) (kept : List ClaimParts) → AllOpen os → AreClaimsOn os kept → AllByRecursion (λ k. k.shell ≡ Open) kept
open_claims [] [] p h = tt
open_claims [] (k ∷ ks) p h = absurd h
open_claims (o ∷ os) [] p h = absurd h
open_claims (o ∷ os) (k ∷ ks) p h = (ap (λ (x : Claimable). x.shell) h.0.exact ∙ p.0, open_claims os ks p.1 h.1)

-- the claims of a set are open
pub set_is_open : (state : RevokedState) (kept : List ClaimParts) → AreClaimsOn (claimable_of state) kept → All (λ k. k.shell ≡ Open) kept
unfolding claimable_of
set_is_open state kept h = All-from_recursion (λ k. k.shell ≡ Open) kept (open_claims (claimable_of state) kept (open_from (commitment_in state) 0 (commitment_in state).outputs) h)

pub set_is_found : (state : RevokedState) (claims : List ClaimParts) → AreClaimsOn (claimable_of state) claims → are_claims_on (claimable_of state) claims ≡ true
unfolding claimable_of
set_is_found state claims h = claims_found (claimable_of state) claims (open_from (commitment_in state) 0 (commitment_in state).outputs) h

-- the scripts of claims are checked
pub ways_are_checked : (claims : List ClaimParts) → AllByRecursion IsWhole claims → AllByRecursion (λ c. IsChecked c.ways) claims
ways_are_checked [] h = tt
ways_are_checked (c ∷ cs) h = (record { each = h.0.ops; listed = h.0.listed }, ways_are_checked cs h.1)

pub penalty_sets_are_exact : PenaltySetsAreExact
unfolding claimable_of claimable_in
penalty_sets_are_exact = record {
  found = λ c claims h. claims_found (claims_from c 0 c.outputs) claims (open_from c 0 c.outputs) h;
  only = λ c claims h k e. claims_are (claims_from c 0 c.outputs) claims (open_from c 0 c.outputs) h k e;
  forms = forms_are_checked;
  exact = λ terms view owner number point claims pays whole e.
      let c = commitment_of terms view owner number point in
      claims_are (claims_from c 0 c.outputs) claims (open_from c 0 c.outputs) (forms_are_checked terms view owner number point pays) (ways_are_checked claims whole) e;
  same = λ s c secret state h. rw (h.terms_is, h.view_is, h.owner_is, h.number_is, h.secret_is) refl;
}
