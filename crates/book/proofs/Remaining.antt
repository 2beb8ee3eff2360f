-- What is left of a release where other transactions spent some of its outputs, and how it is released again.
use Rattle.std.proofs.Common.{◌≡◌, ℕ, suc, ◌+◌, ◌<◌, ◌≤◌, Bool, true, false, not, cond, List, [], ◌∷◌, ◌++◌, length, drop, get_or, Some, None, Result, Err, refl, sym, ap, ◌∙◌, subst, arith, inl, inr, append_assoc, append-nil}
use Rattle.std.specs.Prelude.{◌==◌, nat_lt, slice_get}
use Rattle.std.specs.List.{filter, list_any}
use Rattle.std.proofs.Math.Seq.{drop-cons}
use Rattle.std.proofs.lemmas.Bool.Decides.{nat_tests}
use Rattle.std.proofs.lemmas.List.{drop_all}
use Rattle.std.proofs.lemmas.List.Elements.{filter-append}
use Rattle.tx.specs.declared.input.OutPoint.{OutPoint}
use Rattle.tx.specs.declared.limits.TheConstants.{MAX_INPUTS, MAX_OUTPUTS}
use Rattle.tx.specs.Parts.{Output}
use Rattle.tx.specs.Fields.{same_outpoint}
use Rattle.claim.specs.Claims.{ClaimParts}
use Rattle.filling.specs.Filled.{Filling}
use Rattle.filling.specs.declared.errors.FillError.TheVariants.{NoMemory}
use Rattle.book.specs.declared.calls.Batch.{Batch}
use Rattle.book.specs.declared.calls.Call.{Call}
use Rattle.book.specs.declared.calls.Call.TheVariants.{Open, Step, Sign, Revoke, Keep, Release, Close}
use Rattle.book.specs.declared.calls.Entry.{Entry}
use Rattle.book.specs.declared.errors.ReleaseError.{ReleaseError}
use Rattle.book.specs.declared.errors.ReleaseError.TheVariants.{Unfilled}
use Rattle.book.specs.declared.errors.ReleaseAgainError.{ReleaseAgainError}
use Rattle.book.specs.declared.errors.ReleaseAgainError.TheVariants.{Refused, NoSuchEntry, NotARelease, TooManyOutputs, NothingLeft}
use Rattle.book.specs.Replies.{released, is_accepted, extended, if_so}
use Rattle.book.specs.Calling.{IsCall}
use Rattle.book.specs.Calls.{IsBatchOf}
use Rattle.book.specs.Again.{without_spent, batch_refusal, left_refusal, rest_refusal, IsRest, IsReleasedAgain, IsAgainRefusal, IsRestRefusal}

-- ---- the claims that are left

abbrev is_spent : List OutPoint → OutPoint → Bool
is_spent spent o = list_any (λ p. same_outpoint p o) spent

-- one claim more, whose output was spent, or which is left
pub spent_one : (spent : List OutPoint) (claim : ClaimParts) (left : List ClaimParts) (o : OutPoint) (b : Bool) → o ≡ claim.place.outpoint → b ≡ is_spent spent o → b ≡ true → left ≡ left ++ without_spent spent (claim ∷ [])
spent_one spent claim left o b same test held =
    let there : is_spent spent claim.place.outpoint ≡ true = sym (ap (is_spent spent) same) ∙ sym test ∙ held in
    sym (append-nil left) ∙ ap (λ xs. left ++ xs) (sym (ap (λ t. cond (not t) (claim ∷ []) []) there))

pub left_one : (spent : List OutPoint) (claim copy : ClaimParts) (left later : List ClaimParts) (o : OutPoint) (b : Bool) → o ≡ claim.place.outpoint → b ≡ is_spent spent o → b ≡ false → copy ≡ claim → later ≡ left ++ copy ∷ []
    → later ≡ left ++ without_spent spent (claim ∷ [])
left_one spent claim copy left later o b same test failed copied pushed =
    let there : is_spent spent claim.place.outpoint ≡ false = sym (ap (is_spent spent) same) ∙ sym test ∙ failed in
    pushed ∙ ap (λ x. left ++ x ∷ []) copied ∙ ap (λ xs. left ++ xs) (sym (ap (λ t. cond (not t) (claim ∷ []) []) there))

-- what is left of those from here is left of all
pub left_step : (spent : List OutPoint) (claims : List ClaimParts) (i : ℕ) (claim : ClaimParts) (done later whole : List ClaimParts) → i < length claims → claim ≡ get_or claims i claim
    → later ≡ done ++ without_spent spent (claim ∷ []) → done ++ without_spent spent (drop i claims) ≡ whole → later ++ without_spent spent (drop (i + 1) claims) ≡ whole
left_step spent claims i claim done later whole l e n h =
    let next : suc i ≡ i + 1 = omega arith in
    let rest : List ClaimParts = drop (i + 1) claims in
    let from_here : drop i claims ≡ claim ∷ rest = drop-cons claims i claim l ∙ ap (λ x. x ∷ drop (suc i) claims) (sym e) ∙ ap (λ j. claim ∷ drop j claims) next in
    ap (λ xs. xs ++ without_spent spent rest) n ∙ append_assoc done (without_spent spent (claim ∷ [])) (without_spent spent rest)
    ∙ ap (λ xs. done ++ xs) (sym (ap (without_spent spent) from_here ∙ filter-append (λ c. not (is_spent spent c.place.outpoint)) (claim ∷ []) rest)) ∙ h

pub left_end : (spent : List OutPoint) (claims : List ClaimParts) (i : ℕ) (done whole : List ClaimParts) → length claims ≤ i → done ++ without_spent spent (drop i claims) ≡ whole → done ≡ whole
left_end spent claims i done whole l h = sym (append-nil done) ∙ ap (λ xs. done ++ xs) (sym (ap (without_spent spent) (drop_all i claims l))) ∙ h

-- no more than there were
at_most : {A : Type 0} (p : A → Bool) (xs : List A) → length (filter p xs) ≤ length xs
at_most p [] = omega arith
at_most p (x ∷ xs) = by (p x) (at_most p xs)
  where
    by : (b : Bool) → length (filter p xs) ≤ length xs → length (cond b (x ∷ filter p xs) (filter p xs)) ≤ suc (length xs)
    by true l = omega (arith, l)
    by false l = omega (arith, l)

-- ---- the batch of these

pub few : (spent : List OutPoint) (b : Batch) (slice left : List ClaimParts) → slice ≡ b.claims → left ≡ without_spent spent slice → length left ≤ MAX_INPUTS
few spent b slice left same is =
    let l = at_most (λ (c : ClaimParts). not (is_spent spent c.place.outpoint)) slice in
    let m : length slice ≤ MAX_INPUTS = subst (λ xs. length xs ≤ MAX_INPUTS) (sym same) b.inputs in
    subst (λ xs. length xs ≤ MAX_INPUTS) (sym is) (omega (arith, l, m))

pub some : (n : ℕ) (b : Bool) → b ≡ (n == 0) → b ≡ false → 1 ≤ n
some n b e f = let t : (n == 0) ≡ false = sym e ∙ f in grind (arith, nat_tests)

pub too_many : (spent : List OutPoint) (outputs : List Output) (b : Batch) (n : ℕ) → n ≡ length outputs → MAX_OUTPUTS < n → batch_refusal spent outputs b ≡ Some TooManyOutputs
too_many spent outputs b n e l =
    let more : MAX_OUTPUTS < length outputs = omega (arith, e, l) in
    let t : nat_lt MAX_OUTPUTS (length outputs) ≡ true = grind (arith, nat_tests) in
    ap (λ x. if_so x TooManyOutputs (if_so (length (without_spent spent b.claims) == 0) NothingLeft None)) t

pub nothing_left : (spent : List OutPoint) (outputs : List Output) (b : Batch) (n : ℕ) (slice left : List ClaimParts) (empty : Bool) → n ≡ length outputs → n ≤ MAX_OUTPUTS → slice ≡ b.claims → left ≡ without_spent spent slice
    → empty ≡ (length left == 0) → empty ≡ true → batch_refusal spent outputs b ≡ Some NothingLeft
nothing_left spent outputs b n slice left empty e l same is test held =
    let fewer : length outputs ≤ MAX_OUTPUTS = omega (arith, e, l) in
    let t : nat_lt MAX_OUTPUTS (length outputs) ≡ false = grind (arith, nat_tests) in
    let u : (length (without_spent spent b.claims) == 0) ≡ true = ap (λ xs. length xs == 0) (sym (is ∙ ap (without_spent spent) same)) ∙ sym test ∙ held in
    ap (λ x. if_so x TooManyOutputs (if_so (length (without_spent spent b.claims) == 0) NothingLeft None)) t ∙ ap (λ x. if_so x NothingLeft None) u

-- ---- the batch of an entry

at_entry : (history : List Entry) (n : ℕ) (e : Entry) (channel : ℕ) (b : Batch) → slice_get history n ≡ Some e → e.call ≡ Release channel b → slice_get history n ≡ Some (record { seat = e.seat; call = Release channel b })
at_entry history n e channel b found is = found ∙ ap (λ call. Some (record e { call = call })) is

pub rest_is : (history : List Entry) (n : ℕ) (e : Entry) (spent : List OutPoint) (outputs : List Output) (channel : ℕ) (b rest : Batch) → slice_get history n ≡ Some e → e.call ≡ Release channel b
    → IsBatchOf (without_spent spent b.claims) outputs b.preimages rest → IsRest (slice_get history n) spent outputs channel rest
rest_is history n e spent outputs channel b rest found is of = record { seat = e.seat; batch = b; was = at_entry history n e channel b found is; is = of }

pub rest_refused : (history : List Entry) (n : ℕ) (e : Entry) (spent : List OutPoint) (outputs : List Output) (channel : ℕ) (b : Batch) (error : ReleaseAgainError) → slice_get history n ≡ Some e → e.call ≡ Release channel b
    → IsRestRefusal (batch_refusal spent outputs b) error → IsRestRefusal (rest_refusal spent outputs (slice_get history n)) error
rest_refused history n e spent outputs channel b error found is refused =
    subst (λ o. IsRestRefusal o error) (sym (ap (rest_refusal spent outputs) (at_entry history n e channel b found is))) refused

not_released : (spent : List OutPoint) (outputs : List Output) (call : Call) → ((channel : ℕ) (b : Batch) → call ≡ Release channel b → ⊥) → left_refusal spent outputs call ≡ Some NotARelease
not_released spent outputs (Open o) never = refl
not_released spent outputs (Step c step) never = refl
not_released spent outputs (Sign c) never = refl
not_released spent outputs (Revoke c revocation) never = refl
not_released spent outputs (Keep c n claims) never = refl
not_released spent outputs (Release c b) never = absurd (never c b refl)
not_released spent outputs (Close c) never = refl

pub no_release : (history : List Entry) (n : ℕ) (e : Entry) (spent : List OutPoint) (outputs : List Output) → slice_get history n ≡ Some e → ((channel : ℕ) (b : Batch) → e.call ≡ Release channel b → ⊥)
    → rest_refusal spent outputs (slice_get history n) ≡ Some NotARelease
no_release history n e spent outputs found never = ap (rest_refusal spent outputs) found ∙ not_released spent outputs e.call never

-- ---- its release

-- no such batch
pub not_there : (history : List Entry) (seat n : ℕ) (spent : List OutPoint) (outputs : List Output) (e : ReleaseAgainError) → IsRestRefusal (rest_refusal spent outputs (slice_get history n)) e
    → IsAgainRefusal history history seat n spent outputs e
not_there history seat n spent outputs (Refused (Unfilled NoMemory)) h = refl
not_there history seat n spent outputs (Refused e) h = absurd h
not_there history seat n spent outputs NoSuchEntry h = (refl, h)
not_there history seat n spent outputs NotARelease h = (refl, h)
not_there history seat n spent outputs TooManyOutputs h = (refl, h)
not_there history seat n spent outputs NothingLeft h = (refl, h)

-- a refused call leaves the history
same_history : (old new : List Entry) (seat : ℕ) (call : Call) (e : ReleaseError) → IsCall (released (Err e)) old new seat call → new ≡ old
same_history old new seat call e (inl h) = h.1
same_history old new seat call e (inr h) = h.1 ∙ ap (λ r. extended (is_accepted r) old seat call) (sym h.0)

pub again : (old new : List Entry) (seat n : ℕ) (spent : List OutPoint) (outputs : List Output) (channel : ℕ) (rest : Batch) (given : Result Filling ReleaseError) → IsRest (slice_get old n) spent outputs channel rest
    → IsCall (released given) old new seat (Release channel rest) → IsReleasedAgain old new seat n spent outputs given
again old new seat n spent outputs channel rest given left call = record { channel = channel; rest = rest; left = left; call = call }

pub refused_again : (old new : List Entry) (seat n : ℕ) (spent : List OutPoint) (outputs : List Output) (channel : ℕ) (rest : Batch) (e : ReleaseError) → IsRest (slice_get old n) spent outputs channel rest
    → IsCall (released (Err e)) old new seat (Release channel rest) → IsAgainRefusal old new seat n spent outputs (Refused e)
refused_again old new seat n spent outputs channel rest (Unfilled NoMemory) left call = same_history old new seat (Release channel rest) (Unfilled NoMemory) call
refused_again old new seat n spent outputs channel rest e left call =
    (same_history old new seat (Release channel rest) e call, again old new seat n spent outputs channel rest (Err e) left call)
