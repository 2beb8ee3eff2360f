-- What is read of a block, transaction by transaction.
use Rattle.std.proofs.Common.{◌≡◌, ℕ, ◌+◌, ◌<◌, ◌≤◌, Bool, true, false, ◌||◌, cond, List, [], ◌∷◌, Option, Some, None, length, get_or, reverse, take, subst, sym, ap, ◌∙◌, refl, arith}
use Rattle.std.specs.Prelude.{if◌then◌else◌, nat_lt}
use Rattle.std.specs.List.{list_any}
use Rattle.std.specs.Ordering.{is_eq}
use Rattle.std.proofs.lemmas.Bool.Decides.{nat_tests}
use Rattle.tx.specs.declared.input.OutPoint.{OutPoint}
use Rattle.tx.specs.declared.input.TxIn.{TxIn}
use Rattle.tx.specs.Fields.{Transaction, same_outpoint}
use Rattle.chain.specs.Indexing.{outpoint_cmp}
use Rattle.chain.proofs.Lists.{reverse_more}
use Rattle.chain.proofs.Noting.{ties}
use Rattle.sights.specs.declared.sighted.Stage.{Stage}
use Rattle.sights.specs.declared.sighted.Sighted.{Sighted}
use Rattle.sights.specs.Sights.{is_funding, stage_by, is_close, is_there, stage_of_several, stage_by_all, older_of, oldest, is_above, up_to, read_as, read_one, read_block, Reading}

either_or : (t b : Bool) → cond t true b ≡ (t || b)
either_or true b = refl
either_or false b = refl

-- a set of funding outputs with one more
pub added : (fs : List OutPoint) (o : OutPoint) (f g : OutPoint → Bool) → ((q : OutPoint) → f q ≡ is_funding fs q) → ((q : OutPoint) → g q ≡ cond (is_eq (outpoint_cmp o q)) true (f q)) → (q : OutPoint) → g q ≡ is_funding (o ∷ fs) q
added fs o f g i u q = u q ∙ ap (λ t. cond t true (f q)) (ties o q) ∙ either_or (same_outpoint o q) (f q) ∙ ap (λ b. same_outpoint o q || b) (i q)

-- ---- the oldest of a list

pub no_less : (a b : ℕ) → b ≤ a → nat_lt a b ≡ false
no_less a b l = grind (arith, nat_tests)

pub less : (a b : ℕ) → a < b → nat_lt a b ≡ true
less a b h = grind (arith, nat_tests)

-- where there are no more, all are kept
pub all_kept : (count : ℕ) (ss : List Sighted) → length ss ≤ count → ss ≡ oldest count ss
all_kept count [] h = refl
all_kept count (s ∷ ss) h = sym (ap (λ (b : Bool). if b then oldest count ss else s ∷ ss) (no_less count (length (s ∷ ss)) h))

-- and where there are, the newest is not
pub one_less : (count : ℕ) (ss : List Sighted) → count < length ss → oldest count (older_of ss) ≡ oldest count ss
one_less count [] h = refl
one_less count (s ∷ ss) h = sym (ap (λ (b : Bool). if b then oldest count ss else s ∷ ss) (less count (length (s ∷ ss)) h))

pub one_lower : (height : ℕ) (ss : List Sighted) → is_above height ss ≡ true → up_to height (older_of ss) ≡ up_to height ss
one_lower height [] h = refl
one_lower height (s ∷ ss) h = sym (ap (λ (b : Bool). if b then up_to height ss else s ∷ ss) h)

pub all_low : (height : ℕ) (ss : List Sighted) → is_above height ss ≡ false → ss ≡ up_to height ss
all_low height [] h = refl
all_low height (s ∷ ss) h = sym (ap (λ (b : Bool). if b then up_to height ss else s ∷ ss) h)

-- a list stands below another
pub data IsBelow (old : List Sighted) : List Sighted → Type 0 where
  itself : IsBelow old old
  onto : {s : Sighted} {ss : List Sighted} → IsBelow old ss → IsBelow old (s ∷ ss)

pub read_onto : (old ss : List Sighted) (stage : Option Stage) (height : ℕ) (t : Transaction) → IsBelow old ss → IsBelow old (read_as stage height t ss)
read_onto old ss None height t b = b
read_onto old ss (Some stage) height t b = onto b

longer : (old ss : List Sighted) → IsBelow old ss → length old ≤ length ss
longer old ss itself = omega arith
longer old xs (onto {s} {ss} b) = let l = longer old ss b in omega (arith, l)

-- going back to as many gives it again
pub back : (old ss : List Sighted) → IsBelow old ss → oldest (length old) ss ≡ old
back old ss itself = sym (all_kept (length old) old (omega arith))
back old xs (onto {s} {ss} b) = let l = longer old ss b in sym (one_less (length old) (s ∷ ss) (omega (arith, l))) ∙ back old ss b

-- ---- a block, transaction by transaction

pub of_one : (fundings : List OutPoint) (ss : List Sighted) (inputs : List TxIn) (d i : TxIn) → length inputs ≡ 1 → i ≡ get_or inputs 0 d → stage_by fundings ss i ≡ stage_by_all fundings ss inputs
of_one fundings ss [] d i e at = absurd (omega (arith, e))
of_one fundings ss (x ∷ []) d i e at = ap (stage_by fundings ss) at
of_one fundings ss (x ∷ y ∷ xs) d i e at = absurd (omega (arith, e))

pub of_several : (fundings : List OutPoint) (ss : List Sighted) (inputs : List TxIn) → (length inputs ≡ 1 → ⊥)
    → stage_of_several (list_any (λ i. is_close (stage_by fundings ss i)) inputs) (list_any (λ i. is_there (stage_by fundings ss i)) inputs) ≡ stage_by_all fundings ss inputs
of_several fundings ss [] more = refl
of_several fundings ss (x ∷ []) more = absurd (more refl)
of_several fundings ss (x ∷ y ∷ xs) more = refl

-- one transaction more was read
pub read_next : (before now new : Reading) (height : ℕ) (items : List Transaction) (i : ℕ) (d t : Transaction) → i < length items → t ≡ get_or items i d
    → now ≡ record before { sighted = read_block before.fundings height (reverse (take i items)) before.sighted } → new ≡ record now { sighted = read_one now.fundings height t now.sighted }
    → new ≡ record before { sighted = read_block before.fundings height (reverse (take (i + 1) items)) before.sighted }
read_next before now new height items i d t l e is u =
    u ∙ ap (λ (r : Reading). record r { sighted = read_one r.fundings height t r.sighted }) is
    ∙ ap (λ (ts : List Transaction). record before { sighted = read_block before.fundings height ts before.sighted }) (ap (λ (x : Transaction). x ∷ reverse (take i items)) e ∙ sym (reverse_more items i d l))

pub next_below : (before now new : Reading) (height : ℕ) (t : Transaction) → IsBelow before.sighted now.sighted → new ≡ record now { sighted = read_one now.fundings height t now.sighted } → IsBelow before.sighted new.sighted
next_below before now new height t b u =
    subst (λ (r : Reading). IsBelow before.sighted r.sighted) (sym u) (read_onto before.sighted now.sighted (stage_by_all now.fundings now.sighted t.inputs) height t b)

-- going back to what was read before
pub gone_back : (before after : Reading) (fundings : List OutPoint) (ss kept : List Sighted) (count : ℕ) → (let r : Reading = record { fundings = fundings; sighted = ss } in r) ≡ after → after.fundings ≡ before.fundings
    → IsBelow before.sighted after.sighted → count ≡ length before.sighted → kept ≡ oldest count ss → (let r : Reading = record { fundings = fundings; sighted = kept } in r) ≡ before
gone_back before after fundings ss kept count inside same b counted is =
    let old : kept ≡ before.sighted = is ∙ ap (oldest count) (ap (λ (r : Reading). r.sighted) inside) ∙ ap (λ (n : ℕ). oldest n after.sighted) counted ∙ back before.sighted after.sighted b in
    ap (λ (fs : List OutPoint). let r : Reading = record { fundings = fs; sighted = kept } in r) (ap (λ (r : Reading). r.fundings) inside ∙ same)
    ∙ ap (λ (xs : List Sighted). let r : Reading = record { fundings = before.fundings; sighted = xs } in r) old
