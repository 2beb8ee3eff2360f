-- The outpoints that transactions spend, as a set holds them.
use Rattle.std.proofs.Common.{◌≡◌, ℕ, ◌+◌, ◌<◌, Bool, true, false, ◌||◌, cond, List, ◌∷◌, length, drop, refl, sym, ap, subst, ◌∙◌, get_or, add-one, drop-cons}
use Rattle.std.specs.List.{All, list_any, list_all}
use Rattle.std.proofs.lemmas.List.{get_or_default}
use Rattle.std.proofs.lemmas.List.Folds.{list_all_at}
use Rattle.std.specs.Ordering.{is_eq}
use Rattle.tx.specs.declared.input.OutPoint.{OutPoint}
use Rattle.tx.specs.declared.input.TxIn.{TxIn}
use Rattle.tx.specs.Fields.{Transaction, same_outpoint}
use Rattle.chain.specs.Blocks.{names}
use Rattle.chain.specs.Indexing.{outpoint_cmp}
use Rattle.chain.proofs.Noting.{ties, same_is}

-- one of the inputs spends it
abbrev pub among : OutPoint → List TxIn → Bool
among o inputs = list_any (λ i. same_outpoint i.outpoint o) inputs

split : {A : Type 0} (xs : List A) (i : ℕ) (d x : A) → i < length xs → x ≡ get_or xs i d → drop i xs ≡ x ∷ drop (i + 1) xs
split xs i d x h e = rw (add-one, e) (drop-cons xs i d h)

moved : (t a b : Bool) → (a || cond t true b) ≡ ((t || a) || b)
moved true true b = refl
moved true false b = refl
moved false a b = refl

-- an outpoint that is marked is not one that isn't
unlike : (is_marked : OutPoint → Bool) (x o : OutPoint) → is_marked x ≡ false → is_marked o ≡ true → (b : Bool) → same_outpoint x o ≡ b → b ≡ false
unlike is_marked x o out within false s = refl
unlike is_marked x o out within true s = sym within ∙ ap is_marked (sym (same_is x o s)) ∙ out

-- one that isn't marked changes nothing for those that are
pub passed : (is_marked : OutPoint → Bool) (has : OutPoint → Bool) (x o : OutPoint) → is_marked x ≡ false → is_marked o ≡ true → has o ≡ cond (is_eq (outpoint_cmp x o)) true (has o)
passed is_marked has x o out within = ap (λ t. cond t true (has o)) (sym (ties x o ∙ unlike is_marked x o out within (same_outpoint x o) refl))

-- one input more is in the set, for the outpoints that are marked
pub input_added : (is_marked old new : OutPoint → Bool) (inputs : List TxIn) (i : ℕ) (d x : TxIn) (whole : OutPoint → Bool) → i < length inputs → x ≡ get_or inputs i d
    → ((q : OutPoint) → is_marked q ≡ true → new q ≡ cond (is_eq (outpoint_cmp x.outpoint q)) true (old q)) → ((o : OutPoint) → is_marked o ≡ true → (among o (drop i inputs) || old o) ≡ whole o)
    → (o : OutPoint) → is_marked o ≡ true → (among o (drop (i + 1) inputs) || new o) ≡ whole o
input_added is_marked old new inputs i d x whole l e u v o m =
    ap (λ t. among o (drop (i + 1) inputs) || t) (u o m ∙ ap (λ t. cond t true (old o)) (ties x.outpoint o))
    ∙ moved (same_outpoint x.outpoint o) (among o (drop (i + 1) inputs)) (old o)
    ∙ ap (λ (xs : List TxIn). among o xs || old o) (sym (split inputs i d x l e))
    ∙ v o m

regrouped : (a b c : Bool) → (b || (a || c)) ≡ ((a || b) || c)
regrouped true true c = refl
regrouped true false c = refl
regrouped false b c = refl

-- the inputs of one transaction more are in the set, for the outpoints that are marked
pub tx_added : (is_marked old new : OutPoint → Bool) (txs : List Transaction) (i : ℕ) (d t : Transaction) (inputs : List TxIn) (whole : OutPoint → Bool) → i < length txs → t ≡ get_or txs i d → inputs ≡ t.inputs
    → ((o : OutPoint) → is_marked o ≡ true → new o ≡ (among o inputs || old o)) → ((o : OutPoint) → is_marked o ≡ true → (list_any (names o) (drop i txs) || old o) ≡ whole o)
    → (o : OutPoint) → is_marked o ≡ true → (list_any (names o) (drop (i + 1) txs) || new o) ≡ whole o
tx_added is_marked old new txs i d t inputs whole l e s u v o m =
    ap (λ b. list_any (names o) (drop (i + 1) txs) || b) (u o m ∙ ap (λ (xs : List TxIn). among o xs || old o) s)
    ∙ regrouped (names o t) (list_any (names o) (drop (i + 1) txs)) (old o)
    ∙ ap (λ (ts : List Transaction). list_any (names o) ts || old o) (sym (split txs i d t l e))
    ∙ v o m

-- ---- for the funding outputs, all of which are marked

pub of_marked : (is_marked : OutPoint → Bool) (P : OutPoint → Type 0) (os : List OutPoint) → list_all is_marked os ≡ true → ((o : OutPoint) → is_marked o ≡ true → P o) → All P os
of_marked is_marked P os a h k d l = h (get_or os k d) (marked (is_marked (get_or os k d)) refl)
  where
    marked : (b : Bool) → is_marked (get_or os k d) ≡ b → is_marked (get_or os k d) ≡ true
    marked true e = e
    marked false e = e ∙ sym (list_all_at is_marked os k d l e) ∙ a

-- the set tells of a channel's funding output
pub tells : (has : OutPoint → Bool) (txs : List Transaction) (os : List OutPoint) (c : ℕ) (o f : OutPoint) → All (λ x. has x ≡ list_any (names x) txs) os → c < length os → o ≡ get_or os c o
    → f ≡ get_or os c f → has f ≡ list_any (names o) txs
tells has txs os c o f h l e d =
    let same : f ≡ o = d ∙ get_or_default os c f o l ∙ sym e in
    subst (λ x. has x ≡ list_any (names x) txs) (sym d) (h c f l) ∙ ap (λ x. list_any (names x) txs) same
