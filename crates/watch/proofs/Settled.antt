-- Once all that is due was given, a block that leaves the funding output alone gives nothing more.
use Rattle.std.proofs.Common.{◌≡◌, ℕ, ◌&&◌, ◌||◌, Bool, true, false, cond, List, [], ◌∷◌, ◌++◌, map, refl, sym, ap, subst, ◌∙◌, append_assoc, append-nil, eq-eqb}
use Rattle.std.specs.Prelude.{filter}
use Rattle.std.specs.List.{list_any, list_all}
use Rattle.std.specs.Bool.{OnTrue}
use Rattle.std.proofs.lemmas.List.Folds.{list_any-append}
use Rattle.tx.specs.declared.input.OutPoint.{OutPoint}
use Rattle.tx.specs.Fields.{Transaction}
use Rattle.chain.specs.Blocks.{names}
use Rattle.chain.proofs.Noting.{itself}
use Rattle.claim.specs.Claims.{ClaimParts}
use Rattle.penalty.specs.Claimable.{Claimable}
use Rattle.penalty.specs.Sets.{AreClaimsOn}
use Rattle.resolve.specs.declared.known.Known.{Known}
use Rattle.watch.specs.declared.spends.Spend.{Spend}
use Rattle.watch.specs.declared.unclaimed.Given.{Given}
use Rattle.watch.specs.Watching.{Seen, spend_at, spends_in, spends_after, due_by, is_given, given_at, unclaimed, claims_after, seen_after}
use Rattle.watch.specs.Learning.{htlcs_by, learnt_in}
use Rattle.watch.specs.Sights.{IsSight}
use Rattle.watch.specs.Lookouts.{LookoutParts, IsSettled}

pub both : (a b : Bool) → a ≡ true → b ≡ true → (a && b) ≡ true
both a b p q = ap (λ x. x && b) p ∙ q

or_true : (b : Bool) → (b || true) ≡ true
or_true true = refl
or_true false = refl

-- what was given stays given
kept : (given more : List Given) (o : Claimable) → is_given given o ≡ true → is_given (given ++ more) o ≡ true
kept given more o e = list_any-append _ given more ∙ ap (λ b. b || is_given more o) e

-- a claim was given once it is noted
now : (h : ℕ) (given : List Given) (o : Claimable) → is_given (given ++ given_at h o ∷ []) o ≡ true
now h given o =
    list_any-append _ given (given_at h o ∷ [])
    ∙ ap (λ b. is_given given o || (b || false)) (both _ _ (itself o.place.outpoint) (eq-eqb o.path o.path refl)) ∙ or_true (is_given given o)

-- after what is due was given, all of it was
all_given : (h : ℕ) (given : List Given) (os : List Claimable) → list_all (is_given (given ++ map (given_at h) (unclaimed h given os))) os ≡ true
unfolding unclaimed
all_given h given [] = refl
all_given h given (o ∷ os) = go (is_given given o) refl (all_given h given os) (all_given h (given ++ given_at h o ∷ []) os)
  where
    go : (b : Bool) → is_given given o ≡ b → list_all (is_given (given ++ map (given_at h) (unclaimed h given os))) os ≡ true
        → list_all (is_given ((given ++ given_at h o ∷ []) ++ map (given_at h) (unclaimed h (given ++ given_at h o ∷ []) os))) os ≡ true
        → list_all (is_given (given ++ map (given_at h) (cond b (unclaimed h given os) (o ∷ unclaimed h (given ++ given_at h o ∷ []) os)))) (o ∷ os) ≡ true
    go true e i j = both _ _ (kept given (map (given_at h) (unclaimed h given os)) o e) i
    go false e i j =
        let rest : List Given = map (given_at h) (unclaimed h (given ++ given_at h o ∷ []) os) in
        subst (λ (gs : List Given). list_all (is_given gs) (o ∷ os) ≡ true) (append_assoc given (given_at h o ∷ []) rest)
        (both _ _ (kept (given ++ given_at h o ∷ []) rest o (now h given o)) j)

-- and then nothing is left to be given
none_left : (h : ℕ) (given : List Given) (os : List Claimable) → list_all (is_given given) os ≡ true → unclaimed h given os ≡ []
unfolding unclaimed
none_left h given [] e = refl
none_left h given (o ∷ os) e = go (is_given given o) e (none_left h given os)
  where
    go : (b : Bool) → (b && list_all (is_given given) os) ≡ true → (list_all (is_given given) os ≡ true → unclaimed h given os ≡ [])
        → cond b (unclaimed h given os) (o ∷ unclaimed h (given ++ given_at h o ∷ []) os) ≡ []
    go true e f = f e
    go false e f = absurd (cc)

-- after a block was read, all that is due was given
pub settled : (seen : Seen) (h : ℕ) (txs : List Transaction) (known : Known) → IsSettled (seen_after seen h txs known) known
settled seen h txs known = all_given h seen.given (due_by known (spends_after seen h txs known))

-- transactions that do not spend an output
none_spend : (o : OutPoint) (h : ℕ) (txs : List Transaction) → list_any (names o) txs ≡ false → spends_in o h txs ≡ []
none_spend o h [] e = refl
none_spend o h (t ∷ ts) e = go (names o t) e (none_spend o h ts)
  where
    go : (b : Bool) → (b || list_any (names o) ts) ≡ false → (list_any (names o) ts ≡ false → spends_in o h ts ≡ []) → map (spend_at h) (cond b (t ∷ filter (names o) ts) (filter (names o) ts)) ≡ []
    go true e f = absurd (cc)
    go false e f = f e

same_spends : (seen : Seen) (h : ℕ) (txs : List Transaction) (known : Known) → list_any (names known.terms.funding) txs ≡ false → spends_after seen h txs known ≡ seen.spends
same_spends seen h txs known e = ap (λ (xs : List Spend). seen.spends ++ xs) (none_spend known.terms.funding h txs e) ∙ append-nil seen.spends

none_due : (seen : Seen) (h : ℕ) (txs : List Transaction) (known : Known) → list_any (names known.terms.funding) txs ≡ false → IsSettled seen known → claims_after seen h txs known ≡ []
none_due seen h txs known e s =
    ap (λ (xs : List Spend). unclaimed h seen.given (due_by known xs)) (same_spends seen h txs known e) ∙ none_left h seen.given (due_by known seen.spends) s

-- what is seen after such a block, and what it shows
pub quiet_seen : (seen : Seen) (h : ℕ) (txs : List Transaction) (known : Known) → list_any (names known.terms.funding) txs ≡ false → IsSettled seen known → seen_after seen h txs known ≡ seen
quiet_seen seen h txs known e s =
    let with : List Spend → List Given → Seen = λ spends given. record { spends = spends; given = given } in
    ap (λ (xs : List Spend). with xs (seen.given ++ map (given_at h) (claims_after seen h txs known))) (same_spends seen h txs known e)
    ∙ ap (λ (os : List Claimable). with seen.spends (seen.given ++ map (given_at h) os)) (none_due seen h txs known e s)
    ∙ ap (λ (gs : List Given). with seen.spends gs) (append-nil seen.given)

pub quiet_sight : (seen : Seen) (h : ℕ) (txs : List Transaction) (known : Known) (claims : List ClaimParts) (learnt : List (List ℕ)) → list_any (names known.terms.funding) txs ≡ false → IsSettled seen known
    → claims ≡ [] → learnt ≡ learnt_in (htlcs_by known seen.spends) txs → IsSight seen h txs known claims learnt
quiet_sight seen h txs known claims learnt e s n l = record {
  due =
      subst (λ (os : List Claimable). AreClaimsOn os claims) (sym (none_due seen h txs known e s))
      (subst (λ (cs : List ClaimParts). AreClaimsOn [] cs) (sym n) tt);
  shown = l ∙ ap (λ (xs : List Spend). learnt_in (htlcs_by known xs) txs) (sym (same_spends seen h txs known e));
}

pub on_true : (b : Bool) (P : Type 0) → b ≡ true → OnTrue b P → P
on_true true P e h = h
on_true false P e h = absurd (cc)

-- what a lookout gives for such a block, and its state after it; its parts are destructured twice, as p and as q
pub sight_of : (p q now : LookoutParts) (h : ℕ) (txs slice : List Transaction) (spends : List Spend) (claims : List ClaimParts) (learnt : List (List ℕ)) → p ≡ now → q ≡ now → slice ≡ txs
    → list_any (names p.known.terms.funding) slice ≡ false → IsSettled p.seen p.known → spends ≡ q.seen.spends → claims ≡ [] → learnt ≡ learnt_in (htlcs_by q.known spends) slice
    → IsSight now.seen h txs now.known claims learnt
sight_of p q now h txs slice spends claims learnt pn qn st e s se n l =
    quiet_sight now.seen h txs now.known claims learnt
    (subst (λ (x : LookoutParts). list_any (names x.known.terms.funding) txs ≡ false) pn (subst (λ (ts : List Transaction). list_any (names p.known.terms.funding) ts ≡ false) st e))
    (subst (λ (x : LookoutParts). IsSettled x.seen x.known) pn s) n
    (l ∙ ap (λ (ts : List Transaction). learnt_in (htlcs_by q.known spends) ts) st ∙ ap (λ (ss : List Spend). learnt_in (htlcs_by q.known ss) txs) se
    ∙ ap (λ (x : LookoutParts). learnt_in (htlcs_by x.known x.seen.spends) txs) qn)

pub seen_on : (p q now : LookoutParts) (h : ℕ) (txs slice : List Transaction) → p ≡ now → q ≡ now → slice ≡ txs → list_any (names p.known.terms.funding) slice ≡ false → IsSettled p.seen p.known
    → q ≡ record { seen = seen_after now.seen h txs now.known; known = now.known }
seen_on p q now h txs slice pn qn st e s =
    let with : Seen → LookoutParts = λ seen. record { seen = seen; known = now.known } in
    qn
    ∙ ap with
    (sym (quiet_seen now.seen h txs now.known
    (subst (λ (x : LookoutParts). list_any (names x.known.terms.funding) txs ≡ false) pn (subst (λ (ts : List Transaction). list_any (names p.known.terms.funding) ts ≡ false) st e))
    (subst (λ (x : LookoutParts). IsSettled x.seen x.known) pn s)))
