-- Offers are numbered from 0 in their order, and only offers that passed all stages are removed.
use Rattle.std.proofs.Common.{◌≡◌, ℕ, suc, ◌+◌, ◌<◌, ◌≤◌, Bool, true, false, eqb, List, [], ◌∷◌, ◌++◌, length, sym, ap, ◌∙◌, refl, arith, Option, Some}
use Rattle.std.proofs.lemmas.Bool.{eqb-true}
use Rattle.updates.specs.declared.changes.Update.{Update}
use Rattle.terms.specs.declared.htlcs.Htlc.{Htlc}
use Rattle.updates.specs.Updates.{first_of_fates, fate, offers, offer_of, total, if_fulfilled, gained_msat}
use Rattle.updates.specs.declared.fates.Fate.TheVariants.{Live}
use Rattle.updates.proofs.Sums.{offers-append, fate-append, gained-append}
use Rattle.updates.specs.Steady.{IsBeginning, Numbered, RemovesBelow}

pub numbered-append : (k : ℕ) (os ps : List Htlc) → Numbered k os → Numbered (k + length os) ps → Numbered k (os ++ ps)
numbered-append k [] ps n m = let e : k + 0 ≡ k = omega arith in rw e at m
numbered-append k (o ∷ os) ps n m =
    let e : k + suc (length os) ≡ suc k + length os = omega arith in
    let m' : Numbered (suc k + length os) ps = rw e at m in
    (n.0, numbered-append (suc k) os ps n.1 m')

pub numbered_rest : (k : ℕ) (os ps : List Htlc) → Numbered k (os ++ ps) → Numbered (k + length os) ps
numbered_rest k [] ps n = let e : k ≡ k + 0 = omega arith in rw e at n
numbered_rest k (o ∷ os) ps n =
    let m : Numbered (suc k + length os) ps = numbered_rest (suc k) os ps n.1 in
    let e : suc k + length os ≡ k + suc (length os) = omega arith in
    rw e at m

pub numbered_start : (k : ℕ) (os ps : List Htlc) → Numbered k (os ++ ps) → Numbered k os
numbered_start k [] ps n = tt
numbered_start k (o ∷ os) ps n = (n.0, numbered_start (suc k) os ps n.1)

-- an offer that is found has a number below the next
pub found_below : (id k : ℕ) (os : List Htlc) (o : Htlc) → Numbered k os → offer_of id os ≡ Some o → id < k + length os
found_below id k [] o n e = absurd (cc)
found_below id k (p ∷ os) o n e = by (found_below id (suc k) os o n.1) (eqb p.id id) refl
  where
    by : (offer_of id os ≡ Some o → id < suc k + length os) → (t : Bool) → eqb p.id id ≡ t → id < k + suc (length os)
    by below true f = let g = eqb-true p.id id f in let h : p.id ≡ k = n.0 in omega (arith, g, h)
    by below false f =
        let later : offer_of id os ≡ Some o = rw f at e in
        let h = below later in
        omega (arith, h)

-- an offer that is found in a beginning is found in the whole
pub found_on : (id : ℕ) (os ps : List Htlc) (o : Htlc) → offer_of id os ≡ Some o → offer_of id (os ++ ps) ≡ Some o
found_on id [] ps o e = absurd (cc)
found_on id (p ∷ os) ps o e = by (found_on id os ps o) (eqb p.id id) refl
  where
    by : (offer_of id os ≡ Some o → offer_of id (os ++ ps) ≡ Some o) → (t : Bool) → eqb p.id id ≡ t → offer_of id (p ∷ (os ++ ps)) ≡ Some o
    by on true f = let g : ◌≡◌ {A = Option Htlc} (Some p) (Some o) = rw f at e in rw f g
    by on false f = let g : offer_of id os ≡ Some o = rw f at e in rw f (on g)

pub removes_below-more : (n m : ℕ) (us : List Update) → n ≤ m → RemovesBelow n us → RemovesBelow m us
removes_below-more n m us l r id h = r id (omega arith)

pub removes_below-append : (n : ℕ) (us vs : List Update) → RemovesBelow n us → RemovesBelow n vs → RemovesBelow n (us ++ vs)
removes_below-append n us vs r s id h = fate-append id us vs ∙ ap (λ f. first_of_fates f (fate id vs)) (r id h) ∙ s id h

pub none_fulfilled : (n : ℕ) (os : List Htlc) (us : List Update) → RemovesBelow n us → Numbered n os → total if_fulfilled os us ≡ 0
none_fulfilled n [] us r m = refl
none_fulfilled n (o ∷ os) us r m =
    let e : fate o.id us ≡ Live = r o.id (let h = m.0 in omega (arith, h)) in
    let g : if_fulfilled (fate o.id us) o.amount_msat ≡ 0 = ap (λ f. if_fulfilled f o.amount_msat) e in
    let h = none_fulfilled (suc n) os us (removes_below-more n (suc n) us (omega arith) r) m.1 in
    omega (arith, g, h)

-- so fulfilments brought nothing beyond the offers that passed all stages
pub gained_settled : (mine settled known : List Update) → IsBeginning settled known → Numbered 0 (offers known) → RemovesBelow (length (offers settled)) mine → gained_msat mine known ≡ gained_msat mine settled
gained_settled mine settled known p n r =
    let e : offers known ≡ offers settled ++ offers p.0 = ap offers (sym p.1) ∙ offers-append settled p.0 in
    let m : Numbered 0 (offers settled ++ offers p.0) = rw e at n in
    let rest : Numbered (0 + length (offers settled)) (offers p.0) = numbered_rest 0 (offers settled) (offers p.0) m in
    let f : 0 + length (offers settled) ≡ length (offers settled) = omega arith in
    let rest' : Numbered (length (offers settled)) (offers p.0) = rw f at rest in
    let h : gained_msat mine p.0 ≡ 0 = none_fulfilled (length (offers settled)) (offers p.0) mine r rest' in
    let g = gained-append mine settled p.0 in
    rw (← p.1) (omega (arith, g, h))
