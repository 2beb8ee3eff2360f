-- A transaction's outputs, one after another.
use Rattle.std.proofs.Common.{◌≡◌, ℕ, suc, ◌+◌, ◌<◌, ◌≤◌, List, [], ◌∷◌, ◌++◌, drop, length, get_or, Option, Some, None, refl, sym, ap, subst, ◌∙◌, append_assoc, append-nil, add-one}
use Rattle.std.specs.Prelude.{option_map}
use Rattle.std.specs.List.{cons_option}
use Rattle.std.proofs.Math.Seq.{drop-cons}
use Rattle.std.proofs.lemmas.List.{drop_all}
use Rattle.tx.specs.declared.input.OutPoint.{OutPoint}
use Rattle.tx.specs.Parts.{Output}
use Rattle.tx.specs.Fields.{Transaction}
use Rattle.tx.specs.Spelling.{transaction_id}
use Rattle.claim.specs.Claims.{ClaimParts}
use Rattle.claim.specs.declared.parts.Place.{Place}
use Rattle.penalty.specs.Claimable.{Claimable, place_in}
use Rattle.penalty.specs.Sets.{IsClaimOn, AreClaimsOn}
use Rattle.penalty.proofs.Pushed.{push_one}
use Rattle.revoked.specs.Parts.{RevokedParts}
use Rattle.revoked.specs.declared.outputs.RevokedOutput.{RevokedOutput}
use Rattle.revoked.specs.Programs.{output_with, claim_on}
use Rattle.revoked.specs.Reading.{claim_at, claimed_from, unless_found, others_from}

-- the claims so far, which with what is left give the whole
pub record Gathers (r : RevokedParts) (t : Transaction) (i : ℕ) (os : List Output) (cs : List ClaimParts) : Type 0 where
  pub done : List Claimable
  pub claims : AreClaimsOn done cs
  pub rest : done ++ claimed_from r t i (drop i os) ≡ claimed_from r t 0 os

pub gathers_none : (r : RevokedParts) (t : Transaction) (os : List Output) (cs : List ClaimParts) → cs ≡ [] → Gathers r t 0 os cs
gathers_none r t os cs e = record { done = []; claims = rw e tt; rest = refl }

here : (i : ℕ) (os : List Output) (o : Output) → i < length os → o ≡ get_or os i o → drop i os ≡ o ∷ drop (i + 1) os
here i os o l e =
    let d : drop i os ≡ get_or os i o ∷ drop (suc i) os = drop-cons os i o l in
    d ∙ rw (add-one, ← e) refl

consed : {X : Type 0} (x : Option X) (xs : List X) → cons_option x xs ≡ cons_option x [] ++ xs
consed None xs = refl
consed (Some x) xs = refl

claims_here : (r : RevokedParts) (t : Transaction) (i : ℕ) (os : List Output) (o : Output) → i < length os → o ≡ get_or os i o
    → claimed_from r t i (drop i os) ≡ cons_option (claim_at r (place_in t i o)) [] ++ claimed_from r t (i + 1) (drop (i + 1) os)
unfolding claimed_from
claims_here r t i os o l e = ap (claimed_from r t i) (here i os o l e) ∙ consed (claim_at r (place_in t i o)) (claimed_from r t (i + 1) (drop (i + 1) os))

same_place : (t : Transaction) (i : ℕ) (o : Output) (id : List ℕ) → id ≡ transaction_id t
    → ◌≡◌ {A = Place} (record { outpoint = record { txid = id; index = i }; value = o.value; program = o.script }) (place_in t i o)
same_place t i o id e = ap (λ (x : List ℕ). record { outpoint = record { txid = x; index = i }; value = o.value; program = o.script }) e

-- one output more
pub gathers_on : (r : RevokedParts) (t : Transaction) (i : ℕ) (os : List Output) (cs new_cs : List ClaimParts) (o : Output) (id : List ℕ) → Gathers r t i os cs
    → i < length os → o ≡ get_or os i o → id ≡ transaction_id t
    → ((done : List Claimable) → AreClaimsOn done cs
    → AreClaimsOn (done ++ cons_option (claim_at r (record { outpoint = record { txid = id; index = i }; value = o.value; program = o.script })) []) new_cs)
    → Gathers r t (i + 1) os new_cs
gathers_on r t i os cs new_cs o id s l e f a = record {
  done = s.done ++ cons_option (claim_at r (place_in t i o)) [];
  claims = subst (λ (p : Place). AreClaimsOn (s.done ++ cons_option (claim_at r p) []) new_cs) (same_place t i o id f) (a s.done s.claims);
  rest = append_assoc s.done (cons_option (claim_at r (place_in t i o)) []) (claimed_from r t (i + 1) (drop (i + 1) os)) ∙ ap (λ xs. s.done ++ xs) (sym (claims_here r t i os o l e)) ∙ s.rest;
}

none_left : (r : RevokedParts) (t : Transaction) (i : ℕ) → claimed_from r t i [] ≡ []
unfolding claimed_from
none_left r t i = refl

pub gathers_all : (r : RevokedParts) (t : Transaction) (i : ℕ) (os : List Output) (cs : List ClaimParts) → Gathers r t i os cs → length os ≤ i → AreClaimsOn (claimed_from r t 0 os) cs
gathers_all r t i os cs s l =
    let e : s.done ≡ claimed_from r t 0 os = sym (append-nil s.done) ∙ ap (λ xs. s.done ++ xs) (sym (none_left r t i) ∙ ap (claimed_from r t i) (sym (drop_all i os l))) ∙ s.rest in
    subst (λ done. AreClaimsOn done cs) e s.claims

-- an output of the commitment, and one that is not
pub push_found : (r : RevokedParts) (place : Place) (known : RevokedOutput) (done : List Claimable) (cs new_cs : List ClaimParts) (c : ClaimParts)
    → output_with r place.program ≡ Some known → IsClaimOn (claim_on r known place) c → new_cs ≡ cs ++ c ∷ []
    → AreClaimsOn done cs → AreClaimsOn (done ++ cons_option (claim_at r place) []) new_cs
push_found r place known done cs new_cs c e i f a =
    push_one done (cons_option (claim_at r place) []) cs new_cs (claim_on r known place) c i
    (ap (λ (o : Option RevokedOutput). cons_option (option_map (λ k. claim_on r k place) o) []) e) f a

pub push_none : (r : RevokedParts) (place : Place) (done : List Claimable) (cs new_cs : List ClaimParts)
    → output_with r place.program ≡ None → new_cs ≡ cs → AreClaimsOn done cs → AreClaimsOn (done ++ cons_option (claim_at r place) []) new_cs
push_none r place done cs new_cs e f a =
    subst (λ (xs : List Claimable). AreClaimsOn xs new_cs)
    (sym (append-nil done) ∙ ap (λ xs. done ++ xs) (sym (ap (λ (o : Option RevokedOutput). cons_option (option_map (λ k. claim_on r k place) o) []) e)))
    (subst (λ xs. AreClaimsOn done xs) (sym f) a)

-- the other outputs
others_here : (r : RevokedParts) (i : ℕ) (os : List Output) (o : Output) → i < length os → o ≡ get_or os i o
    → others_from r i (drop i os) ≡ cons_option (unless_found (output_with r o.script) i) [] ++ others_from r (i + 1) (drop (i + 1) os)
unfolding others_from
others_here r i os o l e = ap (others_from r i) (here i os o l e) ∙ consed (unless_found (output_with r o.script) i) (others_from r (i + 1) (drop (i + 1) os))

pub others_on : (r : RevokedParts) (i : ℕ) (os : List Output) (ns new_ns : List ℕ) (o : Output) → ns ++ others_from r i (drop i os) ≡ others_from r 0 os
    → i < length os → o ≡ get_or os i o → new_ns ≡ ns ++ cons_option (unless_found (output_with r o.script) i) []
    → new_ns ++ others_from r (i + 1) (drop (i + 1) os) ≡ others_from r 0 os
others_on r i os ns new_ns o s l e f =
    ap (λ xs. xs ++ others_from r (i + 1) (drop (i + 1) os)) f
    ∙ append_assoc ns (cons_option (unless_found (output_with r o.script) i) []) (others_from r (i + 1) (drop (i + 1) os))
    ∙ ap (λ xs. ns ++ xs) (sym (others_here r i os o l e)) ∙ s

no_others_left : (r : RevokedParts) (i : ℕ) → others_from r i [] ≡ []
unfolding others_from
no_others_left r i = refl

pub others_all : (r : RevokedParts) (i : ℕ) (os : List Output) (ns : List ℕ) → ns ++ others_from r i (drop i os) ≡ others_from r 0 os → length os ≤ i → ns ≡ others_from r 0 os
others_all r i os ns s l = sym (append-nil ns) ∙ ap (λ xs. ns ++ xs) (sym (no_others_left r i) ∙ ap (others_from r i) (sym (drop_all i os l))) ∙ s

-- a place whose value and program are those of an output
pub moved_place : (outpoint : OutPoint) (v value : ℕ) (p program : List ℕ) → v ≡ value → p ≡ program
    → ◌≡◌ {A = Place} (record { outpoint = outpoint; value = v; program = p }) (record { outpoint = outpoint; value = value; program = program })
moved_place outpoint v value p program e f =
    ap (λ (n : ℕ). record { outpoint = outpoint; value = n; program = p }) e
    ∙ ap (λ (x : List ℕ). record { outpoint = outpoint; value = value; program = x }) f
