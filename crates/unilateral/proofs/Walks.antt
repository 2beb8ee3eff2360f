-- A transaction's outputs, and an HTLC's expiries, one after another.
use Rattle.std.proofs.Common.{◌≡◌, ℕ, suc, ◌+◌, ◌<◌, ◌≤◌, Bool, true, false, cond, List, [], ◌∷◌, ◌++◌, map, drop, length, get_or, Option, Some, None, refl, sym, ap, subst, ◌∙◌, append_assoc, append-nil, add-one}
use Rattle.std.specs.List.{cons_option, find}
use Rattle.std.specs.Str.{bytes_eq}
use Rattle.std.proofs.Math.Seq.{drop-cons}
use Rattle.std.proofs.lemmas.List.{drop_all}
use Rattle.std.proofs.lemmas.Slice.Eq.{bytes_eq-Decides}
use Rattle.tx.specs.declared.input.OutPoint.{OutPoint}
use Rattle.tx.specs.Parts.{Output}
use Rattle.tx.specs.Fields.{Transaction}
use Rattle.tx.specs.Spelling.{transaction_id}
use Rattle.claim.specs.Claims.{ClaimParts}
use Rattle.claim.specs.declared.parts.Place.{Place}
use Rattle.forms.specs.declared.parameters.Expiry.{Expiry}
use Rattle.penalty.specs.Claimable.{Claimable, place_in}
use Rattle.penalty.specs.Sets.{IsClaimOn, AreClaimsOn}
use Rattle.penalty.proofs.Pushed.{push_one}
use Rattle.revoked.specs.Parts.{RevokedParts}
use Rattle.revoked.specs.declared.outputs.RevokedHtlc.{RevokedHtlc}
use Rattle.revoked.specs.declared.outputs.RevokedOutput.{RevokedOutput}
use Rattle.revoked.specs.declared.outputs.RevokedOutput.TheVariants.{ToHtlc}
use Rattle.revoked.specs.Programs.{known_program, known_outputs, output_with}
use Rattle.unilateral.specs.declared.closes.Close.{Close}
use Rattle.unilateral.specs.declared.closes.Whose.TheVariants.{Theirs}
use Rattle.unilateral.specs.Claims.{is_peers, direct_on, with_expiry, with_expiries, claims_of}
use Rattle.unilateral.specs.Reading.{claims_if, claims_at, claimed_from, unless_claimed, others_from}

here : {X : Type 0} (i : ℕ) (xs : List X) (x : X) → i < length xs → x ≡ get_or xs i x → drop i xs ≡ x ∷ drop (i + 1) xs
here i xs x l e =
    let d : drop i xs ≡ get_or xs i x ∷ drop (suc i) xs = drop-cons xs i x l in
    d ∙ rw (add-one, ← e) refl

-- expiries
one_more_expiry : (hash : List ℕ) (es : List Expiry) (h : RevokedHtlc) (hs : List RevokedHtlc) → with_expiries hash es (h ∷ hs) ≡ with_expiries hash (with_expiry hash es h) hs
unfolding with_expiries
one_more_expiry hash es h hs = refl

no_more_expiries : (hash : List ℕ) (es : List Expiry) → with_expiries hash es [] ≡ es
unfolding with_expiries
no_more_expiries hash es = refl

pub expiries_on : (hash : List ℕ) (es new_es whole : List Expiry) (i : ℕ) (hs : List RevokedHtlc) (h : RevokedHtlc) → with_expiries hash es (drop i hs) ≡ whole → i < length hs → h ≡ get_or hs i h
    → new_es ≡ with_expiry hash es h → with_expiries hash new_es (drop (i + 1) hs) ≡ whole
expiries_on hash es new_es whole i hs h s l e f =
    ap (λ xs. with_expiries hash xs (drop (i + 1) hs)) f ∙ sym (one_more_expiry hash es h (drop (i + 1) hs)) ∙ ap (with_expiries hash es) (sym (here i hs h l e)) ∙ s

pub expiries_all : (hash : List ℕ) (es whole : List Expiry) (i : ℕ) (hs : List RevokedHtlc) → with_expiries hash es (drop i hs) ≡ whole → length hs ≤ i → es ≡ whole
expiries_all hash es whole i hs s l = sym (no_more_expiries hash es) ∙ ap (with_expiries hash es) (sym (drop_all i hs l)) ∙ s

-- the claims for expiries so far, which with those for what is left are the whole
pub record Stages (f : Expiry → Claimable) (i : ℕ) (es : List Expiry) (done : List Claimable) (cs : List ClaimParts) : Type 0 where
  pub so_far : List Claimable
  pub claims : AreClaimsOn so_far cs
  pub rest : so_far ++ map f (drop i es) ≡ done ++ map f es

pub stages_none : (f : Expiry → Claimable) (es : List Expiry) (done : List Claimable) (cs : List ClaimParts) → AreClaimsOn done cs → Stages f 0 es done cs
stages_none f es done cs a = record { so_far = done; claims = a; rest = refl }

pub stages_on : (f : Expiry → Claimable) (i : ℕ) (es : List Expiry) (done : List Claimable) (cs new_cs : List ClaimParts) (x : Expiry) (c : ClaimParts) → Stages f i es done cs → i < length es → x ≡ get_or es i x
    → IsClaimOn (f x) c → new_cs ≡ cs ++ c ∷ [] → Stages f (i + 1) es done new_cs
stages_on f i es done cs new_cs x c s l e k g = record {
  so_far = s.so_far ++ f x ∷ [];
  claims = push_one s.so_far (f x ∷ []) cs new_cs (f x) c k refl g s.claims;
  rest = append_assoc s.so_far (f x ∷ []) (map f (drop (i + 1) es)) ∙ ap (λ ys. s.so_far ++ map f ys) (sym (here i es x l e)) ∙ s.rest;
}

pub stages_all : (f : Expiry → Claimable) (i : ℕ) (es : List Expiry) (done : List Claimable) (cs : List ClaimParts) → Stages f i es done cs → length es ≤ i → AreClaimsOn (done ++ map f es) cs
stages_all f i es done cs s l =
    let e : s.so_far ≡ done ++ map f es = sym (append-nil s.so_far) ∙ ap (λ ys. s.so_far ++ map f ys) (sym (drop_all i es l)) ∙ s.rest in
    subst (λ xs. AreClaimsOn xs cs) e s.claims

-- the claims on outputs so far, which with what is left give the whole
pub record Gathers (c : Close) (t : Transaction) (i : ℕ) (os : List Output) (cs : List ClaimParts) : Type 0 where
  pub done : List Claimable
  pub claims : AreClaimsOn done cs
  pub rest : done ++ claimed_from c t i (drop i os) ≡ claimed_from c t 0 os

pub gathers_none : (c : Close) (t : Transaction) (os : List Output) (cs : List ClaimParts) → cs ≡ [] → Gathers c t 0 os cs
gathers_none c t os cs e = record { done = []; claims = rw e tt; rest = refl }

claims_here : (c : Close) (t : Transaction) (i : ℕ) (os : List Output) (o : Output) → i < length os → o ≡ get_or os i o
    → claimed_from c t i (drop i os) ≡ claims_at c (place_in t i o) ++ claimed_from c t (i + 1) (drop (i + 1) os)
unfolding claimed_from
claims_here c t i os o l e = ap (claimed_from c t i) (here i os o l e)

same_place : (t : Transaction) (i : ℕ) (o : Output) (id : List ℕ) → id ≡ transaction_id t
    → ◌≡◌ {A = Place} (record { outpoint = record { txid = id; index = i }; value = o.value; program = o.script }) (place_in t i o)
same_place t i o id e = ap (λ (x : List ℕ). record { outpoint = record { txid = x; index = i }; value = o.value; program = o.script }) e

pub gathers_on : (c : Close) (t : Transaction) (i : ℕ) (os : List Output) (cs new_cs : List ClaimParts) (o : Output) (id : List ℕ) → Gathers c t i os cs
    → i < length os → o ≡ get_or os i o → id ≡ transaction_id t
    → ((done : List Claimable) → AreClaimsOn done cs
    → AreClaimsOn (done ++ claims_at c (record { outpoint = record { txid = id; index = i }; value = o.value; program = o.script })) new_cs)
    → Gathers c t (i + 1) os new_cs
gathers_on c t i os cs new_cs o id s l e f a = record {
  done = s.done ++ claims_at c (place_in t i o);
  claims = subst (λ (p : Place). AreClaimsOn (s.done ++ claims_at c p) new_cs) (same_place t i o id f) (a s.done s.claims);
  rest = append_assoc s.done (claims_at c (place_in t i o)) (claimed_from c t (i + 1) (drop (i + 1) os)) ∙ ap (λ xs. s.done ++ xs) (sym (claims_here c t i os o l e)) ∙ s.rest;
}

none_left : (c : Close) (t : Transaction) (i : ℕ) → claimed_from c t i [] ≡ []
unfolding claimed_from
none_left c t i = refl

pub gathers_all : (c : Close) (t : Transaction) (i : ℕ) (os : List Output) (cs : List ClaimParts) → Gathers c t i os cs → length os ≤ i → AreClaimsOn (claimed_from c t 0 os) cs
gathers_all c t i os cs s l =
    let e : s.done ≡ claimed_from c t 0 os = sym (append-nil s.done) ∙ ap (λ xs. s.done ++ xs) (sym (none_left c t i) ∙ ap (claimed_from c t i) (sym (drop_all i os l))) ∙ s.rest in
    subst (λ done. AreClaimsOn done cs) e s.claims

-- an output of the commitment, and one that is not
pub found_claims : (c : Close) (place : Place) (known : RevokedOutput) (done : List Claimable) (new_cs : List ClaimParts) → output_with c.commitment place.program ≡ Some known
    → AreClaimsOn (done ++ claims_if c (Some known) place) new_cs → AreClaimsOn (done ++ claims_at c place) new_cs
found_claims c place known done new_cs e a = subst (λ (o : Option RevokedOutput). AreClaimsOn (done ++ claims_if c o place) new_cs) (sym e) a

pub no_claims : (c : Close) (place : Place) (done : List Claimable) (cs new_cs : List ClaimParts) → output_with c.commitment place.program ≡ None → new_cs ≡ cs → AreClaimsOn done cs
    → AreClaimsOn (done ++ claims_at c place) new_cs
no_claims c place done cs new_cs e f a =
    subst (λ (o : Option RevokedOutput). AreClaimsOn (done ++ claims_if c o place) new_cs) (sym e)
    (subst (λ (xs : List Claimable). AreClaimsOn xs new_cs) (sym (append-nil done)) (subst (λ xs. AreClaimsOn done xs) (sym f) a))

-- an HTLC of the peer's commitment that is claimed
pub direct_claimed : (preimages : List (List ℕ)) (feerate_per_kw : ℕ) (r : RevokedParts) (o : RevokedOutput) (h : RevokedHtlc) (place : Place) → o ≡ ToHtlc h → is_peers preimages r.keys h.direction h.hash ≡ true
    → claims_of Theirs preimages feerate_per_kw r o place ≡ direct_on r.channel_type r.keys h place ∷ []
direct_claimed preimages feerate_per_kw r o h place e t =
    ap (λ x. claims_of Theirs preimages feerate_per_kw r x place) e ∙ ap (λ (b : Bool). cond b (direct_on r.channel_type r.keys h place ∷ []) []) t

-- a place whose value and program are those of an output
pub moved_place : (outpoint : OutPoint) (v value : ℕ) (p program : List ℕ) → v ≡ value → p ≡ program
    → ◌≡◌ {A = Place} (record { outpoint = outpoint; value = v; program = p }) (record { outpoint = outpoint; value = value; program = program })
moved_place outpoint v value p program e f =
    ap (λ (n : ℕ). record { outpoint = outpoint; value = n; program = p }) e
    ∙ ap (λ (x : List ℕ). record { outpoint = outpoint; value = value; program = x }) f

-- what a search finds passes the test, so an output that is found has the program
passes : {X : Type 0} (test : X → Bool) (xs : List X) (x : X) → find test xs ≡ Some x → test x ≡ true
passes test [] x e = absurd (none_some x e)
  where
    none_some : {Y : Type 0} (y : Y) → None ≡ Some y → ⊥
    none_some y f = cc
passes test (y ∷ ys) x e = at (test y) refl e (passes test ys x)
  where
    some_is : {Y : Type 0} (a b : Y) → Some a ≡ Some b → a ≡ b
    some_is a b f = cc

    at : (b : Bool) → test y ≡ b → cond b (Some y) (find test ys) ≡ Some x → (find test ys ≡ Some x → test x ≡ true) → test x ≡ true
    at true t f later = subst (λ z. test z ≡ true) (some_is y x f) t
    at false t f later = later f

pub has_program : (r : RevokedParts) (p : List ℕ) (known : RevokedOutput) → output_with r p ≡ Some known → p ≡ known_program r known
unfolding output_with
has_program r p known e = sym ((bytes_eq-Decides (known_program r known) p).0 (passes (λ o. bytes_eq (known_program r o) p) (known_outputs r) known e))

-- the other outputs
consed : {X : Type 0} (x : Option X) (xs : List X) → cons_option x xs ≡ cons_option x [] ++ xs
consed None xs = refl
consed (Some x) xs = refl

others_here : (c : Close) (i : ℕ) (os : List Output) (o : Output) → i < length os → o ≡ get_or os i o
    → others_from c i (drop i os) ≡ cons_option (unless_claimed c (output_with c.commitment o.script) i) [] ++ others_from c (i + 1) (drop (i + 1) os)
unfolding others_from
others_here c i os o l e = ap (others_from c i) (here i os o l e) ∙ consed (unless_claimed c (output_with c.commitment o.script) i) (others_from c (i + 1) (drop (i + 1) os))

pub others_on : (c : Close) (i : ℕ) (os : List Output) (ns new_ns : List ℕ) (o : Output) → ns ++ others_from c i (drop i os) ≡ others_from c 0 os
    → i < length os → o ≡ get_or os i o → new_ns ≡ ns ++ cons_option (unless_claimed c (output_with c.commitment o.script) i) []
    → new_ns ++ others_from c (i + 1) (drop (i + 1) os) ≡ others_from c 0 os
others_on c i os ns new_ns o s l e f =
    ap (λ xs. xs ++ others_from c (i + 1) (drop (i + 1) os)) f
    ∙ append_assoc ns (cons_option (unless_claimed c (output_with c.commitment o.script) i) []) (others_from c (i + 1) (drop (i + 1) os))
    ∙ ap (λ xs. ns ++ xs) (sym (others_here c i os o l e)) ∙ s

no_others_left : (c : Close) (i : ℕ) → others_from c i [] ≡ []
unfolding others_from
no_others_left c i = refl

pub others_all : (c : Close) (i : ℕ) (os : List Output) (ns : List ℕ) → ns ++ others_from c i (drop i os) ≡ others_from c 0 os → length os ≤ i → ns ≡ others_from c 0 os
others_all c i os ns s l = sym (append-nil ns) ∙ ap (λ xs. ns ++ xs) (sym (no_others_left c i) ∙ ap (others_from c i) (sym (drop_all i os l))) ∙ s
