-- The claims on the outputs of a commitment, one output after another.
use Rattle.std.proofs.Common.{◌≡◌, ℕ, zero, suc, ◌+◌, ◌<◌, ◌≤◌, List, [], ◌∷◌, ◌++◌, drop, length, get_or, Option, Some, None, refl, sym, ap, subst, ◌∙◌, arith, append_assoc, append-nil, add-one}
use Rattle.std.specs.Prelude.{slice_get}
use Rattle.std.specs.List.{cons_option}
use Rattle.std.proofs.Math.Seq.{drop-cons}
use Rattle.std.proofs.lemmas.List.{drop_all}
use Rattle.claim.specs.Claims.{ClaimParts}
use Rattle.claim.specs.declared.parts.Place.{Place}
use Rattle.commit.specs.declared.outputs.CommitmentOutput.{CommitmentOutput}
use Rattle.commit.specs.declared.outputs.HtlcOutput.{HtlcOutput}
use Rattle.commit.specs.declared.outputs.OutputKind.{OutputKind}
use Rattle.commit.specs.Commitments.{Contents, tx_output, transaction_of, htlc_at, htlcs_from, htlcs_of}
use Rattle.penalty.specs.Claimable.{Claimable, place_in, claims_by}
use Rattle.penalty.specs.Sets.{AreClaimsOn}

-- what an output at an index and a place gives
abbrev pub Rule : Type 0
Rule = ℕ → Place → OutputKind → List Claimable

-- after i outputs with k HTLCs among them: the claims are those on some outputs, which with what is left give the whole
pub record Collects (on : Rule) (c : Contents) (i : ℕ) (os : List CommitmentOutput) (k : ℕ) (cs : List ClaimParts) : Type 0 where
  pub done : List Claimable
  pub claims : AreClaimsOn done cs
  pub rest : done ++ claims_by on c i (drop i os) ≡ claims_by on c 0 os
  pub htlcs : drop k (htlcs_of c) ≡ htlcs_from i (drop i os)
  pub few : k ≤ i

pub collects_none : (on : Rule) (c : Contents) (os : List CommitmentOutput) (cs : List ClaimParts) → os ≡ c.outputs → cs ≡ [] → Collects on c 0 os 0 cs
collects_none on c os cs e f = record {
  done = [];
  claims = rw f tt;
  rest = refl;
  htlcs = ap (htlcs_from 0) (sym e);
  few = omega arith;
}

-- the list from a place on, where there is an output
here : (i : ℕ) (os : List CommitmentOutput) (o : CommitmentOutput) → i < length os → o ≡ get_or os i o → drop i os ≡ o ∷ drop (i + 1) os
here i os o l e =
    let d : drop i os ≡ get_or os i o ∷ drop (suc i) os = drop-cons os i o l in
    d ∙ rw (add-one, ← e) refl

htlcs_here : (i : ℕ) (os : List CommitmentOutput) (o : CommitmentOutput) → i < length os → o ≡ get_or os i o
    → htlcs_from i (drop i os) ≡ cons_option (htlc_at i o.kind) (htlcs_from (i + 1) (drop (i + 1) os))
unfolding htlcs_from
htlcs_here i os o l e = ap (htlcs_from i) (here i os o l e)

claims_here : (on : Rule) (c : Contents) (i : ℕ) (os : List CommitmentOutput) (o : CommitmentOutput) → i < length os → o ≡ get_or os i o
    → claims_by on c i (drop i os) ≡ on i (place_in (transaction_of c) i (tx_output o)) o.kind ++ claims_by on c (i + 1) (drop (i + 1) os)
unfolding claims_by
claims_here on c i os o l e = ap (claims_by on c i) (here i os o l e)

got : {X : Type 0} (k : ℕ) (xs rest : List X) (x : X) → drop k xs ≡ x ∷ rest → slice_get xs k ≡ Some x
got zero [] rest x e = cc
got (suc k) [] rest x e = cc
got zero (y ∷ ys) rest x e = cc
got (suc k) (y ∷ ys) rest x e = got k ys rest x e

past : {X : Type 0} (k : ℕ) (xs rest : List X) (x : X) → drop k xs ≡ x ∷ rest → drop (suc k) xs ≡ rest
past zero [] rest x e = cc
past (suc k) [] rest x e = cc
past zero (y ∷ ys) rest x e = cc
past (suc k) (y ∷ ys) rest x e = past k ys rest x e

-- an HTLC at the output is the k-th
pub is_kth : (on : Rule) (c : Contents) (i : ℕ) (os : List CommitmentOutput) (k : ℕ) (cs : List ClaimParts) (o : CommitmentOutput) (h : HtlcOutput) → Collects on c i os k cs
    → i < length os → o ≡ get_or os i o → htlc_at i o.kind ≡ Some h → slice_get (htlcs_of c) k ≡ Some h
is_kth on c i os k cs o h s l e f =
    got k (htlcs_of c) (htlcs_from (i + 1) (drop (i + 1) os)) h
    (s.htlcs ∙ htlcs_here i os o l e ∙ ap (λ x. cons_option x (htlcs_from (i + 1) (drop (i + 1) os))) f)

counted : {X : Type 0} (k k' : ℕ) (xs rest : List X) (x : Option X) → drop k xs ≡ cons_option x rest → k' ≡ k + length (cons_option x []) → drop k' xs ≡ rest
counted k k' xs rest None e f = let g : k' ≡ k = omega (arith, f) in rw g e
counted k k' xs rest (Some x) e f = let g : k' ≡ suc k = omega (arith, f) in rw g (past k xs rest x e)

one_at_most : {X : Type 0} (x : Option X) → length (cons_option x []) ≤ 1
one_at_most None = omega arith
one_at_most (Some x) = omega arith

-- one output more
pub collects_on : (on : Rule) (c : Contents) (i : ℕ) (os : List CommitmentOutput) (k k' : ℕ) (cs cs' : List ClaimParts) (o : CommitmentOutput) → Collects on c i os k cs
    → i < length os → o ≡ get_or os i o
    → ((done : List Claimable) → AreClaimsOn done cs → AreClaimsOn (done ++ on i (place_in (transaction_of c) i (tx_output o)) o.kind) cs')
    → k' ≡ k + length (cons_option (htlc_at i o.kind) []) → Collects on c (i + 1) os k' cs'
collects_on on c i os k k' cs cs' o s l e a f = record {
  done = s.done ++ on i (place_in (transaction_of c) i (tx_output o)) o.kind;
  claims = a s.done s.claims;
  rest = append_assoc s.done (on i (place_in (transaction_of c) i (tx_output o)) o.kind) (claims_by on c (i + 1) (drop (i + 1) os)) ∙ ap (λ xs. s.done ++ xs) (sym (claims_here on c i os o l e)) ∙ s.rest;
  htlcs = counted k k' (htlcs_of c) (htlcs_from (i + 1) (drop (i + 1) os)) (htlc_at i o.kind) (s.htlcs ∙ htlcs_here i os o l e) f;
  few = let b : length (cons_option (htlc_at i o.kind) []) ≤ 1 = one_at_most (htlc_at i o.kind) in let g : k ≤ i = s.few in omega (arith, b, f, g);
}

none_left : (on : Rule) (c : Contents) (i : ℕ) → claims_by on c i [] ≡ []
unfolding claims_by
none_left on c i = refl

pub collects_all : (on : Rule) (c : Contents) (i : ℕ) (os : List CommitmentOutput) (k : ℕ) (cs : List ClaimParts) → Collects on c i os k cs → length os ≤ i → AreClaimsOn (claims_by on c 0 os) cs
collects_all on c i os k cs s l =
    let e : s.done ≡ claims_by on c 0 os = sym (append-nil s.done) ∙ ap (λ xs. s.done ++ xs) (sym (none_left on c i) ∙ ap (claims_by on c i) (sym (drop_all i os l))) ∙ s.rest in
    subst (λ done. AreClaimsOn done cs) e s.claims
