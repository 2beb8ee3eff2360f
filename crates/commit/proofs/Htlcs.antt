-- The outputs to HTLCs, one output after another.
use Rattle.std.proofs.Common.{◌≡◌, ℕ, suc, ◌+◌, ◌<◌, ◌≤◌, List, [], ◌∷◌, ◌++◌, map, drop, length, get_or, Option, Some, None, refl, sym, ap, ◌∙◌, append_assoc, append-nil, add-one}
use Rattle.std.specs.List.{cons_option}
use Rattle.std.proofs.Math.Seq.{drop-cons}
use Rattle.std.proofs.lemmas.List.{drop_all}
use Rattle.commit.specs.declared.outputs.CommitmentOutput.{CommitmentOutput}
use Rattle.commit.specs.declared.outputs.HtlcOutput.{HtlcOutput}
use Rattle.commit.specs.Commitments.{htlc_at, htlcs_from}

-- the list from a place on, where there is an output
from_here : (i : ℕ) (os : List CommitmentOutput) (o : CommitmentOutput) → i < length os → o ≡ get_or os i o
    → htlcs_from i (drop i os) ≡ cons_option (htlc_at i o.kind) (htlcs_from (i + 1) (drop (i + 1) os))
unfolding htlcs_from
from_here i os o l e =
    let d : drop i os ≡ get_or os i o ∷ drop (suc i) os = drop-cons os i o l in
    let f : drop i os ≡ o ∷ drop (i + 1) os = d ∙ rw (add-one, ← e) refl in
    ap (htlcs_from i) f

one_more : {X : Type 0} (done rest : List X) (x : Option X) → (done ++ cons_option x []) ++ rest ≡ done ++ cons_option x rest
one_more done rest None = rw append-nil refl
one_more done rest (Some x) = append_assoc done (x ∷ []) rest

pub htlcs_on : (done new whole : List HtlcOutput) (i : ℕ) (os : List CommitmentOutput) (o : CommitmentOutput) → i < length os → o ≡ get_or os i o
    → done ++ htlcs_from i (drop i os) ≡ whole → new ≡ done ++ cons_option (htlc_at i o.kind) [] → new ++ htlcs_from (i + 1) (drop (i + 1) os) ≡ whole
htlcs_on done new whole i os o l e h n =
    ap (λ xs. xs ++ htlcs_from (i + 1) (drop (i + 1) os)) n ∙ one_more done _ (htlc_at i o.kind) ∙ ap (λ xs. done ++ xs) (sym (from_here i os o l e)) ∙ h

map_option : {X Y : Type 0} (f : X → Y) (done rest : List Y) (x : Option X) (xs : List X) → map f xs ≡ rest
    → (done ++ map f (cons_option x [])) ++ rest ≡ done ++ map f (cons_option x xs)
map_option f done rest None xs e = rw append-nil (ap (λ ys. done ++ ys) (sym e))
map_option f done rest (Some x) xs e = append_assoc done (f x ∷ []) rest ∙ ap (λ ys. done ++ f x ∷ ys) (sym e)

pub mapped_on : {Y : Type 0} (f : HtlcOutput → Y) (done new whole : List Y) (i : ℕ) (os : List CommitmentOutput) (o : CommitmentOutput) → i < length os → o ≡ get_or os i o
    → done ++ map f (htlcs_from i (drop i os)) ≡ whole → new ≡ done ++ map f (cons_option (htlc_at i o.kind) []) → new ++ map f (htlcs_from (i + 1) (drop (i + 1) os)) ≡ whole
mapped_on f done new whole i os o l e h n =
    ap (λ xs. xs ++ map f (htlcs_from (i + 1) (drop (i + 1) os))) n ∙ map_option f done _ (htlc_at i o.kind) (htlcs_from (i + 1) (drop (i + 1) os)) refl
    ∙ ap (λ xs. done ++ map f xs) (sym (from_here i os o l e)) ∙ h

-- nothing is left at the end
pub htlcs_end : (done whole : List HtlcOutput) (i : ℕ) (os : List CommitmentOutput) → length os ≤ i → done ++ htlcs_from i (drop i os) ≡ whole → done ≡ whole
unfolding htlcs_from
htlcs_end done whole i os l h = sym (append-nil done) ∙ ap (λ xs. done ++ htlcs_from i xs) (sym (drop_all i os l)) ∙ h

pub mapped_end : {Y : Type 0} (f : HtlcOutput → Y) (done whole : List Y) (i : ℕ) (os : List CommitmentOutput) → length os ≤ i → done ++ map f (htlcs_from i (drop i os)) ≡ whole → done ≡ whole
unfolding htlcs_from
mapped_end f done whole i os l h = sym (append-nil done) ∙ ap (λ xs. done ++ map f (htlcs_from i xs)) (sym (drop_all i os l)) ∙ h
