-- More preimages change neither the verdicts nor, where they pay no HTLC, what is due.
use Rattle.std.proofs.Common.{◌≡◌, ℕ, ◌+◌, ◌||◌, Bool, true, false, List, [], ◌∷◌, ◌++◌, Option, Some, None, Vec, Global, refl, sym, ap, subst, ◌∙◌}
use Rattle.std.specs.List.{list_any, list_all, cons_option}
use Rattle.std.specs.Bool.{OnTrue}
use Rattle.std.specs.Prelude.{IfSome}
use Rattle.std.specs.Str.{bytes_eq}
use Rattle.std.proofs.lemmas.List.Folds.{list_any-append}
use Rattle.sha2.specs.Sha256.{sha256}
use Rattle.claim.specs.declared.parts.Place.{Place}
use Rattle.commit.specs.declared.fees.Direction.TheVariants.{Offered, Received}
use Rattle.commit.specs.declared.outputs.OutputKind.{OutputKind}
use Rattle.commit.specs.declared.outputs.OutputKind.TheVariants.{ToLocal, ToRemote, ToHtlc}
use Rattle.commit.specs.declared.outputs.CommitmentOutput.{CommitmentOutput}
use Rattle.commit.specs.Commitments.{Contents, htlc_at, htlcs_from, htlcs_of}
use Rattle.penalty.specs.Claimable.{Claimable, claims_by}
use Rattle.resolve.specs.declared.verdicts.Verdict.{Verdict}
use Rattle.resolve.specs.declared.verdicts.Verdict.TheVariants.{Ours, Theirs, TheirsNext, Revoked, Unknown}
use Rattle.resolve.specs.declared.known.Known.{Known}
use Rattle.resolve.specs.Preimages.{is_known}
use Rattle.resolve.specs.Due.{owners_on, peers_on, owners_due, peers_due, peers_due_if, due_of}
use Rattle.watch.specs.declared.spends.Spend.{Spend}
use Rattle.watch.specs.declared.learning.CommitmentHtlcs.{CommitmentHtlcs}
use Rattle.watch.specs.Verdicts.{verdict_of}
use Rattle.watch.specs.Watching.{Seen, due_by, is_given}
use Rattle.watch.specs.Learning.{htlcs_by}
use Rattle.watch.specs.Lookouts.{with_learnt, IsSettled, pays, some_is_paid, next_is_paid, changes, some_changes}

-- the same commitments are found
pub same_htlcs : (more : List (List ℕ)) (known : Known) (spends : List Spend) → htlcs_by (with_learnt more known) spends ≡ htlcs_by known spends
unfolding verdict_of
same_htlcs more known spends = refl

same_verdict : (more : List (List ℕ)) (known : Known) (s : Spend) → verdict_of (with_learnt more known) s.tx ≡ verdict_of known s.tx
unfolding verdict_of
same_verdict more known s = refl

-- of two tests neither holds
neither : (a b : Bool) → (a || b) ≡ false → (a ≡ false) × (b ≡ false)
neither true b e = absurd (cc)
neither false b e = (refl, e)

neither_of_any : {A : Type 0} (p q : A → Bool) (xs : List A) → list_any (λ x. p x || q x) xs ≡ false → (list_any p xs ≡ false) × (list_any q xs ≡ false)
neither_of_any p q [] e = (refl, refl)
neither_of_any p q (x ∷ xs) e =
    let here = neither (p x || q x) (list_any (λ y. p y || q y) xs) e in
    let each = neither (p x) (q x) here.0 in
    let rest = neither_of_any p q xs here.1 in
    (ap (λ b. b || list_any p xs) each.0 ∙ rest.0, ap (λ b. b || list_any q xs) each.1 ∙ rest.1)

or_false : (b : Bool) → (b || false) ≡ b
or_false true = refl
or_false false = refl

-- a hash of whose preimage none is among the new ones is known where it was
same_known : (ps more : List (List ℕ)) (hash : List ℕ) → is_known more hash ≡ false → is_known (ps ++ more) hash ≡ is_known ps hash
same_known ps more hash e = list_any-append _ ps more ∙ ap (λ b. is_known ps hash || b) e ∙ or_false (is_known ps hash)

-- an output's HTLC is paid by one of the preimages
abbrev kind_is_paid : List (List ℕ) → OutputKind → Bool
kind_is_paid more ToLocal = false
kind_is_paid more ToRemote = false
kind_is_paid more (ToHtlc direction h) = is_known more h.hash

abbrev Gives : Type 0
Gives = ℕ → Place → OutputKind → List Claimable

-- outputs whose HTLCs are not paid give the same
same_claims : (more : List (List ℕ)) (on later : Gives) → ((i : ℕ) (place : Place) (k : OutputKind) → kind_is_paid more k ≡ false → later i place k ≡ on i place k) → (c : Contents) (i : ℕ) (os : List CommitmentOutput)
    → some_is_paid more (htlcs_from i os) ≡ false → claims_by later c i os ≡ claims_by on c i os
unfolding claims_by htlcs_from
same_claims more on later same c i [] e = refl
same_claims more on later same c i (o ∷ os) e = go o.kind _ e (same_claims more on later same c (i + 1) os)
  where
    go : (k : OutputKind) (place : Place) → some_is_paid more (cons_option (htlc_at i k) (htlcs_from (i + 1) os)) ≡ false → (some_is_paid more (htlcs_from (i + 1) os) ≡ false → claims_by later c (i + 1) os ≡ claims_by on c (i + 1) os)
        → later i place k ++ claims_by later c (i + 1) os ≡ on i place k ++ claims_by on c (i + 1) os
    go ToLocal place e f = ap (λ (xs : List Claimable). xs ++ claims_by later c (i + 1) os) (same i place ToLocal refl) ∙ ap (λ (xs : List Claimable). on i place ToLocal ++ xs) (f e)
    go ToRemote place e f = ap (λ (xs : List Claimable). xs ++ claims_by later c (i + 1) os) (same i place ToRemote refl) ∙ ap (λ (xs : List Claimable). on i place ToRemote ++ xs) (f e)
    go (ToHtlc d h) place e f =
        let parts = neither_of_any (λ (x : List ℕ). bytes_eq (sha256 x) h.hash) (pays (htlcs_from (i + 1) os)) more e in
        ap (λ (xs : List Claimable). xs ++ claims_by later c (i + 1) os) (same i place (ToHtlc d h) parts.0) ∙ ap (λ (xs : List Claimable). on i place (ToHtlc d h) ++ xs) (f parts.1)

same_owners_on : (ps more : List (List ℕ)) (c : Contents) (i : ℕ) (place : Place) (k : OutputKind) → kind_is_paid more k ≡ false → owners_on (ps ++ more) c i place k ≡ owners_on ps c i place k
same_owners_on ps more c i place ToLocal e = refl
same_owners_on ps more c i place ToRemote e = refl
same_owners_on ps more c i place (ToHtlc Offered h) e = refl
same_owners_on ps more c i place (ToHtlc Received h) e = rw (same_known ps more h.hash e) refl

same_peers_on : (ps more : List (List ℕ)) (c : Contents) (i : ℕ) (place : Place) (k : OutputKind) → kind_is_paid more k ≡ false → peers_on (ps ++ more) c i place k ≡ peers_on ps c i place k
same_peers_on ps more c i place ToLocal e = refl
same_peers_on ps more c i place ToRemote e = refl
same_peers_on ps more c i place (ToHtlc Offered h) e = rw (same_known ps more h.hash e) refl
same_peers_on ps more c i place (ToHtlc Received h) e = refl

same_owners : (ps more : List (List ℕ)) (c : Contents) → some_is_paid more (htlcs_of c) ≡ false → owners_due (ps ++ more) c ≡ owners_due ps c
unfolding owners_due
same_owners ps more c e = same_claims more (owners_on ps c) (owners_on (ps ++ more) c) (same_owners_on ps more c) c 0 c.outputs e

same_peers : (ps more : List (List ℕ)) (c : Contents) → some_is_paid more (htlcs_of c) ≡ false → peers_due (ps ++ more) c ≡ peers_due ps c
unfolding peers_due
same_peers ps more c e = same_claims more (peers_on ps c) (peers_on (ps ++ more) c) (same_peers_on ps more c) c 0 c.outputs e

same_next : (ps more : List (List ℕ)) (o : Option Contents) → next_is_paid more o ≡ false → peers_due_if (ps ++ more) o ≡ peers_due_if ps o
same_next ps more None e = refl
same_next ps more (Some c) e = same_peers ps more c e

same_due_of : (more : List (List ℕ)) (known : Known) (v : Verdict) → changes known more v ≡ false → due_of (with_learnt more known) v ≡ due_of known v
unfolding due_of
same_due_of more known Ours e = same_owners known.preimages more known.own.commitment e
same_due_of more known Theirs e = same_peers known.preimages more known.theirs e
same_due_of more known TheirsNext e = same_next known.preimages more known.next e
same_due_of more known (Revoked n) e = refl
same_due_of more known Unknown e = refl

same_due : (more : List (List ℕ)) (known : Known) (spends : List Spend) → some_changes known more spends ≡ false → due_by (with_learnt more known) spends ≡ due_by known spends
same_due more known [] e = refl
same_due more known (s ∷ spends) e =
    let parts = neither (changes known more (verdict_of known s.tx)) (some_changes known more spends) e in
    ap (λ (xs : List Claimable). xs ++ due_by (with_learnt more known) spends)
    (ap (due_of (with_learnt more known)) (same_verdict more known s) ∙ same_due_of more known (verdict_of known s.tx) parts.0)
    ∙ ap (λ (xs : List Claimable). due_of known (verdict_of known s.tx) ++ xs) (same_due more known spends parts.1)

-- all that is due was given still
pub still_settled : (more : List (List ℕ)) (known : Known) (seen : Seen) → some_changes known more seen.spends ≡ false → IsSettled seen known → IsSettled seen (with_learnt more known)
still_settled more known seen e s = subst (λ (os : List Claimable). list_all (is_given seen.given) os ≡ true) (sym (same_due more known seen.spends e)) s

-- so is what a lookout keeps, whatever preimages are known
pub kept_htlcs : (ps : List (List ℕ)) (known : Known) (spends : List Spend) (o : Option (Vec CommitmentHtlcs Global)) → IfSome o (λ v. v.items ≡ htlcs_by known spends)
    → IfSome o (λ v. v.items ≡ htlcs_by (record known { preimages = ps }) spends)
unfolding verdict_of
kept_htlcs ps known spends o h = h

pub kept_settled : (b changed : Bool) (more ps : List (List ℕ)) (known : Known) (seen : Seen) (spends : List Spend) → ps ≡ known.preimages ++ more → changed ≡ false → changed ≡ some_changes known more spends → spends ≡ seen.spends
    → OnTrue b (IsSettled seen known) → OnTrue b (IsSettled seen (record known { preimages = ps }))
kept_settled false changed more ps known seen spends e n c i s = tt
kept_settled true changed more ps known seen spends e n c i s =
    subst (λ (x : List (List ℕ)). IsSettled seen (record known { preimages = x })) (sym e)
    (still_settled more known seen (ap (some_changes known more) (sym i) ∙ sym c ∙ n) s)

-- what holds of what is known holds of its equal
pub kept_known : (d k : Known) (seen : Seen) (o : Option (Vec CommitmentHtlcs Global)) (b : Bool) → d ≡ k → IfSome o (λ v. v.items ≡ htlcs_by k seen.spends) × OnTrue b (IsSettled seen k)
    → IfSome o (λ v. v.items ≡ htlcs_by d seen.spends) × OnTrue b (IsSettled seen d)
kept_known d k seen o b e h = subst (λ (x : Known). IfSome o (λ v. v.items ≡ htlcs_by x seen.spends) × OnTrue b (IsSettled seen x)) (sym e) h
