-- Two outpoints that are the same are those of one output, since the ids in them are of one transaction.
use Rattle.std.proofs.Common.{◌≡◌, ℕ, List, [], ◌∷◌, sym, ap, ◌∙◌, refl, inl, inr, ⊎_elim, arith}
use Rattle.std.specs.Prelude.{◌⊎◌}
use Rattle.tx.specs.declared.input.OutPoint.{OutPoint}
use Rattle.tx.specs.declared.input.TxIn.{TxIn}
use Rattle.tx.specs.Fields.{Transaction, unsigned_transaction}
use Rattle.tx.specs.Spelling.{stripped_spelling, transaction_id}
use Rattle.terms.specs.declared.agreement.Terms.{Terms}
use Rattle.commit.specs.declared.outputs.HtlcOutput.{HtlcOutput}
use Rattle.commit.specs.Commitments.{Contents, commitment_of, transaction_of, id_of, htlc_tx_of}
use Rattle.channel.specs.declared.commitments.CommitmentState.{CommitmentState}
use Rattle.channel.specs.Tokens.{contents_of}
use Rattle.safety.proofs.Seconds.{bare_commitment}
use Rattle.safety.proofs.Fates.{bare_second}
use Rattle.digest.specs.Hash.{sha256d, Collide}
use Rattle.safety.specs.Recorded.{IsPayable, IsOfCommitment, of_commitment, of_htlc}
use Rattle.safety.specs.Signing.{Collision}
use Rattle.safety.specs.Places.{IsOutPointOf, of_output, of_second_stage}
use Rattle.safety.specs.Strings.{IsHashedForCommitment, of_transaction, by_sha256d, StringsCollide}
use Rattle.safety.specs.Outputs.{IsOneOutput, OneOutput}
use Rattle.safety.specs.Breaks.{IsHashedForId}
use Rattle.safety.proofs.Ids.{one_id}
use Rattle.safety.proofs.Recorded.{recorded_limits}

-- ---- one id

no_witnesses : (c : Contents) (t : Transaction) → IsOfCommitment c t → unsigned_transaction t ≡ t
no_witnesses c t (of_commitment e) = ap unsigned_transaction e ∙ bare_commitment c ∙ sym e
no_witnesses c t (of_htlc h i e) = ap unsigned_transaction e ∙ bare_second c h ∙ sym e

-- the strings that are hashed for two ids collide
abbrev pub IdsCollide : Terms → CommitmentState → Terms → CommitmentState → Type 0
IdsCollide terms k others m = Collision (Collide sha256d) (IsHashedForId terms k) (IsHashedForId others m)

pub as_strings : (terms : Terms) (k : CommitmentState) (others : Terms) (m : CommitmentState) → IdsCollide terms k others m → StringsCollide (IsHashedForCommitment terms k) (IsHashedForCommitment others m)
as_strings terms k others m z = record {
  first = z.first;
  second = z.second;
  of_first = of_transaction z.of_first.0 z.of_first.1 z.of_first.2;
  of_second = of_transaction z.of_second.0 z.of_second.1 z.of_second.2;
  collide = by_sha256d z.collide;
}

of_one_id : (terms others : Terms) (k m : CommitmentState) → IsPayable terms k → IsPayable others m → (t u : Transaction) → IsOfCommitment (contents_of terms k) t → IsOfCommitment (contents_of others m) u
    → transaction_id t ≡ transaction_id u → (t ≡ u) ⊎ IdsCollide terms k others m
of_one_id terms others k m p q t u a b e = by (one_id t u (recorded_limits terms k p t a) (recorded_limits others m q u b) e)
  where
    by : (unsigned_transaction t ≡ unsigned_transaction u) ⊎ Collide sha256d (stripped_spelling t) (stripped_spelling u) → (t ≡ u) ⊎ IdsCollide terms k others m
    by (inl s) = inl (sym (no_witnesses (contents_of terms k) t a) ∙ s ∙ no_witnesses (contents_of others m) u b)
    by (inr c) = inr (record { first = stripped_spelling t; second = stripped_spelling u; of_first = (t, a, refl); of_second = (u, b, refl); collide = c })

pub one_transaction : (terms others : Terms) (k m : CommitmentState) → IsPayable terms k → IsPayable others m → (t u : Transaction) → IsOfCommitment (contents_of terms k) t
    → IsOfCommitment (contents_of others m) u
    → transaction_id t ≡ transaction_id u → (t ≡ u) ⊎ StringsCollide (IsHashedForCommitment terms k) (IsHashedForCommitment others m)
one_transaction terms others k m p q t u a b e =
    ⊎_elim {C = (t ≡ u) ⊎ StringsCollide (IsHashedForCommitment terms k) (IsHashedForCommitment others m)} (λ (s : t ≡ u). inl s)
    (λ (z : IdsCollide terms k others m). inr (as_strings terms k others m z)) (of_one_id terms others k m p q t u a b e)

-- ---- what is spent

abbrev first_sequence : List TxIn → ℕ
first_sequence [] = 0
first_sequence (i ∷ is) = i.sequence

abbrev first_id : List TxIn → List ℕ
first_id [] = []
first_id (i ∷ is) = i.outpoint.txid

abbrev first_index : List TxIn → ℕ
first_index [] = 0
first_index (i ∷ is) = i.outpoint.index

-- the commitment's sequence has 80 in its top byte, and an HTLC transaction's is 0
pub not_second : (terms : Terms) (k : CommitmentState) (d : Contents) (h : HtlcOutput) → transaction_of (contents_of terms k) ≡ htlc_tx_of d h → ⊥
unfolding transaction_of htlc_tx_of commitment_of
not_second terms k d h e = let f = ap (λ (t : Transaction). first_sequence t.inputs) e in omega (arith, f)

spent_id : (c d : Contents) (h g : HtlcOutput) → htlc_tx_of c h ≡ htlc_tx_of d g → id_of c ≡ id_of d
unfolding htlc_tx_of
spent_id c d h g e = ap (λ (t : Transaction). first_id t.inputs) e

spent_index : (c d : Contents) (h g : HtlcOutput) → htlc_tx_of c h ≡ htlc_tx_of d g → h.index ≡ g.index
unfolding htlc_tx_of
spent_index c d h g e = ap (λ (t : Transaction). first_index t.inputs) e

-- ---- one output

abbrev id_in : OutPoint → List ℕ
id_in o = o.txid

abbrev index_in : OutPoint → ℕ
index_in o = o.index

pub one_place : (terms others : Terms) (k m : CommitmentState) → IsPayable terms k → IsPayable others m
    → (o : OutPoint) (a : IsOutPointOf (contents_of terms k) o) (b : IsOutPointOf (contents_of others m) o) → IsOneOutput (contents_of terms k) (contents_of others m) o a b ⊎ IdsCollide terms k others m
one_place terms others k m p q o (of_output i x a e) (of_output j y b f) =
    let c = contents_of terms k in
    let d = contents_of others m in
    let index : i ≡ j = ap index_in (sym e ∙ f) in
    ⊎_elim {C = ((transaction_of c ≡ transaction_of d) × (i ≡ j)) ⊎ IdsCollide terms k others m}
    (λ (s : transaction_of c ≡ transaction_of d). inl (s, index))
    (λ (z : IdsCollide terms k others m). inr z)
    (of_one_id terms others k m p q (transaction_of c) (transaction_of d) (of_commitment refl) (of_commitment refl) (ap id_in (sym e ∙ f)))
one_place terms others k m p q o (of_output i x a e) (of_second_stage g b f) =
    let c = contents_of terms k in
    let d = contents_of others m in
    ⊎_elim {C = ⊥ ⊎ IdsCollide terms k others m}
    (λ (s : transaction_of c ≡ htlc_tx_of d g). absurd (not_second terms k d g s))
    (λ (z : IdsCollide terms k others m). inr z)
    (of_one_id terms others k m p q (transaction_of c) (htlc_tx_of d g) (of_commitment refl) (of_htlc g b refl) (ap id_in (sym e ∙ f)))
one_place terms others k m p q o (of_second_stage h a e) (of_output j y b f) =
    let c = contents_of terms k in
    let d = contents_of others m in
    ⊎_elim {C = ⊥ ⊎ IdsCollide terms k others m}
    (λ (s : htlc_tx_of c h ≡ transaction_of d). absurd (not_second others m c h (sym s)))
    (λ (z : IdsCollide terms k others m). inr z)
    (of_one_id terms others k m p q (htlc_tx_of c h) (transaction_of d) (of_htlc h a refl) (of_commitment refl) (ap id_in (sym e ∙ f)))
one_place terms others k m p q o (of_second_stage h a e) (of_second_stage g b f) =
    let c = contents_of terms k in
    let d = contents_of others m in
    ⊎_elim {C = ((transaction_of c ≡ transaction_of d) × (h.index ≡ g.index) × (htlc_tx_of c h ≡ htlc_tx_of d g)) ⊎ IdsCollide terms k others m}
    (λ (s : htlc_tx_of c h ≡ htlc_tx_of d g).
    ⊎_elim {C = ((transaction_of c ≡ transaction_of d) × (h.index ≡ g.index) × (htlc_tx_of c h ≡ htlc_tx_of d g)) ⊎ IdsCollide terms k others m}
    (λ (r : transaction_of c ≡ transaction_of d). inl (r, spent_index c d h g s, s))
    (λ (z : IdsCollide terms k others m). inr z)
    (of_one_id terms others k m p q (transaction_of c) (transaction_of d) (of_commitment refl) (of_commitment refl) (spent_id c d h g s)))
    (λ (z : IdsCollide terms k others m). inr z)
    (of_one_id terms others k m p q (htlc_tx_of c h) (htlc_tx_of d g) (of_htlc h a refl) (of_htlc g b refl) (ap id_in (sym e ∙ f)))

pub one_output : OneOutput
one_output terms others k m p q o a b =
    ⊎_elim {C = IsOneOutput (contents_of terms k) (contents_of others m) o a b ⊎ StringsCollide (IsHashedForCommitment terms k) (IsHashedForCommitment others m)}
    (λ (s : IsOneOutput (contents_of terms k) (contents_of others m) o a b). inl s) (λ (z : IdsCollide terms k others m). inr (as_strings terms k others m z)) (one_place terms others k m p q o a b)
