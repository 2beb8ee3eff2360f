-- The outputs that a revoked commitment lets the node claim stand at different outpoints; so the whole capacity is there.
use Rattle.std.proofs.Common.{◌≡◌, ◌≢◌, ℕ, ◌+◌, ◌<◌, ◌≤◌, Bool, true, false, List, [], ◌∷◌, ◌++◌, Some, sym, ap, ◌∙◌, refl, subst, arith}
use Rattle.std.specs.Prelude.{slice_get, if◌then◌else◌}
use Rattle.std.specs.List.{Contains, All, AllPairs}
use Rattle.std.proofs.lemmas.List.Elements.{All-nil, All-cons, All-weaker}
use Rattle.std.proofs.lemmas.List.Kept.{AllPairs-cons}
use Rattle.tx.specs.declared.input.OutPoint.{OutPoint}
use Rattle.tx.specs.Fields.{Transaction, unsigned_transaction}
use Rattle.tx.specs.Spelling.{transaction_id}
use Rattle.tx.proofs.Witnesses.{same_id}
use Rattle.chain.specs.Blocks.{Contents as Block}
use Rattle.terms.specs.declared.htlcs.Htlc.{Htlc}
use Rattle.commit.specs.declared.fees.Direction.{Direction}
use Rattle.commit.specs.declared.outputs.OutputKind.{OutputKind}
use Rattle.commit.specs.declared.outputs.OutputKind.TheVariants.{ToLocal, ToRemote, ToHtlc}
use Rattle.commit.specs.declared.outputs.CommitmentOutput.{CommitmentOutput}
use Rattle.commit.specs.declared.outputs.HtlcOutput.{HtlcOutput}
use Rattle.commit.specs.Commitments.{Contents, transaction_of, id_of, htlc_tx_of}
use Rattle.penalty.specs.declared.states.RevokedState.{RevokedState}
use Rattle.penalty.specs.Claimable.{Claimable, penalty_on, payment_on, htlc_penalty_on, second_stage_penalty, claims_by, commitment_in}
use Rattle.penalty.specs.Worth.{stage_on}
use Rattle.penalty.proofs.Worth.{each_stage, each_claimable}
use Rattle.channel.specs.declared.commitments.CommitmentState.{CommitmentState}
use Rattle.channel.specs.Tokens.{contents_of}
use Rattle.safety.specs.Places.{place_at}
use Rattle.safety.specs.Whereabouts.{IsOnChain}
use Rattle.safety.specs.Holdings.{Holding, terms_in}
use Rattle.safety.specs.Premises.{output_lock, outputs_by}
use Rattle.safety.specs.Resolutions.{AreResolved, RevokedAreResolved}
use Rattle.safety.specs.Everybody.{RevokedAgainstEverybody}
use Rattle.safety.proofs.Slots.{contains_first, contains_later}
use Rattle.safety.proofs.Fates.{bare_second}
use Rattle.safety.proofs.Seconds.{bare_commitment, standing, AreFrom, first_of, others_of, all_of}
use Rattle.safety.proofs.Distinct.{one_index}
use Rattle.safety.proofs.Outputs.{not_second}
use Rattle.safety.proofs.Places.{htlc_at_index}
use Rattle.safety.proofs.Resolving.{Setting, contents, on_it, kind_lock, second_lock, standing_there, those_stand, each_resolved}

-- two transactions of one id that stand are one, if it is that of an output of the node's channels
one_there : (hs : List Holding) (blocks : List Block) (s : Setting hs blocks) (o : Claimable) → Contains (outputs_by hs) (output_lock o) → (t u : Transaction) → IsOnChain blocks t → IsOnChain blocks u
    → unsigned_transaction t ≡ t → unsigned_transaction u ≡ u → transaction_id t ≡ o.place.outpoint.txid → transaction_id u ≡ o.place.outpoint.txid → t ≡ u
one_there hs blocks s o lock t u k l bare clean id rival =
    sym k.same
    ∙ s.watched.ledger.one (output_lock o) lock k.height l.height k.signed l.signed k.stands l.stands (same_id k.signed t (k.same ∙ sym bare) ∙ id) (same_id l.signed u (l.same ∙ sym clean) ∙ rival)
    ∙ l.same

-- an output for that of an index: at its place, or at that of its HTLC transaction's
data StandsFor (hs : List Holding) (blocks : List Block) (c : Contents) (index : ℕ) (o : Claimable) : Type 0 where
  itself : Contains (outputs_by hs) (output_lock o) → o.place.outpoint ≡ record { txid = id_of c; index = index } → StandsFor hs blocks c index o
  by_htlc : Contains (outputs_by hs) (output_lock o) → (x : HtlcOutput) → x.index ≡ index → IsOnChain blocks (htlc_tx_of c x) → o.place.outpoint ≡ record { txid = transaction_id (htlc_tx_of c x); index = 0 }
      → StandsFor hs blocks c index o

abbrev AreApart : Claimable → Claimable → Type 0
AreApart o p = o.place.outpoint ≢ p.place.outpoint

abbrev id_in : OutPoint → List ℕ
id_in p = p.txid

other_transaction : (hs : List Holding) (blocks : List Block) (s : Setting hs blocks) (o : Claimable) → Contains (outputs_by hs) (output_lock o) → (x : HtlcOutput) → IsOnChain blocks (htlc_tx_of (contents s) x)
    → id_of (contents s) ≡ o.place.outpoint.txid → transaction_id (htlc_tx_of (contents s) x) ≡ o.place.outpoint.txid → ⊥
other_transaction hs blocks s o lock x k id rival =
    let c = contents s in
    not_second (terms_in s.holding) s.commitment c x (one_there hs blocks s o lock (transaction_of c) (htlc_tx_of c x) s.chain k (bare_commitment c) (bare_second c x) id rival)

apart : (hs : List Holding) (blocks : List Block) (s : Setting hs blocks) (i j : ℕ) → i < j → (o p : Claimable) → StandsFor hs blocks (contents s) i o → StandsFor hs blocks (contents s) j p → AreApart o p
apart hs blocks s i j l o p (itself m a) (itself n b) e = let f : i ≡ j = ap (λ (q : OutPoint). q.index) (sym a ∙ e ∙ b) in omega (arith, f, l)
apart hs blocks s i j l o p (itself m a) (by_htlc n x at k b) e = other_transaction hs blocks s o m x k (ap id_in (sym a)) (ap id_in (sym b ∙ sym e))
apart hs blocks s i j l o p (by_htlc m x at k a) (itself n b) e = other_transaction hs blocks s o m x k (ap id_in (sym b ∙ sym e)) (ap id_in (sym a))
apart hs blocks s i j l o p (by_htlc m x at k a) (by_htlc n y there q b) e =
    let c = contents s in
    let f : x.index ≡ y.index = one_index c x y (one_there hs blocks s o m (htlc_tx_of c x) (htlc_tx_of c y) k q (bare_second c x) (bare_second c y) (ap id_in (sym a)) (ap id_in (sym b ∙ sym e))) in
    omega (arith, f, at, there, l)

-- one output is for that of the index
record IsOneFor (hs : List Holding) (blocks : List Block) (c : Contents) (index : ℕ) (os : List Claimable) : Type 0 where
  one : Claimable
  alone : os ≡ one ∷ []
  stands : StandsFor hs blocks c index one

abbrev htlc_of : ℕ → Direction → Htlc → HtlcOutput
htlc_of index direction htlc = record { index = index; direction = direction; htlc = htlc }

one_for : (hs : List Holding) (blocks : List Block) (s : Setting hs blocks) (index : ℕ) (o : CommitmentOutput) → slice_get (contents s).outputs index ≡ Some o
    → (kind : OutputKind) → o.kind ≡ kind → IsOneFor hs blocks (contents s) index (stage_on (standing blocks (contents s)) (contents s) index (place_at (contents s) index o) kind)
one_for hs blocks s index o e ToLocal k =
    let p = penalty_on (contents s) (place_at (contents s) index o) in
    record { one = p; alone = refl; stands = itself (kind_lock hs blocks s index o ToLocal (record { there = e; kind = k }) p (contains_first p [])) refl }
one_for hs blocks s index o e ToRemote k =
    let p = payment_on (contents s) (place_at (contents s) index o) in
    record { one = p; alone = refl; stands = itself (kind_lock hs blocks s index o ToRemote (record { there = e; kind = k }) p (contains_first p [])) refl }
one_for hs blocks s index o e (ToHtlc direction htlc) k =
    let c = contents s in
    let x = htlc_of index direction htlc in
    record { one = if standing blocks c index then second_stage_penalty c x else on_it c x o; alone = refl; stands = by (standing blocks c index) refl }
  where
    by : (b : Bool) → standing blocks (contents s) index ≡ b
        → StandsFor hs blocks (contents s) index (if b then second_stage_penalty (contents s) (htlc_of index direction htlc) else on_it (contents s) (htlc_of index direction htlc) o)
    by false f =
        let p = on_it (contents s) (htlc_of index direction htlc) o in
        itself (kind_lock hs blocks s index o (ToHtlc direction htlc) (record { there = e; kind = k }) p (contains_first p (second_stage_penalty (contents s) (htlc_of index direction htlc) ∷ []))) refl
    by true f =
        let x = htlc_of index direction htlc in
        let at = htlc_at_index (contents s) index o direction htlc e k in
        by_htlc (second_lock hs blocks s x o at) x refl (standing_there hs blocks s x o at f) refl

-- an output for that of one of the indices from here on
abbrev IsFrom : List Holding → List Block → Contents → ℕ → Claimable → Type 0
IsFrom hs blocks c index o = (j : ℕ) × (index ≤ j) × StandsFor hs blocks c j o

each_for : (hs : List Holding) (blocks : List Block) (s : Setting hs blocks) (index : ℕ) (os : List CommitmentOutput) → AreFrom (contents s).outputs index os
    → All (IsFrom hs blocks (contents s) index) (claims_by (stage_on (standing blocks (contents s)) (contents s)) (contents s) index os)
unfolding claims_by
each_for hs blocks s index [] at = All-nil (IsFrom hs blocks (contents s) index)
each_for hs blocks s index (o ∷ os) at =
    let c = contents s in
    let rest = claims_by (stage_on (standing blocks c) c) c (index + 1) os in
    let h = one_for hs blocks s index o (first_of c.outputs index o os at) o.kind refl in
    let others = All-weaker (IsFrom hs blocks c (index + 1)) (IsFrom hs blocks c index) (λ p f. (f.0, (let l = f.1 in omega (arith, l)), f.2)) rest (each_for hs blocks s (index + 1) os (others_of c.outputs index o os at)) in
    subst (λ xs. All (IsFrom hs blocks c index) (xs ++ rest)) (sym h.alone) (All-cons (IsFrom hs blocks c index) h.one rest (index, omega arith, h.stands) others)

apart_from : (hs : List Holding) (blocks : List Block) (s : Setting hs blocks) (index : ℕ) (os : List CommitmentOutput) → AreFrom (contents s).outputs index os
    → AllPairs AreApart (claims_by (stage_on (standing blocks (contents s)) (contents s)) (contents s) index os)
unfolding claims_by
apart_from hs blocks s index [] at = λ i j d l m. absurd (omega (arith, m))
apart_from hs blocks s index (o ∷ os) at =
    let c = contents s in
    let rest = claims_by (stage_on (standing blocks c) c) c (index + 1) os in
    let h = one_for hs blocks s index o (first_of c.outputs index o os at) o.kind refl in
    let others = All-weaker (IsFrom hs blocks c (index + 1)) (AreApart h.one) (λ p f. apart hs blocks s index f.0 (let l = f.1 in omega (arith, l)) h.one p h.stands f.2) rest
    (each_for hs blocks s (index + 1) os (others_of c.outputs index o os at)) in
    subst (λ xs. AllPairs AreApart (xs ++ rest)) (sym h.alone) (AllPairs-cons AreApart h.one rest others (apart_from hs blocks s (index + 1) os (others_of c.outputs index o os at)))

-- ---- all of them

pub revoked_are_resolved : RevokedAreResolved
revoked_are_resolved hs blocks v h held n k there chain =
    let s : Setting hs blocks = record { watched = v; holding = h; held = held; number = n; commitment = k; there = there; chain = chain } in
    let c = contents_of (terms_in h) k in
    record {
      stands = standing blocks c;
      those = λ x i. those_stand hs blocks s x i;
      apart = apart_from hs blocks s 0 c.outputs (all_of c.outputs);
      each = λ o i. each_resolved hs blocks s o i;
    }

-- ---- the whole capacity

pub revoked_against_everybody : RevokedAgainstEverybody
revoked_against_everybody hs blocks v h held n k there state e chain =
    let on : IsOnChain blocks (transaction_of (contents_of (terms_in h) k)) = subst (λ (d : Contents). IsOnChain blocks (transaction_of d)) e chain in
    let r : AreResolved hs blocks (commitment_in state) = subst (AreResolved hs blocks) (sym e) (revoked_are_resolved hs blocks v h held n k there on) in
    record { stands = r.stands; those = r.those; claimable = each_claimable state r.stands; apart = r.apart; worth = each_stage state r.stands; each = r.each }
