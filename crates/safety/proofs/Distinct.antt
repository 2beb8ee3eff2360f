-- The outputs that the peer can claim on a chain with the commitment stand at different outpoints.
use Rattle.std.proofs.Common.{◌≡◌, ◌≢◌, ℕ, ◌+◌, ◌<◌, ◌≤◌, Bool, true, false, List, [], ◌∷◌, ◌++◌, Some, sym, ap, ◌∙◌, refl, subst, ⊎_elim, arith}
use Rattle.std.specs.Prelude.{◌||◌, slice_get, if◌then◌else◌}
use Rattle.std.specs.List.{Contains, All, AllPairs, list_any}
use Rattle.std.specs.Str.{bytes_eq}
use Rattle.std.proofs.lemmas.Bool.{false≢true, and_parts}
use Rattle.std.proofs.lemmas.List.Elements.{All-nil, All-cons, All-weaker}
use Rattle.std.proofs.lemmas.List.Kept.{AllPairs-cons}
use Rattle.std.proofs.lemmas.Slice.Eq.{bytes_eq-Decides}
use Rattle.tx.specs.declared.input.OutPoint.{OutPoint}
use Rattle.tx.specs.declared.input.TxIn.{TxIn}
use Rattle.tx.specs.Fields.{Transaction, unsigned_transaction}
use Rattle.tx.specs.Spelling.{transaction_id}
use Rattle.tx.proofs.Witnesses.{same_id}
use Rattle.chain.specs.Blocks.{Contents as Block, has_id}
use Rattle.chain.specs.Checked.{have_passed, is_checked}
use Rattle.chain.proofs.Passing.{passed as transaction_passed, next_passed}
use Rattle.commit.specs.declared.outputs.OutputKind.{OutputKind}
use Rattle.commit.specs.declared.outputs.OutputKind.TheVariants.{ToLocal, ToRemote, ToHtlc}
use Rattle.commit.specs.declared.outputs.CommitmentOutput.{CommitmentOutput}
use Rattle.commit.specs.declared.outputs.HtlcOutput.{HtlcOutput}
use Rattle.commit.specs.Commitments.{Contents, commitment_of, transaction_of, id_of, htlc_tx_of}
use Rattle.penalty.specs.declared.states.RevokedState.{RevokedState}
use Rattle.penalty.specs.Claimable.{Claimable, penalty_on, payment_on, htlc_penalty_on, second_stage_penalty, claims_by, commitment_in}
use Rattle.penalty.specs.Worth.{stage_on}
use Rattle.safety.specs.Whereabouts.{IsOnChain, HasCommitment}
use Rattle.safety.proofs.Slots.{contains_cases}
use Rattle.safety.proofs.Lists.{contains_none, any_holds}
use Rattle.safety.proofs.Fates.{bare_second}
use Rattle.safety.proofs.Standing.{block_in}
use Rattle.safety.proofs.Seconds.{bare_commitment, standing, stands_at, place_of, AreFrom, first_of, others_of}

-- ---- on a chain that passed its tests one id is one transaction

-- the id of a transaction that stands is there
known : (blocks : List Block) (b : Block) (t : Transaction) (id : List ℕ) → Contains blocks b → Contains b.transactions t → transaction_id t ≡ id → has_id blocks id ≡ true
known blocks b t id i j e =
    any_holds (λ (x : Block). list_any (λ (u : Transaction). bytes_eq (transaction_id u) id) x.transactions) blocks b i
    (any_holds (λ (u : Transaction). bytes_eq (transaction_id u) id) b.transactions t j ((bytes_eq-Decides (transaction_id t) id).1 e))

either_false : (a b : Bool) → (a || b) ≡ false → (a ≡ false) × (b ≡ false)
either_false true b e = absurd (false≢true (sym e))
either_false false b e = (refl, e)

-- a transaction of a block has an id that no block below it has
new_below : (older : List Block) (ts : List Transaction) (t : Transaction) → have_passed older ts ≡ true → Contains ts t → has_id older (transaction_id t) ≡ false
new_below older [] t e i = absurd (contains_none t i)
new_below older (x ∷ xs) t e i =
    let n = next_passed older x xs e in
    let new = (transaction_passed (record { transactions = xs; granted = [] } ∷ older) x n.0).new_id in
    ⊎_elim
    (λ (s : x ≡ t). ap (λ (u : Transaction). has_id older (transaction_id u)) (sym s) ∙ (either_false (list_any (λ u. bytes_eq (transaction_id u) (transaction_id x)) xs) (has_id older (transaction_id x)) new).1)
    (λ (j : Contains xs t). new_below older xs t n.1 j)
    (contains_cases x xs t i)

-- nor have those before it in its block
new_within : (older : List Block) (x : Transaction) (xs : List Transaction) (u : Transaction) → have_passed older (x ∷ xs) ≡ true → Contains xs u → transaction_id u ≡ transaction_id x → ⊥
new_within older x xs u e j same =
    let n = next_passed older x xs e in
    let before : List Block = record { transactions = xs; granted = [] } ∷ older in
    let new = (transaction_passed before x n.0).new_id in
    false≢true (sym new ∙ known before (record { transactions = xs; granted = [] }) u (transaction_id x) (0, omega arith, refl) j same)

in_block : (older : List Block) (ts : List Transaction) (t u : Transaction) → have_passed older ts ≡ true → Contains ts t → Contains ts u → transaction_id t ≡ transaction_id u → t ≡ u
in_block older [] t u e i j same = absurd (contains_none t i)
in_block older (x ∷ xs) t u e i j same =
    ⊎_elim {C = t ≡ u}
    (λ (s : x ≡ t).
    ⊎_elim {C = t ≡ u} (λ (r : x ≡ u). sym s ∙ r)
    (λ (k : Contains xs u). absurd (new_within older x xs u e k (sym same ∙ ap transaction_id (sym s)))) (contains_cases x xs u j))
    (λ (l : Contains xs t).
    ⊎_elim {C = t ≡ u} (λ (r : x ≡ u). absurd (new_within older x xs t e l (same ∙ ap transaction_id (sym r))))
    (λ (k : Contains xs u). in_block older xs t u (next_passed older x xs e).1 l k same) (contains_cases x xs u j))
    (contains_cases x xs t i)

pub one_of_id : (blocks : List Block) (b d : Block) (t u : Transaction) → is_checked blocks ≡ true → Contains blocks b → Contains b.transactions t → Contains blocks d → Contains d.transactions u → transaction_id t ≡ transaction_id u → t ≡ u
one_of_id [] b d t u e i k j l same = absurd (contains_none b i)
one_of_id (x ∷ older) b d t u e i k j l same =
    let parts = and_parts (have_passed older x.transactions) (is_checked older) e in
    ⊎_elim {C = t ≡ u}
    (λ (s : x ≡ b).
    let own : Contains x.transactions t = subst (λ (y : Block). Contains y.transactions t) (sym s) k in
    ⊎_elim {C = t ≡ u} (λ (r : x ≡ d). in_block older x.transactions t u parts.0 own (subst (λ (y : Block). Contains y.transactions u) (sym r) l) same)
    (λ (m : Contains older d). absurd (false≢true (sym (new_below older x.transactions t parts.0 own) ∙ known older d u (transaction_id t) m l (sym same)))) (contains_cases x older d j))
    (λ (n : Contains older b).
    ⊎_elim {C = t ≡ u}
    (λ (r : x ≡ d).
    absurd (false≢true (sym (new_below older x.transactions u parts.0 (subst (λ (y : Block). Contains y.transactions u) (sym r) l)) ∙ known older b t (transaction_id u) n k same)))
    (λ (m : Contains older d). one_of_id older b d t u parts.1 n k m l same) (contains_cases x older d j))
    (contains_cases x older b i)

-- so two that stand there, whatever their witnesses
one_on_chain : (blocks : List Block) → is_checked blocks ≡ true → (t u : Transaction) → IsOnChain blocks t → IsOnChain blocks u → unsigned_transaction t ≡ t → unsigned_transaction u ≡ u → transaction_id t ≡ transaction_id u → t ≡ u
one_on_chain blocks e t u k l bare clean same =
    let first = same_id k.signed t (k.same ∙ sym bare) in
    let second = same_id l.signed u (l.same ∙ sym clean) in
    let s = k.stands in
    let r = l.stands in
    sym k.same
    ∙ ap unsigned_transaction (one_of_id blocks s.block r.block k.signed l.signed e (block_in blocks k.height k.signed s) s.within (block_in blocks l.height l.signed r) r.within (first ∙ same ∙ sym second))
    ∙ l.same

-- ---- the transactions of a commitment

abbrev first_sequence : List TxIn → ℕ
first_sequence [] = 0
first_sequence (i ∷ is) = i.sequence

abbrev first_index : List TxIn → ℕ
first_index [] = 0
first_index (i ∷ is) = i.outpoint.index

-- the commitment's sequence has 80 in its top byte, and an HTLC transaction's is 0
not_second : (state : RevokedState) (h : HtlcOutput) → transaction_of (commitment_in state) ≡ htlc_tx_of (commitment_in state) h → ⊥
unfolding transaction_of htlc_tx_of commitment_of
not_second state h e = let f = ap (λ (t : Transaction). first_sequence t.inputs) e in omega (arith, f)

pub one_index : (c : Contents) (h g : HtlcOutput) → htlc_tx_of c h ≡ htlc_tx_of c g → h.index ≡ g.index
unfolding htlc_tx_of
one_index c h g e = ap (λ (t : Transaction). first_index t.inputs) e

-- ---- outpoints

-- an output for that of an index: at its place, or at that of its HTLC transaction's
data StandsFor (blocks : List Block) (c : Contents) (index : ℕ) (o : Claimable) : Type 0 where
  itself : o.place.outpoint ≡ record { txid = id_of c; index = index } → StandsFor blocks c index o
  by_htlc : (h : HtlcOutput) → h.index ≡ index → IsOnChain blocks (htlc_tx_of c h) → o.place.outpoint ≡ record { txid = transaction_id (htlc_tx_of c h); index = 0 }
      → StandsFor blocks c index o

abbrev AreApart : Claimable → Claimable → Type 0
AreApart o p = o.place.outpoint ≢ p.place.outpoint

abbrev id_in : OutPoint → List ℕ
id_in p = p.txid

other_id : (blocks : List Block) (state : RevokedState) → HasCommitment blocks state → (h : HtlcOutput) → IsOnChain blocks (htlc_tx_of (commitment_in state) h)
    → id_of (commitment_in state) ≡ transaction_id (htlc_tx_of (commitment_in state) h) → ⊥
other_id blocks state chain h k e =
    let c = commitment_in state in
    not_second state h (one_on_chain blocks chain.checked (transaction_of c) (htlc_tx_of c h) chain.commitment k (bare_commitment c) (bare_second c h) e)

apart : (blocks : List Block) (state : RevokedState) → HasCommitment blocks state → (i j : ℕ) → i < j → (o p : Claimable) → StandsFor blocks (commitment_in state) i o → StandsFor blocks (commitment_in state) j p → AreApart o p
apart blocks state chain i j l o p (itself a) (itself b) e = let f : i ≡ j = ap (λ (q : OutPoint). q.index) (sym a ∙ e ∙ b) in omega (arith, f, l)
apart blocks state chain i j l o p (itself a) (by_htlc h at k b) e = other_id blocks state chain h k (ap id_in (sym a ∙ e ∙ b))
apart blocks state chain i j l o p (by_htlc h at k a) (itself b) e = other_id blocks state chain h k (ap id_in (sym b ∙ sym e ∙ a))
apart blocks state chain i j l o p (by_htlc h at k a) (by_htlc g there m b) e =
    let c = commitment_in state in
    let f : h.index ≡ g.index = one_index c h g (one_on_chain blocks chain.checked (htlc_tx_of c h) (htlc_tx_of c g) k m (bare_second c h) (bare_second c g) (ap id_in (sym a ∙ e ∙ b))) in
    omega (arith, f, at, there, l)

-- ---- one for each output

-- one output is for that of the index
record IsOneFor (blocks : List Block) (c : Contents) (index : ℕ) (os : List Claimable) : Type 0 where
  one : Claimable
  alone : os ≡ one ∷ []
  stands : StandsFor blocks c index one

one_for : (blocks : List Block) (state : RevokedState) → HasCommitment blocks state → (index : ℕ) (o : CommitmentOutput) → slice_get (commitment_in state).outputs index ≡ Some o
    → (kind : OutputKind) → o.kind ≡ kind → IsOneFor blocks (commitment_in state) index (stage_on (standing blocks (commitment_in state)) (commitment_in state) index (place_of (commitment_in state) index o) kind)
one_for blocks state chain index o e ToLocal k = record { one = penalty_on (commitment_in state) (place_of (commitment_in state) index o); alone = refl; stands = itself refl }
one_for blocks state chain index o e ToRemote k = record { one = payment_on (commitment_in state) (place_of (commitment_in state) index o); alone = refl; stands = itself refl }
one_for blocks state chain index o e (ToHtlc direction htlc) k =
    let c = commitment_in state in
    let h : HtlcOutput = record { index = index; direction = direction; htlc = htlc } in
    record {
      one = if standing blocks c index then second_stage_penalty c h else htlc_penalty_on c direction htlc (place_of c index o);
      alone = refl;
      stands = by (standing blocks c index) refl;
    }
  where
    by : (b : Bool) → standing blocks (commitment_in state) index ≡ b
        → StandsFor blocks (commitment_in state) index (if b then second_stage_penalty (commitment_in state) (record { index = index; direction = direction; htlc = htlc }) else htlc_penalty_on (commitment_in state) direction htlc (place_of (commitment_in state) index o))
    by false s = itself refl
    by true s =
        let h : HtlcOutput = record { index = index; direction = direction; htlc = htlc } in
        let at : index ≡ 0 + index = omega arith in
        by_htlc h refl (stands_at blocks state chain h (record { place = index; output = o; there = e; at = at; kind = k }) s) refl

-- an output for that of one of the indices from here on
abbrev IsFrom : List Block → Contents → ℕ → Claimable → Type 0
IsFrom blocks c index o = (j : ℕ) × (index ≤ j) × StandsFor blocks c j o

each_for : (blocks : List Block) (state : RevokedState) → HasCommitment blocks state → (index : ℕ) (os : List CommitmentOutput) → AreFrom (commitment_in state).outputs index os
    → All (IsFrom blocks (commitment_in state) index) (claims_by (stage_on (standing blocks (commitment_in state)) (commitment_in state)) (commitment_in state) index os)
unfolding claims_by
each_for blocks state chain index [] at = All-nil (IsFrom blocks (commitment_in state) index)
each_for blocks state chain index (o ∷ os) at =
    let c = commitment_in state in
    let rest = claims_by (stage_on (standing blocks c) c) c (index + 1) os in
    let h = one_for blocks state chain index o (first_of c.outputs index o os at) o.kind refl in
    let others = All-weaker (IsFrom blocks c (index + 1)) (IsFrom blocks c index) (λ p f. (f.0, (let l = f.1 in omega (arith, l)), f.2)) rest (each_for blocks state chain (index + 1) os (others_of c.outputs index o os at)) in
    subst (λ xs. All (IsFrom blocks c index) (xs ++ rest)) (sym h.alone) (All-cons (IsFrom blocks c index) h.one rest (index, omega arith, h.stands) others)

pub apart_from : (blocks : List Block) (state : RevokedState) → HasCommitment blocks state → (index : ℕ) (os : List CommitmentOutput) → AreFrom (commitment_in state).outputs index os
    → AllPairs AreApart (claims_by (stage_on (standing blocks (commitment_in state)) (commitment_in state)) (commitment_in state) index os)
unfolding claims_by
apart_from blocks state chain index [] at = λ i j d l m. absurd (omega (arith, m))
apart_from blocks state chain index (o ∷ os) at =
    let c = commitment_in state in
    let rest = claims_by (stage_on (standing blocks c) c) c (index + 1) os in
    let h = one_for blocks state chain index o (first_of c.outputs index o os at) o.kind refl in
    let others = All-weaker (IsFrom blocks c (index + 1)) (AreApart h.one) (λ p f. apart blocks state chain index f.0 (let l = f.1 in omega (arith, l)) h.one p h.stands f.2) rest
    (each_for blocks state chain (index + 1) os (others_of c.outputs index o os at)) in
    subst (λ xs. AllPairs AreApart (xs ++ rest)) (sym h.alone) (AllPairs-cons AreApart h.one rest others (apart_from blocks state chain (index + 1) os (others_of c.outputs index o os at)))
