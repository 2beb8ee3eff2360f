-- The newest commitment passes the next block.
use Rattle.std.proofs.Common.{◌≡◌, ℕ, zero, suc, ◌+◌, ◌*◌, ◌<◌, ◌≤◌, Bool, true, false, List, [], ◌∷◌, ◌++◌, map, length, Option, Some, None, option_map, unwrap_or, append-nil, sym, ap, ◌∙◌, refl, subst, inl, inr, ⊎_elim, arith}
use Rattle.std.specs.Prelude.{◌⊎◌, nat_le, slice_get}
use Rattle.std.specs.List.{Contains, find, list_any}
use Rattle.std.specs.Str.{bytes_eq}
use Rattle.std.proofs.lemmas.Bool.{false≢true, le-leb}
use Rattle.std.proofs.lemmas.List.Sums.{sum_by-cons}
use Rattle.std.proofs.lemmas.List.Sorted.{sum_by-IsPermutation}
use Rattle.std.proofs.lemmas.List.Elements.{Contains-append_left, Contains-append_right}
use Rattle.digest.specs.Hash.{sha256d, Collide}
use Rattle.tx.specs.declared.input.OutPoint.{OutPoint}
use Rattle.tx.specs.declared.input.TxIn.{TxIn}
use Rattle.tx.specs.Parts.{Output}
use Rattle.tx.specs.Fields.{Transaction, same_outpoint, signed_input, unsigned_inputs, unsigned_transaction}
use Rattle.tx.specs.Spelling.{input, body, stripped_spelling, transaction_id}
use Rattle.chain.specs.Blocks.{Contents as Block, Creation, Coin, empty_block, created_of, names, is_named, coin_at, height_of, has_id, value_at, paid_in, paid_out}
use Rattle.chain.specs.Checks.{input_refusal, transaction_refusal}
use Rattle.chain.proofs.Noting.{itself}
use Rattle.terms.specs.declared.amounts.TheConstants.{MSAT_PER_SAT}
use Rattle.terms.specs.declared.agreement.Terms.{Terms}
use Rattle.terms.specs.Agreement.{party}
use Rattle.claim.specs.declared.parts.Place.{Place}
use Rattle.commit.specs.declared.outputs.OutputKind.{OutputKind}
use Rattle.commit.specs.declared.outputs.OutputKind.TheVariants.{ToLocal, ToRemote, ToHtlc}
use Rattle.commit.specs.declared.outputs.CommitmentOutput.{CommitmentOutput}
use Rattle.commit.specs.Amounts.{amounts_of}
use Rattle.commit.specs.Keys.{keys_of}
use Rattle.commit.specs.Order.{in_order}
use Rattle.commit.specs.Outputs.{outputs_of}
use Rattle.commit.specs.Sums.{total_msat_of, paid_out_sat}
use Rattle.commit.specs.Commitments.{Contents, commitment_of, tx_output, transaction_of, id_of}
use Rattle.commit.proofs.Funds.{nothing_is_created}
use Rattle.commit.proofs.Ordered.{there_is_one}
use Rattle.commit.proofs.Values.{values, of_all}
use Rattle.penalty.specs.Claimable.{Claimable, place_in, penalty_on, payment_on, htlc_penalty_on, claims_on, claims_by, claims_from}
use Rattle.channel.specs.declared.commitments.CommitmentState.{CommitmentState}
use Rattle.channel.specs.States.{State}
use Rattle.channel.specs.Tokens.{contents_of}
use Rattle.publish.specs.Published.{funding_witness, signed_transaction}
use Rattle.publish.specs.Opening.{funding_output, HasUnspent, CommitmentsSpend}
use Rattle.safety.specs.Standing.{StandsAt}
use Rattle.safety.specs.Recorded.{of_commitment}
use Rattle.safety.specs.Holdings.{Holding, terms_in}
use Rattle.safety.specs.Premises.{funding_lock, output_lock, locks_of, outputs_in, outputs_by}
use Rattle.safety.specs.Ledgers.{IsCoinAt}
use Rattle.safety.specs.Closers.{IsWatched}
use Rattle.safety.specs.Passing.{HasTwinOn, CanClose, NewestPasses}
use Rattle.safety.proofs.Slots.{same_bytes}
use Rattle.safety.proofs.Lists.{contained, contains_map, at_reversed, any_found, any_holds}
use Rattle.safety.proofs.Tests.{flat_in, from_map}
use Rattle.safety.proofs.Standing.{block_in, spent_is}
use Rattle.safety.proofs.Ids.{id_is, unsigned_limits, one_unsigned_id}
use Rattle.safety.proofs.Recorded.{recorded_limits}
use Rattle.safety.proofs.Handed.{own_payable}
use Rattle.safety.proofs.Own.{kept_one}

-- ---- what it pays

paid_values : (os : List CommitmentOutput) → paid_out (map tx_output os) ≡ values os
paid_values [] = refl
paid_values (o ∷ os) =
    sum_by-cons (λ (x : Output). x.value) (tx_output o) (map tx_output os) ∙ ap (λ n. o.value + n) (paid_values os) ∙ sym (sum_by-cons (λ (x : CommitmentOutput). x.value) o os)

values_are : (terms : Terms) (k : CommitmentState) → values (contents_of terms k).outputs ≡ paid_out_sat (amounts_of terms k.view k.owner)
unfolding commitment_of
values_are terms k =
    let delay = (party k.owner terms).delay_blocks in
    let os = outputs_of delay (keys_of terms k.owner k.point.bytes) (amounts_of terms k.view k.owner) in
    sum_by-IsPermutation (λ (o : CommitmentOutput). o.value) os (in_order os) (there_is_one os).0.same ∙ of_all delay (keys_of terms k.owner k.point.bytes) (amounts_of terms k.view k.owner)

covered : (terms : Terms) (k : CommitmentState) → total_msat_of k.view ≡ MSAT_PER_SAT * terms.capacity_sat → paid_out (map tx_output (contents_of terms k).outputs) ≤ terms.capacity_sat
covered terms k whole =
    let e : paid_out (map tx_output (contents_of terms k).outputs) ≡ paid_out_sat (amounts_of terms k.view k.owner) = paid_values (contents_of terms k).outputs ∙ values_are terms k in
    let c = nothing_is_created terms k.view k.owner whole in
    omega (arith, e, c)

-- ---- the next block

-- a transaction of one input
pub unrefused : (blocks : List Block) (version lock_time : ℕ) (input : TxIn) (outputs : List Output) → has_id blocks (transaction_id (record { version = version; inputs = input ∷ []; outputs = outputs; lock_time = lock_time })) ≡ false
    → input_refusal blocks (height_of blocks) (record { version = version; inputs = input ∷ []; outputs = outputs; lock_time = lock_time }) input ≡ None → nat_le (paid_out outputs) (paid_in blocks (input ∷ [])) ≡ true
    → transaction_refusal blocks (record { version = version; inputs = input ∷ []; outputs = outputs; lock_time = lock_time }) ≡ None
unfolding transaction_refusal
unrefused blocks version lock_time input outputs new passed covered = rw (new, passed, covered) refl

next_coin : (blocks : List Block) (o : OutPoint) → coin_at (empty_block ∷ blocks) o ≡ coin_at blocks o
next_coin blocks o =
    ap (λ (cs : List Creation). option_map (λ (c : Creation). record { output = c.output; height = c.height; spent = is_named blocks o }) (find (λ (c : Creation). same_outpoint c.outpoint o) cs)) (append-nil (created_of blocks))

abbrev signed : Terms → CommitmentState → Transaction
signed terms k = signed_transaction terms (contents_of terms k)

funds : (blocks : List Block) (o : OutPoint) (input : TxIn) (coin : Coin) (value : ℕ) → input.outpoint ≡ o → coin_at blocks o ≡ Some coin → coin.output.value ≡ value → (paid : ℕ) → paid ≤ value → nat_le paid (paid_in blocks (input ∷ [])) ≡ true
funds blocks o input coin value names there is paid less =
    let v : value_at blocks input.outpoint ≡ value = ap (λ (p : OutPoint). value_at blocks p) names ∙ ap (λ (c : Option Coin). unwrap_or (option_map (λ (x : Coin). x.output.value) c) 0) there ∙ is in
    let one : paid_in blocks (input ∷ []) ≡ value = sum_by-cons (λ (x : TxIn). value_at blocks x.outpoint) input [] ∙ ap (λ n. n + 0) v ∙ omega arith in
    ap (λ n. nat_le paid n) one ∙ le-leb paid value less

all_pass : CommitmentsSpend → (s : State) (n : ℕ) (k : CommitmentState) (blocks : List Block) → slice_get s.mine n ≡ Some k → total_msat_of k.view ≡ MSAT_PER_SAT * s.held.terms.capacity_sat
    → HasUnspent (empty_block ∷ blocks) s.held.terms.funding (funding_output s.held.terms) → has_id blocks (transaction_id (signed s.held.terms k)) ≡ false → transaction_refusal (empty_block ∷ blocks) (signed s.held.terms k) ≡ None
unfolding transaction_of commitment_of
all_pass spend s n k blocks at whole has new =
    let terms = s.held.terms in
    let c = contents_of terms k in
    let i : TxIn = record { outpoint = c.funding; sequence = c.hidden.sequence; witness = funding_witness terms c } in
    let first : input_refusal (empty_block ∷ blocks) (height_of (empty_block ∷ blocks)) (signed terms k) i ≡ None =
    spend s n (signed terms k) (empty_block ∷ blocks) (height_of (empty_block ∷ blocks)) (ap (option_map (λ (x : CommitmentState). signed_transaction terms (contents_of terms x))) at) has in
    unrefused (empty_block ∷ blocks) 2 c.hidden.lock_time i (map tx_output c.outputs) new first
    (funds (empty_block ∷ blocks) terms.funding i has.coin terms.capacity_sat refl has.there (ap (λ (o : Output). o.value) has.output_is) (paid_out (map tx_output c.outputs)) (covered terms k whole))

-- ---- its id

-- where it has an output, that is one which the node's channels make
first_claim : (c : Contents) (o : CommitmentOutput) (os : List CommitmentOutput) → (x : Claimable) × Contains (claims_from c 0 (o ∷ os)) x × (x.place.outpoint.txid ≡ id_of c)
unfolding claims_by
first_claim c o os =
    let place = place_in (transaction_of c) 0 (tx_output o) in
    let f = on_kind o.kind in
    (f.0, Contains-append_left (claims_on c 0 place o.kind) (claims_by (claims_on c) c 1 os) f.0 f.1, ap (λ (p : Place). p.outpoint.txid) f.2)
  where
    on_kind : (kind : OutputKind) → (x : Claimable) × Contains (claims_on c 0 (place_in (transaction_of c) 0 (tx_output o)) kind) x × (x.place ≡ place_in (transaction_of c) 0 (tx_output o))
    on_kind ToLocal = (penalty_on c (place_in (transaction_of c) 0 (tx_output o)), (0, omega arith, refl), refl)
    on_kind ToRemote = (payment_on c (place_in (transaction_of c) 0 (tx_output o)), (0, omega arith, refl), refl)
    on_kind (ToHtlc d h) = (htlc_penalty_on c d h (place_in (transaction_of c) 0 (tx_output o)), (0, omega arith, refl), refl)

some_claim : (c : Contents) → 0 < length c.outputs → (x : Claimable) × Contains (claims_from c 0 c.outputs) x × (x.place.outpoint.txid ≡ id_of c)
some_claim c some = by c.outputs some
  where
    by : (os : List CommitmentOutput) → 0 < length os → (x : Claimable) × Contains (claims_from c 0 os) x × (x.place.outpoint.txid ≡ id_of c)
    by [] l = absurd (omega (arith, l))
    by (o ∷ os) l = first_claim c o os

own_made : (hs : List Holding) (h : Holding) → Contains hs h → (n : ℕ) (k : CommitmentState) → slice_get h.state.mine n ≡ Some k
    → (o : Claimable) → Contains (claims_from (contents_of (terms_in h) k) 0 (contents_of (terms_in h) k).outputs) o → Contains (outputs_by hs) (output_lock o)
own_made hs h held n k there o i =
    let c = contents_of (terms_in h) k in
    flat_in outputs_in hs h (output_lock o) held
    (flat_in (λ (m : CommitmentState). locks_of (contents_of (terms_in h) m)) (h.state.signed ++ h.state.mine) k (output_lock o)
    (Contains-append_right h.state.signed h.state.mine k (contained h.state.mine n k there)) (contains_map output_lock (claims_from c 0 c.outputs) o i))

same_spelling : (terms : Terms) (k : CommitmentState) → stripped_spelling (signed terms k) ≡ stripped_spelling (transaction_of (contents_of terms k))
unfolding transaction_of stripped_spelling body input
same_spelling terms k = refl

its_id : (terms : Terms) (k : CommitmentState) → transaction_id (signed terms k) ≡ id_of (contents_of terms k)
its_id terms k = id_is (signed terms k) ∙ ap sha256d (same_spelling terms k) ∙ sym (id_is (transaction_of (contents_of terms k)))

-- a transaction that is the commitment but for witnesses takes the funding output
first_input : (terms : Terms) (k : CommitmentState) → (x : TxIn) × Contains (unsigned_transaction (transaction_of (contents_of terms k))).inputs x × (x.outpoint ≡ terms.funding)
unfolding transaction_of commitment_of
first_input terms k = (record { outpoint = terms.funding; sequence = (contents_of terms k).hidden.sequence; witness = [] }, (0, omega arith, refl), refl)

is_spent : (blocks : List Block) (terms : Terms) (k : CommitmentState) (height : ℕ) (u : Transaction) → StandsAt blocks height u → unsigned_transaction (transaction_of (contents_of terms k)) ≡ unsigned_transaction u → is_named blocks terms.funding ≡ true
is_spent blocks terms k height u s e =
    let f = first_input terms k in
    let among : Contains (unsigned_inputs u.inputs) f.0 = subst (λ (t : Transaction). Contains t.inputs f.0) e f.1 in
    let x = from_map (λ (i : TxIn). signed_input i []) u.inputs f.0 among in
    let at : x.0.outpoint ≡ terms.funding = ap (λ (i : TxIn). i.outpoint) x.2 ∙ f.2 in
    any_holds (λ (b : Block). list_any (names terms.funding) b.transactions) blocks s.block (block_in blocks height u s)
    (any_holds (names terms.funding) s.block.transactions u s.within
    (any_holds (λ (i : TxIn). same_outpoint i.outpoint terms.funding) u.inputs x.0 x.1 (ap (λ (p : OutPoint). same_outpoint p terms.funding) at ∙ itself terms.funding)))

-- a transaction on the chain has the id
record HasId (blocks : List Block) (id : List ℕ) : Type 0 where
  height : ℕ
  transaction : Transaction
  stands : StandsAt blocks height transaction
  is : transaction_id transaction ≡ id

id_there : (blocks : List Block) (id : List ℕ) → has_id blocks id ≡ true → HasId blocks id
id_there blocks id e =
    let b = any_found (λ (x : Block). list_any (λ (t : Transaction). bytes_eq (transaction_id t) id) x.transactions) blocks e in
    let t = any_found (λ (t : Transaction). bytes_eq (transaction_id t) id) b.0.transactions b.2 in
    let h = at_reversed blocks b.0 b.1 in
    record { height = h.0; transaction = t.0; stands = record { block = b.0; there = h.1; within = t.1 }; is = same_bytes (transaction_id t.0) id t.2 }

-- ---- together

can_close : CommitmentsSpend → (hs : List Holding) (blocks : List Block) → IsWatched hs blocks → (h : Holding) → Contains hs h → (coin : Coin) → IsCoinAt blocks (funding_lock (terms_in h)) coin → coin.spent ≡ false
    → (k : CommitmentState) → slice_get h.state.mine h.state.number ≡ Some k → 0 < length (contents_of (terms_in h) k).outputs → CanClose blocks h
can_close spend hs blocks w h held coin at free k there some =
    record { commitment = signed (terms_in h) k; is = ap (option_map (signed (terms_in h))) there; passes = by (has_id blocks (transaction_id (signed (terms_in h) k))) refl }
  where
    by : (b : Bool) → has_id blocks (transaction_id (signed (terms_in h) k)) ≡ b → (transaction_refusal (empty_block ∷ blocks) (signed (terms_in h) k) ≡ None) ⊎ HasTwinOn blocks (signed (terms_in h) k)
    by false new =
        inl (all_pass spend h.state h.state.number k blocks there (own_payable h (kept_one hs w.kept h held) h.state.number k there).payable.view.whole
        (record { coin = coin; there = next_coin blocks (terms_in h).funding ∙ at.there; output_is = at.output; unspent = free }) new)
    by true old =
        let c = contents_of (terms_in h) k in
        let u = id_there blocks (transaction_id (signed (terms_in h) k)) old in
        let o = some_claim c some in
        let id : transaction_id u.transaction ≡ id_of c = u.is ∙ its_id (terms_in h) k in
        let limits = w.ledger.limits (output_lock o.0) (own_made hs h held h.state.number k there o.0 o.1) u.height u.transaction u.stands (id ∙ sym o.2) in
        let payable = (own_payable h (kept_one hs w.kept h held) h.state.number k there).payable in
        ⊎_elim {C = (transaction_refusal (empty_block ∷ blocks) (signed (terms_in h) k) ≡ None) ⊎ HasTwinOn blocks (signed (terms_in h) k)}
        (λ (e : unsigned_transaction (transaction_of c) ≡ unsigned_transaction u.transaction).
        absurd (false≢true (sym free ∙ spent_is blocks (terms_in h).funding coin at.there ∙ is_spent blocks (terms_in h) k u.height u.transaction u.stands e)))
        (λ (e : Collide sha256d (stripped_spelling (transaction_of c)) (stripped_spelling u.transaction)).
        inr (record {
          height = u.height;
          twin = u.transaction;
          stands = u.stands;
          collide = subst (λ (s : List ℕ). Collide sha256d s (stripped_spelling u.transaction)) (sym (same_spelling (terms_in h) k)) e;
        }))
        (one_unsigned_id (transaction_of c) u.transaction (unsigned_limits (transaction_of c) (recorded_limits (terms_in h) k payable (transaction_of c) (of_commitment refl))) limits (sym id))

some_at : {X : Type 0} (xs : List X) (k : ℕ) → k < length xs → (x : X) × (slice_get xs k ≡ Some x)
some_at [] k l = absurd (omega (arith, l))
some_at (x ∷ xs) zero l = (x, refl)
some_at (x ∷ xs) (suc k) l = some_at xs k (omega (arith, l))

pub newest_passes : CommitmentsSpend → NewestPasses
newest_passes spend hs blocks w h held coin at free =
    let count = (kept_one hs w.kept h held).numbered.mine.count in
    let k = some_at h.state.mine h.state.number (omega (arith, count)) in
    record { newest = k.0; recorded = k.1; closes = can_close spend hs blocks w h held coin at free k.0 k.1 }
