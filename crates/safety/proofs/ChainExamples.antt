-- A chain for which the premises of the law on the whole channel hold. The block of height 0 grants the funding output, that of height 1 has the revoked commitment, and that of height 6
-- the HTLC-timeout transaction.
use Rattle.std.proofs.Common.{◌≡◌, ℕ, zero, suc, ◌+◌, ◌*◌, ◌/◌, ◌%◌, ◌^◌, ◌<◌, Bool, true, false, inl, inr, List, [], ◌∷◌, map, length, Some, None, sym, ap, ◌∙◌, refl, subst, ⊎_elim, arith, lit<, eq-eqb}
use Rattle.std.specs.Prelude.{◌⊎◌, nat_le, bit_xor}
use Rattle.std.specs.List.{Contains, Any, All, AllByRecursion}
use Rattle.std.specs.Str.{bytes_eq}
use Rattle.std.proofs.lemmas.Bool.{le-leb, le-ltb, false≢true}
use Rattle.std.proofs.lemmas.List.{length-map}
use Rattle.std.proofs.lemmas.List.Elements.{All-nil, All-head, All-tail, Contains-append_left, Contains-append_right}
use Rattle.std.proofs.lemmas.Slice.Eq.{bytes_eq-Decides}
use Rattle.sha2.proofs.Facts256.{length-sha256}
use Rattle.script.specs.declared.opcode.Op.TheVariants.{Number}
use Rattle.script.specs.Step.{effect}
use Rattle.script.specs.Token.{token_of}
use Rattle.script.specs.Run.{Clean, state_after, outcome}
use Rattle.tx.specs.declared.input.OutPoint.{OutPoint}
use Rattle.tx.specs.declared.input.TxIn.{TxIn}
use Rattle.tx.specs.Parts.{Output, IsOutput}
use Rattle.tx.specs.Fields.{Transaction, KeepsLimits, unsigned_transaction}
use Rattle.tx.specs.Spelling.{transaction_id}
use Rattle.tx.proofs.Witnesses.{same_id}
use Rattle.sighash.specs.Programs.{single_op, script_ops, spend_of, script_hash_program}
use Rattle.claim.proofs.TokenForms.{token-length}
use Rattle.chain.specs.Blocks.{Contents as Block, grant_id, grant_outpoint, coin_at, height_of, has_id, transactions_of, paid_in, paid_out}
use Rattle.chain.specs.Locks.{is_final, is_old_enough}
use Rattle.chain.specs.Checks.{coin_refusal, input_refusal, transaction_refusal}
use Rattle.chain.specs.Checked.{have_passed, is_checked}
use Rattle.terms.specs.Numbers.{mask_of}
use Rattle.commit.specs.declared.outputs.CommitmentOutput.{CommitmentOutput}
use Rattle.commit.specs.declared.outputs.HtlcOutput.{HtlcOutput}
use Rattle.commit.specs.Keys.{KeyBytes, keys_of}
use Rattle.commit.specs.Order.{output_cmp, in_order}
use Rattle.commit.specs.Outputs.{outputs_of}
use Rattle.commit.specs.Commitments.{Contents, commitment_of, tx_output, transaction_of, id_of, htlcs_from, htlc_tx_of, htlc_tx_output, IsOutputOf}
use Rattle.penalty.specs.declared.states.RevokedState.{RevokedState}
use Rattle.penalty.specs.Claimable.{Claimable, claims_by, commitment_in, claimable_of}
use Rattle.penalty.specs.Worth.{staged, value_of, fees_with}
use Rattle.safety.specs.Signing.{IsSignable, digest_of}
use Rattle.safety.specs.Spending.{spend_on, IsSignedBy}
use Rattle.safety.specs.Standing.{StandsAt}
use Rattle.safety.specs.Fates.{signed_by_peer}
use Rattle.safety.specs.Whereabouts.{HasCommitment, ShowsOnlyOn, AreAllThere}
use Rattle.safety.proofs.Slots.{contains_cases}
use Rattle.safety.proofs.Lists.{contains_none, both}
use Rattle.safety.proofs.Limits.{limited, few_in}
use Rattle.safety.proofs.Standing.{block_in}
use Rattle.safety.proofs.Fates.{bare_second}
use Rattle.safety.proofs.Seconds.{bare_commitment}
use Rattle.safety.proofs.Newest.{unrefused}
use Rattle.safety.proofs.Whereabouts.{nothing_is_lost}
use Rattle.safety.proofs.Examples.{same_eq, shown, passes, state, on_htlc, coin_of, offer, timeout, timed_out, timeout_takes, timeout_shows, timeout_signed, second_is, offer_among}

-- ---- limits

each_output : (k : KeyBytes) (os : List CommitmentOutput) → All (λ o. IsOutputOf k o) os → AllByRecursion IsOutput (map tx_output os)
each_output k [] a = tt
each_output k (o ∷ os) a =
    let first = (All-head (λ o. IsOutputOf k o) o os a).limits in
    (record { value = first.value; script = first.program }, each_output k os (All-tail (λ o. IsOutputOf k o) o os a))

hidden_final : (height x : ℕ) (inputs : List TxIn) → is_final height (0x20 * 2 ^ 24 + x % 2 ^ 24) inputs ≡ true
hidden_final height x inputs =
    let l = 0x20 * 2 ^ 24 + x % 2 ^ 24 in
    let time = le-ltb l 500000000 (omega arith) in
    let above = le-leb 500000000 l (omega arith) in
    let below = le-leb l 0x20ffffff (omega arith) in
    rw (time, above, below) refl

hidden_old : (height x coin : ℕ) → is_old_enough height 2 (0x80 * 2 ^ 24 + x % 2 ^ 24) coin ≡ true
hidden_old height x coin = rw (eq-eqb ((0x80 * 2 ^ 24 + x % 2 ^ 24) / 2 ^ 31 % 2) 1 (omega arith)) refl

-- ---- bytes and lists

other_way : (a b : List ℕ) → bytes_eq a b ≡ false → bytes_eq b a ≡ false
other_way a b e = by (bytes_eq b a) refl
  where
    by : (r : Bool) → bytes_eq b a ≡ r → bytes_eq b a ≡ false
    by false f = f
    by true f = absurd (false≢true (sym e ∙ (bytes_eq-Decides a b).1 (sym ((bytes_eq-Decides b a).0 f))))

in_all : (blocks : List Block) (b : Block) (t : Transaction) → Contains blocks b → Contains b.transactions t → Contains (transactions_of blocks) t
in_all [] b t i j = absurd (contains_none b i)
in_all (x ∷ xs) b t i j =
    ⊎_elim {C = Contains (transactions_of (x ∷ xs)) t}
    (λ (e : x ≡ b). Contains-append_left x.transactions (transactions_of xs) t (subst (λ (y : Block). Contains y.transactions t) (sym e) j))
    (λ (k : Contains xs b). Contains-append_right x.transactions (transactions_of xs) t (in_all xs b t k j)) (contains_cases x xs b i)

-- the item 51 is no token
none_signed : (key digest : List ℕ) → length digest ≡ 32 → Contains ((0x51 ∷ []) ∷ []) (token_of key digest) → ⊥
none_signed key digest d (zero, l, e) = omega (arith, ap length e, token-length key digest d)
none_signed key digest d (suc m, l, e) = omega (arith, l)

-- ---- the chain

module _ (hash : List ℕ) where
  abbrev revoked : RevokedState
  revoked = state (grant_outpoint 0) hash

  abbrev c : Contents
  c = commitment_in revoked

  -- the script 51, on which whatever has it runs clean
  abbrev anyone : List ℕ
  anyone = 0x51 ∷ []

  abbrev input : TxIn
  input = record { outpoint = grant_outpoint 0; sequence = c.hidden.sequence; witness = anyone ∷ [] }

  abbrev signed : Transaction
  signed = record { version = 2; inputs = input ∷ []; outputs = map tx_output c.outputs; lock_time = c.hidden.lock_time }

  abbrev funding : Output
  funding = record { value = 100000; script = script_hash_program anyone }

  abbrev granting : Block
  granting = record { transactions = []; granted = funding ∷ [] }

  abbrev closing : Block
  closing = record { transactions = signed ∷ []; granted = [] }

  -- what stands before the commitment
  abbrev behind : List Block
  behind = record { transactions = []; granted = [] } ∷ granting ∷ []

  coin_is : coin_at behind (grant_outpoint 0) ≡ Some (record { output = funding; height = 0; spent = false })
  coin_is = rw (same_eq (grant_id 0)) refl

  parsed : script_ops anyone ≡ Some (Number 1 ∷ [])
  unfolding script_ops single_op
  parsed = refl

  ends_clean : outcome (spend_of signed input anyone 100000) (Number 1 ∷ []) [] ≡ Clean 0 1
  unfolding state_after effect
  ends_clean = refl

  final : is_final 1 c.hidden.lock_time (input ∷ []) ≡ true
  unfolding commitment_of
  final = hidden_final 1 (bit_xor 1 (mask_of revoked.terms)) (input ∷ [])

  old : is_old_enough 1 2 c.hidden.sequence 0 ≡ true
  unfolding commitment_of
  old = hidden_old 1 (bit_xor 1 (mask_of revoked.terms) / 2 ^ 24) 0

  spends : input_refusal behind 1 signed input ≡ None
  spends =
      ap (coin_refusal 1 signed input) coin_is
      ∙ passes 1 signed input (record { output = funding; height = 0; spent = false }) 0 1 refl final old (shown signed input 100000 (Number 1 ∷ []) [] (Clean 0 1) parsed refl ends_clean)

  -- 10,000 + 20,000 + 69,104 of 100,000 satoshis
  paid : paid_out (map tx_output c.outputs) ≡ 99104
  unfolding commitment_of outputs_of in_order output_cmp
  paid = refl

  covered : nat_le (paid_out (map tx_output c.outputs)) (paid_in behind (input ∷ [])) ≡ true
  covered = ap (λ n. nat_le n (paid_in behind (input ∷ []))) paid ∙ rw (same_eq (grant_id 0)) refl

  checked : is_checked (closing ∷ granting ∷ []) ≡ true
  checked = rw (unrefused behind 2 c.hidden.lock_time input (map tx_output c.outputs) refl spends covered) refl

  id_is : length (grant_id 0) ≡ 32
  unfolding grant_id
  id_is = length-sha256 _

  low_lock : c.hidden.lock_time < 2 ^ 32
  unfolding commitment_of
  low_lock = omega arith

  low_sequence : c.hidden.sequence < 2 ^ 32
  unfolding commitment_of
  low_sequence = omega arith

  keeps : KeepsLimits signed
  keeps = record {
    version = omega arith;
    some_input = omega arith;
    inputs = record {
      count = omega arith;
      each = (record { txid = id_is; index = omega arith; sequence = low_sequence; witness = record { count = omega arith; each = (omega arith, tt) } }, tt);
    };
    outputs = record { count = omega (arith, few_in revoked, length-map c.outputs tx_output); each = each_output c.keys c.outputs (limited revoked) };
    lock_time = low_lock;
  }

  same : unsigned_transaction signed ≡ transaction_of c
  unfolding transaction_of commitment_of
  same = refl

  signed_id : transaction_id signed ≡ id_of c
  signed_id = same_id signed (transaction_of c) (same ∙ sym (bare_commitment c))

  -- the HTLC-timeout transaction, and the blocks below it
  abbrev expiring : TxIn
  expiring = timed_out (grant_outpoint 0) hash

  abbrev expired : Transaction
  expired = timeout (grant_outpoint 0) hash expiring

  abbrev offered : HtlcOutput
  offered = offer (grant_outpoint 0) hash

  abbrev empty : Block
  empty = record { transactions = []; granted = [] }

  abbrev below : List Block
  below = empty ∷ empty ∷ empty ∷ empty ∷ closing ∷ granting ∷ []

  abbrev blocks : List Block
  blocks = record { transactions = expired ∷ []; granted = [] } ∷ below

  expired_id : transaction_id expired ≡ transaction_id (htlc_tx_of c offered)
  expired_id = same_id expired (htlc_tx_of c offered) (sym (second_is (grant_outpoint 0) hash) ∙ sym (bare_second c offered))

  -- where its ids and that of the grant differ
  module _ (apart : bytes_eq (transaction_id signed) (grant_id 0) ≡ false) (far : bytes_eq (transaction_id expired) (grant_id 0) ≡ false) (fresh : bytes_eq (transaction_id signed) (transaction_id expired) ≡ false) where
    grant_other : bytes_eq (grant_id 0) (id_of c) ≡ false
    grant_other = other_way (id_of c) (grant_id 0) (ap (λ i. bytes_eq i (grant_id 0)) (sym signed_id) ∙ apart)

    htlc_coin : coin_at (empty ∷ below) (record { txid = id_of c; index = 0 }) ≡ Some (coin_of (grant_outpoint 0) hash (on_htlc (grant_outpoint 0) hash))
    unfolding commitment_of outputs_of in_order output_cmp
    htlc_coin = rw (grant_other, signed_id, same_eq (id_of c)) refl

    expired_spends : input_refusal (empty ∷ below) 6 expired expiring ≡ None
    expired_spends = ap (coin_refusal 6 expired expiring) htlc_coin ∙ (timeout_takes (grant_outpoint 0) hash).passes

    expired_covered : nat_le (paid_out (htlc_tx_output c offered ∷ [])) (paid_in (empty ∷ below) (expiring ∷ [])) ≡ true
    unfolding commitment_of
    expired_covered = rw htlc_coin refl

    all_checked : is_checked blocks ≡ true
    all_checked =
        both (have_passed below (expired ∷ [])) (is_checked below)
        (rw (unrefused (empty ∷ below) 2 5 expiring (htlc_tx_output c offered ∷ []) (rw fresh refl) expired_spends expired_covered) refl) checked

    only : (height : ℕ) (t : Transaction) → StandsAt blocks height t → (expired ≡ t) ⊎ (signed ≡ t)
    only height t s =
        let i : Contains (expired ∷ signed ∷ []) t = in_all blocks s.block t (block_in blocks height t s) s.within in
        ⊎_elim (λ (e : expired ≡ t). inl e)
        (λ (d : Contains (signed ∷ []) t). ⊎_elim (λ (e : signed ≡ t). inr e) (λ (f : Contains [] t). absurd (contains_none t f)) (contains_cases signed [] t d))
        (contains_cases expired (signed ∷ []) t i)

    first_grant : (g : ℕ) → g < 1 → has_id blocks (grant_id g) ≡ false
    first_grant zero l = rw (far, apart) refl
    first_grant (suc g) l = absurd (omega (arith, l))

    chain : HasCommitment blocks revoked
    chain = record {
      checked = all_checked;
      limits = λ height t s. ⊎_elim (λ (e : expired ≡ t). subst KeepsLimits e (timeout_signed (grant_outpoint 0) hash).limits) (λ (e : signed ≡ t). subst KeepsLimits e keeps) (only height t s);
      grants = record { among_grants = λ g h l m. absurd (omega (arith, l, m)); from_transactions = first_grant };
      commitment = record { height = 1; signed = signed; stands = record { block = closing; there = refl; within = (0, lit< tt, refl) }; same = same };
    }

    -- at the outpoint that HTLC-timeout names stands the HTLC's output alone
    at_htlc : (o : Claimable) → Contains (claimable_of revoked) o → record { txid = id_of c; index = 0 } ≡ o.place.outpoint → on_htlc (grant_outpoint 0) hash ≡ o
    unfolding claimable_of claims_by commitment_of outputs_of in_order output_cmp keys_of
    at_htlc o (zero, l, e) at = e
    at_htlc o (suc zero, l, e) at =
        let f : id_of c ≡ transaction_id (htlc_tx_of c offered) = ap (λ (p : OutPoint). p.txid) (at ∙ sym (ap (λ (x : Claimable). x.place.outpoint) e)) in
        absurd (false≢true (sym fresh ∙ (bytes_eq-Decides (transaction_id signed) (transaction_id expired)).1 (signed_id ∙ f ∙ sym expired_id)))
    at_htlc o (suc (suc zero), l, e) at = let f : 0 ≡ 1 = ap (λ (p : OutPoint). p.index) (at ∙ sym (ap (λ (x : Claimable). x.place.outpoint) e)) in absurd (omega (arith, f))
    at_htlc o (suc (suc (suc zero)), l, e) at = let f : 0 ≡ 2 = ap (λ (p : OutPoint). p.index) (at ∙ sym (ap (λ (x : Claimable). x.place.outpoint) e)) in absurd (omega (arith, f))
    at_htlc o (suc (suc (suc (suc n))), l, e) at = absurd (omega (arith, l))

    abbrev Shows : List ℕ → Claimable → Transaction → TxIn → Type 0
    Shows key o t x = IsSignedBy key (spend_on o t x) → Any (λ z. digest_of (spend_on o t x) ≡ digest_of z) (signed_by_peer c [])

    -- HTLC-timeout has the token that the peer gave for it, and the commitment's witness has none
    shows : ShowsOnlyOn blocks revoked []
    shows o i height t x n key k s = ⊎_elim by_timeout by_commitment (only height t n.stands)
      where
        alone : (z y : TxIn) → Contains (z ∷ []) y → z ≡ y
        alone z y d = ⊎_elim (λ (e : z ≡ y). e) (λ (f : Contains [] y). absurd (contains_none y f)) (contains_cases z [] y d)

        by_timeout : expired ≡ t → Any (λ z. digest_of (spend_on o t x) ≡ digest_of z) (signed_by_peer c [])
        by_timeout e =
            let is : expiring ≡ x = alone expiring x (subst (λ (u : Transaction). Contains u.inputs x) (sym e) n.within) in
            let own : on_htlc (grant_outpoint 0) hash ≡ o = at_htlc o i (ap (λ (y : TxIn). y.outpoint) is ∙ n.names) in
            subst (λ (y : Claimable). Shows key y t x) own
            (subst (λ (u : Transaction). Shows key (on_htlc (grant_outpoint 0) hash) u x) e
            (subst (λ (y : TxIn). Shows key (on_htlc (grant_outpoint 0) hash) expired y) is (timeout_shows (grant_outpoint 0) hash key k))) s

        by_commitment : signed ≡ t → Any (λ z. digest_of (spend_on o t x) ≡ digest_of z) (signed_by_peer c [])
        by_commitment e =
            let is : input ≡ x = alone input x (subst (λ (u : Transaction). Contains u.inputs x) (sym e) n.within) in
            absurd (none_signed key (digest_of (spend_on o t x)) (length-sha256 _) (subst (λ (y : TxIn). Contains y.witness (token_of key (digest_of (spend_on o t x)))) (sym is) s))

    -- the whole channel is there: 9,337 + 20,000 + 69,104 satoshis, and 663 were the fee of HTLC-timeout
    all_there : AreAllThere blocks revoked []
    all_there = nothing_is_lost revoked blocks chain [] (All-nil IsSignable) shows

    it_stands : all_there.stands 0 ≡ true
    it_stands =
        (all_there.those offered (offer_among (grant_outpoint 0) hash)).1
        (record { height = 6; signed = expired; stands = record { block = record { transactions = expired ∷ []; granted = [] }; there = refl; within = (0, lit< tt, refl) }; same = sym (second_is (grant_outpoint 0) hash) })

    values : (value_of (staged all_there.stands c) ≡ 98441) × (fees_with all_there.stands c ≡ 663)
    unfolding claims_by htlcs_from commitment_of outputs_of in_order output_cmp
    values = (rw it_stands refl, rw it_stands refl)
