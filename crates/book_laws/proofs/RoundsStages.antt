-- The chain on which the node closed the channel of two rounds with its newest own commitment, and each HTLC transaction of it stands: HTLC-success of both that were offered to it, in the next block with the preimage, and
-- HTLC-timeout of its own, in the first block above the expiry.
use Rattle.std.proofs.Common.{◌≡◌, ◌≢◌, ℕ, ◌+◌, ◌≤◌, ◌<◌, true, false, List, [], ◌∷◌, map, replicate, get_or, length, Option, Some, None, option_map, unwrap_or, refl, sym, ap, ◌∙◌, arith, lit≤, lit<}
use Rattle.std.specs.Prelude.{nat_le, slice_get, option_and_then}
use Rattle.std.specs.List.{All}
use Rattle.std.specs.Option.{is_none}
use Rattle.std.specs.Str.{bytes_eq}
use Rattle.std.proofs.lemmas.Bool.{true≢false, false_from_ne_true}
use Rattle.std.proofs.lemmas.Slice.Eq.{bytes_eq-Decides}
use Rattle.std.proofs.lemmas.List.Sums.{sum_by-cons}
use Rattle.std.proofs.lemmas.List.Elements.{All-nil, All-cons}
use Rattle.sha2.specs.Sha256.{digest_bytes, hash_after, compress, rounds, schedule, first_words, sha256}
use Rattle.digest.specs.Hash.{hash160}
use Rattle.script.specs.Number.{digits, minimal_bytes_of}
use Rattle.tx.specs.declared.input.TxIn.{TxIn}
use Rattle.tx.specs.Fields.{Transaction}
use Rattle.tx.specs.Spelling.{number, compact_size, bytes_with_length, outpoint, input, output, body, stripped_spelling, transaction_id}
use Rattle.sighash.specs.Programs.{script_hash_program}
use Rattle.keys.specs.Derivation.{point_of, derived_key, revocation_key, seed_secret}
use Rattle.chain.specs.Blocks.{Contents as Block, Coin, grant_id, coin_at, height_of, has_id, value_at, paid_in, paid_out}
use Rattle.chain.specs.Checks.{input_refusal, transaction_refusal}
use Rattle.chain.specs.Checked.{have_passed, is_checked}
use Rattle.terms.specs.Scripts.{number_push}
use Rattle.terms.specs.declared.sides.Side.TheVariants.{A}
use Rattle.commit.specs.declared.outputs.HtlcOutput.{HtlcOutput}
use Rattle.commit.specs.Commitments.{commitment_of, spending, transaction_of, id_of, htlcs_from, htlcs_of, htlc_tx_output, htlc_tx_of, lock_time_of}
use Rattle.commit.specs.Keys.{keys_of}
use Rattle.commit.specs.Order.{output_cmp, in_order}
use Rattle.commit.specs.Outputs.{to_local_script, outputs_of}
use Rattle.channel.specs.Points.{secret_at, point_at}
use Rattle.publish.specs.Opening.{CommitmentsSpend, HtlcTxsSpend, output_of, outpoint_of}
use Rattle.publish.specs.Published.{branch_item, htlc_witness, signed_htlc_tx_with, signed_htlc_of}
use Rattle.safety.proofs.Lists.{both}
use Rattle.safety.proofs.Newest.{unrefused}
use Rattle.book_laws.proofs.RoundsExamples.{seed, their_bases, terms, hash, opens, received_3, same}
use Rattle.book_laws.proofs.RoundsChains.{closing, block, closed_by, differ, grant_begins, opens_begins, own, own_secret, own_secret_is, own_id, own_id_is, own_closing_id, own_begins, own_checked, unsigned_id}
use Rattle.book_laws.proofs.RoundsReleases.{c, ours, theirs, more, none_revokes_ours, none_revokes_theirs, none_revokes_more}

-- ---- the transactions

abbrev pub eights : List ℕ
eights = replicate 32 8

abbrev pub nines : List ℕ
nines = replicate 32 9

abbrev pub stage : HtlcOutput → List ℕ → Transaction
stage h item = signed_htlc_tx_with c h item

abbrev pub stage_input : HtlcOutput → List ℕ → TxIn
stage_input h item = record { outpoint = outpoint_of c h; sequence = 0; witness = htlc_witness c h item }

pub one_input : (h : HtlcOutput) (item : List ℕ) → (stage h item).inputs ≡ stage_input h item ∷ []
unfolding htlc_tx_of
one_input h item = refl

-- their ids, by the secret and the id of the commitment
abbrev stage_with : List ℕ → List ℕ → HtlcOutput → Transaction
stage_with secret id h = spending (record { txid = id; index = h.index }) 0 (htlc_tx_output (commitment_of terms own.view A 3 (point_of secret)) h ∷ []) (lock_time_of h.direction h.htlc)

stage_is : (h : HtlcOutput) → htlc_tx_of c h ≡ stage_with (secret_at seed 3) (id_of c) h
unfolding htlc_tx_of
stage_is h = refl

begins_by : map (λ h. get_or (transaction_id (stage_with own_secret own_id h)) 0 0) (theirs ∷ more ∷ ours ∷ []) ≡ 0x20 ∷ 0x2e ∷ 0x50 ∷ []
unfolding sha256 digest_bytes hash_after compress rounds schedule first_words digits minimal_bytes_of number compact_size bytes_with_length outpoint input output body stripped_spelling transaction_id script_hash_program point_of derived_key revocation_key seed_secret number_push keys_of to_local_script commitment_of
begins_by = refl

unsigned_input : (h : HtlcOutput) → (htlc_tx_of c h).inputs ≡ record { outpoint = outpoint_of c h; sequence = 0; witness = [] } ∷ []
unfolding htlc_tx_of
unsigned_input h = refl

begins : (h : HtlcOutput) (item : List ℕ) → get_or (transaction_id (stage h item)) 0 0 ≡ get_or (transaction_id (stage_with own_secret own_id h)) 0 0
begins h item =
    ap (λ (id : List ℕ). get_or id 0 0)
    (unsigned_id (htlc_tx_of c h) (htlc_witness c h item) (record { outpoint = outpoint_of c h; sequence = 0; witness = [] }) (unsigned_input h)
    ∙ ap (λ (t : Transaction). transaction_id t)
    (stage_is h ∙ ap (λ (s : List ℕ). stage_with s (id_of c) h) own_secret_is ∙ ap (λ (id : List ℕ). stage_with own_secret id h) own_id_is))

pub theirs_begins : get_or (transaction_id (stage theirs eights)) 0 0 ≡ 0x20
theirs_begins = begins theirs eights ∙ ap (λ (ns : List ℕ). get_or ns 0 0) begins_by

pub more_begins : get_or (transaction_id (stage more nines)) 0 0 ≡ 0x2e
more_begins = begins more nines ∙ ap (λ (ns : List ℕ). get_or ns 1 0) begins_by

pub ours_begins : get_or (transaction_id (stage ours [])) 0 0 ≡ 0x50
ours_begins = begins ours [] ∙ ap (λ (ns : List ℕ). get_or ns 2 0) begins_by

-- ---- the blocks

abbrev until_2 : List Block
until_2 = closed_by own

abbrev until_3 : List Block
until_3 = block (stage more nines ∷ stage theirs eights ∷ []) ∷ until_2

abbrev pub until_4 : List Block
until_4 = block (stage ours [] ∷ []) ∷ until_3

own_id_begins : get_or (id_of c) 0 0 ≡ 0x11
own_id_begins = ap (λ (id : List ℕ). get_or id 0 0) (sym own_closing_id) ∙ own_begins

pub grant_no_own : bytes_eq (grant_id 0) (id_of c) ≡ false
grant_no_own = differ (grant_id 0) (id_of c) 0x0f 0x11 grant_begins own_id_begins (λ e. omega (arith, e))

pub opens_no_own : bytes_eq (transaction_id opens) (id_of c) ≡ false
opens_no_own = differ (transaction_id opens) (id_of c) 0x2c 0x11 opens_begins own_id_begins (λ e. omega (arith, e))

pub own_no_opens : bytes_eq (id_of c) (transaction_id opens) ≡ false
own_no_opens = differ (id_of c) (transaction_id opens) 0x11 0x2c own_id_begins opens_begins (λ e. omega (arith, e))

own_is_own : bytes_eq (transaction_id (closing own)) (id_of c) ≡ true
own_is_own = ap (λ (id : List ℕ). bytes_eq id (id_of c)) own_closing_id ∙ same (id_of c)

-- an output of the commitment is there until its HTLC transaction takes it
abbrev coin_of : HtlcOutput → Coin
coin_of h = record { output = output_of c h; height = 2; spent = false }

theirs_coin : coin_at (block [] ∷ until_2) (outpoint_of c theirs) ≡ Some (coin_of theirs)
unfolding transaction_of commitment_of outputs_of in_order output_cmp
theirs_coin = rw (grant_no_own, opens_no_own, own_is_own) refl

more_coin : coin_at (block (stage theirs eights ∷ []) ∷ until_2) (outpoint_of c more) ≡ Some (coin_of more)
unfolding transaction_of commitment_of outputs_of in_order output_cmp htlc_tx_of
more_coin = rw (grant_no_own, opens_no_own, own_is_own, same (id_of c)) refl

ours_coin : coin_at (block [] ∷ until_3) (outpoint_of c ours) ≡ Some (coin_of ours)
unfolding transaction_of commitment_of outputs_of in_order output_cmp htlc_tx_of
ours_coin = rw (grant_no_own, opens_no_own, own_is_own, same (id_of c)) refl

-- each id is new
new_to : (id : List ℕ) (n : ℕ) → get_or id 0 0 ≡ n → n ≢ 0x2c → n ≢ 0x11 → has_id (block [] ∷ until_2) id ≡ false
new_to id n e apart_from_opens apart_from_own =
    rw (differ (transaction_id (closing own)) id 0x11 n own_begins e (λ f. apart_from_own (sym f)), differ (transaction_id opens) id 0x2c n opens_begins e (λ f. apart_from_opens (sym f))) refl

theirs_new : has_id (block [] ∷ until_2) (transaction_id (stage theirs eights)) ≡ false
theirs_new = new_to (transaction_id (stage theirs eights)) 0x20 theirs_begins (λ e. omega (arith, e)) (λ e. omega (arith, e))

more_new : has_id (block (stage theirs eights ∷ []) ∷ until_2) (transaction_id (stage more nines)) ≡ false
more_new =
    rw (
      differ (transaction_id (stage theirs eights)) (transaction_id (stage more nines)) 0x20 0x2e theirs_begins more_begins (λ e. omega (arith, e)),
      differ (transaction_id (closing own)) (transaction_id (stage more nines)) 0x11 0x2e own_begins more_begins (λ e. omega (arith, e)),
      differ (transaction_id opens) (transaction_id (stage more nines)) 0x2c 0x2e opens_begins more_begins (λ e. omega (arith, e)),
    ) refl

ours_new : has_id (block [] ∷ until_3) (transaction_id (stage ours [])) ≡ false
ours_new =
    rw (
      differ (transaction_id (stage more nines)) (transaction_id (stage ours [])) 0x2e 0x50 more_begins ours_begins (λ e. omega (arith, e)),
      differ (transaction_id (stage theirs eights)) (transaction_id (stage ours [])) 0x20 0x50 theirs_begins ours_begins (λ e. omega (arith, e)),
      differ (transaction_id (closing own)) (transaction_id (stage ours [])) 0x11 0x50 own_begins ours_begins (λ e. omega (arith, e)),
      differ (transaction_id opens) (transaction_id (stage ours [])) 0x2c 0x50 opens_begins ours_begins (λ e. omega (arith, e)),
    ) refl

-- ---- each passes

paid_by : (blocks : List Block) (i : TxIn) (coin : Coin) → coin_at blocks i.outpoint ≡ Some coin → paid_in blocks (i ∷ []) ≡ coin.output.value
paid_by blocks i coin there =
    let v : value_at blocks i.outpoint ≡ coin.output.value = ap (λ (o : Option Coin). unwrap_or (option_map (λ (x : Coin). x.output.value) o) 0) there in
    sum_by-cons (λ (x : TxIn). value_at blocks x.outpoint) i [] ∙ ap (λ (n : ℕ). n + 0) v ∙ omega arith

abbrev PaysLess : HtlcOutput → Type 0
PaysLess h = nat_le (paid_out (htlc_tx_output c h ∷ [])) (output_of c h).value ≡ true

-- the k-th HTLC, by the item that its branch takes
module _ (spend : HtlcTxsSpend) (h : HtlcOutput) (item : List ℕ) (k : ℕ) (preimages : List (List ℕ)) (long : All (λ (p : List ℕ). length p ≡ 32) preimages) (kth : slice_get (htlcs_of c) k ≡ Some h)
    (branch : branch_item preimages h.direction h.htlc ≡ Some item) (apart : bytes_eq (hash160 item) (hash160 c.keys.revocation) ≡ false) (early : h.htlc.expiry_height < 500000000)
    (blocks : List Block) (there : coin_at blocks (outpoint_of c h) ≡ Some (coin_of h)) (new : has_id blocks (transaction_id (stage h item)) ≡ false)
    (after : 2 ≤ height_of blocks) (reached : lock_time_of h.direction h.htlc < height_of blocks) (less : PaysLess h) where
  signed_is : signed_htlc_of c k preimages ≡ Some (stage h item)
  signed_is = ap (option_and_then (λ (x : HtlcOutput). option_map (signed_htlc_tx_with c x) (branch_item preimages x.direction x.htlc))) kth ∙ ap (option_map (signed_htlc_tx_with c h)) branch

  input_passes : input_refusal blocks (height_of blocks) (stage h item) (stage_input h item) ≡ None
  unfolding htlc_tx_of
  input_passes =
      spend received_3 3 k preimages c h item (stage h item) blocks (height_of blocks) (record { state = own; recorded = refl; contents = refl; kth = kth; branch = branch; tx = signed_is }) long early apart
      (record { coin = coin_of h; there = there; output_is = refl; unspent = refl }) after reached

  pub stage_passes : transaction_refusal blocks (stage h item) ≡ None
  unfolding htlc_tx_of
  stage_passes =
      unrefused blocks 2 (lock_time_of h.direction h.htlc) (stage_input h item) (htlc_tx_output c h ∷ []) new input_passes
      (ap (nat_le (paid_out (htlc_tx_output c h ∷ []))) (paid_by blocks (stage_input h item) (coin_of h) there) ∙ less)

kth_are : (slice_get (htlcs_of c) 0 ≡ Some more) × (slice_get (htlcs_of c) 1 ≡ Some ours) × (slice_get (htlcs_of c) 2 ≡ Some theirs)
unfolding htlcs_from commitment_of outputs_of in_order output_cmp
kth_are = (refl, refl, refl)

turned : (xs ys : List ℕ) → bytes_eq xs ys ≡ false → bytes_eq ys xs ≡ false
turned xs ys e = false_from_ne_true (bytes_eq ys xs) (λ t. true≢false (sym ((bytes_eq-Decides xs ys).1 (sym ((bytes_eq-Decides ys xs).0 t))) ∙ e))

apart_by : (item : List ℕ) → bytes_eq (hash160 (revocation_key their_bases.revocation.bytes (point_at seed 3).bytes)) (hash160 item) ≡ false → bytes_eq (hash160 item) (hash160 c.keys.revocation) ≡ false
unfolding commitment_of keys_of
apart_by item e = turned (hash160 (revocation_key their_bases.revocation.bytes (point_at seed 3).bytes)) (hash160 item) e

less_are : PaysLess theirs × PaysLess more × PaysLess ours
unfolding commitment_of
less_are = (refl, refl, refl)

theirs_passes : HtlcTxsSpend → transaction_refusal (block [] ∷ until_2) (stage theirs eights) ≡ None
theirs_passes spend =
    stage_passes spend theirs eights 2 (eights ∷ []) (All-cons (λ (p : List ℕ). length p ≡ 32) eights [] refl (All-nil (λ (p : List ℕ). length p ≡ 32))) kth_are.2 (rw (same (hash 8)) refl) (apart_by eights none_revokes_theirs) (lit< tt)
    (block [] ∷ until_2) theirs_coin theirs_new (lit≤ tt) (lit< tt) less_are.0

more_passes : HtlcTxsSpend → transaction_refusal (block (stage theirs eights ∷ []) ∷ until_2) (stage more nines) ≡ None
more_passes spend =
    stage_passes spend more nines 0 (nines ∷ []) (All-cons (λ (p : List ℕ). length p ≡ 32) nines [] refl (All-nil (λ (p : List ℕ). length p ≡ 32))) kth_are.0 (rw (same (hash 9)) refl) (apart_by nines none_revokes_more) (lit< tt)
    (block (stage theirs eights ∷ []) ∷ until_2) more_coin more_new (lit≤ tt) (lit< tt) less_are.1

ours_passes : HtlcTxsSpend → transaction_refusal (block [] ∷ until_3) (stage ours []) ≡ None
ours_passes spend =
    stage_passes spend ours [] 1 [] (All-nil (λ (p : List ℕ). length p ≡ 32)) kth_are.1 refl (apart_by [] none_revokes_ours) (lit< tt) (block [] ∷ until_3) ours_coin ours_new (lit≤ tt) (lit< tt) less_are.2

next_one : (older : List Block) (ts : List Transaction) (t : Transaction) → transaction_refusal (block ts ∷ older) t ≡ None → have_passed older ts ≡ true → have_passed older (t ∷ ts) ≡ true
next_one older ts t e = both (is_none (transaction_refusal (block ts ∷ older) t)) (have_passed older ts) (ap is_none e)

pub stages_checked : CommitmentsSpend → HtlcTxsSpend → is_checked until_4 ≡ true
stages_checked commits spend =
    both (have_passed until_3 (stage ours [] ∷ [])) (is_checked until_3) (next_one until_3 [] (stage ours []) (ours_passes spend) refl)
    (both (have_passed until_2 (stage more nines ∷ stage theirs eights ∷ [])) (is_checked until_2)
    (next_one until_2 (stage theirs eights ∷ []) (stage more nines) (more_passes spend) (next_one until_2 [] (stage theirs eights) (theirs_passes spend) refl)) (own_checked commits))
