-- Chains on which the channel of two rounds stands: unclosed, and closed by a commitment that the peer revoked, by its newest, by the one after it, and by the node's own newest. On each the premises of the law of balances hold.
use Rattle.std.proofs.Common.{◌≡◌, ◌≢◌, ℕ, true, false, List, [], ◌∷◌, map, get_or, Some, None, refl, ap, ◌∙◌, sym, arith, length, lit≤, lit<}
use Rattle.std.specs.Prelude.{nat_le}
use Rattle.std.specs.Str.{bytes_eq}
use Rattle.std.proofs.lemmas.Bool.{false_from_ne_true}
use Rattle.std.proofs.lemmas.Slice.Eq.{bytes_eq-Decides}
use Rattle.sha2.specs.Sha256.{sha256, digest_bytes, hash_after, compress, rounds, schedule, first_words}
use Rattle.digest.specs.Ripemd160.{left_words, right_words, left_rotations, right_rotations, left_constants, right_constants, block_words, left_line, right_line, blocks, ripemd160, compress as ripemd_compress, hash_after as ripemd_hash_after, digest_bytes as ripemd_digest_bytes}
use Rattle.script.specs.Number.{number_of, digits, minimal_bytes_of}
use Rattle.script.specs.Token.{token_of, is_key, is_token, is_signature}
use Rattle.script.specs.Step.{lock_passes, age_passes, multi_sig, effect}
use Rattle.script.specs.Run.{state_after}
use Rattle.tx.specs.declared.input.TxIn.{TxIn}
use Rattle.tx.specs.Parts.{Output, IsOutput, IsBounded}
use Rattle.tx.specs.Fields.{Transaction}
use Rattle.tx.specs.Spelling.{number, compact_size, bytes_with_length, outpoint, input, output, body, stripped_spelling, transaction_id}
use Rattle.sighash.specs.Programs.{single_op, script_ops, key_hash_program, script_hash_program, given_of, run_of}
use Rattle.keys.specs.Derivation.{point_of, derived_key, revocation_key, seed_secret}
use Rattle.chain.specs.Blocks.{Contents as Block, grant_id, grant_outpoint, coin_at, height_of, paid_out, paid_in}
use Rattle.chain.specs.Checks.{coin_refusal, input_refusal, transaction_refusal}
use Rattle.chain.specs.Checked.{is_checked}
use Rattle.terms.specs.Numbers.{mask_of}
use Rattle.terms.specs.Scripts.{number_push}
use Rattle.commit.specs.Commitments.{Contents, commitment_of, tx_output, transaction_of, id_of}
use Rattle.commit.specs.Keys.{keys_of}
use Rattle.commit.specs.Order.{output_cmp, in_order}
use Rattle.commit.specs.Outputs.{to_local_script, to_remote_script, htlc_script, outputs_of}
use Rattle.commit.specs.Signing.{funding_script}
use Rattle.safety.specs.Recorded.{IsPayable, of_commitment, RecordedLimits}
use Rattle.claim.proofs.TokenForms.{token-length, key-length}
use Rattle.keys.specs.declared.compressed.Key.{Key}
use Rattle.commit.specs.Signing.{commitment_digest}
use Rattle.tx.specs.Fields.{KeepsLimits}
use Rattle.sha2.proofs.Facts256.{length-sha256}
use Rattle.channel.specs.declared.commitments.CommitmentState.{CommitmentState}
use Rattle.channel.specs.Points.{index_of, secret_at, point_at}
use Rattle.secrets.specs.Derivation.{flipped, derived_secret}
use Rattle.terms.specs.declared.sides.Side.TheVariants.{A}
use Rattle.tx.specs.Fields.{transaction_with_witness}
use Rattle.channel.specs.States.{own_next, State, peers_next}
use Rattle.channel.specs.Tokens.{contents_of}
use Rattle.publish.specs.Opening.{CommitmentsSpend}
use Rattle.publish.specs.Published.{funding_witness, signed_transaction}
use Rattle.safety.proofs.Handed.{commitment_signable}
use Rattle.safety.proofs.Newest.{unrefused}
use Rattle.script.specs.Spelling.{spelling}
use Rattle.terms.specs.Scripts.{funding}
use Rattle.book_laws.proofs.RoundsExamples.{seed, signed_3, bases, their_bases, opens_input, opens, funding_out, terms, offered, revoked_0, offered_more, received_3, same}

-- ---- the transactions and their blocks

abbrev pub closing : CommitmentState → Transaction
closing k = signed_transaction terms (contents_of terms k)

abbrev pub block : List Transaction → Block
block ts = record { transactions = ts; granted = [] }

-- 200,000 satoshis are granted to the script OP_1, by the hash of its byte
abbrev pub granted : Output
granted = record { value = 200000; script = 0x00 ∷ 0x20 ∷ 0x4a ∷ 0xe8 ∷ 0x15 ∷ 0x72 ∷ 0xf0 ∷ 0x6e ∷ 0x1b ∷ 0x88 ∷ 0xfd ∷ 0x5c ∷ 0xed ∷ 0x7a ∷ 0x1a ∷ 0x00 ∷ 0x09 ∷ 0x45 ∷ 0x43 ∷ 0x2e ∷ 0x83 ∷ 0xe1 ∷ 0x55 ∷ 0x1e ∷ 0x6f ∷ 0x72 ∷ 0x1e ∷ 0xe9 ∷ 0xc0 ∷ 0x0b ∷ 0x8c ∷ 0xc3 ∷ 0x32 ∷ 0x60 ∷ [] }

abbrev pub until_0 : List Block
until_0 = record { transactions = []; granted = granted ∷ [] } ∷ []

abbrev pub until_1 : List Block
until_1 = block (opens ∷ []) ∷ until_0

abbrev pub closed_by : CommitmentState → List Block
closed_by k = block (closing k ∷ []) ∷ until_1

-- ---- the ids differ, by their first bytes

pub differ : (xs ys : List ℕ) (m n : ℕ) → get_or xs 0 0 ≡ m → get_or ys 0 0 ≡ n → m ≢ n → bytes_eq xs ys ≡ false
differ xs ys m n e f other = false_from_ne_true (bytes_eq xs ys) (λ t. other (sym e ∙ ap (λ bs. get_or bs 0 0) ((bytes_eq-Decides xs ys).0 t) ∙ f))

pub grant_begins : get_or (grant_id 0) 0 0 ≡ 0x0f
unfolding sha256 digest_bytes hash_after compress rounds schedule first_words number grant_id
grant_begins = refl

pub opens_begins : get_or (transaction_id opens) 0 0 ≡ 0x2c
unfolding sha256 digest_bytes hash_after compress rounds schedule first_words number compact_size bytes_with_length outpoint input output body stripped_spelling transaction_id script_hash_program point_of seed_secret grant_id
opens_begins = refl

pub opens_no_grant : bytes_eq (transaction_id opens) (grant_id 0) ≡ false
opens_no_grant = differ (transaction_id opens) (grant_id 0) 0x2c 0x0f opens_begins grant_begins (λ e. omega (arith, e))

pub grant_no_opens : bytes_eq (grant_id 0) (transaction_id opens) ≡ false
grant_no_opens = differ (grant_id 0) (transaction_id opens) 0x0f 0x2c grant_begins opens_begins (λ e. omega (arith, e))

-- ---- the funding transaction passes

grant_coin : coin_at (block [] ∷ until_0) (grant_outpoint 0) ≡ Some (record { output = granted; height = 0; spent = false })
grant_coin = rw (same (grant_id 0)) refl

opens_runs : coin_refusal 1 opens opens_input (Some (record { output = granted; height = 0; spent = false })) ≡ None
unfolding sha256 digest_bytes hash_after compress rounds schedule first_words token_of is_key is_token is_signature number_of digits minimal_bytes_of lock_passes age_passes multi_sig effect state_after single_op script_ops key_hash_program script_hash_program given_of run_of
opens_runs = refl

opens_paid : nat_le (paid_out opens.outputs) (paid_in (block [] ∷ until_0) opens.inputs) ≡ true
opens_paid = rw (same (grant_id 0)) refl

opens_passes : transaction_refusal (block [] ∷ until_0) opens ≡ None
opens_passes = unrefused (block [] ∷ until_0) 2 0 opens_input opens.outputs refl (ap (coin_refusal 1 opens opens_input) grant_coin ∙ opens_runs) opens_paid

pub checked_1 : is_checked until_1 ≡ true
checked_1 = rw opens_passes refl

-- ---- a commitment passes that takes the funding output

funding_coin : coin_at (block [] ∷ until_1) terms.funding ≡ Some (record { output = funding_out; height = 1; spent = false })
funding_coin = rw (same (transaction_id opens), grant_no_opens) refl

-- the state of a side that has this commitment alone
abbrev with_own : CommitmentState → State
with_own k = record received_3 { mine = k ∷ [] }

module _ (spend : CommitmentsSpend) (k : CommitmentState) (new : bytes_eq (transaction_id opens) (transaction_id (closing k)) ≡ false) (less : nat_le (paid_out (map tx_output (contents_of terms k).outputs)) 100000 ≡ true) where
  abbrev c : Contents
  c = contents_of terms k

  closing_passes : transaction_refusal (block [] ∷ until_1) (closing k) ≡ None
  unfolding transaction_of commitment_of funding_script
  closing_passes =
      let i : TxIn = record { outpoint = c.funding; sequence = c.hidden.sequence; witness = funding_witness terms c } in
      let first : input_refusal (block [] ∷ until_1) (height_of (block [] ∷ until_1)) (closing k) i ≡ None =
      spend (with_own k) 0 (closing k) (block [] ∷ until_1) (height_of (block [] ∷ until_1)) refl (record { coin = record { output = funding_out; height = 1; spent = false }; there = funding_coin; output_is = refl; unspent = refl }) in
      unrefused (block [] ∷ until_1) 2 c.hidden.lock_time i (map tx_output c.outputs) (rw new refl) first (rw (same (transaction_id opens), grant_no_opens) less)

  pub checked : is_checked (closed_by k) ≡ true
  checked = rw (closing_passes, opens_passes) refl

-- ---- the limits of transactions, and the grant

grant_length : length (grant_id 0) ≡ 32
unfolding grant_id
grant_length = length-sha256 _

program_length : (bytes : List ℕ) → length (script_hash_program bytes) ≡ 34
unfolding script_hash_program
program_length bytes = let l = length-sha256 bytes in omega (arith, l)

small_fits : IsOutput (record { value = 1000; script = [] })
small_fits = record { value = lit≤ tt; script = lit≤ tt }

pub opens_fits : KeepsLimits opens
opens_fits = record {
  version = lit< tt;
  some_input = lit< tt;
  inputs = record { count = lit≤ tt; each = (record { txid = grant_length; index = lit< tt; sequence = lit< tt; witness = record { count = lit≤ tt; each = (lit≤ tt, tt) } }, tt) };
  outputs = record { count = lit≤ tt; each = (small_fits, (small_fits, (small_fits, (small_fits, (small_fits, (small_fits, (small_fits, (record { value = lit≤ tt; script = let l = program_length (spelling (funding bases.funding.bytes their_bases.funding.bytes)) in omega (arith, l) }, tt)))))))) };
  lock_time = lit< tt;
}

-- tokens and the funding script are short
pub token_fits : (key : Key) (digest : List ℕ) → length digest ≡ 32 → IsBounded (token_of key.bytes digest)
token_fits key digest e = let l = token-length key.bytes digest e in let m = key-length key.bytes key.form in omega (arith, l, m)

digest_length : (c : Contents) → length (commitment_digest terms c) ≡ 32
unfolding commitment_digest
digest_length c = length-sha256 _

pub closing_fits : RecordedLimits → (k : CommitmentState) → IsPayable terms k → KeepsLimits (closing k)
unfolding transaction_of point_of
closing_fits limits k payable =
    let l = limits terms k payable (transaction_of (contents_of terms k)) (of_commitment refl) in
    let c = contents_of terms k in
    record {
      version = l.version;
      some_input = lit< tt;
      inputs = record {
        count = lit≤ tt;
        each = (
          record {
            txid = l.inputs.each.0.txid;
            index = l.inputs.each.0.index;
            sequence = l.inputs.each.0.sequence;
            witness = record { count = lit≤ tt; each = (lit≤ tt, (token_fits terms.a.bases.funding (commitment_digest terms c) (digest_length c), (token_fits terms.b.bases.funding (commitment_digest terms c) (digest_length c), ((commitment_signable terms k payable).code, tt)))) };
          },
          tt,
        );
      };
      outputs = l.outputs;
      lock_time = l.lock_time;
    }

-- ---- each of the four is new, and pays no more

abbrev pub revoked : CommitmentState
revoked = peers_next offered

revoked_begins : get_or (transaction_id (closing revoked)) 0 0 ≡ 0x49
unfolding sha256 digest_bytes hash_after compress rounds schedule first_words ripemd160 left_words right_words left_rotations right_rotations left_constants right_constants block_words left_line right_line blocks ripemd_compress ripemd_hash_after ripemd_digest_bytes digits minimal_bytes_of number compact_size bytes_with_length outpoint input output body stripped_spelling transaction_id key_hash_program script_hash_program point_of derived_key revocation_key seed_secret mask_of number_push grant_id keys_of output_cmp in_order to_local_script to_remote_script htlc_script outputs_of commitment_of transaction_of
revoked_begins = refl

revoked_less : nat_le (paid_out (map tx_output (contents_of terms revoked).outputs)) 100000 ≡ true
unfolding commitment_of outputs_of in_order output_cmp
revoked_less = refl

pub revoked_checked : CommitmentsSpend → is_checked (closed_by revoked) ≡ true
revoked_checked spend = checked spend revoked (differ (transaction_id opens) (transaction_id (closing revoked)) 0x2c 0x49 opens_begins revoked_begins (λ e. omega (arith, e))) revoked_less

abbrev pub newest : CommitmentState
newest = peers_next revoked_0

newest_begins : get_or (transaction_id (closing newest)) 0 0 ≡ 0x32
unfolding sha256 digest_bytes hash_after compress rounds schedule first_words ripemd160 left_words right_words left_rotations right_rotations left_constants right_constants block_words left_line right_line blocks ripemd_compress ripemd_hash_after ripemd_digest_bytes digits minimal_bytes_of number compact_size bytes_with_length outpoint input output body stripped_spelling transaction_id key_hash_program script_hash_program point_of derived_key revocation_key seed_secret mask_of number_push grant_id keys_of output_cmp in_order to_local_script to_remote_script htlc_script outputs_of commitment_of transaction_of
newest_begins = refl

newest_less : nat_le (paid_out (map tx_output (contents_of terms newest).outputs)) 100000 ≡ true
unfolding commitment_of outputs_of in_order output_cmp
newest_less = refl

pub newest_checked : CommitmentsSpend → is_checked (closed_by newest) ≡ true
newest_checked spend = checked spend newest (differ (transaction_id opens) (transaction_id (closing newest)) 0x2c 0x32 opens_begins newest_begins (λ e. omega (arith, e))) newest_less

abbrev pub next : CommitmentState
next = peers_next offered_more

next_begins : get_or (transaction_id (closing next)) 0 0 ≡ 0xf6
unfolding sha256 digest_bytes hash_after compress rounds schedule first_words ripemd160 left_words right_words left_rotations right_rotations left_constants right_constants block_words left_line right_line blocks ripemd_compress ripemd_hash_after ripemd_digest_bytes digits minimal_bytes_of number compact_size bytes_with_length outpoint input output body stripped_spelling transaction_id key_hash_program script_hash_program point_of derived_key revocation_key seed_secret mask_of number_push grant_id keys_of output_cmp in_order to_local_script to_remote_script htlc_script outputs_of commitment_of transaction_of
next_begins = refl

next_less : nat_le (paid_out (map tx_output (contents_of terms next).outputs)) 100000 ≡ true
unfolding commitment_of outputs_of in_order output_cmp
next_less = refl

pub next_checked : CommitmentsSpend → is_checked (closed_by next) ≡ true
next_checked spend = checked spend next (differ (transaction_id opens) (transaction_id (closing next)) 0x2c 0xf6 opens_begins next_begins (λ e. omega (arith, e))) next_less

pub revoked_alone : bytes_eq (transaction_id (closing revoked)) (grant_id 0) ≡ false
revoked_alone = differ (transaction_id (closing revoked)) (grant_id 0) 0x49 0x0f revoked_begins grant_begins (λ e. omega (arith, e))

pub newest_alone : bytes_eq (transaction_id (closing newest)) (grant_id 0) ≡ false
newest_alone = differ (transaction_id (closing newest)) (grant_id 0) 0x32 0x0f newest_begins grant_begins (λ e. omega (arith, e))

pub next_alone : bytes_eq (transaction_id (closing next)) (grant_id 0) ≡ false
next_alone = differ (transaction_id (closing next)) (grant_id 0) 0xf6 0x0f next_begins grant_begins (λ e. omega (arith, e))

-- ---- and the node's own

abbrev pub own : CommitmentState
own = own_next signed_3

abbrev pub own_secret : List ℕ
own_secret = 0x86 ∷ 0xab ∷ 0x32 ∷ 0x7f ∷ 0xde ∷ 0xfe ∷ 0x07 ∷ 0xf3 ∷ 0x6f ∷ 0xa3 ∷ 0xf2 ∷ 0xc0 ∷ 0xbf ∷ 0xad ∷ 0xf9 ∷ 0x26 ∷ 0xf2 ∷ 0x98 ∷ 0x59 ∷ 0x4c ∷ 0x4d ∷ 0x38 ∷ 0x63 ∷ 0x0f ∷ 0xe5 ∷ 0x7f ∷ 0x0f ∷ 0x72 ∷ 0x1e ∷ 0x39 ∷ 0x4d ∷ 0x3a ∷ []

pub own_secret_is : secret_at seed 3 ≡ own_secret
unfolding sha256 digest_bytes hash_after compress rounds schedule first_words seed_secret flipped derived_secret index_of secret_at
own_secret_is = refl

closing_own : transaction_of (commitment_of terms own.view A 3 (point_of own_secret)) ≡ transaction_of (contents_of terms own)
closing_own = ap (λ (s : List ℕ). transaction_of (commitment_of terms own.view A 3 (point_of s))) (sym own_secret_is)

-- its id, by that secret
abbrev pub own_id : List ℕ
own_id = 0x11 ∷ 0x10 ∷ 0x08 ∷ 0xe6 ∷ 0x38 ∷ 0x06 ∷ 0x4f ∷ 0x15 ∷ 0x0a ∷ 0xce ∷ 0x8c ∷ 0xad ∷ 0x78 ∷ 0xce ∷ 0xe1 ∷ 0xa1 ∷ 0xc5 ∷ 0x47 ∷ 0xac ∷ 0x61 ∷ 0x3c ∷ 0xb4 ∷ 0x75 ∷ 0xe3 ∷ 0x81 ∷ 0x7d ∷ 0xb7 ∷ 0x56 ∷ 0xa2 ∷ 0x9d ∷ 0xdc ∷ 0xda ∷ []

own_id_by : transaction_id (transaction_of (commitment_of terms own.view A 3 (point_of own_secret))) ≡ own_id
unfolding sha256 digest_bytes hash_after compress rounds schedule first_words ripemd160 left_words right_words left_rotations right_rotations left_constants right_constants block_words left_line right_line blocks ripemd_compress ripemd_hash_after ripemd_digest_bytes digits minimal_bytes_of number compact_size bytes_with_length outpoint input output body stripped_spelling transaction_id key_hash_program script_hash_program point_of derived_key revocation_key seed_secret mask_of number_push grant_id keys_of output_cmp in_order to_local_script to_remote_script htlc_script outputs_of commitment_of transaction_of
own_id_by = refl

pub own_id_is : id_of (contents_of terms own) ≡ own_id
own_id_is = ap (λ (t : Transaction). transaction_id t) (sym closing_own) ∙ own_id_by

-- a witness changes no id
pub unsigned_id : (t : Transaction) (items : List (List ℕ)) (i : TxIn) → t.inputs ≡ i ∷ [] → transaction_id (transaction_with_witness t 0 items) ≡ transaction_id t
unfolding transaction_id stripped_spelling body input
unsigned_id t items i e = rw e refl

pub own_closing_id : transaction_id (closing own) ≡ id_of (contents_of terms own)
unfolding transaction_of
own_closing_id = unsigned_id (transaction_of (contents_of terms own)) (funding_witness terms (contents_of terms own)) _ refl

pub own_begins : get_or (transaction_id (closing own)) 0 0 ≡ 0x11
own_begins = ap (λ (id : List ℕ). get_or id 0 0) (own_closing_id ∙ own_id_is)

own_less : nat_le (paid_out (map tx_output (contents_of terms own).outputs)) 100000 ≡ true
unfolding commitment_of outputs_of in_order output_cmp
own_less = refl

pub own_checked : CommitmentsSpend → is_checked (closed_by own) ≡ true
own_checked spend = checked spend own (differ (transaction_id opens) (transaction_id (closing own)) 0x2c 0x11 opens_begins own_begins (λ e. omega (arith, e))) own_less

pub own_alone : bytes_eq (transaction_id (closing own)) (grant_id 0) ≡ false
own_alone = differ (transaction_id (closing own)) (grant_id 0) 0x11 0x0f own_begins grant_begins (λ e. omega (arith, e))

-- ---- the revocation key of that commitment is another than the node's funding key, by the second byte of each

pub funding_second : get_or bases.funding.bytes 1 0 ≡ 0x5e
unfolding sha256 digest_bytes hash_after compress rounds schedule first_words point_of seed_secret
funding_second = refl

revocation_second_by : get_or (revocation_key their_bases.revocation.bytes (point_of own_secret)) 1 0 ≡ 0xac
unfolding sha256 digest_bytes hash_after compress rounds schedule first_words point_of revocation_key
revocation_second_by = refl

pub revocation_second : get_or (revocation_key their_bases.revocation.bytes (point_at seed 3).bytes) 1 0 ≡ 0xac
revocation_second = ap (λ (s : List ℕ). get_or (revocation_key their_bases.revocation.bytes (point_of s)) 1 0) own_secret_is ∙ revocation_second_by
