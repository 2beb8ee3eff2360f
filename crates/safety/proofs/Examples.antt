-- Inputs that take an output of a revoked commitment, for which the premises of the laws hold, and the fate of each: a penalty, the owner's input after the delay, and an HTLC-timeout transaction.
use Rattle.std.proofs.Common.{◌≡◌, ℕ, zero, suc, ◌+◌, ◌^◌, ◌<◌, ◌≤◌, true, false, List, [], ◌∷◌, ◌++◌, map, replicate, length, reverse, Some, None, sym, ap, ◌∙◌, refl, subst, arith, length-append, lit≤, lit<}
use Rattle.std.specs.Prelude.{IsTrue}
use Rattle.std.specs.List.{Contains, Any}
use Rattle.std.specs.Str.{bytes_eq}
use Rattle.std.proofs.lemmas.Bool.{le-ltb, false≢true}
use Rattle.std.proofs.lemmas.Slice.Eq.{bytes_eq-Decides}
use Rattle.sha2.specs.Sha256.{sha256, digest_bytes, hash_after, compress, rounds, schedule, first_words}
use Rattle.sha2.proofs.Facts256.{length-sha256}
use Rattle.digest.specs.Hash.{hash160}
use Rattle.digest.specs.Ripemd160.{left_words, right_words, left_rotations, right_rotations, left_constants, right_constants, block_words, left_line, right_line, blocks, ripemd160, compress as ripemd_compress, hash_after as ripemd_hash_after, digest_bytes as ripemd_bytes}
use Rattle.digest.proofs.OutsideVectors.{length-ripemd160}
use Rattle.script.specs.declared.opcode.Op.{Op}
use Rattle.script.specs.declared.spending.Spend.{Spend}
use Rattle.script.specs.declared.limits.TheConstants.{MAX_SCRIPT_SIZE}
use Rattle.script.specs.Spelling.{spelling}
use Rattle.script.specs.Token.{token_of, is_key}
use Rattle.script.specs.Step.{Elements, age_passes}
use Rattle.script.specs.Run.{Outcome, Clean, is_long, outcome}
use Rattle.tx.specs.declared.input.OutPoint.{OutPoint}
use Rattle.tx.specs.declared.input.TxIn.{TxIn}
use Rattle.tx.specs.Fields.{Transaction, KeepsLimits, unsigned_transaction}
use Rattle.sighash.specs.Programs.{given_of, given_by_hash, script_ops, spend_of, run_of, script_hash_program}
use Rattle.sighash.specs.Signing.{signed_list}
use Rattle.sighash.proofs.Tokens.{one_token}
use Rattle.sighash.proofs.Witnesses.{unsigned_list}
use Rattle.keys.specs.declared.compressed.Key.{Key}
use Rattle.keys.specs.Derivation.{point_of, derived_key, revocation_key}
use Rattle.chain.specs.Blocks.{Coin}
use Rattle.chain.specs.Locks.{is_final, is_old_enough}
use Rattle.chain.specs.Checks.{coin_refusal}
use Rattle.paths.proofs.SoundWalk.{listing-sound}
use Rattle.claim.specs.Fitting.{output_at}
use Rattle.claim.proofs.Meeting.{sound-at}
use Rattle.claim.proofs.TokenForms.{token-length, key-length, token-signature}
use Rattle.terms.specs.Scripts.{to_local, offered}
use Rattle.terms.specs.declared.htlcs.Htlc.{Htlc}
use Rattle.terms.specs.declared.sides.Side.TheVariants.{A}
use Rattle.terms.specs.declared.agreement.BaseKeys.{BaseKeys}
use Rattle.terms.specs.declared.agreement.Party.{Party}
use Rattle.terms.specs.declared.agreement.Terms.{Terms}
use Rattle.terms.specs.declared.views.View.{View}
use Rattle.forms.specs.Ways.{to_local_ways, offered_ways}
use Rattle.forms.proofs.Listed.{to_local-listed, offered-listed}
use Rattle.commit.specs.declared.fees.Direction.TheVariants.{Offered}
use Rattle.commit.specs.declared.outputs.HtlcOutput.{HtlcOutput}
use Rattle.commit.specs.Keys.{keys_of}
use Rattle.commit.specs.Order.{output_cmp, in_order}
use Rattle.commit.specs.Outputs.{outputs_of, to_local_script, htlc_script}
use Rattle.commit.specs.Commitments.{Contents, commitment_of, transaction_of, htlcs_of, htlcs_from, htlc_tx_of, htlc_tx_output}
use Rattle.commit.proofs.Collected.{short_script_program}
use Rattle.penalty.specs.declared.states.RevokedState.{RevokedState}
use Rattle.penalty.specs.Claimable.{Claimable, place_in, penalty_on, htlc_penalty_on, claims_by, commitment_in, claimable_of}
use Rattle.penalty.proofs.Programs.{same_htlc}
use Rattle.safety.specs.Signing.{digest_of}
use Rattle.safety.specs.Spending.{spend_on, peer_keys, Takes}
use Rattle.safety.specs.Taking.{ShowsOnly, IsAsSigned}
use Rattle.safety.specs.Ways.{by_peer, by_htlc_transaction, by_owner}
use Rattle.safety.specs.Fates.{htlc_signed, signed_by_peer, Fate}
use Rattle.safety.proofs.Claimed.{keys_in}
use Rattle.safety.proofs.Limits.{no_longer, id_length}
use Rattle.safety.proofs.Fates.{is_htlc_transaction}
use Rattle.safety.proofs.Ran.{given_script}
use Rattle.safety.proofs.Spelt.{to_local_ops, offered_ops}

-- ---- what runs clean

pub same_eq : (a : List ℕ) → bytes_eq a a ≡ true
same_eq a = (bytes_eq-Decides a a).1 refl

pub token_short : (key digest : List ℕ) → is_key key ≡ true → length digest ≡ 32 → is_long (token_of key digest) ≡ false
token_short key digest k l = le-ltb 520 (length (token_of key digest)) (omega (arith, token-length key digest l, key-length key k))

token_low : (key digest : List ℕ) → is_key key ≡ true → length digest ≡ 32 → length (token_of key digest) ≤ 100
token_low key digest k l = omega (arith, token-length key digest l, key-length key k)

any_last : {X : Type 0} (P : X → Type 0) (xs : List X) (y : X) → P y → Any P (xs ++ y ∷ [])
any_last P [] y p = (0, y, omega arith, refl, p)
any_last P (x ∷ xs) y p = let r = any_last P xs y p in (suc r.0, r.1, (let l = r.2 in omega (arith, l)), r.3, r.4)

-- the revocation key's token, and 01
penalty_clean : (revocation : List ℕ) (delay_blocks : ℕ) (delayed : List ℕ) → delay_blocks < 2 ^ 16 → is_key revocation ≡ true → is_key delayed ≡ true → (spend : Spend) → length spend.digest ≡ 32
    → outcome spend (to_local revocation delay_blocks delayed) (token_of revocation spend.digest ∷ (1 ∷ []) ∷ []) ≡ Clean 6 2
penalty_clean revocation delay_blocks delayed h k l spend d =
    (sound-at (to_local revocation delay_blocks delayed) (to_local_ways revocation delay_blocks delayed) 0 _
    (listing-sound (to_local revocation delay_blocks delayed) (to_local_ways revocation delay_blocks delayed) (to_local-listed revocation delay_blocks delayed h k l (key-length revocation k) (key-length delayed l))) refl).clean spend
    (token_of revocation spend.digest ∷ (1 ∷ []) ∷ [])
    (record { exact = refl; short = rw (token_short revocation spend.digest k d) refl; holds = (refl, (token-signature revocation spend.digest k d, (same_eq (token_of revocation spend.digest), tt))) })

-- the delayed key's token and the empty item, where the delay has passed
delayed_clean : (revocation : List ℕ) (delay_blocks : ℕ) (delayed : List ℕ) → delay_blocks < 2 ^ 16 → is_key revocation ≡ true → is_key delayed ≡ true → (spend : Spend) → length spend.digest ≡ 32 → age_passes spend delay_blocks ≡ true
    → outcome spend (to_local revocation delay_blocks delayed) (token_of delayed spend.digest ∷ [] ∷ []) ≡ Clean 6 2
delayed_clean revocation delay_blocks delayed h k l spend d age =
    (sound-at (to_local revocation delay_blocks delayed) (to_local_ways revocation delay_blocks delayed) 1 _
    (listing-sound (to_local revocation delay_blocks delayed) (to_local_ways revocation delay_blocks delayed) (to_local-listed revocation delay_blocks delayed h k l (key-length revocation k) (key-length delayed l))) refl).clean spend
    (token_of delayed spend.digest ∷ [] ∷ [])
    (record { exact = refl; short = rw (token_short delayed spend.digest l d) refl; holds = (refl, (age, (token-signature delayed spend.digest l d, (same_eq (token_of delayed spend.digest), tt)))) })

-- to_local's script is longer than a token
script_long : (revocation : List ℕ) (delay_blocks : ℕ) (delayed : List ℕ) → length revocation ≡ 33 → length delayed ≡ 33 → 66 < length (spelling (to_local revocation delay_blocks delayed))
script_long revocation delay_blocks delayed m n = simp length-append (omega (arith, m, n))

-- the tokens of both HTLC keys between two empty items
timeout_clean : (hash remote local payment : List ℕ) → length hash ≡ 20 → length payment ≡ 20 → is_key remote ≡ true → is_key local ≡ true → bytes_eq (hash160 []) hash ≡ false → (spend : Spend) → length spend.digest ≡ 32
    → outcome spend (offered hash remote local payment) ([] ∷ token_of remote spend.digest ∷ token_of local spend.digest ∷ [] ∷ []) ≡ Clean 21 7
timeout_clean hash remote local payment m n k l e spend d =
    (sound-at (offered hash remote local payment) (offered_ways hash remote local payment) 1 _
    (listing-sound (offered hash remote local payment) (offered_ways hash remote local payment) (offered-listed hash remote local payment k l (key-length remote k) (key-length local l) m n)) refl).clean spend
    ([] ∷ token_of remote spend.digest ∷ token_of local spend.digest ∷ [] ∷ [])
    (record {
      exact = refl;
      short = rw (token_short remote spend.digest k d, token_short local spend.digest l d) refl;
      holds = (e, (refl, (token-signature remote spend.digest k d, (token-signature local spend.digest l d, (refl, (rw (same_eq (token_of remote spend.digest), same_eq (token_of local spend.digest)) refl, tt))))));
    })

hashed : (script : List ℕ) (below : Elements) → given_by_hash (sha256 script) (script ∷ below) ≡ Some (record { script = script; items = reverse below })
hashed script below = rw (same_eq (sha256 script)) refl

-- what runs on a script runs on its program
pub shown : (t : Transaction) (input : TxIn) (value : ℕ) (ops : List Op) (below : Elements) (o : Outcome) → script_ops (spelling ops) ≡ Some ops → reverse input.witness ≡ spelling ops ∷ below
    → outcome (spend_of t input (spelling ops) value) ops (reverse below) ≡ o → run_of t input (record { value = value; script = script_hash_program (spelling ops) }) ≡ Some o
unfolding run_of
shown t input value ops below o parsed w e =
    let g : given_of (script_hash_program (spelling ops)) input.witness ≡ Some (record { script = spelling ops; items = reverse below }) =
    given_script (spelling ops) input.witness ∙ ap (given_by_hash (sha256 (spelling ops))) w ∙ hashed (spelling ops) below in
    rw (g, parsed) (ap Some e)

-- an unspent coin whose locks are reached passes with its run
pub passes : (height : ℕ) (t : Transaction) (input : TxIn) (coin : Coin) (counted tallest : ℕ) → coin.spent ≡ false → is_final height t.lock_time t.inputs ≡ true → is_old_enough height t.version input.sequence coin.height ≡ true
    → run_of t input coin.output ≡ Some (Clean counted tallest) → coin_refusal height t input (Some coin) ≡ None
passes height t input coin counted tallest s f a r = rw (s, f, a, r) refl

-- ---- the second scenario's commitment 1, with an HTLC that A offered

pub key_form : (b : ℕ) → IsTrue (is_key (2 ∷ replicate 32 b))
unfolding is_key
key_form b = refl

abbrev pub key : ℕ → Key
key b = record { bytes = 2 ∷ replicate 32 b; form = key_form b }

abbrev pub bases : ℕ → BaseKeys
bases b = record { funding = key b; payment = key (b + 1); delayed = key (b + 2); htlc = key (b + 3); revocation = key (b + 4) }

abbrev pub side : ℕ → ℕ → BaseKeys → Party
side start_msat delay_blocks b = record { dust_sat = 546; delay_blocks = delay_blocks; minimum_msat = 0; start_msat = start_msat; bases = b }

module _ (funding : OutPoint) (hash : List ℕ) where
  abbrev pub terms : Terms
  terms = record { funding = funding; capacity_sat = 100000; opener = A; feerate_per_kw = 1000; a = side 80000000 144 (bases 0x10); b = side 20000000 72 (bases 0x20); limited = lit≤ tt; whole = refl; short_a = lit< tt; short_b = lit< tt }

  abbrev pub htlc : Htlc
  htlc = record { id = 0; amount_msat = 10000000; hash = hash; expiry_height = 5 }

  abbrev pub view : View
  view = record { a = record { balance_msat = 70000000; offered = htlc ∷ [] }; b = record { balance_msat = 20000000; offered = [] }; feerate_per_kw = 1000 }

  abbrev pub state : RevokedState
  state = record { terms = terms; view = view; owner = A; number = 1; secret = replicate 32 0x55; few = lit≤ tt; heights = refl; whole = refl }

  abbrev c : Contents
  c = commitment_in state

  -- to_local stands at index 2, and the HTLC at index 0
  abbrev on_to_local : Claimable
  on_to_local = penalty_on c (place_in (transaction_of c) 2 (record { value = 69104; script = script_hash_program (to_local_script c.delay_blocks c.keys) }))

  abbrev pub on_htlc : Claimable
  on_htlc = htlc_penalty_on c Offered htlc (place_in (transaction_of c) 0 (record { value = 10000; script = script_hash_program (htlc_script c.keys Offered htlc) }))

  to_local_claimable : Contains (claimable_of state) on_to_local
  unfolding claimable_of claims_by commitment_of outputs_of in_order output_cmp keys_of
  to_local_claimable = (3, lit< tt, refl)

  htlc_claimable : Contains (claimable_of state) on_htlc
  unfolding claimable_of claims_by commitment_of outputs_of in_order output_cmp keys_of
  htlc_claimable = (0, lit< tt, refl)

  -- the coin of an output, in the block of height 1
  abbrev pub coin_of : Claimable → Coin
  coin_of o = record { output = output_at o.place; height = 1; spent = false }

  -- an input with this sequence and witness, and a transaction with only this input
  abbrev pub input_on : Claimable → ℕ → List (List ℕ) → TxIn
  input_on o sequence witness = record { outpoint = o.place.outpoint; sequence = sequence; witness = witness }

  abbrev spending : TxIn → Transaction
  spending input = record { version = 2; inputs = input ∷ []; outputs = record { value = 1000; script = [] } ∷ []; lock_time = 0 }

  abbrev digest_on : ℕ → List ℕ
  digest_on sequence = digest_of (spend_on on_to_local (spending (input_on on_to_local sequence [])) (input_on on_to_local sequence []))

  same_digest : (sequence : ℕ) (witness : List (List ℕ)) → digest_of (spend_on on_to_local (spending (input_on on_to_local sequence witness)) (input_on on_to_local sequence witness)) ≡ digest_on sequence
  same_digest sequence witness =
      ap sha256 (ap sha256 (sym (unsigned_list (spending (input_on on_to_local sequence witness)) (input_on on_to_local sequence witness) (spelling on_to_local.form.ops) on_to_local.place.value)))

  delay_is : c.delay_blocks ≡ 144
  unfolding commitment_of
  delay_is = refl

  same_to_local : script_hash_program (to_local_script c.delay_blocks c.keys) ≡ script_hash_program (spelling (to_local c.keys.revocation c.delay_blocks c.keys.delayed))
  unfolding to_local_script
  same_to_local = refl

  script_short : length (spelling on_to_local.form.ops) ≤ MAX_SCRIPT_SIZE
  script_short = no_longer _ _ (to_local_ops c.keys.revocation c.delay_blocks c.keys.delayed (omega (arith, delay_is)) (keys_in state).revocation (keys_in state).delayed)

  limits_on : (sequence : ℕ) (first second : List ℕ) → sequence < 2 ^ 32 → length first ≤ 100 → length second ≤ 100 → KeepsLimits (spending (input_on on_to_local sequence (first ∷ second ∷ spelling on_to_local.form.ops ∷ [])))
  limits_on sequence first second s a b = record {
    version = omega arith;
    some_input = omega arith;
    inputs = record {
      count = omega arith;
      each = (record { txid = id_length c; index = omega arith; sequence = s; witness = record { count = omega arith; each = (omega (arith, a), (omega (arith, b), (omega (arith, script_short), tt))) } }, tt);
    };
    outputs = record { count = omega arith; each = (record { value = omega arith; script = omega arith }, tt) };
    lock_time = omega arith;
  }

  -- the peer's penalty, in the next block
  abbrev penalty : TxIn
  penalty = input_on on_to_local 0 (token_of c.keys.revocation (digest_on 0) ∷ (1 ∷ []) ∷ spelling on_to_local.form.ops ∷ [])

  penalty_takes : Takes state on_to_local 2 (spending penalty) penalty (coin_of on_to_local)
  penalty_takes = record {
    claimable = to_local_claimable;
    output = refl;
    passes = passes 2 (spending penalty) penalty (coin_of on_to_local) 6 2 refl refl refl
        (ap (λ p. run_of (spending penalty) penalty (record { value = 69104; script = p })) same_to_local
        ∙ shown (spending penalty) penalty 69104 on_to_local.form.ops ((1 ∷ []) ∷ token_of c.keys.revocation (digest_on 0) ∷ []) (Clean 6 2)
        (to_local_ops c.keys.revocation c.delay_blocks c.keys.delayed (omega (arith, delay_is)) (keys_in state).revocation (keys_in state).delayed) refl
        (ap (λ d. outcome (spend_of (spending penalty) penalty (spelling on_to_local.form.ops) 69104) on_to_local.form.ops (token_of c.keys.revocation d ∷ (1 ∷ []) ∷ []))
        (sym (same_digest 0 (token_of c.keys.revocation (digest_on 0) ∷ (1 ∷ []) ∷ spelling on_to_local.form.ops ∷ [])))
        ∙ penalty_clean c.keys.revocation c.delay_blocks c.keys.delayed (omega (arith, delay_is)) (keys_in state).revocation (keys_in state).delayed
        (spend_of (spending penalty) penalty (spelling on_to_local.form.ops) 69104) (length-sha256 _)));
  }

  -- its signature is over an input that the peer signed
  penalty_shows : ShowsOnly c.keys (signed_by_peer c (spend_on on_to_local (spending penalty) penalty ∷ [])) (spend_on on_to_local (spending penalty) penalty)
  penalty_shows key i s =
      any_last (λ z. digest_of (spend_on on_to_local (spending penalty) penalty) ≡ digest_of z) (map (htlc_signed c) (htlcs_of c)) (spend_on on_to_local (spending penalty) penalty) refl

  penalty_signed : IsAsSigned c.keys (signed_by_peer c (spend_on on_to_local (spending penalty) penalty ∷ [])) (spend_on on_to_local (spending penalty) penalty)
  penalty_signed = record {
    limits = limits_on 0 (token_of c.keys.revocation (digest_on 0)) (1 ∷ []) (omega arith) (token_low c.keys.revocation (digest_on 0) (keys_in state).revocation (length-sha256 _)) (omega arith);
    among = (0, lit< tt, refl);
    shows = penalty_shows;
  }

  penalty_fate : Fate state on_to_local 1 2 (spending penalty) penalty (spend_on on_to_local (spending penalty) penalty ∷ [])
  penalty_fate = by_peer (0, spend_on on_to_local (spending penalty) penalty, lit< tt, refl, record { transaction = refl; input = refl; code = refl; value = refl })

  -- the owner's input, 144 blocks above the output's block
  abbrev late : TxIn
  late = input_on on_to_local 144 (token_of c.keys.delayed (digest_on 144) ∷ [] ∷ spelling on_to_local.form.ops ∷ [])

  late_age : (digest : List ℕ) → age_passes (record { version = 2; lock_time = 0; sequence = 144; digest = digest }) 144 ≡ true
  unfolding age_passes
  late_age digest = refl

  late_takes : Takes state on_to_local 145 (spending late) late (coin_of on_to_local)
  late_takes = record {
    claimable = to_local_claimable;
    output = refl;
    passes = passes 145 (spending late) late (coin_of on_to_local) 6 2 refl refl refl
        (ap (λ p. run_of (spending late) late (record { value = 69104; script = p })) same_to_local
        ∙ shown (spending late) late 69104 on_to_local.form.ops ([] ∷ token_of c.keys.delayed (digest_on 144) ∷ []) (Clean 6 2)
        (to_local_ops c.keys.revocation c.delay_blocks c.keys.delayed (omega (arith, delay_is)) (keys_in state).revocation (keys_in state).delayed) refl
        (ap (λ d. outcome (spend_of (spending late) late (spelling on_to_local.form.ops) 69104) on_to_local.form.ops (token_of c.keys.delayed d ∷ [] ∷ []))
        (sym (same_digest 144 (token_of c.keys.delayed (digest_on 144) ∷ [] ∷ spelling on_to_local.form.ops ∷ [])))
        ∙ delayed_clean c.keys.revocation c.delay_blocks c.keys.delayed (omega (arith, delay_is)) (keys_in state).revocation (keys_in state).delayed
        (spend_of (spending late) late (spelling on_to_local.form.ops) 69104) (length-sha256 _)
        (subst (λ n. age_passes (spend_of (spending late) late (spelling on_to_local.form.ops) 69104) n ≡ true) (sym delay_is) (late_age _))));
  }

  -- a key of the peer's has 33 bytes, and is not the delayed key
  peer_apart : (key : List ℕ) → Contains (peer_keys c.keys) key → (bytes_eq c.keys.delayed key ≡ false) × (length key ≡ 33)
  unfolding commitment_of keys_of derived_key revocation_key point_of sha256 digest_bytes hash_after compress rounds schedule first_words
  peer_apart key (zero, i, e) = (subst (λ k. bytes_eq c.keys.delayed k ≡ false) e refl, ap length (sym e))
  peer_apart key (suc zero, i, e) = (subst (λ k. bytes_eq c.keys.delayed k ≡ false) e refl, ap length (sym e))
  peer_apart key (suc (suc zero), i, e) = (subst (λ k. bytes_eq c.keys.delayed k ≡ false) e refl, ap length (sym e))
  peer_apart key (suc (suc (suc n)), i, e) = absurd (omega (arith, i))

  -- it shows no signature of the peer's
  late_shows : ShowsOnly c.keys (signed_by_peer c []) (spend_on on_to_local (spending late) late)
  late_shows key i (zero, l, e) =
      let p = peer_apart key i in
      let same = one_token c.keys.delayed key (digest_on 144) (digest_of (spend_on on_to_local (spending late) late)) (omega (arith, p.1, key-length c.keys.delayed (keys_in state).delayed)) e in
      absurd (false≢true (sym p.0 ∙ (bytes_eq-Decides c.keys.delayed key).1 same.0))
  late_shows key i (suc zero, l, e) = absurd (omega (arith, ap length e, token-length key (digest_of (spend_on on_to_local (spending late) late)) (length-sha256 _)))
  late_shows key i (suc (suc zero), l, e) =
      absurd (omega (
        arith,
        ap length e,
        token-length key (digest_of (spend_on on_to_local (spending late) late)) (length-sha256 _),
        (peer_apart key i).1,
        script_long c.keys.revocation c.delay_blocks c.keys.delayed (key-length c.keys.revocation (keys_in state).revocation) (key-length c.keys.delayed (keys_in state).delayed),
      ))
  late_shows key i (suc (suc (suc n)), l, e) = absurd (omega (arith, l))

  late_signed : IsAsSigned c.keys (signed_by_peer c []) (spend_on on_to_local (spending late) late)
  late_signed = record {
    limits = limits_on 144 (token_of c.keys.delayed (digest_on 144)) [] (omega arith) (token_low c.keys.delayed (digest_on 144) (keys_in state).delayed (length-sha256 _)) (omega arith);
    among = (0, lit< tt, refl);
    shows = late_shows;
  }

  late_fate : Fate state on_to_local 1 145 (spending late) late []
  late_fate = by_owner (record {
    form = refl;
    token = (0, lit< tt, ap (token_of c.keys.delayed) (sym (same_digest 144 (token_of c.keys.delayed (digest_on 144) ∷ [] ∷ spelling on_to_local.form.ops ∷ []))));
    late = omega (arith, delay_is);
  })

  -- the HTLC-timeout transaction, with a witness
  abbrev pub offer : HtlcOutput
  offer = record { index = 0; direction = Offered; htlc = htlc }

  abbrev pub timeout : TxIn → Transaction
  timeout input = record { version = 2; inputs = input ∷ []; outputs = htlc_tx_output c offer ∷ []; lock_time = 5 }

  abbrev timeout_digest : List ℕ
  timeout_digest = digest_of (spend_on on_htlc (timeout (input_on on_htlc 0 [])) (input_on on_htlc 0 []))

  abbrev pub timed_out : TxIn
  timed_out = input_on on_htlc 0 ([] ∷ token_of c.keys.remote_htlc timeout_digest ∷ token_of c.keys.local_htlc timeout_digest ∷ [] ∷ spelling on_htlc.form.ops ∷ [])

  same_timeout : digest_of (spend_on on_htlc (timeout timed_out) timed_out) ≡ timeout_digest
  same_timeout = ap sha256 (ap sha256 (sym (unsigned_list (timeout timed_out) timed_out (spelling on_htlc.form.ops) on_htlc.place.value)))

  -- the empty item has another HASH160 than the revocation key
  no_revocation : bytes_eq (hash160 []) (hash160 c.keys.revocation) ≡ false
  unfolding commitment_of keys_of revocation_key point_of sha256 digest_bytes hash_after compress rounds schedule first_words left_words right_words left_rotations right_rotations left_constants right_constants block_words left_line right_line blocks ripemd_compress ripemd_hash_after ripemd_bytes ripemd160
  no_revocation = refl

  pub timeout_takes : Takes state on_htlc 6 (timeout timed_out) timed_out (coin_of on_htlc)
  timeout_takes = record {
    claimable = htlc_claimable;
    output = refl;
    passes = passes 6 (timeout timed_out) timed_out (coin_of on_htlc) 21 7 refl refl refl
        (ap (λ s. run_of (timeout timed_out) timed_out (record { value = 10000; script = script_hash_program s })) (same_htlc c.keys Offered htlc)
        ∙ shown (timeout timed_out) timed_out 10000 on_htlc.form.ops ([] ∷ token_of c.keys.local_htlc timeout_digest ∷ token_of c.keys.remote_htlc timeout_digest ∷ [] ∷ []) (Clean 21 7)
        (offered_ops (hash160 c.keys.revocation) c.keys.remote_htlc c.keys.local_htlc (ripemd160 hash) (length-ripemd160 _) (length-ripemd160 _) (keys_in state).remote_htlc (keys_in state).local_htlc) refl
        (ap (λ d. outcome (spend_of (timeout timed_out) timed_out (spelling on_htlc.form.ops) 10000) on_htlc.form.ops ([] ∷ token_of c.keys.remote_htlc d ∷ token_of c.keys.local_htlc d ∷ [] ∷ [])) (sym same_timeout)
        ∙ timeout_clean (hash160 c.keys.revocation) c.keys.remote_htlc c.keys.local_htlc (ripemd160 hash) (length-ripemd160 _) (length-ripemd160 _) (keys_in state).remote_htlc (keys_in state).local_htlc no_revocation
        (spend_of (timeout timed_out) timed_out (spelling on_htlc.form.ops) 10000) (length-sha256 _)));
  }

  htlcs_are : htlcs_of c ≡ offer ∷ []
  unfolding htlcs_from commitment_of outputs_of in_order output_cmp keys_of
  htlcs_are = refl

  pub second_is : htlc_tx_of c offer ≡ timeout (input_on on_htlc 0 [])
  unfolding htlc_tx_of
  second_is = refl

  -- its digest is the one that the peer's token in `commitment_signed` is over
  timeout_is : digest_of (spend_on on_htlc (timeout timed_out) timed_out) ≡ digest_of (htlc_signed c offer)
  timeout_is =
      same_timeout
      ∙ ap (λ (t : Transaction). sha256 (sha256 (signed_list t (input_on on_htlc 0 []) (spelling on_htlc.form.ops) 10000))) (sym second_is)
      ∙ ap (λ (code : List ℕ). sha256 (sha256 (signed_list (htlc_tx_of c offer) (input_on on_htlc 0 []) code 10000))) (sym (same_htlc c.keys Offered htlc))

  pub timeout_shows : ShowsOnly c.keys (signed_by_peer c []) (spend_on on_htlc (timeout timed_out) timed_out)
  timeout_shows key i s =
      subst (λ hs. Any (λ z. digest_of (spend_on on_htlc (timeout timed_out) timed_out) ≡ digest_of z) (map (htlc_signed c) hs ++ [])) (sym htlcs_are) (0, htlc_signed c offer, lit< tt, refl, timeout_is)

  pub offer_among : Contains (htlcs_of c) offer
  offer_among = subst (λ hs. Contains hs offer) (sym htlcs_are) (0, lit< tt, refl)

  timeout_short : length (spelling on_htlc.form.ops) ≤ MAX_SCRIPT_SIZE
  timeout_short =
      no_longer _ _ (offered_ops (hash160 c.keys.revocation) c.keys.remote_htlc c.keys.local_htlc (ripemd160 hash) (length-ripemd160 _) (length-ripemd160 _) (keys_in state).remote_htlc (keys_in state).local_htlc)

  timeout_limits : KeepsLimits (timeout timed_out)
  timeout_limits =
      let remote = token_low c.keys.remote_htlc timeout_digest (keys_in state).remote_htlc (length-sha256 _) in
      let local = token_low c.keys.local_htlc timeout_digest (keys_in state).local_htlc (length-sha256 _) in
      record {
        version = omega arith;
        some_input = omega arith;
        inputs = record {
          count = omega arith;
          each = (
            record {
              txid = id_length c;
              index = omega arith;
              sequence = omega arith;
              witness = record { count = omega arith; each = (omega arith, (omega (arith, remote), (omega (arith, local), (omega arith, (omega (arith, timeout_short), tt))))) };
            },
            tt,
          );
        };
        outputs = record { count = omega arith; each = (record { value = omega arith; script = short_script_program (to_local_script c.delay_blocks c.keys) }, tt) };
        lock_time = omega arith;
      }

  pub timeout_signed : IsAsSigned c.keys (signed_by_peer c []) (spend_on on_htlc (timeout timed_out) timed_out)
  timeout_signed = record { limits = timeout_limits; among = (0, lit< tt, refl); shows = timeout_shows }

  timeout_fate : Fate state on_htlc 1 6 (timeout timed_out) timed_out []
  timeout_fate =
      by_htlc_transaction (is_htlc_transaction state on_htlc 6 (timeout timed_out) timed_out offer offer_among
      (record { transaction = sym (ap unsigned_transaction second_is); input = refl; code = sym (same_htlc c.keys Offered htlc); value = refl }) refl)
