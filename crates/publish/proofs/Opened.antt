-- What is broadcast fulfils the programs of the outputs that it spends.
use Rattle.std.proofs.Common.{◌≡◌, ℕ, ◌+◌, ◌*◌, ◌/◌, ◌%◌, ◌^◌, ◌<◌, ◌≤◌, Bool, true, false, ltb, leb, List, [], ◌∷◌, ◌++◌, length, Option, Some, None, sym, ap, subst, refl, arith, ◌∙◌}
use Rattle.std.specs.Prelude.{bit_xor, codes, if◌then◌else◌, slice_get, option_map}
use Rattle.std.specs.List.{All}
use Rattle.std.specs.Str.{bytes_eq}
use Rattle.std.proofs.lemmas.Bool.{eq-eqb, le-ltb, lt-ltb, le-leb}
use Rattle.std.proofs.lemmas.Slice.Eq.{bytes_eq-Decides}
use Rattle.std.proofs.lemmas.List.Elements.{All-head, All-tail}
use Rattle.std.proofs.lemmas.Option.{same_Some}
use Rattle.sha2.specs.Sha256.{sha256}
use Rattle.sha2.proofs.Facts256.{length-sha256}
use Rattle.digest.specs.Hash.{hash160, sha256d}
use Rattle.digest.specs.Ripemd160.{ripemd160}
use Rattle.digest.proofs.OutsideVectors.{length-ripemd160}
use Rattle.script.specs.declared.limits.TheConstants.{LOCKTIME_THRESHOLD}
use Rattle.script.specs.Spelling.{spelling}
use Rattle.script.specs.Token.{token_of, is_key}
use Rattle.script.specs.Run.{Clean}
use Rattle.paths.proofs.SoundWalk.{listing-sound}
use Rattle.tx.specs.declared.input.OutPoint.{OutPoint}
use Rattle.tx.specs.declared.input.TxIn.{TxIn}
use Rattle.tx.specs.Parts.{Output}
use Rattle.tx.specs.Fields.{Transaction}
use Rattle.sighash.specs.Signing.{signed_list, all_outpoints, all_sequences}
use Rattle.sighash.specs.Programs.{script_hash_program, run_of, spend_of}
use Rattle.claim.proofs.TokenForms.{key-length}
use Rattle.claim.proofs.Meeting.{sound-at}
use Rattle.chain.specs.Blocks.{Contents as Block, coin_at}
use Rattle.chain.specs.Locks.{is_final, is_old_enough}
use Rattle.keys.specs.Derivation.{derived_key}
use Rattle.terms.specs.declared.htlcs.Htlc.{Htlc}
use Rattle.terms.specs.declared.agreement.Terms.{Terms}
use Rattle.terms.specs.Numbers.{mask_of}
use Rattle.terms.specs.Scripts.{is_lesser, two_of_two, offered, received}
use Rattle.forms.specs.Ways.{two_of_two_ways, offered_ways, received_ways}
use Rattle.forms.proofs.Listed.{two_of_two-listed, offered-listed, received-listed}
use Rattle.commit.specs.declared.fees.Direction.{Direction}
use Rattle.commit.specs.declared.fees.Direction.TheVariants.{Offered, Received}
use Rattle.commit.specs.declared.outputs.HtlcOutput.{HtlcOutput}
use Rattle.commit.specs.Fees.{satoshis_of}
use Rattle.commit.specs.Keys.{keys_of}
use Rattle.commit.specs.Outputs.{htlc_script}
use Rattle.commit.specs.Commitments.{Contents, commitment_of, transaction_of, htlcs_of, htlc_tx_of, lock_time_of}
use Rattle.commit.specs.Signing.{funding_script, commitment_digest, htlc_digest}
use Rattle.channel.specs.declared.commitments.CommitmentState.{CommitmentState}
use Rattle.channel.specs.States.{State}
use Rattle.channel.specs.Tokens.{contents_of}
use Rattle.publish.specs.Published.{funding_witness, signed_transaction, preimage_among, branch_item, htlc_witness, signed_htlc_tx_with, signed_htlc_tx_of}
use Rattle.publish.specs.Opening.{funding_output, HasUnspent, IsTaken, CommitmentsSpend, output_of, outpoint_of, HtlcTxsSpend}
use Rattle.publish.proofs.Clean.{runs_clean, two_of_two-valid, two_of_two-short, offered-valid, offered-short, received-valid, received-short, meets_two, meets_timeout, meets_success}

-- an input whose output stands unspent, whose locks are reached and which runs clean
taken : (blocks : List Block) (height : ℕ) (t : Transaction) (input : TxIn) (o : OutPoint) (output : Output) (counted most : ℕ) (has : HasUnspent blocks o output)
    → slice_get t.inputs 0 ≡ Some input → input.outpoint ≡ o → is_final height t.lock_time t.inputs ≡ true → is_old_enough height t.version input.sequence has.coin.height ≡ true
    → run_of t input output ≡ Some (Clean counted most) → IsTaken blocks height t
taken blocks height t input o output counted most has first at final old run =
    let there : coin_at blocks input.outpoint ≡ Some has.coin = ap (coin_at blocks) at ∙ has.there in
    let runs : run_of t input has.coin.output ≡ Some (Clean counted most) = ap (run_of t input) has.output_is ∙ run in
    rw (first, there, has.unspent, final, old, runs) refl

-- ---- commitments

two_run : (t : Transaction) (input : TxIn) (value : ℕ) (first second : List ℕ) → is_key first ≡ true → is_key second ≡ true
    → input.witness ≡ ([] ∷ token_of first (sha256d (signed_list t input (spelling (two_of_two first second)) value)) ∷ token_of second (sha256d (signed_list t input (spelling (two_of_two first second)) value)) ∷ []) ++ spelling (two_of_two first second) ∷ []
    → run_of t input (record { value = value; script = script_hash_program (spelling (two_of_two first second)) }) ≡ Some (Clean 3 7)
two_run t input value first second k l w =
    let m = key-length first k in
    let n = key-length second l in
    let ops = two_of_two first second in
    let all = listing-sound ops (two_of_two_ways first second) (two_of_two-listed first second k l m n) in
    runs_clean t input value ops _ _ (two_of_two-valid first second m n) (two_of_two-short first second m n) (sound-at ops (two_of_two_ways first second) 0 _ all refl) w
    (meets_two (spend_of t input (spelling ops) value) first second k l (length-sha256 _))

-- in either order of the keys
both_run : (t : Transaction) (input : TxIn) (value : ℕ) (a b digest : List ℕ) → is_key a ≡ true → is_key b ≡ true → (turned : Bool)
    → digest ≡ sha256d (signed_list t input (spelling (if turned then two_of_two b a else two_of_two a b)) value)
    → input.witness ≡ ([] ∷ (if turned then token_of b digest ∷ token_of a digest ∷ [] else token_of a digest ∷ token_of b digest ∷ [])) ++ spelling (if turned then two_of_two b a else two_of_two a b) ∷ []
    → run_of t input (record { value = value; script = script_hash_program (spelling (if turned then two_of_two b a else two_of_two a b)) }) ≡ Some (Clean 3 7)
both_run t input value a b digest k l true e w =
    two_run t input value b a l k (subst (λ d. input.witness ≡ ([] ∷ token_of b d ∷ token_of a d ∷ []) ++ spelling (two_of_two b a) ∷ []) e w)
both_run t input value a b digest k l false e w =
    two_run t input value a b k l (subst (λ d. input.witness ≡ ([] ∷ token_of a d ∷ token_of b d ∷ []) ++ spelling (two_of_two a b) ∷ []) e w)

abbrev commitment_input : Terms → Contents → TxIn
commitment_input terms c = record { outpoint = c.funding; sequence = c.hidden.sequence; witness = funding_witness terms c }

same_digest : (terms : Terms) (c : Contents) → commitment_digest terms c ≡ sha256d (signed_list (signed_transaction terms c) (commitment_input terms c) (funding_script terms) terms.capacity_sat)
unfolding commitment_digest transaction_of signed_list all_outpoints all_sequences
same_digest terms c = refl

commitment_runs : (terms : Terms) (c : Contents) → run_of (signed_transaction terms c) (commitment_input terms c) (funding_output terms) ≡ Some (Clean 3 7)
unfolding funding_script
commitment_runs terms c =
    let a = terms.a.bases.funding in
    let b = terms.b.bases.funding in
    both_run (signed_transaction terms c) (commitment_input terms c) terms.capacity_sat a.bytes b.bytes (commitment_digest terms c) a.form b.form (is_lesser b.bytes a.bytes) (same_digest terms c) refl

-- the fields that carry a number lock nothing
hidden_final : (height x : ℕ) (inputs : List TxIn) → is_final height (0x20 * 2 ^ 24 + x % 2 ^ 24) inputs ≡ true
hidden_final height x inputs =
    let l = 0x20 * 2 ^ 24 + x % 2 ^ 24 in
    let time : ltb l 500000000 ≡ false = le-ltb l 500000000 (omega arith) in
    let above : leb 500000000 l ≡ true = le-leb 500000000 l (omega arith) in
    let below : leb l 0x20ffffff ≡ true = le-leb l 0x20ffffff (omega arith) in
    rw (time, above, below) refl

hidden_old : (height x coin : ℕ) → is_old_enough height 2 (0x80 * 2 ^ 24 + x % 2 ^ 24) coin ≡ true
hidden_old height x coin = rw (eq-eqb ((0x80 * 2 ^ 24 + x % 2 ^ 24) / 2 ^ 31 % 2) 1 (omega arith)) refl

commitment_taken : (terms : Terms) (c : CommitmentState) (blocks : List Block) (height : ℕ) → HasUnspent blocks terms.funding (funding_output terms) → IsTaken blocks height (signed_transaction terms (contents_of terms c))
unfolding commitment_of transaction_of
commitment_taken terms c blocks height has =
    let k = contents_of terms c in
    let hidden = bit_xor c.number (mask_of terms) in
    taken blocks height (signed_transaction terms k) (commitment_input terms k) terms.funding (funding_output terms) 3 7 has refl refl (hidden_final height hidden (signed_transaction terms k).inputs)
    (hidden_old height (hidden / 2 ^ 24) has.coin.height) (commitment_runs terms k)

pub commitments_open : CommitmentsSpend
commitments_open s n t blocks height e has = by_state (slice_get s.mine n) e
  where
    by_state : (o : Option CommitmentState) → option_map (λ c. signed_transaction s.held.terms (contents_of s.held.terms c)) o ≡ Some t → IsTaken blocks height t
    by_state None e = absurd (cc)
    by_state (Some c) e = subst (IsTaken blocks height) (same_Some _ t e) (commitment_taken s.held.terms c blocks height has)

-- ---- HTLC transactions

timeout_run : (t : Transaction) (input : TxIn) (value : ℕ) (r m l p digest : List ℕ) → is_key m ≡ true → is_key l ≡ true → length r ≡ 20 → length p ≡ 20 → bytes_eq (hash160 []) r ≡ false
    → digest ≡ sha256d (signed_list t input (spelling (offered r m l p)) value) → input.witness ≡ [] ∷ token_of m digest ∷ token_of l digest ∷ [] ∷ spelling (offered r m l p) ∷ []
    → run_of t input (record { value = value; script = script_hash_program (spelling (offered r m l p)) }) ≡ Some (Clean 21 7)
timeout_run t input value r m l p digest mk lk rl pl apart e w =
    let ml = key-length m mk in
    let ll = key-length l lk in
    let ops = offered r m l p in
    let ways = offered_ways r m l p in
    let all = listing-sound ops ways (offered-listed r m l p mk lk ml ll rl pl) in
    runs_clean t input value ops _ _ (offered-valid r m l p rl ml ll pl) (offered-short r m l p rl ml ll pl) (sound-at ops ways 1 _ all refl)
    (subst (λ d. input.witness ≡ ([] ∷ token_of m d ∷ token_of l d ∷ [] ∷ []) ++ spelling ops ∷ []) e w)
    (meets_timeout (spend_of t input (spelling ops) value) r m l mk lk (length-sha256 _) apart)

success_run : (t : Transaction) (input : TxIn) (value : ℕ) (r m l hash : List ℕ) (expiry_height : ℕ) (item digest : List ℕ) → is_key m ≡ true → is_key l ≡ true → length r ≡ 20 → expiry_height < 2 ^ 32
    → length item ≡ 32 → sha256 item ≡ hash → bytes_eq (hash160 item) r ≡ false
    → digest ≡ sha256d (signed_list t input (spelling (received r m l (ripemd160 hash) expiry_height)) value)
    → input.witness ≡ [] ∷ token_of m digest ∷ token_of l digest ∷ item ∷ spelling (received r m l (ripemd160 hash) expiry_height) ∷ []
    → run_of t input (record { value = value; script = script_hash_program (spelling (received r m l (ripemd160 hash) expiry_height)) }) ≡ Some (Clean 23 7)
success_run t input value r m l hash expiry_height item digest mk lk rl low il is apart e w =
    let ml = key-length m mk in
    let ll = key-length l lk in
    let p = ripemd160 hash in
    let pl = length-ripemd160 hash in
    let ops = received r m l p expiry_height in
    let ways = received_ways r m l p expiry_height in
    let all = listing-sound ops ways (received-listed r m l p expiry_height low mk lk ml ll rl pl) in
    runs_clean t input value ops _ _ (received-valid r m l p expiry_height low rl ml ll pl) (received-short r m l p expiry_height low rl ml ll pl) (sound-at ops ways 1 _ all refl)
    (subst (λ d. input.witness ≡ ([] ∷ token_of m d ∷ token_of l d ∷ item ∷ []) ++ spelling ops ∷ []) e w)
    (meets_success (spend_of t input (spelling ops) value) r m l hash item mk lk (length-sha256 _) il is apart)

abbrev second_input : Contents → HtlcOutput → List ℕ → TxIn
second_input c h item = record { outpoint = outpoint_of c h; sequence = 0; witness = htlc_witness c h item }

second_digest : (c : Contents) (h : HtlcOutput) (item : List ℕ)
    → htlc_digest c h ≡ sha256d (signed_list (signed_htlc_tx_with c h item) (second_input c h item) (htlc_script c.keys h.direction h.htlc) (satoshis_of h.htlc.amount_msat))
unfolding htlc_digest htlc_tx_of signed_list all_outpoints all_sequences
second_digest c h item = refl

-- a preimage that was found
found : (hash : List ℕ) (ps : List (List ℕ)) (item : List ℕ) → All (λ p. length p ≡ 32) ps → preimage_among ps hash ≡ Some item → (length item ≡ 32) × (sha256 item ≡ hash)
found hash [] item a e = absurd (cc)
found hash (p ∷ ps) item a e =
    by_test (bytes_eq (sha256 p) hash) refl (λ f. found hash ps item (All-tail (λ x. length x ≡ 32) p ps a) f) e
  where
    by_test : (b : Bool) → bytes_eq (sha256 p) hash ≡ b → (preimage_among ps hash ≡ Some item → (length item ≡ 32) × (sha256 item ≡ hash))
        → (if b then Some p else preimage_among ps hash) ≡ Some item → (length item ≡ 32) × (sha256 item ≡ hash)
    by_test true t rest e = let same = same_Some p item e in subst (λ x. (length x ≡ 32) × (sha256 x ≡ hash)) same (All-head (λ x. length x ≡ 32) p ps a, (bytes_eq-Decides _ _).0 t)
    by_test false t rest e = rest e

abbrev runs_to : Direction → ℕ
runs_to Offered = 21
runs_to Received = 23

second_runs : (c : Contents) (index : ℕ) (d : Direction) (x : Htlc) (preimages : List (List ℕ)) (item : List ℕ) → is_key c.keys.remote_htlc ≡ true → is_key c.keys.local_htlc ≡ true
    → branch_item preimages d x ≡ Some item → All (λ p. length p ≡ 32) preimages → x.expiry_height < 2 ^ 32 → bytes_eq (hash160 item) (hash160 c.keys.revocation) ≡ false
    → let h : HtlcOutput = record { index = index; direction = d; htlc = x } in run_of (signed_htlc_tx_with c h item) (second_input c h item) (output_of c h) ≡ Some (Clean (runs_to d) 7)
unfolding htlc_script
second_runs c index Offered x preimages item mk lk e a low apart =
    let h : HtlcOutput = record { index = index; direction = Offered; htlc = x } in
    let empty : [] ≡ item = same_Some [] item e in
    subst (λ y. run_of (signed_htlc_tx_with c h y) (second_input c h y) (output_of c h) ≡ Some (Clean 21 7)) empty
    (timeout_run (signed_htlc_tx_with c h []) (second_input c h []) (satoshis_of x.amount_msat) (hash160 c.keys.revocation) c.keys.remote_htlc c.keys.local_htlc (ripemd160 x.hash) (htlc_digest c h)
    mk lk (length-ripemd160 _) (length-ripemd160 _) (subst (λ y. bytes_eq (hash160 y) (hash160 c.keys.revocation) ≡ false) (sym empty) apart) (second_digest c h []) refl)
second_runs c index Received x preimages item mk lk e a low apart =
    let h : HtlcOutput = record { index = index; direction = Received; htlc = x } in
    let is = found x.hash preimages item a e in
    success_run (signed_htlc_tx_with c h item) (second_input c h item) (satoshis_of x.amount_msat) (hash160 c.keys.revocation) c.keys.remote_htlc c.keys.local_htlc x.hash x.expiry_height item (htlc_digest c h)
    mk lk (length-ripemd160 _) low is.0 is.1 apart (second_digest c h item) refl

derived_form : (base point : List ℕ) → is_key (derived_key base point) ≡ true
unfolding derived_key is_key
derived_form base point = let h = length-sha256 (codes "derive" ++ base ++ point) in cc

second_final : (d : Direction) (x : Htlc) (height : ℕ) (inputs : List TxIn) → x.expiry_height < LOCKTIME_THRESHOLD → lock_time_of d x < height → is_final height (lock_time_of d x) inputs ≡ true
second_final Offered x height inputs low reached = rw (lt-ltb x.expiry_height 500000000 low, lt-ltb x.expiry_height height reached) refl
second_final Received x height inputs low reached = rw (lt-ltb 0 height reached) refl

second_old : (height coin : ℕ) → coin ≤ height → is_old_enough height 2 0 coin ≡ true
second_old height coin l = le-leb (coin + 0) height (omega arith)

second_taken : (terms : Terms) (state : CommitmentState) (h : HtlcOutput) (preimages : List (List ℕ)) (item : List ℕ) (blocks : List Block) (height : ℕ)
    → branch_item preimages h.direction h.htlc ≡ Some item → All (λ p. length p ≡ 32) preimages → h.htlc.expiry_height < LOCKTIME_THRESHOLD
    → bytes_eq (hash160 item) (hash160 (contents_of terms state).keys.revocation) ≡ false
    → (here : HasUnspent blocks (outpoint_of (contents_of terms state) h) (output_of (contents_of terms state) h)) → here.coin.height ≤ height → lock_time_of h.direction h.htlc < height
    → IsTaken blocks height (signed_htlc_tx_with (contents_of terms state) h item)
unfolding commitment_of keys_of htlc_tx_of
second_taken terms state h preimages item blocks height e a low apart here old reached =
    let c = contents_of terms state in
    let t = signed_htlc_tx_with c h item in
    taken blocks height t (second_input c h item) (outpoint_of c h) (output_of c h) (runs_to h.direction) 7 here refl refl (second_final h.direction h.htlc height t.inputs low reached) (second_old height here.coin.height old)
    (second_runs c h.index h.direction h.htlc preimages item (derived_form _ _) (derived_form _ _) e a (omega arith) apart)

htlc_tx_is : (s : State) (n k : ℕ) (preimages : List (List ℕ)) (state : CommitmentState) (h : HtlcOutput) (item : List ℕ) → slice_get s.mine n ≡ Some state
    → slice_get (htlcs_of (contents_of s.held.terms state)) k ≡ Some h → branch_item preimages h.direction h.htlc ≡ Some item
    → signed_htlc_tx_of s n k preimages ≡ Some (signed_htlc_tx_with (contents_of s.held.terms state) h item)
htlc_tx_is s n k preimages state h item e f g = rw (e, f, g) refl

pub htlc_txs_open : HtlcTxsSpend
htlc_txs_open s n k preimages c h item t blocks height is all low apart here old reached =
    let terms = s.held.terms in
    let kth = subst (λ (y : Contents). slice_get (htlcs_of y) k ≡ Some h) is.contents is.kth in
    let same = same_Some _ t (sym (htlc_tx_is s n k preimages is.state h item is.recorded kth is.branch) ∙ is.tx) in
    subst (IsTaken blocks height) same (at_contents c is.contents apart here old)
  where
    at_contents : (y : Contents) → y ≡ contents_of s.held.terms is.state → bytes_eq (hash160 item) (hash160 y.keys.revocation) ≡ false
        → (here : HasUnspent blocks (outpoint_of y h) (output_of y h)) → here.coin.height ≤ height → IsTaken blocks height (signed_htlc_tx_with (contents_of s.held.terms is.state) h item)
    at_contents y e apart here old =
        let P : Contents → Type 0 = λ z. bytes_eq (hash160 item) (hash160 z.keys.revocation) ≡ false → (here : HasUnspent blocks (outpoint_of z h) (output_of z h)) → here.coin.height ≤ height → IsTaken blocks height (signed_htlc_tx_with (contents_of s.held.terms is.state) h item) in
        subst P (sym e) (λ apart here old. second_taken s.held.terms is.state h preimages item blocks height is.branch all low apart here old reached) apart here old
