-- What becomes of the outputs of the node's own newest commitment, and of its HTLC transactions.
use Rattle.std.proofs.Common.{◌≡◌, ℕ, ◌^◌, ◌<◌, ◌≤◌, Bool, true, false, List, [], length, Some, sym, ap, ◌∙◌, refl, subst, inl, arith}
use Rattle.std.specs.Prelude.{slice_get, if◌then◌else◌}
use Rattle.std.specs.List.{Contains}
use Rattle.std.specs.Str.{bytes_eq}
use Rattle.std.proofs.lemmas.Bool.{false≢true}
use Rattle.std.proofs.lemmas.Slice.Eq.{bytes_eq-Decides}
use Rattle.sha2.specs.Sha256.{sha256}
use Rattle.digest.specs.Ripemd160.{ripemd160}
use Rattle.script.specs.declared.limits.TheConstants.{LOCKTIME_THRESHOLD}
use Rattle.script.specs.Spelling.{spelling}
use Rattle.script.specs.Run.{Clean}
use Rattle.tx.specs.declared.input.TxIn.{TxIn}
use Rattle.tx.specs.declared.limits.TheConstants.{MAX_VALUE}
use Rattle.tx.specs.Fields.{Transaction, signed_input}
use Rattle.sighash.specs.Programs.{run_of, script_hash_program}
use Rattle.forms.proofs.Forms.{key_length}
use Rattle.chain.specs.Blocks.{Contents as Block, Coin}
use Rattle.terms.specs.declared.htlcs.Htlc.{Htlc}
use Rattle.terms.specs.declared.agreement.Terms.{Terms}
use Rattle.claim.specs.declared.parts.Place.{Place}
use Rattle.commit.specs.declared.fees.Direction.{Direction}
use Rattle.commit.specs.declared.fees.Direction.TheVariants.{Offered, Received}
use Rattle.commit.specs.declared.outputs.OutputKind.TheVariants.{ToLocal}
use Rattle.commit.specs.declared.outputs.CommitmentOutput.{CommitmentOutput}
use Rattle.commit.specs.declared.outputs.HtlcOutput.{HtlcOutput}
use Rattle.commit.specs.Keys.{KeyBytes}
use Rattle.commit.specs.Outputs.{to_local_script, htlc_script}
use Rattle.commit.specs.Commitments.{Contents, htlcs_of}
use Rattle.penalty.specs.Outputs.{program_of}
use Rattle.penalty.specs.Claimable.{Claimable, penalty_on, htlc_form, second_stage_penalty}
use Rattle.penalty.proofs.Programs.{same_htlc}
use Rattle.resolve.specs.Due.{delayed_on, second_stage_on, delayed_second_stage}
use Rattle.channel.specs.declared.commitments.CommitmentState.{CommitmentState}
use Rattle.channel.specs.Tokens.{contents_of, htlc_key}
use Rattle.safety.specs.Satisfying.{HasPreimage}
use Rattle.safety.specs.Spending.{spend_on}
use Rattle.safety.specs.Whereabouts.{IsNamedBy, IsCoinOf}
use Rattle.safety.specs.Places.{place_at, IsAt, IsHtlcAt}
use Rattle.safety.specs.Holdings.{Holding, terms_in}
use Rattle.safety.specs.Premises.{output_lock, outputs_by, spend}
use Rattle.safety.specs.Breaks.{IsSpendOn, by_script}
use Rattle.safety.specs.Resolutions.{Resolution, unspent, ours, lost, broken, IsOnHtlc, IsPaidOrLate, paid, late}
use Rattle.safety.proofs.Slots.{contains_first}
use Rattle.safety.proofs.Limits.{htlc_short}
use Rattle.safety.proofs.Seconds.{standing}
use Rattle.safety.proofs.Recorded.{limited_htlc}
use Rattle.safety.proofs.Takers.{short}
use Rattle.safety.proofs.Handed.{peers_payable, keys_good}
use Rattle.safety.proofs.Own.{kept_one, Names, spend_on_chain}
use Rattle.safety.proofs.Reading.{IsRead, read_key, read_preimage}
use Rattle.safety.proofs.Opening.{OpensLocal, by_revoked, by_delayed, by_local_script, opens_local}
use Rattle.safety.proofs.Closing.{first_byte, no_funding, htlc_no_funding}
use Rattle.balance_laws.specs.OwnBreaks.{OwnBreaks, by_breaks, by_revocation_key, by_own_preimage}
use Rattle.balance_laws.proofs.OwnScripts.{OpensOwn, by_revocation_key as opens_by_revocation, by_own_key, by_preimage, by_expiry, by_htlc_script, by_other_key, opens_own, past_expiry, same_remote}
use Rattle.balance_laws.proofs.OwnOutputs.{OwnClose, contents, payable, stood, kind_made, htlc_made, second_made, first_coin, second_coin, settled, names, ran, standing_there, local_short, htlc_low}
use Rattle.balance_laws.proofs.OwnTokens.{not_revoked, IsOwnersInput, by_release, by_peers_htlc, by_break, owners_input, one_key}

-- what became of a claim on a commitment
abbrev pub IsResolved : (hs : List Holding) (blocks : List Block) → Contents → Claimable → Type 0
IsResolved hs blocks c o = Resolution OwnBreaks hs blocks (IsPaidOrLate true c o) o

-- ---- an output in to_local's form

htlc_starts : (k : KeyBytes) (direction : Direction) (h : Htlc) → first_byte (spelling (htlc_form k direction h).ops) ≡ 0x76
htlc_starts k Offered h = refl
htlc_starts k Received h = refl

-- its script is that of no HTLC's output
no_htlc : (c : Contents) (place : Place) (k : KeyBytes) (direction : Direction) (h : Htlc) → spelling (delayed_on c place).form.ops ≡ htlc_script k direction h → ⊥
no_htlc c place k direction h e =
    let f : 0x63 ≡ 0x76 = ap first_byte (e ∙ same_htlc k direction h) ∙ htlc_starts k direction h in
    omega (arith, f)

delayed_long : (terms : Terms) (k : CommitmentState) → length (contents_of terms k).keys.delayed ≡ 33
delayed_long terms k = key_length (contents_of terms k).keys.delayed (keys_good terms k).delayed

htlc_long : (terms : Terms) (k : CommitmentState) → length (contents_of terms k).keys.local_htlc ≡ 33
htlc_long terms k = key_length (contents_of terms k).keys.local_htlc (keys_good terms k).local_htlc

in_local : (hs : List Holding) (blocks : List Block) (s : OwnClose hs blocks) (place : Place) → Contains (outputs_by hs) (output_lock (delayed_on (contents s) place)) → place.value ≤ MAX_VALUE
    → place.program ≡ script_hash_program (to_local_script (contents s).delay_blocks (contents s).keys) → (coin : Coin) → IsCoinOf blocks (delayed_on (contents s) place) coin
    → IsResolved hs blocks (contents s) (delayed_on (contents s) place)
in_local hs blocks s place lock low program coin is =
    settled blocks (IsResolved hs blocks (contents s) (delayed_on (contents s) place)) (delayed_on (contents s) place) coin is (λ e. unspent coin is e) by_name
  where
    named : (height : ℕ) (t : Transaction) (input : TxIn) → IsNamedBy blocks (delayed_on (contents s) place) height t input → Names hs blocks (output_lock (delayed_on (contents s) place)) height t input
    named height t input n = names hs blocks (delayed_on (contents s) place) lock coin is height t input n

    by_token : (height : ℕ) (t : Transaction) (input : TxIn) → IsNamedBy blocks (delayed_on (contents s) place) height t input
        → IsOwnersInput hs blocks (contents s).keys.delayed (spend (output_lock (delayed_on (contents s) place)) t input) → IsResolved hs blocks (contents s) (delayed_on (contents s) place)
    by_token height t input n (by_release r) = ours height t input n r
    by_token height t input n (by_peers_htlc g also j m at x i k code) = absurd (no_htlc (contents s) place (contents_of (terms_in g) m).keys x.direction x.htlc code)
    by_token height t input n (by_break z) = broken (by_breaks z)

    by_way : (height : ℕ) (t : Transaction) (input : TxIn) → IsNamedBy blocks (delayed_on (contents s) place) height t input → (r : IsRead hs (output_lock (delayed_on (contents s) place)) height t input coin.height)
        → OpensLocal (contents s) place.value t (signed_input input r.items) → IsResolved hs blocks (contents s) (delayed_on (contents s) place)
    by_way height t input n r (by_revoked signed) = absurd (not_revoked hs blocks s (output_lock (delayed_on (contents s) place)) height t input (named height t input n) coin.height r signed)
    by_way height t input n r (by_delayed signed waits) =
        by_token height t input n
        (owners_input hs blocks s (output_lock (delayed_on (contents s) place)) height t input (named height t input n) (λ terms e. no_funding (spelling (delayed_on (contents s) place).form.ops) 0x63 refl (inl refl) terms e)
        (local_short (contents s) (keys_good (terms_in s.holding) s.commitment) (short (terms_in s.holding) s.commitment)) (omega (arith, low)) (contents s).keys.delayed (delayed_long (terms_in s.holding) s.commitment)
        (0, omega arith, refl) coin.height r signed)
    by_way height t input n r (by_local_script z) =
        broken (by_breaks (by_script (spend_on (delayed_on (contents s) place) t input) (spend_on_chain hs blocks (output_lock (delayed_on (contents s) place)) height t input (named height t input n)) (r.script _ z)))

    by_name : (height : ℕ) (t : Transaction) (input : TxIn) → IsNamedBy blocks (delayed_on (contents s) place) height t input → IsResolved hs blocks (contents s) (delayed_on (contents s) place)
    by_name height t input n =
        let r = ran hs blocks s (delayed_on (contents s) place) lock coin is height t input n in
        let good = keys_good (terms_in s.holding) s.commitment in
        by_way height t input n r (opens_local (contents s) place (short (terms_in s.holding) s.commitment) good.revocation good.delayed program t (signed_input input r.items) r.counted r.tallest r.clean)

-- to_local
pub resolved_local : (hs : List Holding) (blocks : List Block) (s : OwnClose hs blocks) (index : ℕ) (output : CommitmentOutput) → IsAt (contents s) index output ToLocal
    → IsResolved hs blocks (contents s) (delayed_on (contents s) (place_at (contents s) index output))
resolved_local hs blocks s index output a =
    let c = contents s in
    let place = place_at c index output in
    let lock = kind_made hs blocks s index output ToLocal a (penalty_on c place) (contains_first (penalty_on c place) []) in
    let k = first_coin hs blocks s (delayed_on c place) lock index output a.there refl in
    let st = stood (terms_in s.holding) s.commitment (payable hs blocks s).view index output a.there in
    in_local hs blocks s place lock st.low (st.program ∙ ap (program_of c.delay_blocks c.keys) a.kind) k.coin k.is

-- the output of an HTLC transaction that stands
resolved_second : (hs : List Holding) (blocks : List Block) (s : OwnClose hs blocks) (x : HtlcOutput) (output : CommitmentOutput) → IsHtlcAt (contents s) x output → standing blocks (contents s) x.index ≡ true
    → IsResolved hs blocks (contents s) (delayed_second_stage (contents s) x)
resolved_second hs blocks s x output a e =
    let c = contents s in
    let lock = second_made hs blocks s x output a in
    let k = second_coin hs blocks s x lock (standing_there hs blocks s x output a e) in
    let is = k.is in
    let value = (limited_htlc (terms_in s.holding) s.commitment (payable hs blocks s).view x a.among).value in
    in_local hs blocks s (second_stage_penalty c x).place lock (omega (arith, value)) refl k.coin (record { there = is.there; output = is.output })

-- ---- the output of an HTLC

abbrev claim_of : Contents → HtlcOutput → CommitmentOutput → Claimable
claim_of c x output = second_stage_on c x (place_at c x.index output)

abbrev Resolved : (hs : List Holding) (blocks : List Block) → Contents → HtlcOutput → CommitmentOutput → Type 0
Resolved hs blocks c x output = IsResolved hs blocks c (second_stage_on c x (place_at c x.index output))

in_htlc : (hs : List Holding) (blocks : List Block) (s : OwnClose hs blocks) (x : HtlcOutput) (output : CommitmentOutput) → IsHtlcAt (contents s) x output → (coin : Coin) → IsCoinOf blocks (claim_of (contents s) x output) coin
    → Resolved hs blocks (contents s) x output
in_htlc hs blocks s x output a coin is = settled blocks (Resolved hs blocks (contents s) x output) (claim_of (contents s) x output) coin is (λ e. unspent coin is e) by_name
  where
    lock : Contains (outputs_by hs) (output_lock (claim_of (contents s) x output))
    lock = htlc_made hs blocks s x output a

    low : x.htlc.expiry_height < LOCKTIME_THRESHOLD
    low = (limited_htlc (terms_in s.holding) s.commitment (payable hs blocks s).view x a.among).height

    output_of : IsOnHtlc (contents s) x (claim_of (contents s) x output)
    output_of = record { among = a.among; at = refl }

    named : (height : ℕ) (t : Transaction) (input : TxIn) → IsNamedBy blocks (claim_of (contents s) x output) height t input → Names hs blocks (output_lock (claim_of (contents s) x output)) height t input
    named height t input n = names hs blocks (claim_of (contents s) x output) lock coin is height t input n

    on_chain : (height : ℕ) (t : Transaction) (input : TxIn) → IsNamedBy blocks (claim_of (contents s) x output) height t input → IsSpendOn hs blocks (spend_on (claim_of (contents s) x output) t input)
    on_chain height t input n = spend_on_chain hs blocks (output_lock (claim_of (contents s) x output)) height t input (named height t input n)

    -- a peer's HTLC transaction has the same script only with one HTLC key for both sides
    both_keys : (g : Holding) → Contains hs g → (j : ℕ) (m : CommitmentState) → slice_get g.state.signed j ≡ Some m → (y : HtlcOutput) → Contains (htlcs_of (contents_of (terms_in g) m)) y
        → (contents s).keys.local_htlc ≡ htlc_key (terms_in g) m → spelling (htlc_form (contents s).keys x.direction x.htlc).ops ≡ htlc_script (contents_of (terms_in g) m).keys y.direction y.htlc
        → OwnBreaks hs blocks
    both_keys g also j m at y i k code =
        let good = keys_good (terms_in s.holding) s.commitment in
        let fine = keys_good (terms_in g) m in
        let high = (limited_htlc (terms_in g) m (peers_payable g (kept_one hs s.watched.kept g also) j m at).payable.view y i).height in
        let first : x.htlc.expiry_height < 2 ^ 32 = let l = low in omega (arith, l) in
        let e = same_remote (contents s).keys (contents_of (terms_in g) m).keys x.direction y.direction x.htlc y.htlc good.local_htlc good.remote_htlc first fine.local_htlc fine.remote_htlc (omega (arith, high))
        (code ∙ same_htlc (contents_of (terms_in g) m).keys y.direction y.htlc) in
        one_key hs blocks s (k ∙ sym e)

    by_token : (height : ℕ) (t : Transaction) (input : TxIn) → IsNamedBy blocks (claim_of (contents s) x output) height t input
        → IsOwnersInput hs blocks (contents s).keys.local_htlc (spend (output_lock (claim_of (contents s) x output)) t input) → Resolved hs blocks (contents s) x output
    by_token height t input n (by_release r) = ours height t input n r
    by_token height t input n (by_peers_htlc g also j m at y i k code) = broken (both_keys g also j m at y i k code)
    by_token height t input n (by_break z) = broken (by_breaks z)

    by_shown : (height : ℕ) (t : Transaction) (input : TxIn) → IsNamedBy blocks (claim_of (contents s) x output) height t input → x.direction ≡ Offered → (p : HasPreimage input.witness (ripemd160 x.htlc.hash))
        → (b : Bool) → bytes_eq (sha256 p.preimage) x.htlc.hash ≡ b → Resolved hs blocks (contents s) x output
    by_shown height t input n d p true e =
        lost coin is height t input n (paid x output_of d (record { item = p.preimage; shown = p.given; long = p.size; hashed = (bytes_eq-Decides (sha256 p.preimage) x.htlc.hash).0 e }))
    by_shown height t input n d p false e =
        broken (by_own_preimage (spend_on (claim_of (contents s) x output) t input) (on_chain height t input n)
        (record {
          first = sha256 p.preimage;
          second = x.htlc.hash;
          of_first = (p.preimage, p.given, refl);
          of_second = record { holding = s.holding; commitment = s.commitment; newest = record { held = s.held; recorded = s.there }; is = (x, a.among, refl) };
          collide = (λ d. false≢true (sym e ∙ (bytes_eq-Decides (sha256 p.preimage) x.htlc.hash).1 d), p.hashed);
        }))

    by_way : (height : ℕ) (t : Transaction) (input : TxIn) → IsNamedBy blocks (claim_of (contents s) x output) height t input → (r : IsRead hs (output_lock (claim_of (contents s) x output)) height t input coin.height)
        → OpensOwn (contents s) x.direction x.htlc output.value t (signed_input input r.items) → Resolved hs blocks (contents s) x output
    by_way height t input n r (opens_by_revocation signed) = absurd (not_revoked hs blocks s (output_lock (claim_of (contents s) x output)) height t input (named height t input n) coin.height r signed)
    by_way height t input n r (by_own_key signed) =
        let value = htlc_low hs blocks s x output a in
        let height_low : x.htlc.expiry_height < 2 ^ 32 = let l = low in omega (arith, l) in
        by_token height t input n
        (owners_input hs blocks s (output_lock (claim_of (contents s) x output)) height t input (named height t input n) (λ terms e. htlc_no_funding (contents s).keys x.direction x.htlc terms e)
        (htlc_short (contents s) x.direction x.htlc (keys_good (terms_in s.holding) s.commitment) height_low) (omega (arith, value)) (contents s).keys.local_htlc (htlc_long (terms_in s.holding) s.commitment)
        (1, omega arith, refl) coin.height r signed)
    by_way height t input n r (by_preimage d p) =
        let q = read_preimage hs (output_lock (claim_of (contents s) x output)) height t input coin.height r (ripemd160 x.htlc.hash) p in
        by_shown height t input n d q (bytes_eq (sha256 q.preimage) x.htlc.hash) refl
    by_way height t input n r (by_expiry d lock) =
        lost coin is height t input n
        (late x output_of d (past_expiry height t input r.items coin.height (spelling (htlc_form (contents s).keys x.direction x.htlc).ops) output.value x.htlc.expiry_height low n.within lock r.locks))
    by_way height t input n r (by_htlc_script z) = broken (by_breaks (by_script (spend_on (claim_of (contents s) x output) t input) (on_chain height t input n) (r.script _ z)))
    by_way height t input n r (by_other_key z) =
        broken (by_revocation_key (spend_on (claim_of (contents s) x output) t input) (on_chain height t input n) s.holding s.commitment (record { held = s.held; recorded = s.there })
        (read_key hs (output_lock (claim_of (contents s) x output)) height t input coin.height r (contents s).keys.revocation z))

    by_name : (height : ℕ) (t : Transaction) (input : TxIn) → IsNamedBy blocks (claim_of (contents s) x output) height t input → Resolved hs blocks (contents s) x output
    by_name height t input n =
        let c = contents s in
        let good = keys_good (terms_in s.holding) s.commitment in
        let st = stood (terms_in s.holding) s.commitment (payable hs blocks s).view x.index output a.at.there in
        let r = ran hs blocks s (claim_of c x output) lock coin is height t input n in
        let program : output.program ≡ script_hash_program (htlc_script c.keys x.direction x.htlc) = st.program ∙ ap (program_of c.delay_blocks c.keys) a.at.kind in
        let height_low : x.htlc.expiry_height < 2 ^ 32 = let l = low in omega (arith, l) in
        by_way height t input n r
        (opens_own c x.direction x.htlc good.local_htlc good.remote_htlc height_low output.value t (signed_input input r.items) r.counted r.tallest
        (subst (λ (q : List ℕ). run_of t (signed_input input r.items) (record { value = output.value; script = q }) ≡ Some (Clean r.counted r.tallest)) program r.clean))

-- at either stage
pub resolved_htlc : (hs : List Holding) (blocks : List Block) (s : OwnClose hs blocks) (x : HtlcOutput) (output : CommitmentOutput) → IsHtlcAt (contents s) x output → (b : Bool) → standing blocks (contents s) x.index ≡ b
    → IsResolved hs blocks (contents s) (if b then delayed_second_stage (contents s) x else second_stage_on (contents s) x (place_at (contents s) x.index output))
resolved_htlc hs blocks s x output a true e = resolved_second hs blocks s x output a e
resolved_htlc hs blocks s x output a false e =
    let c = contents s in
    let k = first_coin hs blocks s (claim_of c x output) (htlc_made hs blocks s x output a) x.index output a.at.there refl in
    in_htlc hs blocks s x output a k.coin k.is
