-- What becomes of the outputs of a peer's commitment.
use Rattle.std.proofs.Common.{◌≡◌, ℕ, zero, suc, ◌+◌, ◌%◌, ◌^◌, ◌<◌, ◌≤◌, Bool, true, false, List, [], ◌∷◌, ◌++◌, length, Some, sym, ap, ◌∙◌, refl, subst, inl, inr, arith}
use Rattle.std.specs.Prelude.{◌↔◌, not, ◌&&◌, ◌||◌, ◌==◌, nat_lt, nat_le, slice_get, if◌then◌else◌, codes}
use Rattle.std.specs.List.{Contains, list_all, list_any}
use Rattle.std.specs.Str.{bytes_eq}
use Rattle.std.proofs.lemmas.Bool.{false≢true, and_parts, lt-leb, le-ltb, ltb-true, leb-true, eqb-true}
use Rattle.std.proofs.lemmas.List.Elements.{All-contains, Contains-append_left, Contains-append_right}
use Rattle.std.proofs.lemmas.Option.{same_Some}
use Rattle.std.proofs.lemmas.Slice.Eq.{bytes_eq-Decides}
use Rattle.sha2.specs.Sha256.{sha256}
use Rattle.digest.specs.Hash.{hash160, sha256d, Collide}
use Rattle.digest.specs.Ripemd160.{ripemd160}
use Rattle.digest.proofs.OutsideVectors.{length-ripemd160}
use Rattle.script.specs.declared.limits.TheConstants.{LOCKTIME_THRESHOLD}
use Rattle.script.specs.Spelling.{spelling}
use Rattle.script.specs.Token.{is_key}
use Rattle.script.specs.Step.{bit_at, alike, lock_passes}
use Rattle.script.specs.Run.{Clean}
use Rattle.tx.specs.declared.input.OutPoint.{OutPoint}
use Rattle.tx.specs.declared.input.TxIn.{TxIn}
use Rattle.tx.specs.declared.limits.TheConstants.{MAX_VALUE}
use Rattle.tx.specs.Fields.{Transaction, signed_input, unsigned_transaction}
use Rattle.tx.specs.Spelling.{stripped_spelling, transaction_id}
use Rattle.tx.proofs.Witnesses.{same_id}
use Rattle.sighash.specs.Programs.{run_of, spend_of, script_hash_program}
use Rattle.keys.specs.Derivation.{derived_key, revocation_key}
use Rattle.terms.specs.declared.agreement.Terms.{Terms}
use Rattle.terms.specs.Agreement.{party}
use Rattle.terms.specs.Sides.{other}
use Rattle.terms.specs.Scripts.{to_local, key_hash}
use Rattle.forms.proofs.Forms.{key_length}
use Rattle.chain.specs.Blocks.{Contents as Block, Coin}
use Rattle.claim.specs.declared.parts.Place.{Place}
use Rattle.claim.specs.Fitting.{output_at}
use Rattle.commit.specs.declared.fees.Direction.{Direction}
use Rattle.commit.specs.declared.fees.Direction.TheVariants.{Offered, Received}
use Rattle.commit.specs.declared.outputs.OutputKind.{OutputKind}
use Rattle.commit.specs.declared.outputs.OutputKind.TheVariants.{ToLocal, ToRemote, ToHtlc}
use Rattle.commit.specs.declared.outputs.CommitmentOutput.{CommitmentOutput}
use Rattle.commit.specs.declared.outputs.HtlcOutput.{HtlcOutput}
use Rattle.commit.specs.Keys.{keys_of}
use Rattle.commit.specs.Outputs.{to_local_script, htlc_script}
use Rattle.commit.specs.Commitments.{Contents, commitment_of, tx_output, transaction_of, htlcs_of, htlc_tx_of, htlc_tx_output, lock_time_of, IsOutputOf}
use Rattle.penalty.specs.Outputs.{program_of, HasHeight, IsOutput}
use Rattle.penalty.specs.Claimable.{Claimable, place_in, penalty_on, payment_on, htlc_form, htlc_penalty_on, second_stage_penalty, claims_on, claims_by, claims_from}
use Rattle.penalty.specs.Worth.{stage_on, staged}
use Rattle.penalty.specs.Paying.{CanPay}
use Rattle.penalty.proofs.Standing.{outputs_stand}
use Rattle.resolve.specs.Due.{direct_on}
use Rattle.channel.specs.declared.commitments.CommitmentState.{CommitmentState}
use Rattle.channel.specs.Tokens.{contents_of}
use Rattle.safety.specs.Signing.{Collision, AreSame}
use Rattle.safety.specs.Satisfying.{HasPreimage}
use Rattle.safety.specs.Spending.{spend_on, IsSignedBy, peer_keys, Waits}
use Rattle.safety.specs.Standing.{StandsAt}
use Rattle.safety.specs.Whereabouts.{IsOnChain, IsNamedBy, IsCoinOf}
use Rattle.safety.specs.Recorded.{IsPayable, of_htlc}
use Rattle.safety.specs.Fates.{htlc_signed}
use Rattle.safety.specs.Places.{place_at, IsAt, IsHtlcAt, payment, direct, IsRevokedClaim, penalty, own_payment, htlc_penalty, second_penalty}
use Rattle.safety.specs.Holdings.{Holding, terms_in}
use Rattle.safety.specs.Premises.{output_lock, outputs_by}
use Rattle.safety.specs.Ledgers.{keeps_locks}
use Rattle.safety.specs.Breaks.{IsHashedForKey, Breaks, by_keys, by_script, by_key, by_preimage}
use Rattle.safety.specs.Closers.{IsWatched}
use Rattle.safety.specs.Resolutions.{Resolution, unspent, ours, lost, broken, IsSlept, IsOnHtlc, IsPaidOrLate, paid, late, PeersAreResolved}
use Rattle.safety.proofs.Slots.{contains_first, contains_later}
use Rattle.safety.proofs.Lists.{none_some, contained, any_found, at_reversed}
use Rattle.safety.proofs.Claimed.{AreKeys}
use Rattle.safety.proofs.Limits.{no_longer, htlc_short}
use Rattle.safety.proofs.Spelt.{to_local_ops, key_hash_ops}
use Rattle.safety.proofs.Ran.{LastCollides, KeyCollides}
use Rattle.safety.proofs.Standing.{naming, spent_is}
use Rattle.safety.proofs.Stripped.{has_stripped}
use Rattle.safety.proofs.Ids.{id_is, unsigned_limits, same_stripped}
use Rattle.safety.proofs.Indices.{htlc_in, one_htlc}
use Rattle.safety.proofs.Fates.{bare_second}
use Rattle.safety.proofs.Seconds.{bare_commitment, standing, found}
use Rattle.safety.proofs.Whereabouts.{commitment_pays, second_pays, none_stands, not_on_to_local, not_on_to_remote}
use Rattle.safety.proofs.Recorded.{limited, limited_htlc, recorded_limits}
use Rattle.safety.proofs.Places.{given_by, Rule, htlc_at_index, contains_one, revoked_at}
use Rattle.safety.proofs.Takers.{low_lock, not_final, short}
use Rattle.safety.proofs.Handed.{peers_payable, keys_good, remote_good}
use Rattle.safety.proofs.Own.{kept_one, output_made, made_locked, peers_key_own, Names, spend_on_chain, IsOwnInput, by_release, by_htlc, by_break, peers_collide, is_own_input}
use Rattle.safety.proofs.Reading.{secret_key, IsRead, read, read_key, read_preimage}
use Rattle.safety.proofs.Opening.{OpensLocal, by_revoked, by_delayed, by_local_script, opens_local, OpensRemote, by_payment_key, by_other_key, opens_remote, OpensHtlc, by_revocation, by_remote, by_preimage as opens_by_preimage, by_expiry, by_script as opens_by_script, by_key as opens_by_key, opens_htlc}
use Rattle.safety.proofs.Closing.{revoked_start}

-- ---- an output of a commitment

-- what is true of it
record Stood (c : Contents) (index : ℕ) (output : CommitmentOutput) : Type 0 where
  program : output.program ≡ program_of c.delay_blocks c.keys output.kind
  height : HasHeight output.kind
  low : output.value ≤ MAX_VALUE

stood : (terms : Terms) (k : CommitmentState) → CanPay terms k.view → (index : ℕ) (output : CommitmentOutput) → slice_get (contents_of terms k).outputs index ≡ Some output → Stood (contents_of terms k) index output
stood terms k p index output e =
    let c = contents_of terms k in
    let within = contained c.outputs index output e in
    let stands : IsOutput c.delay_blocks c.keys output = All-contains (λ o. IsOutput c.delay_blocks c.keys o) c.outputs output (outputs_stand terms k.view k.owner k.number k.point.bytes p).each within in
    let limits : IsOutputOf c.keys output = All-contains (λ o. IsOutputOf c.keys o) c.outputs output (limited terms k p) within in
    record { program = stands.program; height = stands.height; low = limits.limits.value }

-- what an output gives by a rule is among what all give
into : (on : Rule) (c : Contents) (start_msat : ℕ) (os : List CommitmentOutput) (place : ℕ) (output : CommitmentOutput) → slice_get os place ≡ Some output
    → (o : Claimable) → Contains (on (start_msat + place) (place_at c (start_msat + place) output) output.kind) o → Contains (claims_by on c start_msat os) o
unfolding claims_by
into on c start_msat [] place output e o i = absurd (none_some output e)
into on c start_msat (p ∷ os) zero output e o i =
    let at : start_msat + 0 ≡ start_msat = omega arith in
    let here : Contains (on start_msat (place_at c start_msat output) output.kind) o = subst (λ n. Contains (on n (place_at c n output) output.kind) o) at i in
    Contains-append_left (on start_msat (place_at c start_msat p) p.kind) (claims_by on c (start_msat + 1) os) o
    (subst (λ (q : CommitmentOutput). Contains (on start_msat (place_at c start_msat q) q.kind) o) (sym (same_Some p output e)) here)
into on c start_msat (p ∷ os) (suc place) output e o i =
    let at : start_msat + suc place ≡ start_msat + 1 + place = omega arith in
    Contains-append_right (on start_msat (place_at c start_msat p) p.kind) (claims_by on c (start_msat + 1) os) o
    (into on c (start_msat + 1) os place output e o (subst (λ n. Contains (on n (place_at c n output) output.kind) o) at i))

among_claims : (c : Contents) (index : ℕ) (output : CommitmentOutput) → slice_get c.outputs index ≡ Some output → (o : Claimable) → Contains (claims_on c index (place_at c index output) output.kind) o
    → Contains (claims_from c 0 c.outputs) o
among_claims c index output e o i =
    let at : index ≡ 0 + index = omega arith in
    into (claims_on c) c 0 c.outputs index output e o (subst (λ n. Contains (claims_on c n (place_at c n output) output.kind) o) at i)

-- ---- one of the peer's commitments, on a chain

-- what the lemmas below are given
pub record Setting (hs : List Holding) (blocks : List Block) : Type 0 where
  pub watched : IsWatched hs blocks
  pub holding : Holding
  pub held : Contains hs holding
  pub number : ℕ
  pub commitment : CommitmentState
  pub there : slice_get holding.state.signed number ≡ Some commitment
  pub chain : IsOnChain blocks (transaction_of (contents_of (terms_in holding) commitment))

abbrev pub contents : {hs : List Holding} {blocks : List Block} → Setting hs blocks → Contents
contents s = contents_of (terms_in s.holding) s.commitment

payable : (hs : List Holding) (blocks : List Block) (s : Setting hs blocks) → IsPayable (terms_in s.holding) s.commitment
payable hs blocks s = (peers_payable s.holding (kept_one hs s.watched.kept s.holding s.held) s.number s.commitment s.there).payable

locked : (hs : List Holding) (blocks : List Block) (s : Setting hs blocks) → (o : Claimable) → Contains (claims_from (contents s) 0 (contents s).outputs) o → Contains (outputs_by hs) (output_lock o)
locked hs blocks s o i = output_made hs s.holding s.held s.number s.commitment s.there o i

record HasCoin (blocks : List Block) (o : Claimable) : Type 0 where
  coin : Coin
  is : IsCoinOf blocks o coin

first_coin : (hs : List Holding) (blocks : List Block) (s : Setting hs blocks) (o : Claimable) → Contains (outputs_by hs) (output_lock o)
    → (index : ℕ) (output : CommitmentOutput) → slice_get (contents s).outputs index ≡ Some output → o.place ≡ place_at (contents s) index output → HasCoin blocks o
first_coin hs blocks s o lock index output e at =
    let c = contents s in
    let k = s.chain in
    let id : transaction_id k.signed ≡ o.place.outpoint.txid = same_id k.signed (transaction_of c) (k.same ∙ sym (bare_commitment c)) ∙ ap (λ (p : Place). p.outpoint.txid) (sym at) in
    let pays : slice_get k.signed.outputs o.place.outpoint.index ≡ Some (tx_output output)
    = ap (λ (p : Place). slice_get k.signed.outputs p.outpoint.index) at ∙ commitment_pays c k.signed index output k.same e in
    let m = s.watched.ledger.coins (output_lock o) lock k.height k.signed k.stands (tx_output output) (record { id = id; there = pays }) in
    record { coin = m.0; is = record { there = m.1; output = m.2 ∙ ap output_at (sym at) } }

second_coin : (hs : List Holding) (blocks : List Block) (s : Setting hs blocks) (x : HtlcOutput) → Contains (outputs_by hs) (output_lock (second_stage_penalty (contents s) x)) → IsOnChain blocks (htlc_tx_of (contents s) x)
    → HasCoin blocks (second_stage_penalty (contents s) x)
second_coin hs blocks s x lock k =
    let c = contents s in
    let id : transaction_id k.signed ≡ transaction_id (htlc_tx_of c x) = same_id k.signed (htlc_tx_of c x) (k.same ∙ sym (bare_second c x)) in
    let m = s.watched.ledger.coins (output_lock (second_stage_penalty c x)) lock k.height k.signed k.stands (htlc_tx_output c x) (record { id = id; there = second_pays c k.signed x k.same }) in
    record { coin = m.0; is = record { there = m.1; output = m.2 } }

-- it is unspent, or an input names it
settled : (hs : List Holding) (blocks : List Block) (Lost : Coin → ℕ → TxIn → Type 0) (o : Claimable) (coin : Coin) → IsCoinOf blocks o coin
    → ((height : ℕ) (t : Transaction) (input : TxIn) → IsNamedBy blocks o height t input → Resolution Breaks hs blocks Lost o) → Resolution Breaks hs blocks Lost o
settled hs blocks Lost o coin is named = by coin.spent refl
  where
    by : (b : Bool) → coin.spent ≡ b → Resolution Breaks hs blocks Lost o
    by false e = unspent coin is e
    by true e =
        let n = naming blocks o.place.outpoint (sym (spent_is blocks o.place.outpoint coin is.there) ∙ e) in
        named n.height n.transaction n.input (record { stands = n.stands; within = n.within; names = n.named })

names : (hs : List Holding) (blocks : List Block) (o : Claimable) → Contains (outputs_by hs) (output_lock o) → (coin : Coin) → IsCoinOf blocks o coin
    → (height : ℕ) (t : Transaction) (input : TxIn) → IsNamedBy blocks o height t input → Names hs blocks (output_lock o) height t input
names hs blocks o lock coin is height t input n =
    record { locked = made_locked hs (output_lock o) lock; coin = coin; there = record { there = is.there; output = is.output }; stands = n.stands; within = n.within; names = n.names }

ran : (hs : List Holding) (blocks : List Block) (s : Setting hs blocks) (o : Claimable) → Contains (outputs_by hs) (output_lock o) → (coin : Coin) → IsCoinOf blocks o coin
    → (height : ℕ) (t : Transaction) (input : TxIn) → IsNamedBy blocks o height t input → IsRead hs (output_lock o) height t input coin.height
unfolding names
ran hs blocks s o lock coin is height t input n = read hs blocks s.watched.ledger (output_lock o) height t input (names hs blocks o lock coin is height t input n)

-- ---- what is shown of the node's keys

-- each of the peer's keys of the commitment, which are the node's, has 33 bytes
long_key : (terms : Terms) (k : CommitmentState) (key : List ℕ) → Contains (peer_keys (contents_of terms k).keys) key → length key ≡ 33
long_key terms k key (zero, l, e) = key_length key (ap is_key (sym e) ∙ (keys_good terms k).revocation)
long_key terms k key (suc zero, l, e) = key_length key (ap is_key (sym e) ∙ (keys_good terms k).remote_htlc)
long_key terms k key (suc (suc zero), l, e) = key_length key (ap is_key (sym e) ∙ remote_good terms k)
long_key terms k key (suc (suc (suc n)), l, e) = absurd (omega (arith, l))

-- an output that the commitment or its HTLC transactions make
record IsPlain (c : Contents) (o : Claimable) : Type 0 where
  claim : IsRevokedClaim c o
  short : length (spelling o.form.ops) ≤ 10000
  low : o.place.value ≤ MAX_VALUE

own_input : (hs : List Holding) (blocks : List Block) (s : Setting hs blocks) (o : Claimable) → Contains (outputs_by hs) (output_lock o) → IsPlain (contents s) o → (coin : Coin) → IsCoinOf blocks o coin → (height : ℕ) (t : Transaction) (input : TxIn) → IsNamedBy blocks o height t input
    → (r : IsRead hs (output_lock o) height t input coin.height) → (key : List ℕ) → Contains (peer_keys (contents s).keys) key → IsSignedBy key (spend_on o t (signed_input input r.items)) → IsOwnInput hs blocks (contents s) key (spend_on o t input)
own_input hs blocks s o lock plain coin is height t input n r key i signed =
    let low = plain.low in
    let long = long_key (terms_in s.holding) s.commitment key i in
    is_own_input hs blocks s.watched s.holding s.held s.number s.commitment s.there (output_lock o) height t input (names hs blocks o lock coin is height t input n) (revoked_at (contents s) o plain.claim)
    (revoked_start (contents s) o plain.claim) plain.short (omega (arith, low)) key long i
    (r.signed key (secret_key hs key (peers_key_own hs s.holding s.held s.number s.commitment s.there key i)) long signed)

-- collisions that an input shows: with the script, and with a key
script_breaks : (hs : List Holding) (blocks : List Block) (s : Setting hs blocks) (o : Claimable) → Contains (outputs_by hs) (output_lock o) → (coin : Coin) → IsCoinOf blocks o coin → (height : ℕ) (t : Transaction) (input : TxIn) → IsNamedBy blocks o height t input
    → (r : IsRead hs (output_lock o) height t input coin.height) → LastCollides (spelling o.form.ops) r.items → Breaks hs blocks
script_breaks hs blocks s o lock coin is height t input n r z =
    by_script (spend_on o t input) (spend_on_chain hs blocks (output_lock o) height t input (names hs blocks o lock coin is height t input n)) (r.script (spelling o.form.ops) z)

key_breaks : (hs : List Holding) (blocks : List Block) (s : Setting hs blocks) (o : Claimable) → Contains (outputs_by hs) (output_lock o) → (coin : Coin) → IsCoinOf blocks o coin → (height : ℕ) (t : Transaction) (input : TxIn) → IsNamedBy blocks o height t input
    → (r : IsRead hs (output_lock o) height t input coin.height) → (key : List ℕ) → Contains (peer_keys (contents s).keys) key → KeyCollides key r.items → Breaks hs blocks
key_breaks hs blocks s o lock coin is height t input n r key i z =
    by_key (spend_on o t input) (spend_on_chain hs blocks (output_lock o) height t input (names hs blocks o lock coin is height t input n)) key (peers_key_own hs s.holding s.held s.number s.commitment s.there key i)
    (read_key hs (output_lock o) height t input coin.height r key z)

-- ---- an output in to_local's form

-- an age in blocks that binds was waited for
waited : (height : ℕ) (t : Transaction) (input : TxIn) (since delay_blocks : ℕ) → Waits t input delay_blocks → keeps_locks height t input since ≡ true → since + delay_blocks ≤ height
waited height t input since delay_blocks w e =
    let enough = w.enough in
    let v : nat_lt t.version 2 ≡ false = le-ltb t.version 2 w.version in
    let parts = and_parts (nat_le LOCKTIME_THRESHOLD t.lock_time || nat_lt t.lock_time height || list_all (λ (i : TxIn). i.sequence == 0xffffffff) t.inputs)
    (nat_lt t.version 2 || bit_at 31 input.sequence || bit_at 22 input.sequence || nat_le (since + input.sequence % 2 ^ 16) height) e in
    let low = leb-true (since + input.sequence % 2 ^ 16) height (by _ _ _ _ v w.on w.blocks parts.1) in
    omega (arith, enough, low)
  where
    by : (a b c d : Bool) → a ≡ false → b ≡ false → c ≡ false → (a || b || c || d) ≡ true → d ≡ true
    by true b c d f g h i = absurd (false≢true (sym f))
    by false true c d f g h i = absurd (false≢true (sym g))
    by false false true d f g h i = absurd (false≢true (sym h))
    by false false false d f g h i = i

local_short : (c : Contents) → AreKeys c.keys → c.delay_blocks < 2 ^ 16 → length (spelling (to_local c.keys.revocation c.delay_blocks c.keys.delayed)) ≤ 10000
local_short c k l = no_longer _ _ (to_local_ops c.keys.revocation c.delay_blocks c.keys.delayed l k.revocation k.delayed)

on_local : (hs : List Holding) (blocks : List Block) (s : Setting hs blocks) (place : Place) → Contains (outputs_by hs) (output_lock (penalty_on (contents s) place)) → IsPlain (contents s) (penalty_on (contents s) place)
    → place.program ≡ script_hash_program (to_local_script (contents s).delay_blocks (contents s).keys) → (coin : Coin) → IsCoinOf blocks (penalty_on (contents s) place) coin
    → Resolution Breaks hs blocks (IsSlept (contents s) (penalty_on (contents s) place)) (penalty_on (contents s) place)
on_local hs blocks s place lock plain program coin is = settled hs blocks (IsSlept (contents s) (penalty_on (contents s) place)) (penalty_on (contents s) place) coin is by_name
  where
    own : (height : ℕ) (t : Transaction) (input : TxIn) → IsNamedBy blocks (penalty_on (contents s) place) height t input → (key : List ℕ)
        → IsOwnInput hs blocks (contents s) key (spend_on (penalty_on (contents s) place) t input) → Resolution Breaks hs blocks (IsSlept (contents s) (penalty_on (contents s) place)) (penalty_on (contents s) place)
    own height t input n key (by_release r) = ours height t input n r
    own height t input n key (by_htlc x i same k) = absurd (not_on_to_local (contents s) place t input (record { htlc = x; among = i; same = same }))
    own height t input n key (by_break z) = broken z

    by_way : (height : ℕ) (t : Transaction) (input : TxIn) → IsNamedBy blocks (penalty_on (contents s) place) height t input → (r : IsRead hs (output_lock (penalty_on (contents s) place)) height t input coin.height)
        → OpensLocal (contents s) place.value t (signed_input input r.items) → Resolution Breaks hs blocks (IsSlept (contents s) (penalty_on (contents s) place)) (penalty_on (contents s) place)
    by_way height t input n r (by_revoked signed) =
        own height t input n (contents s).keys.revocation (own_input hs blocks s (penalty_on (contents s) place) lock plain coin is height t input n r (contents s).keys.revocation (0, omega arith, refl) signed)
    by_way height t input n r (by_delayed signed w) =
        lost coin is height t input n
        (record { form = refl; late = waited height t input coin.height (contents s).delay_blocks (record { version = w.version; on = w.on; blocks = w.blocks; enough = w.enough }) r.locks })
    by_way height t input n r (by_local_script z) = broken (script_breaks hs blocks s (penalty_on (contents s) place) lock coin is height t input n r z)

    by_name : (height : ℕ) (t : Transaction) (input : TxIn) → IsNamedBy blocks (penalty_on (contents s) place) height t input → Resolution Breaks hs blocks (IsSlept (contents s) (penalty_on (contents s) place)) (penalty_on (contents s) place)
    by_name height t input n =
        let r = ran hs blocks s (penalty_on (contents s) place) lock coin is height t input n in
        let good = keys_good (terms_in s.holding) s.commitment in
        by_way height t input n r (opens_local (contents s) place (short (terms_in s.holding) s.commitment) good.revocation good.delayed program t (signed_input input r.items) r.counted r.tallest r.clean)

-- ---- to_remote

remote_short : (c : Contents) → length (spelling (key_hash (hash160 c.keys.remote))) ≤ 10000
remote_short c = no_longer _ _ (key_hash_ops (hash160 c.keys.remote) (length-ripemd160 _))

abbrev first_byte : List ℕ → ℕ
first_byte [] = 0
first_byte (b ∷ bs) = b

on_remote : (hs : List Holding) (blocks : List Block) (s : Setting hs blocks) (Lost : Coin → ℕ → TxIn → Type 0) (place : Place) → Contains (outputs_by hs) (output_lock (payment_on (contents s) place))
    → IsPlain (contents s) (payment_on (contents s) place) → place.program ≡ program_of (contents s).delay_blocks (contents s).keys ToRemote → (coin : Coin) → IsCoinOf blocks (payment_on (contents s) place) coin
    → Resolution Breaks hs blocks Lost (payment_on (contents s) place)
on_remote hs blocks s Lost place lock plain program coin is = settled hs blocks Lost (payment_on (contents s) place) coin is by_name
  where
    own : (height : ℕ) (t : Transaction) (input : TxIn) → IsNamedBy blocks (payment_on (contents s) place) height t input → (key : List ℕ)
        → IsOwnInput hs blocks (contents s) key (spend_on (payment_on (contents s) place) t input) → Resolution Breaks hs blocks Lost (payment_on (contents s) place)
    own height t input n key (by_release r) = ours height t input n r
    own height t input n key (by_htlc x i same k) = absurd (not_on_to_remote (contents s) place t input (record { htlc = x; among = i; same = same }))
    own height t input n key (by_break z) = broken z

    by_way : (height : ℕ) (t : Transaction) (input : TxIn) → IsNamedBy blocks (payment_on (contents s) place) height t input → (r : IsRead hs (output_lock (payment_on (contents s) place)) height t input coin.height)
        → OpensRemote (contents s) place.value t (signed_input input r.items) → Resolution Breaks hs blocks Lost (payment_on (contents s) place)
    by_way height t input n r (by_payment_key signed) =
        own height t input n (contents s).keys.remote (own_input hs blocks s (payment_on (contents s) place) lock plain coin is height t input n r (contents s).keys.remote (2, omega arith, refl) signed)
    by_way height t input n r (by_other_key z) = broken (key_breaks hs blocks s (payment_on (contents s) place) lock coin is height t input n r (contents s).keys.remote (2, omega arith, refl) z)

    by_name : (height : ℕ) (t : Transaction) (input : TxIn) → IsNamedBy blocks (payment_on (contents s) place) height t input → Resolution Breaks hs blocks Lost (payment_on (contents s) place)
    by_name height t input n =
        let r = ran hs blocks s (payment_on (contents s) place) lock coin is height t input n in
        by_way height t input n r (opens_remote (contents s) place program t (signed_input input r.items) r.counted r.tallest r.clean)

-- ---- the output of an HTLC

-- the two tags that keys derive with differ in their first byte
other_tag : (a b : List ℕ) → codes "revoke" ++ a ≡ codes "derive" ++ b → ⊥
other_tag a b e = let f : 0x72 ≡ 0x64 = ap first_byte e in omega (arith, f)

same_hash : (a b : List ℕ) → 2 ∷ a ≡ 2 ∷ b → a ≡ b
same_hash a b e = cc

append_twice : (a b c : List ℕ) → (a ++ b) ++ c ≡ a ++ (b ++ c)
append_twice [] b c = refl
append_twice (x ∷ a) b c = ap (λ (r : List ℕ). x ∷ r) (append_twice a b c)

-- the revocation key and the HTLC key of a commitment are two, or what is hashed for them collides
not_both_keys : (terms : Terms) (k : CommitmentState) → (contents_of terms k).keys.revocation ≡ (contents_of terms k).keys.remote_htlc → Collision (Collide sha256) (IsHashedForKey terms k) (IsHashedForKey terms k)
unfolding commitment_of keys_of derived_key revocation_key
not_both_keys terms k e = record {
  first = codes "revoke" ++ (party (other k.owner) terms).bases.revocation.bytes ++ k.point.bytes;
  second = codes "derive" ++ (party (other k.owner) terms).bases.htlc.bytes ++ k.point.bytes;
  of_first = inl refl;
  of_second = inr refl;
  collide = (
    (λ d.
        other_tag ((party (other k.owner) terms).bases.revocation.bytes ++ k.point.bytes) ((party (other k.owner) terms).bases.htlc.bytes ++ k.point.bytes)
        (sym (append_twice (codes "revoke") (party (other k.owner) terms).bases.revocation.bytes k.point.bytes) ∙ d
        ∙ append_twice (codes "derive") (party (other k.owner) terms).bases.htlc.bytes k.point.bytes)),
    same_hash _ _ e,
  );
}

-- the output, as what a penalty on it claims
abbrev pub on_it : Contents → HtlcOutput → CommitmentOutput → Claimable
on_it c x output = htlc_penalty_on c x.direction x.htlc (place_at c x.index output)

htlc_lock : (hs : List Holding) (blocks : List Block) (s : Setting hs blocks) (x : HtlcOutput) (output : CommitmentOutput) → IsHtlcAt (contents s) x output → Contains (outputs_by hs) (output_lock (on_it (contents s) x output))
htlc_lock hs blocks s x output a =
    let c = contents s in
    let o = on_it c x output in
    locked hs blocks s o
    (among_claims c x.index output a.at.there o
    (subst (λ (kind : OutputKind). Contains (claims_on c x.index (place_at c x.index output) kind) (on_it (contents s) x output)) (sym a.at.kind) (contains_first o (second_stage_penalty c x ∷ []))))

pub second_lock : (hs : List Holding) (blocks : List Block) (s : Setting hs blocks) (x : HtlcOutput) (output : CommitmentOutput) → IsHtlcAt (contents s) x output → Contains (outputs_by hs) (output_lock (second_stage_penalty (contents s) x))
second_lock hs blocks s x output a =
    let c = contents s in
    let o = second_stage_penalty c x in
    locked hs blocks s o
    (among_claims c x.index output a.at.there o
    (subst (λ (kind : OutputKind). Contains (claims_on c x.index (place_at c x.index output) kind) (second_stage_penalty (contents s) x)) (sym a.at.kind)
    (contains_later (on_it c x output) (o ∷ []) o (contains_first o []))))

htlc_plain : (hs : List Holding) (blocks : List Block) (s : Setting hs blocks) (x : HtlcOutput) (output : CommitmentOutput) → IsHtlcAt (contents s) x output → IsPlain (contents s) (on_it (contents s) x output)
htlc_plain hs blocks s x output a =
    let terms = terms_in s.holding in
    let k = s.commitment in
    let p = payable hs blocks s in
    let l = limited_htlc terms k p.view x a.among in
    let height = l.height in
    record { claim = htlc_penalty x output a refl; short = htlc_short (contents s) x.direction x.htlc (keys_good terms k) (omega (arith, height)); low = (stood terms k p.view x.index output a.at.there).low }

opens : (hs : List Holding) (blocks : List Block) (s : Setting hs blocks) (x : HtlcOutput) (output : CommitmentOutput) → IsHtlcAt (contents s) x output → (coin : Coin) → IsCoinOf blocks (on_it (contents s) x output) coin
    → (height : ℕ) (t : Transaction) (input : TxIn) → IsNamedBy blocks (on_it (contents s) x output) height t input → (r : IsRead hs (output_lock (on_it (contents s) x output)) height t input coin.height)
    → OpensHtlc (contents s) x.direction x.htlc output.value t (signed_input input r.items)
opens hs blocks s x output a coin is height t input n r =
    let c = contents s in
    let terms = terms_in s.holding in
    let k = s.commitment in
    let p = payable hs blocks s in
    let good = keys_good terms k in
    let l = limited_htlc terms k p.view x a.among in
    let low = l.height in
    let program : output.program ≡ script_hash_program (htlc_script c.keys x.direction x.htlc) = (stood terms k p.view x.index output a.at.there).program ∙ ap (program_of c.delay_blocks c.keys) a.at.kind in
    opens_htlc c x.direction x.htlc good.local_htlc good.remote_htlc (omega (arith, low)) output.value t (signed_input input r.items) r.counted r.tallest
    (subst (λ (q : List ℕ). run_of t (signed_input input r.items) (record { value = output.value; script = q }) ≡ Some (Clean r.counted r.tallest)) program r.clean)

-- ---- its first stage, where the HTLC transaction does not stand

not_standing : (hs : List Holding) (blocks : List Block) (s : Setting hs blocks) (x : HtlcOutput) (output : CommitmentOutput) → IsHtlcAt (contents s) x output → standing blocks (contents s) x.index ≡ false
    → (coin : Coin) → IsCoinOf blocks (on_it (contents s) x output) coin → Resolution Breaks hs blocks (IsSlept (contents s) (on_it (contents s) x output)) (on_it (contents s) x output)
not_standing hs blocks s x output a e coin is = settled hs blocks (IsSlept (contents s) (on_it (contents s) x output)) (on_it (contents s) x output) coin is by_name
  where
    own : (height : ℕ) (t : Transaction) (input : TxIn) → IsNamedBy blocks (on_it (contents s) x output) height t input → (key : List ℕ)
        → IsOwnInput hs blocks (contents s) key (spend_on (on_it (contents s) x output) t input) → Resolution Breaks hs blocks (IsSlept (contents s) (on_it (contents s) x output)) (on_it (contents s) x output)
    own height t input n key (by_release r) = ours height t input n r
    own height t input n key (by_htlc y i same k) =
        absurd (none_stands blocks (contents s) x.index (on_it (contents s) x output) refl e height t input n (record { htlc = y; among = i; same = same }))
    own height t input n key (by_break z) = broken z

    shows : (height : ℕ) (t : Transaction) (input : TxIn) → IsNamedBy blocks (on_it (contents s) x output) height t input → (r : IsRead hs (output_lock (on_it (contents s) x output)) height t input coin.height)
        → (key : List ℕ) → Contains (peer_keys (contents s).keys) key → IsSignedBy key (spend_on (on_it (contents s) x output) t (signed_input input r.items))
        → Resolution Breaks hs blocks (IsSlept (contents s) (on_it (contents s) x output)) (on_it (contents s) x output)
    shows height t input n r key i signed =
        own height t input n key (own_input hs blocks s (on_it (contents s) x output) (htlc_lock hs blocks s x output a) (htlc_plain hs blocks s x output a) coin is height t input n r key i signed)

    by_way : (height : ℕ) (t : Transaction) (input : TxIn) → IsNamedBy blocks (on_it (contents s) x output) height t input → (r : IsRead hs (output_lock (on_it (contents s) x output)) height t input coin.height)
        → OpensHtlc (contents s) x.direction x.htlc output.value t (signed_input input r.items) → Resolution Breaks hs blocks (IsSlept (contents s) (on_it (contents s) x output)) (on_it (contents s) x output)
    by_way height t input n r (by_revocation signed) = shows height t input n r (contents s).keys.revocation (0, omega arith, refl) signed
    by_way height t input n r (by_remote d signed) = shows height t input n r (contents s).keys.remote_htlc (1, omega arith, refl) signed
    by_way height t input n r (opens_by_preimage d signed pre) = shows height t input n r (contents s).keys.remote_htlc (1, omega arith, refl) signed
    by_way height t input n r (by_expiry d signed lock) = shows height t input n r (contents s).keys.remote_htlc (1, omega arith, refl) signed
    by_way height t input n r (opens_by_script z) = broken (script_breaks hs blocks s (on_it (contents s) x output) (htlc_lock hs blocks s x output a) coin is height t input n r z)
    by_way height t input n r (opens_by_key z) =
        broken (key_breaks hs blocks s (on_it (contents s) x output) (htlc_lock hs blocks s x output a) coin is height t input n r (contents s).keys.revocation (0, omega arith, refl) z)

    by_name : (height : ℕ) (t : Transaction) (input : TxIn) → IsNamedBy blocks (on_it (contents s) x output) height t input → Resolution Breaks hs blocks (IsSlept (contents s) (on_it (contents s) x output)) (on_it (contents s) x output)
    by_name height t input n =
        let r = ran hs blocks s (on_it (contents s) x output) (htlc_lock hs blocks s x output a) coin is height t input n in
        by_way height t input n r (opens hs blocks s x output a coin is height t input n r)

-- ---- whether it stands

-- a transaction of these bytes is the HTLC's
stands_there : (hs : List Holding) (blocks : List Block) (s : Setting hs blocks) (x : HtlcOutput) → Contains (htlcs_of (contents s)) x → Contains (outputs_by hs) (output_lock (second_stage_penalty (contents s) x))
    → has_stripped blocks (htlc_tx_of (contents s) x) ≡ true → IsOnChain blocks (htlc_tx_of (contents s) x)
stands_there hs blocks s x i lock e =
    let u = htlc_tx_of (contents s) x in
    let b = any_found (λ (y : Block). list_any (λ (t : Transaction). bytes_eq (stripped_spelling t) (stripped_spelling u)) y.transactions) blocks e in
    let t = any_found (λ (t : Transaction). bytes_eq (stripped_spelling t) (stripped_spelling u)) b.0.transactions b.2 in
    let h = at_reversed blocks b.0 b.1 in
    let stands : StandsAt blocks h.0 t.0 = record { block = b.0; there = h.1; within = t.1 } in
    let same : stripped_spelling t.0 ≡ stripped_spelling u = (bytes_eq-Decides (stripped_spelling t.0) (stripped_spelling u)).0 t.2 in
    let id : transaction_id t.0 ≡ transaction_id u = id_is t.0 ∙ ap sha256d same ∙ sym (id_is u) in
    let limits = s.watched.ledger.limits (output_lock (second_stage_penalty (contents s) x)) lock h.0 t.0 stands id in
    let whole = recorded_limits (terms_in s.holding) s.commitment (payable hs blocks s) u (of_htlc x i refl) in
    record { height = h.0; signed = t.0; stands = stands; same = same_stripped t.0 u limits (unsigned_limits u whole) same ∙ bare_second (contents s) x }

pub standing_there : (hs : List Holding) (blocks : List Block) (s : Setting hs blocks) (x : HtlcOutput) (output : CommitmentOutput) → IsHtlcAt (contents s) x output → standing blocks (contents s) x.index ≡ true
    → IsOnChain blocks (htlc_tx_of (contents s) x)
standing_there hs blocks s x output a e =
    let c = contents s in
    let f = any_found (λ (g : HtlcOutput). g.index == x.index && has_stripped blocks (htlc_tx_of c g)) (htlcs_of c) e in
    let q = and_parts (f.0.index == x.index) (has_stripped blocks (htlc_tx_of c f.0)) f.2 in
    let same : f.0 ≡ x = one_htlc 0 c.outputs f.0 x (htlc_in 0 c.outputs f.0 f.1) (htlc_in 0 c.outputs x a.among) (eqb-true f.0.index x.index q.0) in
    stands_there hs blocks s x a.among (second_lock hs blocks s x output a) (subst (λ (g : HtlcOutput). has_stripped blocks (htlc_tx_of (contents s) g) ≡ true) same q.1)

-- ---- each output of it, with HTLC transactions

second_plain : (hs : List Holding) (blocks : List Block) (s : Setting hs blocks) (x : HtlcOutput) (output : CommitmentOutput) → IsHtlcAt (contents s) x output → IsPlain (contents s) (second_stage_penalty (contents s) x)
second_plain hs blocks s x output a =
    let terms = terms_in s.holding in
    let k = s.commitment in
    let p = payable hs blocks s in
    let l = limited_htlc terms k p.view x a.among in
    let value = l.value in
    record { claim = second_penalty x output a refl; short = local_short (contents s) (keys_good terms k) (short terms k); low = omega (arith, value) }

local_plain : (hs : List Holding) (blocks : List Block) (s : Setting hs blocks) (index : ℕ) (output : CommitmentOutput) → IsAt (contents s) index output ToLocal → IsPlain (contents s) (penalty_on (contents s) (place_at (contents s) index output))
local_plain hs blocks s index output a =
    let terms = terms_in s.holding in
    let k = s.commitment in
    record { claim = penalty index output a refl; short = local_short (contents s) (keys_good terms k) (short terms k); low = (stood terms k (payable hs blocks s).view index output a.there).low }

remote_plain : (hs : List Holding) (blocks : List Block) (s : Setting hs blocks) (index : ℕ) (output : CommitmentOutput) → IsAt (contents s) index output ToRemote → IsPlain (contents s) (payment_on (contents s) (place_at (contents s) index output))
remote_plain hs blocks s index output a =
    let terms = terms_in s.holding in
    let k = s.commitment in
    record { claim = own_payment index output a refl; short = remote_short (contents s); low = (stood terms k (payable hs blocks s).view index output a.there).low }

pub kind_lock : (hs : List Holding) (blocks : List Block) (s : Setting hs blocks) (index : ℕ) (output : CommitmentOutput) (kind : OutputKind) → IsAt (contents s) index output kind
    → (o : Claimable) → Contains (claims_on (contents s) index (place_at (contents s) index output) kind) o → Contains (outputs_by hs) (output_lock o)
kind_lock hs blocks s index output kind a o i =
    locked hs blocks s o (among_claims (contents s) index output a.there o (subst (λ (x : OutputKind). Contains (claims_on (contents s) index (place_at (contents s) index output) x) o) (sym a.kind) i))

kind_program : (hs : List Holding) (blocks : List Block) (s : Setting hs blocks) (index : ℕ) (output : CommitmentOutput) (kind : OutputKind) → IsAt (contents s) index output kind
    → output.program ≡ program_of (contents s).delay_blocks (contents s).keys kind
kind_program hs blocks s index output kind a =
    (stood (terms_in s.holding) s.commitment (payable hs blocks s).view index output a.there).program ∙ ap (program_of (contents s).delay_blocks (contents s).keys) a.kind

abbrev pub Resolved : (hs : List Holding) (blocks : List Block) → Contents → Claimable → Type 0
Resolved hs blocks c o = Resolution Breaks hs blocks (IsSlept c o) o

resolved_local : (hs : List Holding) (blocks : List Block) (s : Setting hs blocks) (index : ℕ) (output : CommitmentOutput) → IsAt (contents s) index output ToLocal
    → Resolved hs blocks (contents s) (penalty_on (contents s) (place_at (contents s) index output))
resolved_local hs blocks s index output a =
    let c = contents s in
    let place = place_at c index output in
    let lock = kind_lock hs blocks s index output ToLocal a (penalty_on c place) (contains_first (penalty_on c place) []) in
    let k = first_coin hs blocks s (penalty_on c place) lock index output a.there refl in
    on_local hs blocks s place lock (local_plain hs blocks s index output a) (kind_program hs blocks s index output ToLocal a) k.coin k.is

resolved_remote : (hs : List Holding) (blocks : List Block) (s : Setting hs blocks) (Lost : Coin → ℕ → TxIn → Type 0) (index : ℕ) (output : CommitmentOutput) → IsAt (contents s) index output ToRemote
    → Resolution Breaks hs blocks Lost (payment_on (contents s) (place_at (contents s) index output))
resolved_remote hs blocks s Lost index output a =
    let c = contents s in
    let place = place_at c index output in
    let lock = kind_lock hs blocks s index output ToRemote a (payment_on c place) (contains_first (payment_on c place) []) in
    let k = first_coin hs blocks s (payment_on c place) lock index output a.there refl in
    on_remote hs blocks s Lost place lock (remote_plain hs blocks s index output a) (kind_program hs blocks s index output ToRemote a) k.coin k.is

resolved_htlc : (hs : List Holding) (blocks : List Block) (s : Setting hs blocks) (x : HtlcOutput) (output : CommitmentOutput) → IsHtlcAt (contents s) x output → (b : Bool) → standing blocks (contents s) x.index ≡ b
    → Resolved hs blocks (contents s) (if b then second_stage_penalty (contents s) x else on_it (contents s) x output)
resolved_htlc hs blocks s x output a false e =
    let k = first_coin hs blocks s (on_it (contents s) x output) (htlc_lock hs blocks s x output a) x.index output a.at.there refl in
    not_standing hs blocks s x output a e k.coin k.is
resolved_htlc hs blocks s x output a true e =
    let c = contents s in
    let k = second_coin hs blocks s x (second_lock hs blocks s x output a) (standing_there hs blocks s x output a e) in
    on_local hs blocks s (place_in (htlc_tx_of c x) 0 (htlc_tx_output c x)) (second_lock hs blocks s x output a) (second_plain hs blocks s x output a) refl k.coin k.is

by_kind : (hs : List Holding) (blocks : List Block) (s : Setting hs blocks) (index : ℕ) (output : CommitmentOutput) (kind : OutputKind) → IsAt (contents s) index output kind
    → (o : Claimable) → Contains (stage_on (standing blocks (contents s)) (contents s) index (place_at (contents s) index output) kind) o → Resolved hs blocks (contents s) o
by_kind hs blocks s index output ToLocal a o i =
    subst (Resolved hs blocks (contents s)) (sym (contains_one (penalty_on (contents s) (place_at (contents s) index output)) o i)) (resolved_local hs blocks s index output a)
by_kind hs blocks s index output ToRemote a o i =
    subst (Resolved hs blocks (contents s)) (sym (contains_one (payment_on (contents s) (place_at (contents s) index output)) o i))
    (resolved_remote hs blocks s (IsSlept (contents s) (payment_on (contents s) (place_at (contents s) index output))) index output a)
by_kind hs blocks s index output (ToHtlc direction htlc) a o i =
    let c = contents s in
    let x : HtlcOutput = record { index = index; direction = direction; htlc = htlc } in
    let at = htlc_at_index c index output direction htlc a.there a.kind in
    subst (Resolved hs blocks (contents s))
    (sym (contains_one (if standing blocks c index then second_stage_penalty c x else on_it c x output) o i)) (resolved_htlc hs blocks s x output at (standing blocks c index) refl)

-- the HTLC transactions that stand there
pub those_stand : (hs : List Holding) (blocks : List Block) (s : Setting hs blocks) (x : HtlcOutput) → Contains (htlcs_of (contents s)) x → (standing blocks (contents s) x.index ≡ true) ↔ IsOnChain blocks (htlc_tx_of (contents s) x)
those_stand hs blocks s x i = ((λ e. stands_by e), (λ o. found blocks (contents s) x i o))
  where
    stands_by : standing blocks (contents s) x.index ≡ true → IsOnChain blocks (htlc_tx_of (contents s) x)
    stands_by e =
        let at = htlc_in 0 (contents s).outputs x i in
        let index : at.place ≡ x.index = let n = at.at in omega (arith, n) in
        standing_there hs blocks s x at.output
        (record { at = record { there = subst (λ (m : ℕ). slice_get (contents s).outputs m ≡ Some at.output) index at.there; kind = at.kind }; among = i }) e

pub each_resolved : (hs : List Holding) (blocks : List Block) (s : Setting hs blocks) (o : Claimable) → Contains (staged (standing blocks (contents s)) (contents s)) o → Resolved hs blocks (contents s) o
each_resolved hs blocks s o i =
    let g = given_by (stage_on (standing blocks (contents s)) (contents s)) (contents s) o i in
    by_kind hs blocks s g.index g.output g.output.kind (record { there = g.there; kind = refl }) o g.given

-- ---- an HTLC of a commitment that is not revoked

-- the node's own claim of it, and a penalty on it, are at one place
as_penalty : (blocks : List Block) (c : Contents) (x : HtlcOutput) (output : CommitmentOutput) (height : ℕ) (t : Transaction) (input : TxIn)
    → IsNamedBy blocks (direct_on c x.direction x.htlc (place_at c x.index output)) height t input → IsNamedBy blocks (on_it c x output) height t input
as_penalty blocks c x output height t input n = record { stands = n.stands; within = n.within; names = n.names }

-- an HTLC transaction that takes the output is that of its HTLC
same_htlc_output : (c : Contents) (x y : HtlcOutput) (output : CommitmentOutput) → Contains (htlcs_of c) x → Contains (htlcs_of c) y → (t : Transaction) (input : TxIn)
    → input.outpoint ≡ (on_it c x output).place.outpoint → AreSame (spend_on (on_it c x output) t input) (htlc_signed c y) → y ≡ x
same_htlc_output c x y output i j t input n same =
    let index : y.index ≡ x.index = sym (ap (λ (a : TxIn). a.outpoint.index) same.input) ∙ ap (λ (o : OutPoint). o.index) n in
    one_htlc 0 c.outputs y x (htlc_in 0 c.outputs y j) (htlc_in 0 c.outputs x i) index

-- a lock time that is a height is below the block's
lock_kept : (height lock : ℕ) (inputs : List TxIn) → lock < LOCKTIME_THRESHOLD → list_all (λ (i : TxIn). i.sequence == 0xffffffff) inputs ≡ false
    → (nat_le LOCKTIME_THRESHOLD lock || nat_lt lock height || list_all (λ (i : TxIn). i.sequence == 0xffffffff) inputs) ≡ true → lock < height
lock_kept height lock inputs l f e =
    ltb-true lock height (by (nat_le LOCKTIME_THRESHOLD lock) (nat_lt lock height) (list_all (λ (i : TxIn). i.sequence == 0xffffffff) inputs) (lt-leb LOCKTIME_THRESHOLD lock l) f e)
  where
    by : (a b g : Bool) → a ≡ false → g ≡ false → (a || b || g) ≡ true → b ≡ true
    by true b g h i e = absurd (false≢true (sym h))
    by false true g h i e = refl
    by false false true h i e = absurd (false≢true (sym i))
    by false false false h i e = absurd (false≢true e)

reached : (c : Contents) (x : HtlcOutput) (height : ℕ) (t : Transaction) (input : TxIn) (since : ℕ) → x.htlc.expiry_height < LOCKTIME_THRESHOLD → unsigned_transaction t ≡ htlc_tx_of c x → keeps_locks height t input since ≡ true
    → lock_time_of x.direction x.htlc < height
unfolding htlc_tx_of
reached c x height t input since l e locks =
    let lock : t.lock_time ≡ lock_time_of x.direction x.htlc = ap (λ (u : Transaction). u.lock_time) e in
    let low = low_lock x.direction x.htlc l in
    let parts = and_parts (nat_le LOCKTIME_THRESHOLD t.lock_time || nat_lt t.lock_time height || list_all (λ (i : TxIn). i.sequence == 0xffffffff) t.inputs)
    (nat_lt t.version 2 || bit_at 31 input.sequence || bit_at 22 input.sequence || nat_le (since + input.sequence % 2 ^ 16) height) locks in
    let below = lock_kept height t.lock_time t.inputs (omega (arith, lock, low)) (not_final t.inputs _ (ap (λ (u : Transaction). u.inputs) e)) parts.0 in
    omega (arith, lock, below)

lock_is : (c : Contents) (x : HtlcOutput) (t : Transaction) → unsigned_transaction t ≡ htlc_tx_of c x → t.lock_time ≡ lock_time_of x.direction x.htlc
unfolding htlc_tx_of
lock_is c x t e = ap (λ (u : Transaction). u.lock_time) e

-- what CHECKLOCKTIMEVERIFY lets pass is not above the lock time
not_above : (t : Transaction) (input : TxIn) (script : List ℕ) (value expiry_height : ℕ) → lock_passes (spend_of t input script value) expiry_height ≡ true → expiry_height ≤ t.lock_time
unfolding lock_passes
not_above t input script value expiry_height e =
    leb-true expiry_height t.lock_time (by (alike (nat_lt expiry_height LOCKTIME_THRESHOLD) (nat_lt t.lock_time LOCKTIME_THRESHOLD)) (nat_le expiry_height t.lock_time) (not (input.sequence == 0xffffffff)) e)
  where
    by : (a b c : Bool) → (a && b && c) ≡ true → b ≡ true
    by true true c e = refl
    by true false c e = absurd (false≢true e)
    by false b c e = absurd (false≢true e)

received_lock : (x : HtlcOutput) → x.direction ≡ Received → lock_time_of x.direction x.htlc ≡ 0
received_lock x e = ap (λ (d : Direction). lock_time_of d x.htlc) e

offered_lock : (x : HtlcOutput) → x.direction ≡ Offered → lock_time_of x.direction x.htlc ≡ x.htlc.expiry_height
offered_lock x e = ap (λ (d : Direction). lock_time_of d x.htlc) e

abbrev claim_of : Contents → HtlcOutput → CommitmentOutput → Claimable
claim_of c x output = direct_on c x.direction x.htlc (place_at c x.index output)

abbrev Standing : (hs : List Holding) (blocks : List Block) → Contents → Claimable → Type 0
Standing hs blocks c o = Resolution Breaks hs blocks (IsPaidOrLate false c o) o

direct_htlc : (hs : List Holding) (blocks : List Block) (s : Setting hs blocks) (x : HtlcOutput) (output : CommitmentOutput) → IsHtlcAt (contents s) x output
    → (coin : Coin) → IsCoinOf blocks (claim_of (contents s) x output) coin → Standing hs blocks (contents s) (claim_of (contents s) x output)
direct_htlc hs blocks s x output a coin is = settled hs blocks (IsPaidOrLate false (contents s) (claim_of (contents s) x output)) (claim_of (contents s) x output) coin is by_name
  where
    same_coin : IsCoinOf blocks (on_it (contents s) x output) coin
    same_coin = record { there = is.there; output = is.output }

    output_of : IsOnHtlc (contents s) x (claim_of (contents s) x output)
    output_of = record { among = a.among; at = refl }

    strings : Collision (Collide sha256) (IsHashedForKey (terms_in s.holding) s.commitment) (IsHashedForKey (terms_in s.holding) s.commitment) → Breaks hs blocks
    strings z = by_keys (peers_collide (Collide sha256) IsHashedForKey hs s.holding s.holding s.held s.held s.number s.number s.commitment s.commitment s.there s.there z)

    owned : (height : ℕ) (t : Transaction) (input : TxIn) → IsNamedBy blocks (claim_of (contents s) x output) height t input → (r : IsRead hs (output_lock (on_it (contents s) x output)) height t input coin.height)
        → (key : List ℕ) → Contains (peer_keys (contents s).keys) key → IsSignedBy key (spend_on (on_it (contents s) x output) t (signed_input input r.items))
        → IsOwnInput hs blocks (contents s) key (spend_on (on_it (contents s) x output) t input)
    owned height t input n r key i signed =
        own_input hs blocks s (on_it (contents s) x output) (htlc_lock hs blocks s x output a) (htlc_plain hs blocks s x output a) coin same_coin height t input (as_penalty blocks (contents s) x output height t input n) r key i signed

    by_own : (height : ℕ) (t : Transaction) (input : TxIn) → IsNamedBy blocks (claim_of (contents s) x output) height t input → (key : List ℕ)
        → IsOwnInput hs blocks (contents s) key (spend_on (on_it (contents s) x output) t input)
        → ((y : HtlcOutput) → y ≡ x → unsigned_transaction t ≡ htlc_tx_of (contents s) y → key ≡ (contents s).keys.remote_htlc → Standing hs blocks (contents s) (claim_of (contents s) x output))
        → Standing hs blocks (contents s) (claim_of (contents s) x output)
    by_own height t input n key (by_release r) htlc = ours height t input n r
    by_own height t input n key (by_htlc y i same k) htlc =
        htlc y (same_htlc_output (contents s) x y output a.among i t input n.names same) (same.transaction ∙ bare_second (contents s) y) k
    by_own height t input n key (by_break z) htlc = broken z

    as_htlc : (t : Transaction) (y : HtlcOutput) → y ≡ x → unsigned_transaction t ≡ htlc_tx_of (contents s) y → unsigned_transaction t ≡ htlc_tx_of (contents s) x
    as_htlc t y same e = e ∙ ap (htlc_tx_of (contents s)) same

    by_lock : (height : ℕ) (t : Transaction) (input : TxIn) → IsNamedBy blocks (claim_of (contents s) x output) height t input → keeps_locks height t input coin.height ≡ true → x.direction ≡ Offered
        → unsigned_transaction t ≡ htlc_tx_of (contents s) x → Standing hs blocks (contents s) (claim_of (contents s) x output)
    by_lock height t input n locks d e =
        let low = (limited_htlc (terms_in s.holding) s.commitment (payable hs blocks s).view x a.among).height in
        let below = reached (contents s) x height t input coin.height low e locks in
        let at = offered_lock x d in
        lost coin is height t input n (late x output_of d (omega (arith, below, at)))

    by_shown : (height : ℕ) (t : Transaction) (input : TxIn) → IsNamedBy blocks (claim_of (contents s) x output) height t input → x.direction ≡ Received → (p : HasPreimage input.witness (ripemd160 x.htlc.hash))
        → (b : Bool) → bytes_eq (sha256 p.preimage) x.htlc.hash ≡ b → Standing hs blocks (contents s) (claim_of (contents s) x output)
    by_shown height t input n d p true e =
        lost coin is height t input n (paid x output_of d (record { item = p.preimage; shown = p.given; long = p.size; hashed = (bytes_eq-Decides (sha256 p.preimage) x.htlc.hash).0 e }))
    by_shown height t input n d p false e =
        broken (by_preimage (spend_on (on_it (contents s) x output) t input)
        (spend_on_chain hs blocks (output_lock (on_it (contents s) x output)) height t input
        (names hs blocks (on_it (contents s) x output) (htlc_lock hs blocks s x output a) coin same_coin height t input (as_penalty blocks (contents s) x output height t input n)))
        (record {
          first = sha256 p.preimage;
          second = x.htlc.hash;
          of_first = (p.preimage, p.given, refl);
          of_second = record { holding = s.holding; held = s.held; number = s.number; commitment = s.commitment; signed = s.there; is = (x, a.among, refl) };
          collide = (λ d. false≢true (sym e ∙ (bytes_eq-Decides (sha256 p.preimage) x.htlc.hash).1 d), p.hashed);
        }))

    by_way : (height : ℕ) (t : Transaction) (input : TxIn) → IsNamedBy blocks (claim_of (contents s) x output) height t input → (r : IsRead hs (output_lock (on_it (contents s) x output)) height t input coin.height)
        → OpensHtlc (contents s) x.direction x.htlc output.value t (signed_input input r.items) → Standing hs blocks (contents s) (claim_of (contents s) x output)
    by_way height t input n r (by_revocation signed) =
        by_own height t input n (contents s).keys.revocation (owned height t input n r (contents s).keys.revocation (0, omega arith, refl) signed)
        (λ y same e k. broken (strings (not_both_keys (terms_in s.holding) s.commitment k)))
    by_way height t input n r (by_remote d signed) =
        by_own height t input n (contents s).keys.remote_htlc (owned height t input n r (contents s).keys.remote_htlc (1, omega arith, refl) signed)
        (λ y same e k. by_lock height t input n r.locks d (as_htlc t y same e))
    by_way height t input n r (opens_by_preimage d signed p) =
        let q = read_preimage hs (output_lock (on_it (contents s) x output)) height t input coin.height r (ripemd160 x.htlc.hash) p in
        by_shown height t input n d q (bytes_eq (sha256 q.preimage) x.htlc.hash) refl
    by_way height t input n r (by_expiry d signed lock) =
        by_own height t input n (contents s).keys.remote_htlc (owned height t input n r (contents s).keys.remote_htlc (1, omega arith, refl) signed)
        (λ y same e k.
        absurd (let above = not_above t (signed_input input r.items) (spelling (htlc_form (contents s).keys x.direction x.htlc).ops) output.value x.htlc.expiry_height lock in
        let is = lock_is (contents s) x t (as_htlc t y same e) in
        let zero = received_lock x d in
        let later = (kept_one hs s.watched.kept s.holding s.held).expiries s.number s.commitment s.there x a.among d in
        omega (arith, above, is, zero, later)))
    by_way height t input n r (opens_by_script z) =
        broken (script_breaks hs blocks s (on_it (contents s) x output) (htlc_lock hs blocks s x output a) coin same_coin height t input (as_penalty blocks (contents s) x output height t input n) r z)
    by_way height t input n r (opens_by_key z) =
        broken (key_breaks hs blocks s (on_it (contents s) x output) (htlc_lock hs blocks s x output a) coin same_coin height t input (as_penalty blocks (contents s) x output height t input n) r
        (contents s).keys.revocation (0, omega arith, refl) z)

    by_name : (height : ℕ) (t : Transaction) (input : TxIn) → IsNamedBy blocks (claim_of (contents s) x output) height t input → Standing hs blocks (contents s) (claim_of (contents s) x output)
    by_name height t input n =
        let m = as_penalty blocks (contents s) x output height t input n in
        let r = ran hs blocks s (on_it (contents s) x output) (htlc_lock hs blocks s x output a) coin same_coin height t input m in
        by_way height t input n r (opens hs blocks s x output a coin same_coin height t input m r)

pub peers_are_resolved : PeersAreResolved
peers_are_resolved hs blocks v h held n k there chain o (payment index output at e) =
    let s : Setting hs blocks = record { watched = v; holding = h; held = held; number = n; commitment = k; there = there; chain = chain } in
    subst (Standing hs blocks (contents_of (terms_in h) k)) (sym e)
    (resolved_remote hs blocks s (IsPaidOrLate false (contents_of (terms_in h) k) (payment_on (contents_of (terms_in h) k) (place_at (contents_of (terms_in h) k) index output))) index output at)
peers_are_resolved hs blocks v h held n k there chain o (direct x output at e) =
    let s : Setting hs blocks = record { watched = v; holding = h; held = held; number = n; commitment = k; there = there; chain = chain } in
    let c = contents_of (terms_in h) k in
    let coin = first_coin hs blocks s (on_it c x output) (htlc_lock hs blocks s x output at) x.index output at.at.there refl in
    let is = coin.is in
    subst (Standing hs blocks (contents_of (terms_in h) k)) (sym e) (direct_htlc hs blocks s x output at coin.coin (record { there = is.there; output = is.output }))
