-- The node's own newest commitment on a chain: its outputs, those of its HTLC transactions, and the coins that they make.
use Rattle.std.proofs.Common.{◌≡◌, ℕ, zero, suc, ◌+◌, ◌^◌, ◌<◌, ◌≤◌, Bool, true, false, List, [], ◌∷◌, ◌++◌, length, Some, sym, ap, ◌∙◌, refl, subst, arith}
use Rattle.std.specs.Prelude.{◌↔◌, ◌&&◌, ◌==◌, slice_get}
use Rattle.std.specs.List.{Contains, list_any}
use Rattle.std.specs.Str.{bytes_eq}
use Rattle.std.proofs.lemmas.Bool.{and_parts, eqb-true}
use Rattle.std.proofs.lemmas.List.Elements.{All-contains, Contains-append_left, Contains-append_right}
use Rattle.std.proofs.lemmas.Option.{same_Some}
use Rattle.std.proofs.lemmas.Slice.Eq.{bytes_eq-Decides}
use Rattle.digest.specs.Hash.{sha256d}
use Rattle.script.specs.Spelling.{spelling}
use Rattle.tx.specs.declared.input.TxIn.{TxIn}
use Rattle.tx.specs.declared.limits.TheConstants.{MAX_VALUE}
use Rattle.tx.specs.Fields.{Transaction}
use Rattle.tx.specs.Spelling.{stripped_spelling, transaction_id}
use Rattle.tx.proofs.Witnesses.{same_id}
use Rattle.chain.specs.Blocks.{Contents as Block, Coin}
use Rattle.terms.specs.declared.agreement.Terms.{Terms}
use Rattle.terms.specs.Scripts.{to_local}
use Rattle.claim.specs.declared.parts.Place.{Place}
use Rattle.claim.specs.Fitting.{output_at}
use Rattle.commit.specs.declared.outputs.OutputKind.{OutputKind}
use Rattle.commit.specs.declared.outputs.CommitmentOutput.{CommitmentOutput}
use Rattle.commit.specs.declared.outputs.HtlcOutput.{HtlcOutput}
use Rattle.commit.specs.Commitments.{Contents, tx_output, transaction_of, htlcs_of, htlc_tx_of, htlc_tx_output, IsOutputOf}
use Rattle.penalty.specs.Outputs.{program_of, HasHeight, IsOutput}
use Rattle.penalty.specs.Paying.{CanPay}
use Rattle.penalty.specs.Claimable.{Claimable, htlc_penalty_on, second_stage_penalty, claims_on, claims_by, claims_from}
use Rattle.penalty.proofs.Standing.{outputs_stand}
use Rattle.channel.specs.declared.commitments.CommitmentState.{CommitmentState}
use Rattle.channel.specs.Tokens.{contents_of}
use Rattle.safety.specs.Standing.{StandsAt}
use Rattle.safety.specs.Whereabouts.{IsOnChain, IsNamedBy, IsCoinOf}
use Rattle.safety.specs.Recorded.{IsPayable, of_htlc}
use Rattle.safety.specs.Places.{place_at, IsAt, IsHtlcAt}
use Rattle.safety.specs.Holdings.{Holding, terms_in}
use Rattle.safety.specs.Premises.{output_lock, locks_of, outputs_in, outputs_by, none_revokes}
use Rattle.safety.specs.Closers.{IsWatched}
use Rattle.safety.proofs.Slots.{contains_first, contains_later}
use Rattle.safety.proofs.Lists.{none_some, contained, contains_map, any_found, at_reversed}
use Rattle.safety.proofs.Tests.{flat_in}
use Rattle.safety.proofs.Claimed.{AreKeys}
use Rattle.safety.proofs.Limits.{no_longer}
use Rattle.safety.proofs.Spelt.{to_local_ops}
use Rattle.safety.proofs.Standing.{naming, spent_is}
use Rattle.safety.proofs.Stripped.{has_stripped}
use Rattle.safety.proofs.Ids.{id_is, unsigned_limits, same_stripped}
use Rattle.safety.proofs.Indices.{htlc_in, one_htlc}
use Rattle.safety.proofs.Fates.{bare_second}
use Rattle.safety.proofs.Seconds.{bare_commitment, standing, found}
use Rattle.safety.proofs.Whereabouts.{commitment_pays, second_pays}
use Rattle.safety.proofs.Recorded.{limited, recorded_limits}
use Rattle.safety.proofs.Places.{Rule}
use Rattle.safety.proofs.Handed.{own_payable}
use Rattle.safety.proofs.Own.{kept_one, made_locked, Names}
use Rattle.safety.proofs.Reading.{IsRead, read}
use Rattle.balance_laws.specs.Own.{KeepsOwnRules}

-- ---- what the lemmas are given

pub record OwnClose (hs : List Holding) (blocks : List Block) : Type 0 where
  pub watched : IsWatched hs blocks
  pub unrevoked : none_revokes hs blocks ≡ true
  pub holding : Holding
  pub held : Contains hs holding
  pub rules : KeepsOwnRules holding
  pub commitment : CommitmentState
  pub there : slice_get holding.state.mine holding.state.number ≡ Some commitment
  pub chain : IsOnChain blocks (transaction_of (contents_of (terms_in holding) commitment))

abbrev pub contents : {hs : List Holding} {blocks : List Block} → OwnClose hs blocks → Contents
contents s = contents_of (terms_in s.holding) s.commitment

pub payable : (hs : List Holding) (blocks : List Block) (s : OwnClose hs blocks) → IsPayable (terms_in s.holding) s.commitment
payable hs blocks s = (own_payable s.holding (kept_one hs s.watched.kept s.holding s.held) s.holding.state.number s.commitment s.there).payable

-- ---- an output of a commitment

-- what is true of it
pub record Stood (c : Contents) (output : CommitmentOutput) : Type 0 where
  pub program : output.program ≡ program_of c.delay_blocks c.keys output.kind
  pub height : HasHeight output.kind
  pub low : output.value ≤ MAX_VALUE

pub stood : (terms : Terms) (k : CommitmentState) → CanPay terms k.view → (index : ℕ) (output : CommitmentOutput) → slice_get (contents_of terms k).outputs index ≡ Some output → Stood (contents_of terms k) output
stood terms k p index output e =
    let c = contents_of terms k in
    let within = contained c.outputs index output e in
    let stands : IsOutput c.delay_blocks c.keys output = All-contains (λ o. IsOutput c.delay_blocks c.keys o) c.outputs output (outputs_stand terms k.view k.owner k.number k.point.bytes p).each within in
    let limits : IsOutputOf c.keys output = All-contains (λ o. IsOutputOf c.keys o) c.outputs output (limited terms k p) within in
    record { program = stands.program; height = stands.height; low = limits.limits.value }

-- what an output gives by a rule is among what all give
into : (on : Rule) (c : Contents) (first : ℕ) (os : List CommitmentOutput) (place : ℕ) (output : CommitmentOutput) → slice_get os place ≡ Some output
    → (o : Claimable) → Contains (on (first + place) (place_at c (first + place) output) output.kind) o → Contains (claims_by on c first os) o
unfolding claims_by
into on c first [] place output e o i = absurd (none_some output e)
into on c first (p ∷ os) zero output e o i =
    let at : first + 0 ≡ first = omega arith in
    let here : Contains (on first (place_at c first output) output.kind) o = subst (λ n. Contains (on n (place_at c n output) output.kind) o) at i in
    Contains-append_left (on first (place_at c first p) p.kind) (claims_by on c (first + 1) os) o
    (subst (λ (q : CommitmentOutput). Contains (on first (place_at c first q) q.kind) o) (sym (same_Some p output e)) here)
into on c first (p ∷ os) (suc place) output e o i =
    let at : first + suc place ≡ first + 1 + place = omega arith in
    Contains-append_right (on first (place_at c first p) p.kind) (claims_by on c (first + 1) os) o
    (into on c (first + 1) os place output e o (subst (λ n. Contains (on n (place_at c n output) output.kind) o) at i))

among_claims : (c : Contents) (index : ℕ) (output : CommitmentOutput) → slice_get c.outputs index ≡ Some output → (o : Claimable) → Contains (claims_on c index (place_at c index output) output.kind) o
    → Contains (claims_from c 0 c.outputs) o
among_claims c index output e o i =
    let at : index ≡ 0 + index = omega arith in
    into (claims_on c) c 0 c.outputs index output e o (subst (λ n. Contains (claims_on c n (place_at c n output) output.kind) o) at i)

-- it is one of those that the node's channels make
own_made : (hs : List Holding) (blocks : List Block) (s : OwnClose hs blocks) (o : Claimable) → Contains (claims_from (contents s) 0 (contents s).outputs) o → Contains (outputs_by hs) (output_lock o)
own_made hs blocks s o i =
    let h = s.holding in
    flat_in outputs_in hs h (output_lock o) s.held
    (flat_in (λ (m : CommitmentState). locks_of (contents_of (terms_in h) m)) (h.state.signed ++ h.state.mine) s.commitment (output_lock o)
    (Contains-append_right h.state.signed h.state.mine s.commitment (contained h.state.mine h.state.number s.commitment s.there)) (contains_map output_lock (claims_from (contents s) 0 (contents s).outputs) o i))

pub kind_made : (hs : List Holding) (blocks : List Block) (s : OwnClose hs blocks) (index : ℕ) (output : CommitmentOutput) (kind : OutputKind) → IsAt (contents s) index output kind
    → (o : Claimable) → Contains (claims_on (contents s) index (place_at (contents s) index output) kind) o → Contains (outputs_by hs) (output_lock o)
kind_made hs blocks s index output kind a o i =
    own_made hs blocks s o (among_claims (contents s) index output a.there o (subst (λ (x : OutputKind). Contains (claims_on (contents s) index (place_at (contents s) index output) x) o) (sym a.kind) i))

-- an HTLC's output, and that of its HTLC transaction
pub htlc_made : (hs : List Holding) (blocks : List Block) (s : OwnClose hs blocks) (x : HtlcOutput) (output : CommitmentOutput) → IsHtlcAt (contents s) x output
    → Contains (outputs_by hs) (output_lock (htlc_penalty_on (contents s) x.direction x.htlc (place_at (contents s) x.index output)))
htlc_made hs blocks s x output a =
    let first = htlc_penalty_on (contents s) x.direction x.htlc (place_at (contents s) x.index output) in
    kind_made hs blocks s x.index output _ a.at first (contains_first first (second_stage_penalty (contents s) x ∷ []))

pub second_made : (hs : List Holding) (blocks : List Block) (s : OwnClose hs blocks) (x : HtlcOutput) (output : CommitmentOutput) → IsHtlcAt (contents s) x output
    → Contains (outputs_by hs) (output_lock (second_stage_penalty (contents s) x))
second_made hs blocks s x output a =
    let first = htlc_penalty_on (contents s) x.direction x.htlc (place_at (contents s) x.index output) in
    let second = second_stage_penalty (contents s) x in
    kind_made hs blocks s x.index output _ a.at second (contains_later first (second ∷ []) second (contains_first second []))

-- ---- coins

pub record HasCoin (blocks : List Block) (o : Claimable) : Type 0 where
  pub coin : Coin
  pub is : IsCoinOf blocks o coin

pub first_coin : (hs : List Holding) (blocks : List Block) (s : OwnClose hs blocks) (o : Claimable) → Contains (outputs_by hs) (output_lock o)
    → (index : ℕ) (output : CommitmentOutput) → slice_get (contents s).outputs index ≡ Some output → o.place ≡ place_at (contents s) index output → HasCoin blocks o
first_coin hs blocks s o lock index output e at =
    let c = contents s in
    let k = s.chain in
    let id : transaction_id k.signed ≡ o.place.outpoint.txid = same_id k.signed (transaction_of c) (k.same ∙ sym (bare_commitment c)) ∙ ap (λ (p : Place). p.outpoint.txid) (sym at) in
    let pays : slice_get k.signed.outputs o.place.outpoint.index ≡ Some (tx_output output)
    = ap (λ (p : Place). slice_get k.signed.outputs p.outpoint.index) at ∙ commitment_pays c k.signed index output k.same e in
    let m = s.watched.ledger.coins (output_lock o) lock k.height k.signed k.stands (tx_output output) (record { id = id; there = pays }) in
    record { coin = m.0; is = record { there = m.1; output = m.2 ∙ ap output_at (sym at) } }

pub second_coin : (hs : List Holding) (blocks : List Block) (s : OwnClose hs blocks) (x : HtlcOutput) → Contains (outputs_by hs) (output_lock (second_stage_penalty (contents s) x)) → IsOnChain blocks (htlc_tx_of (contents s) x)
    → HasCoin blocks (second_stage_penalty (contents s) x)
second_coin hs blocks s x lock k =
    let c = contents s in
    let id : transaction_id k.signed ≡ transaction_id (htlc_tx_of c x) = same_id k.signed (htlc_tx_of c x) (k.same ∙ sym (bare_second c x)) in
    let m = s.watched.ledger.coins (output_lock (second_stage_penalty c x)) lock k.height k.signed k.stands (htlc_tx_output c x) (record { id = id; there = second_pays c k.signed x k.same }) in
    record { coin = m.0; is = record { there = m.1; output = m.2 } }

-- it is unspent, or an input names it
pub settled : (blocks : List Block) (P : Type 0) (o : Claimable) (coin : Coin) → IsCoinOf blocks o coin → (coin.spent ≡ false → P)
    → ((height : ℕ) (t : Transaction) (input : TxIn) → IsNamedBy blocks o height t input → P) → P
settled blocks P o coin is free named = by coin.spent refl
  where
    by : (b : Bool) → coin.spent ≡ b → P
    by false e = free e
    by true e =
        let n = naming blocks o.place.outpoint (sym (spent_is blocks o.place.outpoint coin is.there) ∙ e) in
        named n.height n.transaction n.input (record { stands = n.stands; within = n.within; names = n.named })

pub names : (hs : List Holding) (blocks : List Block) (o : Claimable) → Contains (outputs_by hs) (output_lock o) → (coin : Coin) → IsCoinOf blocks o coin
    → (height : ℕ) (t : Transaction) (input : TxIn) → IsNamedBy blocks o height t input → Names hs blocks (output_lock o) height t input
names hs blocks o lock coin is height t input n =
    record { locked = made_locked hs (output_lock o) lock; coin = coin; there = record { there = is.there; output = is.output }; stands = n.stands; within = n.within; names = n.names }

pub ran : (hs : List Holding) (blocks : List Block) (s : OwnClose hs blocks) (o : Claimable) → Contains (outputs_by hs) (output_lock o) → (coin : Coin) → IsCoinOf blocks o coin
    → (height : ℕ) (t : Transaction) (input : TxIn) → IsNamedBy blocks o height t input → IsRead hs (output_lock o) height t input coin.height
unfolding names
ran hs blocks s o lock coin is height t input n = read hs blocks s.watched.ledger (output_lock o) height t input (names hs blocks o lock coin is height t input n)

-- ---- which HTLC transactions stand

-- a transaction of these bytes is the HTLC's
stands_there : (hs : List Holding) (blocks : List Block) (s : OwnClose hs blocks) (x : HtlcOutput) → Contains (htlcs_of (contents s)) x → Contains (outputs_by hs) (output_lock (second_stage_penalty (contents s) x))
    → has_stripped blocks (htlc_tx_of (contents s) x) ≡ true → IsOnChain blocks (htlc_tx_of (contents s) x)
stands_there hs blocks s x i lock e =
    let u = htlc_tx_of (contents s) x in
    let b = any_found (λ (y : Block). list_any (λ (t : Transaction). bytes_eq (stripped_spelling t) (stripped_spelling u)) y.transactions) blocks e in
    let t = any_found (λ (t : Transaction). bytes_eq (stripped_spelling t) (stripped_spelling u)) b.0.transactions b.2 in
    let h = at_reversed blocks b.0 b.1 in
    let stands : StandsAt blocks h.0 t.0 = record { block = b.0; there = h.1; within = t.1 } in
    let same : stripped_spelling t.0 ≡ stripped_spelling u = (bytes_eq-Decides (stripped_spelling t.0) (stripped_spelling u)).0 t.2 in
    let id : transaction_id t.0 ≡ transaction_id u = id_is t.0 ∙ ap sha256d same ∙ sym (id_is u) in
    let limits = s.watched.ledger.limits (output_lock (second_stage_penalty (contents s) x)) lock h.0 t.0 stands id in
    let whole = recorded_limits (terms_in s.holding) s.commitment (payable hs blocks s) u (of_htlc x i refl) in
    record { height = h.0; signed = t.0; stands = stands; same = same_stripped t.0 u limits (unsigned_limits u whole) same ∙ bare_second (contents s) x }

pub standing_there : (hs : List Holding) (blocks : List Block) (s : OwnClose hs blocks) (x : HtlcOutput) (output : CommitmentOutput) → IsHtlcAt (contents s) x output → standing blocks (contents s) x.index ≡ true
    → IsOnChain blocks (htlc_tx_of (contents s) x)
standing_there hs blocks s x output a e =
    let c = contents s in
    let f = any_found (λ (g : HtlcOutput). g.index == x.index && has_stripped blocks (htlc_tx_of c g)) (htlcs_of c) e in
    let q = and_parts (f.0.index == x.index) (has_stripped blocks (htlc_tx_of c f.0)) f.2 in
    let same : f.0 ≡ x = one_htlc 0 c.outputs f.0 x (htlc_in 0 c.outputs f.0 f.1) (htlc_in 0 c.outputs x a.among) (eqb-true f.0.index x.index q.0) in
    stands_there hs blocks s x a.among (second_made hs blocks s x output a) (subst (λ (g : HtlcOutput). has_stripped blocks (htlc_tx_of (contents s) g) ≡ true) same q.1)

pub those_stand : (hs : List Holding) (blocks : List Block) (s : OwnClose hs blocks) (x : HtlcOutput) → Contains (htlcs_of (contents s)) x → (standing blocks (contents s) x.index ≡ true) ↔ IsOnChain blocks (htlc_tx_of (contents s) x)
those_stand hs blocks s x i = ((λ e. stands_by e), (λ o. found blocks (contents s) x i o))
  where
    stands_by : standing blocks (contents s) x.index ≡ true → IsOnChain blocks (htlc_tx_of (contents s) x)
    stands_by e =
        let at = htlc_in 0 (contents s).outputs x i in
        let index : at.place ≡ x.index = let n = at.at in omega (arith, n) in
        standing_there hs blocks s x at.output
        (record { at = record { there = subst (λ (m : ℕ). slice_get (contents s).outputs m ≡ Some at.output) index at.there; kind = at.kind }; among = i }) e

-- ---- limits

pub local_short : (c : Contents) → AreKeys c.keys → c.delay_blocks < 2 ^ 16 → length (spelling (to_local c.keys.revocation c.delay_blocks c.keys.delayed)) ≤ 10000
local_short c k l = no_longer _ _ (to_local_ops c.keys.revocation c.delay_blocks c.keys.delayed l k.revocation k.delayed)

pub htlc_low : (hs : List Holding) (blocks : List Block) (s : OwnClose hs blocks) (x : HtlcOutput) (output : CommitmentOutput) → IsHtlcAt (contents s) x output → output.value ≤ MAX_VALUE
htlc_low hs blocks s x output a = (stood (terms_in s.holding) s.commitment (payable hs blocks s).view x.index output a.at.there).low
