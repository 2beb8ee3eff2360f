-- Where the outputs are that a revoked state lets the owner's peer claim, on a chain with its commitment.
use Rattle.std.proofs.Common.{◌≡◌, ℕ, ◌+◌, Bool, true, false, List, [], ◌∷◌, ◌++◌, map, length, Some, None, option_map, sym, ap, ◌∙◌, refl, subst, ⊎_elim, arith, length-append}
use Rattle.std.specs.Prelude.{slice_get, if◌then◌else◌}
use Rattle.std.specs.List.{Contains, All, AllByRecursion}
use Rattle.std.proofs.lemmas.Bool.{false≢true}
use Rattle.std.proofs.lemmas.List.Elements.{All-append}
use Rattle.std.proofs.lemmas.Option.{slice_get-map}
use Rattle.digest.specs.Hash.{hash160}
use Rattle.digest.specs.Ripemd160.{ripemd160}
use Rattle.digest.proofs.OutsideVectors.{length-ripemd160}
use Rattle.script.specs.Spelling.{spelling}
use Rattle.tx.specs.declared.input.OutPoint.{OutPoint}
use Rattle.tx.specs.declared.input.TxIn.{TxIn}
use Rattle.tx.specs.Fields.{Transaction, unsigned_transaction}
use Rattle.tx.specs.Spelling.{transaction_id}
use Rattle.tx.proofs.Witnesses.{same_id}
use Rattle.terms.specs.Scripts.{to_local, key_hash, offered, received}
use Rattle.terms.specs.declared.htlcs.Htlc.{Htlc}
use Rattle.chain.specs.Blocks.{Contents as Block, Coin, coin_at}
use Rattle.chain.specs.Indexing.{marked}
use Rattle.chain.specs.Checks.{coin_refusal}
use Rattle.chain.specs.Checked.{is_checked}
use Rattle.claim.specs.declared.parts.Place.{Place}
use Rattle.claim.specs.Fitting.{output_at}
use Rattle.commit.specs.declared.fees.Direction.{Direction}
use Rattle.commit.specs.declared.fees.Direction.TheVariants.{Offered, Received}
use Rattle.commit.specs.declared.outputs.OutputKind.{OutputKind}
use Rattle.commit.specs.declared.outputs.OutputKind.TheVariants.{ToLocal, ToRemote, ToHtlc}
use Rattle.commit.specs.declared.outputs.CommitmentOutput.{CommitmentOutput}
use Rattle.commit.specs.declared.outputs.HtlcOutput.{HtlcOutput}
use Rattle.commit.specs.Commitments.{Contents, tx_output, transaction_of, id_of, htlcs_of, htlc_tx_of, htlc_tx_output}
use Rattle.penalty.specs.declared.states.RevokedState.{RevokedState}
use Rattle.penalty.specs.Claimable.{Claimable, place_in, htlc_form, penalty_on, payment_on, htlc_penalty_on, second_stage_penalty, claims_by, commitment_in, claimable_of}
use Rattle.penalty.specs.Worth.{stage_on}
use Rattle.penalty.proofs.Programs.{same_htlc}
use Rattle.penalty.proofs.Second.{first_output}
use Rattle.penalty.proofs.Worth.{each_stage, each_claimable}
use Rattle.safety.specs.Signing.{Signed, IsSignable}
use Rattle.safety.specs.Spending.{spend_on, Takes}
use Rattle.safety.specs.Taking.{IsAsSigned}
use Rattle.safety.specs.Fates.{htlc_signed, signed_by_peer, Ending}
use Rattle.safety.specs.Whereabouts.{IsOnChain, HasCommitment, IsNamedBy, ShowsOnlyOn, IsCoinOf, Whereabouts, unspent, taken, NothingIsLost}
use Rattle.safety.proofs.Lists.{some_is}
use Rattle.safety.proofs.Limits.{htlcs_signable}
use Rattle.safety.proofs.Passed.{inputs_have_passed}
use Rattle.safety.proofs.Taking.{only_as_signed}
use Rattle.safety.proofs.Fates.{bare_second, IsForHtlc, taken_so}
use Rattle.safety.proofs.Standing.{naming, coin_there, spent_is}
use Rattle.safety.proofs.Indices.{htlc_in}
use Rattle.safety.proofs.Seconds.{bare_commitment, standing, found, stands_at, place_of, AreFrom, first_of, others_of, all_of}
use Rattle.safety.proofs.Distinct.{apart_from}

-- ---- no HTLC transaction is signed for another output than its HTLC's

abbrev first_byte : List ℕ → ℕ
first_byte [] = 0
first_byte (b ∷ bs) = b

-- to_local's script begins with IF, and an HTLC's with DUP
other_start : (revocation : List ℕ) (delay_blocks : ℕ) (delayed : List ℕ) (c : Contents) (direction : Direction) (h : Htlc) → spelling (to_local revocation delay_blocks delayed) ≡ spelling (htlc_form c.keys direction h).ops → ⊥
other_start revocation delay_blocks delayed c Offered h e = let f : 0x63 ≡ 0x76 = ap first_byte e in omega (arith, f)
other_start revocation delay_blocks delayed c Received h e = let f : 0x63 ≡ 0x76 = ap first_byte e in omega (arith, f)

pub not_on_to_local : (c : Contents) (place : Place) (t : Transaction) (input : TxIn) → IsForHtlc c (penalty_on c place) t input → ⊥
not_on_to_local c place t input f =
    let s = f.same in
    other_start c.keys.revocation c.delay_blocks c.keys.delayed c f.htlc.direction f.htlc.htlc (s.code ∙ same_htlc c.keys f.htlc.direction f.htlc.htlc)

-- an HTLC's script is longer than that of a key's hash
longer_offered : (key hash remote local payment : List ℕ) → length key ≡ 20 → length hash ≡ 20 → spelling (key_hash key) ≡ spelling (offered hash remote local payment) → ⊥
longer_offered key hash remote local payment k l e = let f = simp length-append at (ap length e) in omega (arith, k, l, f)

longer_received : (key hash remote local payment : List ℕ) (expiry_height : ℕ) → length key ≡ 20 → length hash ≡ 20 → spelling (key_hash key) ≡ spelling (received hash remote local payment expiry_height) → ⊥
longer_received key hash remote local payment expiry_height k l e = let f = simp length-append at (ap length e) in omega (arith, k, l, f)

longer : (c : Contents) (direction : Direction) (h : Htlc) → spelling (key_hash (hash160 c.keys.remote)) ≡ spelling (htlc_form c.keys direction h).ops → ⊥
longer c Offered h e = longer_offered (hash160 c.keys.remote) (hash160 c.keys.revocation) c.keys.remote_htlc c.keys.local_htlc (ripemd160 h.hash) (length-ripemd160 _) (length-ripemd160 _) e
longer c Received h e = longer_received (hash160 c.keys.remote) (hash160 c.keys.revocation) c.keys.remote_htlc c.keys.local_htlc (ripemd160 h.hash) h.expiry_height (length-ripemd160 _) (length-ripemd160 _) e

pub not_on_to_remote : (c : Contents) (place : Place) (t : Transaction) (input : TxIn) → IsForHtlc c (payment_on c place) t input → ⊥
not_on_to_remote c place t input f = let s = f.same in longer c f.htlc.direction f.htlc.htlc (s.code ∙ same_htlc c.keys f.htlc.direction f.htlc.htlc)

-- ---- what transactions pay

outputs_are : (c : Contents) → (transaction_of c).outputs ≡ map tx_output c.outputs
unfolding transaction_of
outputs_are c = refl

-- the commitment's output at an index, in a transaction that is it but for witnesses
pub commitment_pays : (c : Contents) (t : Transaction) (index : ℕ) (o : CommitmentOutput) → unsigned_transaction t ≡ transaction_of c → slice_get c.outputs index ≡ Some o → slice_get t.outputs index ≡ Some (tx_output o)
commitment_pays c t index o s e =
    let outputs : t.outputs ≡ map tx_output c.outputs = ap (λ (u : Transaction). u.outputs) s ∙ outputs_are c in
    ap (λ os. slice_get os index) outputs ∙ slice_get-map tx_output c.outputs index ∙ ap (option_map tx_output) e

pub second_pays : (c : Contents) (t : Transaction) (h : HtlcOutput) → unsigned_transaction t ≡ htlc_tx_of c h → slice_get t.outputs 0 ≡ Some (htlc_tx_output c h)
second_pays c t h s = first_output c h (unsigned_transaction t) s

-- what stands at a place
at_place : (blocks : List Block) (o : Claimable) (id : List ℕ) (index : ℕ) (own : List ℕ) → own ≡ id → o.place.outpoint ≡ record { txid = id; index = index } → (coin : Coin)
    → coin_at blocks (record { txid = own; index = index }) ≡ Some coin → coin.output ≡ output_at o.place → IsCoinOf blocks o coin
at_place blocks o id index own same at coin there is = record {
  there = ap (coin_at blocks) (at ∙ ap (λ (x : List ℕ). record { txid = x; index = index }) (sym same)) ∙ there;
  output = is;
}

-- whoever names an HTLC's output as the HTLC's own transaction does, stands there
pub none_stands : (blocks : List Block) (c : Contents) (index : ℕ) (o : Claimable) → o.place.outpoint ≡ record { txid = id_of c; index = index } → standing blocks c index ≡ false
    → (height : ℕ) (t : Transaction) (input : TxIn) → IsNamedBy blocks o height t input → IsForHtlc c o t input → ⊥
none_stands blocks c index o at e height t input n f =
    let s = f.same in
    let i : f.htlc.index ≡ index = sym (ap (λ (x : TxIn). x.outpoint.index) s.input) ∙ ap (λ (p : OutPoint). p.index) (n.names ∙ at) in
    let there : IsOnChain blocks (htlc_tx_of c f.htlc) = record { height = height; signed = t; stands = n.stands; same = s.transaction ∙ bare_second c f.htlc } in
    false≢true (sym e ∙ ap (λ k. standing blocks c k) (sym i) ∙ found blocks c f.htlc f.among there)

-- ---- the coins

record HasCoin (blocks : List Block) (o : Claimable) : Type 0 where
  coin : Coin
  is : IsCoinOf blocks o coin

first_coin : (blocks : List Block) (state : RevokedState) → HasCommitment blocks state → (index : ℕ) (o : CommitmentOutput) → slice_get (commitment_in state).outputs index ≡ Some o
    → (claim : Claimable) → claim.place ≡ place_of (commitment_in state) index o → HasCoin blocks claim
first_coin blocks state chain index o e claim at =
    let c = commitment_in state in
    let k = chain.commitment in
    let t = coin_there blocks chain.checked chain.grants k.height k.signed k.stands index (tx_output o) (commitment_pays c k.signed index o k.same e) in
    let id : transaction_id k.signed ≡ id_of c = same_id k.signed (transaction_of c) (k.same ∙ sym (bare_commitment c)) in
    let output : tx_output o ≡ output_at claim.place = ap output_at (sym at) in
    record { coin = t.coin; is = at_place blocks claim (id_of c) index (transaction_id k.signed) id (ap (λ (p : Place). p.outpoint) at) t.coin t.at (t.is ∙ output) }

second_coin : (blocks : List Block) (state : RevokedState) → HasCommitment blocks state → (h : HtlcOutput) → IsOnChain blocks (htlc_tx_of (commitment_in state) h) → HasCoin blocks (second_stage_penalty (commitment_in state) h)
second_coin blocks state chain h k =
    let c = commitment_in state in
    let t = coin_there blocks chain.checked chain.grants k.height k.signed k.stands 0 (htlc_tx_output c h) (second_pays c k.signed h k.same) in
    let id : transaction_id k.signed ≡ transaction_id (htlc_tx_of c h) = same_id k.signed (htlc_tx_of c h) (k.same ∙ sym (bare_second c h)) in
    record { coin = t.coin; is = at_place blocks (second_stage_penalty c h) (transaction_id (htlc_tx_of c h)) 0 (transaction_id k.signed) id refl t.coin t.at t.is }

-- ---- an output whose coin is at hand

passes : (blocks : List Block) → is_checked blocks ≡ true → (o : Claimable) (coin : Coin) → IsCoinOf blocks o coin → (height : ℕ) (t : Transaction) (input : TxIn) → IsNamedBy blocks o height t input
    → coin_refusal height t input (Some (marked false coin)) ≡ None
passes blocks checked o coin k height t input n =
    let p = inputs_have_passed blocks checked height t n.stands input n.within in
    let same : p.0 ≡ coin = some_is p.0 coin (sym p.1 ∙ ap (coin_at blocks) n.names ∙ k.there) in
    subst (λ (x : Coin). coin_refusal height t input (Some (marked false x)) ≡ None) same p.2

-- the premises of the law
record IsGiven (blocks : List Block) (state : RevokedState) (own : List Signed) : Type 0 where
  chain : HasCommitment blocks state
  all : All IsSignable own
  shows : ShowsOnlyOn blocks state own

ends : (blocks : List Block) (state : RevokedState) (own : List Signed) → IsGiven blocks state own → (o : Claimable) → Contains (claimable_of state) o → (coin : Coin) → IsCoinOf blocks o coin
    → (height : ℕ) (t : Transaction) (input : TxIn) → IsNamedBy blocks o height t input → (IsForHtlc (commitment_in state) o t input → ⊥) → Ending state o coin.height height t input own
ends blocks state own g o i coin k height t input n never =
    let c = commitment_in state in
    let chain = g.chain in
    let unmarked : Coin = record { output = coin.output; height = coin.height; spent = false } in
    let takes : Takes state o height t input unmarked = record { claimable = i; output = k.output; passes = passes blocks chain.checked o coin k height t input n } in
    let signed : IsAsSigned c.keys (signed_by_peer c own) (spend_on o t input) = record { limits = chain.limits height t n.stands; among = n.within; shows = g.shows o i height t input n } in
    let signable = All-append IsSignable (map (htlc_signed c) (htlcs_of c)) own (htlcs_signable state) g.all in
    ⊎_elim (λ (f : IsForHtlc c o t input). absurd (never f)) (λ (e : Ending state o coin.height height t input own). e)
    (taken_so state o coin.height height t input own (only_as_signed state o height t input unmarked takes (signed_by_peer c own) signable signed))

where_is : (blocks : List Block) (state : RevokedState) (own : List Signed) → IsGiven blocks state own → (o : Claimable) → Contains (claimable_of state) o → HasCoin blocks o
    → ((height : ℕ) (t : Transaction) (input : TxIn) → IsNamedBy blocks o height t input → IsForHtlc (commitment_in state) o t input → ⊥) → Whereabouts blocks state own o
where_is blocks state own g o i has never = by has.coin.spent refl
  where
    by : (b : Bool) → has.coin.spent ≡ b → Whereabouts blocks state own o
    by false e = unspent has.coin has.is e
    by true e =
        let k = has.is in
        let n = naming blocks o.place.outpoint (sym (spent_is blocks o.place.outpoint has.coin k.there) ∙ e) in
        let named : IsNamedBy blocks o n.height n.transaction n.input = record { stands = n.stands; within = n.within; names = n.named } in
        taken has.coin k n.height n.transaction n.input named (ends blocks state own g o i has.coin k n.height n.transaction n.input named (never n.height n.transaction n.input named))

-- ---- each of them

abbrev AreClaimable : RevokedState → List Claimable → Type 0
AreClaimable state os = AllByRecursion (Contains (claimable_of state)) os

abbrev HaveWhereabouts : List Block → RevokedState → List Signed → List Claimable → Type 0
HaveWhereabouts blocks state own os = AllByRecursion (Whereabouts blocks state own) os

-- of an HTLC's output, and of its transaction's, one is looked at
on_htlc : (blocks : List Block) (state : RevokedState) (own : List Signed) → IsGiven blocks state own → (index : ℕ) (o : CommitmentOutput) → slice_get (commitment_in state).outputs index ≡ Some o
    → (h : HtlcOutput) → h.index ≡ index → o.kind ≡ ToHtlc h.direction h.htlc → (b : Bool) → standing blocks (commitment_in state) index ≡ b
    → Contains (claimable_of state) (if b then second_stage_penalty (commitment_in state) h else htlc_penalty_on (commitment_in state) h.direction h.htlc (place_of (commitment_in state) index o))
    → Whereabouts blocks state own (if b then second_stage_penalty (commitment_in state) h else htlc_penalty_on (commitment_in state) h.direction h.htlc (place_of (commitment_in state) index o))
on_htlc blocks state own g index o e h at k false s i =
    let c = commitment_in state in
    let p = htlc_penalty_on c h.direction h.htlc (place_of c index o) in
    where_is blocks state own g p i (first_coin blocks state g.chain index o e p refl) (none_stands blocks c index p refl s)
on_htlc blocks state own g index o e h at k true s i =
    let c = commitment_in state in
    let from : h.index ≡ 0 + index = omega (arith, at) in
    let there = stands_at blocks state g.chain h (record { place = index; output = o; there = e; at = from; kind = k }) (ap (λ n. standing blocks c n) at ∙ s) in
    let place = place_in (htlc_tx_of c h) 0 (htlc_tx_output c h) in
    where_is blocks state own g (second_stage_penalty c h) i (second_coin blocks state g.chain h there) (λ height t input n f. not_on_to_local c place t input f)

on_kind : (blocks : List Block) (state : RevokedState) (own : List Signed) → IsGiven blocks state own → (index : ℕ) (o : CommitmentOutput) → slice_get (commitment_in state).outputs index ≡ Some o
    → (rest : List Claimable) → (AreClaimable state rest → HaveWhereabouts blocks state own rest) → (kind : OutputKind) → o.kind ≡ kind
    → AreClaimable state (stage_on (standing blocks (commitment_in state)) (commitment_in state) index (place_of (commitment_in state) index o) kind ++ rest)
    → HaveWhereabouts blocks state own (stage_on (standing blocks (commitment_in state)) (commitment_in state) index (place_of (commitment_in state) index o) kind ++ rest)
on_kind blocks state own g index o e rest go ToLocal k a =
    let c = commitment_in state in
    let p = penalty_on c (place_of c index o) in
    (where_is blocks state own g p a.0 (first_coin blocks state g.chain index o e p refl) (λ height t input n f. not_on_to_local c (place_of c index o) t input f), go a.1)
on_kind blocks state own g index o e rest go ToRemote k a =
    let c = commitment_in state in
    let p = payment_on c (place_of c index o) in
    (where_is blocks state own g p a.0 (first_coin blocks state g.chain index o e p refl) (λ height t input n f. not_on_to_remote c (place_of c index o) t input f), go a.1)
on_kind blocks state own g index o e rest go (ToHtlc direction htlc) k a =
    let h : HtlcOutput = record { index = index; direction = direction; htlc = htlc } in
    (on_htlc blocks state own g index o e h refl k (standing blocks (commitment_in state) index) refl a.0, go a.1)

each_from : (blocks : List Block) (state : RevokedState) (own : List Signed) → IsGiven blocks state own → (index : ℕ) (os : List CommitmentOutput) → AreFrom (commitment_in state).outputs index os
    → AreClaimable state (claims_by (stage_on (standing blocks (commitment_in state)) (commitment_in state)) (commitment_in state) index os)
    → HaveWhereabouts blocks state own (claims_by (stage_on (standing blocks (commitment_in state)) (commitment_in state)) (commitment_in state) index os)
unfolding claims_by
each_from blocks state own g index [] at a = tt
each_from blocks state own g index (o ∷ os) at a =
    let c = commitment_in state in
    on_kind blocks state own g index o (first_of c.outputs index o os at) (claims_by (stage_on (standing blocks c) c) c (index + 1) os)
    (each_from blocks state own g (index + 1) os (others_of c.outputs index o os at)) o.kind refl a

pub nothing_is_lost : NothingIsLost
nothing_is_lost state blocks chain own all shows =
    let c = commitment_in state in
    record {
      stands = standing blocks c;
      those = λ h i. ((λ e. stands_at blocks state chain h (htlc_in 0 c.outputs h i) e), (λ o. found blocks c h i o));
      claimable = each_claimable state (standing blocks c);
      apart = apart_from blocks state chain 0 c.outputs (all_of c.outputs);
      worth = each_stage state (standing blocks c);
      each = each_from blocks state own (record { chain = chain; all = all; shows = shows }) 0 c.outputs (all_of c.outputs) (each_claimable state (standing blocks c));
    }
