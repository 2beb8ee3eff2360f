-- The claims on the node's own newest commitment are at different outpoints, at either stage of each HTLC.
use Rattle.std.proofs.Common.{◌≡◌, ℕ, ◌<◌, Bool, true, false, List, [], ◌∷◌, Some, sym, ap, ◌∙◌, refl, arith}
use Rattle.std.specs.Prelude.{slice_get, if◌then◌else◌}
use Rattle.std.specs.List.{Contains, AllPairs}
use Rattle.tx.specs.declared.input.OutPoint.{OutPoint}
use Rattle.tx.specs.Fields.{Transaction, unsigned_transaction}
use Rattle.tx.specs.Spelling.{transaction_id}
use Rattle.tx.proofs.Witnesses.{same_id}
use Rattle.chain.specs.Blocks.{Contents as Block}
use Rattle.terms.specs.declared.htlcs.Htlc.{Htlc}
use Rattle.commit.specs.declared.outputs.OutputKind.{OutputKind}
use Rattle.commit.specs.declared.outputs.OutputKind.TheVariants.{ToLocal, ToRemote, ToHtlc}
use Rattle.commit.specs.declared.outputs.CommitmentOutput.{CommitmentOutput}
use Rattle.commit.specs.declared.outputs.HtlcOutput.{HtlcOutput}
use Rattle.commit.specs.Commitments.{Contents, transaction_of, id_of, htlc_tx_of}
use Rattle.penalty.specs.Claimable.{Claimable, penalty_on}
use Rattle.resolve.specs.Due.{delayed_on, second_stage_on, delayed_second_stage}
use Rattle.worth_laws.specs.Shares.{counts_on}
use Rattle.worth_laws.specs.Counted.{counted_on, counted}
use Rattle.safety.specs.Whereabouts.{IsOnChain}
use Rattle.safety.specs.Holdings.{Holding, terms_in}
use Rattle.safety.specs.Places.{place_at, IsHtlcAt}
use Rattle.safety.specs.Premises.{output_lock, outputs_by}
use Rattle.safety.proofs.Slots.{contains_first}
use Rattle.safety.proofs.Fates.{bare_second}
use Rattle.safety.proofs.Seconds.{bare_commitment, standing, all_of}
use Rattle.safety.proofs.Distinct.{one_index}
use Rattle.safety.proofs.Outputs.{not_second}
use Rattle.safety.proofs.Places.{htlc_at_index}
use Rattle.balance_laws.proofs.Apart.{AreApart, IsOneAtMost, none, one, apart_from}
use Rattle.balance_laws.proofs.OwnOutputs.{OwnClose, contents, kind_made, htlc_made, second_made, standing_there}

-- two transactions of one id that stand are one, if it is that of an output of the node's channels
one_there : (hs : List Holding) (blocks : List Block) (s : OwnClose hs blocks) (o : Claimable) → Contains (outputs_by hs) (output_lock o) → (t u : Transaction) → IsOnChain blocks t → IsOnChain blocks u
    → unsigned_transaction t ≡ t → unsigned_transaction u ≡ u → transaction_id t ≡ o.place.outpoint.txid → transaction_id u ≡ o.place.outpoint.txid → t ≡ u
one_there hs blocks s o lock t u k l bare clean id rival =
    sym k.same
    ∙ s.watched.ledger.one (output_lock o) lock k.height l.height k.signed l.signed k.stands l.stands (same_id k.signed t (k.same ∙ sym bare) ∙ id) (same_id l.signed u (l.same ∙ sym clean) ∙ rival)
    ∙ l.same

-- an output for that of an index: at its place, or at that of its HTLC transaction's
data StandsFor (hs : List Holding) (blocks : List Block) (c : Contents) (index : ℕ) (o : Claimable) : Type 0 where
  itself : Contains (outputs_by hs) (output_lock o) → o.place.outpoint ≡ record { txid = id_of c; index = index } → StandsFor hs blocks c index o
  by_htlc : Contains (outputs_by hs) (output_lock o) → (x : HtlcOutput) → x.index ≡ index → IsOnChain blocks (htlc_tx_of c x) → o.place.outpoint ≡ record { txid = transaction_id (htlc_tx_of c x); index = 0 }
      → StandsFor hs blocks c index o

abbrev id_in : OutPoint → List ℕ
id_in p = p.txid

other_transaction : (hs : List Holding) (blocks : List Block) (s : OwnClose hs blocks) (o : Claimable) → Contains (outputs_by hs) (output_lock o) → (x : HtlcOutput) → IsOnChain blocks (htlc_tx_of (contents s) x)
    → id_of (contents s) ≡ o.place.outpoint.txid → transaction_id (htlc_tx_of (contents s) x) ≡ o.place.outpoint.txid → ⊥
other_transaction hs blocks s o lock x k id rival =
    let c = contents s in
    not_second (terms_in s.holding) s.commitment c x (one_there hs blocks s o lock (transaction_of c) (htlc_tx_of c x) s.chain k (bare_commitment c) (bare_second c x) id rival)

apart : (hs : List Holding) (blocks : List Block) (s : OwnClose hs blocks) (i j : ℕ) → i < j → (o p : Claimable) → StandsFor hs blocks (contents s) i o → StandsFor hs blocks (contents s) j p → AreApart o p
apart hs blocks s i j l o p (itself m a) (itself n b) e = let f : i ≡ j = ap (λ (q : OutPoint). q.index) (sym a ∙ e ∙ b) in omega (arith, f, l)
apart hs blocks s i j l o p (itself m a) (by_htlc n x at k b) e = other_transaction hs blocks s o m x k (ap id_in (sym a)) (ap id_in (sym b ∙ sym e))
apart hs blocks s i j l o p (by_htlc m x at k a) (itself n b) e = other_transaction hs blocks s o m x k (ap id_in (sym b ∙ sym e)) (ap id_in (sym a))
apart hs blocks s i j l o p (by_htlc m x at k a) (by_htlc n y there q b) e =
    let c = contents s in
    let f : x.index ≡ y.index = one_index c x y (one_there hs blocks s o m (htlc_tx_of c x) (htlc_tx_of c y) k q (bare_second c x) (bare_second c y) (ap id_in (sym a)) (ap id_in (sym b ∙ sym e))) in
    omega (arith, f, at, there, l)

-- the claim for an HTLC's output is at either stage
at_stage : (hs : List Holding) (blocks : List Block) (s : OwnClose hs blocks) (x : HtlcOutput) (output : CommitmentOutput) → IsHtlcAt (contents s) x output → (b : Bool) → standing blocks (contents s) x.index ≡ b
    → StandsFor hs blocks (contents s) x.index (if b then delayed_second_stage (contents s) x else second_stage_on (contents s) x (place_at (contents s) x.index output))
at_stage hs blocks s x output a false e = itself (htlc_made hs blocks s x output a) refl
at_stage hs blocks s x output a true e = by_htlc (second_made hs blocks s x output a) x refl (standing_there hs blocks s x output a e) refl

if_counted : (For : Claimable → Type 0) (b : Bool) (o : Claimable) → For o → IsOneAtMost For (if b then o ∷ [] else [])
if_counted For true o f = one o refl f
if_counted For false o f = none refl

gives_one : (hs : List Holding) (blocks : List Block) (s : OwnClose hs blocks) (known : Htlc → Bool) (index : ℕ) (output : CommitmentOutput) (kind : OutputKind) → slice_get (contents s).outputs index ≡ Some output → output.kind ≡ kind
    → IsOneAtMost (StandsFor hs blocks (contents s) index) (counted_on true known (standing blocks (contents s)) (contents s) index (place_at (contents s) index output) kind)
gives_one hs blocks s known index output ToLocal e k =
    let p = penalty_on (contents s) (place_at (contents s) index output) in
    one (delayed_on (contents s) (place_at (contents s) index output)) refl (itself (kind_made hs blocks s index output ToLocal (record { there = e; kind = k }) p (contains_first p [])) refl)
gives_one hs blocks s known index output ToRemote e k = none refl
gives_one hs blocks s known index output (ToHtlc direction h) e k =
    let c = contents s in
    let x : HtlcOutput = record { index = index; direction = direction; htlc = h } in
    let at = htlc_at_index c index output direction h e k in
    if_counted (StandsFor hs blocks c index) (counts_on true known (ToHtlc direction h)) (if standing blocks c index then delayed_second_stage c x else second_stage_on c x (place_at c index output))
    (at_stage hs blocks s x output at (standing blocks c index) refl)

pub own_apart : (hs : List Holding) (blocks : List Block) (s : OwnClose hs blocks) (known : Htlc → Bool) → AllPairs AreApart (counted true known (standing blocks (contents s)) (contents s))
own_apart hs blocks s known =
    let c = contents s in
    apart_from (StandsFor hs blocks c) (counted_on true known (standing blocks c) c) c (λ index output e. gives_one hs blocks s known index output output.kind e refl) (apart hs blocks s) 0 c.outputs (all_of c.outputs)
