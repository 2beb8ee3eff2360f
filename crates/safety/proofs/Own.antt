-- What an input on the chain is, by a token of the node's that it shows.
use Rattle.std.proofs.Common.{◌≡◌, ℕ, ◌+◌, ◌^◌, ◌<◌, ◌≤◌, Bool, true, false, List, [], ◌∷◌, ◌++◌, map, length, Some, sym, ap, ◌∙◌, refl, subst, inl, inr, ⊎_elim, arith}
use Rattle.std.specs.Prelude.{◌⊎◌, not, ◌||◌, slice_get, if◌then◌else◌}
use Rattle.std.specs.List.{Contains, All, Any, flat_map}
use Rattle.std.proofs.lemmas.List.Elements.{All-from_recursion, All-contains, Contains-append_left, Contains-append_right}
use Rattle.script.specs.Spelling.{spelling}
use Rattle.script.specs.Token.{token_of}
use Rattle.tx.specs.declared.input.OutPoint.{OutPoint}
use Rattle.tx.specs.declared.input.TxIn.{TxIn}
use Rattle.tx.specs.Fields.{Transaction, IsInput, signed_input, unsigned_inputs}
use Rattle.chain.specs.Blocks.{Contents as Block, Coin}
use Rattle.terms.specs.declared.agreement.Terms.{Terms}
use Rattle.terms.specs.Scripts.{is_lesser, two_of_two}
use Rattle.commit.specs.declared.outputs.HtlcOutput.{HtlcOutput}
use Rattle.commit.specs.Commitments.{Contents, transaction_of, id_of, htlcs_of}
use Rattle.commit.specs.Signing.{funding_script}
use Rattle.penalty.specs.Claimable.{Claimable, claims_from}
use Rattle.channel.specs.declared.commitments.CommitmentState.{CommitmentState}
use Rattle.channel.specs.Tokens.{contents_of, htlc_key}
use Rattle.digest.specs.Hash.{sha256d, Collide}
use Rattle.safety.specs.Signing.{Collision, Signed, FieldsFit, IsSignable, digest_of, AreSame, ListsCollide}
use Rattle.safety.specs.Spending.{IsSignedBy, peer_keys}
use Rattle.safety.specs.Standing.{StandsAt}
use Rattle.safety.specs.Recorded.{IsPayable}
use Rattle.safety.specs.Places.{IsOutPointOf}
use Rattle.safety.specs.Outputs.{IsOneOutput}
use Rattle.safety.specs.Fates.{htlc_signed}
use Rattle.safety.specs.Holdings.{Release, claim_signed, released, Holding, terms_in, funding_key_in, KeepsRules, EachKeepsRules}
use Rattle.safety.specs.Given.{GivenToken, token_bytes, commitment_signed, given_in, given_by}
use Rattle.safety.specs.Premises.{LockedOutput, spend, funding_lock, output_lock, locks_of, outputs_in, outputs_by, locks_in, locks_by, owner_keys, keys_in, keys_by, each_spend, has_item, shows_given, are_own, secret_keys}
use Rattle.safety.specs.Ledgers.{SpendsCoin, IsCoinAt, IsLedger}
use Rattle.safety.specs.Breaks.{IsSpendOn, IsHashedForId, IsForPeers, Breaks, by_ids, by_digest}
use Rattle.safety.specs.Closers.{IsWatched}
use Rattle.safety.specs.Resolutions.{WasReleased}
use Rattle.safety.proofs.Slots.{contains_later}
use Rattle.safety.proofs.Lists.{some_is, contained, contains_map}
use Rattle.safety.proofs.Signing.{one_token_signs}
use Rattle.safety.proofs.Recorded.{same_number}
use Rattle.safety.proofs.Outputs.{IdsCollide, one_place}
use Rattle.safety.proofs.Takers.{named_by, one_of_two, same_funding}
use Rattle.safety.proofs.Tests.{in_flat, flat_in, as_any, from_map, all_hold, has, has_one, or_then, on_input, on_spend}
use Rattle.safety.proofs.Handed.{peers_payable, IsFrom, with_peers, with_htlc, with_released, with_own, given_from, key_long, given_signable}

-- ---- a channel's outputs and keys are the node's

pub kept_one : (hs : List Holding) → EachKeepsRules hs → (h : Holding) → Contains hs h → KeepsRules h
kept_one hs kept h held = All-contains KeepsRules hs h (All-from_recursion KeepsRules hs kept.each) held

pub funding_locked : (hs : List Holding) (h : Holding) → Contains hs h → Contains (locks_by hs) (funding_lock (terms_in h))
funding_locked hs h held = flat_in locks_in hs h (funding_lock (terms_in h)) held (0, omega arith, refl)

-- an output of one of the peer's commitments
output_in : (h : Holding) (n : ℕ) (k : CommitmentState) → slice_get h.state.signed n ≡ Some k
    → (o : Claimable) → Contains (claims_from (contents_of (terms_in h) k) 0 (contents_of (terms_in h) k).outputs) o → Contains (outputs_in h) (output_lock o)
output_in h n k there o i =
    let c = contents_of (terms_in h) k in
    flat_in (λ (m : CommitmentState). locks_of (contents_of (terms_in h) m)) (h.state.signed ++ h.state.mine) k (output_lock o)
    (Contains-append_left h.state.signed h.state.mine k (contained h.state.signed n k there)) (contains_map output_lock (claims_from c 0 c.outputs) o i)

-- so it is one of those that the node's channels make, and is locked
pub output_made : (hs : List Holding) (h : Holding) → Contains hs h → (n : ℕ) (k : CommitmentState) → slice_get h.state.signed n ≡ Some k
    → (o : Claimable) → Contains (claims_from (contents_of (terms_in h) k) 0 (contents_of (terms_in h) k).outputs) o → Contains (outputs_by hs) (output_lock o)
output_made hs h held n k there o i = flat_in outputs_in hs h (output_lock o) held (output_in h n k there o i)

pub made_locked : (hs : List Holding) (w : LockedOutput) → Contains (outputs_by hs) w → Contains (locks_by hs) w
made_locked hs w i = let h = in_flat outputs_in hs w i in flat_in locks_in hs h.0 w h.1 (contains_later (funding_lock (terms_in h.0)) (outputs_in h.0) w h.2)

pub funding_key_own : (hs : List Holding) (h : Holding) → Contains hs h → Contains (keys_by hs) (funding_key_in h)
funding_key_own hs h held = flat_in keys_in hs h (funding_key_in h) held (0, omega arith, refl)

pub peers_key_own : (hs : List Holding) (h : Holding) → Contains hs h → (n : ℕ) (k : CommitmentState) → slice_get h.state.signed n ≡ Some k
    → (key : List ℕ) → Contains (peer_keys (contents_of (terms_in h) k).keys) key → Contains (keys_by hs) key
peers_key_own hs h held n k there key i =
    let mine = flat_map (λ (m : CommitmentState). owner_keys (contents_of (terms_in h) m)) h.state.mine in
    let theirs = flat_map (λ (m : CommitmentState). peer_keys (contents_of (terms_in h) m).keys) h.state.signed in
    flat_in keys_in hs h key held
    (contains_later (funding_key_in h) (theirs ++ mine) key
    (Contains-append_left theirs mine key (flat_in (λ (m : CommitmentState). peer_keys (contents_of (terms_in h) m).keys) h.state.signed k key (contained h.state.signed n k there) i)))

-- ---- which token it is

-- a token of the node's in an input is one that it gave out
record WasGiven (hs : List Holding) (key : List ℕ) (s : Signed) : Type 0 where
  token : GivenToken
  among : Contains (given_by hs) token
  same : token_of key (digest_of s) ≡ token_of token.key (digest_of token.over)

was_given : (hs : List Holding) (blocks : List Block) → are_own hs blocks ≡ true → (w : LockedOutput) → Contains (locks_by hs) w → (height : ℕ) (t : Transaction) (input : TxIn) → StandsAt blocks height t
    → Contains t.inputs input → input.outpoint ≡ w.place.outpoint → (key : List ℕ) → Contains (keys_by hs) key → IsSignedBy key (spend w t input) → WasGiven hs key (spend w t input)
was_given hs blocks e w i height t input s within names key k signed =
    let digest = digest_of (spend w t input) in
    let a = on_input (each_spend (shows_given (map token_bytes (given_by hs)) (keys_by hs)) (locks_by hs)) blocks e height t input s within in
    let b = on_spend (shows_given (map token_bytes (given_by hs)) (keys_by hs)) (locks_by hs) t input a w i names in
    let c = all_hold (λ (x : List ℕ). not (has_item input.witness (token_of x digest)) || has_item (map token_bytes (given_by hs)) (token_of x digest)) (keys_by hs) b key k in
    let d = or_then (has_item input.witness (token_of key digest)) (has_item (map token_bytes (given_by hs)) (token_of key digest)) (has input.witness (token_of key digest) signed) c in
    let r = from_map token_bytes (given_by hs) (token_of key digest) (has_one (map token_bytes (given_by hs)) (token_of key digest) d) in
    record { token = r.0; among = r.1; same = sym r.2 }

-- an input on the chain names one of the node's outputs, which stands there
pub record Names (hs : List Holding) (blocks : List Block) (w : LockedOutput) (height : ℕ) (t : Transaction) (input : TxIn) : Type 0 where
  pub locked : Contains (locks_by hs) w
  pub coin : Coin
  pub there : IsCoinAt blocks w coin
  pub stands : StandsAt blocks height t
  pub within : Contains t.inputs input
  pub names : input.outpoint ≡ w.place.outpoint

pub spend_on_chain : (hs : List Holding) (blocks : List Block) (w : LockedOutput) (height : ℕ) (t : Transaction) (input : TxIn) → Names hs blocks w height t input → IsSpendOn hs blocks (spend w t input)
spend_on_chain hs blocks w height t input n =
    record { height = height; stands = n.stands; within = n.within; lock = w; locked = n.locked; coin = n.coin; there = n.there; names = n.names; code = refl; value = refl }

-- what it does with that
pub ledger_says : (hs : List Holding) (blocks : List Block) → IsLedger hs blocks → (w : LockedOutput) (height : ℕ) (t : Transaction) (input : TxIn) (n : Names hs blocks w height t input)
    → FieldsFit t × SpendsCoin (secret_keys hs) height (spend w t input) n.coin
ledger_says hs blocks ledger w height t input n = ledger.named w n.locked n.coin n.there height t input n.stands n.within n.names

its_fields : (hs : List Holding) (blocks : List Block) → IsLedger hs blocks → (w : LockedOutput) (height : ℕ) (t : Transaction) (input : TxIn) → Names hs blocks w height t input
    → length w.code ≤ 10000 → w.place.value < 2 ^ 64 → IsSignable (spend w t input)
its_fields hs blocks ledger w height t input n short low =
    let fit = (ledger_says hs blocks ledger w height t input n).0 in
    record {
      transaction = fit;
      input = All-contains IsInput (unsigned_inputs t.inputs) (signed_input input []) (All-from_recursion IsInput (unsigned_inputs t.inputs) fit.inputs) (contains_map (λ (i : TxIn). signed_input i []) t.inputs input n.within);
      code = omega (arith, short);
      value = low;
    }

-- the token is from a channel, for this very input; or strings collide
pub record ShowsOwn (hs : List Holding) (key : List ℕ) (s : Signed) : Type 0 where
  pub holding : Holding
  pub held : Contains hs holding
  pub token : GivenToken
  pub from : IsFrom holding token
  pub key_is : key ≡ token.key
  pub same : AreSame s token.over

pub shows_own : (hs : List Holding) (blocks : List Block) → IsWatched hs blocks → (w : LockedOutput) (height : ℕ) (t : Transaction) (input : TxIn) → Names hs blocks w height t input
    → length w.code ≤ 10000 → w.place.value < 2 ^ 64 → (key : List ℕ) → length key ≡ 33 → Contains (keys_by hs) key → IsSignedBy key (spend w t input) → ShowsOwn hs key (spend w t input) ⊎ Breaks hs blocks
shows_own hs blocks v w height t input n short low key long k signed =
    let s = spend w t input in
    let g = was_given hs blocks v.own w n.locked height t input n.stands n.within n.names key k signed in
    let h = in_flat given_in hs g.token g.among in
    let from : IsFrom h.0 g.token = given_from h.0 g.token h.2 in
    let kept = kept_one hs v.kept h.0 h.1 in
    let other = key_long h.0 g.token from in
    let one = one_token_signs key g.token.key s g.token.over (omega (arith, long, other)) (its_fields hs blocks v.ledger w height t input n short low) (given_signable h.0 kept g.token from) g.same in
    ⊎_elim {C = ShowsOwn hs key (spend w t input) ⊎ Breaks hs blocks}
    (λ (a : AreSame (spend w t input) g.token.over). inl (record { holding = h.0; held = h.1; token = g.token; from = from; key_is = one.0; same = a }))
    (λ (z : ListsCollide (spend w t input) g.token.over).
    inr (by_digest (spend w t input) (spend_on_chain hs blocks w height t input n) (as_any (λ (y : GivenToken). ListsCollide (spend w t input) y.over) (given_by hs) g.token g.among z)))
    one.1

-- ---- on an output of a peer's commitment

-- no script of such an output is a funding script
abbrev pub IsNoFunding : LockedOutput → Type 0
IsNoFunding w = (terms : Terms) → w.code ≡ funding_script terms → ⊥

-- the input is of a transaction that the node released; or as the node signed it with the commitment, for an HTLC; or strings collide
pub data IsOwnInput (hs : List Holding) (blocks : List Block) (c : Contents) (key : List ℕ) (s : Signed) : Type 0 where
  by_release : WasReleased hs s.transaction → IsOwnInput hs blocks c key s
  by_htlc : (x : HtlcOutput) → Contains (htlcs_of c) x → AreSame s (htlc_signed c x) → key ≡ c.keys.remote_htlc → IsOwnInput hs blocks c key s
  by_break : Breaks hs blocks → IsOwnInput hs blocks c key s

-- what is signed for an HTLC of a commitment of a channel
record IsForHtlcOf (key : List ℕ) (s : Signed) (x : HtlcOutput) (h : Holding) (k : CommitmentState) : Type 0 where
  among : Contains (htlcs_of (contents_of (terms_in h) k)) x
  same : AreSame s (htlc_signed (contents_of (terms_in h) k) x)
  key_is : key ≡ htlc_key (terms_in h) k

-- two commitments of one transaction are of one channel, and one
same_holding : (hs : List Holding) → EachKeepsRules hs → (h g : Holding) → Contains hs h → Contains hs g → (k m : CommitmentState) → transaction_of (contents_of (terms_in h) k) ≡ transaction_of (contents_of (terms_in g) m) → h ≡ g
same_holding hs kept h g held also k m e = kept.apart h g held also (same_funding (terms_in h) (terms_in g) k m e)

same_commitment : (h : Holding) → KeepsRules h → (n i : ℕ) (k m : CommitmentState) → slice_get h.state.signed n ≡ Some k → slice_get h.state.signed i ≡ Some m
    → transaction_of (contents_of (terms_in h) k) ≡ transaction_of (contents_of (terms_in h) m) → k ≡ m
same_commitment h kept n i k m there also e =
    let p = peers_payable h kept n k there in
    let q = peers_payable h kept i m also in
    let number : n ≡ i = sym p.number ∙ same_number (terms_in h) k m p.payable.number q.payable.number e ∙ q.number in
    some_is k m (sym there ∙ ap (slice_get h.state.signed) number ∙ also)

-- what collides for two of the peers' commitments
pub peers_collide : (Collides : List ℕ → List ℕ → Type 0) (IsHashed : Terms → CommitmentState → List ℕ → Type 0) (hs : List Holding) (h g : Holding) → Contains hs h → Contains hs g
    → (n i : ℕ) (k m : CommitmentState) → slice_get h.state.signed n ≡ Some k → slice_get g.state.signed i ≡ Some m
    → Collision Collides (IsHashed (terms_in h) k) (IsHashed (terms_in g) m) → Collision Collides (IsForPeers IsHashed hs) (IsForPeers IsHashed hs)
peers_collide Collides IsHashed hs h g held also n i k m there at z = record {
  first = z.first;
  second = z.second;
  of_first = record { holding = h; held = held; number = n; commitment = k; signed = there; is = z.of_first };
  of_second = record { holding = g; held = also; number = i; commitment = m; signed = at; is = z.of_second };
  collide = z.collide;
}

abbrev out_of : TxIn → OutPoint
out_of i = i.outpoint

-- a token for an HTLC transaction of another commitment shows that this is the same one
of_htlc_transaction : (hs : List Holding) (blocks : List Block) → IsWatched hs blocks → (h : Holding) → Contains hs h → (n : ℕ) (k : CommitmentState) → slice_get h.state.signed n ≡ Some k
    → (w : LockedOutput) (t : Transaction) (input : TxIn) → input.outpoint ≡ w.place.outpoint → IsOutPointOf (contents_of (terms_in h) k) w.place.outpoint
    → (g : Holding) → Contains hs g → (i : ℕ) (m : CommitmentState) → slice_get g.state.signed i ≡ Some m → (key : List ℕ) (x : HtlcOutput) → IsForHtlcOf key (spend w t input) x g m
    → IsOwnInput hs blocks (contents_of (terms_in h) k) key (spend w t input)
of_htlc_transaction hs blocks v h held n k there w t input names a g also i m at key x f =
    let kept = kept_one hs v.kept h held in
    let p = (peers_payable h kept n k there).payable in
    let q = (peers_payable g (kept_one hs v.kept g also) i m at).payable in
    let same = f.same in
    let place : w.place.outpoint ≡ record { txid = id_of (contents_of (terms_in g) m); index = x.index } = sym names ∙ ap out_of same.input in
    let b = named_by (contents_of (terms_in g) m) x w.place.outpoint f.among place in
    ⊎_elim {C = IsOwnInput hs blocks (contents_of (terms_in h) k) key (spend w t input)}
    (λ (o : IsOneOutput (contents_of (terms_in h) k) (contents_of (terms_in g) m) w.place.outpoint a b).
    let e = one_of_two (contents_of (terms_in h) k) (contents_of (terms_in g) m) w.place.outpoint a b o in
    let s : h ≡ g = same_holding hs v.kept h g held also k m e in
    let e' : transaction_of (contents_of (terms_in h) k) ≡ transaction_of (contents_of (terms_in h) m) = e ∙ ap (λ (y : Holding). transaction_of (contents_of (terms_in y) m)) (sym s) in
    let r : k ≡ m = same_commitment h kept n i k m there (subst (λ (y : Holding). slice_get y.state.signed i ≡ Some m) (sym s) at) e' in
    let f' : IsForHtlcOf key (spend w t input) x h k =
    subst (λ (j : CommitmentState). IsForHtlcOf key (spend w t input) x h j) (sym r) (subst (λ (y : Holding). IsForHtlcOf key (spend w t input) x y m) (sym s) f) in
    by_htlc x f'.among f'.same f'.key_is)
    (λ (z : IdsCollide (terms_in h) k (terms_in g) m). by_break (by_ids (peers_collide (Collide sha256d) IsHashedForId hs h g held also n i k m there at z)))
    (one_place (terms_in h) (terms_in g) k m p q w.place.outpoint a b)

pub is_own_input : (hs : List Holding) (blocks : List Block) → IsWatched hs blocks → (h : Holding) → Contains hs h → (n : ℕ) (k : CommitmentState) → slice_get h.state.signed n ≡ Some k
    → (w : LockedOutput) (height : ℕ) (t : Transaction) (input : TxIn) → Names hs blocks w height t input → IsOutPointOf (contents_of (terms_in h) k) w.place.outpoint → IsNoFunding w
    → length w.code ≤ 10000 → w.place.value < 2 ^ 64 → (key : List ℕ) → length key ≡ 33 → Contains (peer_keys (contents_of (terms_in h) k).keys) key → IsSignedBy key (spend w t input)
    → IsOwnInput hs blocks (contents_of (terms_in h) k) key (spend w t input)
is_own_input hs blocks v h held n k there w height t input names a other short low key long i signed =
    ⊎_elim {C = IsOwnInput hs blocks (contents_of (terms_in h) k) key (spend w t input)}
    (λ (x : ShowsOwn hs key (spend w t input)). by x.holding x.held x.token x.from x.key_is x.same)
    (λ (z : Breaks hs blocks). by_break z)
    (shows_own hs blocks v w height t input names short low key long (peers_key_own hs h held n k there key i) signed)
  where
    by : (g : Holding) → Contains hs g → (z : GivenToken) → IsFrom g z → key ≡ z.key → AreSame (spend w t input) z.over → IsOwnInput hs blocks (contents_of (terms_in h) k) key (spend w t input)
    by g also z (with_peers j m at e) of same =
        let s : AreSame (spend w t input) (commitment_signed (terms_in g) m) = subst (λ (y : GivenToken). AreSame (spend w t input) y.over) e same in
        absurd (other (terms_in g) s.code)
    by g also z (with_own j m closed at e) of same =
        let s : AreSame (spend w t input) (commitment_signed (terms_in g) m) = subst (λ (y : GivenToken). AreSame (spend w t input) y.over) e same in
        absurd (other (terms_in g) s.code)
    by g also z (with_released r j x l slot e) of same =
        let s : AreSame (spend w t input) (claim_signed r x) = subst (λ (y : GivenToken). AreSame (spend w t input) y.over) e same in
        by_release (record { holding = g; held = also; release = r; among = j; same = s.transaction })
    by g also z (with_htlc j m at x l e) of same =
        let s : AreSame (spend w t input) (htlc_signed (contents_of (terms_in g) m) x) = subst (λ (y : GivenToken). AreSame (spend w t input) y.over) e same in
        of_htlc_transaction hs blocks v h held n k there w t input names.names a g also j m at key x (record { among = l; same = s; key_is = of ∙ ap (λ (y : GivenToken). y.key) e })
