-- Which tokens of the node's can stand in an input that takes an output of its own newest commitment.
use Rattle.std.proofs.Common.{◌≡◌, ◌≢◌, ℕ, ◌^◌, ◌<◌, ◌≤◌, true, List, [], ◌∷◌, ◌++◌, map, length, Some, sym, ap, ◌∙◌, refl, subst, ⊎_elim, arith}
use Rattle.std.specs.Prelude.{not, slice_get, codes}
use Rattle.std.specs.List.{Contains, flat_map}
use Rattle.std.proofs.lemmas.Bool.{false≢true}
use Rattle.std.proofs.lemmas.List.Elements.{Contains-append_right}
use Rattle.sha2.specs.Sha256.{sha256}
use Rattle.script.specs.Token.{token_of}
use Rattle.tx.specs.declared.input.TxIn.{TxIn}
use Rattle.tx.specs.Fields.{Transaction, signed_input}
use Rattle.keys.specs.Derivation.{derived_key, revocation_key}
use Rattle.chain.specs.Blocks.{Contents as Block}
use Rattle.terms.specs.declared.sides.Side.{Side}
use Rattle.terms.specs.declared.agreement.Terms.{Terms}
use Rattle.terms.specs.Agreement.{party}
use Rattle.terms.specs.Sides.{other}
use Rattle.commit.specs.Keys.{keys_of}
use Rattle.commit.specs.declared.outputs.HtlcOutput.{HtlcOutput}
use Rattle.commit.specs.Outputs.{htlc_script}
use Rattle.commit.specs.Commitments.{commitment_of, htlcs_of}
use Rattle.channel.specs.declared.commitments.CommitmentState.{CommitmentState}
use Rattle.channel.specs.Points.{point_at}
use Rattle.channel.specs.Tokens.{contents_of, htlc_key}
use Rattle.forms.proofs.Forms.{key_length}
use Rattle.safety.specs.Signing.{Signed, digest_of, AreSame}
use Rattle.safety.specs.Spending.{IsSignedBy, peer_keys}
use Rattle.safety.specs.Fates.{htlc_signed}
use Rattle.safety.specs.Holdings.{Holding, terms_in, funding_key_in, claim_signed}
use Rattle.safety.specs.Given.{GivenToken, commitment_signed}
use Rattle.safety.specs.Premises.{LockedOutput, spend, locks_by, owner_keys, keys_in, keys_by, each_spend, has_item, shows_none, newest_revocation, secret_keys}
use Rattle.safety.specs.Breaks.{Breaks}
use Rattle.safety.specs.Resolutions.{WasReleased}
use Rattle.safety.proofs.Slots.{contains_later}
use Rattle.safety.proofs.Lists.{contained, contains_map}
use Rattle.safety.proofs.Tests.{flat_in, all_hold, has, on_input, on_spend}
use Rattle.safety.proofs.Handed.{keys_good, IsFrom, with_peers, with_htlc, with_released, with_own}
use Rattle.safety.proofs.Own.{kept_one, Names, IsNoFunding, ShowsOwn, shows_own}
use Rattle.safety.proofs.Reading.{secret_key, newest_secret, IsRead}
use Rattle.balance_laws.specs.OwnBreaks.{OwnBreaks, by_htlc_keys}
use Rattle.balance_laws.proofs.OwnOutputs.{OwnClose, contents}

-- ---- the revocation key of the newest own commitment

revocation_of : (terms : Terms) (k : CommitmentState) (side : Side) (point : List ℕ) → k.owner ≡ side → k.point.bytes ≡ point
    → (contents_of terms k).keys.revocation ≡ revocation_key (party (other side) terms).bases.revocation.bytes point
unfolding commitment_of keys_of
revocation_of terms k side point e f =
    ap (λ (x : Side). revocation_key (party (other x) terms).bases.revocation.bytes k.point.bytes) e ∙ ap (revocation_key (party (other side) terms).bases.revocation.bytes) f

owner_is : (hs : List Holding) (blocks : List Block) (s : OwnClose hs blocks) → s.commitment.owner ≡ s.holding.state.held.side
owner_is hs blocks s = ((kept_one hs s.watched.kept s.holding s.held).numbered.mine.each s.holding.state.number s.commitment s.there).owner

its_revocation : (hs : List Holding) (blocks : List Block) (s : OwnClose hs blocks) → (contents s).keys.revocation ≡ newest_revocation s.holding
its_revocation hs blocks s =
    let st = s.holding.state in
    revocation_of (terms_in s.holding) s.commitment st.held.side (point_at st.seed st.number).bytes (owner_is hs blocks s) (s.rules.point s.commitment s.there)

-- so no input that takes one of the node's outputs has a token of its revocation key, nor is one read there
pub not_revoked : (hs : List Holding) (blocks : List Block) (s : OwnClose hs blocks) → (w : LockedOutput) (height : ℕ) (t : Transaction) (input : TxIn) → Names hs blocks w height t input
    → (since : ℕ) (r : IsRead hs w height t input since) → IsSignedBy (contents s).keys.revocation (spend w t (signed_input input r.items)) → ⊥
not_revoked hs blocks s w height t input n since r read =
    let secret : Contains (secret_keys hs) (contents s).keys.revocation = subst (λ (x : List ℕ). Contains (secret_keys hs) x) (sym (its_revocation hs blocks s)) (newest_secret hs s.holding s.held) in
    let signed = r.signed (contents s).keys.revocation secret (key_length (contents s).keys.revocation (keys_good (terms_in s.holding) s.commitment).revocation) read in
    let digest = digest_of (spend w t input) in
    let key = newest_revocation s.holding in
    let a = on_input (each_spend (shows_none (map newest_revocation hs)) (locks_by hs)) blocks s.unrevoked height t input n.stands n.within in
    let b = on_spend (shows_none (map newest_revocation hs)) (locks_by hs) t input a w n.locked n.names in
    let c : not (has_item input.witness (token_of key digest)) ≡ true =
    all_hold (λ (x : List ℕ). not (has_item input.witness (token_of x digest))) (map newest_revocation hs) b key (contains_map newest_revocation hs s.holding s.held) in
    let shown : Contains input.witness (token_of key digest) = subst (λ (x : List ℕ). Contains input.witness (token_of x digest)) (its_revocation hs blocks s) signed in
    false≢true (sym (ap not (has input.witness (token_of key digest) shown)) ∙ c)

-- ---- the keys that it gives the node

pub owner_key : (hs : List Holding) (blocks : List Block) (s : OwnClose hs blocks) (key : List ℕ) → Contains (owner_keys (contents s)) key → Contains (keys_by hs) key
owner_key hs blocks s key i =
    let h = s.holding in
    let theirs = flat_map (λ (m : CommitmentState). peer_keys (contents_of (terms_in h) m).keys) h.state.signed in
    let mine = flat_map (λ (m : CommitmentState). owner_keys (contents_of (terms_in h) m)) h.state.mine in
    flat_in keys_in hs h key s.held
    (contains_later (funding_key_in h) (theirs ++ mine) key
    (Contains-append_right theirs mine key
    (flat_in (λ (m : CommitmentState). owner_keys (contents_of (terms_in h) m)) h.state.mine s.commitment key (contained h.state.mine h.state.number s.commitment s.there) i)))

-- the input is of a transaction that the node released; or it is as the node signed it with a commitment of a peer's, for an HTLC; or strings collide
pub data IsOwnersInput (hs : List Holding) (blocks : List Block) (key : List ℕ) (s : Signed) : Type 0 where
  by_release : WasReleased hs s.transaction → IsOwnersInput hs blocks key s
  by_peers_htlc : (g : Holding) → Contains hs g → (n : ℕ) (m : CommitmentState) → slice_get g.state.signed n ≡ Some m → (x : HtlcOutput) → Contains (htlcs_of (contents_of (terms_in g) m)) x
      → key ≡ htlc_key (terms_in g) m → s.code ≡ htlc_script (contents_of (terms_in g) m).keys x.direction x.htlc → IsOwnersInput hs blocks key s
  by_break : Breaks hs blocks → IsOwnersInput hs blocks key s

pub owners_input : (hs : List Holding) (blocks : List Block) (s : OwnClose hs blocks) → (w : LockedOutput) (height : ℕ) (t : Transaction) (input : TxIn) → Names hs blocks w height t input → IsNoFunding w
    → length w.code ≤ 10000 → w.place.value < 2 ^ 64 → (key : List ℕ) → length key ≡ 33 → Contains (owner_keys (contents s)) key
    → (since : ℕ) (r : IsRead hs w height t input since) → IsSignedBy key (spend w t (signed_input input r.items)) → IsOwnersInput hs blocks key (spend w t input)
owners_input hs blocks s w height t input names plain short low key long i since r read =
    ⊎_elim {C = IsOwnersInput hs blocks key (spend w t input)}
    (λ (x : ShowsOwn hs key (spend w t input)). by x.holding x.held x.token x.from x.key_is x.same)
    (λ (z : Breaks hs blocks). by_break z)
    (shows_own hs blocks s.watched w height t input names short low key long (owner_key hs blocks s key i) (r.signed key (secret_key hs key (owner_key hs blocks s key i)) long read))
  where
    by : (g : Holding) → Contains hs g → (z : GivenToken) → IsFrom g z → key ≡ z.key → AreSame (spend w t input) z.over → IsOwnersInput hs blocks key (spend w t input)
    by g also z (with_peers j m at e) of same =
        let f : AreSame (spend w t input) (commitment_signed (terms_in g) m) = subst (λ (y : GivenToken). AreSame (spend w t input) y.over) e same in
        absurd (plain (terms_in g) f.code)
    by g also z (with_own j m closed at e) of same =
        let f : AreSame (spend w t input) (commitment_signed (terms_in g) m) = subst (λ (y : GivenToken). AreSame (spend w t input) y.over) e same in
        absurd (plain (terms_in g) f.code)
    by g also z (with_released r j x l slot e) of same =
        let f : AreSame (spend w t input) (claim_signed r x) = subst (λ (y : GivenToken). AreSame (spend w t input) y.over) e same in
        by_release (record { holding = g; held = also; release = r; among = j; same = f.transaction })
    by g also z (with_htlc j m at x l e) of same =
        let f : AreSame (spend w t input) (htlc_signed (contents_of (terms_in g) m) x) = subst (λ (y : GivenToken). AreSame (spend w t input) y.over) e same in
        by_peers_htlc g also j m at x l (of ∙ ap (λ (y : GivenToken). y.key) e) f.code

-- ---- the HTLC keys of the two sides

same_tail : (a b : List ℕ) → 2 ∷ a ≡ 2 ∷ b → a ≡ b
same_tail a b e = cc

-- what stands in the middle of two strings of one form
same_rest : (p a b : List ℕ) → p ++ a ≡ p ++ b → a ≡ b
same_rest [] a b e = e
same_rest (x ∷ p) a b e = same_rest p a b (tail_is (p ++ a) (p ++ b) e)
  where
    tail_is : (xs ys : List ℕ) → x ∷ xs ≡ x ∷ ys → xs ≡ ys
    tail_is xs ys e = cc

same_front : (a b q : List ℕ) → length a ≡ length b → a ++ q ≡ b ++ q → a ≡ b
same_front [] [] q l e = refl
same_front [] (y ∷ b) q l e = absurd (omega (arith, l))
same_front (x ∷ a) [] q l e = absurd (omega (arith, l))
same_front (x ∷ a) (y ∷ b) q l e = joined x y a b (head_is x y (a ++ q) (b ++ q) e) (same_front a b q (omega (arith, l)) (tail_is x y (a ++ q) (b ++ q) e))
  where
    head_is : (u v : ℕ) (xs ys : List ℕ) → u ∷ xs ≡ v ∷ ys → u ≡ v
    head_is u v xs ys e = cc

    tail_is : (u v : ℕ) (xs ys : List ℕ) → u ∷ xs ≡ v ∷ ys → xs ≡ ys
    tail_is u v xs ys e = cc

    joined : (u v : ℕ) (xs ys : List ℕ) → u ≡ v → xs ≡ ys → u ∷ xs ≡ v ∷ ys
    joined u v xs ys e f = cc

append_twice : (a b c : List ℕ) → (a ++ b) ++ c ≡ a ++ (b ++ c)
append_twice [] b c = refl
append_twice (x ∷ a) b c = ap (λ (r : List ℕ). x ∷ r) (append_twice a b c)

abbrev htlc_base : Terms → Side → List ℕ
htlc_base terms side = (party side terms).bases.htlc.bytes

abbrev hashed_for : Terms → CommitmentState → Side → List ℕ
hashed_for terms k side = codes "derive" ++ htlc_base terms side ++ k.point.bytes

base_long : (terms : Terms) (side : Side) → length (htlc_base terms side) ≡ 33
base_long terms side = key_length (htlc_base terms side) (party side terms).bases.htlc.form

same_bases : (terms : Terms) (k : CommitmentState) (me peer : Side) → hashed_for terms k me ≡ hashed_for terms k peer → htlc_base terms me ≡ htlc_base terms peer
same_bases terms k me peer e =
    let a = base_long terms me in
    let b = base_long terms peer in
    same_front (htlc_base terms me) (htlc_base terms peer) k.point.bytes (omega (arith, a, b))
    (same_rest (codes "derive") (htlc_base terms me ++ k.point.bytes) (htlc_base terms peer ++ k.point.bytes)
    (sym (append_twice (codes "derive") (htlc_base terms me) k.point.bytes) ∙ e ∙ append_twice (codes "derive") (htlc_base terms peer) k.point.bytes))

one_hash : (terms : Terms) (k : CommitmentState) → (contents_of terms k).keys.local_htlc ≡ (contents_of terms k).keys.remote_htlc → sha256 (hashed_for terms k k.owner) ≡ sha256 (hashed_for terms k (other k.owner))
unfolding commitment_of keys_of derived_key
one_hash terms k e = same_tail _ _ e

-- they are two, or what is hashed for them collides
pub one_key : (hs : List Holding) (blocks : List Block) (s : OwnClose hs blocks) → (contents s).keys.local_htlc ≡ (contents s).keys.remote_htlc → OwnBreaks hs blocks
one_key hs blocks s e =
    let terms = terms_in s.holding in
    let k = s.commitment in
    let owner : k.owner ≡ s.holding.state.held.side = owner_is hs blocks s in
    let apart : htlc_base terms k.owner ≢ htlc_base terms (other k.owner) = subst (λ (x : Side). htlc_base (terms_in s.holding) x ≢ htlc_base (terms_in s.holding) (other x)) (sym owner) s.rules.apart in
    by_htlc_keys (record {
      first = hashed_for terms k k.owner;
      second = hashed_for terms k (other k.owner);
      of_first = record { holding = s.holding; commitment = k; newest = record { held = s.held; recorded = s.there }; is = (k.owner, refl) };
      of_second = record { holding = s.holding; commitment = k; newest = record { held = s.held; recorded = s.there }; is = (other k.owner, refl) };
      collide = ((λ d. apart (same_bases terms k k.owner (other k.owner) d)), one_hash terms k e);
    })
