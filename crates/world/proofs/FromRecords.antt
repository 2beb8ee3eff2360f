-- Each transaction of a world, and each claim that is due, comes from what is recorded of a channel.
use Rattle.std.proofs.Common.{◌≡◌, ℕ, zero, suc, List, [], ◌∷◌, ◌++◌, Contains, Option, Some, None, Ok, refl, sym, ap, ◌∙◌, subst, ⊎_elim}
use Rattle.std.specs.Prelude.{slice_get, option_map, option_and_then}
use Rattle.std.specs.List.{AllByRecursion}
use Rattle.std.proofs.lemmas.Option.{none-some, same_Some, slice_get_within, get_or_from_slice_get}
use Rattle.tx.specs.Fields.{Transaction, transaction_with_witness, unsigned_transaction}
use Rattle.terms.specs.declared.sides.Side.{Side}
use Rattle.terms.specs.declared.sides.Side.TheVariants.{A, B}
use Rattle.terms.specs.declared.agreement.Terms.{Terms}
use Rattle.terms.specs.Sides.{other}
use Rattle.keys.specs.Derivation.{point_of}
use Rattle.claim.specs.Claims.{ClaimParts}
use Rattle.commit.specs.declared.outputs.HtlcOutput.{HtlcOutput}
use Rattle.commit.specs.Commitments.{Contents, commitment_of, transaction_of, htlcs_of, htlc_tx_of}
use Rattle.penalty.specs.Claimable.{Claimable, claims_from}
use Rattle.penalty.specs.Sets.{claimed_by}
use Rattle.filling.specs.Filled.{AllFit}
use Rattle.resolve.specs.Due.{owners_due, peers_due}
use Rattle.publish.specs.Published.{signed_transaction, signed_commitment_of, branch_item, signed_htlc_tx_with, signed_htlc_of, signed_htlc_tx_of}
use Rattle.channel.specs.declared.commitments.CommitmentState.{CommitmentState}
use Rattle.channel.specs.Agreeing.{FirstOf}
use Rattle.channel.specs.States.{State}
use Rattle.channel.specs.Tokens.{contents_of}
use Rattle.book.specs.declared.calls.Batch.{Batch}
use Rattle.book.specs.declared.calls.Call.TheVariants as calls
use Rattle.book.specs.Books.{ChannelBook}
use Rattle.book.specs.Calling.{filling_by}
use Rattle.book.specs.Penalties.{revoked_contents, claimable_in, claimable_at}
use Rattle.safety.specs.Taken.{IsIn, ChannelRecords, IsDueTo, of_own as due_on_own, of_peers as due_on_peers, of_revoked as due_on_revoked}
use Rattle.world.specs.Publishing.{found, commitment_in, htlc_tx_in}
use Rattle.world.specs.Releasing.{IsFillingIn}
use Rattle.world.specs.Sources.{IsFrom, a_commitment, an_htlc_tx, a_filling, IsDueOf, of_own, of_peers, of_revoked, IsSide}
use Rattle.world.specs.Worlds.{World, node_of, channel_of}
use Rattle.world.specs.Theorem.{IsWorld}
use Rattle.book.specs.Growing.{Stays}
use Rattle.world.proofs.Recorded.{none_in, cases_in}
use Rattle.world.proofs.Sourced.{not_found, no_channel}
use Rattle.world.proofs.TwoEnds.{end_of, AreBoth, Laws, found_at}
use Rattle.world.proofs.Recordings.{recorded, twice}

-- ---- lists

before_rest : {X : Type 0} (xs ys : List X) → Stays xs (xs ++ ys)
before_rest [] ys n x e = absurd (none-some x e)
before_rest (z ∷ xs) ys zero x e = e
before_rest (z ∷ xs) ys (suc n) x e = before_rest xs ys n x e

first_there : (xs ys : List CommitmentState) → FirstOf xs ys → Stays xs ys
first_there xs ys (more, is) n k e = subst (λ (cs : List CommitmentState). slice_get cs n ≡ Some k) is (before_rest xs more n k e)

pub standing_in : {X : Type 0} (xs : List X) (n : ℕ) (x : X) → slice_get xs n ≡ Some x → Contains xs x
standing_in xs n x e = (n, slice_get_within xs n x e, get_or_from_slice_get xs n x x e)

pub all_in : {X : Type 0} (P : X → Type 0) (xs : List X) (x : X) → AllByRecursion P xs → Contains xs x → P x
all_in P [] x a c = absurd (none_in x c)
all_in P (y ∷ ys) x a c = ⊎_elim {C = P x} (λ (e : y ≡ x). subst P e a.0) (λ (h : Contains ys x). all_in P ys x a.1 h) (cases_in y ys x c)

-- ---- recorded commitments

own_in : (w : World) (c : ℕ) (x y : ChannelBook) → AreBoth w c x y → (s : Side) (n : ℕ) (k : CommitmentState) → slice_get (end_of s x y).state.mine n ≡ Some k → IsIn (recorded x y) s k
own_in w c x y b s n k at = record { at = n; there = first_there (end_of s x y).state.mine (end_of (other s) x y).state.signed (b.ends s).accepted n k at }

pub signed_in : (x y : ChannelBook) (s : Side) (n : ℕ) (k : CommitmentState) → slice_get (end_of s x y).state.signed n ≡ Some k → IsIn (recorded x y) (other s) k
signed_in x y s n k at = record { at = n; there = subst (λ (v : Side). slice_get (end_of v x y).state.signed n ≡ Some k) (sym (twice s)) at }

-- a revoked commitment is the one that was signed
pub revoked_is : (w : World) (c : ℕ) (x y : ChannelBook) → AreBoth w c x y → (s : Side) (n : ℕ) (k : CommitmentState) (secret : List ℕ) → slice_get (end_of s x y).state.signed n ≡ Some k
    → slice_get (end_of s x y).state.secrets n ≡ Some secret → revoked_contents (end_of s x y).state k secret ≡ contents_of x.state.held.terms k
revoked_is w c x y b s n k secret at told =
    let me = (end_of s x y).state in
    let shown = (b.ends s).limited.reveals n secret told in
    let same : shown.commitment ≡ k = same_Some shown.commitment k (sym shown.signed ∙ at) in
    let point : k.point.bytes ≡ point_of secret = ap (λ (m : CommitmentState). m.point.bytes) (sym same) ∙ shown.point in
    let owner : k.owner ≡ other me.held.side = ((b.ends s).numbered.signed.each n k at).owner in
    ap (λ p. commitment_of me.held.terms k.view (other me.held.side) k.number p) (sym point) ∙ ap (λ (o : Side). commitment_of me.held.terms k.view o k.number k.point.bytes) (sym owner)
    ∙ ap (λ (t : Terms). contents_of t k) (b.terms s)

-- ---- claims that are due

record IsRevokedAt (s : State) (n : ℕ) (os : List Claimable) : Type 0 where
  k : CommitmentState
  secret : List ℕ
  signed : slice_get s.signed n ≡ Some k
  told : slice_get s.secrets n ≡ Some secret
  is : os ≡ claimable_in (revoked_contents s k secret)

revoked_at : (s : State) (n : ℕ) (os : List Claimable) → claimable_at s n ≡ Some os → IsRevokedAt s n os
revoked_at s n os e = go (slice_get s.signed n) (slice_get s.secrets n) refl refl
  where
    go : (o : Option CommitmentState) (p : Option (List ℕ)) → slice_get s.signed n ≡ o → slice_get s.secrets n ≡ p → IsRevokedAt s n os
    go None p signed told =
        let none : claimable_at s n ≡ None = rw signed refl in
        absurd (none-some os (sym none ∙ e))
    go (Some k) None signed told =
        let none : claimable_at s n ≡ None = rw (signed, told) refl in
        absurd (none-some os (sym none ∙ e))
    go (Some k) (Some secret) signed told =
        let some : claimable_at s n ≡ Some (claimable_in (revoked_contents s k secret)) = rw (signed, told) refl in
        record { k = k; secret = secret; signed = signed; told = told; is = same_Some os (claimable_in (revoked_contents s k secret)) (sym e ∙ some) }

pub claims_of_contents : (c d : Contents) (o : Claimable) → c ≡ d → Contains (claimable_in c) o → Contains (claims_from d 0 d.outputs) o
unfolding claimable_in
claims_of_contents c d o e h = subst (λ (v : Contents). Contains (claims_from v 0 v.outputs) o) e h

-- a claim is due on a commitment that is recorded, one's own or the peer's
pub data IsOn (w : World) (c : ℕ) (x y : ChannelBook) (s : Side) (p : ClaimParts) : Type 0 where
  on_own : (k : CommitmentState) → IsIn (recorded x y) s k → (preimages : List (List ℕ)) → Contains (owners_due preimages (contents_of x.state.held.terms k)) (claimed_by p) → IsOn w c x y s p
  on_peers : (k : CommitmentState) → IsIn (recorded x y) (other s) k → (preimages : List (List ℕ)) → Contains (peers_due preimages (contents_of x.state.held.terms k)) (claimed_by p) → IsOn w c x y s p
  on_revoked : (k : CommitmentState) → IsIn (recorded x y) (other s) k
      → Contains (claims_from (contents_of x.state.held.terms k) 0 (contents_of x.state.held.terms k).outputs) (claimed_by p) → IsOn w c x y s p

pub is_on : (w : World) (c : ℕ) (x y : ChannelBook) → AreBoth w c x y → (s : Side) (p : ClaimParts) → IsDueOf (end_of s x y).state p → IsOn w c x y s p
is_on w c x y b s p (of_own n k preimages at h) =
    on_own k (own_in w c x y b s n k at) preimages (subst (λ (t : Terms). Contains (owners_due preimages (contents_of t k)) (claimed_by p)) (b.terms s) h)
is_on w c x y b s p (of_peers n k preimages at h) =
    on_peers k (signed_in x y s n k at) preimages (subst (λ (t : Terms). Contains (peers_due preimages (contents_of t k)) (claimed_by p)) (b.terms s) h)
is_on w c x y b s p (of_revoked n os e h) =
    let i = revoked_at (end_of s x y).state n os e in
    on_revoked i.k (signed_in x y s n i.k i.signed)
    (claims_of_contents (revoked_contents (end_of s x y).state i.k i.secret) (contents_of x.state.held.terms i.k) (claimed_by p) (revoked_is w c x y b s n i.k i.secret i.signed i.told)
    (subst (λ (v : List Claimable). Contains v (claimed_by p)) i.is h))

pub due_to : (w : World) (c : ℕ) (x y : ChannelBook) (s : Side) (p : ClaimParts) (channels : ChannelRecords) → channels c ≡ Some (recorded x y) → IsOn w c x y s p → IsDueTo channels s p
due_to w c x y s p channels there (on_own k i preimages h) = due_on_own c (recorded x y) there k i preimages h
due_to w c x y s p channels there (on_peers k i preimages h) = due_on_peers c (recorded x y) there k i preimages h
due_to w c x y s p channels there (on_revoked k i h) = due_on_revoked c (recorded x y) there k i h

pub side_of : (w : World) → IsWorld w → (s : Side) → IsSide (node_of s w)
side_of w is A = is.a_side
side_of w is B = is.b_side

-- each input of a released filling fits its claim
abbrev pub AllOfThemFit : World → Type 0
AllOfThemFit w = (s : Side) (seat c : ℕ) (batch : Batch) → Contains (node_of s w).history (record { seat = seat; call = calls.Release c batch })
    → AllFit (filling_by batch).tx batch.claims (filling_by batch).tx.inputs

-- ---- transactions

unsigned_commitment : (c : Contents) (items : List (List ℕ)) → unsigned_transaction (transaction_with_witness (transaction_of c) 0 items) ≡ transaction_of c
unfolding transaction_of
unsigned_commitment c items = refl

unsigned_second : (c : Contents) (h : HtlcOutput) (items : List (List ℕ)) → unsigned_transaction (transaction_with_witness (htlc_tx_of c h) 0 items) ≡ htlc_tx_of c h
unfolding htlc_tx_of
unsigned_second c h items = refl

-- whose transaction it is, whatever its witnesses: a recorded commitment, an HTLC transaction of one, or a filling
pub data IsMade (w : World) (t : Transaction) : Type 0 where
  commits : (c : ℕ) (x y : ChannelBook) → AreBoth w c x y → (s : Side) (k : CommitmentState) → IsIn (recorded x y) s k
      → unsigned_transaction t ≡ transaction_of (contents_of x.state.held.terms k) → IsMade w t
  stages : (c : ℕ) (x y : ChannelBook) → AreBoth w c x y → (s : Side) (k : CommitmentState) → IsIn (recorded x y) s k
      → (h : HtlcOutput) → Contains (htlcs_of (contents_of x.state.held.terms k)) h → unsigned_transaction t ≡ htlc_tx_of (contents_of x.state.held.terms k) h → IsMade w t
  fills : (s : Side) → IsFillingIn (node_of s w).history t → IsMade w t

found_is : (t u : Transaction) → found (Some t) ≡ Ok u → t ≡ u
found_is t u e = cc

commitment_from : (w : World) (c : ℕ) (x y : ChannelBook) → AreBoth w c x y → (s : Side) (n : ℕ) (t : Transaction) → found (signed_commitment_of (end_of s x y).state n) ≡ Ok t → IsMade w t
commitment_from w c x y b s n t is = go (slice_get me.mine n) refl is
  where
    me : State
    me = (end_of s x y).state

    go : (o : Option CommitmentState) → slice_get me.mine n ≡ o → found (option_map (λ k. signed_transaction me.held.terms (contents_of me.held.terms k)) o) ≡ Ok t → IsMade w t
    go None at is = absurd (not_found t is)
    go (Some k) at is =
        commits c x y b s k (own_in w c x y b s n k at)
        (ap unsigned_transaction (sym (found_is (signed_transaction me.held.terms (contents_of me.held.terms k)) t is)) ∙ unsigned_commitment (contents_of me.held.terms k) _
        ∙ ap (λ (v : Terms). transaction_of (contents_of v k)) (b.terms s))

htlc_from : (w : World) (c : ℕ) (x y : ChannelBook) → AreBoth w c x y → (s : Side) (n j : ℕ) (preimages : List (List ℕ)) (t : Transaction) → found (signed_htlc_tx_of (end_of s x y).state n j preimages) ≡ Ok t
    → IsMade w t
htlc_from w c x y b s n j preimages t is = go (slice_get me.mine n) refl is
  where
    me : State
    me = (end_of s x y).state

    made : (k : CommitmentState) → slice_get me.mine n ≡ Some k → (h : HtlcOutput) → slice_get (htlcs_of (contents_of me.held.terms k)) j ≡ Some h → (o : Option (List ℕ))
        → found (option_map (signed_htlc_tx_with (contents_of me.held.terms k) h) o) ≡ Ok t → IsMade w t
    made k at h within None is = absurd (not_found t is)
    made k at h within (Some item) is =
        stages c x y b s k (own_in w c x y b s n k at) h
        (subst (λ (v : Terms). Contains (htlcs_of (contents_of v k)) h) (b.terms s) (standing_in (htlcs_of (contents_of me.held.terms k)) j h within))
        (ap unsigned_transaction (sym (found_is (signed_htlc_tx_with (contents_of me.held.terms k) h item) t is)) ∙ unsigned_second (contents_of me.held.terms k) h _
        ∙ ap (λ (v : Terms). htlc_tx_of (contents_of v k) h) (b.terms s))

    of_one : (k : CommitmentState) → slice_get me.mine n ≡ Some k → (o : Option HtlcOutput) → slice_get (htlcs_of (contents_of me.held.terms k)) j ≡ o
        → found (option_and_then (λ h. option_map (signed_htlc_tx_with (contents_of me.held.terms k) h) (branch_item preimages h.direction h.htlc)) o) ≡ Ok t → IsMade w t
    of_one k at None within is = absurd (not_found t is)
    of_one k at (Some h) within is = made k at h within (branch_item preimages h.direction h.htlc) is

    go : (o : Option CommitmentState) → slice_get me.mine n ≡ o → found (option_and_then (λ k. signed_htlc_of (contents_of me.held.terms k) j preimages) o) ≡ Ok t → IsMade w t
    go None at is = absurd (not_found t is)
    go (Some k) at is = of_one k at (slice_get (htlcs_of (contents_of me.held.terms k)) j) refl is

pub is_made : Laws → (w : World) → IsWorld w → (t : Transaction) → IsFrom w t → IsMade w t
is_made laws w is t (a_commitment s c n made) = go (channel_of (node_of s w) c) refl made
  where
    go : (o : Option ChannelBook) → channel_of (node_of s w) c ≡ o → commitment_in n o ≡ Ok t → IsMade w t
    go None there made = absurd (no_channel _ t made)
    go (Some ch) there made =
        let f = found_at laws w is s c ch there in
        commitment_from w c f.x f.y f.both s n t (subst (λ (v : ChannelBook). found (signed_commitment_of v.state n) ≡ Ok t) (sym f.is) made)
is_made laws w is t (an_htlc_tx s c n k preimages made) = go (channel_of (node_of s w) c) refl made
  where
    go : (o : Option ChannelBook) → channel_of (node_of s w) c ≡ o → htlc_tx_in n k preimages o ≡ Ok t → IsMade w t
    go None there made = absurd (no_channel _ t made)
    go (Some ch) there made =
        let f = found_at laws w is s c ch there in
        htlc_from w c f.x f.y f.both s n k preimages t (subst (λ (v : ChannelBook). found (signed_htlc_tx_of v.state n k preimages) ≡ Ok t) (sym f.is) made)
is_made laws w is t (a_filling s f) = fills s f
