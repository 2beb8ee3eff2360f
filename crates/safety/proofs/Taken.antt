-- What takes an output, by where the transaction comes from.
use Rattle.std.proofs.Common.{◌≡◌, ◌≢◌, ℕ, ◌≤◌, Bool, true, false, eqb, List, length, Some, sym, ap, ◌∙◌, refl, subst, inl, inr, ⊎_elim, arith, eq-eqb}
use Rattle.std.specs.Prelude.{◌⊎◌, slice_get}
use Rattle.std.specs.List.{Contains}
use Rattle.std.proofs.lemmas.Bool.{eqb-true, false≢true, and_from}
use Rattle.std.proofs.lemmas.Option.{same_Some}
use Rattle.sha2.proofs.Facts256.{length-sha256}
use Rattle.tx.specs.declared.input.OutPoint.{OutPoint}
use Rattle.tx.specs.declared.input.TxIn.{TxIn}
use Rattle.tx.specs.Fields.{Transaction, unsigned_transaction}
use Rattle.chain.specs.Blocks.{Coin, coin_at, grant_id, grant_outpoint}
use Rattle.chain.specs.Indexing.{marked}
use Rattle.claim.specs.Claims.{ClaimParts, FitsClaim}
use Rattle.terms.specs.declared.sides.Side.{Side}
use Rattle.terms.specs.declared.sides.Side.TheVariants.{A, B}
use Rattle.terms.specs.declared.agreement.Terms.{Terms}
use Rattle.terms.specs.declared.views.View.{View}
use Rattle.terms.specs.Agreement.{party}
use Rattle.terms.specs.Sides.{other}
use Rattle.commit.specs.declared.outputs.HtlcOutput.{HtlcOutput}
use Rattle.commit.specs.Commitments.{transaction_of, htlcs_of, htlc_tx_of}
use Rattle.penalty.specs.Claimable.{Claimable, claims_from}
use Rattle.penalty.specs.Sets.{claimed_by}
use Rattle.penalty.specs.Paying.{CanPay}
use Rattle.resolve.specs.Due.{owners_due}
use Rattle.channel.specs.declared.commitments.CommitmentState.{CommitmentState}
use Rattle.channel.specs.Numbered.{SharesOut}
use Rattle.channel.specs.Tokens.{contents_of}
use Rattle.safety.specs.Owning.{AreOfSeed}
use Rattle.safety.proofs.Passed.{inputs_have_passed}
use Rattle.safety.specs.Places.{IsOutPointOf}
use Rattle.safety.specs.Strings.{IsHashedForCommitment, IsHashedForSeed, StringsCollide}
use Rattle.safety.specs.Seeds.{AreOfTwoSeeds}
use Rattle.safety.specs.Standing.{PassesTest}
use Rattle.safety.specs.Ways.{by_peer, by_htlc_transaction, by_owner, by_collision}
use Rattle.safety.specs.Takers.{IsHtlcTransaction, AreOneByNumber, OwnersWay, IsHashedForGrant}
use Rattle.safety.specs.Taken.{ChannelRecord, NumberedAreOwn, GrantsAreOutPoints, IsIn, ChannelRecords, AreSound, IsDueTo, of_own, of_peers, of_revoked, Fillings, AreFilled}
use Rattle.safety.specs.Taken.{from_commitment, from_htlc, from_filling, IsHashedForChannels, of_commitment, of_seed, of_grant}
use Rattle.safety.specs.Taken.{IsTaker, Taken, TakenOnChains}
use Rattle.safety.proofs.Waiting.{each_input_fits}
use Rattle.safety.proofs.Places.{owners_places, peers_places, revoked_places}
use Rattle.safety.proofs.Takers.{owners_take, htlc_transactions_take, sides_are_apart, channels_are_apart, grants_are_apart, commitments_spend_fundings, htlc_transactions_spend_outputs}

-- ---- what a channel records

-- a view that shares out the capacity can be paid
can_pay : (terms : Terms) (view : View) → SharesOut terms view → CanPay terms view
can_pay terms view s =
    let a : length view.a.offered ≤ 483 = s.few_of_a in
    let b : length view.b.offered ≤ 483 = s.few_of_b in
    record { few = omega (arith, a, b); heights = and_from _ _ s.heights_of_a s.heights_of_b; whole = s.whole }

pub numbered_are_own : NumberedAreOwn
numbered_are_own r side n k f l s =
    let e = s.number in
    record { payable = record { funding = f; view = can_pay r.terms k.view s.shares; number = omega (arith, e, l) }; owner = s.owner; number = s.number }

pub grants_are_out_points : GrantsAreOutPoints
unfolding grant_id
grants_are_out_points g = record { txid = length-sha256 _; index = omega arith }

-- ---- strings

abbrev RecordsCollide : ChannelRecords → Type 0
RecordsCollide channels = StringsCollide (IsHashedForChannels channels) (IsHashedForChannels channels)

among : (channels : ChannelRecords) (P Q : List ℕ → Type 0) → ((bytes : List ℕ) → P bytes → IsHashedForChannels channels bytes) → ((bytes : List ℕ) → Q bytes → IsHashedForChannels channels bytes)
    → StringsCollide P Q → RecordsCollide channels
among channels P Q f g z = record { first = z.first; second = z.second; of_first = f z.first z.of_first; of_second = g z.second z.of_second; collide = z.collide }

-- of two recorded commitments
of_two : (channels : ChannelRecords) (c d : ℕ) (r q : ChannelRecord) → channels c ≡ Some r → channels d ≡ Some q → (side way : Side) (k m : CommitmentState) → IsIn r side k → IsIn q way m
    → StringsCollide (IsHashedForCommitment r.terms k) (IsHashedForCommitment q.terms m) → RecordsCollide channels
of_two channels c d r q a b side way k m i j z =
    among channels (IsHashedForCommitment r.terms k) (IsHashedForCommitment q.terms m) (λ bytes h. of_commitment c r a side k i h) (λ bytes h. of_commitment d q b way m j h) z

-- ---- the two sides

twice : (side : Side) → other (other side) ≡ side
twice A = refl
twice B = refl

same_or_other : (side way : Side) → (way ≡ side) ⊎ (way ≡ other side)
same_or_other A A = inl refl
same_or_other B B = inl refl
same_or_other A B = inr refl
same_or_other B A = inr refl

-- two commitments of one side with one number are one
one_by_number : (r : ChannelRecord) (side : Side) (channels : ChannelRecords) → AreSound channels → (c : ℕ) → channels c ≡ Some r → (k m : CommitmentState) → IsIn r side k → IsIn r side m
    → AreOneByNumber k m
one_by_number r side channels sound c a k m i j e =
    let s = sound.each c r a in
    let n = (s.each side i.at k i.there).number in
    let o = (s.each side j.at m j.there).number in
    let at : i.at ≡ j.at = sym n ∙ e ∙ o in
    same_Some k m (sym i.there ∙ ap (λ x. slice_get (r.own side) x) at ∙ j.there)

-- an outpoint of commitments of both sides of a channel, or of two channels
rivals_collide : (channels : ChannelRecords) → AreSound channels → (c : ℕ) (r : ChannelRecord) → channels c ≡ Some r → (side : Side) (k m : CommitmentState) → IsIn r side k → IsIn r (other side) m
    → (o : OutPoint) → IsOutPointOf (contents_of r.terms k) o → IsOutPointOf (contents_of r.terms m) o → RecordsCollide channels
rivals_collide channels sound c r a side k m i j o x y =
    let s = sound.each c r a in
    let first = s.each side i.at k i.there in
    let second = s.each (other side) j.at m j.there in
    let owners : AreOfSeed (r.seed side) (party k.owner r.terms).bases = subst (λ (w : Side). AreOfSeed (r.seed side) (party w r.terms).bases) (sym first.owner) (s.seeds side) in
    let peers : AreOfSeed (r.seed (other side)) (party (other k.owner) r.terms).bases =
    subst (λ (w : Side). AreOfSeed (r.seed (other side)) (party (other w) r.terms).bases) (sym first.owner) (s.seeds (other side)) in
    let two : AreOfTwoSeeds r.terms k (r.seed side) (r.seed (other side)) = record { owners = owners; peers = peers; apart = s.apart side } in
    ⊎_elim {C = RecordsCollide channels}
    (λ (z : StringsCollide (IsHashedForCommitment r.terms k) (IsHashedForCommitment r.terms m)). of_two channels c c r r a a side (other side) k m i j z)
    (λ (z : StringsCollide (IsHashedForSeed (r.seed side)) (IsHashedForSeed (r.seed (other side)))).
    among channels (IsHashedForSeed (r.seed side)) (IsHashedForSeed (r.seed (other side))) (λ bytes h. of_seed c r a side h) (λ bytes h. of_seed c r a (other side) h) z)
    (sides_are_apart r.terms k m first.payable second.payable (second.owner ∙ ap other (sym first.owner)) (r.seed side) (r.seed (other side)) two o x y)

channels_collide : (channels : ChannelRecords) → AreSound channels → (c d : ℕ) (r q : ChannelRecord) → channels c ≡ Some r → channels d ≡ Some q → c ≢ d → (side way : Side) (k m : CommitmentState)
    → IsIn r side k → IsIn q way m
    → (o : OutPoint) → IsOutPointOf (contents_of r.terms k) o → IsOutPointOf (contents_of q.terms m) o → RecordsCollide channels
channels_collide channels sound c d r q a b n side way k m i j o x y =
    let first = (sound.each c r a).each side i.at k i.there in
    let second = (sound.each d q b).each way j.at m j.there in
    of_two channels c d r q a b side way k m i j (channels_are_apart r.terms q.terms k m first.payable second.payable (sound.apart c d r q a b n) o x y)

-- ---- whose commitment an outpoint is of

-- it is of the same side's, or there is a collision
data Whose (channels : ChannelRecords) (r : ChannelRecord) (side : Side) (q : ChannelRecord) (way : Side) : Type 0 where
  same : r ≡ q → way ≡ side → Whose channels r side q way
  collision : RecordsCollide channels → Whose channels r side q way

whose : (channels : ChannelRecords) → AreSound channels → (c d : ℕ) (r q : ChannelRecord) → channels c ≡ Some r → channels d ≡ Some q → (side way : Side) (k m : CommitmentState) → IsIn r side k
    → IsIn q way m
    → (o : OutPoint) → IsOutPointOf (contents_of r.terms k) o → IsOutPointOf (contents_of q.terms m) o → Whose channels r side q way
whose channels sound c d r q a b side way k m i j o x y = by (eqb c d) refl
  where
    rival : r ≡ q → way ≡ other side → Whose channels r side q way
    rival s w =
        let in_r : IsIn r (other side) m = subst (λ (v : Side). IsIn r v m) w (subst (λ (p : ChannelRecord). IsIn p way m) (sym s) j) in
        collision (rivals_collide channels sound c r a side k m i in_r o x (subst (λ (p : ChannelRecord). IsOutPointOf (contents_of p.terms m) o) (sym s) y))

    by : (t : Bool) → eqb c d ≡ t → Whose channels r side q way
    by true e =
        let s : r ≡ q = same_Some r q (sym a ∙ ap channels (eqb-true c d e) ∙ b) in
        ⊎_elim {C = Whose channels r side q way} (λ (w : way ≡ side). same s w) (λ (w : way ≡ other side). rival s w) (same_or_other side way)
    by false e = collision (channels_collide channels sound c d r q a b (λ f. false≢true (sym e ∙ eq-eqb c d f)) side way k m i j o x y)

-- a side is not its peer
not_other : (side : Side) → other side ≡ side → ⊥
not_other A e = cc
not_other B e = cc

other_side : (channels : ChannelRecords) (fillings : Fillings) (r : ChannelRecord) (side : Side) (k : CommitmentState) (o : Claimable) (since height : ℕ) (t : Transaction) (q : ChannelRecord)
    → Whose channels r side q (other side) → IsTaker channels fillings r side k o since height t
other_side channels fillings r side k o since height t q (same s e) = absurd (not_other side e)
other_side channels fillings r side k o since height t q (collision z) = by_collision z

-- ---- fillings

-- a filling of the owner's, by the claim that the input fits
own_filling : (channels : ChannelRecords) → AreSound channels → (fillings : Fillings) → (c : ℕ) (r : ChannelRecord) → channels c ≡ Some r → (side : Side) (k : CommitmentState) → IsIn r side k
    → (o : Claimable) → Contains (claims_from (contents_of r.terms k) 0 (contents_of r.terms k).outputs) o
    → (height : ℕ) (t : Transaction) (input : TxIn) (coin : Coin) → Contains (fillings side) t → input.outpoint ≡ o.place.outpoint → PassesTest height t input coin
    → (x : ClaimParts) → FitsClaim x t input → IsDueTo channels side x → IsTaker channels fillings r side k o coin.height height t
own_filling channels sound fillings c r a side k i o w height t input coin filled names passes x f (of_own d q b m j preimages due) =
    by (whose channels sound c d r q a b side side k m i j o.place.outpoint (revoked_places (contents_of r.terms k) o w).1
    (subst (λ (p : OutPoint). IsOutPointOf (contents_of q.terms m) p) at (owners_places preimages (contents_of q.terms m) (claimed_by x) due).1))
  where
    at : x.place.outpoint ≡ o.place.outpoint
    at = sym f.fits.outpoint ∙ names

    way : OwnersWay r.terms k m o coin.height height t → r ≡ q → IsTaker channels fillings r side k o coin.height height t
    way (by_peer never) s = absurd never
    way (by_htlc_transaction h) s = by_htlc_transaction h
    way (by_owner l) s = by_owner (filled, l)
    way (by_collision z) s = by_collision (of_two channels c c r r a a side side k m i (subst (λ (p : ChannelRecord). IsIn p side m) (sym s) j) z)

    by : Whose channels r side q side → IsTaker channels fillings r side k o coin.height height t
    by (collision z) = by_collision z
    by (same s e) =
        let in_r : IsIn r side m = subst (λ (p : ChannelRecord). IsIn p side m) (sym s) j in
        let own = sound.each c r a in
        way (owners_take r.terms k m (own.each side i.at k i.there).payable (own.each side in_r.at m in_r.there).payable (one_by_number r side channels sound c a k m i in_r) o w preimages x
        (subst (λ (p : ChannelRecord). Contains (owners_due preimages (contents_of p.terms m)) (claimed_by x)) (sym s) due) at height t input coin f passes) s
own_filling channels sound fillings c r a side k i o w height t input coin filled names passes x f (of_peers d q b m j preimages due) =
    other_side channels fillings r side k o coin.height height t q
    (whose channels sound c d r q a b side (other side) k m i j o.place.outpoint (revoked_places (contents_of r.terms k) o w).1
    (subst (λ (p : OutPoint). IsOutPointOf (contents_of q.terms m) p) (sym f.fits.outpoint ∙ names) (peers_places preimages (contents_of q.terms m) (claimed_by x) due).1))
own_filling channels sound fillings c r a side k i o w height t input coin filled names passes x f (of_revoked d q b m j due) =
    other_side channels fillings r side k o coin.height height t q
    (whose channels sound c d r q a b side (other side) k m i j o.place.outpoint (revoked_places (contents_of r.terms k) o w).1
    (subst (λ (p : OutPoint). IsOutPointOf (contents_of q.terms m) p) (sym f.fits.outpoint ∙ names) (revoked_places (contents_of q.terms m) (claimed_by x) due).1))

-- ---- each source

filled_by : (channels : ChannelRecords) → AreSound channels → (fillings : Fillings) → AreFilled channels fillings → (c : ℕ) (r : ChannelRecord) → channels c ≡ Some r
    → (side : Side) (k : CommitmentState) → IsIn r side k
    → (o : Claimable) → Contains (claims_from (contents_of r.terms k) 0 (contents_of r.terms k).outputs) o
    → (height : ℕ) (t : Transaction) (input : TxIn) (coin : Coin) → Contains t.inputs input → input.outpoint ≡ o.place.outpoint → PassesTest height t input coin
    → (way : Side) → Contains (fillings way) t → IsTaker channels fillings r side k o coin.height height t
filled_by channels sound fillings all c r a side k i o w height t input coin within names passes way filled =
    ⊎_elim {C = IsTaker channels fillings r side k o coin.height height t}
    (λ (e : way ≡ side).
    let own : Contains (fillings side) t = subst (λ (v : Side). Contains (fillings v) t) e filled in
    let mine = all side t own in
    let one = each_input_fits mine.claims t mine.fits input within in
    own_filling channels sound fillings c r a side k i o w height t input coin own names passes one.0 one.2 (mine.due one.0 one.1))
    (λ (e : way ≡ other side). by_peer (subst (λ (v : Side). Contains (fillings v) t) e filled))
    (same_or_other side way)

htlc_by : (channels : ChannelRecords) → AreSound channels → (fillings : Fillings) → (c : ℕ) (r : ChannelRecord) → channels c ≡ Some r → (side : Side) (k : CommitmentState) → IsIn r side k
    → (o : Claimable) → Contains (claims_from (contents_of r.terms k) 0 (contents_of r.terms k).outputs) o
    → (height : ℕ) (t : Transaction) (input : TxIn) (coin : Coin) → Contains t.inputs input → input.outpoint ≡ o.place.outpoint → PassesTest height t input coin
    → (d : ℕ) (q : ChannelRecord) → channels d ≡ Some q → (way : Side) (m : CommitmentState) → IsIn q way m
    → (h : HtlcOutput) → Contains (htlcs_of (contents_of q.terms m)) h → unsigned_transaction t ≡ htlc_tx_of (contents_of q.terms m) h → IsTaker channels fillings r side k o coin.height height t
htlc_by channels sound fillings c r a side k i o w height t input coin within names passes d q b way m j h l s =
    by (whose channels sound c d r q a b side way k m i j o.place.outpoint (revoked_places (contents_of r.terms k) o w).1
    (subst (λ (p : OutPoint). IsOutPointOf (contents_of q.terms m) p) names (htlc_transactions_spend_outputs (contents_of q.terms m) h l t input s within)))
  where
    by : Whose channels r side q way → IsTaker channels fillings r side k o coin.height height t
    by (collision z) = by_collision z
    by (same e v) =
        let in_r : IsIn r side m = subst (λ (y : Side). IsIn r y m) v (subst (λ (p : ChannelRecord). IsIn p way m) (sym e) j) in
        let own = sound.each c r a in
        ⊎_elim {C = IsTaker channels fillings r side k o coin.height height t}
        (λ (x : IsHtlcTransaction (contents_of r.terms k) o.place.outpoint height t). by_htlc_transaction x)
        (λ (z : StringsCollide (IsHashedForCommitment r.terms k) (IsHashedForCommitment r.terms m)). by_collision (of_two channels c c r r a a side side k m i in_r z))
        (htlc_transactions_take r.terms k m (own.each side i.at k i.there).payable (own.each side in_r.at m in_r.there).payable (one_by_number r side channels sound c a k m i in_r) o w h
        (subst (λ (p : ChannelRecord). Contains (htlcs_of (contents_of p.terms m)) h) (sym e) l) height t input coin
        (subst (λ (p : ChannelRecord). unsigned_transaction t ≡ htlc_tx_of (contents_of p.terms m) h) (sym e) s) within names passes)

-- a commitment spends a grant
commitment_by : (channels : ChannelRecords) → AreSound channels → (c : ℕ) (r : ChannelRecord) → channels c ≡ Some r → (side : Side) (k : CommitmentState) → IsIn r side k
    → (o : OutPoint) → IsOutPointOf (contents_of r.terms k) o → (t : Transaction) (input : TxIn) → Contains t.inputs input → input.outpoint ≡ o
    → (d : ℕ) (q : ChannelRecord) → channels d ≡ Some q → (m : CommitmentState) → unsigned_transaction t ≡ transaction_of (contents_of q.terms m) → RecordsCollide channels
commitment_by channels sound c r a side k i o x t input within names d q b m s =
    let spent : o ≡ grant_outpoint d = sym names ∙ commitments_spend_fundings q.terms m t input s within ∙ sound.granted d q b in
    among channels (IsHashedForGrant d) (IsHashedForCommitment r.terms k) (λ bytes h. of_grant d q b h) (λ bytes h. of_commitment c r a side k i h)
    (grants_are_apart r.terms k d (subst (λ (p : OutPoint). IsOutPointOf (contents_of r.terms k) p) spent x))

pub taken : Taken
taken channels sound fillings all c r a side k i o w height t input coin (from_commitment d q b way m j s) within names passes =
    by_collision (commitment_by channels sound c r a side k i o.place.outpoint (revoked_places (contents_of r.terms k) o w).1 t input within names d q b m s)
taken channels sound fillings all c r a side k i o w height t input coin (from_htlc d q b way m j h l s) within names passes =
    htlc_by channels sound fillings c r a side k i o w height t input coin within names passes d q b way m j h l s
taken channels sound fillings all c r a side k i o w height t input coin (from_filling way filled) within names passes =
    filled_by channels sound fillings all c r a side k i o w height t input coin within names passes way filled

-- ---- on a chain

pub taken_on_chains : TakenOnChains
taken_on_chains channels sound fillings all blocks checked from c r a side k i o w height t s input within names =
    let p = inputs_have_passed blocks checked height t s input within in
    record {
      coin = p.0;
      there = sym (ap (coin_at blocks) names) ∙ p.1;
      taker = taken channels sound fillings all c r a side k i o w height t input (marked false p.0) (from height t s) within names p.2;
    }
