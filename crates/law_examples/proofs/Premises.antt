-- What the laws of `safety` ask for, and what each claim of a commitment is: on a chain, in two channels' records, and at an outpoint.
use Rattle.std.proofs.Common.{◌≡◌, ◌≢◌, ℕ, ◌-◌, ◌^◌, true, false, List, [], ◌∷◌, length, Some, None, sym, ap, ◌∙◌, refl, subst, inl, inr, arith, lit<}
use Rattle.std.specs.Prelude.{slice_get}
use Rattle.std.specs.List.{Contains, Any, AllByRecursion}
use Rattle.std.specs.Str.{bytes_eq}
use Rattle.std.proofs.lemmas.Bool.{true≢false}
use Rattle.std.proofs.lemmas.Option.{same_Some, slice_get_past}
use Rattle.std.proofs.lemmas.Slice.Eq.{bytes_eq-Decides}
use Rattle.tx.specs.declared.input.OutPoint.{OutPoint}
use Rattle.tx.specs.declared.input.TxIn.{TxIn}
use Rattle.tx.specs.Parts.{Output}
use Rattle.tx.specs.Fields.{Transaction, unsigned_transaction}
use Rattle.tx.specs.Spelling.{transaction_id}
use Rattle.keys.specs.declared.bases.Base.TheVariants.{Payment, Htlc}
use Rattle.keys.specs.Derivation.{base_key}
use Rattle.keys.specs.Rights.{Rights}
use Rattle.chain.specs.Blocks.{Contents as Block, Coin, grant_id, grant_outpoint, coin_at, has_id}
use Rattle.chain.specs.Conserving.{GrantsAreApart}
use Rattle.claim.specs.Claims.{ClaimParts, FitsClaim}
use Rattle.claim.specs.Fitting.{output_at}
use Rattle.filling.specs.Filled.{AllFit}
use Rattle.terms.specs.declared.agreement.BaseKeys.{BaseKeys}
use Rattle.terms.specs.declared.agreement.Terms.{Terms}
use Rattle.terms.specs.declared.sides.Side.{Side}
use Rattle.terms.specs.declared.sides.Side.TheVariants.{A, B}
use Rattle.terms.specs.declared.views.View.{View}
use Rattle.commit.specs.declared.outputs.OutputKind.TheVariants.{ToLocal, ToRemote, ToHtlc}
use Rattle.commit.specs.declared.outputs.CommitmentOutput.{CommitmentOutput}
use Rattle.commit.specs.declared.outputs.HtlcOutput.{HtlcOutput}
use Rattle.commit.specs.Sums.{total_msat_of, fee_paid_sat, left_out_sat, rounded_off_msat}
use Rattle.commit.specs.Commitments.{Contents, id_of, transaction_of, htlcs_of}
use Rattle.penalty.specs.declared.states.RevokedState.{RevokedState}
use Rattle.penalty.specs.Claimable.{Claimable, penalty_on, payment_on, commitment_in, claimable_of}
use Rattle.penalty.specs.Paying.{CanPay}
use Rattle.penalty.specs.Worth.{staged, IsCapacityWith}
use Rattle.resolve.specs.declared.known.RevokedCommitment.{RevokedCommitment}
use Rattle.resolve.specs.declared.known.Known.{Known}
use Rattle.resolve.specs.Due.{delayed_on, owners_due, peers_due}
use Rattle.channel.specs.declared.commitments.CommitmentState.{CommitmentState}
use Rattle.channel.specs.Tokens.{contents_of}
use Rattle.safety.specs.Signing.{Signed, digest_of}
use Rattle.safety.specs.Ways.{by_peer, by_htlc_transaction, by_owner, by_collision}
use Rattle.safety.specs.Spending.{spend_on, IsSignedBy}
use Rattle.safety.specs.Standing.{StandsAt}
use Rattle.safety.specs.Strings.{IsHashedForCommitment, IsHashedForSeed, StringsCollide}
use Rattle.safety.specs.Fates.{signed_by_peer}
use Rattle.safety.specs.Whereabouts.{IsOnChain, HasCommitment, IsNamedBy, ShowsOnlyOn, IsCoinOf, Whereabouts, unspent, taken, AreAllThere}
use Rattle.safety.specs.Recorded.{IsOutPoint, IsPayable}
use Rattle.safety.specs.Places.{place_at, IsAt, IsHtlcAt, IsOwnersClaim, delayed, second_stage, delayed_second, IsPeersClaim, payment, direct, IsRevokedClaim, penalty, own_payment, htlc_penalty, second_penalty, IsOutPointOf, of_output, of_second_stage, IsKnownDue, on_own, on_theirs, on_next, on_revoked}
use Rattle.safety.specs.Outputs.{IsOneOutput}
use Rattle.safety.specs.Seeds.{AreOfTwoSeeds, SidesCollide}
use Rattle.safety.specs.Owning.{IsHashedForRights, of_seed as of_seed_of, of_derived, of_revoked, AreOfSeed}
use Rattle.safety.specs.Takers.{IsHtlcTransaction, AreOneByNumber, OwnersWay}
use Rattle.safety.specs.Taken.{ChannelRecord, IsIn, IsOwn, IsSound, ChannelRecords, AreSound, IsDueTo, of_own, of_peers, of_revoked as of_revoked_claim, IsFilledBy, Fillings, AreFilled, IsFrom, from_commitment, from_htlc, from_filling, IsHashedForChannels, of_commitment, of_seed, of_grant, IsTaker, IsTakenOn}
use Rattle.safety.specs.Waiting.{FitsOne}
use Rattle.safety.proofs.Lists.{none_some, contains_none}
use Rattle.safety.specs.Enforcement.{IsTime}
use Rattle.law_examples.proofs.Samples.{empty}

-- yes: HasCommitment, by crates/safety/proofs/ChainExamples.antt: chain
-- yes: ShowsOnlyOn, by crates/safety/proofs/ChainExamples.antt: shows
-- yes: AreAllThere, by crates/safety/proofs/ChainExamples.antt: all_there
-- yes: IsCapacityWith, by crates/penalty/proofs/WorthExamples.antt: offered_capacity
-- yes: CanPay, by crates/safety/proofs/SeedExamples.antt: pays
-- yes: IsPayable, by crates/safety/proofs/TakerExamples.antt: payable
-- yes: IsOneOutput, by crates/safety/proofs/CommitmentExamples.antt: itself
-- yes: AreOfTwoSeeds, by crates/safety/proofs/SeedExamples.antt: two_seeds
-- yes: AreOfSeed, by crates/safety/proofs/TakerExamples.antt: seeds
-- yes: OwnersWay, by crates/safety/proofs/TakerExamples.antt: late
-- yes: IsIn, by crates/safety/proofs/TakerExamples.antt: held_there
-- yes: IsOwn, by crates/safety/proofs/TakerExamples.antt: each
-- yes: IsSound, by crates/safety/proofs/TakerExamples.antt: is_sound
-- yes: AreSound, by crates/safety/proofs/TakerExamples.antt: are_sound
-- yes: IsDueTo, by crates/safety/proofs/TakerExamples.antt: is_due
-- yes: AreFilled, by crates/safety/proofs/TakerExamples.antt: are_filled
-- yes: IsTaker, by crates/safety/proofs/TakerExamples.antt: filled
-- yes: IsTime, by crates/world/proofs/EnforcementExamples.antt: time

-- ---- on a chain

module _ (t signed : Transaction) where
  abbrev holding : List Block
  holding = empty ∷ record { transactions = signed ∷ []; granted = [] } ∷ empty ∷ empty ∷ []

  -- yes: IsOnChain
  on_chain : unsigned_transaction signed ≡ t → IsOnChain holding t
  on_chain e = record { height = 2; signed = signed; stands = record { block = record { transactions = signed ∷ []; granted = [] }; there = refl; within = (0, lit< tt, refl) }; same = e }

  -- no: IsOnChain
  on_no_chain : IsOnChain [] t → ⊥
  on_no_chain c = none_some c.stands.block (sym (slice_get_past [] c.height (omega arith)) ∙ c.stands.there)

-- no: HasCommitment
no_commitment : (s : RevokedState) → HasCommitment [] s → ⊥
no_commitment s h = on_no_chain (transaction_of (commitment_in s)) (h.commitment.signed) h.commitment

module _ (o : Claimable) (t : Transaction) (input : TxIn) (only : t.inputs ≡ input ∷ []) where
  abbrev with_it : List Block
  with_it = record { transactions = t ∷ []; granted = [] } ∷ empty ∷ []

  stands_there : StandsAt with_it 1 t
  stands_there = record { block = record { transactions = t ∷ []; granted = [] }; there = refl; within = (0, lit< tt, refl) }

  -- yes: IsNamedBy
  named_by : input.outpoint ≡ o.place.outpoint → IsNamedBy with_it o 1 t input
  named_by e = record { stands = stands_there; within = subst (λ (is : List TxIn). Contains is input) (sym only) (0, lit< tt, refl); names = e }

  -- no: IsNamedBy
  names_another : input.outpoint.index ≡ 1 → o.place.outpoint.index ≡ 2 → IsNamedBy with_it o 1 t input → ⊥
  names_another e f n = let g = ap (λ (p : OutPoint). p.index) n.names in omega (arith, e, f, g)

  -- no: IsNamedBy
  named_below : IsNamedBy with_it o 0 t input → ⊥
  named_below n = contains_none t (subst (λ (b : Block). Contains b.transactions t) (sym (same_Some empty n.stands.block n.stands.there)) n.stands.within)

  -- a token of the peer's, where it signed nothing
  -- no: ShowsOnlyOn
  shows_unsigned : (s : RevokedState) → Contains (claimable_of s) o → input.outpoint ≡ o.place.outpoint → signed_by_peer (commitment_in s) [] ≡ [] → IsSignedBy (commitment_in s).keys.revocation (spend_on o t input)
      → ShowsOnlyOn with_it s [] → ⊥
  shows_unsigned s i e none signed h = by (subst (λ (zs : List Signed). Any (λ z. digest_of (spend_on o t input) ≡ digest_of z) zs) none (h o i 1 t input (named_by e) (commitment_in s).keys.revocation (0, lit< tt, refl) signed))
    where
      by : Any (λ z. digest_of (spend_on o t input) ≡ digest_of z) [] → ⊥
      by a = let l = a.2 in omega (arith, l)

module _ (o : Claimable) (out : Output) (at : o.place.outpoint ≡ grant_outpoint 0) where
  abbrev granting : List Block
  granting = record { transactions = []; granted = out ∷ [] } ∷ empty ∷ []

  abbrev coin_from : ℕ → Coin
  coin_from height = record { output = out; height = height; spent = false }

  found : coin_at granting o.place.outpoint ≡ Some (coin_from 1)
  found = subst (λ (p : OutPoint). coin_at granting p ≡ Some (coin_from 1)) (sym at) (rw ((bytes_eq-Decides (grant_id 0) (grant_id 0)).1 refl) refl)

  -- yes: IsCoinOf
  coin_of : out ≡ output_at o.place → IsCoinOf granting o (coin_from 1)
  coin_of e = record { there = found; output = e }

  -- no: IsCoinOf
  of_another_height : IsCoinOf granting o (coin_from 0) → ⊥
  of_another_height c = let f = ap (λ (x : Coin). x.height) (same_Some (coin_from 1) (coin_from 0) (sym found ∙ c.there)) in omega (arith, f)

  -- no: IsCoinOf
  of_another_value : out.value ≡ 7 → o.place.value ≡ 8 → IsCoinOf granting o (coin_from 1) → ⊥
  of_another_value e f c = let g : out.value ≡ o.place.value = ap (λ (x : Output). x.value) c.output in omega (arith, e, f, g)

  -- yes: Whereabouts
  still_unspent : (s : RevokedState) (own : List Signed) → out ≡ output_at o.place → Whereabouts granting s own o
  still_unspent s own e = unspent (coin_from 1) (coin_of e) refl

-- no: Whereabouts
nowhere : (s : RevokedState) (own : List Signed) (o : Claimable) → Whereabouts [] s own o → ⊥
nowhere s own o (unspent coin c e) = none_some coin c.there
nowhere s own o (taken coin c height t input n e) = none_some coin c.there

-- no: AreAllThere
all_nowhere : (s : RevokedState) (own : List Signed) (o : Claimable) (a : AreAllThere [] s own) → staged a.stands (commitment_in s) ≡ o ∷ [] → ⊥
all_nowhere s own o a e = nowhere s own o (by (staged a.stands (commitment_in s)) e a.each)
  where
    by : (os : List Claimable) → os ≡ o ∷ [] → AllByRecursion (Whereabouts [] s own) os → Whereabouts [] s own o
    by os f each = (subst (AllByRecursion (Whereabouts [] s own)) f each).0

module _ (out : Output) (t : Transaction) where
  -- yes: GrantsAreApart
  one_grant : GrantsAreApart (record { transactions = []; granted = out ∷ [] } ∷ [])
  one_grant = record { among_grants = λ g h l m. absurd (omega (arith, l, m)); from_transactions = λ g l. refl }

  -- no: GrantsAreApart
  with_its_id : bytes_eq (transaction_id t) (grant_id 0) ≡ true → GrantsAreApart (record { transactions = t ∷ []; granted = out ∷ [] } ∷ []) → ⊥
  with_its_id e g = let f : has_id (record { transactions = t ∷ []; granted = out ∷ [] } ∷ []) (grant_id 0) ≡ true = rw e refl in true≢false (sym f ∙ g.from_transactions 0 (omega arith))

-- ---- amounts

module _ (s : RevokedState) where
  -- no: IsCapacityWith
  one_satoshi_more : fee_paid_sat s.terms s.view s.owner ≡ 896 → left_out_sat s.terms s.view s.owner ≡ 0 → rounded_off_msat s.view ≡ 0 → s.terms.capacity_sat ≡ 100000 → IsCapacityWith s 99105 → ⊥
  one_satoshi_more f l r c e = omega (arith, f, l, r, c, e)

-- no: CanPay
other_total : (terms : Terms) (view : View) → total_msat_of view ≡ 100001 → terms.capacity_sat ≡ 100 → CanPay terms view → ⊥
other_total terms view e c p = let f = p.whole in omega (arith, e, c, f)

-- yes: IsOutPoint
out_point : (txid : List ℕ) → length txid ≡ 32 → IsOutPoint (record { txid = txid; index = 2 ^ 32 - 1 })
out_point txid l = record { txid = l; index = omega arith }

-- no: IsOutPoint
far_index : (txid : List ℕ) → IsOutPoint (record { txid = txid; index = 2 ^ 32 }) → ⊥
far_index txid o = let l = o.index in omega (arith, l)

-- no: IsOutPoint
short_id : (txid : List ℕ) → length txid ≡ 31 → IsOutPoint (record { txid = txid; index = 0 }) → ⊥
short_id txid e o = let l = o.txid in omega (arith, e, l)

-- no: IsPayable
great_number : (terms : Terms) (k : CommitmentState) → k.number ≡ 2 ^ 48 → IsPayable terms k → ⊥
great_number terms k e p = let l = p.number in omega (arith, e, l)

-- ---- claims on a commitment

module _ (c : Contents) (out : CommitmentOutput) (there : c.outputs ≡ out ∷ []) where
  at_zero : slice_get c.outputs 0 ≡ Some out
  at_zero = rw there refl

  -- yes: IsAt
  is_at : out.kind ≡ ToLocal → IsAt c 0 out ToLocal
  is_at e = record { there = at_zero; kind = e }

  -- no: IsAt
  at_one : IsAt c 1 out ToLocal → ⊥
  at_one a = none_some out (sym (slice_get_past (out ∷ []) 1 (omega arith)) ∙ sym (ap (λ (os : List CommitmentOutput). slice_get os 1) there) ∙ a.there)

  -- yes: IsOwnersClaim
  owners : out.kind ≡ ToLocal → IsOwnersClaim c (delayed_on c (place_at c 0 out))
  owners e = delayed 0 out (is_at e) refl

  -- yes: IsPeersClaim
  peers : out.kind ≡ ToRemote → IsPeersClaim c (payment_on c (place_at c 0 out))
  peers e = payment 0 out (record { there = at_zero; kind = e }) refl

  -- yes: IsRevokedClaim
  revokeds : out.kind ≡ ToLocal → IsRevokedClaim c (penalty_on c (place_at c 0 out))
  revokeds e = penalty 0 out (is_at e) refl

  -- yes: IsOutPointOf
  out_point_of : IsOutPointOf c (record { txid = id_of c; index = 0 })
  out_point_of = of_output 0 out at_zero refl

  -- yes: IsHtlcAt
  htlc_at : (h : HtlcOutput) → IsAt c h.index out (ToHtlc h.direction h.htlc) → Contains (htlcs_of c) h → IsHtlcAt c h out
  htlc_at h a i = record { at = a; among = i }

module _ (c : Contents) (none : c.outputs ≡ []) (no_htlc : htlcs_of c ≡ []) where
  none_at : (index : ℕ) (out : CommitmentOutput) → slice_get c.outputs index ≡ Some out → ⊥
  none_at index out e = none_some out (sym (slice_get_past [] index (omega arith)) ∙ sym (ap (λ (os : List CommitmentOutput). slice_get os index) none) ∙ e)

  -- no: IsHtlcAt
  no_htlc_at : (h : HtlcOutput) (out : CommitmentOutput) → IsHtlcAt c h out → ⊥
  no_htlc_at h out a = contains_none h (subst (λ (hs : List HtlcOutput). Contains hs h) no_htlc a.among)

  -- no: IsOwnersClaim
  no_owners : (o : Claimable) → IsOwnersClaim c o → ⊥
  no_owners o (delayed index out a e) = none_at index out a.there
  no_owners o (second_stage h out a e) = no_htlc_at h out a
  no_owners o (delayed_second h out a e) = no_htlc_at h out a

  -- no: IsPeersClaim
  no_peers : (o : Claimable) → IsPeersClaim c o → ⊥
  no_peers o (payment index out a e) = none_at index out a.there
  no_peers o (direct h out a e) = no_htlc_at h out a

  -- no: IsRevokedClaim
  no_revokeds : (o : Claimable) → IsRevokedClaim c o → ⊥
  no_revokeds o (penalty index out a e) = none_at index out a.there
  no_revokeds o (own_payment index out a e) = none_at index out a.there
  no_revokeds o (htlc_penalty h out a e) = no_htlc_at h out a
  no_revokeds o (second_penalty h out a e) = no_htlc_at h out a

  -- no: IsOutPointOf
  no_out_point : (p : OutPoint) → IsOutPointOf c p → ⊥
  no_out_point p (of_output index out i e) = none_at index out i
  no_out_point p (of_second_stage h i e) = contains_none h (subst (λ (hs : List HtlcOutput). Contains hs h) no_htlc i)

-- two outputs of one commitment
-- no: IsOneOutput
two_outputs : (c : Contents) (p : OutPoint) (x y : CommitmentOutput) (i : slice_get c.outputs 0 ≡ Some x) (j : slice_get c.outputs 1 ≡ Some y) (e : p ≡ record { txid = id_of c; index = 0 })
    (f : p ≡ record { txid = id_of c; index = 1 }) → IsOneOutput c c p (of_output 0 x i e) (of_output 1 y j f) → ⊥
two_outputs c p x y i j e f o = let g = o.1 in omega (arith, g)

module _ (known : Known) (o : Claimable) where
  -- yes: IsKnownDue
  due_on_own : Contains (owners_due known.preimages known.own.commitment) o → IsKnownDue known o
  due_on_own i = on_own i

  -- no: IsKnownDue
  nothing_due : owners_due known.preimages known.own.commitment ≡ [] → peers_due known.preimages known.theirs ≡ [] → known.next ≡ None → known.revoked ≡ [] → IsKnownDue known o → ⊥
  nothing_due e f n r (on_own i) = contains_none o (subst (λ (os : List Claimable). Contains os o) e i)
  nothing_due e f n r (on_theirs i) = contains_none o (subst (λ (os : List Claimable). Contains os o) f i)
  nothing_due e f n r (on_next c g i) = none_some c (sym n ∙ g)
  nothing_due e f n r (on_revoked m k i g h) = none_some k (sym (slice_get_past [] m (omega arith)) ∙ sym (ap (λ (xs : List RevokedCommitment). slice_get xs m) r) ∙ i)

-- ---- seeds

-- no: AreOfSeed
swapped_keys : (seed : List ℕ) (bases : BaseKeys) → base_key seed Htlc ≢ base_key seed Payment → bases.htlc.bytes ≡ base_key seed Payment → AreOfSeed seed bases → ⊥
swapped_keys seed bases n e s = n (sym s.htlc ∙ e)

module _ (terms : Terms) (k m : CommitmentState) (seed rival : List ℕ) where
  -- no: AreOfTwoSeeds
  one_seed : AreOfTwoSeeds terms k seed seed → ⊥
  one_seed a = a.apart refl

  -- yes: SidesCollide
  seeds_collide : StringsCollide (IsHashedForSeed seed) (IsHashedForSeed rival) → SidesCollide terms k m seed rival
  seeds_collide c = inr c

  -- no: SidesCollide
  nothing_collides : (StringsCollide (IsHashedForCommitment terms k) (IsHashedForCommitment terms m) → ⊥) → (StringsCollide (IsHashedForSeed seed) (IsHashedForSeed rival) → ⊥) → SidesCollide terms k m seed rival → ⊥
  nothing_collides n o (inl c) = n c
  nothing_collides n o (inr c) = o c

  -- of one side, by number
  -- yes: AreOneByNumber
  two_numbers : k.number ≡ 0 → m.number ≡ 1 → AreOneByNumber k m
  two_numbers e f g = absurd (omega (arith, e, f, g))

  -- no: AreOneByNumber
  two_of_one_number : k.number ≡ m.number → k ≢ m → AreOneByNumber k m → ⊥
  two_of_one_number e n o = n (o e)

  -- no: OwnersWay
  owners_early : (o : Claimable) (t : Transaction) → (contents_of terms k).delay_blocks ≡ 144 → (IsHtlcTransaction (contents_of terms k) o.place.outpoint 243 t → ⊥)
      → (StringsCollide (IsHashedForCommitment terms k) (IsHashedForCommitment terms m) → ⊥) → OwnersWay terms k m o 100 243 t → ⊥
  owners_early o t d n c (by_peer p) = p
  owners_early o t d n c (by_htlc_transaction h) = n h
  owners_early o t d n c (by_owner w) = let l = w.late in omega (arith, d, l)
  owners_early o t d n c (by_collision s) = c s

-- yes: IsHashedForRights
rights_hash : (r : Rights) (bytes : List ℕ) → IsHashedForSeed r.seed bytes → IsHashedForRights r bytes
rights_hash r bytes h = of_seed_of h

-- no: IsHashedForRights
learnt_nothing : (seed bytes : List ℕ) → (IsHashedForSeed seed bytes → ⊥) → IsHashedForRights (record { seed = seed; points = []; secrets = [] }) bytes → ⊥
learnt_nothing seed bytes n (of_seed_of h) = n h
learnt_nothing seed bytes n (of_derived b point i e) = contains_none point i
learnt_nothing seed bytes n (of_revoked b secret i e) = contains_none secret i

-- ---- what two sides recorded

module _ (r : ChannelRecord) (k : CommitmentState) where
  -- no: IsIn
  not_recorded : r.own B ≡ [] → IsIn r B k → ⊥
  not_recorded e i = none_some k (sym (slice_get_past [] i.at (omega arith)) ∙ sym (ap (λ (ks : List CommitmentState). slice_get ks i.at) e) ∙ i.there)

  -- no: IsOwn
  of_another_number : k.number ≡ 1 → IsOwn r A 0 k → ⊥
  of_another_number e o = let n = o.number in omega (arith, e, n)

  -- no: IsSound
  equal_seeds : r.seed A ≡ r.seed B → IsSound r → ⊥
  equal_seeds e s = s.apart A e

  -- no: AreSound
  on_another_grant : (channels : ChannelRecords) → channels 1 ≡ Some r → r.terms.funding ≡ grant_outpoint 0 → grant_outpoint 0 ≢ grant_outpoint 1 → AreSound channels → ⊥
  on_another_grant channels e f n s = n (sym f ∙ s.granted 1 r e)

abbrev no_channels : ChannelRecords
no_channels c = None

abbrev no_fillings : Fillings
no_fillings side = []

-- no: IsDueTo
due_in_no_channel : (side : Side) (x : ClaimParts) → IsDueTo no_channels side x → ⊥
due_in_no_channel side x (of_own c r e k i p j) = none_some r e
due_in_no_channel side x (of_peers c r e k i p j) = none_some r e
due_in_no_channel side x (of_revoked_claim c r e k i j) = none_some r e

module _ (channels : ChannelRecords) (side : Side) (t : Transaction) (x : ClaimParts) where
  -- yes: IsFilledBy
  filled_by : AllFit t (x ∷ []) t.inputs → ((y : ClaimParts) → Contains (x ∷ []) y → IsDueTo channels side y) → IsFilledBy channels side t
  filled_by f d = record { claims = x ∷ []; fits = f; due = d }

  -- no: AreFilled
  unfilled : (IsFilledBy channels A t → ⊥) → (fillings : Fillings) → fillings A ≡ t ∷ [] → AreFilled channels fillings → ⊥
  unfilled n fillings e a = n (a A t (subst (λ (ts : List Transaction). Contains ts t) (sym e) (0, lit< tt, refl)))

-- no: IsFilledBy
filled_in_no_channel : (side : Side) (t : Transaction) (input : TxIn) → t.inputs ≡ input ∷ [] → IsFilledBy no_channels side t → ⊥
filled_in_no_channel side t input e f = by f.claims (subst (AllFit t f.claims) e f.fits) f.due
  where
    by : (claims : List ClaimParts) → AllFit t claims (input ∷ []) → ((x : ClaimParts) → Contains claims x → IsDueTo no_channels side x) → ⊥
    by [] a d = a
    by (x ∷ claims) a d = due_in_no_channel side x (d x (0, omega arith, refl))

module _ (t : Transaction) where
  abbrev filling_of : Fillings
  filling_of side = t ∷ []

  -- yes: IsFrom
  from_its_filling : IsFrom no_channels filling_of t
  from_its_filling = from_filling B (0, lit< tt, refl)

  -- no: IsFrom
  from_nowhere : IsFrom no_channels no_fillings t → ⊥
  from_nowhere (from_commitment c r e side k i f) = none_some r e
  from_nowhere (from_htlc c r e side k i h j f) = none_some r e
  from_nowhere (from_filling side i) = contains_none t i

-- yes: IsHashedForChannels
hashed_for_its_seed : (channels : ChannelRecords) (r : ChannelRecord) (bytes : List ℕ) → channels 3 ≡ Some r → IsHashedForSeed (r.seed B) bytes → IsHashedForChannels channels bytes
hashed_for_its_seed channels r bytes e h = of_seed 3 r e B h

-- no: IsHashedForChannels
hashed_for_no_channel : (bytes : List ℕ) → IsHashedForChannels no_channels bytes → ⊥
hashed_for_no_channel bytes (of_commitment c r e side k i h) = none_some r e
hashed_for_no_channel bytes (of_seed c r e side h) = none_some r e
hashed_for_no_channel bytes (of_grant c r e h) = none_some r e

-- no: IsTaker
taken_by_nobody : (r : ChannelRecord) (k : CommitmentState) (o : Claimable) (t : Transaction) → (IsHtlcTransaction (contents_of r.terms k) o.place.outpoint 243 t → ⊥) → IsTaker no_channels no_fillings r A k o 100 243 t → ⊥
taken_by_nobody r k o t n (by_peer i) = contains_none t i
taken_by_nobody r k o t n (by_htlc_transaction h) = n h
taken_by_nobody r k o t n (by_owner p) = contains_none t p.0
taken_by_nobody r k o t n (by_collision s) = hashed_for_no_channel s.first s.of_first

module _ (o : Claimable) (out : Output) (at : o.place.outpoint ≡ grant_outpoint 0) (Takes : ℕ → Type 0) where
  -- by the height of its coin's block
  -- yes: IsTakenOn
  taken_on : Takes 1 → IsTakenOn (granting o out at) o Takes
  taken_on p = record { coin = coin_from o out at 1; there = found o out at; taker = p }

  -- no: IsTakenOn
  taken_on_nothing : IsTakenOn [] o Takes → ⊥
  taken_on_nothing t = none_some t.coin t.there

module _ (x y : ClaimParts) (t : Transaction) (input : TxIn) where
  -- yes: FitsOne
  fits_second : FitsClaim y t input → FitsOne (x ∷ y ∷ []) t input
  fits_second f = (y, (1, lit< tt, refl), f)

  -- no: FitsOne
  fits_none : FitsOne [] t input → ⊥
  fits_none f = contains_none f.0 f.1

  -- no: IsTime
  at_its_lock_time : (coin : Coin) → t.lock_time ≡ 500 → IsTime 500 x t coin → ⊥
  at_its_lock_time coin e i = let l = i.above in omega (arith, e, l)

  -- no: IsTime
  below_the_coin : (coin : Coin) → coin.height ≡ 500 → IsTime 499 x t coin → ⊥
  below_the_coin coin e i = let l = i.age in omega (arith, e, l)
