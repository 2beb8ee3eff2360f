-- What is revoked to a side, what a side released, what is hashed in a world, and what takes an output in one.
use Rattle.std.proofs.Common.{◌≡◌, ◌≢◌, ℕ, zero, suc, Bool, true, false, List, [], ◌∷◌, length, Some, None, sym, ap, ◌∙◌, refl, subst, ⊎_elim, arith, lit<}
use Rattle.std.specs.Prelude.{slice_get}
use Rattle.std.specs.List.{Contains}
use Rattle.std.proofs.lemmas.Bool.{false≢true}
use Rattle.std.proofs.lemmas.Option.{same_Some, slice_get_past}
use Rattle.tx.specs.declared.input.TxIn.{TxIn}
use Rattle.tx.specs.Parts.{Output}
use Rattle.tx.specs.Fields.{Transaction}
use Rattle.tx.specs.Spelling.{number}
use Rattle.chain.specs.Blocks.{Contents as Block}
use Rattle.terms.specs.declared.sides.Side.TheVariants.{A, B}
use Rattle.claim.specs.Claims.{ClaimParts}
use Rattle.penalty.specs.Claimable.{Claimable}
use Rattle.penalty.specs.Sets.{AreClaimsOn}
use Rattle.commit.specs.Commitments.{Contents}
use Rattle.channel.specs.declared.commitments.CommitmentState.{CommitmentState}
use Rattle.channel.specs.States.{State}
use Rattle.safety.specs.Strings.{IsHashedForCommitment, IsHashedForSeed, StringsCollide}
use Rattle.safety.specs.Ways.{by_peer, by_htlc_transaction, by_owner, by_collision}
use Rattle.safety.specs.Takers.{IsHtlcTransaction}
use Rattle.safety.proofs.Lists.{none_some, contains_none}
use Rattle.safety.proofs.Slots.{contains_cases}
use Rattle.book.specs.declared.calls.Batch.{Batch}
use Rattle.book.specs.declared.calls.Call.{Call}
use Rattle.book.specs.declared.calls.Call.TheVariants.{Keep, Release}
use Rattle.book.specs.declared.calls.Entry.{Entry}
use Rattle.book.specs.Calls.{IsBatchOf}
use Rattle.book.specs.Calling.{filling_by}
use Rattle.book.specs.Books.{ChannelBook, Channels, replay}
use Rattle.book.specs.Guarding.{claimable_by, ArePenaltiesIn}
use Rattle.book.specs.Penalties.{revoked_contents, claimable_in}
use Rattle.world.specs.Worlds.{World}
use Rattle.world.specs.Releasing.{IsFillingIn, AreFillings}
use Rattle.law_examples.proofs.Samples.{world_of}
use Rattle.world.specs.Taken.{IsRevokedTo, HasWaitedOn, IsHashedIn, of_commitment, of_seed, of_grant, IsTaker, OutputsAreTaken}

-- yes: IsFillingIn, by crates/world/proofs/EnforcementExamples.antt: is_filling
-- yes: AreFillings, by crates/world/proofs/EnforcementExamples.antt: are_fillings
-- yes: ArePenaltiesIn, by crates/book/proofs/KeptExamples.antt: small_kept

-- ---- what is revoked to a side

-- side A has two channels, and side B has the other ends
module _ (of_a of_b : List Entry) (blocks : List Block) (first second peers_first peers_second : ChannelBook)
    (a_has : replay of_a ≡ first ∷ second ∷ []) (b_has : replay of_b ≡ peers_first ∷ peers_second ∷ []) where
  abbrev w : World
  w = world_of of_a of_b blocks

  a_second : slice_get (replay of_a) 1 ≡ Some second
  a_second = rw a_has refl

  b_second : slice_get (replay of_b) 1 ≡ Some peers_second
  b_second = rw b_has refl

  -- of the second channel, the commitment of any number that both lists have
  -- yes: IsRevokedTo
  revoked_to_a : (n : ℕ) (k : CommitmentState) (secret : List ℕ) → slice_get second.state.signed n ≡ Some k → slice_get second.state.secrets n ≡ Some secret
      → second.state.seed ≢ peers_second.state.seed → IsRevokedTo w A (revoked_contents second.state k secret)
  revoked_to_a n k secret i j d = record {
    channel = 1;
    number = n;
    ch = second;
    commitment = k;
    secret = secret;
    there = a_second;
    signed = i;
    revealed = j;
    peers = peers_second;
    peers_there = b_second;
    apart = d;
    is = refl;
  }

  -- so of the commitments 0 and 1
  both_revoked : (k m : CommitmentState) (x y : List ℕ) → second.state.signed ≡ k ∷ m ∷ [] → second.state.secrets ≡ x ∷ y ∷ [] → second.state.seed ≢ peers_second.state.seed
      → IsRevokedTo w A (revoked_contents second.state k x) × IsRevokedTo w A (revoked_contents second.state m y)
  both_revoked k m x y e f d = (revoked_to_a 0 k x (rw e refl) (rw f refl) d, revoked_to_a 1 m y (rw e refl) (rw f refl) d)

  -- B's own state is that of its own channel
  -- yes: IsRevokedTo
  revoked_to_b : (n : ℕ) (k : CommitmentState) (secret : List ℕ) → slice_get peers_second.state.signed n ≡ Some k → slice_get peers_second.state.secrets n ≡ Some secret
      → peers_second.state.seed ≢ second.state.seed → IsRevokedTo w B (revoked_contents peers_second.state k secret)
  revoked_to_b n k secret i j d = record {
    channel = 1;
    number = n;
    ch = peers_second;
    commitment = k;
    secret = secret;
    there = b_second;
    signed = i;
    revealed = j;
    peers = second;
    peers_there = a_second;
    apart = d;
    is = refl;
  }

  -- no: IsRevokedTo
  no_secret : (c : Contents) → first.state.secrets ≡ [] → second.state.secrets ≡ [] → IsRevokedTo w A c → ⊥
  no_secret c e f r = by r.channel r.there
    where
      none : (s : State) → s.secrets ≡ [] → s ≡ r.ch.state → ⊥
      none s g h =
          let secrets : r.ch.state.secrets ≡ [] = ap (λ (z : State). z.secrets) (sym h) ∙ g in
          none_some r.secret (sym (slice_get_past [] r.number (omega arith)) ∙ subst (λ (z : List (List ℕ)). slice_get z r.number ≡ Some r.secret) secrets r.revealed)

      by : (n : ℕ) → slice_get (replay of_a) n ≡ Some r.ch → ⊥
      by zero i = none first.state e (ap (λ (x : ChannelBook). x.state) (same_Some first r.ch (sym (ap (λ (z : List ChannelBook). slice_get z 0) a_has) ∙ i)))
      by (suc zero) i = none second.state f (ap (λ (x : ChannelBook). x.state) (same_Some second r.ch (sym a_second ∙ i)))
      by (suc (suc n)) i =
          none_some r.ch (sym (slice_get_past (first ∷ second ∷ []) (suc (suc n)) (omega arith)) ∙ sym (ap (λ (z : List ChannelBook). slice_get z (suc (suc n))) a_has) ∙ i)

  -- past the secrets that came: the second channel has one, and commitment 1 is not revoked
  -- no: IsRevokedTo
  next_number : (c : Contents) (x : List ℕ) → second.state.secrets ≡ x ∷ [] → (r : IsRevokedTo w A c) → r.channel ≡ 1 → r.number ≡ 1 → ⊥
  next_number c x f r g n =
      let at : slice_get (replay of_a) 1 ≡ Some r.ch = subst (λ (m : ℕ). slice_get (replay of_a) m ≡ Some r.ch) g r.there in
      let same : second ≡ r.ch = same_Some second r.ch (sym a_second ∙ at) in
      let secrets : r.ch.state.secrets ≡ x ∷ [] = ap (λ (z : ChannelBook). z.state.secrets) (sym same) ∙ f in
      let revealed : slice_get (x ∷ []) 1 ≡ Some r.secret = subst (λ (m : ℕ). slice_get (x ∷ []) m ≡ Some r.secret) n (subst (λ (z : List (List ℕ)). slice_get z r.number ≡ Some r.secret) secrets r.revealed) in
      none_some r.secret (sym (slice_get_past (x ∷ []) 1 (omega arith)) ∙ revealed)

-- no: IsRevokedTo
no_channel : (w : World) (c : Contents) → replay w.a.history ≡ [] → IsRevokedTo w A c → ⊥
no_channel w c e r = none_some r.ch (sym (slice_get_past [] r.channel (omega arith)) ∙ subst (λ (z : List ChannelBook). slice_get z r.channel ≡ Some r.ch) e r.there)

-- ---- what is hashed in a world

module _ (of_a of_b : List Entry) (blocks : List Block) where
  -- the ids of the grants of eight channels
  -- yes: IsHashedIn
  last_grant : IsHashedIn (world_of of_a of_b blocks) (0x67 ∷ 0x72 ∷ 0x61 ∷ 0x6e ∷ 0x74 ∷ 7 ∷ 0 ∷ 0 ∷ 0 ∷ 0 ∷ 0 ∷ 0 ∷ 0 ∷ [])
  unfolding number
  last_grant = of_grant 7 (lit< tt) refl

  -- yes: IsHashedIn
  own_seed : (ch : ChannelBook) (bytes : List ℕ) → slice_get (replay of_b) 3 ≡ Some ch → IsHashedForSeed ch.state.seed bytes → IsHashedIn (world_of of_a of_b blocks) bytes
  own_seed ch bytes i h = of_seed B 3 ch i h

  -- yes: IsHashedIn
  signed_one : (ch : ChannelBook) (k : CommitmentState) (bytes : List ℕ) → slice_get (replay of_a) 3 ≡ Some ch → slice_get ch.state.signed 5 ≡ Some k
      → IsHashedForCommitment ch.state.held.terms k bytes → IsHashedIn (world_of of_a of_b blocks) bytes
  signed_one ch k bytes i j h = of_commitment A 3 5 ch k i j h

abbrev sixth : List ℕ → ℕ
sixth (a ∷ b ∷ c ∷ d ∷ e ∷ f ∷ bytes) = f
sixth bytes = 0

-- without a channel there are the grants alone, and no ninth one
-- no: IsHashedIn
ninth_grant : (blocks : List Block) → IsHashedIn (world_of [] [] blocks) (0x67 ∷ 0x72 ∷ 0x61 ∷ 0x6e ∷ 0x74 ∷ 8 ∷ 0 ∷ 0 ∷ 0 ∷ 0 ∷ 0 ∷ 0 ∷ 0 ∷ []) → ⊥
unfolding number
ninth_grant blocks (of_commitment A c n ch k i j h) = none_some ch (sym (slice_get_past [] c (omega arith)) ∙ i)
ninth_grant blocks (of_commitment B c n ch k i j h) = none_some ch (sym (slice_get_past [] c (omega arith)) ∙ i)
ninth_grant blocks (of_seed A c ch i h) = none_some ch (sym (slice_get_past [] c (omega arith)) ∙ i)
ninth_grant blocks (of_seed B c ch i h) = none_some ch (sym (slice_get_past [] c (omega arith)) ∙ i)
ninth_grant blocks (of_grant c l e) = let f = ap sixth e in omega (arith, l, f)

-- ---- what was released

abbrev is_release_call : Call → Bool
is_release_call (Release c batch) = true
is_release_call call = false

abbrev is_release : Entry → Bool
is_release e = is_release_call e.call

abbrev filling_of_call : Transaction → Call → Transaction
filling_of_call t (Release c batch) = (filling_by batch).tx
filling_of_call t call = t

-- no: IsFillingIn
never_released : (t : Transaction) → IsFillingIn [] t → ⊥
never_released t f = contains_none (record { seat = f.seat; call = Release f.channel f.batch }) f.noted

-- the transaction is that of the batch
-- no: IsFillingIn
another_transaction : (t : Transaction) (batch : Batch) → t ≢ (filling_by batch).tx → IsFillingIn (record { seat = 3; call = Release 2 batch } ∷ []) t → ⊥
another_transaction t batch n f =
    ⊎_elim {C = ⊥} (λ (e : record { seat = 3; call = Release 2 batch } ≡ record { seat = f.seat; call = Release f.channel f.batch }). n (f.filled ∙ sym (ap (λ (x : Entry). filling_of_call t x.call) e)))
    (λ (i : Contains [] (record { seat = f.seat; call = Release f.channel f.batch })). contains_none (record { seat = f.seat; call = Release f.channel f.batch }) i)
    (contains_cases (record { seat = 3; call = Release 2 batch }) [] (record { seat = f.seat; call = Release f.channel f.batch }) f.noted)

-- a set that was kept is no release
-- no: IsFillingIn
kept_alone : (t : Transaction) (claims : List ClaimParts) → IsFillingIn (record { seat = 0; call = Keep 0 3 claims } ∷ []) t → ⊥
kept_alone t claims f =
    ⊎_elim {C = ⊥} (λ (e : record { seat = 0; call = Keep 0 3 claims } ≡ record { seat = f.seat; call = Release f.channel f.batch }). false≢true (ap is_release e))
    (λ (i : Contains [] (record { seat = f.seat; call = Release f.channel f.batch })). contains_none (record { seat = f.seat; call = Release f.channel f.batch }) i)
    (contains_cases (record { seat = 0; call = Keep 0 3 claims }) [] (record { seat = f.seat; call = Release f.channel f.batch }) f.noted)

-- no: AreFillings
of_neither : (t : Transaction) → AreFillings [] [] (t ∷ []) → ⊥
of_neither t a = ⊎_elim {C = ⊥} (λ (f : IsFillingIn [] t). never_released t f) (λ (f : IsFillingIn [] t). never_released t f) a.0

module _ (x y : ClaimParts) (o : Output) (b : Batch) where
  -- yes: IsBatchOf
  batch_of : b.claims ≡ x ∷ y ∷ [] → b.outputs ≡ o ∷ [] → b.preimages ≡ [] → IsBatchOf (x ∷ y ∷ []) (o ∷ []) [] b
  batch_of e f g = record { claims_is = e; outputs_is = f; preimages_is = g }

  -- no: IsBatchOf
  one_claim : b.claims ≡ x ∷ [] → IsBatchOf (x ∷ y ∷ []) (o ∷ []) [] b → ⊥
  one_claim e i = let l = ap length (sym e ∙ i.claims_is) in omega (arith, l)

  -- no: IsBatchOf
  two_outputs : b.outputs ≡ o ∷ o ∷ [] → IsBatchOf (x ∷ y ∷ []) (o ∷ []) [] b → ⊥
  two_outputs e i = let l = ap length (sym e ∙ i.outputs_is) in omega (arith, l)

-- no: ArePenaltiesIn
not_revoked : (chs : Channels) (claims : List ClaimParts) → claimable_by (slice_get chs 2) 5 ≡ None → ArePenaltiesIn 2 5 chs claims → ⊥
not_revoked chs claims e a = none_some a.outputs (sym e ∙ a.lets)

-- no: ArePenaltiesIn
one_not_kept : (chs : Channels) (o : Claimable) → claimable_by (slice_get chs 2) 5 ≡ Some (o ∷ []) → ArePenaltiesIn 2 5 chs [] → ⊥
one_not_kept chs o e a = subst (λ (os : List Claimable). AreClaimsOn os []) (sym (same_Some (o ∷ []) a.outputs (sym e ∙ a.lets))) a.exact

-- ---- what takes an output in a world

module _ (of_a of_b : List Entry) (blocks : List Block) (c : Contents) (o : Claimable) (t : Transaction) where
  abbrev world : World
  world = world_of of_a of_b blocks

  -- yes: IsTaker
  own_filling : IsFillingIn of_a t → IsTaker world A c o 244 t
  own_filling f = by_peer f

  -- yes: IsTaker
  owners_filling : IsFillingIn of_b t → HasWaitedOn blocks c o 244 → IsTaker world A c o 244 t
  owners_filling f h = by_owner (f, h)

  -- yes: IsTaker
  by_strings : StringsCollide (IsHashedIn world) (IsHashedIn world) → IsTaker world A c o 244 t
  by_strings s = by_collision s

  -- yes: IsTaker
  htlcs_transaction : IsHtlcTransaction c o.place.outpoint 244 t → IsTaker world A c o 244 t
  htlcs_transaction h = by_htlc_transaction h

  module _ (no_own : IsFillingIn of_a t → ⊥) (no_htlc : IsHtlcTransaction c o.place.outpoint 243 t → ⊥) (apart : StringsCollide (IsHashedIn world) (IsHashedIn world) → ⊥) where
    -- the owner's filling, a block early
    -- no: IsTaker
    owners_early : (HasWaitedOn blocks c o 243 → ⊥) → IsTaker world A c o 243 t → ⊥
    owners_early n (by_peer f) = no_own f
    owners_early n (by_htlc_transaction h) = no_htlc h
    owners_early n (by_owner p) = n p.1
    owners_early n (by_collision s) = apart s

    -- a transaction of neither side
    -- no: IsTaker
    strangers : (IsFillingIn of_b t → ⊥) → IsTaker world A c o 243 t → ⊥
    strangers n (by_peer f) = no_own f
    strangers n (by_htlc_transaction h) = no_htlc h
    strangers n (by_owner p) = n p.0
    strangers n (by_collision s) = apart s

-- a chain on which nothing stands, and one on which a transaction of neither side does
module _ (of_a of_b : List Entry) (c : Contents) (o : Claimable) (t : Transaction) where
  abbrev holding : List Block
  holding = record { transactions = t ∷ []; granted = [] } ∷ record { transactions = []; granted = [] } ∷ []

  -- yes: OutputsAreTaken
  nothing_stands : OutputsAreTaken (world_of of_a of_b [])
  nothing_stands s d p height u input r i stands within names = absurd (none_some stands.block (sym (slice_get_past [] height (omega arith)) ∙ stands.there))

  -- no: OutputsAreTaken
  taken_by_a_stranger : (input : TxIn) → t.inputs ≡ input ∷ [] → IsRevokedTo (world_of of_a of_b holding) A c → Contains (claimable_in c) o → input.outpoint ≡ o.place.outpoint
      → (IsTaker (world_of of_a of_b holding) A c o 1 t → ⊥) → OutputsAreTaken (world_of of_a of_b holding) → ⊥
  taken_by_a_stranger input e r i names n law =
      n (law A c o 1 t input r i (record { block = record { transactions = t ∷ []; granted = [] }; there = refl; within = (0, lit< tt, refl) }) (subst (λ (is : List TxIn). Contains is input) (sym e) (0, lit< tt, refl)) names)
