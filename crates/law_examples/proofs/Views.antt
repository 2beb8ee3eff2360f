-- What a view gives to each side, which commitments stand by number, and what the two ends of a channel have in common.
use Rattle.std.proofs.Common.{◌≡◌, ◌≢◌, ℕ, zero, suc, ◌+◌, Bool, true, false, List, [], ◌∷◌, map, length, Some, sym, ap, ◌∙◌, refl, subst, arith, lit≤}
use Rattle.std.specs.Prelude.{slice_get}
use Rattle.std.proofs.lemmas.Bool.{true≢false, false≢true}
use Rattle.std.proofs.lemmas.Option.{same_Some, slice_get_past}
use Rattle.script.specs.Token.{token_of}
use Rattle.sighash.proofs.Tokens.{one_token}
use Rattle.keys.specs.declared.bases.Base.{Base}
use Rattle.keys.specs.declared.bases.Base.TheVariants.{Payment, Htlc as HtlcBase}
use Rattle.keys.specs.Derivation.{base_key, derived_key, revocation_key, point_of}
use Rattle.keys.specs.Rights.{Rights, MaySign, own, derived, revoked}
use Rattle.terms.specs.Bases.{IsSeedOf}
use Rattle.terms.specs.declared.agreement.BaseKeys.{BaseKeys}
use Rattle.terms.specs.declared.agreement.Terms.{Terms}
use Rattle.terms.specs.declared.htlcs.Htlc.{Htlc}
use Rattle.terms.specs.declared.sides.Side.{Side}
use Rattle.terms.specs.declared.sides.Side.TheVariants.{A, B}
use Rattle.terms.specs.declared.views.View.{View}
use Rattle.terms.specs.Sides.{other}
use Rattle.updates.specs.declared.changes.Update.{Update}
use Rattle.updates.specs.declared.changes.Update.TheVariants.{Add, Fulfil}
use Rattle.updates.specs.Updates.{live}
use Rattle.updates.specs.Views.{IsCovered, IsSound, IsSoundBy}
use Rattle.updates.specs.Shares.{IsSoundIn}
use Rattle.updates.specs.Steady.{Held}
use Rattle.commit.specs.Commitments.{Contents}
use Rattle.commit.specs.Signing.{commitment_digest, htlc_digests}
use Rattle.channel.specs.declared.commitments.CommitmentState.{CommitmentState}
use Rattle.channel.specs.Keeping.{one_if}
use Rattle.channel.specs.States.{State}
use Rattle.channel.specs.Agreeing.{IsSoundState, FirstOf}
use Rattle.channel.specs.Numbered.{SharesOut, IsNumbered, AreNumbered}
use Rattle.channel.specs.Recording.{AreByNumber}
use Rattle.resolve.specs.Signed.{IsCommitmentToken, AreHtlcTokens}
use Rattle.safety.proofs.Lists.{none_some, contains_none}
use Rattle.safety.proofs.Samples.{bases_of}

-- yes: IsNumbered, by crates/safety/proofs/TakerExamples.antt: numbered
-- yes: IsCommitmentToken, by crates/resolve/proofs/KnownExamples.antt: of_a
-- yes: AreEnds, by crates/world/proofs/EndsExamples.antt: ends

-- ---- balances: A has 600 millisatoshis and offers all of them, B has 400

module _ (hash : List ℕ) where
  abbrev offer : ℕ → Htlc
  offer expiry_height = record { id = 0; amount_msat = 600; hash = hash; expiry_height = expiry_height }

  abbrev adding : ℕ → List Update
  adding expiry_height = Add (offer expiry_height) ∷ []

  -- yes: IsCovered
  covered : IsCovered 600 (adding 5) []
  covered = lit≤ tt

  -- no: IsCovered
  uncovered : IsCovered 599 (adding 5) [] → ⊥
  uncovered l = omega (arith, l)

  -- what the other side's offer brought once it was fulfilled
  -- yes: IsCovered
  covered_by_gain : (preimage : List ℕ) → IsCovered 0 (Fulfil 0 preimage ∷ Add (offer 5) ∷ []) (adding 6)
  covered_by_gain preimage = lit≤ tt

  -- no: IsCovered
  not_gained : IsCovered 0 (adding 5) (adding 6) → ⊥
  not_gained l = omega (arith, l)

  module _ (terms : Terms) (of_b : terms.b.start_msat ≡ 400) where
    -- yes: IsSound
    sound : terms.a.start_msat ≡ 600 → terms.capacity_sat ≡ 1 → IsSound terms (adding 499999999) []
    sound a c = record { a = omega (arith, a); b = omega arith; sum = omega (arith, a, of_b, c); few_of_a = lit≤ tt; few_of_b = lit≤ tt; heights_of_a = refl; heights_of_b = refl }

    -- no: IsSound
    short_of_one : terms.a.start_msat ≡ 599 → IsSound terms (adding 5) [] → ⊥
    short_of_one a s = let l = s.a in omega (arith, a, l)

    -- no: IsSound
    at_a_time : IsSound terms (adding 500000000) [] → ⊥
    at_a_time s = false≢true s.heights_of_a

    -- no: IsSound
    of_b_at_a_time : IsSound terms [] (adding 500000000) → ⊥
    of_b_at_a_time s = false≢true s.heights_of_b

    -- no: IsSound
    other_capacity : terms.a.start_msat ≡ 600 → terms.capacity_sat ≡ 2 → IsSound terms (adding 5) [] → ⊥
    other_capacity a c s = let e = s.sum in omega (arith, a, of_b, c, e)

    -- no: IsSound
    many_of_a : (xs ys : List Update) → length (live xs ys) ≡ 484 → IsSound terms xs ys → ⊥
    many_of_a xs ys e s = let l = s.few_of_a in omega (arith, e, l)

    -- no: IsSound
    many_of_b : (xs ys : List Update) → length (live ys xs) ≡ 484 → IsSound terms xs ys → ⊥
    many_of_b xs ys e s = let l = s.few_of_b in omega (arith, e, l)

    -- A's updates come first in A's view, and second in B's
    -- yes: IsSoundBy
    sound_by_a : terms.a.start_msat ≡ 600 → terms.capacity_sat ≡ 1 → IsSoundBy terms A (Add (offer 5) ∷ []) []
    sound_by_a a c = record { a = omega (arith, a); b = omega arith; sum = omega (arith, a, of_b, c); few_of_a = lit≤ tt; few_of_b = lit≤ tt; heights_of_a = refl; heights_of_b = refl }

    -- no: IsSoundBy
    unsound_by_b : IsSoundBy terms B (adding 5) [] → ⊥
    unsound_by_b s = let l = s.b in omega (arith, of_b, l)

    -- no: IsSoundBy
    unsound_by_a : terms.a.start_msat ≡ 599 → IsSoundBy terms A (adding 5) [] → ⊥
    unsound_by_a a s = let l = s.a in omega (arith, a, l)

    module _ (h : Held) where
      -- yes: IsSoundIn
      sound_in : terms.a.start_msat ≡ 600 → terms.capacity_sat ≡ 1 → IsSoundIn (record h { terms = terms; side = A }) (Add (offer 5) ∷ []) []
      sound_in a c = record { a = omega (arith, a); b = omega arith; sum = omega (arith, a, of_b, c); few_of_a = lit≤ tt; few_of_b = lit≤ tt; heights_of_a = refl; heights_of_b = refl }

      -- no: IsSoundIn
      unsound_in : IsSoundIn (record h { terms = terms; side = B }) (adding 5) [] → ⊥
      unsound_in s = let l = s.b in omega (arith, of_b, l)

-- the views of a state that are sound: each has the updates of its own stages
module _ (s : State) where
  -- yes: IsSoundState
  sound_state : IsSoundIn s.held s.held.own.with_sender s.held.theirs.with_receiver → IsSoundIn s.held s.held.own.past_receiver s.held.theirs.known
      → IsSoundIn s.held s.held.own.past_receiver s.held.theirs.settled → IsSoundIn s.held s.held.own.with_receiver s.held.theirs.with_sender
      → IsSoundIn s.held s.held.own.known s.held.theirs.past_receiver → IsSoundState s
  sound_state a b c d e = record { newest = a; next = b; peers = c; peers_next = d; to_sign = e }

  -- no: IsSoundState
  unsound_newest : (IsSoundIn s.held s.held.own.with_sender s.held.theirs.with_receiver → ⊥) → IsSoundState s → ⊥
  unsound_newest n i = n i.newest

  -- no: IsSoundState
  unsound_next : (IsSoundIn s.held s.held.own.past_receiver s.held.theirs.known → ⊥) → IsSoundState s → ⊥
  unsound_next n i = n i.next

  -- no: IsSoundState
  unsound_peers : (IsSoundIn s.held s.held.own.past_receiver s.held.theirs.settled → ⊥) → IsSoundState s → ⊥
  unsound_peers n i = n i.peers

  -- no: IsSoundState
  unsound_peers_next : (IsSoundIn s.held s.held.own.with_receiver s.held.theirs.with_sender → ⊥) → IsSoundState s → ⊥
  unsound_peers_next n i = n i.peers_next

  -- no: IsSoundState
  unsound_to_sign : (IsSoundIn s.held s.held.own.known s.held.theirs.past_receiver → ⊥) → IsSoundState s → ⊥
  unsound_to_sign n i = n i.to_sign

-- ---- commitments by number

abbrev is_a : Side → Bool
is_a A = true
is_a B = false

abbrev first_number : List CommitmentState → ℕ
first_number [] = 9
first_number (k ∷ ks) = k.number

module _ (k m : CommitmentState) where
  -- yes: FirstOf
  first_of_two : FirstOf (k ∷ []) (k ∷ m ∷ [])
  first_of_two = (m ∷ [], refl)

  -- no: FirstOf
  more_than_signed : FirstOf (k ∷ m ∷ []) (k ∷ []) → ⊥
  more_than_signed f = let e = ap length f.1 in omega (arith, e)

  -- no: FirstOf
  second_alone : k.number ≡ 0 → m.number ≡ 1 → FirstOf (m ∷ []) (k ∷ m ∷ []) → ⊥
  second_alone e g f = let h = ap first_number f.1 in omega (arith, e, g, h)

  module _ (terms : Terms) where
    -- no: IsNumbered
    other_number : m.number ≡ 1 → IsNumbered terms A 0 m → ⊥
    other_number e i = let n = i.number in omega (arith, e, n)

    -- no: IsNumbered
    other_owner : m.owner ≡ A → IsNumbered terms B 1 m → ⊥
    other_owner e i = true≢false (ap is_a (sym e ∙ i.owner))

    -- yes: AreNumbered
    both_numbered : IsNumbered terms A 0 k → IsNumbered terms A 1 m → AreNumbered terms A 2 (k ∷ m ∷ [])
    both_numbered i j = record { count = refl; each = each }
      where
        each : (n : ℕ) (c : CommitmentState) → slice_get (k ∷ m ∷ []) n ≡ Some c → IsNumbered terms A n c
        each zero c e = subst (IsNumbered terms A 0) (same_Some k c e) i
        each (suc zero) c e = subst (IsNumbered terms A 1) (same_Some m c e) j
        each (suc (suc n)) c e = absurd (none_some c (sym (slice_get_past (k ∷ m ∷ []) (suc (suc n)) (omega arith)) ∙ e))

    -- no: AreNumbered
    one_missing : AreNumbered terms A 2 (k ∷ []) → ⊥
    one_missing a = let e = a.count in omega (arith, e)

    -- no: AreNumbered
    from_one : m.number ≡ 1 → AreNumbered terms A 1 (m ∷ []) → ⊥
    from_one e a = let n = (a.each 0 m refl).number in omega (arith, e, n)

module _ (s : State) (number : s.number ≡ 1) (peers : s.peer_number ≡ 1) where
  -- yes: AreByNumber
  by_number : s.awaiting ≡ true → AreNumbered s.held.terms s.held.side 2 s.mine → AreNumbered s.held.terms (other s.held.side) 3 s.signed → AreByNumber s
  by_number w a b = record { mine = rw number a; signed = rw (peers, w) b }

  -- no: AreByNumber
  newest_missing : (k : CommitmentState) → s.mine ≡ k ∷ [] → AreByNumber s → ⊥
  newest_missing k e a = let n = a.mine.count in let l = ap length e in omega (arith, number, n, l)

  -- the one that awaits its revocation counts
  -- no: AreByNumber
  awaited_missing : (k m : CommitmentState) → s.awaiting ≡ true → s.signed ≡ k ∷ m ∷ [] → AreByNumber s → ⊥
  awaited_missing k m w e a =
      let n : length s.signed ≡ s.peer_number + 1 + 1 = subst (λ (b : Bool). length s.signed ≡ s.peer_number + 1 + one_if b) w a.signed.count in
      let l = ap length e in
      omega (arith, peers, n, l)

-- ---- views

-- A has 600 millisatoshis and offers 100, B has 300
module _ (terms : Terms) (capacity_sat : terms.capacity_sat ≡ 1) (hash : List ℕ) where
  abbrev offered : ℕ → Htlc
  offered expiry_height = record { id = 0; amount_msat = 100; hash = hash; expiry_height = expiry_height }

  abbrev view_with : ℕ → List Htlc → View
  view_with balance_msat htlcs = record { a = record { balance_msat = balance_msat; offered = htlcs }; b = record { balance_msat = 300; offered = [] }; feerate_per_kw = 253 }

  -- yes: SharesOut
  shares : SharesOut terms (view_with 600 (offered 499999999 ∷ []))
  shares = record { few_of_a = lit≤ tt; few_of_b = lit≤ tt; heights_of_a = refl; heights_of_b = refl; whole = omega (arith, capacity_sat) }

  -- no: SharesOut
  one_too_much : SharesOut terms (view_with 601 (offered 499999999 ∷ [])) → ⊥
  one_too_much s = let e = s.whole in omega (arith, capacity_sat, e)

  -- no: SharesOut
  expires_at_a_time : SharesOut terms (view_with 600 (offered 500000000 ∷ [])) → ⊥
  expires_at_a_time s = false≢true s.heights_of_a

  abbrev view_of_b : List Htlc → View
  view_of_b htlcs = record { a = record { balance_msat = 600; offered = [] }; b = record { balance_msat = 300; offered = htlcs }; feerate_per_kw = 253 }

  -- no: SharesOut
  b_expires_at_a_time : SharesOut terms (view_of_b (offered 500000000 ∷ [])) → ⊥
  b_expires_at_a_time s = false≢true s.heights_of_b

  -- no: SharesOut
  many_offered_by_b : (hs : List Htlc) → length hs ≡ 484 → SharesOut terms (view_of_b hs) → ⊥
  many_offered_by_b hs e s = let l = s.few_of_b in omega (arith, e, l)

  -- no: SharesOut
  many_offered : (hs : List Htlc) → length hs ≡ 484 → SharesOut terms (view_with 600 hs) → ⊥
  many_offered hs e s = let l = s.few_of_a in omega (arith, e, l)

-- ---- keys and tokens

-- yes: IsSeedOf
of_its_seed : (seed : List ℕ) → IsSeedOf seed (bases_of seed)
of_its_seed seed = record { funding = refl; payment = refl; delayed = refl; htlc = refl; revocation = refl }

-- no: IsSeedOf
swapped_keys : (seed : List ℕ) (bases : BaseKeys) → base_key seed HtlcBase ≢ base_key seed Payment → bases.htlc.bytes ≡ base_key seed Payment → IsSeedOf seed bases → ⊥
swapped_keys seed bases n e s = n (sym s.htlc ∙ e)

module _ (seed : List ℕ) where
  abbrev rights : List (List ℕ) → List (List ℕ) → Rights
  rights points secrets = record { seed = seed; points = points; secrets = secrets }

  -- yes: MaySign
  may_sign_own : MaySign (rights [] []) (base_key seed Payment)
  may_sign_own = own Payment refl

  -- yes: MaySign
  may_sign_derived : (point : List ℕ) → MaySign (rights (point ∷ []) []) (derived_key (base_key seed HtlcBase) point)
  may_sign_derived point = derived HtlcBase point (0, omega arith, refl) refl

  -- yes: MaySign
  may_sign_revoked : (secret : List ℕ) → MaySign (rights [] (secret ∷ [])) (revocation_key (base_key seed Payment) (point_of secret))
  may_sign_revoked secret = revoked Payment secret (0, omega arith, refl) refl

  -- without a learnt point or secret there are the base keys alone
  -- no: MaySign
  may_not_sign : (key : List ℕ) → ((b : Base) → key ≢ base_key seed b) → MaySign (rights [] []) key → ⊥
  may_not_sign key n (own b e) = n b e
  may_not_sign key n (derived b point i e) = contains_none point i
  may_not_sign key n (revoked b secret i e) = contains_none secret i

module _ (terms : Terms) (c : Contents) where
  -- no: IsCommitmentToken
  own_token : length terms.a.bases.funding.bytes ≡ length terms.b.bases.funding.bytes → terms.a.bases.funding.bytes ≢ terms.b.bases.funding.bytes
      → IsCommitmentToken terms A c (token_of terms.a.bases.funding.bytes (commitment_digest terms c)) → ⊥
  own_token l n t = n (one_token terms.a.bases.funding.bytes terms.b.bases.funding.bytes (commitment_digest terms c) (commitment_digest terms c) l t).0

  -- yes: AreHtlcTokens
  htlc_tokens : (d : List ℕ) → htlc_digests c ≡ d ∷ [] → AreHtlcTokens c (token_of c.keys.remote_htlc d ∷ [])
  htlc_tokens d e = ap (λ (ds : List (List ℕ)). map (token_of c.keys.remote_htlc) ds) (sym e)

  -- no: AreHtlcTokens
  no_token : (d : List ℕ) → htlc_digests c ≡ d ∷ [] → AreHtlcTokens c [] → ⊥
  no_token d e t = let l = ap length (t ∙ ap (λ (ds : List (List ℕ)). map (token_of c.keys.remote_htlc) ds) e) in omega (arith, l)
