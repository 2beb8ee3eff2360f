-- The rules of a channel, whatever its peer sends: which secrets it has, what it may release, with which commitment it closes, and which commitments may close it.
use Rattle.std.proofs.Common.{◌≡◌, ◌≢◌, ℕ, zero, suc, ◌+◌, ◌≤◌, ◌<◌, ◌^◌, Bool, true, false, List, [], ◌∷◌, length, Some, None, sym, ap, ◌∙◌, refl, subst, arith, lit<}
use Rattle.std.specs.Prelude.{slice_get}
use Rattle.std.specs.List.{Contains, AllByRecursion}
use Rattle.std.proofs.lemmas.Bool.{true≢false}
use Rattle.std.proofs.lemmas.Option.{same_Some, slice_get_past}
use Rattle.tx.specs.declared.input.OutPoint.{OutPoint}
use Rattle.tx.specs.Parts.{Output}
use Rattle.tx.specs.Fields.{Transaction, unsigned_transaction}
use Rattle.keys.specs.Derivation.{point_of}
use Rattle.claim.specs.Claims.{ClaimParts}
use Rattle.commit.specs.declared.fees.Direction.{Direction}
use Rattle.commit.specs.declared.fees.Direction.TheVariants.{Offered, Received}
use Rattle.commit.specs.declared.outputs.HtlcOutput.{HtlcOutput}
use Rattle.commit.specs.Commitments.{htlcs_of}
use Rattle.penalty.specs.Claimable.{claims_from}
use Rattle.penalty.specs.Sets.{claimed_by}
use Rattle.resolve.specs.Due.{owners_due, peers_due}
use Rattle.channel.specs.declared.limits.TheConstants.{LAST_NUMBER}
use Rattle.channel.specs.declared.commitments.CommitmentState.{CommitmentState}
use Rattle.channel.specs.Keeping.{one_if}
use Rattle.channel.specs.Recording.{AreByNumber}
use Rattle.channel.specs.Tokens.{contents_of}
use Rattle.safety.specs.Signing.{IsSignable}
use Rattle.safety.specs.Recorded.{IsOutPoint}
use Rattle.safety.specs.Holdings.{Release, released, claim_signed, Holding, terms_in, IsOnRecorded, on_own, on_peers, on_revoked, IsRightful, IsRevealed, KeepsRules, EachKeepsRules}
use Rattle.safety.specs.Closers.{IsCloser, revoked, newest, next, own}
use Rattle.safety.specs.Resolutions.{WasReleased}
use Rattle.safety.proofs.Lists.{none_some, contains_none}
use Rattle.law_examples.proofs.Ones.{only, only_at, none_at}

-- yes: EachKeepsRules, by crates/safety/proofs/ChannelExamples.antt: with_revoked
-- yes: EachKeepsRules, by crates/safety/proofs/ChannelExamples.antt: with_own
-- yes: IsCloser, by crates/safety/proofs/ChannelExamples.antt: by_revoked
-- yes: IsCloser, by crates/safety/proofs/ChannelExamples.antt: by_next
-- no: IsCloser, by crates/safety/proofs/ChannelExamples.antt: not_next
-- no: KeepsRules, by crates/safety/proofs/HoldingExamples.antt: breaks_rules

-- ---- secrets

module _ (h : Holding) (k : CommitmentState) (x y : List ℕ) (given : h.state.secrets ≡ x ∷ y ∷ []) where
  -- yes: IsRevealed
  revealed_by_second : k.point.bytes ≡ point_of y → IsRevealed h 1 k
  revealed_by_second e = record { secret = y; there = ap (λ (xs : List (List ℕ)). slice_get xs 1) given; opens = e }

  -- no: IsRevealed
  secret_of_another : k.point.bytes ≡ point_of x → point_of x ≢ point_of y → IsRevealed h 1 k → ⊥
  secret_of_another e n r = n (sym e ∙ r.opens ∙ ap point_of (sym (same_Some y r.secret (sym (ap (λ (xs : List (List ℕ)). slice_get xs 1) given) ∙ r.there))))

  -- no: IsRevealed
  not_yet_revealed : IsRevealed h 2 k → ⊥
  not_yet_revealed r = none_some r.secret (sym (slice_get_past (x ∷ y ∷ []) 2 (omega arith)) ∙ sym (ap (λ (xs : List (List ℕ)). slice_get xs 2) given) ∙ r.there)

-- ---- releases

module _ (h : Holding) (x : ClaimParts) where
  -- yes: IsOnRecorded
  on_its_own : (k m : CommitmentState) (preimages : List (List ℕ)) → h.state.mine ≡ k ∷ m ∷ [] → Contains (owners_due preimages (contents_of (terms_in h) m)) (claimed_by x) → IsOnRecorded h x
  on_its_own k m preimages e i = on_own 1 m (ap (λ (ks : List CommitmentState). slice_get ks 1) e) preimages i

  -- yes: IsOnRecorded
  on_its_peers : (k m : CommitmentState) (preimages : List (List ℕ)) → h.state.signed ≡ k ∷ m ∷ [] → Contains (peers_due preimages (contents_of (terms_in h) m)) (claimed_by x) → IsOnRecorded h x
  on_its_peers k m preimages e i = on_peers 1 m (ap (λ (ks : List CommitmentState). slice_get ks 1) e) preimages i

  -- yes: IsOnRecorded
  on_a_revoked : (k m : CommitmentState) → h.state.signed ≡ k ∷ m ∷ [] → Contains (claims_from (contents_of (terms_in h) m) 0 (contents_of (terms_in h) m).outputs) (claimed_by x) → IsOnRecorded h x
  on_a_revoked k m e i = on_revoked 1 m (ap (λ (ks : List CommitmentState). slice_get ks 1) e) i

  -- no: IsOnRecorded
  on_nothing : h.state.mine ≡ [] → h.state.signed ≡ [] → IsOnRecorded h x → ⊥
  on_nothing e f (on_own n k there p i) = none_at n k (sym (ap (λ (ks : List CommitmentState). slice_get ks n) e) ∙ there)
  on_nothing e f (on_peers n k there p i) = none_at n k (sym (ap (λ (ks : List CommitmentState). slice_get ks n) f) ∙ there)
  on_nothing e f (on_revoked n k there i) = none_at n k (sym (ap (λ (ks : List CommitmentState). slice_get ks n) f) ∙ there)

  -- what its own commitment gives to the peer alone
  -- no: IsOnRecorded
  peers_on_its_own : (k : CommitmentState) → h.state.mine ≡ k ∷ [] → h.state.signed ≡ [] → ((preimages : List (List ℕ)) → Contains (owners_due preimages (contents_of (terms_in h) k)) (claimed_by x) → ⊥) → IsOnRecorded h x → ⊥
  peers_on_its_own k e f none (on_own n m there p i) =
      none p (subst (λ (c : CommitmentState). Contains (owners_due p (contents_of (terms_in h) c)) (claimed_by x)) (sym (only_at k n m (sym (ap (λ (ks : List CommitmentState). slice_get ks n) e) ∙ there))) i)
  peers_on_its_own k e f none (on_peers n m there p i) = none_at n m (sym (ap (λ (ks : List CommitmentState). slice_get ks n) f) ∙ there)
  peers_on_its_own k e f none (on_revoked n m there i) = none_at n m (sym (ap (λ (ks : List CommitmentState). slice_get ks n) f) ∙ there)

  -- what the peer's commitment gives to its owner alone
  -- no: IsOnRecorded
  owners_on_its_peers : (k : CommitmentState) → h.state.mine ≡ [] → h.state.signed ≡ k ∷ [] → ((preimages : List (List ℕ)) → Contains (peers_due preimages (contents_of (terms_in h) k)) (claimed_by x) → ⊥)
      → (Contains (claims_from (contents_of (terms_in h) k) 0 (contents_of (terms_in h) k).outputs) (claimed_by x) → ⊥) → IsOnRecorded h x → ⊥
  owners_on_its_peers k e f none nor (on_own n m there p i) = none_at n m (sym (ap (λ (ks : List CommitmentState). slice_get ks n) e) ∙ there)
  owners_on_its_peers k e f none nor (on_peers n m there p i) =
      none p (subst (λ (c : CommitmentState). Contains (peers_due p (contents_of (terms_in h) c)) (claimed_by x)) (sym (only_at k n m (sym (ap (λ (ks : List CommitmentState). slice_get ks n) f) ∙ there))) i)
  owners_on_its_peers k e f none nor (on_revoked n m there i) =
      nor (subst (λ (c : CommitmentState). Contains (claims_from (contents_of (terms_in h) c) 0 (contents_of (terms_in h) c).outputs) (claimed_by x))
      (sym (only_at k n m (sym (ap (λ (ks : List CommitmentState). slice_get ks n) f) ∙ there))) i)

module _ (h : Holding) (x y : ClaimParts) (outputs : List Output) where
  abbrev both : Release
  both = record { claims = x ∷ y ∷ []; outputs = outputs }

  -- yes: IsRightful
  rightful : IsOnRecorded h x → IsOnRecorded h y → IsSignable (claim_signed both x) → IsSignable (claim_signed both y) → IsRightful h both
  rightful a b s z = record { recorded = (a, (b, tt)); signable = (s, (z, tt)) }

  -- no: IsRightful
  second_not_recorded : (IsOnRecorded h y → ⊥) → IsRightful h both → ⊥
  second_not_recorded n r = n r.recorded.1.0

  -- no: IsRightful
  value_in_nine_bytes : y.place.value ≡ 2 ^ 64 → IsRightful h both → ⊥
  value_in_nine_bytes e r = let l = r.signable.1.0.value in omega (arith, e, l)

-- the second release of the second channel, whatever its witness
module _ (h g : Holding) (r s : Release) (t : Transaction) where
  -- yes: WasReleased
  was_released : g.releases ≡ r ∷ s ∷ [] → unsigned_transaction t ≡ unsigned_transaction (released s) → WasReleased (h ∷ g ∷ []) t
  was_released e same = record { holding = g; held = (1, lit< tt, refl); release = s; among = subst (λ (rs : List Release). Contains rs s) (sym e) (1, lit< tt, refl); same = same }

  -- no: WasReleased
  of_another_lock_time : h.releases ≡ r ∷ [] → (released r).lock_time ≡ 501 → t.lock_time ≡ 500 → WasReleased (h ∷ []) t → ⊥
  of_another_lock_time e l m w =
      let i : Contains h.releases w.release = subst (λ (z : Holding). Contains z.releases w.release) (sym (only h w.holding w.held)) w.among in
      let same : r ≡ w.release = only r w.release (subst (λ (rs : List Release). Contains rs w.release) e i) in
      let f : t.lock_time ≡ (released w.release).lock_time = ap (λ (u : Transaction). u.lock_time) w.same in
      let d : (released r).lock_time ≡ (released w.release).lock_time = ap (λ (z : Release). (released z).lock_time) same in
      omega (arith, l, m, f, d)

-- no: WasReleased
pub never_released : (h : Holding) (t : Transaction) → h.releases ≡ [] → WasReleased (h ∷ []) t → ⊥
never_released h t e w = contains_none w.release (subst (λ (rs : List Release). Contains rs w.release) e (subst (λ (z : Holding). Contains z.releases w.release) (sym (only h w.holding w.held)) w.among))

-- ---- the rules

abbrev pub is_offered : Direction → Bool
is_offered Offered = true
is_offered Received = false

module _ (h : Holding) where
  -- the last numbers: 2^48 - 2, and of the peer's commitments the one before it while the next one awaits its revocation
  -- yes: KeepsRules
  at_the_last_number : IsOutPoint (terms_in h).funding → AreByNumber h.state → h.state.number ≡ 281474976710654 → h.state.peer_number ≡ 281474976710653 → h.state.awaiting ≡ true
      → ((n : ℕ) (k : CommitmentState) → n < 281474976710653 → slice_get h.state.signed n ≡ Some k → IsRevealed h n k)
      → AllByRecursion (IsRightful h) h.releases → h.closed ≡ Some 281474976710654
      → ((n : ℕ) (k : CommitmentState) → slice_get h.state.signed n ≡ Some k → (x : HtlcOutput) → Contains (htlcs_of (contents_of (terms_in h) k)) x → x.direction ≡ Received → x.htlc.expiry_height ≡ 1)
      → KeepsRules h
  at_the_last_number f a number peers w revealed releases closed one = record {
    funding = f;
    numbered = a;
    number = omega (arith, number);
    peer_number = subst (λ (b : Bool). h.state.peer_number + one_if b ≤ LAST_NUMBER) (sym w) (omega (arith, peers));
    revealed = λ n k l there. revealed n k (omega (arith, l, peers)) there;
    releases = releases;
    newest = λ n e. same_Some n 281474976710654 (sym e ∙ closed) ∙ sym number;
    expiries = λ n k there x i d. let e = one n k there x i d in omega (arith, e);
  }

  -- no: KeepsRules
  past_the_last_number : h.state.number ≡ 281474976710655 → KeepsRules h → ⊥
  past_the_last_number e r = let l = r.number in omega (arith, e, l)

  -- no: KeepsRules
  awaits_past_the_last : h.state.peer_number ≡ 281474976710654 → h.state.awaiting ≡ true → KeepsRules h → ⊥
  awaits_past_the_last e w r = let l : h.state.peer_number + 1 ≤ LAST_NUMBER = subst (λ (b : Bool). h.state.peer_number + one_if b ≤ LAST_NUMBER) w r.peer_number in omega (arith, e, l)

  -- no: KeepsRules
  funding_index_of_five_bytes : (terms_in h).funding.index ≡ 2 ^ 32 → KeepsRules h → ⊥
  funding_index_of_five_bytes e r = let l = r.funding.index in omega (arith, e, l)

  -- no: KeepsRules
  newest_not_recorded : (k : CommitmentState) → h.state.number ≡ 1 → h.state.mine ≡ k ∷ [] → KeepsRules h → ⊥
  newest_not_recorded k e f r = let c = r.numbered.mine.count in let l = ap length f in omega (arith, e, c, l)

  -- no: KeepsRules
  unrevealed : (k m : CommitmentState) → h.state.peer_number ≡ 1 → h.state.signed ≡ k ∷ m ∷ [] → h.state.secrets ≡ [] → KeepsRules h → ⊥
  unrevealed k m p s e r =
      let v : IsRevealed h 0 k = r.revealed 0 k (omega (arith, p)) (ap (λ (ks : List CommitmentState). slice_get ks 0) s) in
      none_at 0 v.secret (sym (ap (λ (xs : List (List ℕ)). slice_get xs 0) e) ∙ v.there)

  -- no: KeepsRules
  released_what_is_not_its_own : (r : Release) → h.releases ≡ r ∷ [] → (IsRightful h r → ⊥) → KeepsRules h → ⊥
  released_what_is_not_its_own r e n k = n (subst (AllByRecursion (IsRightful h)) e k.releases).0

  -- no: KeepsRules
  closed_with_an_older : h.closed ≡ Some 6 → h.state.number ≡ 7 → KeepsRules h → ⊥
  closed_with_an_older e f r = let n = r.newest 6 e in omega (arith, f, n)

  -- no: KeepsRules
  offered_until_zero : (k : CommitmentState) (x : HtlcOutput) → h.state.signed ≡ k ∷ [] → Contains (htlcs_of (contents_of (terms_in h) k)) x → x.direction ≡ Received → x.htlc.expiry_height ≡ 0 → KeepsRules h → ⊥
  offered_until_zero k x s i d e r = let l = r.expiries 0 k (ap (λ (ks : List CommitmentState). slice_get ks 0) s) x i d in omega (arith, e, l)

  -- B revoked its commitment 0, and A closed with its own commitment 0. B's HTLC may expire at 0, A's at 1
  module _ (k m : CommitmentState) (x : List ℕ) (r : Release) (theirs ours : HtlcOutput) where
    -- yes: KeepsRules
    keeps_rules : IsOutPoint (terms_in h).funding → AreByNumber h.state → h.state.number ≡ 0 → h.state.peer_number ≡ 1 → h.state.awaiting ≡ false
        → h.state.signed ≡ k ∷ m ∷ [] → h.state.secrets ≡ x ∷ [] → k.point.bytes ≡ point_of x → h.releases ≡ r ∷ [] → IsRightful h r → h.closed ≡ Some 0
        → htlcs_of (contents_of (terms_in h) k) ≡ theirs ∷ [] → theirs.direction ≡ Offered → theirs.htlc.expiry_height ≡ 0
        → htlcs_of (contents_of (terms_in h) m) ≡ ours ∷ [] → ours.direction ≡ Received → ours.htlc.expiry_height ≡ 1
        → KeepsRules h
    keeps_rules f a number peers w signed secrets opens releases right closed of_k d z of_m c one = record {
      funding = f;
      numbered = a;
      number = omega (arith, number);
      peer_number = subst (λ (b : Bool). h.state.peer_number + one_if b ≤ LAST_NUMBER) (sym w) (omega (arith, peers));
      revealed = revealed;
      releases = subst (AllByRecursion (IsRightful h)) (sym releases) (right, tt);
      newest = λ n e. same_Some n 0 (sym e ∙ closed) ∙ sym number;
      expiries = expiries;
    }
      where
        revealed : (n : ℕ) (c : CommitmentState) → n < h.state.peer_number → slice_get h.state.signed n ≡ Some c → IsRevealed h n c
        revealed zero c l there =
            let same : k ≡ c = same_Some k c (sym (ap (λ (ks : List CommitmentState). slice_get ks 0) signed) ∙ there) in
            record { secret = x; there = ap (λ (xs : List (List ℕ)). slice_get xs 0) secrets; opens = ap (λ (y : CommitmentState). y.point.bytes) (sym same) ∙ opens }
        revealed (suc n) c l there = absurd (omega (arith, l, peers))

        expiries : (n : ℕ) (c : CommitmentState) → slice_get h.state.signed n ≡ Some c → (y : HtlcOutput) → Contains (htlcs_of (contents_of (terms_in h) c)) y → y.direction ≡ Received → 0 < y.htlc.expiry_height
        expiries zero c there y i is =
            let same : k ≡ c = same_Some k c (sym (ap (λ (ks : List CommitmentState). slice_get ks 0) signed) ∙ there) in
            let it : theirs ≡ y = only theirs y (subst (λ (xs : List HtlcOutput). Contains xs y) (ap (λ (b : CommitmentState). htlcs_of (contents_of (terms_in h) b)) (sym same) ∙ of_k) i) in
            absurd (true≢false (ap is_offered (sym d ∙ ap (λ (b : HtlcOutput). b.direction) it ∙ is)))
        expiries (suc zero) c there y i is =
            let same : m ≡ c = same_Some m c (sym (ap (λ (ks : List CommitmentState). slice_get ks 1) signed) ∙ there) in
            let it : ours ≡ y = only ours y (subst (λ (xs : List HtlcOutput). Contains xs y) (ap (λ (b : CommitmentState). htlcs_of (contents_of (terms_in h) b)) (sym same) ∙ of_m) i) in
            let e : ours.htlc.expiry_height ≡ y.htlc.expiry_height = ap (λ (b : HtlcOutput). b.htlc.expiry_height) it in
            omega (arith, one, e)
        expiries (suc (suc n)) c there y i is =
            absurd (none_some c (sym (slice_get_past (k ∷ m ∷ []) (suc (suc n)) (omega arith)) ∙ sym (ap (λ (ks : List CommitmentState). slice_get ks (suc (suc n))) signed) ∙ there))

-- two channels, on two outputs of one transaction
module _ (h g : Holding) where
  -- yes: EachKeepsRules
  each_keeps_rules : (terms_in h).funding.index ≡ 0 → (terms_in g).funding.index ≡ 1 → KeepsRules h → KeepsRules g → EachKeepsRules (h ∷ g ∷ [])
  each_keeps_rules e f a b = record { each = (a, (b, tt)); apart = apart }
    where
      never : (terms_in h).funding ≡ (terms_in g).funding → ⊥
      never same = let i = ap (λ (o : OutPoint). o.index) same in omega (arith, e, f, i)

      apart : (x y : Holding) → Contains (h ∷ g ∷ []) x → Contains (h ∷ g ∷ []) y → (terms_in x).funding ≡ (terms_in y).funding → x ≡ y
      apart x y (zero, l, i) (zero, m, j) same = sym i ∙ j
      apart x y (zero, l, i) (suc zero, m, j) same = absurd (never (ap (λ (z : Holding). (terms_in z).funding) i ∙ same ∙ sym (ap (λ (z : Holding). (terms_in z).funding) j)))
      apart x y (suc zero, l, i) (zero, m, j) same = absurd (never (sym (ap (λ (z : Holding). (terms_in z).funding) i ∙ same ∙ sym (ap (λ (z : Holding). (terms_in z).funding) j))))
      apart x y (suc zero, l, i) (suc zero, m, j) same = sym i ∙ j
      apart x y (suc (suc n), l, i) d same = absurd (omega (arith, l))
      apart x y c (suc (suc n), m, j) same = absurd (omega (arith, m))

  -- no: EachKeepsRules
  second_breaks_rules : (KeepsRules g → ⊥) → EachKeepsRules (h ∷ g ∷ []) → ⊥
  second_breaks_rules n e = n e.each.1.0

  -- no: EachKeepsRules
  two_on_one_output : (terms_in h).funding ≡ (terms_in g).funding → h.state.number ≡ 3 → g.state.number ≡ 4 → EachKeepsRules (h ∷ g ∷ []) → ⊥
  two_on_one_output same e f r =
      let i : h.state.number ≡ g.state.number = ap (λ (z : Holding). z.state.number) (r.apart h g (0, lit< tt, refl) (1, lit< tt, refl) same) in
      omega (arith, e, f, i)

-- ---- who may close a channel

-- B revoked its commitment 0, its newest is number 1, and A signed number 2. A's newest is number 1
module _ (h : Holding) (k m o mine older : CommitmentState) (peers : h.state.peer_number ≡ 1) (signed : h.state.signed ≡ k ∷ m ∷ o ∷ []) (number : h.state.number ≡ 1) (own_ones : h.state.mine ≡ older ∷ mine ∷ []) where
  at : (n : ℕ) → slice_get h.state.signed n ≡ slice_get (k ∷ m ∷ o ∷ []) n
  at n = ap (λ (ks : List CommitmentState). slice_get ks n) signed

  own_at : (n : ℕ) → slice_get h.state.mine n ≡ slice_get (older ∷ mine ∷ []) n
  own_at n = ap (λ (ks : List CommitmentState). slice_get ks n) own_ones

  -- yes: IsCloser
  by_newest : IsCloser h m
  by_newest = newest (ap (λ (n : ℕ). slice_get h.state.signed n) peers ∙ at 1)

  -- yes: IsCloser
  by_next : h.state.awaiting ≡ true → IsCloser h o
  by_next w = next w (ap (λ (n : ℕ). slice_get h.state.signed (n + 1)) peers ∙ at 2)

  -- yes: IsCloser
  by_revoked : IsRevealed h 0 k → IsCloser h k
  by_revoked r = revoked 0 (at 0) r

  -- yes: IsCloser
  by_own : h.closed ≡ Some 1 → IsCloser h mine
  by_own e = own (e ∙ ap Some (sym number)) (ap (λ (n : ℕ). slice_get h.state.mine n) number ∙ own_at 1)

  newest_is : (x : CommitmentState) → slice_get h.state.signed h.state.peer_number ≡ Some x → m ≡ x
  newest_is x there = same_Some m x (sym (at 1) ∙ sym (ap (λ (n : ℕ). slice_get h.state.signed n) peers) ∙ there)

  next_is : (x : CommitmentState) → slice_get h.state.signed (h.state.peer_number + 1) ≡ Some x → o ≡ x
  next_is x there = same_Some o x (sym (at 2) ∙ sym (ap (λ (n : ℕ). slice_get h.state.signed (n + 1)) peers) ∙ there)

  newest_own_is : (x : CommitmentState) → slice_get h.state.mine h.state.number ≡ Some x → mine ≡ x
  newest_own_is x there = same_Some mine x (sym (own_at 1) ∙ sym (ap (λ (n : ℕ). slice_get h.state.mine n) number) ∙ there)

  -- commitments of five numbers
  module _ (first : k.number ≡ 0) (second : m.number ≡ 1) (third : o.number ≡ 2) (own_first : older.number ≡ 8) (own_second : mine.number ≡ 9) where
    same_number : (x y : CommitmentState) → x ≡ y → x.number ≡ y.number
    same_number x y e = ap (λ (z : CommitmentState). z.number) e

    -- one whose secret did not come
    -- no: IsCloser
    by_unrevealed : ((n : ℕ) → IsRevealed h n k → ⊥) → IsCloser h k → ⊥
    by_unrevealed none (revoked n there r) = none n r
    by_unrevealed none (newest there) = let e = same_number m k (newest_is k there) in omega (arith, first, second, e)
    by_unrevealed none (next w there) = let e = same_number o k (next_is k there) in omega (arith, first, third, e)
    by_unrevealed none (own c there) = let e = same_number mine k (newest_own_is k there) in omega (arith, first, own_second, e)

    -- the one after the newest, once it does not await its revocation
    -- no: IsCloser
    by_next_too_early : h.state.awaiting ≡ false → ((n : ℕ) → IsRevealed h n o → ⊥) → IsCloser h o → ⊥
    by_next_too_early w none (revoked n there r) = none n r
    by_next_too_early w none (newest there) = let e = same_number m o (newest_is o there) in omega (arith, second, third, e)
    by_next_too_early w none (next v there) = true≢false (sym v ∙ w)
    by_next_too_early w none (own c there) = let e = same_number mine o (newest_own_is o there) in omega (arith, third, own_second, e)

    -- its own, where it did not close with it
    -- no: IsCloser
    by_own_kept : h.closed ≡ None → ((n : ℕ) → slice_get h.state.signed n ≡ Some mine → ⊥) → IsCloser h mine → ⊥
    by_own_kept e none (revoked n there r) = none n there
    by_own_kept e none (newest there) = none h.state.peer_number there
    by_own_kept e none (next w there) = none (h.state.peer_number + 1) there
    by_own_kept e none (own f there) = none_some h.state.number (sym e ∙ f)

    -- its own before the newest, where it closed with the newest
    -- no: IsCloser
    by_older_own : h.closed ≡ Some 1 → ((n : ℕ) → slice_get h.state.signed n ≡ Some older → ⊥) → IsCloser h older → ⊥
    by_older_own c none (revoked n there r) = none n there
    by_older_own c none (newest there) = none h.state.peer_number there
    by_older_own c none (next w there) = none (h.state.peer_number + 1) there
    by_older_own c none (own f there) = let e = same_number mine older (newest_own_is older there) in omega (arith, own_first, own_second, e)

    -- its own newest, where it closed with the one before
    -- no: IsCloser
    by_newest_after_older : h.closed ≡ Some 0 → ((n : ℕ) → slice_get h.state.signed n ≡ Some mine → ⊥) → IsCloser h mine → ⊥
    by_newest_after_older e none (revoked n there r) = none n there
    by_newest_after_older e none (newest there) = none h.state.peer_number there
    by_newest_after_older e none (next w there) = none (h.state.peer_number + 1) there
    by_newest_after_older e none (own f there) = let g : 0 ≡ h.state.number = same_Some 0 h.state.number (sym e ∙ f) in omega (arith, g, number)
