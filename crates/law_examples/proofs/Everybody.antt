-- One node against everybody: what closes a channel, that the newest commitment passes the next block, and how a channel stands with all its outputs.
use Rattle.std.proofs.Common.{◌≡◌, ◌≢◌, ℕ, zero, suc, ◌+◌, ◌<◌, Bool, true, false, List, [], ◌∷◌, ◌++◌, length, Some, None, sym, ap, ◌∙◌, refl, subst, inl, inr, arith, lit<}
use Rattle.std.specs.Prelude.{◌⊎◌, slice_get, option_map, sum_by}
use Rattle.std.specs.List.{Contains, AllByRecursion, AllPairs}
use Rattle.std.proofs.lemmas.Bool.{true≢false}
use Rattle.std.proofs.lemmas.Option.{same_Some, slice_get_past}
use Rattle.digest.specs.Hash.{sha256d}
use Rattle.tx.specs.Fields.{Transaction, unsigned_transaction}
use Rattle.tx.specs.Spelling.{stripped_spelling}
use Rattle.chain.specs.declared.errors.ChainError.{ChainError}
use Rattle.chain.specs.declared.errors.ChainError.TheVariants.{Unknown}
use Rattle.chain.specs.Blocks.{Contents as Block, Coin, empty_block, coin_at}
use Rattle.chain.specs.Checks.{transaction_refusal}
use Rattle.commit.specs.declared.outputs.OutputKind.{OutputKind}
use Rattle.commit.specs.declared.outputs.OutputKind.TheVariants.{ToLocal, ToRemote}
use Rattle.commit.specs.declared.outputs.CommitmentOutput.{CommitmentOutput}
use Rattle.commit.specs.declared.outputs.HtlcOutput.{HtlcOutput}
use Rattle.commit.specs.Sums.{fee_paid_sat, left_out_sat, rounded_off_msat}
use Rattle.commit.specs.Commitments.{transaction_of, htlcs_of, htlc_tx_of}
use Rattle.penalty.specs.declared.states.RevokedState.{RevokedState}
use Rattle.penalty.specs.Claimable.{Claimable, payment_on, claims_on, claims_by, claims_from, commitment_in, claimable_of}
use Rattle.penalty.specs.Worth.{staged, value_of, fee_with, fees_with, IsCapacityWith}
use Rattle.channel.specs.declared.commitments.CommitmentState.{CommitmentState}
use Rattle.channel.specs.Tokens.{contents_of}
use Rattle.publish.specs.Published.{signed_transaction, signed_commitment_of}
use Rattle.safety.specs.Whereabouts.{IsOnChain, IsCoinOf}
use Rattle.safety.specs.Places.{place_at, IsPeersClaim, payment, direct}
use Rattle.safety.specs.Holdings.{Holding, terms_in}
use Rattle.safety.specs.Breaks.{Breaks}
use Rattle.safety.specs.Closers.{IsCloser, revoked, newest, next, own, IsClosedBy, by_commitment, by_collision}
use Rattle.safety.specs.Passing.{HasTwinOn, CanClose, IsReady}
use Rattle.safety.specs.Resolutions.{Resolution, unspent, IsSlept, AreResolved, IsPaidOrLate}
use Rattle.safety.specs.Everybody.{PeersHold, ChannelStands, unclosed, closed, broken, IsAllThere}
use Rattle.safety.proofs.Lists.{none_some, contains_none}
use Rattle.law_examples.proofs.Ones.{only, none_at, with_it, stands_there, alone_there, nothing_stands}
use Rattle.law_examples.proofs.Resolutions.{Apart, one_apart, to_local, local_alone, no_htlcs}

-- ---- who closes

module _ (hs : List Holding) (blocks : List Block) (h : Holding) (t : Transaction) where
  -- yes: IsClosedBy
  closed_by_commitment : (k : CommitmentState) → IsCloser h k → unsigned_transaction t ≡ transaction_of (contents_of (terms_in h) k) → IsClosedBy hs blocks h t
  closed_by_commitment k c e = by_commitment k c e

  -- yes: IsClosedBy
  closed_by_collision : Breaks hs blocks → IsClosedBy hs blocks h t
  closed_by_collision b = by_collision b

  -- no: IsClosedBy
  closed_by_version_one : t.version ≡ 1 → (Breaks hs blocks → ⊥) → IsClosedBy hs blocks h t → ⊥
  unfolding transaction_of
  closed_by_version_one e n (by_commitment k c f) = let g : t.version ≡ 2 = ap (λ (u : Transaction). u.version) f in omega (arith, e, g)
  closed_by_version_one e n (by_collision b) = n b

  -- a channel in which nothing was signed, and which the node did not close
  module _ (unsigned : h.state.signed ≡ []) (not_closed : h.closed ≡ None) where
    nothing_at : (n : ℕ) (k : CommitmentState) → slice_get h.state.signed n ≡ Some k → ⊥
    nothing_at n k there = none_at n k (sym (ap (λ (ks : List CommitmentState). slice_get ks n) unsigned) ∙ there)

    -- no: IsCloser
    nobody_closes : (k : CommitmentState) → IsCloser h k → ⊥
    nobody_closes k (revoked n there r) = nothing_at n k there
    nobody_closes k (newest there) = nothing_at h.state.peer_number k there
    nobody_closes k (next w there) = nothing_at (h.state.peer_number + 1) k there
    nobody_closes k (own d there) = none_some h.state.number (sym not_closed ∙ d)

    -- no: IsClosedBy
    closed_by_nobody : (Breaks hs blocks → ⊥) → IsClosedBy hs blocks h t → ⊥
    closed_by_nobody n (by_commitment k c e) = nobody_closes k c
    closed_by_nobody n (by_collision b) = n b

-- ---- the newest commitment

module _ (t u : Transaction) where
  -- yes: HasTwinOn
  twin_there : stripped_spelling t ≢ stripped_spelling u → sha256d (stripped_spelling t) ≡ sha256d (stripped_spelling u) → HasTwinOn (with_it u) t
  twin_there n e = record { height = 1; twin = u; stands = stands_there u; collide = (n, e) }

  -- it is no twin of itself
  -- no: HasTwinOn
  itself_alone : HasTwinOn (with_it t) t → ⊥
  itself_alone w = w.collide.0 (ap stripped_spelling (alone_there t w.height w.twin w.stands))

  -- no: HasTwinOn
  of_another_hash : sha256d (stripped_spelling t) ≢ sha256d (stripped_spelling u) → HasTwinOn (with_it u) t → ⊥
  of_another_hash n w = n (w.collide.1 ∙ ap (λ (x : Transaction). sha256d (stripped_spelling x)) (sym (alone_there u w.height w.twin w.stands)))

-- no: HasTwinOn
twin_nowhere : (t : Transaction) → HasTwinOn [] t → ⊥
twin_nowhere t w = nothing_stands w.height w.twin w.stands

-- the newest commitment is number 1
module _ (blocks : List Block) (h : Holding) (k m : CommitmentState) (mine : h.state.mine ≡ k ∷ m ∷ []) where
  recorded_at : (n : ℕ) → slice_get h.state.mine n ≡ slice_get (k ∷ m ∷ []) n
  recorded_at n = ap (λ (ks : List CommitmentState). slice_get ks n) mine

  abbrev signed_one : CommitmentState → Transaction
  signed_one c = signed_transaction (terms_in h) (contents_of (terms_in h) c)

  module _ (number : h.state.number ≡ 1) where
    newest_there : slice_get h.state.mine h.state.number ≡ Some m
    newest_there = ap (λ (n : ℕ). slice_get h.state.mine n) number ∙ recorded_at 1

    signed_there : signed_commitment_of h.state h.state.number ≡ Some (signed_one m)
    signed_there = ap (option_map signed_one) newest_there

    -- yes: CanClose
    passes_the_next_block : transaction_refusal (empty_block ∷ blocks) (signed_one m) ≡ None → CanClose blocks h
    passes_the_next_block e = record { commitment = signed_one m; is = signed_there; passes = inl e }

    -- yes: CanClose
    has_a_twin : HasTwinOn blocks (signed_one m) → CanClose blocks h
    has_a_twin w = record { commitment = signed_one m; is = signed_there; passes = inr w }

    -- no: CanClose
    refused_without_twin : (e : ChainError) → transaction_refusal (empty_block ∷ blocks) (signed_one m) ≡ Some e → (HasTwinOn blocks (signed_one m) → ⊥) → CanClose blocks h → ⊥
    refused_without_twin e refused n c = by c.passes
      where
        same : signed_one m ≡ c.commitment
        same = same_Some (signed_one m) c.commitment (sym signed_there ∙ c.is)

        by : (transaction_refusal (empty_block ∷ blocks) c.commitment ≡ None) ⊎ HasTwinOn blocks c.commitment → ⊥
        by (inl p) = none_some e (sym p ∙ ap (transaction_refusal (empty_block ∷ blocks)) (sym same) ∙ refused)
        by (inr w) = n (subst (HasTwinOn blocks) (sym same) w)

    -- yes: IsReady
    ready : CanClose blocks h → IsReady blocks h
    ready c = record { newest = m; recorded = newest_there; closes = λ l. c }

    -- without an output it does not have to pass
    -- yes: IsReady
    ready_without_output : (contents_of (terms_in h) m).outputs ≡ [] → IsReady blocks h
    ready_without_output e = record { newest = m; recorded = newest_there; closes = λ l. let n = ap length e in absurd (omega (arith, l, n)) }

    -- no: IsReady
    not_ready_with_an_output : (out : CommitmentOutput) → (contents_of (terms_in h) m).outputs ≡ out ∷ [] → (CanClose blocks h → ⊥) → IsReady blocks h → ⊥
    not_ready_with_an_output out e n r =
        let l : length (contents_of (terms_in h) m).outputs ≡ 1 = ap length e in
        let same : m ≡ r.newest = same_Some m r.newest (sym newest_there ∙ r.recorded) in
        n (r.closes (subst (λ (c : CommitmentState). 0 < length (contents_of (terms_in h) c).outputs) same (omega (arith, l))))

  -- no: IsReady
  newest_not_recorded : h.state.number ≡ 2 → IsReady blocks h → ⊥
  newest_not_recorded e r = none_some r.newest (sym (slice_get_past (k ∷ m ∷ []) 2 (omega arith)) ∙ sym (recorded_at 2) ∙ sym (ap (λ (n : ℕ). slice_get h.state.mine n) e) ∙ r.recorded)

  -- no: CanClose
  none_signed : h.state.number ≡ 2 → CanClose blocks h → ⊥
  none_signed e c = none_some c.commitment (sym (ap (λ (n : ℕ). signed_commitment_of h.state n) e ∙ ap (option_map signed_one) (recorded_at 2)) ∙ c.is)

-- where the funding output is not there, the commitment is refused
module _ (h : Holding) (k : CommitmentState) where
  abbrev signed_zero : Transaction
  signed_zero = signed_transaction (terms_in h) (contents_of (terms_in h) k)

  unknown : transaction_refusal (empty_block ∷ []) signed_zero ≡ Some Unknown
  unfolding transaction_refusal transaction_of
  unknown = refl

  zero_there : h.state.mine ≡ k ∷ [] → h.state.number ≡ 0 → signed_commitment_of h.state h.state.number ≡ Some signed_zero
  zero_there e f = ap (λ (n : ℕ). signed_commitment_of h.state n) f ∙ ap (λ (ks : List CommitmentState). option_map (λ x. signed_transaction (terms_in h) (contents_of (terms_in h) x)) (slice_get ks 0)) e

  -- no: CanClose
  unfunded : h.state.mine ≡ k ∷ [] → h.state.number ≡ 0 → CanClose [] h → ⊥
  unfunded e f c = by c.passes
    where
      same : signed_zero ≡ c.commitment
      same = same_Some signed_zero c.commitment (sym (zero_there e f) ∙ c.is)

      by : (transaction_refusal (empty_block ∷ []) c.commitment ≡ None) ⊎ HasTwinOn [] c.commitment → ⊥
      by (inl p) = none_some Unknown (sym p ∙ ap (transaction_refusal (empty_block ∷ [])) (sym same) ∙ unknown)
      by (inr w) = twin_nowhere c.commitment w

-- ---- the peer's commitment

-- a commitment with to_remote alone
module _ (hs : List Holding) (blocks : List Block) (h : Holding) (k : CommitmentState) (out : CommitmentOutput) (there : (contents_of (terms_in h) k).outputs ≡ out ∷ []) (kind : out.kind ≡ ToRemote)
    (none : htlcs_of (contents_of (terms_in h) k) ≡ []) where
  abbrev to_remote : Claimable
  to_remote = payment_on (contents_of (terms_in h) k) (place_at (contents_of (terms_in h) k) 0 out)

  is_remote : (o : Claimable) → IsPeersClaim (contents_of (terms_in h) k) o → to_remote ≡ o
  is_remote o (payment zero output a e) =
      ap (λ (x : CommitmentOutput). payment_on (contents_of (terms_in h) k) (place_at (contents_of (terms_in h) k) 0 x)) (same_Some out output (sym (ap (λ (os : List CommitmentOutput). slice_get os 0) there) ∙ a.there)) ∙ sym e
  is_remote o (payment (suc n) output a e) = absurd (none_some output (sym (slice_get_past (out ∷ []) (suc n) (omega arith)) ∙ sym (ap (λ (os : List CommitmentOutput). slice_get os (suc n)) there) ∙ a.there))
  is_remote o (direct x output a e) = absurd (contains_none x (subst (λ (xs : List HtlcOutput). Contains xs x) none a.among))

  -- yes: PeersHold
  remote_is_unspent : AreResolved hs blocks (contents_of (terms_in h) k) → (coin : Coin) → IsCoinOf blocks to_remote coin → coin.spent ≡ false → PeersHold hs blocks h k
  remote_is_unspent r coin at free = record {
    penalties = r;
    claims = λ o i. subst (λ (p : Claimable). Resolution Breaks hs blocks (IsPaidOrLate false (contents_of (terms_in h) k) p) p) (is_remote o i) (unspent coin at free);
  }

  remote_claim : IsPeersClaim (contents_of (terms_in h) k) to_remote
  remote_claim = payment 0 out (record { there = ap (λ (os : List CommitmentOutput). slice_get os 0) there; kind = kind }) refl

  -- no: PeersHold
  remote_is_lost : (Resolution Breaks hs blocks (IsPaidOrLate false (contents_of (terms_in h) k) to_remote) to_remote → ⊥) → PeersHold hs blocks h k → ⊥
  remote_is_lost n p = n (p.claims to_remote remote_claim)

  -- no: PeersHold
  penalties_are_lost : (AreResolved hs blocks (contents_of (terms_in h) k) → ⊥) → PeersHold hs blocks h k → ⊥
  penalties_are_lost n p = n p.penalties

-- ---- how a channel stands

-- no: ChannelStands
not_yet_opened : (hs : List Holding) (h : Holding) → (Breaks hs [] → ⊥) → ChannelStands hs [] h → ⊥
not_yet_opened hs h whole (unclosed coin at free ready) = none_some coin at
not_yet_opened hs h whole (closed k c on p) = nothing_stands on.height on.signed on.stands
not_yet_opened hs h whole (broken b) = whole b

module _ (hs : List Holding) (blocks : List Block) (h : Holding) (coin : Coin) (there : coin_at blocks (terms_in h).funding ≡ Some coin) where
  -- yes: ChannelStands
  still_open : coin.spent ≡ false → IsReady blocks h → ChannelStands hs blocks h
  still_open free r = unclosed coin there free r

  -- one that is the node's own owes the outputs to no peer
  -- yes: ChannelStands
  closed_by_its_own : (k : CommitmentState) → IsCloser h k → IsOnChain blocks (transaction_of (contents_of (terms_in h) k)) → h.state.signed ≡ [] → ChannelStands hs blocks h
  closed_by_its_own k c on e = closed k c on (λ n at. absurd (none_at n k (sym (ap (λ (ks : List CommitmentState). slice_get ks n) e) ∙ at)))

  -- yes: ChannelStands
  closed_by_its_peers : (k : CommitmentState) → IsCloser h k → IsOnChain blocks (transaction_of (contents_of (terms_in h) k)) → PeersHold hs blocks h k → ChannelStands hs blocks h
  closed_by_its_peers k c on p = closed k c on (λ n at. p)

  -- yes: ChannelStands
  strings_collide : Breaks hs blocks → ChannelStands hs blocks h
  strings_collide b = broken b

  module _ (whole : Breaks hs blocks → ⊥) where
    -- no: ChannelStands
    open_but_not_ready : ((k : CommitmentState) → IsCloser h k → IsOnChain blocks (transaction_of (contents_of (terms_in h) k)) → ⊥) → (IsReady blocks h → ⊥) → ChannelStands hs blocks h → ⊥
    open_but_not_ready n r (unclosed c at free ready) = r ready
    open_but_not_ready n r (closed k c on p) = n k c on
    open_but_not_ready n r (broken b) = whole b

    -- a stranger took the funding output
    -- no: ChannelStands
    taken_by_no_commitment : coin.spent ≡ true → ((k : CommitmentState) → IsCloser h k → IsOnChain blocks (transaction_of (contents_of (terms_in h) k)) → ⊥) → ChannelStands hs blocks h → ⊥
    taken_by_no_commitment e n (unclosed c at free ready) = true≢false (sym e ∙ ap (λ (x : Coin). x.spent) (same_Some coin c (sym there ∙ at)) ∙ free)
    taken_by_no_commitment e n (closed k c on p) = n k c on
    taken_by_no_commitment e n (broken b) = whole b

    -- the only commitment on the chain is one of the peer's whose outputs are lost
    -- no: ChannelStands
    outputs_are_lost : coin.spent ≡ true → (k : CommitmentState) (i : ℕ) → slice_get h.state.signed i ≡ Some k
        → ((m : CommitmentState) → IsOnChain blocks (transaction_of (contents_of (terms_in h) m)) → k ≡ m) → (PeersHold hs blocks h k → ⊥) → ChannelStands hs blocks h → ⊥
    outputs_are_lost e k i signed one n (unclosed c at free ready) = true≢false (sym e ∙ ap (λ (x : Coin). x.spent) (same_Some coin c (sym there ∙ at)) ∙ free)
    outputs_are_lost e k i signed one n (closed m c on p) = n (subst (PeersHold hs blocks h) (sym (one m on)) (p i (signed ∙ ap Some (one m on))))
    outputs_are_lost e k i signed one n (broken b) = whole b

-- ---- the whole capacity

-- a revoked commitment with to_local alone, of 100,000 satoshis less a fee of 896
module _ (s : RevokedState) (out : CommitmentOutput) (there : (commitment_in s).outputs ≡ out ∷ []) (kind : out.kind ≡ ToLocal) where
  abbrev its_local : Claimable
  its_local = to_local (commitment_in s) out there kind

  claimable_alone : claimable_of s ≡ its_local ∷ []
  unfolding claimable_of claims_by
  claimable_alone = ap (λ (os : List CommitmentOutput). claims_from (commitment_in s) 0 os) there ∙ ap (λ (k : OutputKind). claims_on (commitment_in s) 0 (place_at (commitment_in s) 0 out) k ++ []) kind

  module _ (fee : fee_paid_sat s.terms s.view s.owner ≡ 896) (dust : left_out_sat s.terms s.view s.owner ≡ 0) (rounded : rounded_off_msat s.view ≡ 0) (capacity : s.terms.capacity_sat ≡ 100000) where
    abbrev none_stands : ℕ → Bool
    none_stands n = false

    worth : out.value ≡ 99104 → IsCapacityWith s (value_of (staged none_stands (commitment_in s)) + fees_with none_stands (commitment_in s))
    worth e =
        subst (λ (os : List Claimable). IsCapacityWith s (value_of os + fees_with none_stands (commitment_in s))) (sym (local_alone (commitment_in s) out there kind none_stands))
        (subst (λ (xs : List HtlcOutput). IsCapacityWith s (value_of (its_local ∷ []) + sum_by (λ x. fee_with none_stands (commitment_in s).feerate_per_kw x) xs)) (sym (no_htlcs (commitment_in s) out there kind))
        (omega (arith, fee, dust, rounded, capacity, e)))

    -- yes: IsAllThere
    all_there : (hs : List Holding) (blocks : List Block) (coin : Coin) → out.value ≡ 99104 → IsCoinOf blocks its_local coin → coin.spent ≡ false → IsAllThere hs blocks s
    all_there hs blocks coin e at free = record {
      stands = none_stands;
      those = λ x i. absurd (contains_none x (subst (λ (xs : List HtlcOutput). Contains xs x) (no_htlcs (commitment_in s) out there kind) i));
      claimable = subst (AllByRecursion (Contains (claimable_of s))) (sym (local_alone (commitment_in s) out there kind none_stands)) (subst (λ (os : List Claimable). Contains os its_local) (sym claimable_alone) (0, lit< tt, refl), tt);
      apart = subst (AllPairs Apart) (sym (local_alone (commitment_in s) out there kind none_stands)) (one_apart its_local);
      worth = worth e;
      each = λ o i. subst (λ (p : Claimable). Resolution Breaks hs blocks (IsSlept (commitment_in s) p) p) (only its_local o (subst (λ (os : List Claimable). Contains os o) (local_alone (commitment_in s) out there kind none_stands) i)) (unspent coin at free);
    }

    -- no: IsAllThere
    a_satoshi_less : (hs : List Holding) (blocks : List Block) (a : IsAllThere hs blocks s) → value_of (staged a.stands (commitment_in s)) + fees_with a.stands (commitment_in s) ≡ 99103 → ⊥
    a_satoshi_less hs blocks a e = let w = a.worth in omega (arith, fee, dust, rounded, capacity, e, w)

    -- with the fee of an HTLC's transaction it would be more
    -- no: IsAllThere
    with_another_fee : (hs : List Holding) (blocks : List Block) (a : IsAllThere hs blocks s) → value_of (staged a.stands (commitment_in s)) ≡ 99104 → fees_with a.stands (commitment_in s) ≡ 663 → ⊥
    with_another_fee hs blocks a e f = let w = a.worth in omega (arith, fee, dust, rounded, capacity, e, f, w)

  -- no: IsAllThere
  one_is_lost : (hs : List Holding) (blocks : List Block) → (Resolution Breaks hs blocks (IsSlept (commitment_in s) its_local) its_local → ⊥) → IsAllThere hs blocks s → ⊥
  one_is_lost hs blocks n a = n (a.each its_local (subst (λ (os : List Claimable). Contains os its_local) (sym (local_alone (commitment_in s) out there kind a.stands)) (0, lit< tt, refl)))

module _ (hs : List Holding) (blocks : List Block) (s : RevokedState) where
  -- no: IsAllThere
  nothing_claimable : (a : IsAllThere hs blocks s) (o : Claimable) → staged a.stands (commitment_in s) ≡ o ∷ [] → claimable_of s ≡ [] → ⊥
  nothing_claimable a o e f = contains_none o (subst (λ (os : List Claimable). Contains os o) f (subst (AllByRecursion (Contains (claimable_of s))) e a.claimable).0)

  -- no: IsAllThere
  two_at_one_outpoint : (a : IsAllThere hs blocks s) (o p : Claimable) → staged a.stands (commitment_in s) ≡ o ∷ p ∷ [] → o.place.outpoint ≡ p.place.outpoint → ⊥
  two_at_one_outpoint a o p e same = subst (AllPairs Apart) e a.apart 0 1 o (lit< tt) (lit< tt) same

  -- an HTLC's transaction stands there, and its output does not stand for the HTLC
  -- no: IsAllThere
  another_than_stands : (a : IsAllThere hs blocks s) (x : HtlcOutput) → Contains (htlcs_of (commitment_in s)) x → IsOnChain blocks (htlc_tx_of (commitment_in s) x) → a.stands x.index ≡ false → ⊥
  another_than_stands a x i on e = true≢false (sym ((a.those x i).1 on) ∙ e)

  -- no: IsAllThere
  none_stands_there : (a : IsAllThere hs blocks s) (x : HtlcOutput) → Contains (htlcs_of (commitment_in s)) x → (IsOnChain blocks (htlc_tx_of (commitment_in s) x) → ⊥) → a.stands x.index ≡ true → ⊥
  none_stands_there a x i off e = off ((a.those x i).0 e)
