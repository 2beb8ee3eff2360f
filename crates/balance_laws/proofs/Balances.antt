-- What a node has of a channel that it has not closed itself.
use Rattle.std.proofs.Common.{◌≡◌, ℕ, ◌+◌, ◌*◌, ◌<◌, ◌≤◌, Bool, true, false, length, List, Some, sym, ap, ◌∙◌, refl, subst, inl, inr, ⊎_elim, arith}
use Rattle.std.specs.Prelude.{◌⊎◌, slice_get}
use Rattle.std.specs.List.{Contains}
use Rattle.std.proofs.lemmas.Bool.{cases_lt}
use Rattle.std.proofs.lemmas.Option.{slice_get_within}
use Rattle.chain.specs.Blocks.{Contents as Block}
use Rattle.terms.specs.declared.amounts.TheConstants.{MSAT_PER_SAT}
use Rattle.terms.specs.declared.htlcs.Htlc.{Htlc}
use Rattle.terms.specs.declared.sides.Side.{Side}
use Rattle.terms.specs.declared.agreement.Terms.{Terms}
use Rattle.commit.specs.Order.{ThereIsOneOrder}
use Rattle.commit.specs.Commitments.{commitment_of, transaction_of}
use Rattle.penalty.specs.Worth.{staged, value_of, fees_with}
use Rattle.channel.specs.declared.commitments.CommitmentState.{CommitmentState}
use Rattle.channel.specs.Keeping.{one_if}
use Rattle.channel.specs.Numbered.{IsNumbered}
use Rattle.channel.specs.States.{State}
use Rattle.channel.specs.Tokens.{contents_of}
use Rattle.worth_laws.specs.Shares.{owner_by, counted_msat, counted_sat, values_sat, deductions, all_deductions, IsLess, SharesAreWorth, AllIsTheCapacity}
use Rattle.worth_laws.specs.Counted.{counted}
use Rattle.worth_laws.specs.Least.{MayClose, revoked, newest, next, own, at_least_sat, WhicheverCloses}
use Rattle.worth_laws.proofs.Counted.{counted_worth}
use Rattle.worth_laws.proofs.Staged.{staged_worth}
use Rattle.safety.specs.Whereabouts.{IsOnChain}
use Rattle.safety.specs.Holdings.{Holding, terms_in, peer_in, KeepsRules}
use Rattle.safety.specs.Closers.{IsCloser, revoked as is_revoked, newest as is_newest, next as is_next, own as is_own, IsFunded, IsWatched}
use Rattle.safety.specs.Passing.{IsReady}
use Rattle.safety.specs.Everybody.{PeersHold, ChannelStands, unclosed as is_unclosed, closed as is_closed, broken as is_broken, EachChannelStands}
use Rattle.safety.proofs.Lists.{none_some}
use Rattle.safety.proofs.Own.{kept_one}
use Rattle.balance_laws.specs.Balances.{HasAll, HasShare, HasNewest, BalanceIsThere, unclosed, by_revoked, by_newest, by_next, broken, BalancesAreThere, ClosersMayClose}
use Rattle.balance_laws.proofs.Peers.{no_stage, is_peers, counted_apart}

-- ---- which of the peer's commitments it is, by its number

pub data IsOfPeers (s : State) (k : CommitmentState) : Type 0 where
  revoked_one : (n : ℕ) → n < s.peer_number → slice_get s.signed n ≡ Some k → IsOfPeers s k
  newest_one : slice_get s.signed s.peer_number ≡ Some k → IsOfPeers s k
  next_one : s.awaiting ≡ true → slice_get s.signed (s.peer_number + 1) ≡ Some k → IsOfPeers s k

of_peers : (h : Holding) → KeepsRules h → (n : ℕ) (k : CommitmentState) → slice_get h.state.signed n ≡ Some k → IsOfPeers h.state k
of_peers h kept n k there = by (cases_lt n h.state.peer_number) h.state.awaiting refl
  where
    by : (n < h.state.peer_number) ⊎ (h.state.peer_number ≤ n) → (b : Bool) → h.state.awaiting ≡ b → IsOfPeers h.state k
    by (inl l) b e = revoked_one n l there
    by (inr l) false e =
        let within = slice_get_within h.state.signed n k there in
        let count : length h.state.signed ≡ h.state.peer_number + 1 + one_if false = kept.numbered.signed.count ∙ ap (λ (c : Bool). h.state.peer_number + 1 + one_if c) e in
        let at : n ≡ h.state.peer_number = omega (arith, l, within, count) in
        newest_one (ap (slice_get h.state.signed) (sym at) ∙ there)
    by (inr l) true e =
        let within = slice_get_within h.state.signed n k there in
        let count : length h.state.signed ≡ h.state.peer_number + 1 + one_if true = kept.numbered.signed.count ∙ ap (λ (c : Bool). h.state.peer_number + 1 + one_if c) e in
        ⊎_elim {C = IsOfPeers h.state k}
        (λ (m : n < h.state.peer_number + 1). let at : n ≡ h.state.peer_number = omega (arith, l, m) in newest_one (ap (slice_get h.state.signed) (sym at) ∙ there))
        (λ (m : h.state.peer_number + 1 ≤ n). let at : n ≡ h.state.peer_number + 1 = omega (arith, m, within, count) in next_one e (ap (slice_get h.state.signed) (sym at) ∙ there))
        (cases_lt n (h.state.peer_number + 1))

may_close : (s : State) (k : CommitmentState) → IsOfPeers s k → MayClose s k
may_close s k (revoked_one n l at) = revoked n l at
may_close s k (newest_one at) = newest at
may_close s k (next_one e at) = next e at

pub closers_may_close : ClosersMayClose
closers_may_close h kept k (is_revoked n at r) = may_close h.state k (of_peers h kept n k at)
closers_may_close h kept k (is_newest at) = newest at
closers_may_close h kept k (is_next e at) = next e at
closers_may_close h kept k (is_own closed at) = own at

-- ---- what its outputs are worth

-- those on which a side counts, by whose the commitment is
pub share_of : SharesAreWorth → (terms : Terms) (ours : Bool) (me : Side) (k : CommitmentState) (known : Htlc → Bool) → k.owner ≡ owner_by ours me
    → IsLess (counted_msat known me k.view) (deductions terms k.view ours me known) (counted_sat ours known (contents_of terms k).outputs)
share_of law terms ours me k known e =
    subst (λ (owner : Side). IsLess (counted_msat known me k.view) (deductions terms k.view ours me known) (counted_sat ours known (commitment_of terms k.view owner k.number k.point.bytes).outputs)) (sym e)
    (law terms k.view ours me k.number k.point.bytes known)

-- and all of them
all_outputs : AllIsTheCapacity → (terms : Terms) (owner : Side) (n : ℕ) (k : CommitmentState) → IsNumbered terms owner n k
    → IsLess (MSAT_PER_SAT * terms.capacity_sat) (all_deductions terms k.view owner) (values_sat (contents_of terms k).outputs)
all_outputs law terms owner n k i =
    subst (λ (by : Side). IsLess (MSAT_PER_SAT * terms.capacity_sat) (all_deductions terms k.view owner) (values_sat (commitment_of terms k.view by k.number k.point.bytes).outputs)) (sym i.owner)
    (law terms k.view owner k.number k.point.bytes i.shares.whole)

module _ (order : ThereIsOneOrder) (shares : SharesAreWorth) (all : AllIsTheCapacity) (whichever : WhicheverCloses) where
  -- ---- of each of the peer's commitments

  has_all : (hs : List Holding) (blocks : List Block) (h : Holding) → KeepsRules h → (known : Htlc → Bool) (n : ℕ) (k : CommitmentState) → n < h.state.peer_number → slice_get h.state.signed n ≡ Some k
      → PeersHold hs blocks h k → HasAll hs blocks h known k
  has_all hs blocks h kept known n k l there p =
      let c = contents_of (terms_in h) k in
      let r = p.penalties in
      let worth : value_of (staged r.stands c) + fees_with r.stands c ≡ values_sat c.outputs = staged_worth order (terms_in h) k.view k.owner k.number k.point.bytes r.stands in
      record {
        stands = r.stands;
        those = r.those;
        claims = record {
          apart = r.apart;
          worth = subst (IsLess (MSAT_PER_SAT * (terms_in h).capacity_sat) (all_deductions (terms_in h) k.view (peer_in h))) (sym worth) (all_outputs all (terms_in h) (peer_in h) n k (kept.numbered.signed.each n k there));
          least = whichever.least known r.stands h.state k (revoked n l there);
          each = r.each;
        };
      }

  has_share : (hs : List Holding) (blocks : List Block) (h : Holding) → KeepsRules h → (known : Htlc → Bool) (n : ℕ) (k : CommitmentState) → slice_get h.state.signed n ≡ Some k
      → PeersHold hs blocks h k → at_least_sat known h.state ≤ value_of (counted false known no_stage (contents_of (terms_in h) k)) → HasShare hs blocks h known k
  has_share hs blocks h kept known n k there p least =
      let c = contents_of (terms_in h) k in
      let worth : value_of (counted false known no_stage c) + 0 ≡ counted_sat false known c.outputs = counted_worth order (terms_in h) k.view k.owner k.number k.point.bytes false known no_stage in
      record {
        apart = counted_apart known c;
        worth = subst (IsLess (counted_msat known h.state.held.side k.view) (deductions (terms_in h) k.view false h.state.held.side known)) (sym worth)
            (share_of shares (terms_in h) false h.state.held.side k known (kept.numbered.signed.each n k there).owner);
        least = least;
        each = λ o i. p.claims o (is_peers known c o i);
      }

  of_which : (hs : List Holding) (blocks : List Block) (h : Holding) → KeepsRules h → (known : Htlc → Bool) (k : CommitmentState) → IsOnChain blocks (transaction_of (contents_of (terms_in h) k)) → PeersHold hs blocks h k
      → IsOfPeers h.state k → BalanceIsThere hs blocks h known
  of_which hs blocks h kept known k on p (revoked_one n l there) = by_revoked n k l there (kept.revealed n k l there) on (has_all hs blocks h kept known n k l there p)
  of_which hs blocks h kept known k on p (newest_one there) = by_newest k there on (has_share hs blocks h kept known h.state.peer_number k there p (whichever.least known no_stage h.state k (newest there)))
  of_which hs blocks h kept known k on p (next_one e there) = by_next k e there on (has_share hs blocks h kept known (h.state.peer_number + 1) k there p (whichever.least known no_stage h.state k (next e there)))

  -- ---- of the node's own newest

  pub has_newest : (blocks : List Block) (h : Holding) → KeepsRules h → (known : Htlc → Bool) → IsReady blocks h → HasNewest blocks h known
  has_newest blocks h kept known ready = record {
    ready = ready;
    worth = share_of shares (terms_in h) true h.state.held.side ready.newest known (kept.numbered.mine.each h.state.number ready.newest ready.recorded).owner;
    least = whichever.given known h.state ready.newest (own ready.recorded);
  }

  -- what is said where the node's own newest commitment closed the channel
  abbrev OwnIsThere : List Holding → List Block → Holding → (Htlc → Bool) → Type 0
  OwnIsThere hs blocks h known =
      (k : CommitmentState) → h.closed ≡ Some h.state.number → slice_get h.state.mine h.state.number ≡ Some k → IsOnChain blocks (transaction_of (contents_of (terms_in h) k)) → BalanceIsThere hs blocks h known

  pub each_balance : EachChannelStands → (hs : List Holding) (blocks : List Block) → IsWatched hs blocks → (h : Holding) → Contains hs h → IsFunded blocks (terms_in h) → (known : Htlc → Bool)
      → OwnIsThere hs blocks h known → BalanceIsThere hs blocks h known
  each_balance stands hs blocks v h held funded known owned = by (stands hs blocks v h held funded)
    where
      kept : KeepsRules h
      kept = kept_one hs v.kept h held

      peers : (n : ℕ) (k : CommitmentState) → slice_get h.state.signed n ≡ Some k → IsOnChain blocks (transaction_of (contents_of (terms_in h) k))
          → ((i : ℕ) → slice_get h.state.signed i ≡ Some k → PeersHold hs blocks h k) → BalanceIsThere hs blocks h known
      peers n k there on hold = of_which hs blocks h kept known k on (hold n there) (of_peers h kept n k there)

      by_closer : (k : CommitmentState) → IsCloser h k → IsOnChain blocks (transaction_of (contents_of (terms_in h) k))
          → ((i : ℕ) → slice_get h.state.signed i ≡ Some k → PeersHold hs blocks h k) → BalanceIsThere hs blocks h known
      by_closer k (is_revoked n there r) on hold = peers n k there on hold
      by_closer k (is_newest there) on hold = peers h.state.peer_number k there on hold
      by_closer k (is_next e there) on hold = peers (h.state.peer_number + 1) k there on hold
      by_closer k (is_own at there) on hold = owned k at there on

      by : ChannelStands hs blocks h → BalanceIsThere hs blocks h known
      by (is_unclosed coin at free ready) = unclosed coin at free (has_newest blocks h kept known ready)
      by (is_closed k closer on hold) = by_closer k closer on hold
      by (is_broken z) = broken z

  pub balances_are_there : EachChannelStands → BalancesAreThere
  balances_are_there stands hs blocks v h held not_closed funded known = each_balance stands hs blocks v h held funded known (λ k at there on. absurd (none_some h.state.number (sym not_closed ∙ at)))
