-- Where a balance is there, and where it is not: a satoshi less, a fee counted twice, an output that is counted twice, one that is lost, a commitment that is not ready, and a funding output that somebody else took.
use Rattle.std.proofs.Common.{◌≡◌, ◌≢◌, ℕ, ◌+◌, ◌*◌, ◌<◌, ◌≤◌, Bool, true, false, List, [], ◌∷◌, Some, None, sym, ap, ◌∙◌, refl, subst, arith, lit<}
use Rattle.std.specs.Prelude.{◌↔◌, slice_get, sum_by}
use Rattle.std.specs.List.{Contains, AllPairs}
use Rattle.std.proofs.lemmas.Bool.{true≢false}
use Rattle.std.proofs.lemmas.Option.{same_Some, slice_get_past}
use Rattle.std.proofs.lemmas.List.Elements.{All-nil, All-cons}
use Rattle.std.proofs.lemmas.List.Kept.{AllPairs-cons}
use Rattle.std.proofs.lemmas.List.Sums.{sum_by-cons}
use Rattle.tx.specs.Fields.{Transaction}
use Rattle.chain.specs.Blocks.{Contents as Block, Coin, coin_at}
use Rattle.terms.specs.declared.amounts.TheConstants.{MSAT_PER_SAT}
use Rattle.terms.specs.declared.htlcs.Htlc.{Htlc}
use Rattle.commit.specs.declared.outputs.HtlcOutput.{HtlcOutput}
use Rattle.commit.specs.Commitments.{Contents, transaction_of, htlcs_from, htlcs_of, htlc_tx_of}
use Rattle.penalty.specs.Claimable.{Claimable, claims_by}
use Rattle.penalty.specs.Worth.{stage_on, staged, value_of, fee_with, fees_with}
use Rattle.channel.specs.declared.commitments.CommitmentState.{CommitmentState}
use Rattle.channel.specs.Tokens.{contents_of}
use Rattle.worth_laws.specs.Shares.{Deductions, deducted_msat, counted_msat, deductions, all_deductions, IsLess}
use Rattle.worth_laws.specs.Counted.{counted_on, counted, fee_counted, fees_counted}
use Rattle.worth_laws.specs.Least.{own_sat, at_least_sat}
use Rattle.safety.specs.Whereabouts.{IsOnChain}
use Rattle.safety.specs.Holdings.{Holding, terms_in, peer_in}
use Rattle.safety.specs.Breaks.{Breaks}
use Rattle.safety.specs.Passing.{IsReady}
use Rattle.safety.specs.Resolutions.{Resolution, IsSlept, IsPaidOrLate}
use Rattle.safety.proofs.Slots.{contains_first, contains_later}
use Rattle.safety.proofs.Lists.{none_some, contains_none}
use Rattle.balance_laws.specs.Claims.{AreWorth, AllAreWorth, ShareIsWorth}
use Rattle.balance_laws.specs.OwnBreaks.{OwnBreaks}
use Rattle.balance_laws.specs.Own.{HasOwnShare}
use Rattle.balance_laws.specs.Balances.{HasAll, HasShare, HasNewest, BalanceIsThere, unclosed, by_revoked, by_newest, by_next, by_own, broken}
use Rattle.balance_laws.proofs.Apart.{AreApart}
use Rattle.balance_laws.proofs.Peers.{no_stage}

-- ---- two claims of 3 and 4 satoshis, and a fee of 1. They are worth 9.005 less a fee of 1 satoshi and 5 millisatoshis

module _ (h : Holding) (known : Htlc → Bool) (o p : Claimable) (three : o.place.value ≡ 3) (four : p.place.value ≡ 4) where
  abbrev off : Deductions
  off = record { fee_sat = 1; dust_sat = 0; trimmed_sat = 0; rest_msat = 5 }

  abbrev two : List Claimable
  two = o ∷ p ∷ []

  value : value_of two ≡ 7
  value =
      let a = sum_by-cons (λ (x : Claimable). x.place.value) o (p ∷ []) in
      let b = sum_by-cons (λ (x : Claimable). x.place.value) p [] in
      omega (arith, a, b, three, four)

  alone : AllPairs AreApart []
  alone = λ i j d l m. absurd (omega (arith, m))

  pair_apart : o.place.outpoint ≢ p.place.outpoint → AllPairs AreApart two
  pair_apart n = AllPairs-cons AreApart o (p ∷ []) (All-cons (AreApart o) p [] n (All-nil (AreApart o))) (AllPairs-cons AreApart p [] (All-nil (AreApart p)) alone)

  module _ (Held : Claimable → Type 0) where
    -- yes: AreWorth
    both_held : o.place.outpoint ≢ p.place.outpoint → at_least_sat known h.state ≤ 7 → ((x : Claimable) → Contains two x → Held x) → AreWorth h known two 1 9005 off Held
    both_held n l f = record { apart = pair_apart n; worth = (let e = value in omega (arith, e)); least = (let e = value in omega (arith, e, l)); each = f }

    -- no: AreWorth
    one_output_twice : o.place.outpoint ≡ p.place.outpoint → AreWorth h known two 1 9005 off Held → ⊥
    one_output_twice e w = w.apart 0 1 o (lit< tt) (lit< tt) e

    -- no: AreWorth
    one_satoshi_less : AreWorth h known two 0 9005 off Held → ⊥
    one_satoshi_less w = let e = value in let f = w.worth in omega (arith, e, f)

    -- no: AreWorth
    fee_counted_twice : AreWorth h known two 2 9005 off Held → ⊥
    fee_counted_twice w = let e = value in let f = w.worth in omega (arith, e, f)

    -- with the fee they would be worth it
    -- no: AreWorth
    above_the_least : at_least_sat known h.state ≡ 8 → AreWorth h known two 1 9005 off Held → ⊥
    above_the_least l w = let e = value in let f = w.least in omega (arith, e, f, l)

    -- no: AreWorth
    one_is_lost : (Held o → ⊥) → AreWorth h known two 1 9005 off Held → ⊥
    one_is_lost n w = n (w.each o (contains_first o (p ∷ [])))

    -- the same of a commitment on which these are the claims. Of a capacity of 9 satoshis one is deducted
    module _ (k : CommitmentState) (stands : ℕ → Bool) where
      -- yes: AllAreWorth
      all_of_two : staged stands (contents_of (terms_in h) k) ≡ two → fees_with stands (contents_of (terms_in h) k) ≡ 1 → (terms_in h).capacity_sat ≡ 9 → deducted_msat (all_deductions (terms_in h) k.view (peer_in h)) ≡ 1000
          → o.place.outpoint ≢ p.place.outpoint → at_least_sat known h.state ≡ 7 → ((x : Claimable) → Contains two x → Held x) → AllAreWorth h known stands k Held
      all_of_two e f c d n l held =
          let v : value_of (staged stands (contents_of (terms_in h) k)) ≡ 7 = ap value_of e ∙ value in
          record {
            apart = subst (AllPairs AreApart) (sym e) (pair_apart n);
            worth = omega (arith, v, f, c, d);
            least = omega (arith, v, l);
            each = λ x i. held x (subst (λ (xs : List Claimable). Contains xs x) e i);
          }

      -- no: AllAreWorth
      of_two_in_a_larger_channel : staged stands (contents_of (terms_in h) k) ≡ two → fees_with stands (contents_of (terms_in h) k) ≡ 1 → (terms_in h).capacity_sat ≡ 10
          → deducted_msat (all_deductions (terms_in h) k.view (peer_in h)) ≡ 1000 → AllAreWorth h known stands k Held → ⊥
      of_two_in_a_larger_channel e f c d a =
          let v : value_of (staged stands (contents_of (terms_in h) k)) ≡ 7 = ap value_of e ∙ value in
          let w = a.worth in
          omega (arith, v, f, c, d, w)

      -- the node counts on 9,005 millisatoshis, of which 1,005 are deducted
      module _ (own : Bool) where
        -- yes: ShareIsWorth
        share_of_two : counted own known stands (contents_of (terms_in h) k) ≡ two → fees_counted own known stands (contents_of (terms_in h) k) ≡ 1 → counted_msat known h.state.held.side k.view ≡ 9005
            → deducted_msat (deductions (terms_in h) k.view own h.state.held.side known) ≡ 1005 → o.place.outpoint ≢ p.place.outpoint → at_least_sat known h.state ≡ 7 → ((x : Claimable) → Contains two x → Held x)
            → ShareIsWorth h own known stands k Held
        share_of_two e f c d n l held =
            let v : value_of (counted own known stands (contents_of (terms_in h) k)) ≡ 7 = ap value_of e ∙ value in
            record {
              apart = subst (AllPairs AreApart) (sym e) (pair_apart n);
              worth = omega (arith, v, f, c, d);
              least = omega (arith, v, l);
              each = λ x i. held x (subst (λ (xs : List Claimable). Contains xs x) e i);
            }

        -- no: ShareIsWorth
        one_of_two_is_lost : counted own known stands (contents_of (terms_in h) k) ≡ two → (Held p → ⊥) → ShareIsWorth h own known stands k Held → ⊥
        one_of_two_is_lost e n a = n (a.each p (subst (λ (xs : List Claimable). Contains xs p) (sym e) (contains_later o (p ∷ []) p (contains_first p []))))

  -- what is lost of the two is neither there nor taken
  module _ (hs : List Holding) (blocks : List Block) (k : CommitmentState) where
    -- no: HasShare
    second_of_two_is_lost : counted false known (λ _. false) (contents_of (terms_in h) k) ≡ two → (Resolution Breaks hs blocks (IsPaidOrLate false (contents_of (terms_in h) k) p) p → ⊥) → HasShare hs blocks h known k → ⊥
    second_of_two_is_lost = one_of_two_is_lost (λ x. Resolution Breaks hs blocks (IsPaidOrLate false (contents_of (terms_in h) k) x) x) k (λ _. false) false

-- ---- a commitment without outputs, since all that there is is dust

module _ (h : Holding) (known : Htlc → Bool) (k : CommitmentState) (none : (contents_of (terms_in h) k).outputs ≡ []) where
  abbrev c : Contents
  c = contents_of (terms_in h) k

  no_penalties : (stands : ℕ → Bool) → staged stands c ≡ []
  unfolding claims_by
  no_penalties stands = ap (claims_by (stage_on stands c) c 0) none

  no_counted : (own : Bool) (stands : ℕ → Bool) → counted own known stands c ≡ []
  unfolding claims_by
  no_counted own stands = ap (claims_by (counted_on own known stands c) c 0) none

  no_htlcs : htlcs_of c ≡ []
  unfolding htlcs_from
  no_htlcs = ap (htlcs_from 0) none

  no_fees : (stands : ℕ → Bool) → fees_with stands c ≡ 0
  no_fees stands = ap (λ (xs : List HtlcOutput). sum_by (λ (x : HtlcOutput). fee_with stands c.feerate_per_kw x) xs) no_htlcs

  no_fees_counted : (own : Bool) (stands : ℕ → Bool) → fees_counted own known stands c ≡ 0
  no_fees_counted true stands = ap (λ (xs : List HtlcOutput). sum_by (λ (x : HtlcOutput). fee_counted known stands c.feerate_per_kw x) xs) no_htlcs
  no_fees_counted false stands = refl

  module _ (Held : Claimable → Type 0) (stands : ℕ → Bool) where
    nothing : (claims : List Claimable) (fees_sat whole_msat : ℕ) (d : Deductions) → claims ≡ [] → fees_sat ≡ 0 → deducted_msat d ≡ whole_msat → at_least_sat known h.state ≡ 0
        → AreWorth h known claims fees_sat whole_msat d Held
    nothing claims fees_sat whole_msat d e f g l =
        let v : value_of claims ≡ 0 = ap value_of e in
        record {
          apart = subst (AllPairs AreApart) (sym e) (λ i j x y m. absurd (omega (arith, m)));
          worth = omega (arith, f, g, v);
          least = omega (arith, l);
          each = λ o i. absurd (contains_none o (subst (λ (os : List Claimable). Contains os o) e i));
        }

    -- yes: AllAreWorth
    all_is_dust : deducted_msat (all_deductions (terms_in h) k.view (peer_in h)) ≡ MSAT_PER_SAT * (terms_in h).capacity_sat → at_least_sat known h.state ≡ 0 → AllAreWorth h known stands k Held
    all_is_dust e l =
        nothing (staged stands c) (fees_with stands c) (MSAT_PER_SAT * (terms_in h).capacity_sat) (all_deductions (terms_in h) k.view (peer_in h)) (no_penalties stands) (no_fees stands) e l

    -- no: AllAreWorth
    satoshi_of_all_is_gone : deducted_msat (all_deductions (terms_in h) k.view (peer_in h)) + MSAT_PER_SAT ≡ MSAT_PER_SAT * (terms_in h).capacity_sat → AllAreWorth h known stands k Held → ⊥
    satoshi_of_all_is_gone e a =
        let f = a.worth in
        let v : value_of (staged stands c) ≡ 0 = ap value_of (no_penalties stands) in
        let z = no_fees stands in
        omega (arith, e, f, v, z)

    module _ (own : Bool) where
      -- yes: ShareIsWorth
      share_is_dust : deducted_msat (deductions (terms_in h) k.view own h.state.held.side known) ≡ counted_msat known h.state.held.side k.view → at_least_sat known h.state ≡ 0 → ShareIsWorth h own known stands k Held
      share_is_dust e l =
          nothing (counted own known stands c) (fees_counted own known stands c) (counted_msat known h.state.held.side k.view) (deductions (terms_in h) k.view own h.state.held.side known) (no_counted own stands)
          (no_fees_counted own stands) e l

      -- no: ShareIsWorth
      satoshi_of_the_share_is_gone : deducted_msat (deductions (terms_in h) k.view own h.state.held.side known) + MSAT_PER_SAT ≡ counted_msat known h.state.held.side k.view → ShareIsWorth h own known stands k Held → ⊥
      satoshi_of_the_share_is_gone e a =
          let f = a.worth in
          let v : value_of (counted own known stands c) ≡ 0 = ap value_of (no_counted own stands) in
          let z = no_fees_counted own stands in
          omega (arith, e, f, v, z)

  module _ (hs : List Holding) (blocks : List Block) where
    -- yes: HasAll
    has_all_of_dust : deducted_msat (all_deductions (terms_in h) k.view (peer_in h)) ≡ MSAT_PER_SAT * (terms_in h).capacity_sat → at_least_sat known h.state ≡ 0 → HasAll hs blocks h known k
    has_all_of_dust e l = record {
      stands = no_stage;
      those = λ x i. absurd (contains_none x (subst (λ (xs : List HtlcOutput). Contains xs x) no_htlcs i));
      claims = all_is_dust (λ o. Resolution Breaks hs blocks (IsSlept c o) o) no_stage e l;
    }

    -- no: HasAll
    has_not_all : deducted_msat (all_deductions (terms_in h) k.view (peer_in h)) + MSAT_PER_SAT ≡ MSAT_PER_SAT * (terms_in h).capacity_sat → HasAll hs blocks h known k → ⊥
    has_not_all e a = satoshi_of_all_is_gone (λ o. Resolution Breaks hs blocks (IsSlept c o) o) a.stands e a.claims

    -- yes: HasShare
    has_share_of_dust : deducted_msat (deductions (terms_in h) k.view false h.state.held.side known) ≡ counted_msat known h.state.held.side k.view → at_least_sat known h.state ≡ 0 → HasShare hs blocks h known k
    has_share_of_dust e l = share_is_dust (λ o. Resolution Breaks hs blocks (IsPaidOrLate false c o) o) no_stage false e l

    -- no: HasShare
    has_no_share : deducted_msat (deductions (terms_in h) k.view false h.state.held.side known) + MSAT_PER_SAT ≡ counted_msat known h.state.held.side k.view → HasShare hs blocks h known k → ⊥
    has_no_share e a = satoshi_of_the_share_is_gone (λ o. Resolution Breaks hs blocks (IsPaidOrLate false c o) o) no_stage false e a

    -- yes: HasOwnShare
    has_own_share_of_dust : deducted_msat (deductions (terms_in h) k.view true h.state.held.side known) ≡ counted_msat known h.state.held.side k.view → at_least_sat known h.state ≡ 0 → HasOwnShare hs blocks h known k
    has_own_share_of_dust e l = record {
      stands = no_stage;
      those = λ x i. absurd (contains_none x (subst (λ (xs : List HtlcOutput). Contains xs x) no_htlcs i));
      claims = share_is_dust (λ o. Resolution OwnBreaks hs blocks (IsPaidOrLate true c o) o) no_stage true e l;
    }

    -- no: HasOwnShare
    has_no_own_share : deducted_msat (deductions (terms_in h) k.view true h.state.held.side known) + MSAT_PER_SAT ≡ counted_msat known h.state.held.side k.view → HasOwnShare hs blocks h known k → ⊥
    has_no_own_share e a = satoshi_of_the_share_is_gone (λ o. Resolution OwnBreaks hs blocks (IsPaidOrLate true c o) o) a.stands true e a.claims

-- ---- an HTLC transaction that stands

stands_there : (A B : Type 0) → A ↔ B → B → A
stands_there A B e b = e.1 b

module _ (hs : List Holding) (blocks : List Block) (h : Holding) (known : Htlc → Bool) (k : CommitmentState) (x : HtlcOutput) (among : Contains (htlcs_of (contents_of (terms_in h) k)) x)
    (there : IsOnChain blocks (htlc_tx_of (contents_of (terms_in h) k) x)) where
  -- its output takes the place of the HTLC's
  -- no: HasAll
  first_stage_of_penalties : (a : HasAll hs blocks h known k) → a.stands x.index ≡ false → ⊥
  first_stage_of_penalties a e = true≢false (sym (stands_there (a.stands x.index ≡ true) (IsOnChain blocks (htlc_tx_of (contents_of (terms_in h) k) x)) (a.those x among) there) ∙ e)

  -- no: HasOwnShare
  first_stage_of_own : (a : HasOwnShare hs blocks h known k) → a.stands x.index ≡ false → ⊥
  first_stage_of_own a e = true≢false (sym (stands_there (a.stands x.index ≡ true) (IsOnChain blocks (htlc_tx_of (contents_of (terms_in h) k) x)) (a.those x among) there) ∙ e)

-- ---- before a close

module _ (blocks : List Block) (h : Holding) (known : Htlc → Bool) (r : IsReady blocks h) where
  -- yes: HasNewest
  is_worth_that : IsLess (counted_msat known h.state.held.side r.newest.view) (deductions (terms_in h) r.newest.view true h.state.held.side known) (own_sat known h.state r.newest)
      → at_least_sat known h.state ≤ own_sat known h.state r.newest → HasNewest blocks h known
  is_worth_that e l = record { ready = r; worth = e; least = l }

  -- no: HasNewest
  least_is_above : own_sat known h.state r.newest < at_least_sat known h.state → HasNewest blocks h known → ⊥
  least_is_above l n =
      let same : r.newest ≡ n.ready.newest = same_Some r.newest n.ready.newest (sym r.recorded ∙ n.ready.recorded) in
      let e : own_sat known h.state r.newest ≡ own_sat known h.state n.ready.newest = ap (own_sat known h.state) same in
      let m = n.least in
      omega (arith, l, e, m)

-- no: HasNewest
not_ready : (blocks : List Block) (h : Holding) (known : Htlc → Bool) → (IsReady blocks h → ⊥) → HasNewest blocks h known → ⊥
not_ready blocks h known n has = n has.ready

-- ---- a channel

nothing_there : (t : Transaction) → IsOnChain [] t → ⊥
nothing_there t on = none_some on.stands.block (sym (slice_get_past [] on.height (omega arith)) ∙ on.stands.there)

-- no: BalanceIsThere
not_yet_opened : (hs : List Holding) (h : Holding) (known : Htlc → Bool) → (Breaks hs [] → ⊥) → BalanceIsThere hs [] h known → ⊥
not_yet_opened hs h known whole (unclosed coin at free has) = none_some coin at
not_yet_opened hs h known whole (by_revoked n k l at s on has) = nothing_there (transaction_of (contents_of (terms_in h) k)) on
not_yet_opened hs h known whole (by_newest k at on has) = nothing_there (transaction_of (contents_of (terms_in h) k)) on
not_yet_opened hs h known whole (by_next k e at on has) = nothing_there (transaction_of (contents_of (terms_in h) k)) on
not_yet_opened hs h known whole (by_own k e at on has) = nothing_there (transaction_of (contents_of (terms_in h) k)) on
not_yet_opened hs h known whole (broken b) = whole b

module _ (hs : List Holding) (blocks : List Block) (h : Holding) (known : Htlc → Bool) (coin : Coin) (there : coin_at blocks (terms_in h).funding ≡ Some coin) where
  -- yes: BalanceIsThere
  still_open : coin.spent ≡ false → HasNewest blocks h known → BalanceIsThere hs blocks h known
  still_open free n = unclosed coin there free n

  -- yes: BalanceIsThere
  closed_by_next : (k : CommitmentState) → h.state.awaiting ≡ true → slice_get h.state.signed (h.state.peer_number + 1) ≡ Some k → IsOnChain blocks (transaction_of (contents_of (terms_in h) k)) → HasShare hs blocks h known k
      → BalanceIsThere hs blocks h known
  closed_by_next k e at on s = by_next k e at on s

  module _ (whole : Breaks hs blocks → ⊥) where
    -- no: BalanceIsThere
    open_but_not_ready : coin.spent ≡ false → h.closed ≡ None → ((n : ℕ) (k : CommitmentState) → slice_get h.state.signed n ≡ Some k → IsOnChain blocks (transaction_of (contents_of (terms_in h) k)) → ⊥)
        → (HasNewest blocks h known → ⊥)
        → BalanceIsThere hs blocks h known → ⊥
    open_but_not_ready free not_closed n r (unclosed c at f has) = r has
    open_but_not_ready free not_closed n r (by_revoked i k l at s on p) = n i k at on
    open_but_not_ready free not_closed n r (by_newest k at on p) = n h.state.peer_number k at on
    open_but_not_ready free not_closed n r (by_next k e at on p) = n (h.state.peer_number + 1) k at on
    open_but_not_ready free not_closed n r (by_own k at there on p) = none_some h.state.number (sym not_closed ∙ at)
    open_but_not_ready free not_closed n r (broken z) = whole z

    -- what stands there is the peer's newest commitment, of which an output is lost
    -- no: BalanceIsThere
    output_is_lost : coin.spent ≡ true → h.closed ≡ None → ((n : ℕ) (k : CommitmentState) → slice_get h.state.signed n ≡ Some k → IsOnChain blocks (transaction_of (contents_of (terms_in h) k)) → n ≡ h.state.peer_number)
        → ((k : CommitmentState) → slice_get h.state.signed h.state.peer_number ≡ Some k → HasShare hs blocks h known k → ⊥) → BalanceIsThere hs blocks h known → ⊥
    output_is_lost taken not_closed n lost (unclosed c at f has) = true≢false (sym taken ∙ ap (λ (x : Coin). x.spent) (same_Some coin c (sym there ∙ at)) ∙ f)
    output_is_lost taken not_closed n lost (by_revoked i k l at s on p) = let e = n i k at on in omega (arith, e, l)
    output_is_lost taken not_closed n lost (by_newest k at on p) = lost k at p
    output_is_lost taken not_closed n lost (by_next k e at on p) = let f = n (h.state.peer_number + 1) k at on in omega (arith, f)
    output_is_lost taken not_closed n lost (by_own k at there on p) = none_some h.state.number (sym not_closed ∙ at)
    output_is_lost taken not_closed n lost (broken z) = whole z

    -- the node closed with its newest commitment, of which an output is lost
    -- no: BalanceIsThere
    own_output_is_lost : coin.spent ≡ true → ((n : ℕ) (k : CommitmentState) → slice_get h.state.signed n ≡ Some k → IsOnChain blocks (transaction_of (contents_of (terms_in h) k)) → ⊥)
        → ((k : CommitmentState) → slice_get h.state.mine h.state.number ≡ Some k → HasOwnShare hs blocks h known k → ⊥) → BalanceIsThere hs blocks h known → ⊥
    own_output_is_lost taken n lost (unclosed c at f has) = true≢false (sym taken ∙ ap (λ (x : Coin). x.spent) (same_Some coin c (sym there ∙ at)) ∙ f)
    own_output_is_lost taken n lost (by_revoked i k l at s on p) = n i k at on
    own_output_is_lost taken n lost (by_newest k at on p) = n h.state.peer_number k at on
    own_output_is_lost taken n lost (by_next k e at on p) = n (h.state.peer_number + 1) k at on
    own_output_is_lost taken n lost (by_own k at is on p) = lost k is p
    own_output_is_lost taken n lost (broken z) = whole z
