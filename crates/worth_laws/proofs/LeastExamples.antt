-- The least of worked states of A, by amounts that were computed by the program of the other examples; and which commitments may close the channel.
use Rattle.std.proofs.Common.{◌≡◌, ℕ, zero, suc, Bool, true, false, map, List, [], ◌∷◌, ◌++◌, Option, Some, None, refl, sym, ap, arith, lit<}
use Rattle.std.proofs.lemmas.Bool.{true≢false}
use Rattle.tx.specs.declared.input.OutPoint.{OutPoint}
use Rattle.terms.specs.declared.htlcs.Htlc.{Htlc}
use Rattle.terms.specs.declared.sides.Side.{Side}
use Rattle.terms.specs.declared.sides.Side.TheVariants.{A, B}
use Rattle.terms.specs.declared.agreement.BaseKeys.{BaseKeys}
use Rattle.terms.specs.declared.views.View.{View}
use Rattle.commit.specs.Outputs.{outputs_of}
use Rattle.commit.specs.Order.{in_order, output_cmp}
use Rattle.commit.specs.Commitments.{commitment_of, htlcs_from, htlc_tx_of}
use Rattle.penalty.specs.Claimable.{Claimable, claims_by}
use Rattle.penalty.specs.Worth.{value_of}
use Rattle.channel.specs.declared.commitments.CommitmentState.{CommitmentState}
use Rattle.channel.specs.States.{State, state_at_opening}
use Rattle.channel.specs.Peers.{IsLived, starts}
use Rattle.channel.specs.Recording.{own_newest, SidesRecord}
use Rattle.channel.proofs.Samples.{key, tokens_of}
use Rattle.worth_laws.specs.Shares.{Deductions, none_known}
use Rattle.worth_laws.specs.Least.{MayClose, revoked, newest, next, own, gives_sat, whole_msat, taken_off, most_off, counted_by, fees_by, least, at_least_sat}
use Rattle.worth_laws.proofs.Samples.{opened_by, view, all_known}

leasts : map least ([] ∷ (7 ∷ []) ∷ (7 ∷ 9 ∷ []) ∷ (9 ∷ 7 ∷ []) ∷ (8 ∷ 7 ∷ 9 ∷ []) ∷ []) ≡ 0 ∷ 7 ∷ 7 ∷ 7 ∷ 7 ∷ []
leasts = refl

module _ (funding : OutPoint) (bases : BaseKeys) (seed : List ℕ) where
  abbrev of_side : Side → ℕ → View → CommitmentState
  of_side owner n v = record { view = v; owner = owner; number = n; point = key 1 }

  -- A's own newest, with 10,000 that A offered; one where B offered 29,000
  abbrev mine : CommitmentState
  mine = of_side A 1 (view 1000 60000000 (10000000 ∷ []) 30000000 [])

  abbrev mine_later : CommitmentState
  mine_later = of_side A 1 (view 1000 41000000 [] 30000000 (29000000 ∷ []))

  -- B's newest, where B offered 15,000; and the one after it, where B offered 18,000, at twice the feerate
  abbrev theirs : CommitmentState
  theirs = of_side B 1 (view 1000 55000000 [] 30000000 (15000000 ∷ []))

  abbrev theirs_next : CommitmentState
  theirs_next = of_side B 2 (view 2000 52000000 [] 30000000 (18000000 ∷ []))

  -- B's that is revoked, at a feerate that leaves 276 less than its sum, and at one whose fee takes all that A has
  abbrev past : CommitmentState
  past = of_side B 0 (view 1000 70000000 [] 30000000 [])

  abbrev past_dear : CommitmentState
  past_dear = of_side B 0 (view 100000 70000000 [] 30000000 [])

  abbrev old : CommitmentState
  old = of_side A 0 (view 1000 11000000 [] 89000000 [])

  abbrev of_a : CommitmentState → List CommitmentState → State
  of_a first signed = record (state_at_opening (opened_by funding bases A 546 1000) A seed (key 1) (key 2)) { awaiting = true; number = 1; peer_number = 1; mine = old ∷ first ∷ []; signed = signed }

  -- the next of B's gives least without the preimage, and with it too; the revoked one, if its fee was great; A's own, if B offered much there. What A's own before its newest would give counts for nothing
  least_of_each : map (λ known. at_least_sat known (of_a mine (past ∷ theirs ∷ theirs_next ∷ []))) (none_known ∷ all_known ∷ []) ≡ 50208 ∷ 68208 ∷ []
  unfolding claims_by commitment_of outputs_of in_order output_cmp
  least_of_each = refl

  -- before B's next is signed B's newest gives least without the preimage. With it A's own does: its HTLC-timeout costs 663 of the 69,104 that either gives
  least_unsigned : map (λ known. at_least_sat known (of_a mine (past ∷ theirs ∷ []))) (none_known ∷ all_known ∷ []) ≡ 54104 ∷ 68441 ∷ []
  unfolding claims_by commitment_of outputs_of in_order output_cmp
  least_unsigned = refl

  least_revoked : map (λ known. at_least_sat known (of_a mine (past_dear ∷ theirs ∷ theirs_next ∷ []))) (none_known ∷ all_known ∷ []) ≡ 30000 ∷ 30000 ∷ []
  unfolding claims_by commitment_of outputs_of in_order output_cmp
  least_revoked = refl

  least_own : map (λ known. at_least_sat known (of_a mine_later (past ∷ theirs ∷ theirs_next ∷ []))) (none_known ∷ all_known ∷ []) ≡ 40104 ∷ 68208 ∷ []
  unfolding claims_by commitment_of outputs_of in_order output_cmp
  least_own = refl

  -- B, which opened the channel: its own newest, where A offered 10,000, which HTLC-success brings but for 703; and A's newest, where A offered 15,000
  abbrev of_b : State
  of_b = record (state_at_opening (opened_by funding bases B 546 1000) B seed (key 1) (key 2)) {
    number = 1;
    peer_number = 1;
    mine = of_side B 0 (view 1000 89000000 [] 11000000 []) ∷ of_side B 1 (view 1000 60000000 (10000000 ∷ []) 30000000 []) ∷ [];
    signed = of_side A 0 (view 1000 70000000 [] 30000000 []) ∷ of_side A 1 (view 1000 45000000 (15000000 ∷ []) 40000000 []) ∷ [];
  }

  least_of_b : map (λ known. at_least_sat known of_b) (none_known ∷ all_known ∷ []) ≡ 29104 ∷ 38401 ∷ []
  unfolding claims_by commitment_of outputs_of in_order output_cmp
  least_of_b = refl

  -- ---- who may close

  abbrev standing : State
  standing = of_a mine (past ∷ theirs ∷ theirs_next ∷ [])

  -- yes: MayClose
  four : MayClose standing past × MayClose standing theirs × MayClose standing theirs_next × MayClose standing mine
  four = (revoked 0 (lit< tt) refl, newest refl, next refl refl, own refl)

  -- ---- what each of them gives, what that is worth, and what is taken off

  abbrev by_revoked : MayClose standing past
  by_revoked = revoked 0 (lit< tt) refl

  abbrev by_newest : MayClose standing theirs
  by_newest = newest refl

  abbrev by_next : MayClose standing theirs_next
  by_next = next refl refl

  abbrev by_own : MayClose standing mine
  by_own = own refl

  -- without the preimage, and with it: a revoked commitment gives both sides' outputs, and is worth the capacity
  gives : (map (λ known. gives_sat known standing past by_revoked) (none_known ∷ all_known ∷ []) ≡ 99276 ∷ 99276 ∷ [])
      × (map (λ known. gives_sat known standing theirs by_newest) (none_known ∷ all_known ∷ []) ≡ 54104 ∷ 69104 ∷ [])
      × (map (λ known. gives_sat known standing theirs_next by_next) (none_known ∷ all_known ∷ []) ≡ 50208 ∷ 68208 ∷ [])
      × (map (λ known. gives_sat known standing mine by_own) (none_known ∷ all_known ∷ []) ≡ 69104 ∷ 69104 ∷ [])
  unfolding commitment_of outputs_of in_order output_cmp
  gives = (refl, refl, refl, refl)

  worths : (map (λ known. whole_msat known standing past by_revoked) (none_known ∷ all_known ∷ []) ≡ 100000000 ∷ 100000000 ∷ [])
      × (map (λ known. whole_msat known standing theirs by_newest) (none_known ∷ all_known ∷ []) ≡ 55000000 ∷ 70000000 ∷ [])
      × (map (λ known. whole_msat known standing theirs_next by_next) (none_known ∷ all_known ∷ []) ≡ 52000000 ∷ 70000000 ∷ [])
      × (map (λ known. whole_msat known standing mine by_own) (none_known ∷ all_known ∷ []) ≡ 70000000 ∷ 70000000 ∷ [])
  worths = (refl, refl, refl, refl)

  abbrev off : ℕ → ℕ → ℕ → ℕ → Deductions
  off fee_sat dust_sat trimmed_sat rest_msat = record { fee_sat = fee_sat; dust_sat = dust_sat; trimmed_sat = trimmed_sat; rest_msat = rest_msat }

  -- the fee without an HTLC, and with one; the next has twice the feerate
  taken : (taken_off none_known standing past by_revoked ≡ off 724 0 0 0)
      × (taken_off none_known standing theirs by_newest ≡ off 896 0 0 0)
      × (taken_off none_known standing theirs_next by_next ≡ off 1792 0 0 0)
      × (taken_off none_known standing mine by_own ≡ off 896 0 0 0)
  taken = (refl, refl, refl, refl)

  -- at most, by a dust limit of 1,000, and of A's own by its 546: of both sides, if it is revoked; with B's HTLC, if A has the preimage; and with the one that A offered
  most : (most_off none_known standing past by_revoked 1000 1000 ≡ off 724 1998 0 1998)
      × (most_off none_known standing theirs by_newest 1000 1000 ≡ off 896 999 0 999)
      × (most_off all_known standing theirs by_newest 1000 1000 ≡ off 896 999 1702 1998)
      × (most_off none_known standing theirs_next by_next 2000 1000 ≡ off 1792 999 0 999)
      × (most_off none_known standing mine by_own 1000 546 ≡ off 896 545 1248 1998)
  most = (refl, refl, refl, refl, refl)

  -- ---- with HTLCs on each of them, and amounts that are rounded off

  -- B's that is revoked: A offered 10,000 and 11,000, and B 9,000
  abbrev past_full : CommitmentState
  past_full = of_side B 0 (view 1000 50000000 (10000000 ∷ 11000000 ∷ []) 20000000 (9000000 ∷ []))

  -- B's newest: A offered 12,000; B offered 18,000, and 1,000.999 that have no output
  abbrev newest_full : CommitmentState
  newest_full = of_side B 1 (view 1000 45000000 (12000000 ∷ []) 23999001 (18000000 ∷ 1000999 ∷ []))

  -- the next, at twice the feerate: A offered 13,000, and B 20,000.999
  abbrev next_full : CommitmentState
  next_full = of_side B 2 (view 2000 40000000 (13000000 ∷ []) 26999001 (20000999 ∷ []))

  -- A's own: A offered 14,000, and B 21,000.5
  abbrev own_full : CommitmentState
  own_full = of_side A 1 (view 1000 41000000 (14000000 ∷ []) 23999500 (21000500 ∷ []))

  abbrev full : State
  full = of_a own_full (past_full ∷ newest_full ∷ next_full ∷ [])

  abbrev full_revoked : MayClose full past_full
  full_revoked = revoked 0 (lit< tt) refl

  abbrev full_newest : MayClose full newest_full
  full_newest = newest refl

  abbrev full_next : MayClose full next_full
  full_next = next refl refl

  abbrev full_own : MayClose full own_full
  full_own = own refl

  -- an HTLC that is known has no output, or is rounded off
  taken_full : (map (λ known. taken_off known full past_full full_revoked) (none_known ∷ all_known ∷ []) ≡ off 1240 0 0 0 ∷ off 1240 0 0 0 ∷ [])
      × (map (λ known. taken_off known full newest_full full_newest) (none_known ∷ all_known ∷ []) ≡ off 1068 0 0 0 ∷ off 1068 0 1000 999 ∷ [])
      × (map (λ known. taken_off known full next_full full_next) (none_known ∷ all_known ∷ []) ≡ off 2136 0 0 0 ∷ off 2136 0 0 999 ∷ [])
      × (map (λ known. taken_off known full own_full full_own) (none_known ∷ all_known ∷ []) ≡ off 1068 0 0 0 ∷ off 1068 0 0 500 ∷ [])
  taken_full = (refl, refl, refl, refl)

  -- of both sides of the revoked one: B's one HTLC and A's two
  most_full : (map (λ known. most_off known full past_full full_revoked 1000 1000) (none_known ∷ all_known ∷ []) ≡ off 1240 1998 5106 4995 ∷ off 1240 1998 5106 4995 ∷ [])
      × (map (λ known. most_off known full newest_full full_newest 1000 1000) (none_known ∷ all_known ∷ []) ≡ off 1240 999 1702 1998 ∷ off 1240 999 5106 3996 ∷ [])
      × (map (λ known. most_off known full next_full full_next 2000 1000) (none_known ∷ all_known ∷ []) ≡ off 2136 999 2405 1998 ∷ off 2136 999 4810 2997 ∷ [])
      × (map (λ known. most_off known full own_full full_own 1000 546) (none_known ∷ all_known ∷ []) ≡ off 1068 545 1248 1998 ∷ off 1068 545 2496 2997 ∷ [])
  most_full = (refl, refl, refl, refl)

  -- of each claim its output's index, its path and its satoshis; and the fees
  abbrev spot : Claimable → ℕ × ℕ × ℕ
  spot o = (o.place.outpoint.index, o.path, o.place.value)

  abbrev claimed : (Htlc → Bool) → (k : CommitmentState) → MayClose full k → (ℕ → Bool) → List (ℕ × ℕ × ℕ) × ℕ
  claimed known k m stands = (map spot (counted_by known stands full k m), fees_by known stands full k m)

  -- while no HTLC transaction stands, and where each does
  abbrev at_both : List (ℕ → Bool)
  at_both = (λ _. false) ∷ (λ _. true) ∷ []

  -- the penalties of the revoked one, and to_remote
  claimed_revoked : map (claimed none_known past_full full_revoked) at_both
      ≡ ((0, 0, 9000) ∷ (1, 0, 10000) ∷ (2, 0, 11000) ∷ (3, 0, 20000) ∷ (4, 0, 48760) ∷ [], 0) ∷ ((0, 0, 8337) ∷ (0, 0, 9297) ∷ (0, 0, 10297) ∷ (3, 0, 20000) ∷ (4, 0, 48760) ∷ [], 2069) ∷ []
  unfolding claims_by htlcs_from htlc_tx_of commitment_of outputs_of in_order output_cmp
  claimed_revoked = refl

  -- of B's others the HTLCs by one key, and to_remote, whichever HTLC transactions stand. B's HTLCs count if they are known
  claimed_newest : (map (claimed none_known newest_full full_newest) at_both ≡ ((0, 2, 12000) ∷ (3, 0, 43932) ∷ [], 0) ∷ ((0, 2, 12000) ∷ (3, 0, 43932) ∷ [], 0) ∷ [])
      × (map (claimed all_known newest_full full_newest) at_both ≡ ((0, 2, 12000) ∷ (1, 2, 18000) ∷ (3, 0, 43932) ∷ [], 0) ∷ ((0, 2, 12000) ∷ (1, 2, 18000) ∷ (3, 0, 43932) ∷ [], 0) ∷ [])
  unfolding claims_by htlcs_from htlc_tx_of commitment_of outputs_of in_order output_cmp
  claimed_newest = (refl, refl)

  claimed_next : (map (claimed none_known next_full full_next) at_both ≡ ((0, 2, 13000) ∷ (3, 0, 37864) ∷ [], 0) ∷ ((0, 2, 13000) ∷ (3, 0, 37864) ∷ [], 0) ∷ [])
      × (map (claimed all_known next_full full_next) at_both ≡ ((0, 2, 13000) ∷ (1, 2, 20000) ∷ (3, 0, 37864) ∷ [], 0) ∷ ((0, 2, 13000) ∷ (1, 2, 20000) ∷ (3, 0, 37864) ∷ [], 0) ∷ [])
  unfolding claims_by htlcs_from htlc_tx_of commitment_of outputs_of in_order output_cmp
  claimed_next = (refl, refl)

  -- of A's own each HTLC by its HTLC transaction or by the output of that, and to_local after the delay
  claimed_own : (map (claimed none_known own_full full_own) at_both ≡ ((0, 1, 14000) ∷ (3, 1, 39932) ∷ [], 0) ∷ ((0, 1, 13337) ∷ (3, 1, 39932) ∷ [], 663) ∷ [])
      × (map (claimed all_known own_full full_own) at_both ≡ ((0, 1, 14000) ∷ (1, 1, 21000) ∷ (3, 1, 39932) ∷ [], 0) ∷ ((0, 1, 13337) ∷ (0, 1, 20297) ∷ (3, 1, 39932) ∷ [], 1366) ∷ [])
  unfolding claims_by htlcs_from htlc_tx_of commitment_of outputs_of in_order output_cmp
  claimed_own = (refl, refl)

  -- ---- what HTLC transactions cost

  -- B opened the channel. On its revoked commitment, at a feerate of 120,000, A had 8,000 and offered 90,000. B failed that, and lowered the feerate
  abbrev dear : CommitmentState
  dear = of_side B 0 (view 120000 8000000 (90000000 ∷ []) 2000000 [])

  abbrev cheap : Side → CommitmentState
  cheap owner = of_side owner 1 (view 1000 98000000 [] 2000000 [])

  abbrev failed : State
  failed = record (state_at_opening (opened_by funding bases B 546 546) A seed (key 1) (key 2)) { number = 1; peer_number = 1; mine = old ∷ cheap A ∷ []; signed = dear ∷ cheap B ∷ [] }

  abbrev by_dear : MayClose failed dear
  by_dear = revoked 0 (lit< tt) refl

  -- each commitment gives A 98,000
  each_gives : gives_sat all_known failed dear by_dear ∷ gives_sat all_known failed (cheap B) (newest refl) ∷ gives_sat all_known failed (cheap A) (own refl) ∷ [] ≡ 98000 ∷ 98000 ∷ 98000 ∷ []
  unfolding commitment_of outputs_of in_order output_cmp
  each_gives = refl

  -- but of the revoked one B's HTLC-success costs 84,360
  abbrev dear_at : (ℕ → Bool) → ℕ × ℕ
  dear_at stands = (value_of (counted_by all_known stands failed dear by_dear), fees_by all_known stands failed dear by_dear)

  dear_claims : map dear_at at_both ≡ (98000, 0) ∷ (13640, 84360) ∷ []
  unfolding claims_by htlcs_from commitment_of outputs_of in_order output_cmp
  dear_claims = refl

  -- so that is the least, and not 98,000
  least_by_fees : at_least_sat all_known failed ≡ 13640
  unfolding claims_by commitment_of outputs_of in_order output_cmp
  least_by_fees = refl

  -- A's own HTLC-timeout costs 663 of 69,104
  abbrev own_at : (ℕ → Bool) → ℕ × ℕ
  own_at stands = (value_of (counted_by all_known stands standing mine by_own), fees_by all_known stands standing mine by_own)

  own_claims : map own_at at_both ≡ (69104, 0) ∷ (68441, 663) ∷ []
  unfolding claims_by htlcs_from commitment_of outputs_of in_order output_cmp
  own_claims = refl

  -- by A's balance, which is another in each
  abbrev has : Option CommitmentState → ℕ
  has None = 0
  has (Some k) = k.view.a.balance_msat

  -- A's own before its newest; and the next of B's, where no signature awaits its revocation
  -- no: MayClose
  not_old : MayClose standing old → ⊥
  not_old (revoked zero l at) = let e = ap has at in omega (arith, e)
  not_old (revoked (suc n) l at) = omega (arith, l)
  not_old (newest at) = let e = ap has at in omega (arith, e)
  not_old (next w at) = let e = ap has at in omega (arith, e)
  not_old (own at) = let e = ap has at in omega (arith, e)

  not_unsigned : MayClose (record standing { awaiting = false }) theirs_next → ⊥
  not_unsigned (revoked zero l at) = let e = ap has at in omega (arith, e)
  not_unsigned (revoked (suc n) l at) = omega (arith, l)
  not_unsigned (newest at) = let e = ap has at in omega (arith, e)
  not_unsigned (next w at) = true≢false (sym w)
  not_unsigned (own at) = let e = ap has at in omega (arith, e)

  -- ---- states that calls and messages lead to

  -- yes: IsLived
  as_opened : IsLived tokens_of (state_at_opening (opened_by funding bases A 546 1000) A seed (key 1) (key 2))
  as_opened = starts (opened_by funding bases A 546 1000) A seed (key 1) (key 2)

  nothing_ends : (xs : List CommitmentState) (x : CommitmentState) → [] ≡ xs ++ x ∷ [] → ⊥
  nothing_ends [] x e = cc
  nothing_ends (y ∷ ys) x e = cc

  -- one's own newest commitment is always there
  -- no: IsLived
  without_own : SidesRecord → IsLived tokens_of (record standing { mine = [] }) → ⊥
  without_own law lived = let r = law tokens_of (record standing { mine = [] }) lived in nothing_ends r.older (own_newest (record standing { mine = [] })) r.mine
