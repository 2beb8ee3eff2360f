-- The least that a side has of a channel, whichever commitment closes it: a number that can be read before a close.
use Rattle.std.specs.Prelude.{◌≡◌, ℕ, ◌+◌, ◌*◌, ◌<◌, ◌≤◌, min, Bool, true, false, List, [], ◌∷◌, ◌++◌, map, take, drop, Some, slice_get}
use Rattle.terms.specs.declared.amounts.TheConstants.{MSAT_PER_SAT}
use Rattle.terms.specs.declared.htlcs.Htlc.{Htlc}
use Rattle.terms.specs.Sides.{other}
use Rattle.penalty.specs.Claimable.{Claimable}
use Rattle.penalty.specs.Worth.{staged, value_of, fees_with}
use Rattle.channel.specs.declared.commitments.CommitmentState.{CommitmentState}
use Rattle.channel.specs.States.{Signing, State}
use Rattle.channel.specs.Peers.{IsLived}
use Rattle.channel.specs.Tokens.{contents_of}
use Rattle.worth_laws.specs.Shares.{Deductions, counted_msat, counted_sat, values_sat, deductions, all_deductions, IsLess}
use Rattle.worth_laws.specs.Bounds.{htlc_count, counted_count, greatest, greatest_of_both, AreAtMost, IsWithin}
use Rattle.worth_laws.specs.Counted.{counted, fees_counted}

-- Which commitment may close a channel: one that the peer revoked; the peer's newest; the one after it, which the side signed and the peer has not yet answered by a revocation; or the side's own newest
pub data MayClose (s : State) (k : CommitmentState) : Type 0 where
  revoked : (n : ℕ) → n < s.peer_number → slice_get s.signed n ≡ Some k → MayClose s k
  newest : slice_get s.signed s.peer_number ≡ Some k → MayClose s k
  next : s.awaiting ≡ true → slice_get s.signed (s.peer_number + 1) ≡ Some k → MayClose s k
  own : slice_get s.mine s.number ≡ Some k → MayClose s k

-- ---- what it gives the side

-- the satoshis of the outputs on which the side counts, of its own commitment and of one of its peer's; and those of all outputs
abbrev pub own_sat : (Htlc → Bool) → State → CommitmentState → ℕ
own_sat known s k = counted_sat true known (contents_of s.held.terms k).outputs

abbrev pub peers_sat : (Htlc → Bool) → State → CommitmentState → ℕ
peers_sat known s k = counted_sat false known (contents_of s.held.terms k).outputs

abbrev pub revoked_sat : State → CommitmentState → ℕ
revoked_sat s k = values_sat (contents_of s.held.terms k).outputs

-- by why it may close the channel: all outputs, if it is revoked
abbrev pub gives_sat : (Htlc → Bool) → (s : State) (k : CommitmentState) → MayClose s k → ℕ
gives_sat known s k (revoked n l at) = revoked_sat s k
gives_sat known s k (newest at) = peers_sat known s k
gives_sat known s k (next e at) = peers_sat known s k
gives_sat known s k (own at) = own_sat known s k

-- what that is worth: the capacity, if it is revoked; else what the side counts on
abbrev pub whole_msat : (Htlc → Bool) → (s : State) (k : CommitmentState) → MayClose s k → ℕ
whole_msat known s k (revoked n l at) = MSAT_PER_SAT * s.held.terms.capacity_sat
whole_msat known s k (newest at) = counted_msat known s.held.side k.view
whole_msat known s k (next e at) = counted_msat known s.held.side k.view
whole_msat known s k (own at) = counted_msat known s.held.side k.view

-- less the deductions of both sides, if it is revoked; else less the side's
abbrev pub taken_off : (Htlc → Bool) → (s : State) (k : CommitmentState) → MayClose s k → Deductions
taken_off known s k (revoked n l at) = all_deductions s.held.terms k.view (other s.held.side)
taken_off known s k (newest at) = deductions s.held.terms k.view false s.held.side known
taken_off known s k (next e at) = deductions s.held.terms k.view false s.held.side known
taken_off known s k (own at) = deductions s.held.terms k.view true s.held.side known

-- at most that, at a feerate and a dust limit that are the greatest
abbrev pub most_off : (Htlc → Bool) → (s : State) (k : CommitmentState) → MayClose s k → (feerate_per_kw limit_sat : ℕ) → Deductions
most_off known s k (revoked n l at) feerate_per_kw limit_sat = greatest_of_both s.held.terms k.view (other s.held.side) feerate_per_kw limit_sat
most_off known s k (newest at) feerate_per_kw limit_sat = greatest s.held.terms.opener s.held.side feerate_per_kw limit_sat (htlc_count k.view) (counted_count known s.held.side k.view)
most_off known s k (next e at) feerate_per_kw limit_sat = greatest s.held.terms.opener s.held.side feerate_per_kw limit_sat (htlc_count k.view) (counted_count known s.held.side k.view)
most_off known s k (own at) feerate_per_kw limit_sat = greatest s.held.terms.opener s.held.side feerate_per_kw limit_sat (htlc_count k.view) (counted_count known s.held.side k.view)

-- ---- what the side can claim of it

-- Below, `stands` says of an output's index whether the HTLC transaction that spends the output is on the chain.

-- a penalty for each output, if it is revoked; else one claim for each output on which the side counts
abbrev pub counted_by : (Htlc → Bool) → (ℕ → Bool) → (s : State) (k : CommitmentState) → MayClose s k → List Claimable
counted_by known stands s k (revoked n l at) = staged stands (contents_of s.held.terms k)
counted_by known stands s k (newest at) = counted false known stands (contents_of s.held.terms k)
counted_by known stands s k (next e at) = counted false known stands (contents_of s.held.terms k)
counted_by known stands s k (own at) = counted true known stands (contents_of s.held.terms k)

-- the fees of the HTLC transactions that stand, where it is the claim on such a transaction that counts
abbrev pub fees_by : (Htlc → Bool) → (ℕ → Bool) → (s : State) (k : CommitmentState) → MayClose s k → ℕ
fees_by known stands s k (revoked n l at) = fees_with stands (contents_of s.held.terms k)
fees_by known stands s k (newest at) = fees_counted false known stands (contents_of s.held.terms k)
fees_by known stands s k (next e at) = fees_counted false known stands (contents_of s.held.terms k)
fees_by known stands s k (own at) = fees_counted true known stands (contents_of s.held.terms k)

-- ---- the least of them

abbrev pub least : List ℕ → ℕ
least [] = 0
least (n ∷ []) = n
least (n ∷ m ∷ ns) = min n (least (m ∷ ns))

-- the satoshis that can still be claimed once each HTLC transaction stands: of the outputs of its own commitment on which the side counts, and of all outputs of one that the peer revoked
abbrev pub own_left_sat : (Htlc → Bool) → State → CommitmentState → ℕ
own_left_sat known s k = value_of (counted true known (λ _. true) (contents_of s.held.terms k))

abbrev pub revoked_left_sat : State → CommitmentState → ℕ
revoked_left_sat s k = value_of (staged (λ _. true) (contents_of s.held.terms k))

-- the least of that of one's own newest commitment, of the outputs of the peer's newest and the one after it, and of that of those before
abbrev pub at_least_sat : (Htlc → Bool) → State → ℕ
at_least_sat known s = least (map (own_left_sat known s) (drop s.number s.mine) ++ map (peers_sat known s) (drop s.peer_number s.signed) ++ map (revoked_left_sat s) (take s.peer_number s.signed))

-- Whatever messages came: whichever commitment closes the channel, what it gives is what it is worth, less deductions that are said exactly, and have a bound where the feerate and the dust limit have one. The claims on it
-- are worth that, with the fees of HTLC transactions that stand. And whichever of these stand, the claims alone are worth the least at least
pub record WhicheverCloses : Type 0 where
  pub worth : (tokens_of : Signing) (s : State) → IsLived tokens_of s → (known : Htlc → Bool) (k : CommitmentState) (m : MayClose s k) → IsLess (whole_msat known s k m) (taken_off known s k m) (gives_sat known s k m)
  pub bounded : (tokens_of : Signing) (s : State) → IsLived tokens_of s → (known : Htlc → Bool) (k : CommitmentState) (m : MayClose s k) (feerate_per_kw limit_sat : ℕ) → IsWithin s.held.terms k.view k.owner feerate_per_kw limit_sat
      → AreAtMost (taken_off known s k m) (most_off known s k m feerate_per_kw limit_sat)
  pub claims : (known : Htlc → Bool) (stands : ℕ → Bool) (s : State) (k : CommitmentState) (m : MayClose s k) → value_of (counted_by known stands s k m) + fees_by known stands s k m ≡ gives_sat known s k m
  pub least : (known : Htlc → Bool) (stands : ℕ → Bool) (s : State) (k : CommitmentState) (m : MayClose s k) → at_least_sat known s ≤ value_of (counted_by known stands s k m)
  pub given : (known : Htlc → Bool) (s : State) (k : CommitmentState) (m : MayClose s k) → at_least_sat known s ≤ gives_sat known s k m
