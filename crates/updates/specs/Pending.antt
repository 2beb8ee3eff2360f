-- The HTLCs of one direction whose removal has not passed all five stages, and what they say of all that were offered.
use Rattle.std.specs.Prelude.{◌≡◌, ℕ, suc, ◌+◌, ◌*◌, ◌^◌, ◌≤◌, nat_lt, Bool, true, false, ◌==◌, if◌then◌else◌, List, [], ◌∷◌, ◌++◌, length, filter, map, Option, Some, None}
use Rattle.terms.specs.declared.htlcs.Htlc.{Htlc}
use Rattle.terms.specs.declared.sides.Side.{Side}
use Rattle.terms.specs.declared.agreement.Terms.{Terms}
use Rattle.updates.specs.declared.changes.Update.{Update}
use Rattle.updates.specs.declared.changes.Update.TheVariants.{Add, Fulfil, Fail, Fee}
use Rattle.updates.specs.declared.fates.Fate.{Fate}
use Rattle.updates.specs.declared.fates.Fate.TheVariants.{Live, Fulfilled, Failed}
use Rattle.updates.specs.declared.fates.End.TheVariants.{Never}
use Rattle.updates.specs.declared.pending.PendingHtlc.{PendingHtlc}
use Rattle.updates.specs.declared.pending.Pending.{Pending}
use Rattle.updates.specs.Updates.{fate, fate_by, offers, gained_msat, if_fulfilled, kept_if_live}
use Rattle.updates.specs.Ends.{end_of, within, end_within, end_after}
use Rattle.updates.specs.Stages.{Stages}
use Rattle.updates.specs.Views.{start_msat_of}
use Rattle.updates.specs.Refusals.{Test, removable, add_tests, fulfil_tests, fail_tests, fee_tests}

abbrev pub pending_if_live : Fate → PendingHtlc → List PendingHtlc → List PendingHtlc
pending_if_live Live e es = e ∷ es
pending_if_live Fulfilled e es = es
pending_if_live Failed e es = es

-- the HTLCs that a list of updates offers and that the other side's `settled` updates do not remove. Each has its end among all known updates of
-- the other side. The first update of the list has position `at`
abbrev pub pending_htlcs : ℕ → List Update → List Update → List Update → List PendingHtlc
pending_htlcs at [] known settled = []
pending_htlcs at (Add h ∷ us) known settled =
    pending_if_live (fate h.id settled) (record { htlc = h; added = at; end = end_of h.id known }) (pending_htlcs (suc at) us known settled)
pending_htlcs at (Fulfil id preimage ∷ us) known settled = pending_htlcs (suc at) us known settled
pending_htlcs at (Fail id ∷ us) known settled = pending_htlcs (suc at) us known settled
pending_htlcs at (Fee feerate_per_kw ∷ us) known settled = pending_htlcs (suc at) us known settled

-- what the first `removed` updates of the other side make of an HTLC; Failed where it is not among the first `added` of its own side
abbrev pub fate_at : ℕ → ℕ → PendingHtlc → Fate
fate_at added removed e = if nat_lt e.added added then within removed e.end else Failed

abbrev pub total_amount_msat : List PendingHtlc → ℕ
total_amount_msat [] = 0
total_amount_msat (e ∷ es) = e.htlc.amount_msat + total_amount_msat es

abbrev pub fulfilled_at : ℕ → ℕ → List PendingHtlc → ℕ
fulfilled_at added removed [] = 0
fulfilled_at added removed (e ∷ es) = if_fulfilled (fate_at added removed e) e.htlc.amount_msat + fulfilled_at added removed es

abbrev pub live_at : ℕ → ℕ → List PendingHtlc → List Htlc
live_at added removed [] = []
live_at added removed (e ∷ es) = kept_if_live (fate_at added removed e) e.htlc (live_at added removed es)

abbrev pub found_in : ℕ → ℕ → ℕ → List PendingHtlc → Option Htlc
found_in id added removed [] = None
found_in id added removed (e ∷ es) = if e.htlc.id == id then removable (fate_at added removed e) (Some e.htlc) else found_in id added removed es

abbrev pub is_live : Fate → Bool
is_live Live = true
is_live Fulfilled = false
is_live Failed = false

-- whether the first `removed` updates of the other side do not remove it
abbrev pub is_left : ℕ → PendingHtlc → Bool
is_left removed e = is_live (within removed e.end)

-- the other side makes an update, at this position among its own
abbrev pub noted : ℕ → Update → PendingHtlc → PendingHtlc
noted position u e = record { htlc = e.htlc; added = e.added; end = end_after position e.end (fate_by e.htlc.id u) }

abbrev pub noted_all : ℕ → Update → List PendingHtlc → List PendingHtlc
noted_all position u es = map (noted position u) es

-- whether it is offered among the first `added` updates of its side
abbrev pub is_offered : ℕ → PendingHtlc → Bool
is_offered added e = nat_lt e.added added

-- as if the other side had made its first `removed` updates alone
abbrev pub unnoted : ℕ → PendingHtlc → PendingHtlc
unnoted removed e = record { htlc = e.htlc; added = e.added; end = end_within removed e.end }

-- what is left of the pending HTLCs of the first `added` updates of their side, where the other side made `removed`
abbrev pub left_at : ℕ → ℕ → List PendingHtlc → List PendingHtlc
left_at added removed es = map (unnoted removed) (filter (is_offered added) es)

-- what a new update adds to the pending HTLCs of its side
abbrev pub new_pending : ℕ → Update → List PendingHtlc
new_pending position (Add h) = record { htlc = h; added = position; end = Never } ∷ []
new_pending position (Fulfil id preimage) = []
new_pending position (Fail id) = []
new_pending position (Fee feerate_per_kw) = []

-- before and after the side that offers makes an update, at this position among its own
pub record IsGrown (p q : Pending) (position : ℕ) (u : Update) : Type 0 where
  pub offered : q.offered ≡ p.offered + length (offers (u ∷ []))
  pub fulfilled : q.fulfilled ≡ p.fulfilled
  pub htlcs : q.htlcs.items ≡ p.htlcs.items ++ new_pending position u

-- before and after the side that removes makes an update
pub record IsNoted (p q : Pending) (position : ℕ) (u : Update) : Type 0 where
  pub offered : q.offered ≡ p.offered
  pub fulfilled : q.fulfilled ≡ p.fulfilled
  pub htlcs : q.htlcs.items ≡ noted_all position u p.htlcs.items

-- the same HTLCs, wherever they lie in memory
pub record IsAlike (p q : Pending) : Type 0 where
  pub offered : q.offered ≡ p.offered
  pub fulfilled : q.fulfilled ≡ p.fulfilled
  pub htlcs : q.htlcs.items ≡ p.htlcs.items

-- sums of the amounts fit in 128 bits, however many HTLCs there were
abbrev pub IsBounded : Pending → Type 0
IsBounded p = p.fulfilled + 2 ^ 64 * length p.htlcs.items ≤ 2 ^ 64 * p.offered

-- what is kept of the HTLCs that `sender` offers and `others` removes
pub record IsKept (p : Pending) (sender others : Stages) : Type 0 where
  pub offered : p.offered ≡ length (offers sender.known)
  pub fulfilled : p.fulfilled ≡ gained_msat others.settled sender.known
  pub htlcs : p.htlcs.items ≡ pending_htlcs 0 sender.known others.known others.settled
  pub bound : IsBounded p

-- the tests of an update, by what is kept of the sender's HTLCs and of the other side's. `settled` is the number of the other side's updates that
-- passed all stages, and `known` the number of the sender's that are known
abbrev pub kept_tests : Terms → Side → Pending → Pending → ℕ → ℕ → Update → List Test
kept_tests terms by sender others settled known (Add h) =
    add_tests terms by sender.offered (length sender.htlcs.items) (start_msat_of by terms + others.fulfilled)
    (sender.fulfilled + total_amount_msat sender.htlcs.items) h
kept_tests terms by sender others settled known (Fulfil id preimage) = fulfil_tests (found_in id settled known others.htlcs.items) preimage
kept_tests terms by sender others settled known (Fail id) = fail_tests (found_in id settled known others.htlcs.items)
kept_tests terms by sender others settled known (Fee feerate_per_kw) = fee_tests terms by
