-- What lists of updates say of the HTLCs in them (BOLT 2).
use Rattle.std.specs.Prelude.{ℕ, ◌+◌, ◌==◌, if◌then◌else◌, List, [], ◌∷◌, Option, Some, None, unwrap_or}
use Rattle.std.specs.Option.{option_or}
use Rattle.std.specs.List.{find}
use Rattle.updates.specs.declared.changes.Update.{Update}
use Rattle.updates.specs.declared.changes.Update.TheVariants.{Add, Fulfil, Fail, Fee}
use Rattle.terms.specs.declared.htlcs.Htlc.{Htlc}
use Rattle.updates.specs.declared.fates.Fate.{Fate}
use Rattle.updates.specs.declared.fates.Fate.TheVariants.{Live, Fulfilled, Failed}

-- the earlier of two fates, where there is one
abbrev pub first_of_fates : Fate → Fate → Fate
first_of_fates Live f = f
first_of_fates ended f = ended

-- what one update makes of the HTLC with this id that the other side offered
abbrev pub fate_by : ℕ → Update → Fate
fate_by id (Fulfil i preimage) = if i == id then Fulfilled else Live
fate_by id (Fail i) = if i == id then Failed else Live
fate_by id u = Live

-- what the other side's updates make of it
abbrev pub fate : ℕ → List Update → Fate
fate id [] = Live
fate id (u ∷ us) = first_of_fates (fate_by id u) (fate id us)

-- the HTLCs that a list of updates offers, in order
abbrev pub offers : List Update → List Htlc
offers [] = []
offers (Add o ∷ us) = o ∷ offers us
offers (u ∷ us) = offers us

-- the offer with this id
abbrev pub offer_of : ℕ → List Htlc → Option Htlc
offer_of id htlcs = find (λ h. h.id == id) htlcs

-- a sum over offers, by what the other side's updates made of each
abbrev pub total : (Fate → ℕ → ℕ) → List Htlc → List Update → ℕ
total f [] ends = 0
total f (o ∷ os) ends = f (fate o.id ends) o.amount_msat + total f os ends

abbrev pub if_live : Fate → ℕ → ℕ
if_live Live n = n
if_live ended n = 0

abbrev pub if_fulfilled : Fate → ℕ → ℕ
if_fulfilled Fulfilled n = n
if_fulfilled f n = 0

abbrev pub unless_failed : Fate → ℕ → ℕ
unless_failed Failed n = 0
unless_failed f n = n

abbrev pub one_if_live : Fate → ℕ → ℕ
one_if_live Live n = 1
one_if_live ended n = 0

-- the millisatoshis that left one's balance: of the offers in `mine` that `others` did not fail
abbrev pub spent_msat : List Update → List Update → ℕ
spent_msat mine others = total unless_failed (offers mine) others

-- the millisatoshis that one's fulfilments in `mine` brought, of the offers in `others`
abbrev pub gained_msat : List Update → List Update → ℕ
gained_msat mine others = total if_fulfilled (offers others) mine

-- the millisatoshis in the offers of `mine` that `others` did not remove
abbrev pub pending_msat : List Update → List Update → ℕ
pending_msat mine others = total if_live (offers mine) others

-- the number of these HTLCs
abbrev pub live_count : List Update → List Update → ℕ
live_count mine others = total one_if_live (offers mine) others

-- these HTLCs
abbrev pub kept_if_live : Fate → Htlc → List Htlc → List Htlc
kept_if_live Live o os = o ∷ os
kept_if_live ended o os = os

abbrev pub live_in : List Htlc → List Update → List Htlc
live_in [] ends = []
live_in (o ∷ os) ends = kept_if_live (fate o.id ends) o (live_in os ends)

abbrev pub live : List Update → List Update → List Htlc
live mine others = live_in (offers mine) others

-- the rate that an update sets, if it changes the feerate
abbrev pub feerate_per_kw_set_by : Update → Option ℕ
feerate_per_kw_set_by (Fee feerate_per_kw) = Some feerate_per_kw
feerate_per_kw_set_by u = None

abbrev pub later_feerate_per_kw : Option ℕ → Option ℕ → Option ℕ
later_feerate_per_kw earlier later = option_or later earlier

-- the rate of the last change of the feerate in a list
abbrev pub newest_feerate_per_kw : List Update → Option ℕ
newest_feerate_per_kw [] = None
newest_feerate_per_kw (u ∷ us) = later_feerate_per_kw (feerate_per_kw_set_by u) (newest_feerate_per_kw us)

-- the feerate after a list of updates
abbrev pub last_feerate_per_kw : ℕ → List Update → ℕ
last_feerate_per_kw feerate_per_kw us = unwrap_or (newest_feerate_per_kw us) feerate_per_kw
