-- What lists of updates make of HTLCs, balances and fees (BOLT 2), by numbers that were computed by hand.
use Rattle.std.proofs.Common.{◌≡◌, ℕ, true, false, map, replicate, List, [], ◌∷◌, Option, Some, None, refl, lit≤, lit<}
use Rattle.tx.specs.declared.input.OutPoint.{OutPoint}
use Rattle.terms.specs.declared.agreement.BaseKeys.{BaseKeys}
use Rattle.terms.specs.declared.agreement.Party.{Party}
use Rattle.terms.specs.declared.agreement.Terms.{Terms}
use Rattle.terms.specs.declared.htlcs.Htlc.{Htlc}
use Rattle.terms.specs.declared.sides.Side.{Side}
use Rattle.terms.specs.declared.sides.Side.TheVariants.{A, B}
use Rattle.terms.specs.declared.views.Share.{Share}
use Rattle.updates.specs.declared.changes.Update.{Update}
use Rattle.updates.specs.declared.changes.Update.TheVariants.{Add, Fulfil, Fail, Fee}
use Rattle.updates.specs.declared.fates.Fate.TheVariants.{Live, Fulfilled, Failed}
use Rattle.updates.specs.declared.errors.ChannelError.{ChannelError}
use Rattle.updates.specs.declared.errors.ChannelError.TheVariants.{NoMemory, AmountZero, BelowMinimum, ExpiryTooLarge, WrongId, TooManyHtlcs, OverBalance, UnknownHtlc, WrongPreimage, NoUpdates, BadSignature, WrongSecret, NotYourTurn, NotOpener, PeerBehind, NeverSigned, AlreadyFulfilled}
use Rattle.updates.specs.Updates.{fate, offers, spent_msat, gained_msat, pending_msat, live_count, last_feerate_per_kw}
use Rattle.updates.specs.Views.{share_of, feerate_per_kw_of, expire_at_heights}
use Rattle.updates.specs.Stages.{Stages, none_yet, with_update, to_receiver, by_receiver, to_sender, by_sender, uncommitted, unacknowledged, committed}
use Rattle.updates.specs.Refusals.{refusal_number, first_refusal, update_tests, covers_nothing, to_remove}

abbrev htlc : ℕ → ℕ → Htlc
htlc id amount_msat = record { id = id; amount_msat = amount_msat; hash = []; expiry_height = 500 }

-- the first removal counts, and no other update removes
fates : (fate 0 [] ≡ Live)
    × (fate 0 (Fulfil 0 [] ∷ []) ≡ Fulfilled)
    × (fate 0 (Fail 0 ∷ []) ≡ Failed)
    × (fate 0 (Fail 0 ∷ Fulfil 0 [] ∷ []) ≡ Failed)
    × (fate 0 (Fulfil 0 [] ∷ Fail 0 ∷ []) ≡ Fulfilled)
    × (fate 1 (Fail 0 ∷ Fulfil 2 [] ∷ []) ≡ Live)
    × (fate 0 (Add (htlc 0 1) ∷ Fee 0 ∷ []) ≡ Live)
fates = (refl, refl, refl, refl, refl, refl, refl)

-- A offers 5, 7 and 11 satoshis; B takes the first, gives the second back, and offers 13
abbrev of_a : List Update
of_a = Add (htlc 0 5000) ∷ Fee 253 ∷ Add (htlc 1 7000) ∷ Add (htlc 2 11000) ∷ []

abbrev of_b : List Update
of_b = Fulfil 0 [] ∷ Add (htlc 0 13000) ∷ Fail 1 ∷ []

sums : (spent_msat of_a of_b ≡ 16000) × (gained_msat of_b of_a ≡ 5000) × (pending_msat of_a of_b ≡ 11000) × (live_count of_a of_b ≡ 1)
    × (spent_msat of_b of_a ≡ 13000) × (gained_msat of_a of_b ≡ 0) × (pending_msat of_b of_a ≡ 13000) × (live_count of_b of_a ≡ 1)
sums = (refl, refl, refl, refl, refl, refl, refl, refl)

abbrev holds : ℕ → List Htlc → Share
holds balance_msat offered = record { balance_msat = balance_msat; offered = offered }

shares : (share_of 80000 of_a of_b ≡ holds 64000 (htlc 2 11000 ∷ []))
    × (share_of 20000 of_b of_a ≡ holds 12000 (htlc 0 13000 ∷ []))
    × (share_of 80000 of_a [] ≡ holds 57000 (offers of_a))
    × (share_of 80000 [] of_b ≡ holds 80000 [])
shares = (refl, refl, refl, refl)

abbrev expiring : ℕ → Htlc
expiring height = record { id = 0; amount_msat = 1; hash = []; expiry_height = height }

-- heights are below 500,000,000
heights : (expire_at_heights [] ≡ true)
    × (expire_at_heights (expiring 499999999 ∷ []) ≡ true)
    × (expire_at_heights (expiring 500000000 ∷ []) ≡ false)
    × (expire_at_heights (expiring 500 ∷ expiring 500000000 ∷ []) ≡ false)
heights = (refl, refl, refl, refl)

-- the last change of the feerate in the opener's list
fees : (last_feerate_per_kw 1000 [] ≡ 1000)
    × (last_feerate_per_kw 1000 (Fee 5 ∷ Fail 0 ∷ Fee 7 ∷ Fail 1 ∷ []) ≡ 7)
    × (feerate_per_kw_of A 1000 of_a (Fee 7 ∷ []) ≡ 253)
    × (feerate_per_kw_of B 1000 of_a (Fee 7 ∷ []) ≡ 7)
fees = (refl, refl, refl, refl)

-- an update passes the stages in turn, and a later one after it
abbrev two : Stages
two = with_update (Fail 1) (by_sender (to_sender (by_receiver (to_receiver (with_update (Add (htlc 0 5)) none_yet)))))

stages : (two.known ≡ Add (htlc 0 5) ∷ Fail 1 ∷ []) × (two.with_receiver ≡ Add (htlc 0 5) ∷ []) × (two.settled ≡ Add (htlc 0 5) ∷ [])
    × ((to_sender (to_receiver two)).with_sender ≡ Add (htlc 0 5) ∷ [])
    × ((by_sender (to_sender (by_receiver (to_receiver two)))).settled ≡ two.known)
stages = (refl, refl, refl, refl, refl)

-- a cut loses what no signature of its sender covers. What one covers that no revocation acknowledged may have to be given again
cut : (uncommitted two ≡ Fail 1 ∷ [])
    × (uncommitted (to_receiver two) ≡ [])
    × (unacknowledged two ≡ [])
    × (unacknowledged (to_receiver two) ≡ Fail 1 ∷ [])
    × (unacknowledged (by_receiver (to_receiver two)) ≡ [])
    × ((committed two).known ≡ Add (htlc 0 5) ∷ [])
    × ((committed (to_receiver two)).known ≡ two.known)
    × ((committed (with_update (Fee 1) none_yet)).known ≡ [])
cut = (refl, refl, refl, refl, refl, refl, refl, refl)

-- a signature covers something where its sender made an update, or acknowledged one of the other side
covered : (covers_nothing none_yet none_yet ≡ true)
    × (covers_nothing (with_update (Fee 1) none_yet) none_yet ≡ false)
    × (covers_nothing none_yet (with_update (Fee 1) none_yet) ≡ true)
    × (covers_nothing none_yet (by_receiver (to_receiver (with_update (Fee 1) none_yet))) ≡ false)
    × (covers_nothing none_yet (to_sender (by_receiver (to_receiver (with_update (Fee 1) none_yet)))) ≡ true)
covered = (refl, refl, refl, refl, refl)

-- only an HTLC that passed all stages is removed, and once
removals : (to_remove 0 none_yet two ≡ Some (htlc 0 5))
    × (to_remove 1 none_yet two ≡ None)
    × (to_remove 0 (with_update (Fail 0) none_yet) two ≡ None)
    × (to_remove 0 none_yet (to_sender (by_receiver (to_receiver (with_update (Add (htlc 0 5)) none_yet)))) ≡ None)
removals = (refl, refl, refl, refl)

-- the first test that holds
firsts : (first_refusal [] ≡ None)
    × (first_refusal ((false, WrongId) ∷ (true, AmountZero) ∷ (true, OverBalance) ∷ []) ≡ Some AmountZero)
    × (first_refusal ((false, WrongId) ∷ (false, AmountZero) ∷ []) ≡ None)
firsts = (refl, refl, refl)

refusal_numbers : map refusal_number (NoMemory ∷ AmountZero ∷ BelowMinimum ∷ ExpiryTooLarge ∷ WrongId ∷ TooManyHtlcs ∷ OverBalance ∷ UnknownHtlc ∷ WrongPreimage ∷ NoUpdates ∷ BadSignature ∷ WrongSecret ∷ NotYourTurn ∷ NotOpener ∷ PeerBehind ∷ NeverSigned ∷ AlreadyFulfilled ∷ []) ≡
    0 ∷ 1 ∷ 2 ∷ 3 ∷ 4 ∷ 5 ∷ 6 ∷ 7 ∷ 8 ∷ 9 ∷ 10 ∷ 11 ∷ 12 ∷ 13 ∷ 14 ∷ 15 ∷ 16 ∷ []
refusal_numbers = refl

-- A opened a channel of 100,000 satoshis, of which it has 80,000
module _ (funding : OutPoint) (bases : BaseKeys) where
  abbrev party : ℕ → Party
  party start_msat = record { dust_sat = 546; delay_blocks = 144; minimum_msat = 1000; start_msat = start_msat; bases = bases }

  abbrev terms : Terms
  terms = record { funding = funding; capacity_sat = 100000; opener = A; feerate_per_kw = 1000; a = party 80000000; b = party 20000000; limited = lit≤ tt; whole = refl; short_a = lit< tt; short_b = lit< tt }

  abbrev offer : ℕ → ℕ → ℕ → Update
  offer id amount_msat expiry_height = Add (record { id = id; amount_msat = amount_msat; hash = []; expiry_height = expiry_height })

  abbrev refusal : Side → Stages → Update → Option ChannelError
  refusal by own u = first_refusal (update_tests terms by own none_yet u)

  -- each offer fails the tests that come after its refusal, where one amount can
  offers_tested : map (refusal A none_yet) (offer 1 0 500000000 ∷ offer 0 0 500000000 ∷ offer 0 999 500000000 ∷ offer 0 80000001 500000000 ∷ offer 0 80000001 499999999 ∷ offer 0 80000000 499999999 ∷ offer 0 1000 0 ∷ []) ≡
      Some WrongId ∷ Some AmountZero ∷ Some BelowMinimum ∷ Some ExpiryTooLarge ∷ Some OverBalance ∷ None ∷ None ∷ []
  offers_tested = refl

  -- this many HTLCs of 1,000 millisatoshis are live
  abbrev live : ℕ → Stages
  live n = record { known = replicate n (offer 0 1000 500); with_receiver = []; past_receiver = []; with_sender = []; settled = [] }

  number_limit : (refusal A (live 482) (offer 482 1000 500) ≡ None) × (refusal A (live 483) (offer 483 1000 500) ≡ Some TooManyHtlcs) × (refusal A (live 483) (offer 483 79517001 500) ≡ Some TooManyHtlcs)
      × (refusal A (live 483) (offer 483 1000 500000000) ≡ Some ExpiryTooLarge) × (refusal A (live 2) (offer 2 79998000 500) ≡ None) × (refusal A (live 2) (offer 2 79998001 500) ≡ Some OverBalance)
  number_limit = (refl, refl, refl, refl, refl, refl)

  fees_tested : (refusal A none_yet (Fee 2000) ≡ None) × (refusal B none_yet (Fee 2000) ≡ Some NotOpener)
  fees_tested = (refl, refl)

  removals_tested : (refusal A none_yet (Fail 0) ≡ Some UnknownHtlc) × ((x : List ℕ) → refusal A none_yet (Fulfil 0 x) ≡ Some UnknownHtlc)
  removals_tested = (refl, λ x. refl)
