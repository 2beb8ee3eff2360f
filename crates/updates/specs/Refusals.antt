-- Which updates a channel refuses, in which order, and by which number (BOLT 2).
use Rattle.std.specs.Prelude.{◌≡◌, ℕ, ◌+◌, Bool, true, false, not, ◌&&◌, nat_lt, nat_le, ◌==◌, List, [], ◌∷◌, length, Option, Some, None, is_none}
use Rattle.std.specs.Str.{bytes_eq}
use Rattle.std.specs.Option.{option_map_or}
use Rattle.sha2.specs.Sha256.{sha256}
use Rattle.terms.specs.declared.htlcs.Htlc.{Htlc}
use Rattle.terms.specs.declared.sides.Side.{Side}
use Rattle.terms.specs.declared.sides.Side.TheVariants.{A, B}
use Rattle.terms.specs.declared.agreement.Terms.{Terms}
use Rattle.terms.specs.Sides.{other}
use Rattle.terms.specs.Agreement.{party}
use Rattle.updates.specs.declared.changes.Update.{Update}
use Rattle.updates.specs.declared.changes.Update.TheVariants.{Add, Fulfil, Fail, Fee}
use Rattle.updates.specs.declared.fates.Fate.{Fate}
use Rattle.updates.specs.declared.fates.Fate.TheVariants.{Live}
use Rattle.updates.specs.declared.errors.ChannelError.{ChannelError}
use Rattle.updates.specs.declared.errors.ChannelError.TheVariants.{NoMemory, AmountZero, BelowMinimum, ExpiryTooLarge, WrongId, TooManyHtlcs, OverBalance, UnknownHtlc, WrongPreimage, NoUpdates, BadSignature, WrongSecret, NotYourTurn, NotOpener, PeerBehind, NeverSigned, AlreadyFulfilled}
use Rattle.updates.specs.declared.limits.TheConstants.{MAX_HTLCS, EXPIRY_HEIGHT_END}
use Rattle.updates.specs.Updates.{fate, offers, offer_of, spent_msat, gained_msat, live_count}
use Rattle.updates.specs.Views.{start_msat_of}
use Rattle.updates.specs.Stages.{Stages}

-- 0 is out of memory
abbrev pub refusal_number : ChannelError → ℕ
refusal_number NoMemory = 0
refusal_number AmountZero = 1
refusal_number BelowMinimum = 2
refusal_number ExpiryTooLarge = 3
refusal_number WrongId = 4
refusal_number TooManyHtlcs = 5
refusal_number OverBalance = 6
refusal_number UnknownHtlc = 7
refusal_number WrongPreimage = 8
refusal_number NoUpdates = 9
refusal_number BadSignature = 10
refusal_number WrongSecret = 11
refusal_number NotYourTurn = 12
refusal_number NotOpener = 13
refusal_number PeerBehind = 14
refusal_number NeverSigned = 15
refusal_number AlreadyFulfilled = 16

-- a test that refuses where it holds
abbrev pub Test : Type 0
Test = Bool × ChannelError

abbrev pub if_so : Bool → ChannelError → Option ChannelError → Option ChannelError
if_so true r rest = Some r
if_so false r rest = rest

-- the refusal of the first test that holds
abbrev pub first_refusal : List Test → Option ChannelError
first_refusal [] = None
first_refusal (t ∷ tests) = if_so t.0 t.1 (first_refusal tests)

-- the tests of an HTLC that `by` offers. `next` is the next id, and `live` the number of live HTLCs of this direction. `had` is what the side
-- had in millisatoshis, and `out` what of it has gone out
abbrev pub add_tests : Terms → Side → ℕ → ℕ → ℕ → ℕ → Htlc → List Test
add_tests terms by next live had out h =
    (not (h.id == next), WrongId) ∷ (h.amount_msat == 0, AmountZero)
    ∷ (nat_lt h.amount_msat (party (other by) terms).minimum_msat, BelowMinimum)
    ∷ (nat_le EXPIRY_HEIGHT_END h.expiry_height, ExpiryTooLarge) ∷ (nat_le MAX_HTLCS live, TooManyHtlcs)
    ∷ (nat_lt had (h.amount_msat + out), OverBalance) ∷ []

abbrev pub is_wrong : List ℕ → Option Htlc → Bool
is_wrong hash o = option_map_or (λ h. not (bytes_eq hash h.hash)) o false

-- the tests of a fulfilment, with the HTLC that may be removed under this id
abbrev pub fulfil_tests : Option Htlc → List ℕ → List Test
fulfil_tests h x = (is_none h, UnknownHtlc) ∷ (is_wrong (sha256 x) h, WrongPreimage) ∷ []

abbrev pub fail_tests : Option Htlc → List Test
fail_tests h = (is_none h, UnknownHtlc) ∷ []

abbrev pub is_side : Side → Side → Bool
is_side A A = true
is_side B B = true
is_side a b = false

abbrev pub fee_tests : Terms → Side → List Test
fee_tests terms by = (not (is_side by terms.opener), NotOpener) ∷ []

-- the HTLC with an id that passed all stages, if nobody removed it
abbrev pub removable : Fate → Option Htlc → Option Htlc
removable Live h = h
removable ended h = None

abbrev pub to_remove : ℕ → Stages → Stages → Option Htlc
to_remove id sender others = removable (fate id sender.known) (offer_of id (offers others.settled))

-- the tests of an update that `by` sends, by its own updates and the other side's
abbrev pub update_tests : Terms → Side → Stages → Stages → Update → List Test
update_tests terms by sender others (Add h) =
    add_tests terms by (length (offers sender.known)) (live_count sender.known others.settled)
    (start_msat_of by terms + gained_msat sender.settled others.known) (spent_msat sender.known others.settled) h
update_tests terms by sender others (Fulfil id x) = fulfil_tests (to_remove id sender others) x
update_tests terms by sender others (Fail id) = fail_tests (to_remove id sender others)
update_tests terms by sender others (Fee feerate_per_kw) = fee_tests terms by

-- whether a signature of `sender` covers no new update
abbrev pub covers_nothing : Stages → Stages → Bool
covers_nothing s o =
    length s.known == length s.with_receiver && length o.past_receiver == length o.with_sender

-- out of memory, or the first refusal
abbrev pub IsRefusal : Option ChannelError → ChannelError → Type 0
IsRefusal first NoMemory = Unit {0}
IsRefusal first r = first ≡ Some r
