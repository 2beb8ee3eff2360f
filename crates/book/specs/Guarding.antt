-- That a book signs nothing after a revocation for which it keeps no penalties (BOLT 5, "Revoked Transaction Close Handling").
use Rattle.std.specs.Prelude.{◌≡◌, ℕ, suc, ◌==◌, Bool, true, false, ◌&&◌, if◌then◌else◌, List, [], ◌∷◌, ◌++◌, reverse, Contains, Option, Some, None, slice_get, option_and_then}
use Rattle.std.specs.List.{cons_option}
use Rattle.claim.specs.Claims.{ClaimParts}
use Rattle.penalty.specs.Claimable.{Claimable}
use Rattle.penalty.specs.Sets.{AreClaimsOn}
use Rattle.channel.specs.States.{Signing}
use Rattle.book.specs.declared.calls.Call.{Call}
use Rattle.book.specs.declared.calls.Call.TheVariants.{Sign, Revoke, Keep}
use Rattle.book.specs.declared.calls.Entry.{Entry}
use Rattle.book.specs.Penalties.{claimable_at, is_penalty_set}
use Rattle.book.specs.Books.{ChannelBook, Channels, is_kept, replayed, replay}
use Rattle.book.specs.Accepted.{all_accepted, AreWhole}

-- In this file lists of entries have the newest first.

-- whether a call is a revocation that came in a channel, and whether it signs in that channel
abbrev pub is_revocation : ℕ → Call → Bool
is_revocation c (Revoke d revocation) = d == c
is_revocation c call = false

-- the number of revocations that came in a channel, which is also the number of the commitment that the next one revokes
abbrev pub revocations : ℕ → List Entry → ℕ
revocations c [] = 0
revocations c (e ∷ es) = if is_revocation c e.call then suc (revocations c es) else revocations c es

-- what the peer's revoked commitment of a number lets this side claim in a channel
abbrev pub claimable_by : Option ChannelBook → ℕ → Option (List Claimable)
claimable_by o n = option_and_then (λ ch. claimable_at ch.state n) o

abbrev pub is_set_in : Option ChannelBook → ℕ → List ClaimParts → Bool
is_set_in None n claims = false
is_set_in (Some ch) n claims = is_penalty_set ch.state n claims

-- the number whose penalties a call keeps in a channel, given the channels before the call: its claims are accepted ones, on all that the peer's commitment of this number lets this side claim
abbrev pub number_kept : ℕ → Channels → Call → Option ℕ
number_kept c chs (Keep d n claims) =
    if d == c && is_set_in (slice_get chs c) n claims then Some n else None
number_kept c chs call = None

-- whether each revocation that came in a channel has its penalties kept after it; `later` are the numbers that are kept after these entries
abbrev pub are_answered : ℕ → List ℕ → List Entry → Bool
are_answered c later [] = true
are_answered c later (e ∷ es) =
    (if is_revocation c e.call then is_kept later (revocations c es) else true)
    && are_answered c (cons_option (number_kept c (replayed es) e.call) later) es

-- a signature is allowed if, for each earlier revocation in its channel, the penalties were kept between the two
abbrev pub is_allowed : Call → List Entry → Bool
is_allowed (Sign c) es = are_answered c [] es
is_allowed call es = true

abbrev pub all_allowed : List Entry → Bool
all_allowed [] = true
all_allowed (e ∷ es) = is_allowed e.call es && all_allowed es

-- a history, which has the oldest entry first, is guarded: each signature in it is allowed
abbrev pub is_guarded : List Entry → Bool
is_guarded history = all_allowed (reverse history)

-- ---- the signing gate

-- a history of accepted calls is guarded, for all messages of the peers
abbrev pub AcceptedIsGuarded : Type 0
AcceptedIsGuarded = (tokens_of : Signing) (history : List Entry) → all_accepted tokens_of history ≡ true → is_guarded history ≡ true

-- ---- what is kept

-- the claims are the accepted ones, in order, on exactly what the peer's revoked commitment of a number lets this side claim in a channel
pub record ArePenaltiesIn (c n : ℕ) (chs : Channels) (claims : List ClaimParts) : Type 0 where
  pub outputs : List Claimable
  pub lets : claimable_by (slice_get chs c) n ≡ Some outputs
  pub exact : AreClaimsOn outputs claims

-- so it is of each set that a history of accepted calls keeps, whatever comes after it
abbrev pub KeptAreExact : Type 0
KeptAreExact =
    (tokens_of : Signing) (history : List Entry) (seat c n : ℕ) (claims : List ClaimParts) → all_accepted tokens_of history ≡ true → AreWhole history
    → Contains history (record { seat = seat; call = Keep c n claims }) → ArePenaltiesIn c n (replay history) claims

-- ---- the gate, entry by entry

-- a call keeps the penalties of a number in a channel, given the channels before the call
pub record IsKeeping (c n : ℕ) (chs : Channels) (call : Call) : Type 0 where
  pub claims : List ClaimParts
  pub keeps : call ≡ Keep c n claims
  pub penalties : ArePenaltiesIn c n chs claims

-- one of the entries between a revocation and a signature, which have the newest first, keeps the penalties of the revoked commitment
pub record IsKeptBetween (c : ℕ) (between : List Entry) (revoking : Entry) (earlier : List Entry) : Type 0 where
  pub front : List Entry
  pub keeping : Entry
  pub back : List Entry
  pub split : between ≡ front ++ keeping ∷ back
  pub kept : IsKeeping c (revocations c earlier) (replayed (back ++ revoking ∷ earlier)) keeping.call

-- this is so wherever a signature stands after a revocation in its channel, in a history of accepted calls
abbrev pub GuardedMeans : Type 0
GuardedMeans =
    (tokens_of : Signing) (history later between earlier : List Entry) (c : ℕ) (signing revoking : Entry) → all_accepted tokens_of history ≡ true → AreWhole history
    → reverse history ≡ later ++ signing ∷ (between ++ revoking ∷ earlier) → signing.call ≡ Sign c → is_revocation c revoking.call ≡ true
    → IsKeptBetween c between revoking earlier
