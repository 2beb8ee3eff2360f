-- That a channel of a book keeps the rules of `safety`, and what is asked of the book's owner in that channel.
use Rattle.std.specs.Prelude.{◌≡◌, ℕ, ◌<◌, true, List, [], ◌∷◌, ◌++◌, Some, slice_get}
use Rattle.std.specs.List.{AllByRecursion, Contains}
use Rattle.tx.specs.Parts.{IsOutput}
use Rattle.chain.specs.Blocks.{Contents as Block}
use Rattle.claim.specs.Claims.{ClaimParts}
use Rattle.penalty.specs.Claimable.{Claimable}
use Rattle.penalty.specs.Sets.{claimed_by}
use Rattle.updates.specs.declared.changes.OwnUpdate.TheVariants.{Offer}
use Rattle.channel.specs.States.{Signing}
use Rattle.channel.specs.Tokens.{peer_tokens}
use Rattle.safety.specs.Recorded.{IsOutPoint}
use Rattle.safety.specs.Holdings.{Holding, terms_in, IsOnRecorded, EachKeepsRules}
use Rattle.safety.specs.Premises.{are_own}
use Rattle.safety.specs.Ledgers.{IsLedger}
use Rattle.safety.specs.Closers.{IsFunded}
use Rattle.safety.specs.Everybody.{ChannelStands}
use Rattle.book.specs.declared.calls.Step.TheVariants.{Own}
use Rattle.book.specs.declared.calls.Call.{Call}
use Rattle.book.specs.declared.calls.Call.TheVariants.{Step as Stepping, Release as Releasing}
use Rattle.book.specs.declared.calls.Entry.{Entry}
use Rattle.book.specs.Books.{ChannelBook, replay}
use Rattle.book.specs.Penalties.{claimable_at}
use Rattle.book.specs.Accepted.{AreWhole, IsHistory}
use Rattle.book.specs.Releasing.{IsKeptIn}
use Rattle.book_laws.specs.Holdings.{releases_in, holding_of}

-- ---- what is asked

-- a call takes care of a channel: an HTLC that it offers there expires above 0, and the outputs that it pays from there keep the limits of an output, as their type ensures
abbrev pub TakesCare : ℕ → Call → Type 0
TakesCare c (Stepping d (Own (Offer amount_msat hash expiry_height))) = d ≡ c → 0 < expiry_height
TakesCare c (Releasing d batch) = d ≡ c → AllByRecursion IsOutput batch.outputs
TakesCare c call = Unit {0}

-- A history of calls, whatever the peers sent, of a book that takes no signature but the peer's, in which the node took care of one channel, whatever it did in others. Each claim that it released there is on what a recorded commitment of the channel gives it. The funding
-- output has an id of 32 bytes and an index of 32 bits, as their types ensure
pub record IsCareful (history : List Entry) (c : ℕ) (ch : ChannelBook) : Type 0 where
  pub called : IsHistory peer_tokens history
  pub there : slice_get (replay history) c ≡ Some ch
  pub cares : AllByRecursion (λ e. TakesCare c e.call) history
  pub due : AllByRecursion (λ r. AllByRecursion (IsOnRecorded (holding_of history c ch)) r.claims) (releases_in c history)
  pub funding : IsOutPoint ch.state.held.terms.funding

-- ---- what holds

-- the channel keeps the rules
abbrev pub BooksKeepRules : Type 0
BooksKeepRules = (history : List Entry) (c : ℕ) (ch : ChannelBook) → IsCareful history c ch → EachKeepsRules (holding_of history c ch ∷ [])

-- what a revoked commitment of a channel's peer lets the node claim is on that commitment as the channel recorded it
abbrev pub ClaimablesAreRecorded : Type 0
ClaimablesAreRecorded =
    (tokens_of : Signing) (history : List Entry) (c n : ℕ) (ch : ChannelBook) (outputs : List Claimable) (x : ClaimParts) → IsHistory tokens_of history → slice_get (replay history) c ≡ Some ch
    → claimable_at ch.state n ≡ Some outputs → Contains outputs (claimed_by x) → IsOnRecorded (holding_of history c ch) x

-- so is each claim of a penalty set that the channel keeps
abbrev pub KeptAreRecorded : Type 0
KeptAreRecorded =
    (tokens_of : Signing) (history : List Entry) (c : ℕ) (ch : ChannelBook) (x : ClaimParts) → IsHistory tokens_of history → AreWhole history → slice_get (replay history) c ≡ Some ch
    → IsKeptIn c history x → IsOnRecorded (holding_of history c ch) x

-- so it stands on a chain as `safety` says of one node against everybody: the chain is a ledger of this channel's outputs, and on the inputs that name them nobody forged a token of the node's
abbrev pub BooksStand : Type 0
BooksStand =
    (history : List Entry) (c : ℕ) (ch : ChannelBook) (blocks : List Block) → IsCareful history c ch
    → (h : Holding) → holding_of history c ch ≡ h → IsLedger (h ∷ []) blocks → are_own (h ∷ []) blocks ≡ true → IsFunded blocks (terms_in h)
    → ChannelStands (h ∷ []) blocks h

-- a careful history with one more accepted call that takes care is careful. What that call releases in the channel is on what a recorded commitment gave the node before it
abbrev pub CareGoesOn : Type 0
CareGoesOn =
    (history : List Entry) (c : ℕ) (ch new : ChannelBook) (e : Entry) → IsCareful history c ch → IsHistory peer_tokens (history ++ e ∷ []) → slice_get (replay (history ++ e ∷ [])) c ≡ Some new
    → TakesCare c e.call → AllByRecursion (λ r. AllByRecursion (IsOnRecorded (holding_of history c ch)) r.claims) (releases_in c (e ∷ []))
    → IsCareful (history ++ e ∷ []) c new
