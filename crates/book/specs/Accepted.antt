-- Histories of accepted calls.
use Rattle.std.specs.Prelude.{◌≡◌, ◌↔◌, ◌<◌, ℕ, suc, Bool, true, false, ◌&&◌, if◌then◌else◌, List, [], ◌∷◌, reverse, take, length, Option, Some, None, option_map}
use Rattle.std.specs.List.{AllByRecursion}
use Rattle.claim.specs.Claims.{ClaimParts, IsWhole}
use Rattle.channel.specs.States.{Signing}
use Rattle.book.specs.declared.calls.Call.{Call}
use Rattle.book.specs.declared.calls.Call.TheVariants.{Keep, Release}
use Rattle.book.specs.declared.calls.Entry.{Entry}
use Rattle.book.specs.Books.{replayed}
use Rattle.book.specs.Replies.{is_accepted, answer_of, history_after}

-- the call of an entry is accepted after these entries, which have the newest first
abbrev pub is_taken : Signing → List Entry → Entry → Bool
is_taken tokens_of es e = is_accepted (answer_of tokens_of (replayed es) e.call)

-- each of these entries, the newest first, is accepted after those before it
abbrev pub are_accepted : Signing → List Entry → Bool
are_accepted tokens_of [] = true
are_accepted tokens_of (e ∷ es) = is_taken tokens_of es e && are_accepted tokens_of es

-- the same for a history, which has the oldest entry first
abbrev pub all_accepted : Signing → List Entry → Bool
all_accepted tokens_of history = are_accepted tokens_of (reverse history)

-- the claims of a call
abbrev pub claims_by : Call → List ClaimParts
claims_by (Keep c n claims) = claims
claims_by (Release c batch) = batch.claims
claims_by call = []

-- the claims of each call are what every claim is
abbrev pub AreWhole : List Entry → Type 0
AreWhole history = AllByRecursion (λ e. AllByRecursion IsWhole (claims_by e.call)) history

-- the index of the first of further entries, the oldest first, that is refused after those before it and these, the newest first
abbrev pub first_refused_after : Signing → List Entry → List Entry → Option ℕ
first_refused_after tokens_of before [] = None
first_refused_after tokens_of before (e ∷ es) = if is_taken tokens_of before e then option_map suc (first_refused_after tokens_of (e ∷ before) es) else Some 0

-- the index of the first entry of a history that is refused after those before it
abbrev pub first_refused : Signing → List Entry → Option ℕ
first_refused tokens_of history = first_refused_after tokens_of [] history

-- the histories that calls lead to
pub data IsHistory (tokens_of : Signing) : List Entry → Type 0 where
  begins : IsHistory tokens_of []
  adds_call : {history : List Entry} (seat : ℕ) (call : Call) → IsHistory tokens_of history → IsHistory tokens_of (history_after tokens_of history seat call)

-- these are exactly the histories whose entries are all accepted; the index of the first refusal is that of the first entry that is not
pub record AcceptedMeans : Type 0 where
  pub accepted_exactly : (tokens_of : Signing) (history : List Entry) → IsHistory tokens_of history ↔ (all_accepted tokens_of history ≡ true)
  pub none_refused : (tokens_of : Signing) (history : List Entry) → (first_refused tokens_of history ≡ None) ↔ (all_accepted tokens_of history ≡ true)
  pub refused :
      (tokens_of : Signing) (history : List Entry) (i : ℕ) → first_refused tokens_of history ≡ Some i → (all_accepted tokens_of (take i history) ≡ true)
      × (i < length history) × (all_accepted tokens_of (take (suc i) history) ≡ false)
