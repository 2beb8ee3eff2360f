-- When a text is refused, and how: refusals of the whole text come before those of its entries, and these in the order of the entries.
use Rattle.std.specs.Prelude.{◌≡◌, ◌↔◌, ℕ, true, false, List, take, map, reverse, Some, None, Ok, Err, slice_get}
use Rattle.serde_json.specs.Data.{Data}
use Rattle.serde_json.specs.Read.{read}
use Rattle.channel.specs.States.{Signing}
use Rattle.texts.specs.declared.calls.PlainEntry.{PlainEntry}
use Rattle.texts.specs.declared.calls.PlainDump.{PlainDump}
use Rattle.texts.specs.Calls.{dump_of}
use Rattle.book.specs.declared.calls.Entry.{Entry}
use Rattle.book_dump.specs.declared.errors.EntryError.TheVariants as entries
use Rattle.book_dump.specs.declared.errors.LoadError.TheVariants.{NotJson, BadShape, BadClaim, BadHistory}
use Rattle.book.specs.Accepted.{is_taken, all_accepted}
use Rattle.book_dump.specs.Loading.{entry_of}
use Rattle.book_dump.specs.Loaded.{dump_in, loaded}

-- a claim of the entry is not accepted
abbrev pub HasBadClaim : List Entry → PlainEntry → Type 0
HasBadClaim before p = entry_of p ≡ Err entries.BadClaim

-- the claims of the entry are accepted, and its call is refused after these entries, which have the newest first
abbrev pub HasBadCall : Signing → List Entry → PlainEntry → Type 0
HasBadCall tokens_of before p = (e : Entry) × (entry_of p ≡ Ok e) × (is_taken tokens_of before e ≡ false)

-- the text has a dump: its entries before index i are each accepted after those before it, and the entry at i is refused
pub record StopsAt (tokens_of : Signing) (text : List ℕ) (i : ℕ) (Refused : List Entry → PlainEntry → Type 0) : Type 0 where
  pub dump : PlainDump
  pub earlier : List Entry
  pub entry : PlainEntry
  pub shaped : dump_in text ≡ Ok dump
  pub taken : map entry_of (take i dump.history) ≡ map Ok earlier
  pub accepted : all_accepted tokens_of earlier ≡ true
  pub there : slice_get dump.history i ≡ Some entry
  pub refused : Refused (reverse earlier) entry

-- a text is NotJson exactly where it is invalid JSON, and BadShape exactly where its value does not have a dump's shape, whatever its claims and calls; else the first entry that
-- is not taken is refused
pub record RefusalsComeInOrder : Type 0 where
  pub not_json : (tokens_of : Signing) (text : List ℕ) → (loaded tokens_of text ≡ Err NotJson) ↔ (read text ≡ None)
  pub bad_shape : (tokens_of : Signing) (text : List ℕ) → (loaded tokens_of text ≡ Err BadShape) ↔ ((d : Data) × (read text ≡ Some d) × (dump_of d ≡ None))
  pub bad_claim : (tokens_of : Signing) (text : List ℕ) (i : ℕ) → loaded tokens_of text ≡ Err (BadClaim i) → StopsAt tokens_of text i HasBadClaim
  pub bad_history : (tokens_of : Signing) (text : List ℕ) (i : ℕ) → loaded tokens_of text ≡ Err (BadHistory i) → StopsAt tokens_of text i (HasBadCall tokens_of)
