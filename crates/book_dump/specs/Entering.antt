-- What becomes of an entry when its call is made in a book.
use Rattle.std.specs.Prelude.{◌≡◌, suc, true, false, List, [], ◌∷◌, ◌++◌, length, reverse, Result, Ok, Err}
use Rattle.channel.specs.Tokens.{peer_tokens}
use Rattle.texts.specs.declared.calls.PlainEntry.{PlainEntry}
use Rattle.book.specs.declared.calls.Entry.{Entry}
use Rattle.book_dump.specs.declared.errors.LoadError.{LoadError}
use Rattle.book_dump.specs.declared.errors.LoadError.TheVariants as loads
use Rattle.book_dump.specs.declared.replaying.Stop.{Stop}
use Rattle.book_dump.specs.declared.replaying.Stop.TheVariants.{NoMemory, Refused}
use Rattle.book.specs.Accepted.{is_taken}
use Rattle.book_dump.specs.Loading.{entry_of}
use Rattle.book_dump.specs.Loaded.{with_entry}

-- the entry is accepted after those of the book and appended to them; or it is refused
abbrev pub Enters : Result (Unit {0}) Stop → List Entry → List Entry → Entry → Type 0
Enters (Ok u) old new e = (is_taken peer_tokens (reverse old) e ≡ true) × (new ≡ old ++ e ∷ [])
Enters (Err NoMemory) old new e = Unit {0}
Enters (Err Refused) old new e = is_taken peer_tokens (reverse old) e ≡ false

-- with the first plain entry, loading goes on as the new book says, or ends with its refusal, whatever entries follow
abbrev pub TakesOne : Result (Unit {0}) LoadError → List Entry → List Entry → PlainEntry → Type 0
TakesOne (Ok u) old new p =
    (length new ≡ suc (length old)) × ((go : List Entry → Result (List Entry) LoadError) → with_entry peer_tokens (length old) (reverse old) go (entry_of p) ≡ go (reverse new))
TakesOne (Err loads.NoMemory) old new p = Unit {0}
TakesOne (Err e) old new p = (go : List Entry → Result (List Entry) LoadError) → with_entry peer_tokens (length old) (reverse old) go (entry_of p) ≡ Err e
