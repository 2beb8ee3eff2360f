-- What a text is loaded as: a history each of whose entries is accepted after those before it, or the first refusal.
use Rattle.std.specs.Prelude.{◌≡◌, ℕ, suc, if◌then◌else◌, List, [], ◌∷◌, reverse, Option, Some, None, Result, Ok, Err}
use Rattle.serde_json.specs.Data.{Data}
use Rattle.serde_json.specs.Read.{read}
use Rattle.json_value.specs.View.{view}
use Rattle.json_value.specs.declared.value.Value.{Value}
use Rattle.channel.specs.States.{Signing}
use Rattle.texts.specs.declared.calls.PlainEntry.{PlainEntry}
use Rattle.texts.specs.declared.calls.PlainDump.{PlainDump}
use Rattle.texts.specs.Calls.{dump_of}
use Rattle.book.specs.declared.calls.Entry.{Entry}
use Rattle.book_dump.specs.declared.errors.EntryError.{EntryError}
use Rattle.book_dump.specs.declared.errors.EntryError.TheVariants as entries
use Rattle.book_dump.specs.declared.errors.LoadError.{LoadError}
use Rattle.book_dump.specs.declared.errors.LoadError.TheVariants.{NoMemory, NotJson, BadShape, BadClaim, BadHistory}
use Rattle.book.specs.Accepted.{is_taken}
use Rattle.book_dump.specs.Loading.{entry_of}

-- a result, seen by a view, is the defined one, unless memory ran out
abbrev pub LoadsBy : {A B : Type 0} → (A → B) → Result A LoadError → Result B LoadError → Type 0
LoadsBy view (Ok x) answer = answer ≡ Ok (view x)
LoadsBy view (Err NoMemory) answer = Unit {0}
LoadsBy view (Err e) answer = answer ≡ Err e

abbrev pub Loads : {A : Type 0} → Result A LoadError → Result A LoadError → Type 0
Loads result answer = LoadsBy (λ x. x) result answer

-- a text is parsed as this value, unless memory ran out; or it is invalid JSON
abbrev pub IsValue : Result Value LoadError → Option Data → Type 0
IsValue (Ok v) value = value ≡ Some (view v)
IsValue (Err NoMemory) value = Unit {0}
IsValue (Err NotJson) value = value ≡ None
IsValue (Err e) value = ⊥

-- the value, or this refusal if there is none
abbrev pub or_refused : {A : Type 0} → LoadError → Option A → Result A LoadError
or_refused e (Some x) = Ok x
or_refused e None = Err e

abbrev pub dump_in_value : Option Data → Result PlainDump LoadError
dump_in_value None = Err NotJson
dump_in_value (Some d) = or_refused BadShape (dump_of d)

-- the dump that a text has: valid JSON (RFC 8259) of a dump's shape
abbrev pub dump_in : List ℕ → Result PlainDump LoadError
dump_in text = dump_in_value (read text)

-- the refusal of an entry at an index
abbrev pub fault_at : ℕ → EntryError → LoadError
fault_at i entries.NoMemory = NoMemory
fault_at i entries.BadShape = BadShape
fault_at i entries.BadClaim = BadClaim i

-- goes on if an entry is accepted after those before it, which have the newest first
abbrev pub with_entry : Signing → ℕ → List Entry → (List Entry → Result (List Entry) LoadError) → Result Entry EntryError → Result (List Entry) LoadError
with_entry tokens_of i before go (Ok e) = if is_taken tokens_of before e then go (e ∷ before) else Err (BadHistory i)
with_entry tokens_of i before go (Err fault) = Err (fault_at i fault)

-- the history of plain entries, the first of which has index i, after those before it, which have the newest first
abbrev pub history_after_plain : Signing → ℕ → List Entry → List PlainEntry → Result (List Entry) LoadError
history_after_plain tokens_of i before [] = Ok (reverse before)
history_after_plain tokens_of i before (p ∷ ps) = with_entry tokens_of i before (λ es. history_after_plain tokens_of (suc i) es ps) (entry_of p)

abbrev pub history_in_dump : Signing → Result PlainDump LoadError → Result (List Entry) LoadError
history_in_dump tokens_of (Ok dump) = history_after_plain tokens_of 0 [] dump.history
history_in_dump tokens_of (Err e) = Err e

-- the history that a text is loaded as: it is valid JSON, the whole value has
-- a dump's shape, and then entries are taken in order, each one's claims first
unfoldable pub loaded : Signing → List ℕ → Result (List Entry) LoadError
loaded tokens_of text = history_in_dump tokens_of (dump_in text)
