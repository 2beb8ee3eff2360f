-- Bytes that are text, or are not.
use Rattle.std.proofs.Common.{◌≡◌, ℕ, Bool, true, false, if◌then◌else◌, List, Result, Err, refl, subst}
use Rattle.std.specs.Str.{IsUtf8, is_utf8}
use Rattle.std.proofs.lemmas.Str.{IsUtf8-from_is_utf8, is_utf8-from_IsUtf8}
use Rattle.channel.specs.Tokens.{peer_tokens}
use Rattle.book.specs.declared.calls.Entry.{Entry}
use Rattle.book_dump.specs.declared.errors.LoadError.{LoadError}
use Rattle.book_dump.specs.declared.errors.LoadError.TheVariants.{NotJson}
use Rattle.book_dump.specs.Loaded.{Loads, loaded}
use Rattle.trace.specs.Loading.{book_in}

pub is_text : (r : Result (List Entry) LoadError) (bytes text : List ℕ) → text ≡ bytes → IsUtf8 bytes → Loads r (loaded peer_tokens text) → Loads r (book_in bytes)
is_text r bytes text same utf8 h =
    let P : List ℕ → Type 0 = λ t. Loads r (loaded peer_tokens t) in rw (is_utf8-from_IsUtf8 bytes utf8) (subst P same h)

pub no_text : (bytes : List ℕ) → (IsUtf8 bytes → ⊥) → book_in bytes ≡ Err NotJson
no_text bytes none = go (is_utf8 bytes) refl
  where
    go : (utf8 : Bool) → is_utf8 bytes ≡ utf8 → (if utf8 then loaded peer_tokens bytes else Err NotJson) ≡ Err NotJson
    go true h = absurd (none (IsUtf8-from_is_utf8 bytes h))
    go false h = refl
