-- What a dump is loaded as.
use Rattle.std.specs.Prelude.{ℕ, if◌then◌else◌, List, Result, Err}
use Rattle.std.specs.Str.{is_utf8}
use Rattle.channel.specs.Tokens.{peer_tokens}
use Rattle.book.specs.declared.calls.Entry.{Entry}
use Rattle.book_dump.specs.declared.errors.LoadError.{LoadError}
use Rattle.book_dump.specs.declared.errors.LoadError.TheVariants.{NotJson}
use Rattle.book_dump.specs.Loaded.{loaded}

-- the history that bytes are loaded as: they are a text in UTF-8 (RFC 8259), and then a book loads it
abbrev pub book_in : List ℕ → Result (List Entry) LoadError
book_in bytes = if is_utf8 bytes then loaded peer_tokens bytes else Err NotJson
