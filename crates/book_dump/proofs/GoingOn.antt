-- The history of a dump, entry by entry.
use Rattle.std.proofs.Common.{◌≡◌, List, [], length, reverse}
use Rattle.channel.specs.Tokens.{peer_tokens}
use Rattle.texts.specs.declared.calls.PlainEntry.{PlainEntry}
use Rattle.book.specs.declared.calls.Entry.{Entry}
use Rattle.book_dump.specs.Loaded.{history_after_plain}

-- loading the whole is loading what is left after this history
abbrev pub GoesOn : List PlainEntry → List Entry → List PlainEntry → Type 0
GoesOn whole done left = history_after_plain peer_tokens 0 [] whole ≡ history_after_plain peer_tokens (length done) (reverse done) left
