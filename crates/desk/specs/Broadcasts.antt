-- What the side of a book can broadcast in a channel (BOLT 3).
use Rattle.std.specs.Prelude.{◌≡◌, ℕ, List, Option, Some, None, unwrap_or, Result, Ok, Err}
use Rattle.tx.specs.Fields.{Transaction}
use Rattle.publish.specs.Published.{signed_commitment_of, signed_htlc_tx_of}
use Rattle.book.specs.Books.{ChannelBook}
use Rattle.book.specs.declared.errors.KnowError.{KnowError}
use Rattle.book.specs.declared.errors.KnowError.TheVariants.{NoMemory, NoSuchChannel}

-- the commitment of a number, or the newest where there is none, with both signatures, if there is one: NoSuchChannel
abbrev pub commitment_in : Option ℕ → Option ChannelBook → Result (Option Transaction) KnowError
commitment_in number None = Err NoSuchChannel
commitment_in number (Some ch) = Ok (signed_commitment_of ch.state (unwrap_or number ch.state.number))

-- the HTLC transaction of its k-th untrimmed HTLC, with these preimages, if there is one: NoSuchChannel
abbrev pub htlc_tx_in : ℕ → ℕ → List (List ℕ) → Option ChannelBook → Result (Option Transaction) KnowError
htlc_tx_in n k preimages None = Err NoSuchChannel
htlc_tx_in n k preimages (Some ch) = Ok (signed_htlc_tx_of ch.state n k preimages)

-- a result is this one, unless memory ran out
abbrev pub IsToldAs : Result (Option Transaction) KnowError → Result (Option Transaction) KnowError → Type 0
IsToldAs answer (Ok t) = answer ≡ Ok t
IsToldAs answer (Err NoMemory) = Unit {0}
IsToldAs answer (Err e) = answer ≡ Err e
