-- The calls by which a book takes messages.
use Rattle.std.specs.Prelude.{◌≡◌, ℕ, Result, Ok, Err}
use Rattle.channel.specs.declared.messages.Message.{Message}
use Rattle.book.specs.declared.calls.Call.{Call}
use Rattle.book.specs.Acts.{call_of}
use Rattle.world.specs.declared.errors.EventError.{EventError}
use Rattle.world.specs.declared.errors.EventError.TheVariants.{NoMemory}

-- the call that takes the oldest message, if there is one
abbrev pub TakesOldest : ℕ → Result Message EventError → Call → Type 0
TakesOldest c (Ok m) call = call ≡ call_of c m
TakesOldest c (Err e) call = ⊥

abbrev pub IsOldest : ℕ → Result Message EventError → Result Call EventError → Type 0
IsOldest c oldest (Ok call) = TakesOldest c oldest call
IsOldest c oldest (Err NoMemory) = Unit {0}
IsOldest c oldest (Err e) = oldest ≡ Err e
