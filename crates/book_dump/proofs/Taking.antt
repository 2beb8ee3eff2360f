-- Refusals that are passed on.
use Rattle.std.proofs.Common.{◌≡◌, ℕ, List, Option, None, Result, Ok, Err, refl}
use Rattle.claim.specs.Claims.{ClaimParts}
use Rattle.book_dump.specs.declared.errors.EntryError.{EntryError}
use Rattle.book_dump.specs.declared.errors.EntryError.TheVariants as entries
use Rattle.book.specs.declared.calls.Call.{Call}
use Rattle.book.specs.declared.calls.Entry.{Entry}
use Rattle.book_dump.specs.Loading.{Answers, Takes, with_claims, with_seat}

pub claims_refused : (claims : Option (List ClaimParts)) (call : List ClaimParts → Result Call EntryError) (e : EntryError) → Takes {A = List ClaimParts} (Err e) claims
    → Answers {A = Call} (Err e) (with_claims claims call)
claims_refused claims call entries.NoMemory h = tt
claims_refused claims call entries.BadShape h = absurd h
claims_refused claims call entries.BadClaim h = rw h refl

pub call_refused : (seat : ℕ) (call : Result Call EntryError) (e : EntryError) → Answers {A = Call} (Err e) call → Answers {A = Entry} (Err e) (with_seat seat call)
call_refused seat call entries.NoMemory h = tt
call_refused seat call entries.BadShape h = rw h refl
call_refused seat call entries.BadClaim h = rw h refl
