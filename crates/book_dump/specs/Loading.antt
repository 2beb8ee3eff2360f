-- What the plain forms of a dump stand for. Claims are accepted anew.
use Rattle.std.specs.Prelude.{◌≡◌, ℕ, List, Option, Some, None, option_map, Result, Ok, Err}
use Rattle.claim.specs.Claims.{ClaimParts}
use Rattle.tx.specs.Parts.{Output}
use Rattle.texts.specs.declared.steps.PlainStep.{PlainStep}
use Rattle.texts.specs.declared.steps.PlainStep.TheVariants.{Own as OwnUpdate, Receive}
use Rattle.texts.specs.declared.calls.PlainCall.{PlainCall}
use Rattle.texts.specs.declared.calls.PlainCall.TheVariants as plain
use Rattle.texts.specs.declared.calls.PlainEntry.{PlainEntry}
use Rattle.book_dump.specs.declared.errors.EntryError.{EntryError}
use Rattle.book_dump.specs.declared.errors.EntryError.TheVariants.{NoMemory, BadShape, BadClaim}
use Rattle.book.specs.declared.calls.Step.{Step}
use Rattle.book.specs.declared.calls.Step.TheVariants.{Own, Peer}
use Rattle.book.specs.declared.calls.Call.{Call}
use Rattle.book.specs.declared.calls.Call.TheVariants.{Open, Step as Stepping, Sign, Revoke, Keep, Release, Close}
use Rattle.book.specs.declared.calls.Entry.{Entry}
use Rattle.plain_claims.specs.Claims.{claims_of}
use Rattle.book_dump.specs.Openings.{opening_of, batch_of}

-- a result is the defined one, unless memory ran out
abbrev pub Answers : {A : Type 0} → Result A EntryError → Result A EntryError → Type 0
Answers (Ok x) answer = answer ≡ Ok x
Answers (Err NoMemory) answer = Unit {0}
Answers (Err e) answer = answer ≡ Err e

-- the same where the only other fault is a bad claim
abbrev pub Takes : {A : Type 0} → Result A EntryError → Option A → Type 0
Takes (Ok x) taken = taken ≡ Some x
Takes (Err NoMemory) taken = Unit {0}
Takes (Err BadClaim) taken = taken ≡ None
Takes (Err e) taken = ⊥

-- ---- calls

abbrev pub step_of : PlainStep → Step
step_of (OwnUpdate u) = Own u
step_of (Receive step) = Peer step

-- the value, or BadShape if there is none
abbrev pub shaped : {A : Type 0} → Option A → Result A EntryError
shaped (Some x) = Ok x
shaped None = Err BadShape

-- the call with these claims, if each is accepted
abbrev pub with_claims : Option (List ClaimParts) → (List ClaimParts → Result Call EntryError) → Result Call EntryError
with_claims (Some claims) call = call claims
with_claims None call = Err BadClaim

abbrev pub release_of : ℕ → List Output → List (List ℕ) → List ClaimParts → Result Call EntryError
release_of channel outputs preimages claims = shaped (option_map (Release channel) (batch_of claims outputs preimages))

-- the call that a plain one stands for
unfoldable pub call_of : PlainCall → Result Call EntryError
call_of (plain.Open o) = shaped (option_map Open (opening_of o))
call_of (plain.Step channel step) = Ok (Stepping channel (step_of step))
call_of (plain.Sign channel) = Ok (Sign channel)
call_of (plain.Revoke channel revocation) = Ok (Revoke channel revocation)
call_of (plain.Keep channel number claims) = with_claims (claims_of claims) (λ cs. Ok (Keep channel number cs))
call_of (plain.Release channel claims outputs preimages) = with_claims (claims_of claims) (release_of channel outputs preimages)
call_of (plain.Close channel) = Ok (Close channel)

abbrev pub with_seat : ℕ → Result Call EntryError → Result Entry EntryError
with_seat seat (Ok call) = Ok (record { seat = seat; call = call })
with_seat seat (Err e) = Err e

unfoldable pub entry_of : PlainEntry → Result Entry EntryError
entry_of p = with_seat p.seat (call_of p.call)
