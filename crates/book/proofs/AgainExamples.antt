-- What is left of a release, and why there is no batch of it: each refusal before the next one in the order.
use Rattle.std.proofs.Common.{◌≡◌, ℕ, List, [], ◌∷◌, replicate, Some, None, refl, lit≤}
use Rattle.tx.specs.declared.input.OutPoint.{OutPoint}
use Rattle.tx.specs.Parts.{Output}
use Rattle.claim.specs.declared.parts.Shell.TheVariants.{Open}
use Rattle.claim.specs.Claims.{ClaimParts}
use Rattle.book.specs.declared.calls.Batch.{Batch}
use Rattle.book.specs.declared.calls.Call.TheVariants.{Sign, Close, Release}
use Rattle.book.specs.declared.calls.Entry.{Entry}
use Rattle.book.specs.declared.errors.ReleaseAgainError.TheVariants.{NoSuchEntry, NotARelease, TooManyOutputs, NothingLeft}
use Rattle.book.specs.Again.{without_spent, rest_refusal}

-- outputs of two transactions
abbrev at : (byte index : ℕ) → OutPoint
at byte index = record { txid = replicate 32 byte; index = index }

abbrev on : OutPoint → ClaimParts
on o = record { ways = record { ops = []; paths = [] }; index = 0; slots = []; place = record { outpoint = o; value = 1000; program = [] }; shell = Open }

abbrev three : List ClaimParts
three = on (at 5 0) ∷ on (at 5 1) ∷ on (at 6 0) ∷ []

-- told apart by both parts of the outpoint, in their order, each claim on such an output; other outputs do not count
left : (without_spent [] three ≡ three)
    × (without_spent (at 5 0 ∷ []) three ≡ on (at 5 1) ∷ on (at 6 0) ∷ [])
    × (without_spent (at 6 0 ∷ at 7 0 ∷ []) three ≡ on (at 5 0) ∷ on (at 5 1) ∷ [])
    × (without_spent (at 5 1 ∷ []) (on (at 5 1) ∷ three) ≡ on (at 5 0) ∷ on (at 6 0) ∷ [])
    × (without_spent (at 6 0 ∷ at 5 1 ∷ at 5 0 ∷ []) three ≡ [])
left = (refl, refl, refl, refl, refl)

-- the release of these claims, without outputs
abbrev batch : Batch
batch = record { claims = three; outputs = []; preimages = []; some = lit≤ tt; inputs = lit≤ tt; given = lit≤ tt }

abbrev release : Entry
release = record { seat = 4; call = Release 2 batch }

abbrev all_spent : List OutPoint
all_spent = at 5 0 ∷ at 5 1 ∷ at 6 0 ∷ []

abbrev output : Output
output = record { value = 7; script = [] }

refusals : (rest_refusal all_spent (replicate 4001 output) None ≡ Some NoSuchEntry)
    × (rest_refusal all_spent (replicate 4001 output) (Some (record { seat = 4; call = Sign 2 })) ≡ Some NotARelease)
    × (rest_refusal [] [] (Some (record { seat = 4; call = Close 2 })) ≡ Some NotARelease)
    × (rest_refusal all_spent (replicate 4001 output) (Some release) ≡ Some TooManyOutputs)
    × (rest_refusal [] (replicate 4001 output) (Some release) ≡ Some TooManyOutputs)
    × (rest_refusal all_spent (replicate 4000 output) (Some release) ≡ Some NothingLeft)
    × (rest_refusal (at 5 0 ∷ at 5 1 ∷ []) (replicate 4000 output) (Some release) ≡ None)
refusals = (refl, refl, refl, refl, refl, refl, refl)
