-- What plain claims stand for. They are accepted anew.
use Rattle.std.specs.Prelude.{◌≡◌, ℕ, is_ok, if◌then◌else◌, List, [], ◌∷◌, Option, Some, None, Result, Ok, Err}
use Rattle.std.specs.Result.{result_ok}
use Rattle.script.specs.declared.opcode.Op.{Op}
use Rattle.paths.specs.Listing.{CheckedScript, listing}
use Rattle.claim.specs.Judgement.{judgement_of, bare_shell}
use Rattle.claim.specs.Claims.{ClaimParts}
use Rattle.claim.specs.Opcodes.{◌>>=◌, ops_of}
use Rattle.texts.specs.declared.claims.PlainClaim.{PlainClaim}
use Rattle.plain_claims.specs.declared.errors.ClaimError.{ClaimError}
use Rattle.plain_claims.specs.declared.errors.ClaimError.TheVariants.{NoMemory, BadClaim}

-- a result is the defined one, unless memory ran out
abbrev pub Takes : {A : Type 0} → Result A ClaimError → Option A → Type 0
Takes (Ok x) taken = taken ≡ Some x
Takes (Err NoMemory) taken = Unit {0}
Takes (Err BadClaim) taken = taken ≡ None

-- the script of these bytes with its paths, if `parse` and `check` take it
abbrev pub listed : List Op → Option CheckedScript
listed ops = result_ok (listing ops) >>= (λ paths. Some (record { ops = ops; paths = paths }))

unfoldable pub checked_of : List ℕ → Option CheckedScript
checked_of bytes = ops_of bytes >>= listed

-- the claim, if it is accepted
abbrev pub accepted : ClaimParts → Option ClaimParts
accepted c = if is_ok (judgement_of c.ways c.index c.slots c.place c.shell) then Some c else None

unfoldable pub claim_of : PlainClaim → Option ClaimParts
claim_of p = checked_of p.script >>= (λ ways. accepted (record { ways = ways; index = p.path; slots = p.slots; place = p.place; shell = bare_shell p.shell }))

-- the claims, if each is accepted
unfoldable pub claims_of : List PlainClaim → Option (List ClaimParts)
claims_of [] = Some []
claims_of (p ∷ ps) = claim_of p >>= (λ c. claims_of ps >>= (λ cs. Some (c ∷ cs)))
