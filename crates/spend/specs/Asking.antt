-- What bytes ask for, or the first reason why they ask for nothing.
use Rattle.std.specs.Prelude.{◌≡◌, ℕ, ◌&&◌, nat_lt, nat_le, Bool, true, if◌then◌else◌, List, length, Option, None, ok_or, Result, Ok, Err}
use Rattle.std.specs.Str.{is_utf8}
use Rattle.serde_json.specs.Data.{Data}
use Rattle.serde_json.specs.Read.{read}
use Rattle.tx.specs.declared.limits.TheConstants.{MAX_INPUTS, MAX_BYTES}
use Rattle.plain_claims.specs.Claims.{claims_of}
use Rattle.spend.specs.declared.errors.PlanError.{PlanError}
use Rattle.spend.specs.declared.errors.PlanError.TheVariants.{NoMemory, NotJson, BadShape, BadClaim}
use Rattle.spend.specs.declared.requests.Request.{Request}
use Rattle.spend.specs.declared.asking.Asked.{Asked}
use Rattle.spend.specs.Requests.{request_of}

-- a result, seen by view, is the defined one, unless memory ran out
abbrev pub Answers : {X Y : Type 0} → (X → Y) → Result X PlanError → Result Y PlanError → Type 0
Answers view (Ok x) answer = answer ≡ Ok (view x)
Answers view (Err NoMemory) answer = Unit {0}
Answers view (Err e) answer = answer ≡ Err e

-- the second step, unless the first one is refused
infixl 10 ◌>>=◌
abbrev pub ◌>>=◌ : {X Y : Type 0} → Result X PlanError → (X → Result Y PlanError) → Result Y PlanError
(Ok x) >>= f = f x
(Err e) >>= f = Err e

-- the value that bytes spell: a JSON text in UTF-8 (RFC 8259)
abbrev pub value_in : List ℕ → Option Data
value_in bytes = if is_utf8 bytes then read bytes else None

-- one transaction can take this number of outputs, and pay a script with this number of bytes
abbrev pub is_within : ℕ → ℕ → Bool
is_within count size = nat_lt 0 count && nat_le count MAX_INPUTS && nat_le size MAX_BYTES

abbrev pub if_within : Request → Result Request PlanError
if_within r = if is_within (length r.claims) (length r.destination) then Ok r else Err BadShape

-- what a value of a shape is read as
abbrev pub shaped : {X : Type 0} → (Data → Option X) → Data → Result X PlanError
shaped reads d = ok_or (reads d) BadShape

-- what is answered where some object has a name twice
abbrev pub twice_in : {X : Type 0} → List ℕ → Result X PlanError
twice_in bytes = ok_or (value_in bytes) NotJson >>= (λ d. Err BadShape)

-- what bytes spell, where no object has a name twice: they are valid JSON, and the whole value has the shape
abbrev pub read_in : {X : Type 0} → (Data → Option X) → List ℕ → Result X PlanError
read_in reads bytes = ok_or (value_in bytes) NotJson >>= shaped reads

-- the request that bytes spell, if it is within the limits
abbrev pub request_in : List ℕ → Result Request PlanError
request_in bytes = read_in request_of bytes >>= if_within

-- the request with its claims accepted anew, if they are
abbrev pub asked_with : Request → Result Asked PlanError
asked_with r = ok_or (claims_of r.claims) BadClaim
    >>= (λ claims. Ok (record { claims = claims; preimages = r.preimages; destination = r.destination; feerate_per_kw = r.feerate_per_kw; least_feerate_per_kw = r.least_feerate_per_kw; most_feerate_per_kw = r.most_feerate_per_kw }))

-- what bytes ask for, where no object has a name twice
unfoldable pub asked_in : List ℕ → Result Asked PlanError
asked_in bytes = request_in bytes >>= asked_with

-- what is asked for is within the limits
abbrev pub IsWithin : Asked → Type 0
IsWithin a = is_within (length a.claims) (length a.destination) ≡ true
