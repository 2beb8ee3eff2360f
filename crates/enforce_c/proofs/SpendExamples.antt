-- What the rows of a spend say, and what the call leaves, on both sides of each bound; and each status by the numbers of the crates whose refusals these are.
use Rattle.std.proofs.Common.{◌≡◌, ◌+◌, ◌*◌, ℕ, List, [], ◌∷◌, map, true, Ok, Err, refl}
use Rattle.std.specs.Prelude.{Some, None}
use Rattle.script.specs.declared.parse.ParseError.{ParseError}
use Rattle.script.specs.declared.parse.ParseError.TheVariants.{BadOpcode, Truncated, TooLong}
use Rattle.script.specs.Refusals.{refusal_number as parse_error_number}
use Rattle.paths.specs.declared.errors.CheckError.{CheckError}
use Rattle.paths.specs.declared.errors.CheckError.TheVariants.{OpenBranch, TooManyOps, Undecided, TooManyPaths, TooTall}
use Rattle.paths.specs.Refusals.{refusal_number as check_error_number}
use Rattle.facts.specs.declared.symbols.FactOver.TheVariants.{Truth}
use Rattle.tx.specs.declared.errors.FieldError.{FieldError}
use Rattle.tx.specs.declared.errors.FieldError.TheVariants.{NoInputs, ValueTooLarge, OverLimit}
use Rattle.tx.specs.declared.errors.EncodeError.TheVariants.{NoWitness}
use Rattle.tx.specs.declared.errors.DecodeError.{DecodeError}
use Rattle.tx.specs.declared.errors.DecodeError.TheVariants as decode
use Rattle.tx.specs.Refusals.{field_refusal_number, encode_refusal_number, decode_refusal_number}
use Rattle.claim.specs.declared.errors.AcceptError.{AcceptError}
use Rattle.claim.specs.declared.errors.AcceptError.TheVariants.{NoSuchPath, WrongArity, Unmet, Contradiction, WrongProgram, WrongShell}
use Rattle.claim.specs.Refusals.{refusal_number as accept_error_number}
use Rattle.claim.specs.Claims.{ClaimParts}
use Rattle.filling.specs.declared.errors.SpendError.{SpendError}
use Rattle.filling.specs.declared.errors.SpendError.TheVariants.{FixedTransaction, SameOutpoint, OutputsExceed, MeasuredSignature, NoPreimage}
use Rattle.filling.specs.Spends.{spend_error_number}
use Rattle.enforce_c.specs.declared.claim_rows.ClaimRow.{ClaimRow}
use Rattle.enforce_c.specs.declared.claim_rows.SlotRow.{SlotRow}
use Rattle.enforce_c.specs.declared.spend_rows.OutputRow.{OutputRow}
use Rattle.enforce_c.specs.declared.spend_rows.SignatureRow.{SignatureRow}
use Rattle.enforce_c.specs.declared.spend_rows.SpendAnswer.{SpendAnswer}
use Rattle.enforce_c.specs.declared.statuses.Refusal.TheVariants.{OutOfRange, Field}
use Rattle.enforce_c.specs.declared.about.About.TheVariants.{OfOutput}
use Rattle.enforce_c.specs.Statuses.{parse_status, check_status, accept_status, spend_status, field_status, encode_status, decode_status}
use Rattle.enforce_c.specs.Spent.{SpendParts, SpendLists, number_fault, output_of, outputs_of, AreClaimsOf, capped, left_by_spend}

-- ---- the numbers of rows

counted : (number_fault 1 0 ≡ None) × (number_fault 4000 4000 ≡ None)
counted = (refl, refl)

none : (number_fault 0 0 ≡ Some (Field NoInputs)) × (number_fault 0 4001 ≡ Some (Field NoInputs))
none = (refl, refl)

too_many : (number_fault 4001 0 ≡ Some (Field OverLimit)) × (number_fault 1 4001 ≡ Some (Field OverLimit))
too_many = (refl, refl)

-- ---- outputs

abbrev three : List ℕ
three = 7 ∷ 8 ∷ 9 ∷ []

abbrev paying : ℕ → ℕ → ℕ → OutputRow
paying value at count = record { value = value; script_at = at; script_length = count }

-- 21,000,000 bitcoins, and a satoshi more
paid : (output_of three (paying 2100000000000000 1 2) ≡ Ok (record { value = 2100000000000000; script = 8 ∷ 9 ∷ [] })) × (output_of three (paying 2100000000000001 1 2) ≡ Err (Field ValueTooLarge))
paid = (refl, refl)

-- the script is asked for first
not_there : (output_of three (paying 2100000000000001 1 3) ≡ Err OutOfRange) × (output_of three (paying 0 4 0) ≡ Err OutOfRange)
not_there = (refl, refl)

-- in their order, and of two faults the first
in_order : (outputs_of three 0 (paying 5 0 1 ∷ paying 6 3 0 ∷ []) ≡ Ok (record { value = 5; script = 7 ∷ [] } ∷ record { value = 6; script = [] } ∷ []))
    × (outputs_of three 0 (paying 5 0 1 ∷ paying 2100000000000001 0 1 ∷ paying 5 4 0 ∷ []) ≡ Err (record { why = Field ValueTooLarge; about = OfOutput 1 }))
    × (outputs_of three 0 (paying 5 0 1 ∷ paying 6 3 0 ∷ paying 5 4 0 ∷ []) ≡ Err (record { why = OutOfRange; about = OfOutput 2 }))
in_order = (refl, refl, refl)

-- ---- claims

-- there are as many as rows
as_many : (slots : List SlotRow) (bytes : List ℕ) (row : ClaimRow) (c : ClaimParts) → (AreClaimsOf slots bytes (row ∷ []) [] → ⊥) × (AreClaimsOf slots bytes [] (c ∷ []) → ⊥) × AreClaimsOf slots bytes [] []
as_many slots bytes row c = (λ all. all, λ all. all, tt)

-- ---- what the call leaves

abbrev signature : ℕ → SignatureRow
signature n = record { input = n; item = n; key = []; digest = [] }

abbrev lists : List ℕ → List SignatureRow → SpendLists
lists bytes signatures = record { bytes = bytes; signatures = signatures }

abbrev made : SpendParts
made = record { bytes = 7 ∷ 8 ∷ []; signatures = signature 1 ∷ []; weight = 5; fee_sat = 6; txid = 1 ∷ 2 ∷ [] }

abbrev told : SpendAnswer
told = record { bytes = 2; signatures = 1; number = 0; row = 0; weight = 5; fee_sat = 6; about = 0; txid = 1 ∷ 2 ∷ []; shown_txid = 2 ∷ 1 ∷ [] }

-- what is written stands at the beginning of both buffers, whose rest stays
fits : left_by_spend made (lists (0 ∷ 0 ∷ 5 ∷ []) (signature 0 ∷ signature 9 ∷ []))
    ≡ record { status = 0; answer = told; lists = lists (7 ∷ 8 ∷ 5 ∷ []) (signature 1 ∷ signature 9 ∷ []) }
fits = refl

-- where one is shorter by one, both stay, and both sizes are told
short_bytes : left_by_spend made (lists (0 ∷ []) (signature 0 ∷ signature 9 ∷ []))
    ≡ record { status = 2; answer = told; lists = lists (0 ∷ []) (signature 0 ∷ signature 9 ∷ []) }
short_bytes = refl

short_rows : left_by_spend made (lists (0 ∷ 0 ∷ []) [])
    ≡ record { status = 2; answer = told; lists = lists (0 ∷ 0 ∷ []) [] }
short_rows = refl

-- a number of 64 bits, and one more
most : map capped (0 ∷ 18446744073709551615 ∷ 18446744073709551616 ∷ []) ≡ 0 ∷ 18446744073709551615 ∷ 18446744073709551615 ∷ []
most = refl

-- ---- statuses: the family times 256, and the number that the crate gives the refusal

abbrev parse_faults : List ParseError
parse_faults = BadOpcode 7 ∷ Truncated 7 ∷ TooLong ∷ []

parse_numbered : map parse_status parse_faults ≡ map (λ e. 1 * 256 + parse_error_number e) parse_faults
parse_numbered = refl

abbrev check_faults : List CheckError
check_faults = OpenBranch ∷ TooManyOps ∷ Undecided 7 ∷ TooManyPaths ∷ TooTall ∷ []

check_numbered : map check_status check_faults ≡ map (λ e. 2 * 256 + check_error_number e) check_faults
check_numbered = refl

abbrev accept_faults : List AcceptError
accept_faults = NoSuchPath ∷ WrongArity ∷ Unmet (record { fact = Truth 3; holds = true }) ∷ Contradiction ∷ WrongProgram ∷ WrongShell ∷ []

accept_numbered : map accept_status accept_faults ≡ map (λ e. 3 * 256 + accept_error_number e) accept_faults
accept_numbered = refl

abbrev spend_faults : List SpendError
spend_faults = FixedTransaction ∷ SameOutpoint ∷ OutputsExceed ∷ MeasuredSignature ∷ NoPreimage ∷ []

spend_numbered : map spend_status spend_faults ≡ map (λ e. 5 * 256 + spend_error_number e) spend_faults
spend_numbered = refl

abbrev field_faults : List FieldError
field_faults = NoInputs ∷ ValueTooLarge ∷ OverLimit ∷ []

field_numbered : map field_status field_faults ≡ map (λ e. 6 * 256 + field_refusal_number e) field_faults
field_numbered = refl

encode_numbered : encode_status NoWitness ≡ 6 * 256 + encode_refusal_number NoWitness
encode_numbered = refl

abbrev decode_faults : List DecodeError
decode_faults = decode.Truncated ∷ decode.LongCount ∷ decode.BadMarker ∷ decode.NoInputs ∷ decode.NoWitness ∷ decode.ValueTooLarge ∷ decode.Trailing ∷ decode.OverLimit ∷ []

decode_numbered : map decode_status decode_faults ≡ map (λ e. 6 * 256 + decode_refusal_number e) decode_faults
decode_numbered = refl
