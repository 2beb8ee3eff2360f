-- The spend that rows ask for, or why there is none.
use Rattle.std.specs.Prelude.{◌≡◌, ◌⊎◌, ℕ, ◌+◌, ◌-◌, ◌*◌, ◌==◌, ◌&&◌, ◌||◌, nat_lt, nat_le, if◌then◌else◌, List, [], ◌∷◌, length, map, replicate, reverse, Option, Some, None, Result, Ok, Err, false}
use Rattle.script.specs.Step.{◌>>=◌}
use Rattle.tx.specs.declared.limits.TheConstants.{MAX_INPUTS, MAX_OUTPUTS, MAX_VALUE, MAX_BYTES}
use Rattle.tx.specs.declared.errors.FieldError.TheVariants.{NoInputs, ValueTooLarge, OverLimit}
use Rattle.tx.specs.declared.errors.EncodeError.{EncodeError}
use Rattle.tx.specs.declared.errors.EncodeError.TheVariants.{NoMemory as EncodeMemory, NoWitness}
use Rattle.tx.specs.Parts.{Output}
use Rattle.tx.specs.Fields.{Transaction, has_witness, total_value}
use Rattle.tx.specs.Spelling.{IsTransaction, stripped_spelling, transaction_id}
use Rattle.claim.specs.Claims.{ClaimParts}
use Rattle.filling.specs.declared.missing.MissingSignature.{MissingSignature}
use Rattle.filling.specs.declared.errors.SpendError.{SpendError}
use Rattle.filling.specs.Refusals.{total_claimed}
use Rattle.filling.specs.Spends.{IsUnsignedSpend, IsSpendRefusal, first_spend_refusal}
use Rattle.enforce_c.specs.declared.claim_rows.ClaimRow.{ClaimRow}
use Rattle.enforce_c.specs.declared.claim_rows.SlotRow.{SlotRow}
use Rattle.enforce_c.specs.declared.spend_rows.OutputRow.{OutputRow}
use Rattle.enforce_c.specs.declared.spend_rows.PreimageRow.{PreimageRow}
use Rattle.enforce_c.specs.declared.spend_rows.SignatureRow.{SignatureRow}
use Rattle.enforce_c.specs.declared.spend_rows.SpendAnswer.{SpendAnswer}
use Rattle.enforce_c.specs.declared.statuses.Refusal.{Refusal}
use Rattle.enforce_c.specs.declared.statuses.Refusal.TheVariants.{NoMemory, OutOfRange, Field, Spend, Encode}
use Rattle.enforce_c.specs.declared.about.About.TheVariants.{OfOutput, OfClaim}
use Rattle.enforce_c.specs.declared.about.Refused.{Refused}
use Rattle.enforce_c.specs.Statuses.{status_of, number_of}
use Rattle.enforce_c.specs.About.{kind_of, row_of, about_of}
use Rattle.enforce_c.specs.Faulty.{spend_about}
use Rattle.enforce_c.specs.Ranges.{has_part, part}
use Rattle.enforce_c.specs.Answers.{over}
use Rattle.enforce_c.specs.Claimed.{IsClaimOf, IsNoClaim}

-- a transaction before it is signed: its bytes, the signatures that it lacks, the weight that it has at most, its fee and its id
pub record SpendParts : Type 0 where
  pub bytes : List ℕ
  pub signatures : List SignatureRow
  pub weight : ℕ
  pub fee_sat : ℕ
  pub txid : List ℕ

-- the buffers for its bytes and its signatures
pub record SpendLists : Type 0 where
  pub bytes : List ℕ
  pub signatures : List SignatureRow

-- the row of a signature
abbrev pub signature_row : MissingSignature → SignatureRow
signature_row m = record { input = m.input; item = m.item; key = m.key.bytes; digest = m.digest }

-- ---- what the rows say

-- there are from 1 to 4,000 claims, and at most 4,000 outputs
abbrev pub number_fault : ℕ → ℕ → Option Refusal
number_fault claims outputs =
    if claims == 0 then Some (Field NoInputs)
    else if nat_lt MAX_INPUTS claims || nat_lt MAX_OUTPUTS outputs then Some (Field OverLimit)
    else None

-- the output of a row
abbrev pub output_of : List ℕ → OutputRow → Result Output Refusal
output_of bytes row =
    if has_part row.script_at row.script_length bytes
    then (if nat_lt MAX_VALUE row.value then Err (Field ValueTooLarge)
    else if nat_lt MAX_BYTES (length (part row.script_at row.script_length bytes)) then Err (Field OverLimit)
    else Ok (record { value = row.value; script = part row.script_at row.script_length bytes }))
    else Err OutOfRange

-- the same, with the index of the row that a refusal is about
abbrev pub output_at : ℕ → Result Output Refusal → Result Output Refused
output_at index (Ok output) = Ok output
output_at index (Err e) = Err (record { why = e; about = OfOutput index })

-- those of rows, the first of which has this index, or the first refusal
abbrev pub outputs_of : List ℕ → ℕ → List OutputRow → Result (List Output) Refused
outputs_of bytes index [] = Ok []
outputs_of bytes index (row ∷ rows) = do
  output ← output_at index (output_of bytes row)
  outputs ← outputs_of bytes (index + 1) rows
  Ok (output ∷ outputs)

-- each row's claim is accepted
abbrev pub AreClaimsOf : List SlotRow → List ℕ → List ClaimRow → List ClaimParts → Type 0
AreClaimsOf slots bytes [] [] = Unit {0}
AreClaimsOf slots bytes (row ∷ rows) (c ∷ claims) = IsClaimOf row slots bytes c × AreClaimsOf slots bytes rows claims
AreClaimsOf slots bytes rows claims = ⊥

-- the claim of the row of this index is refused so
abbrev pub IsNoClaimAt : ℕ → ClaimRow → List SlotRow → List ℕ → Refused → Type 0
IsNoClaimAt index row slots bytes e = (e.about ≡ OfClaim index) × IsNoClaim row slots bytes e.why

-- the claims of some rows are accepted, and that of the next is refused so. The first row has this index
abbrev pub IsFirstNoClaim : List SlotRow → List ℕ → ℕ → List ClaimRow → Refused → Type 0
IsFirstNoClaim slots bytes index [] e = ⊥
IsFirstNoClaim slots bytes index (row ∷ rows) e =
    IsNoClaimAt index row slots bytes e ⊎ ((c : ClaimParts) × IsClaimOf row slots bytes c × IsFirstNoClaim slots bytes (index + 1) rows e)

-- ---- the spend

-- the rows that a spend is asked of, but for those of preimages
pub record Asked : Type 0 where
  pub claims : List ClaimRow
  pub slots : List SlotRow
  pub outputs : List OutputRow
  pub bytes : List ℕ

abbrev pub preimages_in : List PreimageRow → List (List ℕ)
preimages_in rows = map (λ p. p.bytes) rows

-- the outputs are these, and the claims that the rows ask for are accepted
pub record AreRead (a : Asked) (claims : List ClaimParts) (outputs : List Output) : Type 0 where
  pub counted : number_fault (length a.claims) (length a.outputs) ≡ None
  pub paid : outputs_of a.bytes 0 a.outputs ≡ Ok outputs
  pub claimed : AreClaimsOf a.slots a.bytes a.claims claims

-- a number as 64 bits tell it: the greatest stands for more
abbrev pub capped : ℕ → ℕ
capped n = if nat_lt 18446744073709551615 n then 18446744073709551615 else n

-- BIP 141: three times the size without witnesses, and the size with them. Each of so many signatures adds at most 73 bytes to the empty item in its place: 72 of
-- DER, and the hash type
abbrev pub greatest_weight : Transaction → List ℕ → ℕ → ℕ
greatest_weight t bytes signatures = 3 * length (stripped_spelling t) + length bytes + 73 * signatures

-- what the claimed outputs are worth, less the transaction's outputs
abbrev pub fee_of : List ClaimParts → Transaction → ℕ
fee_of claims t = total_claimed claims - total_value t.outputs

-- what is told of a transaction: its bytes (BIP 144), the rows of the signatures that it lacks, its weight with them at most, its fee and its id
pub record IsTold (claims : List ClaimParts) (tx : Transaction) (signatures : List MissingSignature) (s : SpendParts) : Type 0 where
  pub spelt : IsTransaction tx s.bytes
  pub rows : s.signatures ≡ map signature_row signatures
  pub weight : s.weight ≡ capped (greatest_weight tx s.bytes (length signatures))
  pub fee : s.fee_sat ≡ capped (fee_of claims tx)
  pub id : s.txid ≡ transaction_id tx

-- it is told of the unsigned spend of these claims
pub record IsMade (claims : List ClaimParts) (outputs : List Output) (preimages : List (List ℕ)) (s : SpendParts) : Type 0 where
  pub tx : Transaction
  pub signatures : List MissingSignature
  pub spend : IsUnsignedSpend claims outputs preimages tx signatures
  pub told : IsTold claims tx signatures s

-- they are made of the claims and the outputs that the rows ask for
pub record IsSpendOf (a : Asked) (preimages : List (List ℕ)) (s : SpendParts) : Type 0 where
  pub claims : List ClaimParts
  pub outputs : List Output
  pub read : AreRead a claims outputs
  pub made : IsMade claims outputs preimages s

-- P has to hold, unless the refusal is out of memory
abbrev pub UnlessMemory : Refusal → Type 0 → Type 0
UnlessMemory NoMemory P = Unit {0}
UnlessMemory e P = P

-- an output is refused so, or all are read and a claim is
abbrev pub IsUnreadRow : Asked → Refused → Type 0
IsUnreadRow a e = (outputs_of a.bytes 0 a.outputs ≡ Err e) ⊎ ((outputs : List Output) × (outputs_of a.bytes 0 a.outputs ≡ Ok outputs) × IsFirstNoClaim a.slots a.bytes 0 a.claims e)

-- the refusal of the first check of the rows that fails: the numbers of rows, the outputs in their order, the claims in theirs
abbrev pub IsUnread : Asked → Refused → Type 0
IsUnread a e = ((number_fault (length a.claims) (length a.outputs) ≡ Some e.why) × (e.about ≡ about_of e.why)) ⊎ ((number_fault (length a.claims) (length a.outputs) ≡ None) × IsUnreadRow a e)

-- that of a spend of claims, and that of a transaction's bytes
pub record IsUnspent (claims : List ClaimParts) (outputs : List Output) (preimages : List (List ℕ)) (e : Refusal) : Type 0 where
  pub why : SpendError
  pub named : e ≡ Spend why
  pub first : IsSpendRefusal (first_spend_refusal claims outputs preimages) why

abbrev pub IsEncodeRefusal : Transaction → EncodeError → Type 0
IsEncodeRefusal t EncodeMemory = Unit {0}
IsEncodeRefusal t NoWitness = has_witness t.inputs ≡ false

pub record IsNotEncoded (t : Transaction) (e : Refusal) : Type 0 where
  pub why : EncodeError
  pub named : e ≡ Encode why
  pub refused : IsEncodeRefusal t why

-- there is a spend, but its transaction has no bytes
pub record HasNoBytes (claims : List ClaimParts) (outputs : List Output) (preimages : List (List ℕ)) (e : Refusal) : Type 0 where
  pub tx : Transaction
  pub signatures : List MissingSignature
  pub spend : IsUnsignedSpend claims outputs preimages tx signatures
  pub refused : IsNotEncoded tx e

abbrev pub IsUnmade : List ClaimParts → List Output → List (List ℕ) → Refusal → Type 0
IsUnmade claims outputs preimages e = IsUnspent claims outputs preimages e ⊎ HasNoBytes claims outputs preimages e

-- the rows are read, but there is no spend of them, or it has no bytes
pub record IsNoSpend (a : Asked) (preimages : List (List ℕ)) (e : Refused) : Type 0 where
  pub claims : List ClaimParts
  pub outputs : List Output
  pub read : AreRead a claims outputs
  pub refused : IsUnmade claims outputs preimages e.why
  pub about : e.about ≡ spend_about claims preimages e.why

-- why there is no spend
abbrev pub IsNotSpent : Asked → List (List ℕ) → Refused → Type 0
IsNotSpent a preimages e = UnlessMemory e.why (IsUnread a e ⊎ IsNoSpend a preimages e)

abbrev pub IsSpent : Asked → List (List ℕ) → Result SpendParts Refused → Type 0
IsSpent a preimages (Ok s) = IsSpendOf a preimages s
IsSpent a preimages (Err e) = IsNotSpent a preimages e

-- ---- what the call leaves

pub record LeftSpend : Type 0 where
  pub status : ℕ
  pub answer : SpendAnswer
  pub lists : SpendLists

abbrev pub spend_told : SpendParts → SpendAnswer
spend_told s = record {
  bytes = length s.bytes;
  signatures = length s.signatures;
  number = 0;
  row = 0;
  weight = s.weight;
  fee_sat = s.fee_sat;
  about = 0;
  txid = s.txid;
  shown_txid = reverse s.txid;
}

abbrev pub spend_refused : Refused → SpendAnswer
spend_refused e = record {
  bytes = 0;
  signatures = 0;
  number = number_of e.why;
  row = row_of e.about;
  weight = 0;
  fee_sat = 0;
  about = kind_of e.about;
  txid = replicate 32 0;
  shown_txid = replicate 32 0;
}

abbrev pub spend_written : SpendParts → SpendLists → SpendLists
spend_written s room = record { bytes = over s.bytes room.bytes; signatures = over s.signatures room.signatures }

abbrev pub left_by_spend : SpendParts → SpendLists → LeftSpend
left_by_spend s room = if nat_le (length s.bytes) (length room.bytes) && nat_le (length s.signatures) (length room.signatures)
    then record { status = 0; answer = spend_told s; lists = spend_written s room }
    else record { status = 2; answer = spend_told s; lists = room }

abbrev pub spend_left_by : Result SpendParts Refused → SpendLists → LeftSpend
spend_left_by (Ok s) room = left_by_spend s room
spend_left_by (Err e) room = record { status = status_of e.why; answer = spend_refused e; lists = room }

-- the call leaves this, by what becomes of the rows
abbrev pub AnswersSpend : Asked → List (List ℕ) → SpendLists → LeftSpend → Type 0
AnswersSpend a preimages before after = (r : Result SpendParts Refused) × IsSpent a preimages r × (spend_left_by r before ≡ after)
