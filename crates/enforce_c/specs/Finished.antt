-- The spend of claims with the signatures that are given, or why there is none.
use Rattle.std.specs.Prelude.{◌≡◌, ◌⊎◌, ℕ, Bool, ◌&&◌, not, ◌==◌, nat_le, if◌then◌else◌, List, [], ◌∷◌, length, map, replicate, reverse, Result, Ok, Err}
use Rattle.script.specs.Step.{◌>>=◌}
use Rattle.script.specs.Token.{token_of}
use Rattle.tx.specs.declared.input.TxIn.{TxIn}
use Rattle.tx.specs.Parts.{Output}
use Rattle.tx.specs.Fields.{Transaction}
use Rattle.tx.specs.Spelling.{IsTransaction, transaction_id}
use Rattle.claim.specs.Claims.{ClaimParts}
use Rattle.filling.specs.declared.missing.MissingSignature.{MissingSignature}
use Rattle.filling.specs.Filling.{filling_of}
use Rattle.filling.specs.Filled.{AllRunClean}
use Rattle.filling.specs.Spends.{IsUnsignedSpend, with_item, changed_at}
use Rattle.enforce_c.specs.declared.finish_rows.SignedRow.{SignedRow}
use Rattle.enforce_c.specs.declared.finish_rows.FinishAnswer.{FinishAnswer}
use Rattle.enforce_c.specs.declared.statuses.SignaturePlace.{SignaturePlace}
use Rattle.enforce_c.specs.declared.statuses.Refusal.{Refusal}
use Rattle.enforce_c.specs.declared.statuses.Refusal.TheVariants.{NoSignature, SignatureOutOfRange, NotDer, NotSighashAll, NotAsked}
use Rattle.enforce_c.specs.declared.about.Refused.{Refused}
use Rattle.enforce_c.specs.Statuses.{status_of, number_of}
use Rattle.enforce_c.specs.About.{kind_of, row_of}
use Rattle.enforce_c.specs.Faulty.{spend_about}
use Rattle.enforce_c.specs.Ranges.{has_part, part}
use Rattle.enforce_c.specs.Answers.{over}
use Rattle.enforce_c.specs.Der.{is_der, is_sighash_all}
use Rattle.enforce_c.specs.Spent.{Asked, AreRead, UnlessMemory, IsUnread, IsUnspent, IsNotEncoded}

-- ---- the signatures that rows give

abbrev pub place_of : MissingSignature → SignaturePlace
place_of m = record { input = m.input; item = m.item }

abbrev pub row_place : SignedRow → SignaturePlace
row_place row = record { input = row.input; item = row.item }

-- the item, if it has the form of a signature with hash type ALL. It is not asked whether the signature is valid
abbrev pub signature_in : SignaturePlace → List ℕ → Result (List ℕ) Refusal
signature_in place item =
    if not (is_der item) then Err (NotDer place)
    else if not (is_sighash_all item) then Err (NotSighashAll place)
    else Ok item

-- whether a row is of the place that lacks this signature
abbrev pub is_of : MissingSignature → SignedRow → Bool
is_of m row = row.input == m.input && row.item == m.item

-- the signature that a row gives for that one
abbrev pub signature_for : List ℕ → MissingSignature → SignedRow → Result (List ℕ) Refusal
signature_for bytes m row =
    if not (is_of m row) then Err (NoSignature (place_of m))
    else if not (has_part row.bytes_at row.bytes_length bytes) then Err (SignatureOutOfRange (place_of m))
    else signature_in (place_of m) (part row.bytes_at row.bytes_length bytes)

-- those of rows, one by one, or the first refusal: a row for each signature that is lacking, and no other
abbrev pub signatures_of : List ℕ → List MissingSignature → List SignedRow → Result (List (List ℕ)) Refusal
signatures_of bytes [] [] = Ok []
signatures_of bytes [] (row ∷ rows) = Err (NotAsked (row_place row))
signatures_of bytes (m ∷ missing) [] = Err (NoSignature (place_of m))
signatures_of bytes (m ∷ missing) (row ∷ rows) = do
  signature ← signature_for bytes m row
  signatures ← signatures_of bytes missing rows
  Ok (signature ∷ signatures)

-- ---- the transaction that has them

-- inputs with a signature at each item that lacks one
abbrev pub with_signatures : List MissingSignature → List (List ℕ) → List TxIn → List TxIn
with_signatures [] signatures inputs = inputs
with_signatures (m ∷ missing) [] inputs = inputs
with_signatures (m ∷ missing) (s ∷ signatures) inputs = with_signatures missing signatures (changed_at (with_item m.item s) m.input inputs)

-- a spend that lacks signatures, with these
abbrev pub signed_with : Transaction → List MissingSignature → List (List ℕ) → Transaction
signed_with t missing signatures = record t { inputs = with_signatures missing signatures t.inputs }

-- the token of each key over the digest that it signs
abbrev pub tokens_of : List MissingSignature → List (List ℕ)
tokens_of missing = map (λ m. token_of m.key.bytes m.digest) missing

-- after has the signatures that the rows give, and is what before was but for these
pub record HasSignatures (given : List ℕ) (missing : List MissingSignature) (rows : List SignedRow) (before after : Transaction) : Type 0 where
  pub signatures : List (List ℕ)
  pub read : signatures_of given missing rows ≡ Ok signatures
  pub signed : after ≡ signed_with before missing signatures

-- a transaction's bytes, and its id
pub record SignedParts : Type 0 where
  pub bytes : List ℕ
  pub txid : List ℕ

-- the bytes are those of the unsigned spend of the claims with the signatures that the rows give (BIP 144). The same with the token of each key over
-- its digest is the filling of the claims, each input of which runs clean
pub record IsSigned (claims : List ClaimParts) (outputs : List Output) (preimages : List (List ℕ)) (rows : List SignedRow) (given : List ℕ) (s : SignedParts) : Type 0 where
  pub unsigned : Transaction
  pub missing : List MissingSignature
  pub spend : IsUnsignedSpend claims outputs preimages unsigned missing
  pub tx : Transaction
  pub signed : HasSignatures given missing rows unsigned tx
  pub spelled : IsTransaction tx s.bytes
  pub id : s.txid ≡ transaction_id tx
  pub filled : signed_with unsigned missing (tokens_of missing) ≡ filling_of claims outputs preimages
  pub clean : AllRunClean (filling_of claims outputs preimages) (filling_of claims outputs preimages).inputs (map (λ c. c.place) claims)

-- ---- refusals

-- there is a spend, but a signature is refused
pub record HasNoSignature (claims : List ClaimParts) (outputs : List Output) (preimages : List (List ℕ)) (rows : List SignedRow) (given : List ℕ) (e : Refusal) : Type 0 where
  pub unsigned : Transaction
  pub missing : List MissingSignature
  pub spend : IsUnsignedSpend claims outputs preimages unsigned missing
  pub refused : signatures_of given missing rows ≡ Err e

-- it is signed, but has no bytes
pub record IsUnspelled (claims : List ClaimParts) (outputs : List Output) (preimages : List (List ℕ)) (rows : List SignedRow) (given : List ℕ) (e : Refusal) : Type 0 where
  pub unsigned : Transaction
  pub missing : List MissingSignature
  pub spend : IsUnsignedSpend claims outputs preimages unsigned missing
  pub tx : Transaction
  pub signed : HasSignatures given missing rows unsigned tx
  pub refused : IsNotEncoded tx e

-- why claims that are read are not signed: the spend, then each signature, then the bytes
abbrev pub IsNotSigned : List ClaimParts → List Output → List (List ℕ) → List SignedRow → List ℕ → Refusal → Type 0
IsNotSigned claims outputs preimages rows given e =
    IsUnspent claims outputs preimages e ⊎ (HasNoSignature claims outputs preimages rows given e ⊎ IsUnspelled claims outputs preimages rows given e)

-- the spend is made of the claims and the outputs that the rows ask for
pub record IsFinishOf (a : Asked) (preimages : List (List ℕ)) (rows : List SignedRow) (s : SignedParts) : Type 0 where
  pub claims : List ClaimParts
  pub outputs : List Output
  pub read : AreRead a claims outputs
  pub signed : IsSigned claims outputs preimages rows a.bytes s

pub record IsNoFinish (a : Asked) (preimages : List (List ℕ)) (rows : List SignedRow) (e : Refused) : Type 0 where
  pub claims : List ClaimParts
  pub outputs : List Output
  pub read : AreRead a claims outputs
  pub refused : IsNotSigned claims outputs preimages rows a.bytes e.why
  pub about : e.about ≡ spend_about claims preimages e.why

abbrev pub IsFinished : Asked → List (List ℕ) → List SignedRow → Result SignedParts Refused → Type 0
IsFinished a preimages rows (Ok s) = IsFinishOf a preimages rows s
IsFinished a preimages rows (Err e) = UnlessMemory e.why (IsUnread a e ⊎ IsNoFinish a preimages rows e)

-- ---- what the call leaves

pub record LeftFinish : Type 0 where
  pub status : ℕ
  pub answer : FinishAnswer
  pub bytes : List ℕ

abbrev pub finish_told : SignedParts → FinishAnswer
finish_told s = record { bytes = length s.bytes; number = 0; row = 0; about = 0; txid = s.txid; shown_txid = reverse s.txid }

abbrev pub finish_refused : Refused → FinishAnswer
finish_refused e = record { bytes = 0; number = number_of e.why; row = row_of e.about; about = kind_of e.about; txid = replicate 32 0; shown_txid = replicate 32 0 }

abbrev pub left_by_finish : SignedParts → List ℕ → LeftFinish
left_by_finish s room = if nat_le (length s.bytes) (length room)
    then record { status = 0; answer = finish_told s; bytes = over s.bytes room }
    else record { status = 2; answer = finish_told s; bytes = room }

abbrev pub finish_left_by : Result SignedParts Refused → List ℕ → LeftFinish
finish_left_by (Ok s) room = left_by_finish s room
finish_left_by (Err e) room = record { status = status_of e.why; answer = finish_refused e; bytes = room }

-- the call leaves this, by what becomes of the rows
abbrev pub AnswersFinish : Asked → List (List ℕ) → List SignedRow → List ℕ → LeftFinish → Type 0
AnswersFinish a preimages rows before after = (r : Result SignedParts Refused) × IsFinished a preimages rows r × (finish_left_by r before ≡ after)
