-- What a commitment of rows lets one claim of a transaction, revoked or not, or why nothing is answered.
use Rattle.std.specs.Prelude.{◌≡◌, ◌⊎◌, ℕ, Bool, true, false, ◌&&◌, nat_le, if◌then◌else◌, List, [], length, map, Option, Some, None, Result, Ok, Err}
use Rattle.tx.specs.declared.errors.DecodeError.{DecodeError}
use Rattle.tx.specs.declared.errors.DecodeError.TheVariants.{BadMarker}
use Rattle.tx.specs.Fields.{Transaction}
use Rattle.tx.specs.Reading.{reading, stripped_reading, Fails}
use Rattle.claim.specs.Claims.{ClaimParts}
use Rattle.commit.specs.declared.fees.Direction.{Direction}
use Rattle.commit.specs.declared.fees.Direction.TheVariants.{Offered, Received}
use Rattle.penalty.specs.Claimable.{Claimable}
use Rattle.penalty.specs.Sets.{AreClaimsOn}
use Rattle.revoked.specs.Parts.{RevokedParts}
use Rattle.revoked.specs.declared.outputs.RevokedOutput.{RevokedOutput}
use Rattle.revoked.specs.declared.outputs.RevokedOutput.TheVariants.{ToLocal, ToRemote, ToHtlc}
use Rattle.revoked.specs.Programs.{output_with}
use Rattle.revoked.specs.Reading as revoked
use Rattle.unilateral.specs.declared.closes.Close.{Close}
use Rattle.unilateral.specs.declared.names.FundingKeys.{FundingKeys}
use Rattle.unilateral.specs.declared.names.OutputName.{OutputName}
use Rattle.unilateral.specs.declared.names.OutputName.TheVariants as names
use Rattle.unilateral.specs.Heights.{from_height, deadline_height}
use Rattle.unilateral.specs.Names.{name_at}
use Rattle.unilateral.specs.Reading as unrevoked
use Rattle.enforce_c.specs.declared.claim_rows.ClaimRow.{ClaimRow}
use Rattle.enforce_c.specs.declared.claim_rows.SlotRow.{SlotRow}
use Rattle.enforce_c.specs.declared.commitment_rows.Question.{Question}
use Rattle.enforce_c.specs.declared.commitment_rows.Question.TheVariants.{OfRevoked, OfClose}
use Rattle.enforce_c.specs.declared.commitment_rows.Commitment.{Commitment}
use Rattle.enforce_c.specs.declared.commitment_rows.HtlcRow.{HtlcRow}
use Rattle.enforce_c.specs.declared.commitment_rows.FoundRow.{FoundRow}
use Rattle.enforce_c.specs.declared.commitment_rows.OtherRow.{OtherRow}
use Rattle.enforce_c.specs.declared.commitment_rows.FoundAnswer.{FoundAnswer}
use Rattle.enforce_c.specs.declared.statuses.Refusal.{Refusal}
use Rattle.enforce_c.specs.declared.statuses.Refusal.TheVariants.{Decode}
use Rattle.enforce_c.specs.Statuses.{status_of, number_of}
use Rattle.enforce_c.specs.Answers.{over}
use Rattle.enforce_c.specs.Claimed.{or_then}
use Rattle.enforce_c.specs.Spent.{AreClaimsOf, UnlessMemory}
use Rattle.enforce_c.specs.ClaimLists.{ListsOfClaims, claim_lists, AreReadAs}
use Rattle.enforce_c.specs.Commitments.{whose_of, fault_in, commitment_fault, IsCommitmentOf}

-- ---- the transaction

-- bytes without marker and flag have no witnesses (BIP 144)
abbrev pub or_stripped : List ℕ → Result Transaction DecodeError → Result Transaction DecodeError
or_stripped bytes (Err BadMarker) = stripped_reading bytes
or_stripped bytes r = r

-- the transaction that bytes spell, with witnesses or without, or the first fault from left to right
abbrev pub transaction_of : List ℕ → Result Transaction DecodeError
transaction_of bytes = or_stripped bytes (reading bytes)

-- ---- what is found

-- what a call is given: the question, whose commitment it is, the rows that name it, the commitment's feerate, the preimages that are known, the bytes of the transaction, and the height of the block that has it
pub record Seen : Type 0 where
  pub question : Question
  pub whose : ℕ
  pub commitment : Commitment
  pub htlcs : List HtlcRow
  pub feerate_per_kw : ℕ
  pub preimages : List (List ℕ)
  pub tx : List ℕ
  pub confirmed_height : ℕ

-- rows of claims, which output each is on, rows of the claims' slots, the other outputs, and the bytes that rows refer to
pub record FoundLists : Type 0 where
  pub claims : List ClaimRow
  pub found : List FoundRow
  pub slots : List SlotRow
  pub others : List OtherRow
  pub bytes : List ℕ

-- what the question asks: all that a revoked commitment lets its owner's peer claim, or all that one which is not revoked lets one claim
abbrev pub claimed_by : Question → Close → Transaction → List Claimable
claimed_by OfRevoked k t = revoked.claimed_in k.commitment t
claimed_by OfClose k t = unrevoked.claimed_in k t

abbrev pub others_by : Question → Close → Transaction → List ℕ
others_by OfRevoked k t = revoked.others_in k.commitment t
others_by OfClose k t = unrevoked.others_in k t

-- the kind of an output
abbrev pub htlc_kind : Direction → ℕ
htlc_kind Offered = 3
htlc_kind Received = 4

abbrev pub kind_of : RevokedOutput → ℕ
kind_of ToLocal = 1
kind_of ToRemote = 2
kind_of (ToHtlc h) = htlc_kind h.direction

-- its row, by the first block that can have a transaction with the claim, and the first in which the other side can take it
abbrev pub found_row : ℕ → ℕ → Option ℕ → FoundRow
found_row kind from (Some height) = record { kind = kind; has_deadline = true; from_height = from; deadline_height = height }
found_row kind from None = record { kind = kind; has_deadline = false; from_height = from; deadline_height = 0 }

-- that of a program, by the output of the commitment that has it. Each claim's program is one of the commitment's
abbrev pub row_of_output : Close → ℕ → ℕ → Option RevokedOutput → FoundRow
row_of_output k confirmed_height from (Some o) = found_row (kind_of o) from (deadline_height k o confirmed_height)
row_of_output k confirmed_height from None = found_row 0 from None

abbrev pub row_of_claim : Close → ℕ → ClaimParts → FoundRow
row_of_claim k confirmed_height c = row_of_output k confirmed_height (from_height c confirmed_height) (output_with k.commitment c.place.program)

-- the kind of an output without a claim
abbrev pub name_kind : OutputName → ℕ
name_kind names.Unknown = 0
name_kind names.ToLocal = 1
name_kind names.ToRemote = 2
name_kind names.Offered = 3
name_kind names.Received = 4
name_kind names.OurAnchor = 5
name_kind names.PeersAnchor = 6

abbrev pub other_row : RevokedParts → Option FundingKeys → Transaction → ℕ → OtherRow
other_row r funding_keys t index = record { index = index; kind = name_kind (name_at r funding_keys t index) }

-- how `enforce_unsigned_spend` reads the rows: as these claims. One's own HTLC transactions it does not read
abbrev pub AreReadBy : Question → FoundLists → List ClaimParts → Type 0
AreReadBy OfRevoked f claims = AreClaimsOf f.slots f.bytes f.claims claims
AreReadBy OfClose f claims = AreReadAs f.slots f.bytes f.claims claims

abbrev pub rows_in : FoundLists → ListsOfClaims
rows_in f = record { claims = f.claims; slots = f.slots; bytes = f.bytes }

-- the rows of all that is claimed, and of the other outputs: each output is claimed, or named
pub record IsFoundIn (q : Question) (k : Close) (funding_keys : Option FundingKeys) (t : Transaction) (confirmed_height : ℕ) (f : FoundLists) : Type 0 where
  pub claims : List ClaimParts
  pub claimed : AreClaimsOn (claimed_by q k t) claims
  pub rows : rows_in f ≡ claim_lists claims
  pub read : AreReadBy q f claims
  pub found : f.found ≡ map (row_of_claim k confirmed_height) claims
  pub others : f.others ≡ map (other_row k.commitment funding_keys t) (others_by q k t)

-- the same of the bytes of a transaction
pub record IsFoundInBytes (q : Question) (k : Close) (funding_keys : Option FundingKeys) (bytes : List ℕ) (confirmed_height : ℕ) (f : FoundLists) : Type 0 where
  pub tx : Transaction
  pub seen : transaction_of bytes ≡ Ok tx
  pub found : IsFoundIn q k funding_keys tx confirmed_height f

-- the close that a call is asked of
pub record IsCloseSeen (a : Seen) (k : Close) (funding_keys : Option FundingKeys) : Type 0 where
  pub whose : whose_of a.whose ≡ Ok k.whose
  pub named : IsCommitmentOf a.commitment a.htlcs k.commitment funding_keys
  pub feerate : k.feerate_per_kw ≡ a.feerate_per_kw
  pub preimages : k.preimages ≡ a.preimages

-- and of the commitment that rows name
pub record IsFoundOf (a : Seen) (f : FoundLists) : Type 0 where
  pub close : Close
  pub funding_keys : Option FundingKeys
  pub seen : IsCloseSeen a close funding_keys
  pub found : IsFoundInBytes a.question close funding_keys a.tx a.confirmed_height f

-- the bytes are of no transaction: this is the first fault from left to right
pub record IsNotRead (bytes : List ℕ) (e : Refusal) : Type 0 where
  pub why : DecodeError
  pub named : e ≡ Decode why
  pub first : Fails why (transaction_of bytes)

-- the first fault of the rows: whose commitment it is, and then the commitment's own
abbrev pub seen_fault : Seen → Option Refusal
seen_fault a = or_then (fault_in (whose_of a.whose)) (commitment_fault a.commitment a.htlcs)

-- why nothing is answered: the first fault of the rows, else that of the transaction's bytes
abbrev pub IsNotFound : Seen → Refusal → Type 0
IsNotFound a e = UnlessMemory e ((seen_fault a ≡ Some e) ⊎ ((seen_fault a ≡ None) × IsNotRead a.tx e))

abbrev pub IsFound : Seen → Result FoundLists Refusal → Type 0
IsFound a (Ok f) = IsFoundOf a f
IsFound a (Err e) = IsNotFound a e

-- what a revoked commitment is asked: it is the owner's, who is one's peer
abbrev pub asked_of_revoked : Commitment → List HtlcRow → List ℕ → ℕ → Seen
asked_of_revoked c htlcs tx confirmed_height =
    record { question = OfRevoked; whose = 2; commitment = c; htlcs = htlcs; feerate_per_kw = 0; preimages = []; tx = tx; confirmed_height = confirmed_height }

-- ---- what the call leaves

pub record LeftFound : Type 0 where
  pub status : ℕ
  pub answer : FoundAnswer
  pub lists : FoundLists

abbrev pub found_sizes : FoundLists → FoundAnswer
found_sizes f = record { claims = length f.claims; slots = length f.slots; others = length f.others; bytes = length f.bytes; number = 0 }

abbrev pub found_refused : Refusal → FoundAnswer
found_refused e = record { claims = 0; slots = 0; others = 0; bytes = 0; number = number_of e }

abbrev pub found_written : FoundLists → FoundLists → FoundLists
found_written f room = record {
  claims = over f.claims room.claims;
  found = over f.found room.found;
  slots = over f.slots room.slots;
  others = over f.others room.others;
  bytes = over f.bytes room.bytes;
}

-- each buffer has room
abbrev pub found_fits : FoundLists → FoundLists → Bool
found_fits f room = nat_le (length f.claims) (length room.claims) && nat_le (length f.found) (length room.found) && nat_le (length f.slots) (length room.slots)
    && nat_le (length f.others) (length room.others) && nat_le (length f.bytes) (length room.bytes)

abbrev pub left_by_found : FoundLists → FoundLists → LeftFound
left_by_found f room = if found_fits f room
    then record { status = 0; answer = found_sizes f; lists = found_written f room }
    else record { status = 2; answer = found_sizes f; lists = room }

abbrev pub found_left_by : Result FoundLists Refusal → FoundLists → LeftFound
found_left_by (Ok f) room = left_by_found f room
found_left_by (Err e) room = record { status = status_of e; answer = found_refused e; lists = room }

-- the call leaves this, by what becomes of the rows and of the transaction
abbrev pub AnswersFound : Seen → FoundLists → LeftFound → Type 0
AnswersFound a before after = (r : Result FoundLists Refusal) × IsFound a r × (found_left_by r before ≡ after)
