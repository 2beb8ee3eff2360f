-- The rows of claims, as the calls take them: rows of claims, rows of their slots, and the bytes that both refer to.
use Rattle.std.specs.Prelude.{◌≡◌, ℕ, if◌then◌else◌, List, [], ◌∷◌, ◌++◌, length, replicate, take, drop, Option, Some, None}
use Rattle.script.specs.Spelling.{spelling}
use Rattle.script.specs.Token.{is_token}
use Rattle.tx.specs.Fields.{Transaction}
use Rattle.tx.specs.Spelling.{stripped_spelling}
use Rattle.claim.specs.declared.parts.Slot.{Slot}
use Rattle.claim.specs.declared.parts.Slot.TheVariants.{Sig, Preimage, Exact}
use Rattle.claim.specs.declared.parts.Shell.{Shell}
use Rattle.claim.specs.declared.parts.Shell.TheVariants.{Open, Fixed}
use Rattle.claim.specs.Claims.{ClaimParts, IsSpending, IsWhole}
use Rattle.enforce_c.specs.declared.claim_rows.ClaimRow.{ClaimRow}
use Rattle.enforce_c.specs.declared.claim_rows.SlotRow.{SlotRow}
use Rattle.enforce_c.specs.Claimed.{IsClaimOf}

pub record ListsOfClaims : Type 0 where
  pub claims : List ClaimRow
  pub slots : List SlotRow
  pub bytes : List ℕ

-- the row of a slot, whose bytes, if it has any, begin at an index
abbrev pub slot_row : Slot → ℕ → SlotRow
slot_row (Sig k) at = record { kind = 1; key = k.bytes; hash = replicate 32 0; bytes_at = 0; bytes_length = 0 }
slot_row (Preimage h) at = record { kind = 2; key = replicate 33 0; hash = h; bytes_at = 0; bytes_length = 0 }
slot_row (Exact w) at = record { kind = 3; key = replicate 33 0; hash = replicate 32 0; bytes_at = at; bytes_length = length w.item }

abbrev pub item_in : Slot → List ℕ
item_in (Sig k) = []
item_in (Preimage h) = []
item_in (Exact w) = w.item

-- the row of the signature that a token stands for, which was given over a transaction: the token's key and digest, and where the transaction's bytes stand
abbrev pub given_row : List ℕ → ℕ → ℕ → SlotRow
given_row token at bytes_length = record { kind = 4; key = take 33 token; hash = take 32 (drop 33 token); bytes_at = at; bytes_length = bytes_length }

-- the token that a slot holds
abbrev pub token_in : Slot → Option (List ℕ)
token_in (Sig k) = None
token_in (Preimage h) = None
token_in (Exact w) = if is_token w.item then Some w.item else None

-- one more slot, with its bytes
abbrev pub with_item : Slot → ListsOfClaims → ListsOfClaims
with_item s l = record l { bytes = l.bytes ++ item_in s }

abbrev pub with_open : Slot → ListsOfClaims → ListsOfClaims
with_open s l = with_item s (record l { slots = l.slots ++ slot_row s (length l.bytes) ∷ [] })

-- the signature that was given over a transaction, with the bytes of this without witnesses
abbrev pub with_given : List ℕ → Transaction → ListsOfClaims → ListsOfClaims
with_given token t l = record l {
  slots = l.slots ++ given_row token (length l.bytes) (length (stripped_spelling t)) ∷ [];
  bytes = l.bytes ++ stripped_spelling t;
}

-- in a claim that is of one transaction alone, a token stands for such a signature
abbrev pub with_fixed : Option (List ℕ) → Transaction → Slot → ListsOfClaims → ListsOfClaims
with_fixed (Some token) t s l = with_given token t l
with_fixed None t s l = with_open s l

abbrev pub with_slot : Shell → Slot → ListsOfClaims → ListsOfClaims
with_slot Open s l = with_open s l
with_slot (Fixed t) s l = with_fixed (token_in s) t s l

abbrev pub with_slots : Shell → List Slot → ListsOfClaims → ListsOfClaims
with_slots shell [] l = l
with_slots shell (s ∷ ss) l = with_slots shell ss (with_slot shell s l)

-- the row of a claim, whose slots and bytes begin at indices
abbrev pub claim_row : ClaimParts → ℕ → ℕ → ℕ → ClaimRow
claim_row c first_slot at program_at = record {
  txid = c.place.outpoint.txid;
  index = c.place.outpoint.index;
  value = c.place.value;
  script_at = at;
  script_length = length (spelling c.ways.ops);
  program_at = program_at;
  program_length = length c.place.program;
  path = c.index;
  first_slot = first_slot;
  slots = length c.slots;
}

-- one more claim: its script and its program, its row, and its slots
abbrev pub with_row : ClaimParts → ListsOfClaims → ListsOfClaims
with_row c l = record {
  claims = l.claims ++ claim_row c (length l.slots) (length l.bytes) (length (l.bytes ++ spelling c.ways.ops)) ∷ [];
  slots = l.slots;
  bytes = (l.bytes ++ spelling c.ways.ops) ++ c.place.program;
}

abbrev pub with_claim : ClaimParts → ListsOfClaims → ListsOfClaims
with_claim c l = with_slots c.shell c.slots (with_row c l)

abbrev pub with_claims : List ClaimParts → ListsOfClaims → ListsOfClaims
with_claims [] l = l
with_claims (c ∷ cs) l = with_claims cs (with_claim c l)

abbrev pub no_lists : ListsOfClaims
no_lists = record { claims = []; slots = []; bytes = [] }

abbrev pub claim_lists : List ClaimParts → ListsOfClaims
claim_lists claims = with_claims claims no_lists

-- what every claim keeps of its having been accepted
pub record IsReady (c : ClaimParts) : Type 0 where
  pub whole : IsWhole c
  pub spends : IsSpending c

-- the row of a claim in an open transaction is read as this claim
abbrev pub IsReadAs : List SlotRow → List ℕ → ClaimRow → ClaimParts → Type 0
IsReadAs slots bytes row c = c.shell ≡ Open → IsClaimOf row slots bytes c

abbrev pub AreReadAs : List SlotRow → List ℕ → List ClaimRow → List ClaimParts → Type 0
AreReadAs slots bytes [] [] = Unit {0}
AreReadAs slots bytes (row ∷ rows) (c ∷ claims) = IsReadAs slots bytes row c × AreReadAs slots bytes rows claims
AreReadAs slots bytes rows claims = ⊥
