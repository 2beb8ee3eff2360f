-- Why claims are not filled, in the order in which it is checked.
use Rattle.std.specs.Prelude.{◌≡◌, ◌⊎◌, ℕ, Bool, true, false, ◌&&◌, ◌||◌, not, nat_lt, List, [], ◌∷◌, length, map, sum_by, None, is_some, IsTrue}
use Rattle.std.specs.List.{list_any, flat_map}
use Rattle.std.specs.Str.{bytes_eq}
use Rattle.tx.specs.Parts.{Output}
use Rattle.tx.specs.Fields.{total_value}
use Rattle.tx.specs.Spelling.{outpoint}
use Rattle.keys.specs.Rights.{Rights, MaySign}
use Rattle.claim.specs.declared.parts.Slot.{Slot}
use Rattle.claim.specs.declared.parts.Slot.TheVariants.{Sig, Preimage, Exact}
use Rattle.claim.specs.declared.parts.Shell.{Shell}
use Rattle.claim.specs.declared.parts.Shell.TheVariants.{Open, Fixed}
use Rattle.claim.specs.Claims.{ClaimParts}
use Rattle.filling.specs.declared.errors.FillError.{FillError}
use Rattle.filling.specs.declared.errors.FillError.TheVariants.{NoMemory, NoRight, NoPreimage, OutputsExceed, MixedShells, SameOutpoint}
use Rattle.filling.specs.Filling.{preimage_of}

-- the numbers of the refusals
abbrev pub fill_error_number : FillError → ℕ
fill_error_number NoMemory = 0
fill_error_number NoRight = 1
fill_error_number NoPreimage = 2
fill_error_number OutputsExceed = 3
fill_error_number MixedShells = 4
fill_error_number SameOutpoint = 5

abbrev pub is_fixed : Shell → Bool
is_fixed Open = false
is_fixed (Fixed t) = true

-- a claim has a fixed transaction
abbrev pub has_fixed : List ClaimParts → Bool
has_fixed claims = list_any (λ c. is_fixed c.shell) claims

-- a claim with a fixed transaction is not alone
abbrev pub are_mixed : List ClaimParts → Bool
are_mixed claims = nat_lt 1 (length claims) && has_fixed claims

-- two of the byte strings are the same
abbrev pub has_repeat : List (List ℕ) → Bool
has_repeat [] = false
has_repeat (x ∷ xs) = list_any (bytes_eq x) xs || has_repeat xs

-- two claims spend the same outpoint, by the bytes of their outpoints (BIP 144)
abbrev pub share_outpoint : List ClaimParts → Bool
share_outpoint claims = has_repeat (map (λ c. outpoint c.place.outpoint) claims)

-- the satoshis of the claimed outputs together
abbrev pub total_claimed : List ClaimParts → ℕ
total_claimed claims = sum_by (λ c. c.place.value) claims

-- the outputs of open claims are worth more than the claimed outputs; a fixed transaction has its own outputs
abbrev pub do_exceed : List ClaimParts → List Output → Bool
do_exceed claims os = not (has_fixed claims) && nat_lt (total_claimed claims) (total_value os)

-- a slot can be filled: the signer has a right to its key, or a preimage of its hash is given
abbrev pub IsFillable : Rights → List (List ℕ) → Slot → Type 0
IsFillable r preimages (Sig k) = MaySign r k.bytes
IsFillable r preimages (Preimage h) = IsTrue (is_some (preimage_of preimages h))
IsFillable r preimages (Exact b) = Unit {0}

abbrev pub AreFillable : Rights → List (List ℕ) → List Slot → Type 0
AreFillable r preimages [] = Unit {0}
AreFillable r preimages (slot ∷ slots) = IsFillable r preimages slot × AreFillable r preimages slots

-- if the slot wants a preimage, it is given
abbrev pub HasPreimage : List (List ℕ) → Slot → Type 0
HasPreimage preimages (Sig k) = Unit {0}
HasPreimage preimages (Preimage h) = IsTrue (is_some (preimage_of preimages h))
HasPreimage preimages (Exact b) = Unit {0}

-- so is that of each slot
abbrev pub HavePreimages : List (List ℕ) → List Slot → Type 0
HavePreimages preimages [] = Unit {0}
HavePreimages preimages (slot ∷ slots) = HasPreimage preimages slot × HavePreimages preimages slots

-- what a slot lacks
abbrev pub Lacks : Rights → List (List ℕ) → Slot → FillError → Type 0
Lacks r preimages (Sig k) NoRight = MaySign r k.bytes → ⊥
Lacks r preimages (Preimage h) NoPreimage = preimage_of preimages h ≡ None
Lacks r preimages slot e = ⊥

-- what the first slot that cannot be filled lacks
abbrev pub LacksFirst : Rights → List (List ℕ) → List Slot → FillError → Type 0
LacksFirst r preimages [] e = ⊥
LacksFirst r preimages (slot ∷ slots) e = Lacks r preimages slot e ⊎ (IsFillable r preimages slot × LacksFirst r preimages slots e)

-- the slots of all claims, by claim, the top of the stack first
abbrev pub all_slots : List ClaimParts → List Slot
all_slots claims = flat_map (λ c. c.slots) claims

-- P has to hold, unless the refusal is out of memory
abbrev pub UnlessMemory : FillError → Type 0 → Type 0
UnlessMemory NoMemory P = Unit {0}
UnlessMemory e P = P

-- none of the checks on the whole refuses
pub record ArePassed (claims : List ClaimParts) (outputs : List Output) : Type 0 where
  pub unmixed : are_mixed claims ≡ false
  pub apart : share_outpoint claims ≡ false
  pub within : do_exceed claims outputs ≡ false

-- the refusal is the first that holds, in the order MixedShells, SameOutpoint, OutputsExceed, and then slot by slot
abbrev pub IsFirstRefusal : List ClaimParts → List Output → Rights → List (List ℕ) → FillError → Type 0
IsFirstRefusal claims outputs r preimages NoMemory = Unit {0}
IsFirstRefusal claims outputs r preimages MixedShells = are_mixed claims ≡ true
IsFirstRefusal claims outputs r preimages SameOutpoint = (are_mixed claims ≡ false) × (share_outpoint claims ≡ true)
IsFirstRefusal claims outputs r preimages OutputsExceed = (are_mixed claims ≡ false) × (share_outpoint claims ≡ false) × (do_exceed claims outputs ≡ true)
IsFirstRefusal claims outputs r preimages e = ArePassed claims outputs × LacksFirst r preimages (all_slots claims) e
