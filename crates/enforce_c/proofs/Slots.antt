-- Slots that are filled one by one, as their rows say.
use Rattle.std.proofs.Common.{◌≡◌, ◌<◌, ◌≤◌, ◌+◌, ℕ, List, [], ◌∷◌, ◌++◌, length, take, drop, get_or, subst, sym, ap, ◌∙◌}
use Rattle.std.specs.Prelude.{Option, Some, None, Bool, true, false, not, ◌==◌, nat_lt, if◌then◌else◌}
use Rattle.script.specs.Token.{is_key}
use Rattle.script.specs.declared.limits.TheConstants.{MAX_SCRIPT_ELEMENT_SIZE}
use Rattle.std.proofs.lemmas.List.{take_more, take_all, drop_more}
use Rattle.claim.specs.declared.parts.Slot.{Slot}
use Rattle.enforce_c.specs.declared.claim_rows.ClaimRow.{ClaimRow}
use Rattle.enforce_c.specs.declared.claim_rows.SlotRow.{SlotRow}
use Rattle.enforce_c.specs.declared.statuses.Refusal.{Refusal}
use Rattle.enforce_c.specs.declared.statuses.Refusal.TheVariants.{NoMemory, Parse, Check, Accept, NotAKey, OutOfRange, NoSuchSlot, ItemTooLong, SlotOutOfRange}
use Rattle.enforce_c.specs.Ranges.{has_part, part}
use Rattle.enforce_c.specs.Claimed.{IsFirst, or_then, item_fault, slot_fault, slots_fault, FillsAs, FillAs, slots_in, rows_fault, IsNoClaim}

-- a refusal that is the first of a part is the first of the whole, where the whole has that of the part
pub first_of : (part whole : Option Refusal) (e : Refusal) → IsFirst part e → (part ≡ Some e → whole ≡ Some e) → IsFirst whole e
first_of part whole NoMemory is f = tt
first_of part whole e is f = f is

-- one more slot
filled_more : (bytes : List ℕ) (rows : List SlotRow) (slots : List Slot) (row : SlotRow) (slot : Slot) → FillAs bytes rows slots → FillsAs bytes row slot → FillAs bytes (rows ++ row ∷ []) (slots ++ slot ∷ [])
filled_more bytes [] [] row slot all here = (here, tt)
filled_more bytes [] (other ∷ slots) row slot all here = absurd all
filled_more bytes (one ∷ rows) [] row slot all here = absurd all
filled_more bytes (one ∷ rows) (other ∷ slots) row slot all here = (all.0, filled_more bytes rows slots row slot all.1 here)

pub filled_next : (bytes : List ℕ) (rows : List SlotRow) (i : ℕ) (d row : SlotRow) (old : List Slot) (slot : Slot) → i < length rows → row ≡ get_or rows i d → FillAs bytes (take i rows) old → FillsAs bytes row slot
    → FillAs bytes (take (i + 1) rows) (old ++ slot ∷ [])
filled_next bytes rows i d row old slot h e all here =
    let more : take i rows ++ row ∷ [] ≡ take (i + 1) rows = ap (λ r. take i rows ++ r ∷ []) e ∙ sym (take_more rows i d h) in
    subst (λ rs. FillAs bytes rs (old ++ slot ∷ [])) more (filled_more bytes (take i rows) old row slot all here)

pub filled_all : (bytes : List ℕ) (rows : List SlotRow) (i : ℕ) (slots : List Slot) → length rows ≤ i → FillAs bytes (take i rows) slots → FillAs bytes rows slots
filled_all bytes rows i slots h all = subst (λ rs. FillAs bytes rs slots) (take_all i rows h) all

-- the faults of the rows that are left, by the next one
left : (bytes : List ℕ) (rows : List SlotRow) (i : ℕ) (d row : SlotRow) → i < length rows → row ≡ get_or rows i d → slots_fault bytes i (drop i rows) ≡ or_then (slot_fault bytes i row) (slots_fault bytes (i + 1) (drop (i + 1) rows))
left bytes rows i d row h e = ap (slots_fault bytes i) (drop_more rows i d h) ∙ ap (λ r. or_then (slot_fault bytes i r) (slots_fault bytes (i + 1) (drop (i + 1) rows))) (sym e)

pub faultless_next : (bytes : List ℕ) (rows : List SlotRow) (i : ℕ) (d row : SlotRow) → i < length rows → row ≡ get_or rows i d → slot_fault bytes i row ≡ None → slots_fault bytes i (drop i rows) ≡ slots_fault bytes 0 rows
    → slots_fault bytes (i + 1) (drop (i + 1) rows) ≡ slots_fault bytes 0 rows
faultless_next bytes rows i d row h e none whole =
    let rest = slots_fault bytes (i + 1) (drop (i + 1) rows) in
    sym (ap (λ f. or_then f rest) none) ∙ sym (left bytes rows i d row h e) ∙ whole

pub fault_here : (bytes : List ℕ) (rows : List SlotRow) (i : ℕ) (d row : SlotRow) (e : Refusal) → i < length rows → row ≡ get_or rows i d → IsFirst (slot_fault bytes i row) e → slots_fault bytes i (drop i rows) ≡ slots_fault bytes 0 rows
    → IsFirst (slots_fault bytes 0 rows) e
fault_here bytes rows i d row e h same is whole =
    let rest = slots_fault bytes (i + 1) (drop (i + 1) rows) in
    first_of (slot_fault bytes i row) (slots_fault bytes 0 rows) e is (λ f. sym whole ∙ left bytes rows i d row h same ∙ ap (λ x. or_then x rest) f)

-- ---- a fault of slots refuses the claim

-- the refusals of a slot's row
abbrev IsOfRow : Refusal → Type 0
IsOfRow (NotAKey index) = Unit {0}
IsOfRow (NoSuchSlot index) = Unit {0}
IsOfRow (ItemTooLong index) = Unit {0}
IsOfRow (SlotOutOfRange index) = Unit {0}
IsOfRow e = ⊥

abbrev IsRowFault : Option Refusal → Type 0
IsRowFault None = Unit {0}
IsRowFault (Some e) = IsOfRow e

either : (b : Bool) (x y : Option Refusal) → IsRowFault x → IsRowFault y → IsRowFault (if b then x else y)
either true x y p q = p
either false x y p q = q

first : (x y : Option Refusal) → IsRowFault x → IsRowFault y → IsRowFault (or_then x y)
first None y p q = q
first (Some e) y p q = p

row_fault : (bytes : List ℕ) (index : ℕ) (row : SlotRow) → IsRowFault (slot_fault bytes index row)
row_fault bytes index row =
    let is_long = nat_lt MAX_SCRIPT_ELEMENT_SIZE (length (part row.bytes_at row.bytes_length bytes)) in
    let item : IsRowFault (item_fault bytes index row) =
    either (has_part row.bytes_at row.bytes_length bytes) (if is_long then Some (ItemTooLong index) else None) (Some (SlotOutOfRange index)) (either is_long (Some (ItemTooLong index)) None tt tt) tt in
    let others = if row.kind == 3 then item_fault bytes index row else Some (NoSuchSlot index) in
    let signed = if is_key row.key then None else Some (NotAKey index) in
    either (row.kind == 1) signed (if row.kind == 2 then None else others) (either (is_key row.key) None (Some (NotAKey index)) tt tt)
    (either (row.kind == 2) None others tt (either (row.kind == 3) (item_fault bytes index row) (Some (NoSuchSlot index)) item tt))

row_faults : (bytes : List ℕ) (index : ℕ) (rows : List SlotRow) → IsRowFault (slots_fault bytes index rows)
row_faults bytes index [] = tt
row_faults bytes index (row ∷ rows) = first (slot_fault bytes index row) (slots_fault bytes (index + 1) rows) (row_fault bytes index row) (row_faults bytes (index + 1) rows)

of_row : (bytes : List ℕ) (rows : List SlotRow) (e : Refusal) → slots_fault bytes 0 rows ≡ Some e → IsOfRow e
of_row bytes rows e is = subst IsRowFault is (row_faults bytes 0 rows)

-- where all that a claim's row refers to is there, its fault is that of its slots
read : (row : ClaimRow) (rows : List SlotRow) (bytes : List ℕ) → has_part row.script_at row.script_length bytes ≡ true → has_part row.program_at row.program_length bytes ≡ true → has_part row.first_slot row.slots rows ≡ true
    → rows_fault row rows bytes ≡ slots_fault bytes 0 (slots_in row rows)
read row rows bytes script program slots =
    let third : Option Refusal = if not (has_part row.first_slot row.slots rows) then Some OutOfRange else slots_fault bytes 0 (slots_in row rows) in
    let second : Option Refusal = if not (has_part row.program_at row.program_length bytes) then Some OutOfRange else third in
    ap (λ b. if not b then Some OutOfRange else second) script ∙ ap (λ b. if not b then Some OutOfRange else third) program
    ∙ ap (λ b. if not b then Some OutOfRange else slots_fault bytes 0 (slots_in row rows)) slots

refused : (row : ClaimRow) (rows : List SlotRow) (bytes : List ℕ) (e : Refusal) → rows_fault row rows bytes ≡ slots_fault bytes 0 (slots_in row rows) → IsFirst (slots_fault bytes 0 (slots_in row rows)) e → IsNoClaim row rows bytes e
refused row rows bytes NoMemory whole is = tt
refused row rows bytes (Parse p) whole is = absurd (of_row bytes (slots_in row rows) (Parse p) is)
refused row rows bytes (Check c) whole is = absurd (of_row bytes (slots_in row rows) (Check c) is)
refused row rows bytes (Accept a) whole is = absurd (of_row bytes (slots_in row rows) (Accept a) is)
refused row rows bytes e whole is = whole ∙ is

pub no_slots : (row : ClaimRow) (rows found : List SlotRow) (bytes : List ℕ) (e : Refusal) → has_part row.script_at row.script_length bytes ≡ true → has_part row.program_at row.program_length bytes ≡ true
    → has_part row.first_slot row.slots rows ≡ true → found ≡ part row.first_slot row.slots rows → IsFirst (slots_fault bytes 0 found) e → IsNoClaim row rows bytes e
no_slots row rows found bytes e script program slots same is =
    refused row rows bytes e (read row rows bytes script program slots) (subst (λ rs. IsFirst (slots_fault bytes 0 rs) e) same is)
