-- The rows of slots, as they are written, are read as these slots.
use Rattle.std.proofs.Common.{◌≡◌, ℕ, suc, ◌+◌, List, [], ◌∷◌, ◌++◌, length, refl, subst, sym, ap, ◌∙◌, append_assoc}
use Rattle.std.specs.Prelude.{Option, Some, None, Bool, true, false, ◌==◌, nat_lt, if◌then◌else◌}
use Rattle.std.proofs.lemmas.Bool.{le-ltb}
use Rattle.std.proofs.lemmas.List.{append-nil}
use Rattle.script.specs.Token.{is_key}
use Rattle.script.specs.declared.limits.TheConstants.{MAX_SCRIPT_ELEMENT_SIZE}
use Rattle.claim.specs.declared.parts.Slot.{Slot}
use Rattle.claim.specs.declared.parts.Slot.TheVariants.{Sig, Preimage, Exact}
use Rattle.enforce_c.specs.declared.claim_rows.SlotRow.{SlotRow}
use Rattle.enforce_c.specs.declared.statuses.Refusal.{Refusal}
use Rattle.enforce_c.specs.declared.statuses.Refusal.TheVariants.{NotAKey, NoSuchSlot, ItemTooLong, SlotOutOfRange}
use Rattle.enforce_c.specs.Ranges.{has_part, part}
use Rattle.enforce_c.specs.Claimed.{or_then, item_fault, slot_fault, slots_fault, FillsAs, FillAs}
use Rattle.claim.specs.declared.parts.Shell.{Shell}
use Rattle.claim.specs.declared.parts.Shell.TheVariants.{Open, Fixed}
use Rattle.tx.specs.Fields.{Transaction}
use Rattle.tx.specs.Spelling.{stripped_spelling}
use Rattle.enforce_c.specs.ClaimLists.{ListsOfClaims, slot_row, given_row, token_in, item_in, with_fixed, with_slot, with_slots}
use Rattle.enforce_c.proofs.Parts.{stands_here, stands_more}

-- the fault of a slot's row, by that of its item
abbrev by_item : ℕ → (is_signed is_preimage is_exact : Bool) (key item : Option Refusal) → Option Refusal
by_item index is_signed is_preimage is_exact key item = if is_signed then key else if is_preimage then None else if is_exact then item else Some (NoSuchSlot index)

still_none : (index : ℕ) (a b c : Bool) (k f g : Option Refusal) → by_item index a b c k f ≡ None → (f ≡ None → g ≡ None) → by_item index a b c k g ≡ None
still_none index true b c k f g e more = e
still_none index false true c k f g e more = refl
still_none index false false true k f g e more = more e
still_none index false false false k f g e more = e

-- an item that is there, and is not too long
record IsItem (bytes : List ℕ) (row : SlotRow) : Type 0 where
  there : has_part row.bytes_at row.bytes_length bytes ≡ true
  short : nat_lt MAX_SCRIPT_ELEMENT_SIZE (length (part row.bytes_at row.bytes_length bytes)) ≡ false

abbrev item_by : ℕ → Bool → Bool → Option Refusal
item_by index there long = if there then (if long then Some (ItemTooLong index) else None) else Some (SlotOutOfRange index)

no_fault : (index : ℕ) (there long : Bool) → item_by index there long ≡ None → (there ≡ true) × (long ≡ false)
no_fault index true true e = absurd (let t : Some (ItemTooLong index) ≡ None = e in cc)
no_fault index true false e = (refl, refl)
no_fault index false long e = absurd (let t : Some (SlotOutOfRange index) ≡ None = e in cc)

is_item : (bytes : List ℕ) (index : ℕ) (row : SlotRow) → item_fault bytes index row ≡ None → IsItem bytes row
is_item bytes index row e =
    let two = no_fault index (has_part row.bytes_at row.bytes_length bytes) (nat_lt MAX_SCRIPT_ELEMENT_SIZE (length (part row.bytes_at row.bytes_length bytes))) e in
    record { there = two.0; short = two.1 }

faultless_item : (bytes : List ℕ) (index : ℕ) (row : SlotRow) → IsItem bytes row → item_fault bytes index row ≡ None
faultless_item bytes index row h = ap (λ b. item_by index b (nat_lt MAX_SCRIPT_ELEMENT_SIZE (length (part row.bytes_at row.bytes_length bytes)))) h.there ∙ ap (item_by index true) h.short

-- in more bytes an item is what it was
item_more : (bytes more : List ℕ) (index : ℕ) (row : SlotRow) → item_fault bytes index row ≡ None → item_fault (bytes ++ more) index row ≡ None
item_more bytes more index row e =
    let h = is_item bytes index row e in
    let s = stands_more row.bytes_at row.bytes_length bytes more h.there in
    faultless_item (bytes ++ more) index row (record { there = s.there; short = ap (λ xs. nat_lt MAX_SCRIPT_ELEMENT_SIZE (length xs)) s.same ∙ h.short })

slot_more : (bytes more : List ℕ) (index : ℕ) (row : SlotRow) → slot_fault bytes index row ≡ None → slot_fault (bytes ++ more) index row ≡ None
slot_more bytes more index row e =
    still_none index (row.kind == 1) (row.kind == 2) (row.kind == 3) (if is_key row.key then None else Some (NotAKey index)) (item_fault bytes index row) (item_fault (bytes ++ more) index row) e (item_more bytes more index row)

pub first_none : (x y : Option Refusal) → or_then x y ≡ None → (x ≡ None) × (y ≡ None)
first_none None y e = (refl, e)
first_none (Some x) y e = absurd (let t : Some x ≡ None = e in cc)

pub slots_more : (bytes more : List ℕ) (index : ℕ) (rows : List SlotRow) → slots_fault bytes index rows ≡ None → slots_fault (bytes ++ more) index rows ≡ None
slots_more bytes more index [] e = refl
slots_more bytes more index (row ∷ rows) e =
    let two = first_none (slot_fault bytes index row) (slots_fault bytes (index + 1) rows) e in
    ap (λ x. or_then x (slots_fault (bytes ++ more) (index + 1) rows)) (slot_more bytes more index row two.0) ∙ slots_more bytes more (index + 1) rows two.1

exact_item : (bytes : List ℕ) (index : ℕ) (row : SlotRow) → row.kind ≡ 3 → slot_fault bytes index row ≡ None → item_fault bytes index row ≡ None
exact_item bytes index row is e =
    let key = if is_key row.key then None else Some (NotAKey index) in
    sym (ap (λ k. by_item index (k == 1) (k == 2) (k == 3) key (item_fault bytes index row)) is) ∙ e

fills_more : (bytes more : List ℕ) (index : ℕ) (row : SlotRow) (s : Slot) → slot_fault bytes index row ≡ None → FillsAs bytes row s → FillsAs (bytes ++ more) row s
fills_more bytes more index row (Sig k) e h = h
fills_more bytes more index row (Preimage p) e h = h
fills_more bytes more index row (Exact w) e h =
    let item = is_item bytes index row (exact_item bytes index row h.0 e) in
    (h.0, h.1 ∙ sym (stands_more row.bytes_at row.bytes_length bytes more item.there).same)

pub fill_more : (bytes more : List ℕ) (index : ℕ) (rows : List SlotRow) (ss : List Slot) → slots_fault bytes index rows ≡ None → FillAs bytes rows ss → FillAs (bytes ++ more) rows ss
fill_more bytes more index [] [] e all = tt
fill_more bytes more index [] (s ∷ ss) e all = absurd all
fill_more bytes more index (row ∷ rows) [] e all = absurd all
fill_more bytes more index (row ∷ rows) (s ∷ ss) e all =
    let two = first_none (slot_fault bytes index row) (slots_fault bytes (index + 1) rows) e in
    (fills_more bytes more index row s two.0 all.0, fill_more bytes more (index + 1) rows ss two.1 all.1)

-- a slot that is written is read as that slot
fills_here : (before after : List ℕ) (s : Slot) → FillsAs ((before ++ item_in s) ++ after) (slot_row s (length before)) s
fills_here before after (Sig k) = (refl, refl)
fills_here before after (Preimage h) = (refl, refl)
fills_here before after (Exact w) = (refl, sym (stands_here before w.item after).same)

faultless_here : (before after : List ℕ) (index : ℕ) (s : Slot) → slot_fault ((before ++ item_in s) ++ after) index (slot_row s (length before)) ≡ None
faultless_here before after index (Sig k) = ap (λ b. if b then None else Some (NotAKey index)) k.form
faultless_here before after index (Preimage h) = refl
faultless_here before after index (Exact w) =
    let s = stands_here before w.item after in
    faultless_item ((before ++ w.item) ++ after) index (slot_row (Exact w) (length before))
    (record { there = s.there; short = ap (λ xs. nat_lt MAX_SCRIPT_ELEMENT_SIZE (length xs)) s.same ∙ le-ltb MAX_SCRIPT_ELEMENT_SIZE (length w.item) w.short })

-- what slots add to the lists
pub record Grows (l after : ListsOfClaims) : Type 0 where
  pub rows : List SlotRow
  pub more : List ℕ
  pub slots : after.slots ≡ l.slots ++ rows
  pub bytes : after.bytes ≡ l.bytes ++ more
  pub claims : after.claims ≡ l.claims

fixed_grows : (token : Option (List ℕ)) (t : Transaction) (s : Slot) (l : ListsOfClaims) → Grows l (with_fixed token t s l)
fixed_grows (Some token) t s l = record { rows = given_row token (length l.bytes) (length (stripped_spelling t)) ∷ []; more = stripped_spelling t; slots = refl; bytes = refl; claims = refl }
fixed_grows None t s l = record { rows = slot_row s (length l.bytes) ∷ []; more = item_in s; slots = refl; bytes = refl; claims = refl }

slot_grows : (shell : Shell) (s : Slot) (l : ListsOfClaims) → Grows l (with_slot shell s l)
slot_grows Open s l = record { rows = slot_row s (length l.bytes) ∷ []; more = item_in s; slots = refl; bytes = refl; claims = refl }
slot_grows (Fixed t) s l = fixed_grows (token_in s) t s l

pub grows : (shell : Shell) (ss : List Slot) (l : ListsOfClaims) → Grows l (with_slots shell ss l)
grows shell [] l = record { rows = []; more = []; slots = sym (append-nil l.slots); bytes = sym (append-nil l.bytes); claims = refl }
grows shell (s ∷ ss) l =
    let a = slot_grows shell s l in
    let b = grows shell ss (with_slot shell s l) in
    record {
      rows = a.rows ++ b.rows;
      more = a.more ++ b.more;
      slots = b.slots ∙ ap (λ xs. xs ++ b.rows) a.slots ∙ append_assoc l.slots a.rows b.rows;
      bytes = b.bytes ∙ ap (λ xs. xs ++ b.more) a.bytes ∙ append_assoc l.bytes a.more b.more;
      claims = b.claims ∙ a.claims;
    }

-- what those of a claim in an open transaction add, and that they are read as these slots
pub record Adds (ss : List Slot) (l after : ListsOfClaims) : Type 0 where
  pub rows : List SlotRow
  pub more : List ℕ
  pub slots : after.slots ≡ l.slots ++ rows
  pub bytes : after.bytes ≡ l.bytes ++ more
  pub claims : after.claims ≡ l.claims
  pub count : length rows ≡ length ss
  pub faultless : (index : ℕ) → slots_fault after.bytes index rows ≡ None
  pub filled : FillAs after.bytes rows ss

adds : (ss : List Slot) (l : ListsOfClaims) → Adds ss l (with_slots Open ss l)
adds [] l = record { rows = []; more = []; slots = sym (append-nil l.slots); bytes = sym (append-nil l.bytes); claims = refl; count = refl; faultless = λ index. refl; filled = tt }
adds (s ∷ ss) l =
    let a = adds ss (with_slot Open s l) in
    let row = slot_row s (length l.bytes) in
    let bytes : (l.bytes ++ item_in s) ++ a.more ≡ (with_slots Open ss (with_slot Open s l)).bytes = sym a.bytes in
    record {
      rows = row ∷ a.rows;
      more = item_in s ++ a.more;
      slots = a.slots ∙ append_assoc l.slots (row ∷ []) a.rows;
      bytes = a.bytes ∙ append_assoc l.bytes (item_in s) a.more;
      claims = a.claims;
      count = ap (λ n. suc n) a.count;
      faultless = λ index. ap (λ x. or_then x (slots_fault (with_slots Open ss (with_slot Open s l)).bytes (index + 1) a.rows)) (subst (λ b. slot_fault b index row ≡ None) bytes (faultless_here l.bytes a.more index s)) ∙ a.faultless (index + 1);
      filled = (subst (λ b. FillsAs b row s) bytes (fills_here l.bytes a.more s), a.filled);
    }

pub adds_in : (shell : Shell) (ss : List Slot) (l : ListsOfClaims) → shell ≡ Open → Adds ss l (with_slots shell ss l)
adds_in shell ss l is = subst (λ sh. Adds ss l (with_slots sh ss l)) (sym is) (adds ss l)
