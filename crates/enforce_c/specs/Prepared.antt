-- The slots that a path asks for, as rows of a claim.
use Rattle.std.specs.Prelude.{◌≡◌, ◌⊎◌, ℕ, Bool, true, false, ◌==◌, ◌&&◌, ◌||◌, nat_le, if◌then◌else◌, List, [], ◌∷◌, ◌++◌, length, replicate, slice_get, slice_set, Option, Some, None, Result, Ok, Err}
use Rattle.std.specs.List.{list_any}
use Rattle.std.specs.Str.{bytes_eq}
use Rattle.sha2.specs.Sha256.{sha256}
use Rattle.digest.specs.Hash.{hash160}
use Rattle.sighash.specs.Programs.{script_hash_program}
use Rattle.facts.specs.Symbols.{KeySource}
use Rattle.facts.specs.declared.symbols.KeySourceOver.TheVariants.{Const as FixedKey, Slot as SlotKey}
use Rattle.facts.specs.Symbols.{Fact, Stated}
use Rattle.facts.specs.declared.symbols.FactOver.TheVariants.{Hash, Truth, Is, Token, Assigned}
use Rattle.paths.specs.declared.state.Path.{Path}
use Rattle.paths.specs.Listing.{CheckedScript}
use Rattle.claim.specs.declared.parts.Slot.{Slot}
use Rattle.claim.specs.declared.parts.Place.{Place}
use Rattle.claim.specs.declared.parts.Shell.TheVariants.{Open}
use Rattle.claim.specs.Claims.{ClaimParts, IsAcceptedOf, IsSpending}
use Rattle.claim.specs.Judgement.{judgement_of}
use Rattle.claim.specs.Fitting.{IsRefusal}
use Rattle.claim.specs.declared.errors.AcceptError.{AcceptError}
use Rattle.claim.specs.declared.errors.AcceptError.TheVariants.{NoSuchPath}
use Rattle.enforce_c.specs.declared.claim_rows.SlotRow.{SlotRow}
use Rattle.enforce_c.specs.declared.spend_rows.PreimageRow.{PreimageRow}
use Rattle.enforce_c.specs.declared.slot_rows.KeyRow.{KeyRow}
use Rattle.enforce_c.specs.declared.slot_rows.SlotsAnswer.{SlotsAnswer}
use Rattle.enforce_c.specs.declared.statuses.Refusal.{Refusal}
use Rattle.enforce_c.specs.declared.statuses.Refusal.TheVariants.{Accept}
use Rattle.enforce_c.specs.Statuses.{status_of, number_of}
use Rattle.enforce_c.specs.Ranges.{has_part, part}
use Rattle.enforce_c.specs.Answers.{over}
use Rattle.enforce_c.specs.Listed.{IsListed, IsRefused}
use Rattle.enforce_c.specs.Claimed.{slots_fault, FillAs}
use Rattle.enforce_c.specs.Spent.{UnlessMemory}

-- rows of slots, the top of the stack first, and the bytes that they refer to
pub record ListsOfSlots : Type 0 where
  pub slots : List SlotRow
  pub bytes : List ℕ

-- ---- the row of a slot

-- the empty item
abbrev pub blank : SlotRow
blank = record { kind = 3; key = replicate 33 0; hash = replicate 32 0; bytes_at = 0; bytes_length = 0 }

abbrev pub blanks : ℕ → ListsOfSlots
blanks count = record { slots = replicate count blank; bytes = [] }

abbrev pub with_row : ℕ → SlotRow → ListsOfSlots → ListsOfSlots
with_row slot row l = record l { slots = slice_set l.slots slot row }

-- these bytes
abbrev pub with_exact : ℕ → List ℕ → ListsOfSlots → ListsOfSlots
with_exact slot item l = record {
  slots = slice_set l.slots slot (record blank { bytes_at = length l.bytes; bytes_length = length item });
  bytes = l.bytes ++ item;
}

-- ---- hashes

-- the first key with this HASH160, and the SHA-256 of the first preimage with it
abbrev pub key_with : List ℕ → List KeyRow → Option (List ℕ)
key_with h [] = None
key_with h (key ∷ keys) = if bytes_eq (hash160 key.bytes) h then Some key.bytes else key_with h keys

abbrev pub image_with : List ℕ → List PreimageRow → Option (List ℕ)
image_with h [] = None
image_with h (p ∷ preimages) = if bytes_eq (hash160 p.bytes) h then Some (sha256 p.bytes) else image_with h preimages

-- the key, else the preimage
abbrev pub with_hash : ℕ → Option (List ℕ) → Option (List ℕ) → ListsOfSlots → ListsOfSlots
with_hash slot (Some key) image l = with_exact slot key l
with_hash slot None (Some hash) l = with_row slot (record blank { kind = 2; hash = hash }) l
with_hash slot None None l = l

-- ---- signatures

-- the bytes of a key: those of the script, or of its slot
abbrev pub key_in : List ℕ → Option (List ℕ)
key_in bytes = if length bytes == 33 then Some bytes else None

abbrev pub key_of_row : Option SlotRow → List ℕ → Option (List ℕ)
key_of_row None bytes = None
key_of_row (Some row) bytes = if has_part row.bytes_at row.bytes_length bytes then key_in (part row.bytes_at row.bytes_length bytes) else None

abbrev pub signer_of : KeySource → ListsOfSlots → Option (List ℕ)
signer_of (FixedKey bytes) l = key_in bytes
signer_of (SlotKey slot) l = key_of_row (slice_get l.slots slot) l.bytes

abbrev pub with_signer : ℕ → Option (List ℕ) → ListsOfSlots → ListsOfSlots
with_signer slot (Some key) l = with_row slot (record blank { kind = 1; key = key }) l
with_signer slot None l = l

-- of a choice, the keys that the caller has, and those without which there are too few
abbrev pub is_among : List ℕ → List KeyRow → Bool
is_among signer keys = list_any (λ key. bytes_eq key.bytes signer) keys

abbrev pub is_known : Option (List ℕ) → List KeyRow → Bool
is_known (Some signer) keys = is_among signer keys
is_known None keys = false

abbrev pub takes : List KeyRow → ℕ → ℕ → Option (List ℕ) → Bool
takes keys left wanted signer = nat_le left wanted || is_known signer keys

abbrev pub assigned : List KeyRow → List ℕ → List KeySource → ListsOfSlots → ListsOfSlots
assigned keys [] sources l = l
assigned keys (slot ∷ slots) [] l = l
assigned keys (slot ∷ slots) (source ∷ sources) l =
    if takes keys (length sources) (length slots) (signer_of source l)
    then assigned keys slots sources (with_signer slot (signer_of source l) l)
    else assigned keys (slot ∷ slots) sources l

-- ---- facts: slots that are to be true, then hashes, then bytes and signatures, each of which takes the place of those before

abbrev pub by_truth : Bool → Fact → ListsOfSlots → ListsOfSlots
by_truth true (Truth slot) l = with_exact slot (1 ∷ []) l
by_truth holds fact l = l

abbrev pub with_truth : Stated → ListsOfSlots → ListsOfSlots
with_truth s l = by_truth s.holds s.fact l

abbrev pub with_truths : List Stated → ListsOfSlots → ListsOfSlots
with_truths [] l = l
with_truths (s ∷ facts) l = with_truths facts (with_truth s l)

abbrev pub by_hash : List KeyRow → List PreimageRow → Bool → Fact → ListsOfSlots → ListsOfSlots
by_hash keys preimages true (Hash slot h) l = with_hash slot (key_with h keys) (image_with h preimages) l
by_hash keys preimages holds fact l = l

abbrev pub with_hashed : List KeyRow → List PreimageRow → Stated → ListsOfSlots → ListsOfSlots
with_hashed keys preimages s l = by_hash keys preimages s.holds s.fact l

abbrev pub with_hashes : List KeyRow → List PreimageRow → List Stated → ListsOfSlots → ListsOfSlots
with_hashes keys preimages [] l = l
with_hashes keys preimages (s ∷ facts) l = with_hashes keys preimages facts (with_hashed keys preimages s l)

abbrev pub by_value : List KeyRow → Bool → Fact → ListsOfSlots → ListsOfSlots
by_value keys true (Is slot item) l = with_exact slot item l
by_value keys true (Token slot source) l = with_signer slot (signer_of source l) l
by_value keys true (Assigned slots sources) l = assigned keys slots sources l
by_value keys holds fact l = l

abbrev pub with_value : List KeyRow → Stated → ListsOfSlots → ListsOfSlots
with_value keys s l = by_value keys s.holds s.fact l

abbrev pub with_values : List KeyRow → List Stated → ListsOfSlots → ListsOfSlots
with_values keys [] l = l
with_values keys (s ∷ facts) l = with_values keys facts (with_value keys s l)

-- the rows for a path
abbrev pub lists_for : List KeyRow → List PreimageRow → Path → ListsOfSlots
lists_for keys preimages p = with_values keys p.facts (with_hashes keys preimages p.facts (with_truths p.facts (blanks p.arity)))

-- ---- whether they meet the path

-- an output with the program of the script
abbrev pub place_for : List ℕ → Place
place_for script = record { outpoint = record { txid = replicate 32 0; index = 0 }; value = 0; program = script_hash_program script }

-- the rows fill slots with which a claim by the path is accepted: whatever fills them so meets the path
pub record IsMet (script : List ℕ) (ways : CheckedScript) (path : ℕ) (l : ListsOfSlots) : Type 0 where
  pub slots : List Slot
  pub claim : ClaimParts
  pub filled : FillAs l.bytes l.slots slots
  pub accepted : IsAcceptedOf ways path slots (place_for script) Open claim
  pub spends : IsSpending claim

-- they fill slots with which it is refused so
pub record IsRefusedWith (script : List ℕ) (ways : CheckedScript) (path : ℕ) (l : ListsOfSlots) (e : Refusal) : Type 0 where
  pub slots : List Slot
  pub why : AcceptError
  pub filled : FillAs l.bytes l.slots slots
  pub refused : IsRefusal (judgement_of ways path slots (place_for script) Open) why
  pub named : e ≡ Accept why

-- a row fills no slot, or a claim is refused
abbrev pub IsUnmet : List ℕ → CheckedScript → ℕ → ListsOfSlots → Refusal → Type 0
IsUnmet script ways path l e = (slots_fault l.bytes 0 l.slots ≡ Some e) ⊎ IsRefusedWith script ways path l e

-- the rows are those for the path of this index, and meet it
pub record IsPreparedFor (script : List ℕ) (path : ℕ) (keys : List KeyRow) (preimages : List PreimageRow) (l : ListsOfSlots) : Type 0 where
  pub ways : CheckedScript
  pub asked : Path
  pub listed : IsListed script ways
  pub at : slice_get ways.paths path ≡ Some asked
  pub rows : l ≡ lists_for keys preimages asked
  pub met : IsMet script ways path l

-- the script is listed, but has no path of this index; or the rows for it do not meet it
pub record HasNoPath (script : List ℕ) (path : ℕ) (e : Refusal) : Type 0 where
  pub ways : CheckedScript
  pub listed : IsListed script ways
  pub none : slice_get ways.paths path ≡ None
  pub named : e ≡ Accept NoSuchPath

pub record IsNotMet (script : List ℕ) (path : ℕ) (keys : List KeyRow) (preimages : List PreimageRow) (e : Refusal) : Type 0 where
  pub ways : CheckedScript
  pub asked : Path
  pub listed : IsListed script ways
  pub at : slice_get ways.paths path ≡ Some asked
  pub unmet : IsUnmet script ways path (lists_for keys preimages asked) e

abbrev pub IsPrepared : List ℕ → ℕ → List KeyRow → List PreimageRow → Result ListsOfSlots Refusal → Type 0
IsPrepared script path keys preimages (Ok l) = IsPreparedFor script path keys preimages l
IsPrepared script path keys preimages (Err e) = UnlessMemory e (IsRefused script e ⊎ (HasNoPath script path e ⊎ IsNotMet script path keys preimages e))

-- ---- what the call leaves

pub record LeftSlots : Type 0 where
  pub status : ℕ
  pub answer : SlotsAnswer
  pub lists : ListsOfSlots

abbrev pub slots_told : ListsOfSlots → SlotsAnswer
slots_told l = record { slots = length l.slots; bytes = length l.bytes; number = 0 }

abbrev pub slots_refused : Refusal → SlotsAnswer
slots_refused e = record { slots = 0; bytes = 0; number = number_of e }

abbrev pub left_by_slots : ListsOfSlots → ListsOfSlots → LeftSlots
left_by_slots l room = if nat_le (length l.slots) (length room.slots) && nat_le (length l.bytes) (length room.bytes)
    then record { status = 0; answer = slots_told l; lists = record { slots = over l.slots room.slots; bytes = over l.bytes room.bytes } }
    else record { status = 2; answer = slots_told l; lists = room }

abbrev pub slots_left_by : Result ListsOfSlots Refusal → ListsOfSlots → LeftSlots
slots_left_by (Ok l) room = left_by_slots l room
slots_left_by (Err e) room = record { status = status_of e; answer = slots_refused e; lists = room }

-- the call leaves this, by what becomes of the script and the path
abbrev pub AnswersSlots : List ℕ → ℕ → List KeyRow → List PreimageRow → ListsOfSlots → LeftSlots → Type 0
AnswersSlots script path keys preimages before after =
    (r : Result ListsOfSlots Refusal) × IsPrepared script path keys preimages r × (slots_left_by r before ≡ after)
