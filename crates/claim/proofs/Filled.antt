-- What slots show of items that fill them.
use Rattle.std.proofs.Common.{◌≡◌, ℕ, Bool, List, [], ◌∷◌, length, map, Option, Some, None, zero, suc, ap, ◌∙◌, refl}
use Rattle.std.specs.Prelude.{slice_get, option_and_then}
use Rattle.std.specs.Str.{bytes_eq}
use Rattle.script.specs.Token.{token_of, assigned}
use Rattle.script.specs.Step.{Elements}
use Rattle.script.specs.declared.spending.Spend.{Spend}
use Rattle.facts.specs.Symbols.{KeySource}
use Rattle.facts.specs.declared.symbols.KeySourceOver.TheVariants.{Const as FixedKey, Slot as SlotKey}
use Rattle.facts.specs.Meaning.{slot_of, key_of}
use Rattle.claim.specs.declared.parts.Slot.{Slot}
use Rattle.claim.specs.declared.parts.Slot.TheVariants.{Sig, Preimage, Exact}
use Rattle.claim.specs.Evidence.{slot_token_evidence, known_bytes, known_key, token_evidence, assigned_evidence}
use Rattle.claim.specs.Fitting.{FillsSlot, FillsSlots}
use Rattle.claim.proofs.Telling.{Tells, Known, token-tells}
use Rattle.claim.proofs.Choosing.{choice-tells, choice-assigned}

pub slot-tells : (spend : Spend) (show : Slot → Option Bool) (t : List ℕ → Bool) → ((slot : Slot) (x : List ℕ) → FillsSlot spend slot x → Tells (show slot) (t x)) → (slots : List Slot) (w : Elements) → FillsSlots spend slots w → (i : ℕ) → Tells (option_and_then show (slice_get slots i)) (t (slot_of w i))
slot-tells spend show t h [] w f i = tt
slot-tells spend show t h (slot ∷ slots) [] f i = absurd f
slot-tells spend show t h (slot ∷ slots) (x ∷ w) f zero = h slot x f.0
slot-tells spend show t h (slot ∷ slots) (x ∷ w) f (suc i) = slot-tells spend show t h slots w f.1 i

bytes-known : (spend : Spend) (known : Option (List ℕ)) (slots : List Slot) (w : Elements) → Known known spend.digest → FillsSlots spend slots w → (j : ℕ) → Known (known_bytes known (slice_get slots j)) (slot_of w j)
bytes-known spend None [] w n f j = tt
bytes-known spend (Some d) [] w n f j = tt
bytes-known spend known (slot ∷ slots) [] n f j = absurd f
bytes-known spend None (Sig k ∷ slots) (x ∷ w) n f zero = tt
bytes-known spend (Some d) (Sig k ∷ slots) (x ∷ w) n f zero = f.0 ∙ ap (token_of k.bytes) n
bytes-known spend None (Preimage ph ∷ slots) (x ∷ w) n f zero = tt
bytes-known spend (Some d) (Preimage ph ∷ slots) (x ∷ w) n f zero = tt
bytes-known spend None (Exact b ∷ slots) (x ∷ w) n f zero = f.0
bytes-known spend (Some d) (Exact b ∷ slots) (x ∷ w) n f zero = f.0
bytes-known spend known (slot ∷ slots) (x ∷ w) n f (suc j) = bytes-known spend known slots w n f.1 j

key-known : (spend : Spend) (known : Option (List ℕ)) (slots : List Slot) (w : Elements) → Known known spend.digest → FillsSlots spend slots w → (key : KeySource) → Known (known_key known slots key) (key_of w key)
key-known spend known slots w n f (FixedKey b) = refl
key-known spend known slots w n f (SlotKey j) = bytes-known spend known slots w n f j

pub token_evidence-tells : (spend : Spend) (known : Option (List ℕ)) (slots : List Slot) (w : Elements) → length spend.digest ≡ 32 → Known known spend.digest → FillsSlots spend slots w → (i : ℕ) (key : KeySource) → Tells (token_evidence known slots i key) (bytes_eq (slot_of w i) (token_of (key_of w key) spend.digest))
token_evidence-tells spend known slots w e n f i key =
    slot-tells spend (slot_token_evidence known (known_key known slots key)) (λ x. bytes_eq x (token_of (key_of w key) spend.digest))
    (λ slot x g. token-tells spend known (known_key known slots key) (key_of w key) slot x e n (key-known spend known slots w n f key) g) slots w f i

pub assigned_evidence-tells : (spend : Spend) (known : Option (List ℕ)) (slots : List Slot) (w : Elements) → length spend.digest ≡ 32 → Known known spend.digest → FillsSlots spend slots w → (is : List ℕ) (keys : List KeySource) → Tells (assigned_evidence known slots is keys) (assigned (map (slot_of w) is) (map (key_of w) keys) spend.digest)
assigned_evidence-tells spend known slots w e n f is keys =
    rw (← choice-assigned (slot_of w) (key_of w) spend.digest is keys) (choice-tells (token_evidence known slots) (λ i k. bytes_eq (slot_of w i) (token_of (key_of w k) spend.digest)) (token_evidence-tells spend known slots w e n f) is keys)

pub filled-length : (spend : Spend) (slots : List Slot) (w : Elements) → FillsSlots spend slots w → length w ≡ length slots
filled-length spend [] [] f = refl
filled-length spend [] (x ∷ w) f = absurd f
filled-length spend (slot ∷ slots) [] f = absurd f
filled-length spend (slot ∷ slots) (x ∷ w) f = ap suc (filled-length spend slots w f.1)
