-- Witness items with equal bytes are equal: the bound of 520 bytes has one proof.
use Rattle.std.proofs.Common.{◌≡◌, ℕ, ◌<◌, ◌≤◌, Bool, true, false, true≢false, List, length, Some, None, refl, sym, ap, ◌∙◌, arith}
use Rattle.std.specs.Prelude.{nat_le}
use Rattle.std.proofs.lemmas.Bool.{leb-true, le-leb}
use Rattle.std.proofs.Math.Bridge.{le_prop}
use mathlib.Core.HLevel.{is_prop→PathP}
use Rattle.script.specs.declared.limits.TheConstants.{MAX_SCRIPT_ELEMENT_SIZE}
use Rattle.claim.specs.declared.parts.WitnessItem.{WitnessItem}
use Rattle.texts.specs.Claims.{item_if, witness_item_in}

same_item : (a b : WitnessItem) → a.item ≡ b.item → a ≡ b
same_item a b q = λ i. record { item = q i; short = is_prop→PathP (λ j. length (q j) ≤ MAX_SCRIPT_ELEMENT_SIZE) (λ j. le_prop) a.short b.short i }

item_found_if : (w : WitnessItem) (bytes : List ℕ) (short : Bool) (h : nat_le (length bytes) MAX_SCRIPT_ELEMENT_SIZE ≡ short) → w.item ≡ bytes → item_if bytes short h ≡ Some w
item_found_if w bytes true h same = ap Some (same_item (record { item = bytes; short = leb-true _ _ h }) w (sym same))
item_found_if w bytes false h same = absurd (true≢false (sym (le-leb _ _ w.short) ∙ ap (λ b. nat_le (length b) MAX_SCRIPT_ELEMENT_SIZE) same ∙ h))

pub item_found : (w : WitnessItem) (bytes : List ℕ) → w.item ≡ bytes → witness_item_in bytes ≡ Some w
item_found w bytes same = item_found_if w bytes (nat_le (length bytes) MAX_SCRIPT_ELEMENT_SIZE) refl same

no_item_if : (bytes : List ℕ) (short : Bool) (h : nat_le (length bytes) MAX_SCRIPT_ELEMENT_SIZE ≡ short) → MAX_SCRIPT_ELEMENT_SIZE < length bytes → item_if bytes short h ≡ None
no_item_if bytes true h lt = let le = leb-true (length bytes) MAX_SCRIPT_ELEMENT_SIZE h in absurd (omega arith)
no_item_if bytes false h lt = refl

pub no_item : (bytes : List ℕ) → MAX_SCRIPT_ELEMENT_SIZE < length bytes → witness_item_in bytes ≡ None
no_item bytes lt = no_item_if bytes (nat_le (length bytes) MAX_SCRIPT_ELEMENT_SIZE) refl lt
