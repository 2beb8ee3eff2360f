-- What facts and symbols mean, under a spend and the items of a witness, the top first.
use Rattle.std.specs.Prelude.{◌≡◌, ℕ, Bool, false, ◌==◌, List, [], ◌∷◌, length, map, reverse, slice_index_or}
use Rattle.std.specs.Str.{bytes_eq}
use Rattle.std.specs.List.{list_any}
use Rattle.digest.specs.Hash.{hash160}
use Rattle.script.specs.declared.spending.Spend.{Spend}
use Rattle.script.specs.Number.{minimal_bytes_of}
use Rattle.script.specs.Token.{token_of, is_key, is_signature, assigned}
use Rattle.script.specs.Step.{Elements, truth, flag, age_passes, lock_passes}
use Rattle.script.specs.Run.{is_long}
use Rattle.facts.specs.Symbols.{KeySource}
use Rattle.facts.specs.declared.symbols.KeySourceOver.TheVariants.{Const as FixedKey, Slot as SlotKey}
use Rattle.facts.specs.Symbols.{Fact}
use Rattle.facts.specs.declared.symbols.FactOver.TheVariants.{Hash, Size, Truth, Is, KeyForm, Form, Token, Assigned, Lock, Age}
use Rattle.facts.specs.Symbols.{Sym}
use Rattle.facts.specs.declared.symbols.SymOver.TheVariants.{Slot, Const, HashOf, SizeOf, Holds}
use Rattle.facts.specs.Symbols.{Stated}

-- a slot's item
abbrev pub slot_of : Elements → ℕ → List ℕ
slot_of w i = slice_index_or w i []

-- a key's bytes
abbrev pub key_of : Elements → KeySource → List ℕ
key_of w (FixedKey item) = item
key_of w (SlotKey i) = slot_of w i

-- whether a fact holds
abbrev pub holds_of : Spend → Elements → Fact → Bool
holds_of spend w (Hash i h) = bytes_eq (hash160 (slot_of w i)) h
holds_of spend w (Size i n) = length (slot_of w i) == n
holds_of spend w (Truth i) = truth (slot_of w i)
holds_of spend w (Is i b) = bytes_eq (slot_of w i) b
holds_of spend w (KeyForm i) = is_key (slot_of w i)
holds_of spend w (Form i) = is_signature (slot_of w i)
holds_of spend w (Token i key) = bytes_eq (slot_of w i) (token_of (key_of w key) spend.digest)
holds_of spend w (Assigned slots keys) = assigned (map (slot_of w) slots) (map (key_of w) keys) spend.digest
holds_of spend w (Lock n) = lock_passes spend n
holds_of spend w (Age n) = age_passes spend n

-- a fact holds, or does not, as stated
abbrev pub HoldsFor : Spend → Elements → Stated → Type 0
HoldsFor spend w s = holds_of spend w s.fact ≡ s.holds

-- the item of a symbol
abbrev pub item_for : Spend → Elements → Sym → List ℕ
item_for spend w (Slot i) = slot_of w i
item_for spend w (Const item) = item
item_for spend w (HashOf i) = hash160 (slot_of w i)
item_for spend w (SizeOf i) = minimal_bytes_of (length (slot_of w i))
item_for spend w (Holds fact) = flag (holds_of spend w fact)

-- all facts are as stated
abbrev pub AllStated : Spend → Elements → List Stated → Type 0
AllStated spend w [] = Unit {0}
AllStated spend w (s ∷ facts) = HoldsFor spend w s × AllStated spend w facts

-- a witness, whose last item is the top, meets facts about n slots: it has exactly n items, none above 520 bytes, and each
-- fact is as stated
pub record Meets (spend : Spend) (witness : List (List ℕ)) (arity : ℕ) (facts : List Stated) : Type 0 where
  pub exact : length witness ≡ arity
  pub short : list_any is_long witness ≡ false
  pub holds : AllStated spend (reverse witness) facts
