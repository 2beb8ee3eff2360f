-- Who can take what a path spends.
use Rattle.std.specs.Prelude.{ℕ, ◌+◌, Bool, true, false, ◌&&◌, not, ◌==◌, nat_lt, if◌then◌else◌, List, [], ◌∷◌, length}
use Rattle.std.specs.List.{list_any}
use Rattle.facts.specs.Symbols.{KeySource}
use Rattle.facts.specs.declared.symbols.KeySourceOver.TheVariants.{Const as FixedKey, Slot as SlotKey}
use Rattle.facts.specs.Symbols.{Fact}
use Rattle.facts.specs.declared.symbols.FactOver.TheVariants.{Hash, Is, KeyForm, Token, Assigned}
use Rattle.facts.specs.Symbols.{Stated}
use Rattle.warnings.specs.declared.takers.Taker.{Taker}
use Rattle.warnings.specs.declared.takers.Taker.TheVariants.{Signer, Finder, Anyone}

-- a fact by which a slot has one value only: its hash, or its bytes
abbrev pub is_value_of : ℕ → Fact → Bool
is_value_of slot (Hash i h) = i == slot
is_value_of slot (Is i b) = i == slot
is_value_of slot fact = false

abbrev pub fixes : ℕ → Stated → Bool
fixes slot s = s.holds && is_value_of slot s.fact

-- some fact fixes the slot
abbrev pub is_fixed : List Stated → ℕ → Bool
is_fixed facts slot = list_any (fixes slot) facts

-- whoever spends may bring any key
abbrev pub is_free : List Stated → KeySource → Bool
is_free facts (FixedKey key) = false
is_free facts (SlotKey slot) = not (is_fixed facts slot)

-- how many of the keys are free
abbrev pub free_keys : List Stated → List KeySource → ℕ
free_keys facts [] = 0
free_keys facts (k ∷ keys) = (if is_free facts k then 1 else 0) + free_keys facts keys

-- the fact, if it holds, asks for a signature of a key that is not free. Of an increasing choice of keys it does so where there are fewer free keys than signatures
abbrev pub is_signed : List Stated → Fact → Bool
is_signed facts (Token i key) = not (is_free facts key)
is_signed facts (Assigned slots keys) = nat_lt (free_keys facts keys) (length slots)
is_signed facts fact = false

abbrev pub asks_signature : List Stated → Stated → Bool
asks_signature facts s = s.holds && is_signed facts s.fact

-- the fact, if it holds, says what a hash is
abbrev pub is_hash : Fact → Bool
is_hash (Hash i h) = true
is_hash fact = false

abbrev pub asks_preimage : Stated → Bool
asks_preimage s = s.holds && is_hash s.fact

-- who can take what the path spends
unfoldable pub taker_of : List Stated → Taker
taker_of facts =
    if list_any (asks_signature facts) facts then Signer
    else if list_any asks_preimage facts then Finder
    else Anyone

-- the hash of the slot
abbrev pub is_hash_at : ℕ → Fact → Bool
is_hash_at slot (Hash i h) = i == slot
is_hash_at slot fact = false

abbrev pub is_hash_of : ℕ → Stated → Bool
is_hash_of slot s = s.holds && is_hash_at slot s.fact

abbrev pub has_hash : List Stated → ℕ → Bool
has_hash facts slot = list_any (is_hash_of slot) facts

-- the slot with the form of a key has a hash too
abbrev pub is_hashed_key : List Stated → Fact → Bool
is_hashed_key facts (KeyForm i) = has_hash facts i
is_hashed_key facts fact = false

abbrev pub takes_key_by_hash : List Stated → Stated → Bool
takes_key_by_hash facts s = s.holds && is_hashed_key facts s.fact

-- the path takes a key by its hash
abbrev pub takes_hashed_key : List Stated → Bool
takes_hashed_key facts = list_any (takes_key_by_hash facts) facts
