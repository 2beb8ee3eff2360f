-- The printed texts of facts, as lists of ASCII codes.
use Rattle.std.specs.Prelude.{ℕ, ◌+◌, ◌/◌, ◌%◌, nat_lt, Bool, true, false, if◌then◌else◌, List, [], ◌∷◌, ◌++◌, codes, decimal}
use Rattle.std.specs.List.{flat_map}
use Rattle.facts.specs.Symbols.{KeySource}
use Rattle.facts.specs.declared.symbols.KeySourceOver.TheVariants.{Const as FixedKey, Slot as SlotKey}
use Rattle.facts.specs.Symbols.{Fact}
use Rattle.facts.specs.declared.symbols.FactOver.TheVariants.{Hash, Size, Truth, Is, KeyForm, Form, Token, Assigned, Lock, Age}
use Rattle.facts.specs.Symbols.{Stated}

-- a hexadecimal digit, in lower case
abbrev pub hex_digit : ℕ → ℕ
hex_digit n = if nat_lt n 10 then 48 + n else 87 + n

-- bytes in hexadecimal, two digits each
abbrev pub hex_byte : ℕ → List ℕ
hex_byte b = hex_digit (b / 16) ∷ hex_digit (b % 16) ∷ []

abbrev pub hex_text : List ℕ → List ℕ
hex_text bytes = flat_map hex_byte bytes

abbrev pub key_text : KeySource → List ℕ
key_text (FixedKey key) = hex_text key
key_text (SlotKey i) = codes "slot " ++ decimal i

-- `-` for no bytes
abbrev pub bytes_text : List ℕ → List ℕ
bytes_text [] = codes "-"
bytes_text (b ∷ bytes) = hex_text (b ∷ bytes)

-- texts with a comma between them
abbrev pub comma_separated : {A : Type 0} → (A → List ℕ) → List A → List ℕ
comma_separated text [] = []
comma_separated text (x ∷ xs) = text x ++ flat_map (λ y. codes "," ++ text y) xs

abbrev pub answer_text : Bool → List ℕ
answer_text true = codes "yes"
answer_text false = codes "no"

-- a word, a slot and an answer
abbrev pub asked_text : List ℕ → ℕ → List ℕ → Bool → List ℕ
asked_text name i value p = name ++ (decimal i ++ (codes " " ++ (value ++ (codes " " ++ answer_text p))))

abbrev pub text_by : Fact → Bool → List ℕ
text_by (Hash i h) p = asked_text (codes "hash ") i (hex_text h) p
text_by (Size i n) p = asked_text (codes "size ") i (decimal n) p
text_by (Truth i) p = codes "truth " ++ (decimal i ++ (codes " " ++ answer_text p))
text_by (Is i b) p = asked_text (codes "is ") i (bytes_text b) p
text_by (KeyForm i) p = codes "key " ++ decimal i
text_by (Form i) p = codes "form " ++ decimal i
text_by (Token i key) p = asked_text (codes "token ") i (key_text key) p
text_by (Assigned is keys) p = codes "assigned " ++ (comma_separated decimal is ++ (codes " " ++ (comma_separated key_text keys ++ (codes " " ++ answer_text p))))
text_by (Lock n) p = codes "lock " ++ decimal n
text_by (Age n) p = codes "age " ++ decimal n

-- the text of a fact with its polarity; the texts of key, form, lock and age do not show it
abbrev pub text_of : Stated → List ℕ
text_of s = text_by s.fact s.holds
