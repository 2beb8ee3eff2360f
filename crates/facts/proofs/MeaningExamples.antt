-- What facts and symbols mean, at small witnesses.
use Rattle.std.proofs.Common.{◌≡◌, ℕ, Bool, true, false, List, [], ◌∷◌, ◌++◌, map, replicate, refl, arith}
use Rattle.digest.specs.Hash.{hash160}
use Rattle.script.specs.declared.spending.Spend.{Spend}
use Rattle.script.specs.Number.{minimal_bytes_of, digits}
use Rattle.script.specs.Token.{token_of, is_key, is_token, is_signature}
use Rattle.script.specs.Step.{Elements, age_passes, lock_passes}
use Rattle.facts.specs.declared.symbols.KeySourceOver.TheVariants.{Const as FixedKey, Slot as SlotKey}
use Rattle.facts.specs.Symbols.{Fact}
use Rattle.facts.specs.declared.symbols.FactOver.TheVariants.{Hash, Size, Truth, Is, KeyForm, Form, Token, Assigned, Lock, Age}
use Rattle.facts.specs.declared.symbols.SymOver.TheVariants.{Slot, Const, HashOf, SizeOf, Holds}
use Rattle.facts.specs.Meaning.{slot_of, key_of, holds_of, item_for, Meets}

-- a spend of version 2, lock time 500 and sequence 144
spend : Spend
spend = record { version = 2; lock_time = 500; sequence = 144; digest = replicate 32 7 }

abbrev key : ℕ → List ℕ
key b = 2 ∷ replicate 32 b

abbrev token : ℕ → List ℕ
token b = 2 ∷ (replicate 32 b ++ (replicate 32 7 ++ 1 ∷ []))

-- the items of a witness, the top first
items : Elements
items = (5 ∷ 6 ∷ []) ∷ (0 ∷ 0x80 ∷ []) ∷ key 1 ∷ token 1 ∷ token 2 ∷ [] ∷ []

asked : List Fact → List Bool
asked facts = map (holds_of spend items) facts

-- slots count from 0 at the top; a slot that is missing is empty
slots : map (slot_of items) (0 ∷ 1 ∷ 2 ∷ 5 ∷ 6 ∷ []) ≡ (5 ∷ 6 ∷ []) ∷ (0 ∷ 0x80 ∷ []) ∷ key 1 ∷ [] ∷ [] ∷ []
unfolding items
slots = refl

keys : (key_of items (FixedKey (9 ∷ [])) ≡ 9 ∷ []) × (key_of items (SlotKey 2) ≡ key 1)
unfolding items
keys = (refl, refl)

sizes : asked (Size 0 2 ∷ Size 0 3 ∷ Size 2 33 ∷ Size 3 66 ∷ Size 5 0 ∷ Size 5 1 ∷ []) ≡ true ∷ false ∷ true ∷ true ∷ true ∷ false ∷ []
unfolding asked items
sizes = refl

truths : asked (Truth 0 ∷ Truth 1 ∷ Truth 2 ∷ Truth 5 ∷ []) ≡ true ∷ false ∷ true ∷ false ∷ []
unfolding asked items
truths = refl

same_bytes : asked (Is 0 (5 ∷ 6 ∷ []) ∷ Is 0 (6 ∷ 5 ∷ []) ∷ Is 0 (5 ∷ []) ∷ Is 1 [] ∷ Is 5 [] ∷ []) ≡ true ∷ false ∷ false ∷ false ∷ true ∷ []
unfolding asked items
same_bytes = refl

forms : asked (KeyForm 2 ∷ KeyForm 0 ∷ KeyForm 3 ∷ KeyForm 5 ∷ Form 3 ∷ Form 5 ∷ Form 2 ∷ Form 0 ∷ []) ≡ true ∷ false ∷ false ∷ false ∷ true ∷ true ∷ false ∷ false ∷ []
unfolding asked items is_key is_token is_signature
forms = refl

tokens : asked (Token 3 (FixedKey (key 1)) ∷ Token 3 (SlotKey 2) ∷ Token 3 (FixedKey (key 2)) ∷ Token 4 (FixedKey (key 2)) ∷ Token 4 (SlotKey 2) ∷ Token 5 (FixedKey (key 1)) ∷ []) ≡ true ∷ true ∷ false ∷ true ∷ false ∷ false ∷ []
unfolding asked spend items token_of
tokens = refl

-- the token is over the digest of the spend
other_digest : holds_of (record spend { digest = replicate 32 8 }) items (Token 3 (FixedKey (key 1))) ≡ false
unfolding spend items token_of
other_digest = refl

choices : asked (Assigned (3 ∷ 4 ∷ []) (FixedKey (key 1) ∷ FixedKey (key 2) ∷ []) ∷ Assigned (4 ∷ 3 ∷ []) (FixedKey (key 1) ∷ FixedKey (key 2) ∷ []) ∷ Assigned (4 ∷ []) (SlotKey 2 ∷ FixedKey (key 2) ∷ []) ∷ Assigned (4 ∷ []) (SlotKey 2 ∷ []) ∷ Assigned (5 ∷ []) (SlotKey 2 ∷ []) ∷ []) ≡ true ∷ false ∷ true ∷ false ∷ false ∷ []
unfolding asked spend items token_of
choices = refl

locks : asked (Lock 500 ∷ Lock 501 ∷ Age 144 ∷ Age 145 ∷ Age 0x400000 ∷ []) ≡ true ∷ false ∷ true ∷ false ∷ false ∷ []
unfolding asked spend lock_passes age_passes
locks = refl

hashes : (x : List ℕ) → holds_of spend (x ∷ []) (Hash 0 (hash160 x)) ≡ holds_of spend (hash160 x ∷ []) (Is 0 (hash160 x))
hashes x = refl

-- the items that symbols stand for
symbols : (item_for spend items (Slot 0) ≡ 5 ∷ 6 ∷ []) × (item_for spend items (Const (8 ∷ [])) ≡ 8 ∷ []) × (item_for spend items (SizeOf 0) ≡ 2 ∷ []) × (item_for spend items (SizeOf 5) ≡ []) × (item_for spend items (Holds (Truth 0)) ≡ 1 ∷ []) × (item_for spend items (Holds (Truth 1)) ≡ []) × (item_for spend items (HashOf 0) ≡ hash160 (5 ∷ 6 ∷ []))
unfolding items minimal_bytes_of digits
symbols = (refl, refl, refl, refl, refl, refl, refl)

-- a witness, its last item the top: with every fact as it is stated, and exactly that many items
met : Meets spend ([] ∷ (1 ∷ []) ∷ []) 2 (record { fact = Truth 0; holds = true } ∷ record { fact = Truth 1; holds = false } ∷ [])
met = record { exact = refl; short = refl; holds = (refl, (refl, tt)) }

longest : Meets spend (replicate 520 1 ∷ []) 1 []
longest = record { exact = refl; short = refl; holds = tt }

too_long : Meets spend (replicate 521 1 ∷ []) 1 [] → ⊥
too_long h = cc

too_few : Meets spend ((1 ∷ []) ∷ []) 2 [] → ⊥
too_few h = omega (arith, h.exact)

too_many : Meets spend ((1 ∷ []) ∷ (1 ∷ []) ∷ []) 1 [] → ⊥
too_many h = omega (arith, h.exact)

-- the deepest item is the last slot
turned_round : Meets spend ([] ∷ (1 ∷ []) ∷ []) 2 (record { fact = Truth 1; holds = true } ∷ []) → ⊥
turned_round h = let e : false ≡ true = h.holds.0 in cc
