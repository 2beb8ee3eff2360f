-- The sentences of facts: of each kind in both polarities, and of locks on both sides of each limit.
use Rattle.std.proofs.Common.{◌≡◌, ℕ, true, false, List, [], ◌∷◌, ◌++◌, map, refl}
use Rattle.std.specs.Prelude.{codes, decimal}
use Rattle.facts.specs.declared.symbols.KeySourceOver.TheVariants.{Const as FixedKey, Slot as SlotKey}
use Rattle.facts.specs.Symbols.{Fact}
use Rattle.facts.specs.declared.symbols.FactOver.TheVariants.{Hash, Size, Truth, Is, KeyForm, Form, Token, Assigned, Lock, Age}
use Rattle.facts.specs.Symbols.{Stated}
use Rattle.trace.specs.Sentences.{sentence_of, role_of}
use Rattle.trace.specs.declared.scripts.sentences.Role.TheVariants.{Who, With, When}

abbrev yes : Fact → Stated
yes f = record { fact = f; holds = true }

abbrev no : Fact → Stated
no f = record { fact = f; holds = false }

-- the number of a fact's kind; no kind is left out
abbrev kind_of : Fact → ℕ
kind_of (Hash i h) = 0
kind_of (Size i n) = 1
kind_of (Truth i) = 2
kind_of (Is i b) = 3
kind_of (KeyForm i) = 4
kind_of (Form i) = 5
kind_of (Token i key) = 6
kind_of (Assigned slots keys) = 7
kind_of (Lock n) = 8
kind_of (Age n) = 9

-- a fact of each kind, about slots i and j
abbrev facts : ℕ → ℕ → List Fact
facts i j =
    Hash i (0x0a ∷ 0xff ∷ []) ∷ Size i 32 ∷ Truth i ∷ Is i (0x0a ∷ 0xff ∷ []) ∷ KeyForm i ∷ Form i ∷ Token i (FixedKey (0x0a ∷ 0xff ∷ []))
    ∷ Assigned (i ∷ j ∷ []) (FixedKey (0x0a ∷ 0xff ∷ []) ∷ SlotKey j ∷ []) ∷ Lock 500 ∷ Age 144 ∷ []

each_kind : (i j : ℕ) → map kind_of (facts i j) ≡ 0 ∷ 1 ∷ 2 ∷ 3 ∷ 4 ∷ 5 ∷ 6 ∷ 7 ∷ 8 ∷ 9 ∷ []
each_kind i j = refl

-- decimal digits are defined by std
abbrev slot : ℕ → List ℕ → List ℕ
slot i rest = codes "slot " ++ (decimal i ++ rest)

abbrev slots : ℕ → ℕ → List ℕ → List ℕ
slots i j verb = codes "slots " ++ ((decimal i ++ (codes "," ++ (decimal j ++ []))) ++ (verb ++ ((codes "0aff" ++ (codes "," ++ ((codes "slot " ++ decimal j) ++ []))) ++ codes " in their order")))

holding : (i j : ℕ) → map sentence_of (map yes (facts i j)) ≡
    slot i (codes " is a preimage of the HASH160 0aff")
    ∷ slot i (codes " is " ++ (decimal 32 ++ codes " bytes long"))
    ∷ slot i (codes " is true")
    ∷ slot i (codes " is the bytes 0aff")
    ∷ slot i (codes " is a public key of 33 bytes")
    ∷ slot i (codes " is a signature or the empty item")
    ∷ slot i (codes " is a signature by the key 0aff")
    ∷ slots i j (codes " are signatures by keys of ")
    ∷ (codes "in block " ++ (decimal 501 ++ codes " at the earliest"))
    ∷ (codes "after " ++ (decimal 144 ++ codes " blocks"))
    ∷ []
holding i j = refl

failing : (i j : ℕ) → map sentence_of (map no (facts i j)) ≡
    slot i (codes " is not a preimage of the HASH160 0aff")
    ∷ slot i (codes " is not " ++ (decimal 32 ++ codes " bytes long"))
    ∷ slot i (codes " is false, as the empty item is")
    ∷ slot i (codes " is not the bytes 0aff")
    ∷ slot i (codes " is not a public key of 33 bytes")
    ∷ slot i (codes " is not a signature or the empty item")
    ∷ slot i (codes " is not a signature by the key 0aff")
    ∷ slots i j (codes " are not signatures by keys of ")
    ∷ (codes "while the check of the lock time " ++ (decimal 500 ++ codes " fails"))
    ∷ (codes "while the check of the relative lock " ++ (decimal 144 ++ codes " fails"))
    ∷ []
failing i j = refl

-- an empty item, and a key that the witness brings
others : (i j : ℕ) → map sentence_of (yes (Is i []) ∷ no (Is i []) ∷ yes (Token i (SlotKey j)) ∷ no (Token i (SlotKey j)) ∷ []) ≡
    slot i (codes " is the empty item")
    ∷ slot i (codes " is not the empty item")
    ∷ slot i (codes " is a signature by the key in slot " ++ decimal j)
    ∷ slot i (codes " is not a signature by the key in slot " ++ decimal j)
    ∷ []
others i j = refl

-- the greatest lock by height, and the least and the greatest by time; the greatest that a transaction can have, of 32 bits, and the least that none has
locks : map sentence_of (yes (Lock 499999999) ∷ yes (Lock 500000000) ∷ yes (Lock 4294967294) ∷ yes (Lock 4294967295) ∷ yes (Lock 4294967296) ∷ no (Lock 4294967296) ∷ []) ≡
    (codes "in block " ++ (decimal 500000000 ++ codes " at the earliest"))
    ∷ (codes "once the median time past is above " ++ (decimal 500000000 ++ codes " seconds since 1970 (BIP 113)"))
    ∷ (codes "once the median time past is above " ++ (decimal 4294967294 ++ codes " seconds since 1970 (BIP 113)"))
    ∷ codes "never: no median time past is above 4294967295 (BIP 113)"
    ∷ codes "never: no transaction has a lock time above 4294967295"
    ∷ (codes "while the check of the lock time " ++ (decimal 4294967296 ++ codes " fails"))
    ∷ []
locks = refl

-- no block, one, two, the greatest number, and bit 16, which does not count; the same of units of time; and none of them where the check fails
ages : map sentence_of (yes (Age 0) ∷ yes (Age 1) ∷ yes (Age 2) ∷ yes (Age 0xffff) ∷ yes (Age 0x10000) ∷ yes (Age 0x10001) ∷ yes (Age 0x10003) ∷ yes (Age 0x400000) ∷ yes (Age 0x400001) ∷ yes (Age 0x400002) ∷ no (Age 0) ∷ []) ≡
    codes "at once"
    ∷ (codes "after " ++ (decimal 1 ++ codes " block"))
    ∷ (codes "after " ++ (decimal 2 ++ codes " blocks"))
    ∷ (codes "after " ++ (decimal 65535 ++ codes " blocks"))
    ∷ codes "at once"
    ∷ (codes "after " ++ (decimal 1 ++ codes " block"))
    ∷ (codes "after " ++ (decimal 3 ++ codes " blocks"))
    ∷ codes "at once"
    ∷ (codes "after " ++ (decimal 1 ++ codes " unit of 512 seconds of median time past (BIP 68)"))
    ∷ (codes "after " ++ (decimal 2 ++ codes " units of 512 seconds of median time past (BIP 68)"))
    ∷ (codes "while the check of the relative lock " ++ (decimal 0 ++ codes " fails"))
    ∷ []
ages = refl

-- a signature that must be there says who, a lock says when, all else says with what
roles : (i j : ℕ) → (map role_of (map yes (facts i j)) ≡ With ∷ With ∷ With ∷ With ∷ With ∷ With ∷ Who ∷ Who ∷ When ∷ When ∷ [])
    × (map role_of (map no (facts i j)) ≡ With ∷ With ∷ With ∷ With ∷ With ∷ With ∷ With ∷ With ∷ When ∷ When ∷ [])
roles i j = (refl, refl)
