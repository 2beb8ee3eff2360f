-- Facts in plain words, as lists of ASCII codes.
use Rattle.std.specs.Prelude.{ℕ, ◌+◌, ◌/◌, ◌%◌, nat_lt, ◌==◌, Bool, true, false, if◌then◌else◌, List, [], ◌∷◌, ◌++◌, codes, decimal}
use Rattle.script.specs.declared.limits.TheConstants.{LOCKTIME_THRESHOLD}
use Rattle.facts.specs.Symbols.{KeySource, Fact, Stated}
use Rattle.facts.specs.declared.symbols.KeySourceOver.TheVariants.{Const as FixedKey, Slot as SlotKey}
use Rattle.facts.specs.declared.symbols.FactOver.TheVariants.{Hash, Size, Truth, Is, KeyForm, Form, Token, Assigned, Lock, Age}
use Rattle.facts.specs.Texts.{hex_text, key_text, comma_separated}
use Rattle.trace.specs.declared.scripts.sentences.Role.{Role}
use Rattle.trace.specs.declared.scripts.sentences.Role.TheVariants.{Who, With, When}

-- a signature that must be there says who spends, a lock says when, and any other fact says with what
abbrev pub role_by : Fact → Bool → Role
role_by (Token i key) true = Who
role_by (Assigned slots keys) true = Who
role_by (Lock n) p = When
role_by (Age n) p = When
role_by fact p = With

abbrev pub role_of : Stated → Role
role_of s = role_by s.fact s.holds

abbrev pub role_text : Role → List ℕ
role_text Who = codes "who"
role_text With = codes "with"
role_text When = codes "when"

-- what follows on the slot, or the slots, that a fact is about, up to what it compares with
abbrev pub about : Fact → Bool → List ℕ
about (Hash i h) true = codes " is a preimage of the HASH160 "
about (Hash i h) false = codes " is not a preimage of the HASH160 "
about (Size i n) true = codes " is "
about (Size i n) false = codes " is not "
about (Truth i) true = codes " is true"
about (Truth i) false = codes " is false, as the empty item is"
about (Is i []) true = codes " is the empty item"
about (Is i []) false = codes " is not the empty item"
about (Is i (b ∷ bytes)) true = codes " is the bytes "
about (Is i (b ∷ bytes)) false = codes " is not the bytes "
about (KeyForm i) true = codes " is a public key of 33 bytes"
about (KeyForm i) false = codes " is not a public key of 33 bytes"
about (Form i) true = codes " is a signature or the empty item"
about (Form i) false = codes " is not a signature or the empty item"
about (Token i (FixedKey key)) true = codes " is a signature by the key "
about (Token i (FixedKey key)) false = codes " is not a signature by the key "
about (Token i (SlotKey j)) true = codes " is a signature by the key in slot "
about (Token i (SlotKey j)) false = codes " is not a signature by the key in slot "
about (Assigned slots keys) true = codes " are signatures by keys of "
about (Assigned slots keys) false = codes " are not signatures by keys of "
about (Lock n) p = []
about (Age n) p = []

-- An output that is locked to height n is spent in block n + 1 at the earliest, and one that is locked to a time in a block after which the median time of eleven blocks is past it (BIP 65, 113).
-- A transaction's lock time has 32 bits, so that no greater one is ever reached; nor is the greatest, since times of blocks have 32 bits too
abbrev pub lock_words : ℕ → List ℕ
lock_words n =
    if nat_lt n LOCKTIME_THRESHOLD
    then codes "in block " ++ (decimal (n + 1) ++ codes " at the earliest")
    else if nat_lt n 0xffffffff
    then codes "once the median time past is above " ++ (decimal n ++ codes " seconds since 1970 (BIP 113)")
    else if n == 0xffffffff
    then codes "never: no median time past is above 4294967295 (BIP 113)"
    else codes "never: no transaction has a lock time above 4294967295"

-- what a relative lock counts: blocks, or units of 512 seconds where bit 22 is set (BIP 68), one of them or several
abbrev pub unit_words : ℕ → List ℕ
unit_words n =
    if n / 0x400000 % 2 == 0
    then (if n % 0x10000 == 1 then codes " block" else codes " blocks")
    else (if n % 0x10000 == 1 then codes " unit of 512 seconds of median time past (BIP 68)" else codes " units of 512 seconds of median time past (BIP 68)")

-- the low 16 bits count; an output is old enough at once for a count of 0
abbrev pub age_words : ℕ → List ℕ
age_words n = if n % 0x10000 == 0 then codes "at once" else codes "after " ++ (decimal (n % 0x10000) ++ unit_words n)

-- words about one slot
abbrev pub slot_words : ℕ → List ℕ → List ℕ
slot_words i rest = codes "slot " ++ (decimal i ++ rest)

abbrev pub lock_sentence : ℕ → Bool → List ℕ
lock_sentence n true = lock_words n
lock_sentence n false = codes "while the check of the lock time " ++ (decimal n ++ codes " fails")

abbrev pub age_sentence : ℕ → Bool → List ℕ
age_sentence n true = age_words n
age_sentence n false = codes "while the check of the relative lock " ++ (decimal n ++ codes " fails")

-- the bytes in hexadecimal or the number of the slot that a key comes from
abbrev pub key_words : KeySource → List ℕ
key_words (FixedKey key) = hex_text key
key_words (SlotKey i) = decimal i

abbrev pub sentence_by : Fact → Bool → List ℕ
sentence_by (Hash i h) p = slot_words i (about (Hash i h) p ++ hex_text h)
sentence_by (Size i n) p = slot_words i (about (Size i n) p ++ (decimal n ++ codes " bytes long"))
sentence_by (Truth i) p = slot_words i (about (Truth i) p)
sentence_by (Is i b) p = slot_words i (about (Is i b) p ++ hex_text b)
sentence_by (KeyForm i) p = slot_words i (about (KeyForm i) p)
sentence_by (Form i) p = slot_words i (about (Form i) p)
sentence_by (Token i key) p = slot_words i (about (Token i key) p ++ key_words key)
sentence_by (Assigned slots keys) p = codes "slots " ++ (comma_separated decimal slots ++ (about (Assigned slots keys) p ++ (comma_separated key_text keys ++ codes " in their order")))
sentence_by (Lock n) p = lock_sentence n p
sentence_by (Age n) p = age_sentence n p

-- the sentence of a fact with its polarity
abbrev pub sentence_of : Stated → List ℕ
sentence_of s = sentence_by s.fact s.holds
