-- The ways through the scripts of BOLT 3, in the text order of their branches.
use Rattle.std.specs.Prelude.{ℕ, if◌then◌else◌, true, false, List, [], ◌∷◌, Some, None}
use Rattle.facts.specs.declared.symbols.KeySourceOver.TheVariants.{Const as FixedKey, Slot as SlotKey}
use Rattle.facts.specs.Symbols.{Fact}
use Rattle.facts.specs.declared.symbols.FactOver.TheVariants.{Hash as HashIs, Size as SizeIs, Truth, Is, KeyForm, Form, Token, Assigned, Lock, Age}
use Rattle.facts.specs.Symbols.{Stated}
use Rattle.paths.specs.declared.state.Path.{Path}
use Rattle.paths.specs.Listing.{path_with}
use Rattle.terms.specs.Scripts.{is_lesser}

abbrev pub yes : Fact → Stated
yes f = record { fact = f; holds = true }

abbrev pub no : Fact → Stated
no f = record { fact = f; holds = false }

-- a way without locks: how many slots, its facts, how many opcodes count, and the greatest height of the stack
abbrev pub way : ℕ → List Stated → ℕ → ℕ → Path
way arity facts ops height = path_with arity facts ops height None None

-- the one way through the funding output: two signatures, the first key's deeper
abbrev pub two_of_two_ways : List ℕ → List ℕ → List Path
two_of_two_ways first second =
    way 3 (yes (Form 1) ∷ yes (Form 0) ∷ yes (Is 2 [])
    ∷ yes (Assigned (1 ∷ 0 ∷ []) (FixedKey first ∷ FixedKey second ∷ [])) ∷ []) 3 7 ∷ []

abbrev pub funding_ways : List ℕ → List ℕ → List Path
funding_ways key other = if is_lesser other key then two_of_two_ways other key else two_of_two_ways key other

-- the way of a key with this hash: slot 0 is the key, and slot 1 its signature
abbrev pub key_way : List ℕ → ℕ → Path
key_way hash ops = way 2
    (yes (HashIs 0 hash) ∷ yes (KeyForm 0) ∷ yes (Form 1) ∷ yes (Token 1 (SlotKey 0)) ∷ []) ops 4

-- slot 1 is the signature of this key
abbrev pub key_signs : List ℕ → List Stated
key_signs key = yes (Form 1) ∷ yes (Token 1 (FixedKey key)) ∷ []

-- slots 2 and 1 are the signatures of these two keys, and slot 3 is the empty item below them
abbrev pub both_sign : List ℕ → List ℕ → List Stated
both_sign remote local = yes (Form 2) ∷ yes (Form 1) ∷ yes (Is 3 [])
    ∷ yes (Assigned (2 ∷ 1 ∷ []) (FixedKey remote ∷ FixedKey local ∷ [])) ∷ []

-- slot 0 is not the key with the hash h but a preimage, whose hash is p; or it is neither
abbrev pub takes_preimage : List ℕ → List ℕ → List Stated → List Stated
takes_preimage h p facts = no (HashIs 0 h) ∷ yes (SizeIs 0 32) ∷ yes (HashIs 0 p) ∷ facts

abbrev pub takes_neither : List ℕ → List Stated → List Stated
takes_neither h facts = no (HashIs 0 h) ∷ no (SizeIs 0 32) ∷ facts

-- the way of the revocation key, and that of the delayed key
abbrev pub to_local_ways : (revocation : List ℕ) (delay_blocks : ℕ) (delayed : List ℕ) → List Path
to_local_ways revocation delay_blocks delayed = way 2 (yes (Truth 0) ∷ key_signs revocation) 6 2
    ∷ path_with 2 (no (Truth 0) ∷ yes (Age delay_blocks) ∷ key_signs delayed) 6 2 None (Some delay_blocks) ∷ []

-- the one way through a key hash
abbrev pub key_hash_ways : List ℕ → List Path
key_hash_ways hash = key_way hash 4 ∷ []

-- the revocation key's way, the timeout with both keys, and the remote key's way with the preimage
abbrev pub offered_ways : (revocation_hash remote local payment_hash : List ℕ) → List Path
offered_ways h remote local p =
    key_way h 19
    ∷ way 4 (takes_neither h (both_sign remote local)) 21 7
    ∷ way 2 (takes_preimage h p (key_signs remote)) 19 5 ∷ []

-- the revocation key's way, the success with both keys and the preimage, and the remote key's way from a height on
abbrev pub received_ways : (revocation remote local payment : List ℕ) (expiry_height : ℕ) → List Path
received_ways h remote local p t =
    key_way h 21
    ∷ way 4 (takes_preimage h p (both_sign remote local)) 23 7
    ∷ path_with 2 (takes_neither h (yes (Lock t) ∷ key_signs remote)) 21 5 (Some t) None ∷ []
