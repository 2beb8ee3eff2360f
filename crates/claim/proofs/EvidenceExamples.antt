-- What slots show of facts: the token of a key, 32 bytes of a SHA-256, and exact bytes.
use Rattle.std.proofs.Common.{◌≡◌, ℕ, Bool, true, false, List, [], ◌∷◌, ◌++◌, map, replicate, refl, lit≤, Option, Some, None}
use Rattle.std.specs.Prelude.{IsTrue}
use Rattle.std.specs.Str.{bytes_eq}
use Rattle.digest.specs.Ripemd160.{ripemd160}
use Rattle.digest.specs.Hash.{hash160}
use Rattle.script.specs.Token.{token_of, is_key, is_token, is_signature}
use Rattle.facts.specs.declared.symbols.KeySourceOver.TheVariants.{Const as FixedKey, Slot as SlotKey}
use Rattle.facts.specs.Symbols.{Fact}
use Rattle.facts.specs.declared.symbols.FactOver.TheVariants.{Hash, Size, Truth, Is, KeyForm, Form, Token, Assigned, Lock, Age}
use Rattle.claim.specs.declared.parts.Slot.{Slot}
use Rattle.claim.specs.declared.parts.Slot.TheVariants.{Sig, Preimage, Exact}
use Rattle.claim.specs.Evidence.{evidence_of}
use Rattle.claim.specs.Judgement.{is_met}

abbrev key : ℕ → List ℕ
key b = 2 ∷ replicate 32 b

key_form : (b : ℕ) → IsTrue (is_key (key b))
unfolding is_key
key_form b = refl

-- the token of a key over a digest of bytes 7
abbrev token : ℕ → List ℕ
token b = 2 ∷ (replicate 32 b ++ (replicate 32 7 ++ 1 ∷ []))

abbrev sig : ℕ → Slot
sig b = Sig (record { bytes = key b; form = key_form b })

abbrev one : Slot
one = Exact (record { item = 1 ∷ []; short = lit≤ tt })

abbrev empty : Slot
empty = Exact (record { item = []; short = lit≤ tt })

abbrev key_slot : ℕ → Slot
key_slot b = Exact (record { item = key b; short = lit≤ tt })

abbrev token_slot : ℕ → Slot
token_slot b = Exact (record { item = token b; short = lit≤ tt })

-- 32 bytes whose SHA-256 is 32 bytes of 5
abbrev preimage : Slot
preimage = Preimage (replicate 32 5)

-- the top first: a token of key 1, 32 bytes of a hash, 01, the empty item, key 2, the token of key 2
abbrev slots : List Slot
slots = sig 1 ∷ preimage ∷ one ∷ empty ∷ key_slot 2 ∷ token_slot 2 ∷ []

abbrev shows : List Fact → List (Option Bool)
shows facts = map (evidence_of None slots) facts

abbrev yes : Option Bool
yes = Some true

abbrev no : Option Bool
no = Some false

-- a slot that is not there shows nothing
no_slot : map (evidence_of None slots) (Hash 6 [] ∷ Size 6 0 ∷ Truth 6 ∷ Is 6 [] ∷ KeyForm 6 ∷ Form 6 ∷ Token 6 (FixedKey (key 1)) ∷ []) ≡ replicate 7 None
no_slot = refl

-- the RIPEMD-160 of the hash, and the HASH160 of exact bytes
hashes : (h : List ℕ) → (evidence_of None slots (Hash 0 h) ≡ None) × (evidence_of None slots (Hash 1 h) ≡ Some (bytes_eq (ripemd160 (replicate 32 5)) h)) × (evidence_of None slots (Hash 2 h) ≡ Some (bytes_eq (hash160 (1 ∷ [])) h))
hashes h = (refl, refl, refl)

-- a token has 66 bytes, a preimage has 32
sizes : shows (Size 0 66 ∷ Size 0 65 ∷ Size 0 32 ∷ Size 0 0 ∷ Size 1 32 ∷ Size 1 33 ∷ Size 1 66 ∷ Size 2 1 ∷ Size 2 0 ∷ Size 3 0 ∷ Size 4 33 ∷ []) ≡ yes ∷ no ∷ no ∷ no ∷ yes ∷ no ∷ no ∷ yes ∷ no ∷ yes ∷ yes ∷ []
sizes = refl

truths : shows (Truth 0 ∷ Truth 1 ∷ Truth 2 ∷ Truth 3 ∷ []) ≡ yes ∷ None ∷ yes ∷ no ∷ []
truths = refl

-- a token is not these bytes unless they are a token of its key, whatever the digest is
token_is : shows (Is 0 (token 1) ∷ Is 0 (2 ∷ (replicate 32 1 ++ (replicate 32 9 ++ 1 ∷ []))) ∷ Is 0 (token 2) ∷ Is 0 [] ∷ Is 0 (2 ∷ (replicate 32 1 ++ replicate 32 7)) ∷ Is 0 (2 ∷ (replicate 32 1 ++ (replicate 33 7 ++ 1 ∷ []))) ∷ Is 0 (2 ∷ (replicate 32 1 ++ (replicate 32 7 ++ 2 ∷ []))) ∷ Is 0 (2 ∷ (replicate 32 1 ++ (replicate 32 7 ++ 0 ∷ []))) ∷ []) ≡
    None ∷ None ∷ no ∷ no ∷ no ∷ no ∷ no ∷ no ∷ []
token_is = refl

-- a preimage is not these bytes unless they are 32 bytes of that hash
preimage_is : shows (Is 1 [] ∷ Is 1 (replicate 31 5) ∷ Is 1 (replicate 33 5) ∷ []) ≡ no ∷ no ∷ no ∷ []
preimage_is = refl

exact_is : shows (Is 2 (1 ∷ []) ∷ Is 2 (2 ∷ []) ∷ Is 2 [] ∷ Is 3 [] ∷ Is 4 (key 2) ∷ []) ≡ yes ∷ no ∷ no ∷ yes ∷ yes ∷ []
exact_is = refl

-- a token has the form of a signature, and not that of a key
forms : shows (Form 0 ∷ Form 1 ∷ Form 2 ∷ Form 3 ∷ Form 4 ∷ Form 5 ∷ KeyForm 0 ∷ KeyForm 1 ∷ KeyForm 2 ∷ KeyForm 3 ∷ KeyForm 4 ∷ KeyForm 5 ∷ []) ≡ yes ∷ no ∷ no ∷ yes ∷ no ∷ yes ∷ no ∷ no ∷ no ∷ no ∷ yes ∷ no ∷ []
unfolding is_key is_token is_signature
forms = refl

-- a key of the script; exact bytes may be a token over a digest that is not known yet
fixed_keys : shows (Token 0 (FixedKey (key 1)) ∷ Token 0 (FixedKey (key 2)) ∷ Token 1 (FixedKey (key 1)) ∷ Token 2 (FixedKey (key 1)) ∷ Token 3 (FixedKey (key 1)) ∷ Token 5 (FixedKey (key 2)) ∷ Token 5 (FixedKey (key 1)) ∷ Token 4 (FixedKey (key 2)) ∷ []) ≡
    yes ∷ no ∷ no ∷ no ∷ no ∷ None ∷ no ∷ no ∷ []
fixed_keys = refl

-- a key in a slot: known where that slot is exact
slot_keys : (shows (Token 0 (SlotKey 4) ∷ Token 5 (SlotKey 4) ∷ Token 0 (SlotKey 1) ∷ Token 0 (SlotKey 0) ∷ Token 0 (SlotKey 9) ∷ Token 1 (SlotKey 0) ∷ Token 2 (SlotKey 0) ∷ []) ≡ no ∷ None ∷ None ∷ None ∷ None ∷ no ∷ None ∷ []) × (evidence_of None (sig 1 ∷ key_slot 1 ∷ []) (Token 0 (SlotKey 1)) ≡ yes)
slot_keys = (refl, refl)

-- locks below 500,000,000 are heights, and ages with bit 22 clear are in blocks: whatever fits the claim has reached them
locks : shows (Lock 0 ∷ Lock 499999999 ∷ Lock 500000000 ∷ Lock 500000001 ∷ Lock 549755813887 ∷ Age 0 ∷ Age 0xffff ∷ Age 0x400000 ∷ Age 0x400090 ∷ []) ≡ yes ∷ yes ∷ None ∷ None ∷ None ∷ yes ∷ yes ∷ None ∷ None ∷ []
locks = refl

-- an increasing choice of keys, each with a token that is shown
chosen : map (λ is. evidence_of None (sig 1 ∷ sig 2 ∷ sig 1 ∷ []) (Assigned is (FixedKey (key 1) ∷ FixedKey (key 2) ∷ FixedKey (key 3) ∷ []))) ((0 ∷ 1 ∷ []) ∷ (1 ∷ 0 ∷ []) ∷ (0 ∷ []) ∷ (1 ∷ []) ∷ (0 ∷ 2 ∷ []) ∷ (0 ∷ 1 ∷ 2 ∷ []) ∷ [] ∷ []) ≡ yes ∷ no ∷ yes ∷ yes ∷ no ∷ no ∷ yes ∷ []
chosen = refl

-- a slot that is no token of any key; one whose token is left open; no key at all
not_chosen : map {A = List ℕ × List ℕ} (λ (is, ks). evidence_of None slots (Assigned is (map (λ b. FixedKey (key b)) ks))) ((0 ∷ [], 2 ∷ 3 ∷ []) ∷ (5 ∷ [], 2 ∷ []) ∷ (5 ∷ [], 1 ∷ 3 ∷ []) ∷ (0 ∷ 5 ∷ [], 1 ∷ 2 ∷ []) ∷ (3 ∷ 5 ∷ [], 1 ∷ 2 ∷ []) ∷ (5 ∷ 0 ∷ [], 1 ∷ 2 ∷ []) ∷ (0 ∷ [], []) ∷ (9 ∷ [], 1 ∷ []) ∷ []) ≡ no ∷ None ∷ no ∷ None ∷ no ∷ None ∷ no ∷ None ∷ []
not_chosen = refl

-- under a digest of bytes 7, which a fixed transaction has: a token counts as its bytes, and exact bytes are the token of a key or are not
abbrev known : Option (List ℕ)
known = Some (replicate 32 7)

abbrev shows_known : List Fact → List (Option Bool)
shows_known facts = map (evidence_of known slots) facts

known_hash : (h : List ℕ) → (evidence_of known slots (Hash 0 h) ≡ Some (bytes_eq (hash160 (token 1)) h)) × (evidence_of known slots (Hash 1 h) ≡ Some (bytes_eq (ripemd160 (replicate 32 5)) h)) × (evidence_of known slots (Hash 2 h) ≡ Some (bytes_eq (hash160 (1 ∷ [])) h))
unfolding token_of
known_hash h = (refl, refl, refl)

known_is : shows_known (Is 0 (token 1) ∷ Is 0 (2 ∷ (replicate 32 1 ++ (replicate 32 9 ++ 1 ∷ []))) ∷ Is 0 (token 2) ∷ Is 1 (replicate 31 5) ∷ Is 5 (token 2) ∷ []) ≡ yes ∷ no ∷ no ∷ no ∷ yes ∷ []
unfolding token_of
known_is = refl

known_tokens : (shows_known (Token 0 (FixedKey (key 1)) ∷ Token 0 (FixedKey (key 2)) ∷ Token 5 (FixedKey (key 2)) ∷ Token 5 (FixedKey (key 1)) ∷ Token 1 (FixedKey (key 1)) ∷ Token 3 (FixedKey (key 1)) ∷ []) ≡ yes ∷ no ∷ yes ∷ no ∷ no ∷ no ∷ [])
    × (evidence_of (Some (replicate 32 9)) slots (Token 5 (FixedKey (key 2))) ≡ no)
    × (shows_known (Token 5 (SlotKey 4) ∷ Token 0 (SlotKey 4) ∷ Token 5 (SlotKey 0) ∷ Token 0 (SlotKey 0) ∷ Token 5 (SlotKey 1) ∷ Token 0 (SlotKey 9) ∷ []) ≡ yes ∷ no ∷ no ∷ no ∷ None ∷ None ∷ [])
unfolding token_of
known_tokens = (refl, refl, refl)

known_chosen : map {A = List ℕ} (λ is. evidence_of known slots (Assigned is (FixedKey (key 1) ∷ FixedKey (key 2) ∷ []))) ((0 ∷ 5 ∷ []) ∷ (5 ∷ 0 ∷ []) ∷ (5 ∷ []) ∷ []) ≡ yes ∷ no ∷ yes ∷ []
unfolding token_of
known_chosen = refl

-- the form of a token does not depend on its digest
known_forms : shows_known (Size 0 66 ∷ Size 0 65 ∷ Truth 0 ∷ Form 0 ∷ KeyForm 0 ∷ Truth 1 ∷ []) ≡ shows (Size 0 66 ∷ Size 0 65 ∷ Truth 0 ∷ Form 0 ∷ KeyForm 0 ∷ Truth 1 ∷ [])
known_forms = refl

-- a fact is met where it is shown with its own polarity
met : map (is_met None slots) (record { fact = Truth 0; holds = true } ∷ record { fact = Truth 0; holds = false } ∷ record { fact = Truth 3; holds = false } ∷ record { fact = Truth 3; holds = true } ∷ record { fact = Truth 1; holds = true } ∷ record { fact = Truth 1; holds = false } ∷ []) ≡ true ∷ false ∷ true ∷ false ∷ false ∷ false ∷ []
met = refl
