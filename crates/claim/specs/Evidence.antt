-- What slots show of a fact: that it holds (Some true), that it does not (Some false), or neither (None). Where the transaction is fixed, the digest
-- is known, and a signature slot counts as the exact bytes of its token. Without the digest, what is shown of a signature slot holds for each token
-- of its key.
use Rattle.std.specs.Prelude.{ℕ, ◌+◌, Bool, true, false, ◌&&◌, ◌||◌, not, ◌==◌, nat_lt, if◌then◌else◌, List, [], ◌∷◌, length, take, Option, Some, None, is_some, slice_get, slice_index, option_and_then, unwrap_or}
use Rattle.std.specs.Str.{bytes_eq}
use Rattle.std.specs.List.{list_any, list_all}
use Rattle.std.specs.Option.{option_map_or}
use Rattle.sha2.specs.Sha256.{sha256}
use Rattle.digest.specs.Ripemd160.{ripemd160}
use Rattle.digest.specs.Hash.{hash160}
use Rattle.script.specs.declared.limits.TheConstants.{LOCKTIME_THRESHOLD}
use Rattle.script.specs.Token.{token_of, is_key, is_signature}
use Rattle.script.specs.Step.{truth, bit_at}
use Rattle.facts.specs.Symbols.{KeySource}
use Rattle.facts.specs.declared.symbols.KeySourceOver.TheVariants.{Const as FixedKey, Slot as SlotKey}
use Rattle.facts.specs.Symbols.{Fact}
use Rattle.facts.specs.declared.symbols.FactOver.TheVariants.{Hash, Size, Truth, Is, KeyForm, Form, Token, Assigned, Lock, Age}
use Rattle.claim.specs.declared.parts.Slot.{Slot}
use Rattle.claim.specs.declared.parts.Slot.TheVariants.{Sig, Preimage, Exact}

-- these bytes are a key, 32 bytes and the hash type ALL
abbrev pub is_token_with : List ℕ → List ℕ → Bool
is_token_with key b = length b == length key + 33 && bytes_eq (take (length key) b) key
    && slice_index b (length key + 32) == 1

-- HASH160 of the slot is these bytes: the preimage of a SHA-256 has the RIPEMD-160 of it
abbrev pub hash_evidence : Option (List ℕ) → List ℕ → Slot → Option Bool
hash_evidence None h (Sig k) = None
hash_evidence (Some digest) h (Sig k) = Some (bytes_eq (hash160 (token_of k.bytes digest)) h)
hash_evidence known h (Preimage ph) = Some (bytes_eq (ripemd160 ph) h)
hash_evidence known h (Exact b) = Some (bytes_eq (hash160 b.item) h)

-- the slot has n bytes
abbrev pub size_evidence : ℕ → Slot → Option Bool
size_evidence n (Sig k) = Some (n == 66)
size_evidence n (Preimage ph) = Some (n == 32)
size_evidence n (Exact b) = Some (length b.item == n)

-- the slot is true
abbrev pub truth_evidence : Slot → Option Bool
truth_evidence (Sig k) = Some true
truth_evidence (Preimage ph) = None
truth_evidence (Exact b) = Some (truth b.item)

-- Some false if a test fails, else None
abbrev pub no_unless : Bool → Option Bool
no_unless passes = if passes then None else Some false

-- these are 32 bytes with this SHA-256
abbrev pub is_preimage : List ℕ → List ℕ → Bool
is_preimage c ph = length c == 32 && bytes_eq (sha256 c) ph

-- the slot is these bytes
abbrev pub bytes_evidence : Option (List ℕ) → List ℕ → Slot → Option Bool
bytes_evidence None c (Sig k) = no_unless (is_token_with k.bytes c)
bytes_evidence (Some digest) c (Sig k) = Some (bytes_eq (token_of k.bytes digest) c)
bytes_evidence known c (Preimage ph) = no_unless (is_preimage c ph)
bytes_evidence known c (Exact b) = Some (bytes_eq b.item c)

-- the slot is empty or has the form of a token
abbrev pub form_evidence : Slot → Option Bool
form_evidence (Sig k) = Some true
form_evidence (Preimage ph) = Some false
form_evidence (Exact b) = Some (is_signature b.item)

-- the slot has the form of a key
abbrev pub key_form_evidence : Slot → Option Bool
key_form_evidence (Exact b) = Some (is_key b.item)
key_form_evidence slot = Some false

-- the slot is the token of a key whose bytes are known
abbrev pub token_of_evidence : Option (List ℕ) → List ℕ → Slot → Option Bool
token_of_evidence known key (Sig k) = Some (bytes_eq k.bytes key)
token_of_evidence known key (Preimage ph) = Some false
token_of_evidence None key (Exact b) = no_unless (is_token_with key b.item)
token_of_evidence (Some digest) key (Exact b) = Some (bytes_eq b.item (token_of key digest))

-- the bytes of a slot, where they are known
abbrev pub known_bytes : Option (List ℕ) → Option Slot → Option (List ℕ)
known_bytes (Some digest) (Some (Sig k)) = Some (token_of k.bytes digest)
known_bytes known (Some (Exact b)) = Some b.item
known_bytes known slot = None

-- the bytes of a key, where they are known: those of the script, or of a slot
abbrev pub known_key : Option (List ℕ) → List Slot → KeySource → Option (List ℕ)
known_key known slots (FixedKey b) = Some b
known_key known slots (SlotKey j) = known_bytes known (slice_get slots j)

-- the slot is the token of a key
abbrev pub slot_token_evidence : Option (List ℕ) → Option (List ℕ) → Slot → Option Bool
slot_token_evidence known (Some key) slot = token_of_evidence known key slot
slot_token_evidence known None (Preimage ph) = Some false
slot_token_evidence known None slot = None

-- what the slots show of the token of a key in a slot
abbrev pub token_evidence : Option (List ℕ) → List Slot → ℕ → KeySource → Option Bool
token_evidence known slots i key =
    option_and_then (slot_token_evidence known (known_key known slots key)) (slice_get slots i)

abbrev pub is_yes : Option Bool → Bool
is_yes o = unwrap_or o false

abbrev pub is_no : Option Bool → Bool
is_no o = option_map_or not o false

-- whether an increasing choice of keys exists that a test passes, one for each slot
abbrev pub exists_choice : (ℕ → KeySource → Bool) → List ℕ → List KeySource → Bool
exists_choice f [] ks = true
exists_choice f (i ∷ is) [] = false
exists_choice f (i ∷ is) (k ∷ ks) = (f i k && exists_choice f is ks) || exists_choice f (i ∷ is) ks

-- whether a choice of keys is shown to exist; that there is none is shown where a slot has no key, or where every token is decided
abbrev pub assigned_evidence : Option (List ℕ) → List Slot → List ℕ → List KeySource → Option Bool
assigned_evidence known slots is keys =
    if exists_choice (λ i key. is_yes (token_evidence known slots i key)) is keys then Some true
    else if list_any (λ i. list_all (λ key. is_no (token_evidence known slots i key)) keys) is
    || list_all (λ i. list_all (λ key. is_some (token_evidence known slots i key)) keys) is
    then Some false else None

-- what the slots show of a fact, under the digest if it is known
abbrev pub evidence_of : Option (List ℕ) → List Slot → Fact → Option Bool
evidence_of known slots (Hash i h) = option_and_then (hash_evidence known h) (slice_get slots i)
evidence_of known slots (Size i n) = option_and_then (size_evidence n) (slice_get slots i)
evidence_of known slots (Truth i) = option_and_then truth_evidence (slice_get slots i)
evidence_of known slots (Is i c) = option_and_then (bytes_evidence known c) (slice_get slots i)
evidence_of known slots (KeyForm i) = option_and_then key_form_evidence (slice_get slots i)
evidence_of known slots (Form i) = option_and_then form_evidence (slice_get slots i)
evidence_of known slots (Token i key) = token_evidence known slots i key
evidence_of known slots (Assigned is keys) = assigned_evidence known slots is keys
evidence_of known slots (Lock n) = if nat_lt n LOCKTIME_THRESHOLD then Some true else None
evidence_of known slots (Age n) = if bit_at 22 n then None else Some true
