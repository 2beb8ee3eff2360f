-- Keys, signature tokens, and choices of keys.
use Rattle.std.specs.Prelude.{◌≡◌, ℕ, Bool, true, false, ◌&&◌, ◌||◌, ◌==◌, List, [], ◌∷◌, ◌++◌, length, slice_index}
use Rattle.std.specs.Str.{bytes_eq}

-- the token of a key over a digest: the key's 33 bytes, the digest's 32, and the hash type ALL
unfoldable pub token_of : List ℕ → List ℕ → List ℕ
token_of key digest = key ++ (digest ++ 1 ∷ [])

-- a compressed key begins with 02 or 03
abbrev pub is_key_start : ℕ → Bool
is_key_start b = b == 2 || b == 3

unfoldable pub is_key : List ℕ → Bool
is_key item = length item == 33 && is_key_start (slice_index item 0)

unfoldable pub is_token : List ℕ → Bool
is_token item = length item == 66 && is_key_start (slice_index item 0) && slice_index item 65 == 1

-- an item with the form of a signature: empty, or a token
unfoldable pub is_signature : List ℕ → Bool
is_signature item = length item == 0 || is_token item

-- whether an increasing choice of keys exists such that each signature is the token of its key: the first key is that of the
-- first signature, or it is skipped
abbrev pub assigned : List (List ℕ) → List (List ℕ) → List ℕ → Bool
assigned [] keys digest = true
assigned (s ∷ sigs) [] digest = false
assigned (s ∷ sigs) (k ∷ keys) digest =
    (bytes_eq s (token_of k digest) && assigned sigs keys digest) || assigned (s ∷ sigs) keys digest

-- the same as a relation: the signatures, in order, are the tokens of an increasing choice of the keys
pub data Assigned (digest : List ℕ) : List (List ℕ) → List (List ℕ) → Type 0 where
  done : {keys : List (List ℕ)} → Assigned digest [] keys
  chosen : {k s : List ℕ} {sigs keys : List (List ℕ)} → s ≡ token_of k digest → Assigned digest sigs keys → Assigned digest (s ∷ sigs) (k ∷ keys)
  passed : {k : List ℕ} {sigs keys : List (List ℕ)} → Assigned digest sigs keys → Assigned digest sigs (k ∷ keys)
