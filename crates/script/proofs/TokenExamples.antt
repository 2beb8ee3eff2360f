-- Keys, tokens and choices of keys.
use Rattle.std.proofs.Common.{◌≡◌, ℕ, true, false, List, [], ◌∷◌, ◌++◌, map, replicate, refl}
use Rattle.script.specs.Token.{token_of, is_key, is_token, is_signature, assigned}

-- compressed keys begin with 02 or 03 and have 33 bytes (BIP 141); other forms of the public key begin with 04, 06 or 07
keys : map is_key ((2 ∷ replicate 32 9) ∷ (3 ∷ replicate 32 9) ∷ (4 ∷ replicate 32 9) ∷ (0 ∷ replicate 32 9) ∷ (1 ∷ replicate 32 9) ∷ (6 ∷ replicate 32 9) ∷ (0x82 ∷ replicate 32 9) ∷ (2 ∷ replicate 31 9) ∷ (2 ∷ replicate 33 9) ∷ (4 ∷ replicate 64 9) ∷ [] ∷ []) ≡
    true ∷ true ∷ false ∷ false ∷ false ∷ false ∷ false ∷ false ∷ false ∷ false ∷ false ∷ []
unfolding is_key
keys = refl

-- 66 bytes, the first of which is 02 or 03 and the last 01
tokens : map is_token (
    (2 ∷ (replicate 64 9 ++ 1 ∷ [])) ∷ (3 ∷ (replicate 64 9 ++ 1 ∷ [])) ∷ (4 ∷ (replicate 64 9 ++ 1 ∷ [])) ∷ (0 ∷ (replicate 64 9 ++ 1 ∷ []))
    ∷ (2 ∷ (replicate 64 9 ++ 0 ∷ [])) ∷ (2 ∷ (replicate 64 9 ++ 2 ∷ [])) ∷ (2 ∷ (replicate 64 9 ++ 3 ∷ [])) ∷ (2 ∷ (replicate 64 9 ++ 0x81 ∷ [])) ∷ (2 ∷ replicate 65 9)
    ∷ (2 ∷ (replicate 63 9 ++ 1 ∷ [])) ∷ (2 ∷ (replicate 65 1)) ∷ (2 ∷ replicate 66 1) ∷ (2 ∷ (replicate 32 9)) ∷ [] ∷ []) ≡
    true ∷ true ∷ false ∷ false
    ∷ false ∷ false ∷ false ∷ false ∷ false
    ∷ false ∷ true ∷ false ∷ false ∷ false ∷ []
unfolding is_token
tokens = refl

-- a token, or the empty item
signatures : map is_signature ([] ∷ (2 ∷ (replicate 64 9 ++ 1 ∷ [])) ∷ (0 ∷ []) ∷ (1 ∷ []) ∷ (2 ∷ (replicate 64 9 ++ 2 ∷ [])) ∷ (4 ∷ (replicate 64 9 ++ 1 ∷ [])) ∷ []) ≡
    true ∷ true ∷ false ∷ false ∷ false ∷ false ∷ []
unfolding is_signature is_token
signatures = refl

-- the key, then the digest, then the hash type ALL
token_bytes : token_of (2 ∷ replicate 32 9) (7 ∷ replicate 31 8) ≡ 2 ∷ (replicate 32 9 ++ (7 ∷ (replicate 31 8 ++ 1 ∷ [])))
unfolding token_of
token_bytes = refl

abbrev key : ℕ → List ℕ
key b = 2 ∷ replicate 32 b

abbrev digest : List ℕ
digest = replicate 32 7

abbrev token : ℕ → List ℕ
token b = 2 ∷ (replicate 32 b ++ (replicate 32 7 ++ 1 ∷ []))

-- signatures of an increasing choice of three keys, one for each
chosen : map (λ sigs. assigned sigs (key 1 ∷ key 2 ∷ key 3 ∷ []) digest) (
    [] ∷ (token 1 ∷ []) ∷ (token 2 ∷ []) ∷ (token 3 ∷ []) ∷ (token 1 ∷ token 2 ∷ []) ∷ (token 1 ∷ token 3 ∷ []) ∷ (token 2 ∷ token 3 ∷ []) ∷ (token 1 ∷ token 2 ∷ token 3 ∷ []) ∷ []) ≡
    true ∷ true ∷ true ∷ true ∷ true ∷ true ∷ true ∷ true ∷ []
unfolding token_of
chosen = refl

-- by another key, in another order, one twice, an empty one, and more than there are keys
not_chosen : map (λ sigs. assigned sigs (key 1 ∷ key 2 ∷ key 3 ∷ []) digest) (
    (token 4 ∷ []) ∷ (token 2 ∷ token 1 ∷ []) ∷ (token 3 ∷ token 1 ∷ []) ∷ (token 1 ∷ token 1 ∷ []) ∷ (token 1 ∷ token 4 ∷ []) ∷ ([] ∷ []) ∷ (token 1 ∷ [] ∷ []) ∷ (token 1 ∷ token 2 ∷ token 3 ∷ token 3 ∷ []) ∷ []) ≡
    false ∷ false ∷ false ∷ false ∷ false ∷ false ∷ false ∷ false ∷ []
unfolding token_of
not_chosen = refl

-- a key listed twice serves two signatures; without keys only the empty list of signatures is served; a token over
-- another digest does not fit
chosen_twice : (assigned (token 1 ∷ token 1 ∷ []) (key 1 ∷ key 1 ∷ []) digest ≡ true) × (assigned (token 1 ∷ []) [] digest ≡ false) × (assigned [] [] digest ≡ true) × (assigned (token 1 ∷ []) (key 1 ∷ []) (replicate 32 8) ≡ false)
unfolding token_of
chosen_twice = (refl, refl, refl, refl)
