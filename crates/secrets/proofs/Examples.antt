-- The definitions at small values.
use Rattle.std.proofs.Common.{◌≡◌, ℕ, List, [], ◌∷◌, Some, None, refl, replicate}
use Rattle.std.specs.Int.Count.{count_trailing_zeros}
use Rattle.secrets.specs.Derivation.{flipped, derived_secret, commitment_secret}
use Rattle.secrets.specs.Inserted.{inserted_at, IsNext}
use Rattle.sha2.specs.Sha256.{sha256, digest_bytes, hash_after, compress, rounds, schedule, first_words}

-- bit 9 is bit 1 of byte 1, and flipping it again undoes it
flips_one_bit : flipped 9 (0 ∷ 0 ∷ 0 ∷ []) ≡ 0 ∷ 2 ∷ 0 ∷ []
unfolding flipped
flips_one_bit = refl

flips_back : flipped 9 (0 ∷ 0xff ∷ 0 ∷ []) ≡ 0 ∷ 0xfd ∷ 0 ∷ []
unfolding flipped
flips_back = refl

-- index 0 has the seed itself
seed_is_last : (seed : List ℕ) → commitment_secret seed 0 ≡ seed
unfolding derived_secret
seed_is_last seed = refl

-- index 5 flips bit 2 first, and bit 0 last
high_bit_first : (seed : List ℕ) → commitment_secret seed 5 ≡ sha256 (flipped 0 (sha256 (flipped 2 seed)))
unfolding derived_secret
high_bit_first seed = refl

-- the first secret inserted is that of index 2^48 - 1
first_is_greatest : inserted_at ((7 ∷ []) ∷ (8 ∷ []) ∷ []) 281474976710655 ≡ Some (7 ∷ [])
unfolding inserted_at
first_is_greatest = refl

second_is_next : inserted_at ((7 ∷ []) ∷ (8 ∷ []) ∷ []) 281474976710654 ≡ Some (8 ∷ [])
unfolding inserted_at
second_is_next = refl

third_is_missing : inserted_at ((7 ∷ []) ∷ (8 ∷ []) ∷ []) 281474976710653 ≡ None
unfolding inserted_at
third_is_missing = refl

none_past_the_greatest : inserted_at ((7 ∷ []) ∷ (8 ∷ []) ∷ []) 281474976710656 ≡ None
unfolding inserted_at
none_past_the_greatest = refl

starts_at_the_greatest : IsNext [] 281474976710655
starts_at_the_greatest = refl

-- 281474976710648 ends in three zeros, and 0 has 48
three_zeros : count_trailing_zeros 48 281474976710648 ≡ 3
unfolding count_trailing_zeros
three_zeros = refl

all_zeros : count_trailing_zeros 48 0 ≡ 48
unfolding count_trailing_zeros
all_zeros = refl

-- BOLT 3, appendix D: index 1 of the seed of 32 bytes 01
last_nontrivial_node : commitment_secret (replicate 32 1) 1 ≡
    0x91 ∷ 0x5c ∷ 0x75 ∷ 0x94 ∷ 0x2a ∷ 0x26 ∷ 0xbb ∷ 0x3a ∷ 0x43 ∷ 0x3a ∷ 0x8c ∷ 0xe2 ∷ 0xcb ∷ 0x04 ∷ 0x27 ∷ 0xc2 ∷
    0x9e ∷ 0xc6 ∷ 0xc1 ∷ 0x77 ∷ 0x5c ∷ 0xfc ∷ 0x78 ∷ 0x32 ∷ 0x8b ∷ 0x57 ∷ 0xf6 ∷ 0xba ∷ 0x7b ∷ 0xfe ∷ 0xaa ∷ 0x9c ∷ []
unfolding derived_secret flipped sha256 digest_bytes hash_after compress rounds schedule first_words
last_nontrivial_node = refl
