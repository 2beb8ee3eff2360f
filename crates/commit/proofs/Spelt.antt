-- The bytes of the HTLCs' scripts.
use Rattle.std.proofs.Common.{◌≡◌, ℕ, true, List, [], ◌∷◌, ◌++◌, length, ◌∙◌, append_assoc}
use Rattle.std.proofs.lemmas.Bool.{eqb-true, and_parts}
use Rattle.script.specs.Token.{is_key}
use Rattle.script.specs.Spelling.{spelling}
use Rattle.terms.specs.Scripts.{number_push, offered, received}
use Rattle.commit.specs.Outputs.{htlc_start}
use Rattle.commit.proofs.Pushes.{push_of_32}

pub key_length : (k : List ℕ) → is_key k ≡ true → length k ≡ 33
unfolding is_key
key_length k e = eqb-true (length k) 33 (and_parts _ _ e).0

pub offered_spelt : (r remote local p v : List ℕ) → length r ≡ 20 → length remote ≡ 33 → length local ≡ 33 → length p ≡ 20
    → v ≡ ((((htlc_start r remote ++ 0x64 ∷ 0x75 ∷ 0x52 ∷ 0x7c ∷ 0x21 ∷ []) ++ local) ++ 0x52 ∷ 0xae ∷ 0x67 ∷ 0xa9 ∷ 0x14 ∷ []) ++ p) ++ 0x88 ∷ 0xac ∷ 0x68 ∷ 0x68 ∷ []
    → v ≡ spelling (offered r remote local p)
offered_spelt r remote local p v a b c d e = e ∙ rw (push_of_32, a, b, c, d) (simp append_assoc)

pub received_spelt : (r remote local p v : List ℕ) (expiry_height : ℕ) → length r ≡ 20 → length remote ≡ 33 → length local ≡ 33 → length p ≡ 20
    → v ≡ (((((((htlc_start r remote ++ 0x63 ∷ 0xa9 ∷ 0x14 ∷ []) ++ p) ++ 0x88 ∷ 0x52 ∷ 0x7c ∷ 0x21 ∷ []) ++ local) ++ 0x52 ∷ 0xae ∷ 0x67 ∷ 0x75 ∷ []) ++ spelling (number_push expiry_height ∷ []))) ++ 0xb1 ∷ 0x75 ∷ 0xac ∷ 0x68 ∷ 0x68 ∷ []
    → v ≡ spelling (received r remote local p expiry_height)
received_spelt r remote local p v expiry_height a b c d e = e ∙ rw (push_of_32, a, b, c, d) (simp append_assoc)
