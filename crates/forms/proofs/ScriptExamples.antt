-- The bytes of the scripts, and of the numbers in them.
use Rattle.std.proofs.Common.{◌≡◌, ℕ, List, [], ◌∷◌, ◌++◌, map, replicate, refl, true, false, Some, None}
use Rattle.script.specs.Number.{minimal_bytes_of, digits}
use Rattle.script.specs.Spelling.{spelling}
use Rattle.paths.specs.declared.state.Path.{Path}
use Rattle.terms.specs.Scripts.{number_push, is_lesser, funding, to_local, key_hash, offered, received}
use Rattle.forms.specs.Ways.{to_local_ways, offered_ways, received_ways}

-- a compressed key
abbrev key : ℕ → List ℕ
key b = 0x02 ∷ replicate 32 b

-- numbers: both sides of each change of form, and of a new sign byte
pushes : map (λ n. spelling (number_push n ∷ [])) (0 ∷ 1 ∷ 16 ∷ 17 ∷ 127 ∷ 128 ∷ 144 ∷ 500 ∷ 32767 ∷ 32768 ∷ 40000 ∷ 65535 ∷ 499999999 ∷ []) ≡
    (0x00 ∷ []) ∷ (0x51 ∷ []) ∷ (0x60 ∷ []) ∷ (0x01 ∷ 0x11 ∷ []) ∷ (0x01 ∷ 0x7f ∷ []) ∷ (0x02 ∷ 0x80 ∷ 0x00 ∷ []) ∷ (0x02 ∷ 0x90 ∷ 0x00 ∷ []) ∷ (0x02 ∷ 0xf4 ∷ 0x01 ∷ []) ∷ (0x02 ∷ 0xff ∷ 0x7f ∷ []) ∷ (0x03 ∷ 0x00 ∷ 0x80 ∷ 0x00 ∷ []) ∷ (0x03 ∷ 0x40 ∷ 0x9c ∷ 0x00 ∷ []) ∷ (0x03 ∷ 0xff ∷ 0xff ∷ 0x00 ∷ []) ∷ (0x04 ∷ 0xff ∷ 0x64 ∷ 0xcd ∷ 0x1d ∷ []) ∷ []
unfolding number_push minimal_bytes_of digits
pushes = refl

-- the lesser key first: by its first byte, and where that is the same by the next one that differs
lesser : map {A = List ℕ × List ℕ} (λ (a, b). is_lesser a b) ((key 1, key 2) ∷ (key 2, key 1) ∷ (key 1, key 1) ∷ (key 9, 0x03 ∷ replicate 32 1) ∷ (0x03 ∷ replicate 32 1, key 9) ∷ (0x02 ∷ (replicate 31 1 ++ 0x05 ∷ []), 0x02 ∷ (replicate 31 1 ++ 0x06 ∷ [])) ∷ []) ≡ true ∷ false ∷ false ∷ true ∷ false ∷ true ∷ []
lesser = refl

sorted : (spelling (funding (key 0x11) (key 0x22)) ≡ ((0x52 ∷ 0x21 ∷ []) ++ ((key 0x11) ++ ((0x21 ∷ []) ++ ((key 0x22) ++ (0x52 ∷ 0xae ∷ [])))))) × (spelling (funding (key 0x22) (key 0x11)) ≡ ((0x52 ∷ 0x21 ∷ []) ++ ((key 0x11) ++ ((0x21 ∷ []) ++ ((key 0x22) ++ (0x52 ∷ 0xae ∷ []))))))
sorted = (refl, refl)

local : spelling (to_local (key 0x11) 144 (key 0x22)) ≡ ((0x63 ∷ 0x21 ∷ []) ++ ((key 0x11) ++ ((0x67 ∷ 0x02 ∷ 0x90 ∷ 0x00 ∷ 0xb2 ∷ 0x75 ∷ 0x21 ∷ []) ++ ((key 0x22) ++ (0x68 ∷ 0xac ∷ [])))))
unfolding number_push minimal_bytes_of digits
local = refl

remote : spelling (key_hash (replicate 20 0x33)) ≡ ((0x76 ∷ 0xa9 ∷ 0x14 ∷ []) ++ ((replicate 20 0x33) ++ (0x88 ∷ 0xac ∷ [])))
remote = refl

an_offer : spelling (offered (replicate 20 0x33) (key 0x11) (key 0x22) (replicate 20 0x44)) ≡ ((0x76 ∷ 0xa9 ∷ 0x14 ∷ []) ++ ((replicate 20 0x33) ++ ((0x87 ∷ 0x63 ∷ 0xac ∷ 0x67 ∷ 0x21 ∷ []) ++ ((key 0x11) ++ ((0x7c ∷ 0x82 ∷ 0x01 ∷ 0x20 ∷ 0x87 ∷ 0x64 ∷ 0x75 ∷ 0x52 ∷ 0x7c ∷ 0x21 ∷ []) ++ ((key 0x22) ++ ((0x52 ∷ 0xae ∷ 0x67 ∷ 0xa9 ∷ 0x14 ∷ []) ++ ((replicate 20 0x44) ++ (0x88 ∷ 0xac ∷ 0x68 ∷ 0x68 ∷ [])))))))))
unfolding number_push minimal_bytes_of digits
an_offer = refl

a_receipt : spelling (received (replicate 20 0x33) (key 0x11) (key 0x22) (replicate 20 0x44) 500) ≡ ((0x76 ∷ 0xa9 ∷ 0x14 ∷ []) ++ ((replicate 20 0x33) ++ ((0x87 ∷ 0x63 ∷ 0xac ∷ 0x67 ∷ 0x21 ∷ []) ++ ((key 0x11) ++ ((0x7c ∷ 0x82 ∷ 0x01 ∷ 0x20 ∷ 0x87 ∷ 0x63 ∷ 0xa9 ∷ 0x14 ∷ []) ++ ((replicate 20 0x44) ++ ((0x88 ∷ 0x52 ∷ 0x7c ∷ 0x21 ∷ []) ++ ((key 0x22) ++ (0x52 ∷ 0xae ∷ 0x67 ∷ 0x75 ∷ 0x02 ∷ 0xf4 ∷ 0x01 ∷ 0xb1 ∷ 0x75 ∷ 0xac ∷ 0x68 ∷ 0x68 ∷ [])))))))))
unfolding number_push minimal_bytes_of digits
a_receipt = refl

-- slots, counted opcodes and heights of the ways through an HTLC, and its locks
abbrev numbers : Path → List ℕ
numbers p = p.arity ∷ p.ops ∷ p.height ∷ []

way_numbers : (map numbers (offered_ways (replicate 20 0x33) (key 0x11) (key 0x22) (replicate 20 0x44)) ≡ (2 ∷ 19 ∷ 4 ∷ []) ∷ (4 ∷ 21 ∷ 7 ∷ []) ∷ (2 ∷ 19 ∷ 5 ∷ []) ∷ []) × (map numbers (received_ways (replicate 20 0x33) (key 0x11) (key 0x22) (replicate 20 0x44) 500) ≡ (2 ∷ 21 ∷ 4 ∷ []) ∷ (4 ∷ 23 ∷ 7 ∷ []) ∷ (2 ∷ 21 ∷ 5 ∷ []) ∷ [])
way_numbers = (refl, refl)

locks : (map (λ p. p.lock) (received_ways (replicate 20 0x33) (key 0x11) (key 0x22) (replicate 20 0x44) 500) ≡ None ∷ None ∷ Some 500 ∷ []) × (map (λ p. p.age) (received_ways (replicate 20 0x33) (key 0x11) (key 0x22) (replicate 20 0x44) 500) ≡ None ∷ None ∷ None ∷ []) × (map (λ p. p.age) (to_local_ways (key 0x11) 40000 (key 0x22)) ≡ None ∷ Some 40000 ∷ []) × (map (λ p. p.lock) (to_local_ways (key 0x11) 40000 (key 0x22)) ≡ None ∷ None ∷ [])
locks = (refl, refl, refl, refl)
