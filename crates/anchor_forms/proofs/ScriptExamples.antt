-- The bytes of the scripts of BOLT 3 with `option_anchors`, as they were spelled by hand of its text, and the numbers of the ways through them.
use Rattle.std.proofs.Common.{◌≡◌, ℕ, List, [], ◌∷◌, ◌++◌, map, length, replicate, refl, Some, None}
use Rattle.script.specs.Number.{minimal_bytes_of, digits}
use Rattle.script.specs.Spelling.{spelling}
use Rattle.paths.specs.declared.state.Path.{Path}
use Rattle.terms.specs.Scripts.{number_push}
use Rattle.anchor_forms.specs.Scripts.{offered_with_anchors, received_with_anchors}
use Rattle.anchor_forms.specs.Ways.{offered_with_anchors_ways, received_with_anchors_ways}

-- a compressed key
abbrev key : ℕ → List ℕ
key b = 0x02 ∷ replicate 32 b

an_offer : spelling (offered_with_anchors (replicate 20 0x33) (key 0x11) (key 0x22) (replicate 20 0x44)) ≡
    ((0x76 ∷ 0xa9 ∷ 0x14 ∷ []) ++ ((replicate 20 0x33)
    ++ ((0x87 ∷ 0x63 ∷ 0xac ∷ 0x67 ∷ 0x21 ∷ []) ++ ((key 0x11)
    ++ ((0x7c ∷ 0x82 ∷ 0x01 ∷ 0x20 ∷ 0x87 ∷ 0x64 ∷ 0x75 ∷ 0x52 ∷ 0x7c ∷ 0x21 ∷ []) ++ ((key 0x22)
    ++ ((0x52 ∷ 0xae ∷ 0x67 ∷ 0xa9 ∷ 0x14 ∷ []) ++ ((replicate 20 0x44)
    ++ (0x88 ∷ 0xac ∷ 0x68 ∷ 0x51 ∷ 0xb2 ∷ 0x75 ∷ 0x68 ∷ [])))))))))
unfolding number_push minimal_bytes_of digits
an_offer = refl

a_receipt : spelling (received_with_anchors (replicate 20 0x33) (key 0x11) (key 0x22) (replicate 20 0x44) 500) ≡
    ((0x76 ∷ 0xa9 ∷ 0x14 ∷ []) ++ ((replicate 20 0x33)
    ++ ((0x87 ∷ 0x63 ∷ 0xac ∷ 0x67 ∷ 0x21 ∷ []) ++ ((key 0x11)
    ++ ((0x7c ∷ 0x82 ∷ 0x01 ∷ 0x20 ∷ 0x87 ∷ 0x63 ∷ 0xa9 ∷ 0x14 ∷ []) ++ ((replicate 20 0x44)
    ++ ((0x88 ∷ 0x52 ∷ 0x7c ∷ 0x21 ∷ []) ++ ((key 0x22)
    ++ (0x52 ∷ 0xae ∷ 0x67 ∷ 0x75 ∷ 0x02 ∷ 0xf4 ∷ 0x01 ∷ 0xb1 ∷ 0x75 ∷ 0xac ∷ 0x68 ∷ 0x51 ∷ 0xb2 ∷ 0x75 ∷ 0x68 ∷ [])))))))))
unfolding number_push minimal_bytes_of digits
a_receipt = refl

-- 136 bytes, and with an expiry of three bytes 142
lengths : (length (spelling (offered_with_anchors (replicate 20 0x33) (key 0x11) (key 0x22) (replicate 20 0x44))) ≡ 136) × (length (spelling (received_with_anchors (replicate 20 0x33) (key 0x11) (key 0x22) (replicate 20 0x44) 800000)) ≡ 142)
unfolding number_push minimal_bytes_of digits
lengths = (refl, refl)

-- slots, counted opcodes and heights of the ways
abbrev numbers : Path → List ℕ
numbers p = p.arity ∷ p.ops ∷ p.height ∷ []

way_numbers : (map numbers (offered_with_anchors_ways (replicate 20 0x33) (key 0x11) (key 0x22) (replicate 20 0x44)) ≡ (2 ∷ 21 ∷ 4 ∷ []) ∷ (4 ∷ 23 ∷ 7 ∷ []) ∷ (2 ∷ 21 ∷ 5 ∷ []) ∷ []) × (map numbers (received_with_anchors_ways (replicate 20 0x33) (key 0x11) (key 0x22) (replicate 20 0x44) 500) ≡ (2 ∷ 23 ∷ 4 ∷ []) ∷ (4 ∷ 25 ∷ 7 ∷ []) ∷ (2 ∷ 23 ∷ 5 ∷ []) ∷ [])
way_numbers = (refl, refl)

-- their locks: none on the revocation key's way, and one block on the others
locks : (map (λ p. p.age) (offered_with_anchors_ways (replicate 20 0x33) (key 0x11) (key 0x22) (replicate 20 0x44)) ≡ None ∷ Some 1 ∷ Some 1 ∷ []) × (map (λ p. p.lock) (offered_with_anchors_ways (replicate 20 0x33) (key 0x11) (key 0x22) (replicate 20 0x44)) ≡ None ∷ None ∷ None ∷ []) × (map (λ p. p.age) (received_with_anchors_ways (replicate 20 0x33) (key 0x11) (key 0x22) (replicate 20 0x44) 500) ≡ None ∷ Some 1 ∷ Some 1 ∷ []) × (map (λ p. p.lock) (received_with_anchors_ways (replicate 20 0x33) (key 0x11) (key 0x22) (replicate 20 0x44) 500) ≡ None ∷ None ∷ Some 500 ∷ [])
locks = (refl, refl, refl, refl)
