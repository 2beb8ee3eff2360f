-- The numbers of commitments in their fields (BOLT 3, "Commitment Transaction" and appendix C).
use Rattle.std.proofs.Common.{◌≡◌, ℕ, [], ◌∷◌, Some, None, refl}
use Rattle.terms.specs.declared.numbers.Obscured.{Obscured}
use Rattle.terms.specs.Numbers.{low_48_bits, obscured, revealed}

abbrev fields : ℕ → ℕ → Obscured
fields lock_time sequence = record { lock_time = lock_time; sequence = sequence }

-- number 42 under the mask of the appendix; each half at its ends
hidden : (obscured 0x2bb038521914 42 ≡ fields 0x2052193e 0x802bb038)
    × (obscured 0 0 ≡ fields 0x20000000 0x80000000)
    × (obscured 0 0xffffff ≡ fields 0x20ffffff 0x80000000)
    × (obscured 0 0x1000000 ≡ fields 0x20000000 0x80000001)
    × (obscured 0 0xffffffffffff ≡ fields 0x20ffffff 0x80ffffff)
    × (obscured 0xffffffffffff 1 ≡ fields 0x20fffffe 0x80ffffff)
hidden = (refl, refl, refl, refl, refl, refl)

-- each byte beside the top bytes carries no number
found : (revealed 0x2bb038521914 0x2052193e 0x802bb038 ≡ Some 42)
    × (revealed 0 0x1f000000 0x80000000 ≡ None)
    × (revealed 0 0x21000000 0x80000000 ≡ None)
    × (revealed 0 0x20000000 0x7f000000 ≡ None)
    × (revealed 0 0x20000000 0x81000000 ≡ None)
    × (revealed 0 0 0 ≡ None)
found = (refl, refl, refl, refl, refl, refl)

-- the hash of the two base keys in the appendix, whose mask is 2bb038521914
last_bytes : low_48_bits (0xc8 ∷ 0xbf ∷ 0xea ∷ 0x84 ∷ 0x21 ∷ 0x4b ∷ 0x45 ∷ 0x89 ∷ 0x94 ∷ 0x82 ∷ 0xa4 ∷ 0xba ∷ 0xd1 ∷ 0xd8 ∷ 0x5c ∷ 0x42 ∷ 0x13 ∷ 0x07 ∷ 0x43 ∷ 0xed ∷ 0x78 ∷ 0xba ∷ 0x37 ∷ 0x11 ∷ 0xf5 ∷ 0x53 ∷ 0x2b ∷ 0xb0 ∷ 0x38 ∷ 0x52 ∷ 0x19 ∷ 0x14 ∷ []) ≡ 0x2bb038521914
last_bytes = refl
