-- The kinds of a slot's row, as the header numbers them; and rows that fill no slot.
use Rattle.std.proofs.Common.{◌≡◌, ℕ, [], ◌∷◌, map, Some, None, refl}
use Rattle.keys.specs.declared.compressed.Key.{Key}
use Rattle.claim.specs.declared.parts.WitnessItem.{WitnessItem}
use Rattle.claim.specs.declared.parts.Slot.TheVariants.{Sig, Preimage, Exact}
use Rattle.enforce_c.specs.declared.claim_rows.SlotRow.{SlotRow}
use Rattle.enforce_c.specs.declared.statuses.Refusal.TheVariants.{SlotOutOfRange, NoSuchSlot}
use Rattle.enforce_c.specs.Ranges.{part}
use Rattle.enforce_c.specs.Claimed.{slot_fault, FillsAs}

module _ (row : SlotRow) where
  -- 1 is a signature, 2 a preimage, 3 exact bytes
  signature : (k : Key) → k.bytes ≡ row.key → FillsAs [] (record row { kind = 1 }) (Sig k)
  signature k e = (refl, e)

  preimage : FillsAs [] (record row { kind = 2 }) (Preimage row.hash)
  preimage = (refl, refl)

  exact : (w : WitnessItem) → w.item ≡ part row.bytes_at row.bytes_length (7 ∷ []) → FillsAs (7 ∷ []) (record row { kind = 3 }) (Exact w)
  exact w e = (refl, e)

  -- a row of no kind; and of exact bytes that are not there, which a preimage's does not want
  faults : map (λ (kind : ℕ). slot_fault [] 5 (record row { kind = kind; bytes_at = 0; bytes_length = 1 })) (0 ∷ 2 ∷ 3 ∷ 4 ∷ []) ≡ Some (NoSuchSlot 5) ∷ None ∷ Some (SlotOutOfRange 5) ∷ Some (NoSuchSlot 5) ∷ []
  faults = refl
