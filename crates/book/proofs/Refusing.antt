-- The first reason why claims are not filled.
use Rattle.std.proofs.Common.{◌≡◌, ℕ, ◌⊎◌, inl, inr, Bool, true, false, List, [], ◌∷◌, Option, Some, None, refl, sym}
use Rattle.std.specs.Prelude.{is_some, if◌then◌else◌}
use Rattle.std.proofs.lemmas.Bool.{false_from_ne_true}
use Rattle.std.proofs.lemmas.Option.{none-some}
use Rattle.std.specs.Option.{option_or}
use Rattle.tx.specs.Parts.{Output}
use Rattle.keys.specs.Rights.{Rights, MaySign}
use Rattle.claim.specs.declared.parts.Slot.{Slot}
use Rattle.claim.specs.declared.parts.Slot.TheVariants.{Sig, Preimage, Exact}
use Rattle.claim.specs.Claims.{ClaimParts}
use Rattle.filling.specs.declared.errors.FillError.{FillError}
use Rattle.filling.specs.declared.errors.FillError.TheVariants.{NoMemory, NoRight, NoPreimage, OutputsExceed, MixedShells, SameOutpoint}
use Rattle.filling.specs.Filling.{preimage_of}
use Rattle.filling.specs.Refusals.{are_mixed, share_outpoint, do_exceed, all_slots, IsFillable, AreFillable, Lacks, LacksFirst, ArePassed, IsFirstRefusal}
use Rattle.book.specs.Signers.{may_sign, lack_of, first_lack, fill_refusal, RefusalsAreFound}
use Rattle.book.proofs.Deciding.{rights_are_tested}

lack_is : (r : Rights) (preimages : List (List ℕ)) (slot : Slot) (e : FillError) → Lacks r preimages slot e → lack_of r preimages slot ≡ Some e
lack_is r preimages (Sig k) NoRight h = let no_right : may_sign r k.bytes ≡ false = false_from_ne_true (may_sign r k.bytes) (λ t. h ((rights_are_tested r k.bytes).0 t)) in rw no_right refl
lack_is r preimages (Sig k) NoMemory h = absurd h
lack_is r preimages (Sig k) NoPreimage h = absurd h
lack_is r preimages (Sig k) OutputsExceed h = absurd h
lack_is r preimages (Sig k) MixedShells h = absurd h
lack_is r preimages (Sig k) SameOutpoint h = absurd h
lack_is r preimages (Preimage x) NoPreimage h = rw h refl
lack_is r preimages (Preimage x) NoMemory h = absurd h
lack_is r preimages (Preimage x) NoRight h = absurd h
lack_is r preimages (Preimage x) OutputsExceed h = absurd h
lack_is r preimages (Preimage x) MixedShells h = absurd h
lack_is r preimages (Preimage x) SameOutpoint h = absurd h
lack_is r preimages (Exact b) NoMemory h = absurd h
lack_is r preimages (Exact b) NoRight h = absurd h
lack_is r preimages (Exact b) NoPreimage h = absurd h
lack_is r preimages (Exact b) OutputsExceed h = absurd h
lack_is r preimages (Exact b) MixedShells h = absurd h
lack_is r preimages (Exact b) SameOutpoint h = absurd h

fillable_is : (r : Rights) (preimages : List (List ℕ)) (slot : Slot) → IsFillable r preimages slot → lack_of r preimages slot ≡ None
fillable_is r preimages (Sig k) h = rw ((rights_are_tested r k.bytes).1 h) refl
fillable_is r preimages (Preimage x) h = rw h refl
fillable_is r preimages (Exact b) h = refl

lacks_first : (r : Rights) (preimages : List (List ℕ)) (slots : List Slot) (e : FillError) → LacksFirst r preimages slots e → first_lack r preimages slots ≡ Some e
lacks_first r preimages [] e h = absurd h
lacks_first r preimages (slot ∷ slots) e (inl h) = rw (lack_is r preimages slot e h) refl
lacks_first r preimages (slot ∷ slots) e (inr (h, later)) = rw (fillable_is r preimages slot h) (lacks_first r preimages slots e later)

all_fillable : (r : Rights) (preimages : List (List ℕ)) (slots : List Slot) → AreFillable r preimages slots → first_lack r preimages slots ≡ None
all_fillable r preimages [] h = refl
all_fillable r preimages (slot ∷ slots) h = rw (fillable_is r preimages slot h.0) (all_fillable r preimages slots h.1)

refused : (claims : List ClaimParts) (outputs : List Output) (r : Rights) (preimages : List (List ℕ)) (e : FillError) → IsFirstRefusal claims outputs r preimages e
    → (e ≡ NoMemory) ⊎ (fill_refusal claims outputs r preimages ≡ Some e)
unfolding fill_refusal
refused claims outputs r preimages NoMemory h = inl refl
refused claims outputs r preimages MixedShells h = inr (rw h refl)
refused claims outputs r preimages SameOutpoint h = inr (rw (h.0, h.1) refl)
refused claims outputs r preimages OutputsExceed h = inr (rw (h.0, h.1, h.2) refl)
refused claims outputs r preimages NoRight h = inr (rw (h.0.unmixed, h.0.apart, h.0.within) (lacks_first r preimages (all_slots claims) NoRight h.1))
refused claims outputs r preimages NoPreimage h = inr (rw (h.0.unmixed, h.0.apart, h.0.within) (lacks_first r preimages (all_slots claims) NoPreimage h.1))

filled : (claims : List ClaimParts) (outputs : List Output) (r : Rights) (preimages : List (List ℕ)) → ArePassed claims outputs → AreFillable r preimages (all_slots claims)
    → fill_refusal claims outputs r preimages ≡ None
unfolding fill_refusal
filled claims outputs r preimages passed h = rw (passed.unmixed, passed.apart, passed.within) (all_fillable r preimages (all_slots claims) h)

-- ---- the other way: nothing refuses the claims

slot_fillable : (r : Rights) (preimages : List (List ℕ)) (slot : Slot) → lack_of r preimages slot ≡ None → IsFillable r preimages slot
slot_fillable r preimages (Sig k) e = by (may_sign r k.bytes) refl e
  where
    by : (b : Bool) → may_sign r k.bytes ≡ b → (if b then None else Some NoRight) ≡ None → MaySign r k.bytes
    by true is e = (rights_are_tested r k.bytes).0 is
    by false is e = absurd (none-some NoRight (sym e))
slot_fillable r preimages (Preimage x) e = by (is_some (preimage_of preimages x)) refl e
  where
    by : (b : Bool) → is_some (preimage_of preimages x) ≡ b → (if b then None else Some NoPreimage) ≡ None → is_some (preimage_of preimages x) ≡ true
    by true is e = is
    by false is e = absurd (none-some NoPreimage (sym e))
slot_fillable r preimages (Exact b) e = tt

are_fillable : (r : Rights) (preimages : List (List ℕ)) (slots : List Slot) → first_lack r preimages slots ≡ None → AreFillable r preimages slots
are_fillable r preimages [] e = tt
are_fillable r preimages (slot ∷ slots) e = by (lack_of r preimages slot) refl e (are_fillable r preimages slots)
  where
    by : (o : Option FillError) → lack_of r preimages slot ≡ o → option_or o (first_lack r preimages slots) ≡ None → (first_lack r preimages slots ≡ None → AreFillable r preimages slots)
        → IsFillable r preimages slot × AreFillable r preimages slots
    by None is e others = (slot_fillable r preimages slot is, others e)
    by (Some x) is e others = absurd (none-some x (sym e))

only : (claims : List ClaimParts) (outputs : List Output) (r : Rights) (preimages : List (List ℕ)) → fill_refusal claims outputs r preimages ≡ None
    → ArePassed claims outputs × AreFillable r preimages (all_slots claims)
unfolding fill_refusal
only claims outputs r preimages e = by (are_mixed claims) (share_outpoint claims) (do_exceed claims outputs) refl refl refl e
  where
    by : (mixed shared over : Bool) → are_mixed claims ≡ mixed → share_outpoint claims ≡ shared → do_exceed claims outputs ≡ over
        → (if mixed then Some MixedShells else if shared then Some SameOutpoint else if over then Some OutputsExceed else first_lack r preimages (all_slots claims)) ≡ None
        → ArePassed claims outputs × AreFillable r preimages (all_slots claims)
    by true shared over a b c e = absurd (none-some MixedShells (sym e))
    by false true over a b c e = absurd (none-some SameOutpoint (sym e))
    by false false true a b c e = absurd (none-some OutputsExceed (sym e))
    by false false false a b c e = (record { unmixed = a; apart = b; within = c }, are_fillable r preimages (all_slots claims) e)

pub refusals_are_found : RefusalsAreFound
refusals_are_found = record { refused = refused; filled = filled; only = only }
