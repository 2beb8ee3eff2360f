-- The filling of claims, and why it is refused.
use Rattle.std.proofs.Common.{◌≡◌, inl, inr, ℕ, List, [], ◌∷◌, map, sym, ap, subst, ◌∙◌}
use Rattle.tx.specs.declared.input.TxIn.{TxIn}
use Rattle.tx.specs.Parts.{Output}
use Rattle.tx.specs.Fields.{Transaction}
use Rattle.keys.specs.Rights.{Rights}
use Rattle.claim.specs.declared.parts.Slot.{Slot}
use Rattle.claim.specs.declared.parts.Slot.TheVariants.{Sig, Preimage, Exact}
use Rattle.claim.specs.declared.parts.Place.{Place}
use Rattle.claim.specs.Claims.{ClaimParts}
use Rattle.filling.specs.declared.errors.FillError.{FillError}
use Rattle.filling.specs.declared.errors.FillError.TheVariants.{NoMemory, NoRight, NoPreimage, OutputsExceed, MixedShells, SameOutpoint}
use Rattle.filling.specs.Filling.{filled_input, transaction_for, signed_transaction}
use Rattle.filling.specs.Filled.{Filling, AllRunClean, AllFit, IsFillingOf}
use Rattle.filling.specs.Refusals.{AreFillable, Lacks, LacksFirst, UnlessMemory, all_slots, ArePassed, IsFirstRefusal}
use Rattle.filling.specs.Standing.{IsUnsigned, AllCanSpend}
use Rattle.filling.proofs.Fitted.{all-fit, all-clean, have-preimages}

none_lacks : (r : Rights) (ps : List (List ℕ)) (e : FillError) → ((slot : Slot) → Lacks r ps slot e → ⊥) → (slots : List Slot) → LacksFirst r ps slots e → ⊥
none_lacks r ps e n [] l = l
none_lacks r ps e n (slot ∷ slots) (inl l) = n slot l
none_lacks r ps e n (slot ∷ slots) (inr l) = none_lacks r ps e n slots l.1

no_outputs : (r : Rights) (ps : List (List ℕ)) (slot : Slot) → Lacks r ps slot OutputsExceed → ⊥
no_outputs r ps (Sig k) l = l
no_outputs r ps (Preimage h) l = l
no_outputs r ps (Exact b) l = l

no_shells : (r : Rights) (ps : List (List ℕ)) (slot : Slot) → Lacks r ps slot MixedShells → ⊥
no_shells r ps (Sig k) l = l
no_shells r ps (Preimage h) l = l
no_shells r ps (Exact b) l = l

no_outpoint : (r : Rights) (ps : List (List ℕ)) (slot : Slot) → Lacks r ps slot SameOutpoint → ⊥
no_outpoint r ps (Sig k) l = l
no_outpoint r ps (Preimage h) l = l
no_outpoint r ps (Exact b) l = l

pub refused : (claims : List ClaimParts) (outputs : List Output) (r : Rights) (ps : List (List ℕ)) (e : FillError) → ArePassed claims outputs → UnlessMemory e (LacksFirst r ps (all_slots claims) e) → IsFirstRefusal claims outputs r ps e
refused claims outputs r ps NoMemory p l = tt
refused claims outputs r ps NoRight p l = (p, l)
refused claims outputs r ps NoPreimage p l = (p, l)
refused claims outputs r ps OutputsExceed p l = absurd (none_lacks r ps OutputsExceed (no_outputs r ps) (all_slots claims) l)
refused claims outputs r ps MixedShells p l = absurd (none_lacks r ps MixedShells (no_shells r ps) (all_slots claims) l)
refused claims outputs r ps SameOutpoint p l = absurd (none_lacks r ps SameOutpoint (no_outpoint r ps) (all_slots claims) l)

abbrev pub with_inputs : Transaction → List TxIn → Transaction
with_inputs t inputs = record { version = t.version; inputs = inputs; outputs = t.outputs; lock_time = t.lock_time }

fit : (claims : List ClaimParts) (r : Rights) (ps : List (List ℕ)) (t : Transaction) (inputs : List TxIn) → IsUnsigned claims t → AllCanSpend claims → inputs ≡ map (filled_input t ps) claims → AreFillable r ps (all_slots claims) → AllFit (with_inputs t inputs) claims inputs
fit claims r ps t inputs u o e f = subst (λ xs. AllFit (with_inputs t xs) claims xs) (sym e) (all-fit t ps claims u o (have-preimages r ps (all_slots claims) f))

pub clean : (claims : List ClaimParts) (r : Rights) (ps : List (List ℕ)) (t : Transaction) (inputs : List TxIn) (places : List Place) → IsUnsigned claims t → AllCanSpend claims → inputs ≡ map (filled_input t ps) claims → AreFillable r ps (all_slots claims) → places ≡ map (λ c. c.place) claims → AllRunClean (with_inputs t inputs) inputs places
clean claims r ps t inputs places u o e f p = subst (AllRunClean (with_inputs t inputs) inputs) (sym p) (all-clean (with_inputs t inputs) claims inputs o (fit claims r ps t inputs u o e f))

pub filling : (claims : List ClaimParts) (outputs : List Output) (r : Rights) (ps : List (List ℕ)) (t : Transaction) (inputs : List TxIn) (places : List Place) (f : Filling) → ArePassed claims outputs → t ≡ transaction_for claims outputs → IsUnsigned claims t → AllCanSpend claims → inputs ≡ map (filled_input t ps) claims → AreFillable r ps (all_slots claims) → places ≡ map (λ c. c.place) claims → f ≡ record { tx = with_inputs t inputs; places = places } → IsFillingOf claims outputs r ps f
filling claims outputs r ps t inputs places f a g u o e k p w =
    subst (IsFillingOf claims outputs r ps) (sym w)
    (record {
      passed = a;
      fillable = k;
      tx = ap (with_inputs t) e ∙ ap (λ x. signed_transaction x ps claims) g;
      places = p;
      fits = fit claims r ps t inputs u o e k;
    })
