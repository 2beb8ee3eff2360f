-- The penalty is accepted on each form whose first path is that of the revocation key.
use Rattle.std.proofs.Common.{◌≡◌, ℕ, true, List, [], ◌∷◌, map, Result, Ok, Err, refl, ap, subst, ◌∙◌}
use Rattle.std.specs.Str.{bytes_eq}
use Rattle.std.proofs.lemmas.Slice.Eq.{bytes_eq-Decides}
use Rattle.digest.specs.Hash.{hash160}
use Rattle.script.specs.Spelling.{spelling}
use Rattle.script.specs.Token.{is_key}
use Rattle.keys.specs.declared.compressed.Key.{Key}
use Rattle.paths.specs.declared.state.Path.{Path}
use Rattle.paths.specs.Listing.{CheckedScript}
use Rattle.claim.specs.declared.parts.Slot.{Slot}
use Rattle.claim.specs.declared.parts.Slot.TheVariants.{Sig, Preimage, Exact}
use Rattle.claim.specs.declared.parts.Place.{Place}
use Rattle.claim.specs.declared.parts.Shell.TheVariants.{Open}
use Rattle.claim.specs.declared.errors.AcceptError.{AcceptError}
use Rattle.claim.specs.declared.errors.AcceptError.TheVariants.{NoMemory, NoSuchPath, WrongArity, Unmet, Contradiction, WrongProgram, WrongShell}
use Rattle.claim.specs.Judgement.{is_program, judgement_of}
use Rattle.claim.specs.Fitting.{IsRefusal}
use Rattle.claim.specs.Claims.{ClaimParts, IsAcceptedOf}
use Rattle.forms.specs.Fillings.{Signature, Bytes, filling_of}
use Rattle.forms.specs.Ways.{key_way}
use Rattle.anchor_forms.specs.Penalties.{IsPenaltyForm, IsPenaltyOn}

same_bytes : (x : List ℕ) → bytes_eq x x ≡ true
same_bytes x = (bytes_eq-Decides x x).1 refl

-- the key and its signature meet the path
accepted : (revocation : Key) (form : CheckedScript) (place : Place) (slots : List Slot) (f : IsPenaltyForm revocation.bytes form) → is_program (spelling form.ops) place.program ≡ true
    → map filling_of slots ≡ Bytes revocation.bytes ∷ Signature revocation.bytes ∷ [] → judgement_of form 0 slots place Open ≡ Ok (key_way (hash160 revocation.bytes) f.counted)
unfolding judgement_of
accepted revocation form place (Exact w ∷ Sig k ∷ []) f prog e =
    let first = f.first in
    let item : w.item ≡ revocation.bytes = cc in
    let signs : k.bytes ≡ revocation.bytes = cc in
    let hashed = same_bytes (hash160 revocation.bytes) in
    let same = same_bytes revocation.bytes in
    let is : is_key revocation.bytes ≡ true = revocation.form in
    rw (first, prog, item, hashed, is, signs, same) refl
accepted revocation form place [] f prog e = absurd (cc)
accepted revocation form place (x ∷ []) f prog e = absurd (cc)
accepted revocation form place (Sig k ∷ y ∷ []) f prog e = absurd (cc)
accepted revocation form place (Preimage h ∷ y ∷ []) f prog e = absurd (cc)
accepted revocation form place (Exact w ∷ Exact v ∷ []) f prog e = absurd (cc)
accepted revocation form place (Exact w ∷ Preimage h ∷ []) f prog e = absurd (cc)
accepted revocation form place (x ∷ y ∷ z ∷ xs) f prog e = absurd (cc)

-- what is accepted is not refused
no_refusal : (p : Path) (r : Result Path AcceptError) (e : AcceptError) → r ≡ Ok p → IsRefusal r e → ⊥
no_refusal p r NoMemory e h = let g : IsRefusal (Ok p) NoMemory = subst (λ x. IsRefusal x NoMemory) e h in g
no_refusal p r NoSuchPath e h = let g : r ≡ Err NoSuchPath = h in cc
no_refusal p r WrongArity e h = let g : r ≡ Err WrongArity = h in cc
no_refusal p r (Unmet s) e h = let g : r ≡ Err (Unmet s) = h in cc
no_refusal p r Contradiction e h = let g : r ≡ Err Contradiction = h in cc
no_refusal p r WrongProgram e h = let g : r ≡ Err WrongProgram = h in cc
no_refusal p r WrongShell e h = let g : r ≡ Err WrongShell = h in cc

pub never_refused : (revocation : Key) (form : CheckedScript) (place : Place) (slots : List Slot) (refusal : AcceptError) → IsPenaltyForm revocation.bytes form → is_program (spelling form.ops) place.program ≡ true
    → map filling_of slots ≡ Bytes revocation.bytes ∷ Signature revocation.bytes ∷ [] → IsRefusal (judgement_of form 0 slots place Open) refusal → ⊥
never_refused revocation form place slots refusal f prog e r =
    no_refusal (key_way (hash160 revocation.bytes) f.counted) (judgement_of form 0 slots place Open) refusal (accepted revocation form place slots f prog e) r

pub penalty_on : (revocation : Key) (form : CheckedScript) (place : Place) (slots : List Slot) (c : ClaimParts) → map filling_of slots ≡ Bytes revocation.bytes ∷ Signature revocation.bytes ∷ []
    → IsAcceptedOf form 0 slots place Open c → IsPenaltyOn revocation.bytes form place c
penalty_on revocation form place slots c e a = record {
  ways = ap (λ (x : ClaimParts). x.ways) a.same;
  index = ap (λ (x : ClaimParts). x.index) a.same;
  slots = ap (λ (x : ClaimParts). map filling_of x.slots) a.same ∙ e;
  place_is = ap (λ (x : ClaimParts). x.place) a.same;
  shell = ap (λ (x : ClaimParts). x.shell) a.same;
  accepted = a.accepted;
}
