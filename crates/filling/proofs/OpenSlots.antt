-- The slots of open claims, before anybody signs.
use Rattle.std.proofs.Common.{◌≡◌, ◌<◌, ◌≤◌, ℕ, Bool, true, false, not, ◌||◌, List, [], ◌∷◌, length, map, ap, refl, arith, nat_le, eqb, le-leb}
use Rattle.std.specs.Prelude.{unwrap_or, is_some}
use Rattle.std.specs.List.{list_any, list_all}
use Rattle.std.specs.Str.{bytes_eq}
use Rattle.std.proofs.lemmas.Bool.{and_parts, and_from, eqb-true, false≢true}
use Rattle.sha2.specs.Sha256.{sha256}
use Rattle.claim.specs.declared.parts.Slot.{Slot}
use Rattle.claim.specs.declared.parts.Slot.TheVariants.{Sig, Preimage, Exact}
use Rattle.claim.specs.Claims.{ClaimParts, lock_time_of}
use Rattle.filling.specs.Filling.{open_transaction, preimage_of}
use Rattle.filling.specs.Refusals.{HasPreimage, HavePreimages, is_fixed, has_fixed, all_slots}
use Rattle.filling.specs.Standing.{CanSpend}
use Rattle.filling.specs.Spends.{blank_for, wants_preimage, lacks_preimage}
use Rattle.filling.proofs.Standing.{no-left, bare-of, unsigned-open}
use Rattle.filling.proofs.Fitted.{preimage-found, preimages-joined, slots-short}

not-false : (b : Bool) → not b ≡ false → b ≡ true
not-false true e = refl
not-false false e = absurd (cc)

has-one : (ps : List (List ℕ)) (slot : Slot) → wants_preimage ps slot ≡ false → HasPreimage ps slot
has-one ps (Sig k) e = tt
has-one ps (Preimage h) e = not-false (is_some (preimage_of ps h)) e
has-one ps (Exact b) e = tt

-- where no slot lacks a preimage, each has it
has-all : (ps : List (List ℕ)) (slots : List Slot) → list_any (wants_preimage ps) slots ≡ false → HavePreimages ps slots
has-all ps [] e = tt
has-all ps (slot ∷ slots) e =
    let w = no-left (wants_preimage ps slot) (list_any (wants_preimage ps) slots) e in (has-one ps slot w.0, has-all ps slots w.1)

pub have-all : (ps : List (List ℕ)) (claims : List ClaimParts) → list_any (lacks_preimage ps) claims ≡ false → HavePreimages ps (all_slots claims)
have-all ps [] e = tt
have-all ps (c ∷ claims) e =
    let w = no-left (lacks_preimage ps c) (list_any (lacks_preimage ps) claims) e in
    preimages-joined ps c.slots (all_slots claims) (has-all ps c.slots w.0) (have-all ps claims w.1)

-- an open claim has at most 1,000 slots
pub slots-few : (c : ClaimParts) (ps : List (List ℕ)) → CanSpend c → is_fixed c.shell ≡ false → lock_time_of c < 500000000 → lacks_preimage ps c ≡ false → length c.slots ≤ 1000
slots-few c ps o f l e =
    let t = open_transaction (c ∷ []) [] in
    let u = unsigned-open (c ∷ []) [] t (ap (λ b. b || false) f) refl (omega (arith, l)) in
    slots-short c ps t 0 o refl (bare-of (c ∷ []) t u.inputs) u.stands.0 (has-all ps c.slots e)

blank-short : (ps : List (List ℕ)) (slot : Slot) → wants_preimage ps slot ≡ false → length (blank_for ps slot) ≤ 10000
blank-short ps (Sig k) e = omega arith
blank-short ps (Preimage h) e =
    let x = unwrap_or (preimage_of ps h) [] in
    let n : length x ≡ 32 = eqb-true (length x) 32 (and_parts (eqb (length x) 32) (bytes_eq (sha256 x) h) (preimage-found ps h (not-false (is_some (preimage_of ps h)) e))).0 in
    omega (arith, n)
blank-short ps (Exact b) e = omega (arith, b.short)

pub blanks-short : (ps : List (List ℕ)) (slots : List Slot) → list_any (wants_preimage ps) slots ≡ false → list_all (λ item. nat_le (length item) 10000) (map (blank_for ps) slots) ≡ true
blanks-short ps [] e = refl
blanks-short ps (slot ∷ slots) e =
    let w = no-left (wants_preimage ps slot) (list_any (wants_preimage ps) slots) e in
    and_from _ _ (le-leb _ _ (blank-short ps slot w.0)) (blanks-short ps slots w.1)
