-- The openings and batches that plain forms stand for. A side's own base keys derive from its seed.
use Rattle.std.specs.Prelude.{◌≡◌, ℕ, ◌&&◌, nat_le, nat_lt, Bool, true, false, refl, List, length, Option, Some, None}
use Rattle.std.proofs.lemmas.Bool.{and_parts, leb-true, ltb-true}
use Rattle.tx.specs.declared.limits.TheConstants.{MAX_INPUTS, MAX_OUTPUTS}
use Rattle.tx.specs.Parts.{Output}
use Rattle.terms.specs.declared.sides.Side.{Side}
use Rattle.terms.specs.declared.sides.Side.TheVariants.{A, B}
use Rattle.terms.specs.declared.agreement.BaseKeys.{BaseKeys}
use Rattle.terms.specs.declared.agreement.Terms.{Terms}
use Rattle.terms.specs.Agreement.{party}
use Rattle.claim.specs.Claims.{ClaimParts}
use Rattle.texts.specs.declared.calls.PlainOpening.{PlainOpening}
use Rattle.terms.specs.Proposals.{can_agree, terms_with as proposed_with, agreed_terms}
use Rattle.texts.specs.Calls.{are_within}
use Rattle.terms.specs.Bases.{IsSeedOf}
use Rattle.book.specs.declared.calls.Opening.{Opening}
use Rattle.book.specs.declared.calls.Batch.{Batch}
use Rattle.book.specs.Seeds.{bases_of, are_seeds}

-- own where the side is the one whose opening it is, else others
abbrev pub own_or_others : {X : Type 0} → Side → Side → X → X → X
own_or_others A A own others = own
own_or_others A B own others = others
own_or_others B A own others = others
own_or_others B B own others = own

-- the base keys of a side in this opening
abbrev pub bases_at : Side → Side → PlainOpening → BaseKeys
bases_at whose side o = own_or_others whose side (bases_of o.seed) o.bases

-- the terms with both sides' base keys, if the sides can agree on them
abbrev pub terms_with : Side → (o : PlainOpening) → can_agree o.terms ≡ true → Terms
terms_with whose o h = proposed_with o.funding (bases_at whose A o) (bases_at whose B o) o.terms h

abbrev pub terms_of : PlainOpening → Option Terms
terms_of o = agreed_terms o.funding (bases_at o.side A o) (bases_at o.side B o) o.terms

pub owns : (side : Side) (o : PlainOpening) (h : can_agree o.terms ≡ true) → IsSeedOf o.seed (party side (terms_with side o h)).bases
owns A o h = are_seeds o.seed
owns B o h = are_seeds o.seed

abbrev pub opening_if : (o : PlainOpening) (agreed : Bool) → can_agree o.terms ≡ agreed → Option Opening
opening_if o true h =
    Some (record { terms = terms_with o.side o h; side = o.side; seed = o.seed; first_point = o.first_point; next_point = o.next_point; token = o.token; own = owns o.side o h })
opening_if o false h = None

-- the opening, if the sides can agree on its terms
unfoldable pub opening_of : PlainOpening → Option Opening
opening_of o = opening_if o (can_agree o.terms) refl

-- ---- batches

abbrev pub batch_if : (claims : List ClaimParts) (outputs : List Output) (preimages : List (List ℕ)) (within : Bool) → are_within (length claims) (length outputs) ≡ within → Option Batch
batch_if claims outputs preimages true h =
    let all = and_parts (nat_lt 0 (length claims) && nat_le (length claims) MAX_INPUTS) (nat_le (length outputs) MAX_OUTPUTS) h in
    let ends = and_parts (nat_lt 0 (length claims)) (nat_le (length claims) MAX_INPUTS) all.0 in
    Some (record {
      claims = claims;
      outputs = outputs;
      preimages = preimages;
      some = ltb-true 0 (length claims) ends.0;
      inputs = leb-true (length claims) MAX_INPUTS ends.1;
      given = leb-true (length outputs) MAX_OUTPUTS all.1;
    })
batch_if claims outputs preimages false h = None

-- the batch, if one transaction can take this number of claims and outputs
unfoldable pub batch_of : List ClaimParts → List Output → List (List ℕ) → Option Batch
batch_of claims outputs preimages = batch_if claims outputs preimages (are_within (length claims) (length outputs)) refl
