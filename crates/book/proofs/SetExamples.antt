-- Which claims are on which outputs, and how many claims a batch may have.
use Rattle.std.proofs.Common.{◌≡◌, ℕ, true, false, List, [], ◌∷◌, length, replicate, None, refl, arith}
use Rattle.std.proofs.lemmas.Bool.{and_right}
use Rattle.tx.specs.Parts.{Output}
use Rattle.tx.specs.Fields.{Transaction, same_outpoint}
use Rattle.paths.specs.declared.state.Path.{Path}
use Rattle.sighash.specs.Programs.{script_hash_program}
use Rattle.claim.specs.declared.parts.Place.{Place}
use Rattle.claim.specs.declared.parts.Shell.{Shell}
use Rattle.claim.specs.declared.parts.Shell.TheVariants.{Open, Fixed}
use Rattle.claim.specs.Judgement.{judgement_of}
use Rattle.claim.specs.Claims.{ClaimParts}
use Rattle.terms.specs.Scripts.{key_hash}
use Rattle.forms.specs.Fillings.{Signature, PreimageOf, Bytes}
use Rattle.penalty.specs.Claimable.{Claimable}
use Rattle.book.specs.Bounds.{CanRelease}
use Rattle.book.specs.Penalties.{same_place, same_filling, same_fillings, is_claim_on, are_claims_on}

abbrev hash : List ℕ
hash = replicate 20 9

abbrev place : ℕ → ℕ → List ℕ → Place
place index value hash = record { outpoint = record { txid = replicate 32 7; index = index }; value = value; program = 0 ∷ 20 ∷ hash }

-- a path of `arity` slots without facts
abbrev path : ℕ → Path
path arity = record { arity = arity; facts = []; ops = 3; height = 2; lock = None; age = None }

-- a key hash output with these paths, of which the first is taken; and a claim on it that lists other paths for its script
abbrev output : List Path → Claimable
output paths = record { place = place 1 1000 hash; form = record { ops = key_hash hash; paths = paths }; path = 0; slots = []; shell = Open }

abbrev claim : List Path → Place → ℕ → Shell → ClaimParts
claim paths place index shell = record { ways = record { ops = key_hash hash; paths = paths }; index = index; slots = []; place = place; shell = shell }

places : (same_place (place 1 1000 hash) (place 1 1000 hash) ≡ true)
    × (same_place (place 1 1000 hash) (place 2 1000 hash) ≡ false)
    × (same_place (place 1 1000 hash) (place 1 1001 hash) ≡ false)
    × (same_place (place 1 1000 hash) (place 1 1000 (8 ∷ replicate 19 9)) ≡ false)
    × (same_outpoint (record { txid = replicate 32 7; index = 1 }) (record { txid = replicate 32 6; index = 1 }) ≡ false)
places = (refl, refl, refl, refl, refl)

fillings : (same_filling (Signature hash) (Signature hash) ≡ true)
    × (same_filling (PreimageOf hash) (PreimageOf hash) ≡ true)
    × (same_filling (Bytes hash) (Bytes hash) ≡ true)
    × (same_filling (Signature hash) (Signature (8 ∷ [])) ≡ false)
    × (same_filling (PreimageOf hash) (PreimageOf (8 ∷ [])) ≡ false)
    × (same_filling (Bytes hash) (Bytes (8 ∷ [])) ≡ false)
    × (same_filling (Signature hash) (PreimageOf hash) ≡ false)
    × (same_filling (PreimageOf hash) (Bytes hash) ≡ false)
    × (same_filling (Bytes hash) (Signature hash) ≡ false)
    × (same_fillings (Bytes hash ∷ Bytes [] ∷ []) (Bytes hash ∷ Bytes [] ∷ []) ≡ true)
    × (same_fillings (Bytes hash ∷ Bytes [] ∷ []) (Bytes [] ∷ Bytes hash ∷ []) ≡ false)
    × (same_fillings (Bytes hash ∷ []) (Bytes hash ∷ Bytes hash ∷ []) ≡ false)
    × (same_fillings (Bytes hash ∷ Bytes hash ∷ []) (Bytes hash ∷ []) ≡ false)
fillings = (refl, refl, refl, refl, refl, refl, refl, refl, refl, refl, refl, refl, refl)

-- a claim is judged by the paths of the output's form, not by those that it has itself
judgements : (is_claim_on (output (path 0 ∷ [])) (claim (path 0 ∷ []) (place 1 1000 hash) 0 Open) ≡ true)
    × (is_claim_on (output (path 0 ∷ [])) (claim [] (place 1 1000 hash) 0 Open) ≡ true)
    × (is_claim_on (output []) (claim (path 0 ∷ []) (place 1 1000 hash) 0 Open) ≡ false)
    × (is_claim_on (output (path 1 ∷ [])) (claim (path 0 ∷ []) (place 1 1000 hash) 0 Open) ≡ false)
    × (is_claim_on (output (path 0 ∷ [])) (claim (path 0 ∷ []) (place 2 1000 hash) 0 Open) ≡ false)
    × (is_claim_on (output (path 0 ∷ path 0 ∷ [])) (claim [] (place 1 1000 hash) 1 Open) ≡ false)
unfolding judgement_of script_hash_program
judgements = (refl, refl, refl, refl, refl, refl)

-- and its shell may not be fixed
fixed : (t : Transaction) → is_claim_on (output (path 0 ∷ [])) (claim (path 0 ∷ []) (place 1 1000 hash) 0 (Fixed t)) ≡ false
fixed t = and_right _ false refl

-- one claim for each output, in order
counts : (are_claims_on [] [] ≡ true)
    × (are_claims_on [] (claim [] (place 1 1000 hash) 0 Open ∷ []) ≡ false)
    × (are_claims_on (output (path 0 ∷ []) ∷ []) [] ≡ false)
    × (are_claims_on (output (path 0 ∷ []) ∷ []) (claim [] (place 1 1000 hash) 0 Open ∷ []) ≡ true)
    × (are_claims_on (output (path 0 ∷ []) ∷ output (path 1 ∷ []) ∷ []) (claim [] (place 1 1000 hash) 0 Open ∷ claim [] (place 1 1000 hash) 0 Open ∷ []) ≡ false)
unfolding are_claims_on judgement_of script_hash_program
counts = (refl, refl, refl, refl, refl)

-- a batch has 1 to 4,000 claims, and at most 4,000 outputs
no_claims : (outputs : List Output) → CanRelease [] outputs → ⊥
no_claims outputs c = omega (arith, c.some)

most : (claims : List ClaimParts) (outputs : List Output) → length claims ≡ 4000 → length outputs ≡ 4000 → CanRelease claims outputs
most claims outputs n m = record { some = omega (arith, n); inputs = omega (arith, n); given = omega (arith, m) }

one_claim_more : (claims : List ClaimParts) (outputs : List Output) → length claims ≡ 4001 → CanRelease claims outputs → ⊥
one_claim_more claims outputs n c = omega (arith, n, c.inputs)

one_output_more : (claims : List ClaimParts) (outputs : List Output) → length outputs ≡ 4001 → CanRelease claims outputs → ⊥
one_output_more claims outputs n c = omega (arith, n, c.given)
