-- The claim that a refusal of a spend is about.
use Rattle.std.specs.Prelude.{ℕ, ◌+◌, Bool, false, not, if◌then◌else◌, List, [], ◌∷◌, ◌++◌, length, map}
use Rattle.std.specs.List.{list_any}
use Rattle.std.specs.Str.{bytes_eq}
use Rattle.sha2.specs.Sha256.{sha256}
use Rattle.tx.specs.Fields.{same_outpoint}
use Rattle.claim.specs.declared.parts.Slot.{Slot}
use Rattle.claim.specs.declared.parts.Slot.TheVariants.{Sig, Preimage, Exact}
use Rattle.claim.specs.Claims.{ClaimParts}
use Rattle.filling.specs.declared.errors.SpendError.TheVariants.{SameOutpoint, MeasuredSignature, NoPreimage}
use Rattle.filling.specs.Spends.{is_measured}
use Rattle.enforce_c.specs.declared.about.About.{About}
use Rattle.enforce_c.specs.declared.about.About.TheVariants.{Whole, OfClaim}
use Rattle.enforce_c.specs.declared.about.Refused.{Refused}
use Rattle.enforce_c.specs.declared.statuses.Refusal.{Refusal}
use Rattle.enforce_c.specs.declared.statuses.Refusal.TheVariants.{Spend}
use Rattle.enforce_c.specs.About.{about_of}

-- the claim is on the output of one of those before it
abbrev pub is_again : List ClaimParts → ClaimParts → Bool
is_again before c = list_any (λ b. same_outpoint b.place.outpoint c.place.outpoint) before

-- the first that is, where these stand before
abbrev pub first_again : List ClaimParts → List ClaimParts → About
first_again before [] = Whole
first_again before (c ∷ claims) = if is_again before c then OfClaim (length before) else first_again (before ++ c ∷ []) claims

-- the first claim at which something holds, where the first has this index
abbrev pub first_at : (ClaimParts → Bool) → ℕ → List ClaimParts → About
first_at holds index [] = Whole
first_at holds index (c ∷ claims) = if holds c then OfClaim index else first_at holds (index + 1) claims

abbrev pub is_among : List (List ℕ) → List ℕ → Bool
is_among hashes h = list_any (λ hash. bytes_eq hash h) hashes

-- a slot wants a preimage of another hash than these
abbrev pub wants : List (List ℕ) → Slot → Bool
wants hashes (Sig k) = false
wants hashes (Preimage h) = not (is_among hashes h)
wants hashes (Exact b) = false

-- a slot of the claim does
abbrev pub lacks : List (List ℕ) → ClaimParts → Bool
lacks hashes c = list_any (wants hashes) c.slots

-- what a refusal of the spend is about: of two claims on one output the later one, else the first claim that is refused so
abbrev pub spend_about : List ClaimParts → List (List ℕ) → Refusal → About
spend_about claims preimages (Spend SameOutpoint) = first_again [] claims
spend_about claims preimages (Spend MeasuredSignature) = first_at is_measured 0 claims
spend_about claims preimages (Spend NoPreimage) = first_at (lacks (map sha256 preimages)) 0 claims
spend_about claims preimages e = about_of e

abbrev pub refused_at : List ClaimParts → List (List ℕ) → Refusal → Refused
refused_at claims preimages e = record { why = e; about = spend_about claims preimages e }
