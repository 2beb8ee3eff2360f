-- The rows that refusals of spends are about.
use Rattle.std.specs.Prelude.{ℕ}
use Rattle.enforce_c.specs.declared.statuses.Refusal.{Refusal}
use Rattle.enforce_c.specs.declared.statuses.Refusal.TheVariants.{NoSignature, SignatureOutOfRange, NotDer, NotSighashAll, NotAsked}
use Rattle.enforce_c.specs.declared.about.About.{About}
use Rattle.enforce_c.specs.declared.about.About.TheVariants.{Whole, OfOutput, OfClaim, OfSignature}
use Rattle.enforce_c.specs.declared.about.Refused.{Refused}

-- the kinds, as the header numbers them
abbrev pub kind_of : About → ℕ
kind_of Whole = 0
kind_of (OfOutput index) = 1
kind_of (OfClaim index) = 2
kind_of (OfSignature index) = 3

-- the index of the row, or of the input of a signature
abbrev pub row_of : About → ℕ
row_of Whole = 0
row_of (OfOutput index) = index
row_of (OfClaim index) = index
row_of (OfSignature index) = index

-- what a refusal by itself is about: its signature, or the call as a whole
abbrev pub about_of : Refusal → About
about_of (NoSignature place) = OfSignature place.input
about_of (SignatureOutOfRange place) = OfSignature place.input
about_of (NotDer place) = OfSignature place.input
about_of (NotSighashAll place) = OfSignature place.input
about_of (NotAsked place) = OfSignature place.input
about_of e = Whole

abbrev pub refused_whole : Refusal → Refused
refused_whole e = record { why = e; about = about_of e }
