-- The penalty set of a revoked commitment, as a book tests it.
use Rattle.std.specs.Prelude.{◌≡◌, ℕ, ◌==◌, Bool, true, false, ◌&&◌, not, Ok, is_ok, All, List, Option, Some, slice_get}
use Rattle.std.specs.List.{AllByRecursion}
use Rattle.std.specs.Str.{bytes_eq}
use Rattle.std.specs.Option.{option_map_or}
use lib.Pointwise.{pointwise}
use Rattle.script.specs.Spelling.{spelling, IsOp}
use Rattle.tx.specs.Fields.{same_outpoint}
use Rattle.keys.specs.Derivation.{point_of}
use Rattle.terms.specs.declared.sides.Side.{Side}
use Rattle.terms.specs.declared.agreement.Terms.{Terms}
use Rattle.terms.specs.declared.views.View.{View}
use Rattle.terms.specs.Sides.{other}
use Rattle.paths.specs.Listing.{CheckedScript, listing}
use Rattle.claim.specs.declared.parts.Place.{Place}
use Rattle.claim.specs.Judgement.{judgement_of}
use Rattle.claim.specs.Claims.{ClaimParts, IsWhole}
use Rattle.commit.specs.Commitments.{Contents, commitment_of}
use Rattle.forms.specs.Fillings.{Filling, Signature, PreimageOf, Bytes}
use Rattle.penalty.specs.declared.states.RevokedState.{RevokedState}
use Rattle.penalty.specs.Claimable.{Claimable, claims_from, claimable_of}
use Rattle.penalty.specs.Sets.{claimed_by, AreClaimsOn}
use Rattle.penalty.specs.States.{HasParts}
use Rattle.penalty.specs.Paying.{CanPay}
use Rattle.filling.specs.Refusals.{is_fixed}
use Rattle.channel.specs.declared.commitments.CommitmentState.{CommitmentState}
use Rattle.channel.specs.States.{State}
use Rattle.claim.specs.Opcodes.{◌>>=◌}

-- the peer's commitment of a number, with the point of the secret by which it was revoked
abbrev pub revoked_contents : State → CommitmentState → List ℕ → Contents
revoked_contents s c secret =
    commitment_of s.held.terms c.view (other s.held.side) c.number (point_of secret)

-- what a revoked commitment lets its owner's peer claim
unfoldable pub claimable_in : Contents → List Claimable
claimable_in c = claims_from c 0 c.outputs

-- what the peer's commitment of a number lets this side claim, if it is revoked
abbrev pub claimable_at : State → ℕ → Option (List Claimable)
claimable_at s n = slice_get s.signed n >>= λ c. slice_get s.secrets n >>= λ secret.
    Some (claimable_in (revoked_contents s c secret))

-- ---- whether claims are on these outputs: one claim for each output, in order

abbrev pub same_place : Place → Place → Bool
same_place a b = same_outpoint a.outpoint b.outpoint && a.value == b.value
    && bytes_eq a.program b.program

abbrev pub same_filling : Filling → Filling → Bool
same_filling (Signature a) (Signature b) = bytes_eq a b
same_filling (PreimageOf a) (PreimageOf b) = bytes_eq a b
same_filling (Bytes a) (Bytes b) = bytes_eq a b
same_filling a b = false

-- lists of one length, whose elements match pairwise
abbrev pub all_match : {A B : Type 0} → (A → B → Bool) → List A → List B → Bool
all_match f xs ys = pointwise f xs ys

abbrev pub same_fillings : List Filling → List Filling → Bool
same_fillings xs ys = all_match same_filling xs ys

-- two claimable outputs are the same; scripts of equal bytes have equal paths
abbrev pub same_claimable : Claimable → Claimable → Bool
same_claimable a b = same_place a.place b.place
    && bytes_eq (spelling a.form.ops) (spelling b.form.ops) && a.path == b.path
    && same_fillings a.slots b.slots

-- a claim on the output, with an open shell, accepted on the output's form
abbrev pub is_claim_on : Claimable → ClaimParts → Bool
is_claim_on o c = same_claimable (claimed_by c) o
    && is_ok (judgement_of o.form c.index c.slots c.place c.shell) && not (is_fixed c.shell)

unfoldable pub are_claims_on : List Claimable → List ClaimParts → Bool
are_claims_on os claims = all_match is_claim_on os claims

-- whether the claims are the penalty set of the peer's commitment of this number
unfoldable pub is_penalty_set : State → ℕ → List ClaimParts → Bool
is_penalty_set s n claims = option_map_or (λ os. are_claims_on os claims) (claimable_at s n) false

-- ---- sets of penalties

-- what is true of each checked script: its paths are those of its opcodes
pub record IsChecked (c : CheckedScript) : Type 0 where
  pub each : All IsOp c.ops
  pub listed : listing c.ops ≡ Ok c.paths

-- claims pass the test exactly if they are the accepted claims, in order, on what the commitment lets be claimed. This is so for checked scripts, which are those of each commitment that can pay its
-- view, and those of each claim. A revoked state lets claim what its commitment does
pub record PenaltySetsAreExact : Type 0 where
  pub found : (c : Contents) (claims : List ClaimParts) → AreClaimsOn (claimable_in c) claims → are_claims_on (claimable_in c) claims ≡ true
  pub only :
      (c : Contents) (claims : List ClaimParts) → AllByRecursion (λ o. IsChecked o.form) (claimable_in c) → AllByRecursion (λ x. IsChecked x.ways) claims
      → are_claims_on (claimable_in c) claims ≡ true → AreClaimsOn (claimable_in c) claims
  pub forms :
      (terms : Terms) (view : View) (owner : Side) (number : ℕ) (point : List ℕ) → CanPay terms view
      → AllByRecursion (λ o. IsChecked o.form) (claimable_in (commitment_of terms view owner number point))
  pub exact :
      (terms : Terms) (view : View) (owner : Side) (number : ℕ) (point : List ℕ) (claims : List ClaimParts) → CanPay terms view → AllByRecursion IsWhole claims
      → are_claims_on (claimable_in (commitment_of terms view owner number point)) claims ≡ true → AreClaimsOn (claimable_in (commitment_of terms view owner number point)) claims
  pub same :
      (s : State) (c : CommitmentState) (secret : List ℕ) (state : RevokedState) → HasParts s.held.terms c.view (other s.held.side) c.number secret state
      → claimable_of state ≡ claimable_in (revoked_contents s c secret)
