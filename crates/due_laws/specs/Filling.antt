-- The channel's signer can fill each claim that is due, with the preimages that are known.
use Rattle.std.specs.Prelude.{List}
use Rattle.std.specs.List.{AllByRecursion, Contains}
use Rattle.terms.specs.Agreement.{party}
use Rattle.terms.specs.Bases.{IsSeedOf}
use Rattle.claim.specs.Claims.{ClaimParts}
use Rattle.filling.specs.Refusals.{AreFillable, all_slots}
use Rattle.penalty.specs.Sets.{claimed_by}
use Rattle.resolve.specs.declared.verdicts.Verdict.{Verdict}
use Rattle.resolve.specs.declared.known.Known.{Known}
use Rattle.resolve.specs.Due.{due_of}
use Rattle.channel.specs.Rights.{rights_of}
use Rattle.safety.specs.Holdings.{Holding, terms_in, KeepsRules}
use Rattle.due_laws.specs.Knowing.{IsKnownTo}

-- the base keys of the side are those of its seed, as `Opening::new` asks
abbrev pub OwnsBases : Holding → Type 0
OwnsBases h = IsSeedOf h.state.seed (party h.state.held.side (terms_in h)).bases

-- a claim is on what is due by a verdict
pub record IsDueBy (known : Known) (x : ClaimParts) : Type 0 where
  pub verdict : Verdict
  pub due : Contains (due_of known verdict) (claimed_by x)

-- of such claims, all slots can be filled: by the channel's signer, and by the one that is known
pub record CanFillAllSlots (h : Holding) (known : Known) (claims : List ClaimParts) : Type 0 where
  pub channels : AreFillable (rights_of h.state) known.preimages (all_slots claims)
  pub knowns : AreFillable known.signer known.preimages (all_slots claims)

abbrev pub DuesAreFillable : Type 0
DuesAreFillable =
    (h : Holding) → KeepsRules h → OwnsBases h → (known : Known) → IsKnownTo h known → (claims : List ClaimParts) → AllByRecursion (IsDueBy known) claims → CanFillAllSlots h known claims
