-- The claims that a block makes due, by what is known of a channel.
use Rattle.std.specs.Prelude.{◌≡◌, ℕ, List, [], ◌++◌, map, Option, Some, None}
use Rattle.std.specs.List.{filter_map}
use Rattle.tx.specs.Fields.{Transaction}
use Rattle.claim.specs.declared.parts.Slot.{Slot}
use Rattle.claim.specs.declared.parts.Slot.TheVariants.{Preimage}
use Rattle.claim.specs.Claims.{ClaimParts}
use Rattle.resolve.specs.declared.known.Known.{Known}
use Rattle.resolve.specs.Preimages.{first_of}
use Rattle.watch.specs.Watching.{Seen, seen_after}
use Rattle.watch.specs.Sights.{IsSight}
use Rattle.side.specs.declared.due.DueClaim.{DueClaim}

-- ---- claims

-- the first known preimage of the hash that a slot asks for; other slots ask for none
abbrev pub wanted_by : List (List ℕ) → Slot → Option (List ℕ)
wanted_by preimages (Preimage hash) = first_of preimages hash
wanted_by preimages slot = None

-- claims on a channel's outputs, as due claims, each with the known preimages that its slots need
abbrev pub due_claims_of : ℕ → List (List ℕ) → List ClaimParts → List DueClaim
due_claims_of c preimages claims = map (λ x. record { channel = c; claim = x; preimages = filter_map (wanted_by preimages) x.slots }) claims

-- ---- one channel

-- what a block gives by what is known of a channel: what was seen of the
-- channel after it, the due claims, and the preimages that the block shows
pub record Finds (known : Known) (height : ℕ) (txs : List Transaction) (c : ℕ) (older newer : Seen) (jobs : List DueClaim) (shown : List (List ℕ)) : Type 0 where
  pub claims : List ClaimParts
  pub sight : IsSight older height txs known claims shown
  pub seen : newer ≡ seen_after older height txs known
  pub jobs_are : jobs ≡ due_claims_of c known.preimages claims

-- the same; nothing is found without an answer
abbrev pub FindsIf : Option Known → ℕ → List Transaction → ℕ → Seen → Seen → List DueClaim → List (List ℕ) → Type 0
FindsIf None height txs c older newer jobs shown = (newer ≡ older) × (jobs ≡ []) × (shown ≡ [])
FindsIf (Some known) height txs c older newer jobs shown = Finds known height txs c older newer jobs shown

-- what is found, behind what was found before
pub record FindsMore (k : Option Known) (height : ℕ) (txs : List Transaction) (c : ℕ) (older newer : Seen) (jobs more_jobs : List DueClaim) (shown more_shown : List (List ℕ)) : Type 0 where
  pub new_jobs : List DueClaim
  pub new_shown : List (List ℕ)
  pub finds : FindsIf k height txs c older newer new_jobs new_shown
  pub jobs_are : more_jobs ≡ jobs ++ new_jobs
  pub shown_are : more_shown ≡ shown ++ new_shown

-- ---- what is known

-- adds preimages to what is known
abbrev pub with_preimages : List (List ℕ) → Known → Known
with_preimages shown known = record known { preimages = known.preimages ++ shown }

abbrev pub taught : List (List ℕ) → Option Known → Option Known
taught shown None = None
taught shown (Some known) = Some (with_preimages shown known)
