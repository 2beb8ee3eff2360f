-- Whoever releases what is due releases what is its own.
use Rattle.std.specs.Prelude.{◌≡◌, length}
use Rattle.claim.specs.Claims.{ClaimParts}
use Rattle.resolve.specs.declared.known.Known.{Known}
use Rattle.safety.specs.Holdings.{Holding, IsOnRecorded, KeepsRules}
use Rattle.due_laws.specs.Knowing.{IsKnownTo}
use Rattle.due_laws.specs.Filling.{IsDueBy}

-- a claim that is due by a verdict is on what a recorded commitment gives the node, where the peer told a secret for each commitment that it revoked, and for no other
abbrev pub DuesAreRecorded : Type 0
DuesAreRecorded = (h : Holding) → KeepsRules h → length h.state.secrets ≡ h.state.peer_number → (known : Known) → IsKnownTo h known → (x : ClaimParts) → IsDueBy known x → IsOnRecorded h x
