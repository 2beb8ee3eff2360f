-- From which block on the owner of a revoked commitment can take its outputs (BOLT 3, "Commitment Transaction Outputs" and "HTLC-Timeout and HTLC-Success Transactions").
use Rattle.std.specs.Prelude.{ℕ, ◌+◌, min, max, Bool, false, if◌then◌else◌, List, [], ◌∷◌, Option, Some, None}
use Rattle.std.specs.Str.{bytes_eq}
use Rattle.anchor_forms.specs.declared.channel_types.ChannelType.{ChannelType}
use Rattle.anchor_forms.specs.declared.channel_types.ChannelType.TheVariants.{StaticRemoteKey, Anchors}
use Rattle.commit.specs.declared.fees.Direction.{Direction}
use Rattle.commit.specs.declared.fees.Direction.TheVariants.{Offered, Received}
use Rattle.revoked.specs.Parts.{RevokedParts}
use Rattle.revoked.specs.declared.outputs.RevokedHtlc.{RevokedHtlc}
use Rattle.revoked.specs.declared.outputs.RevokedOutput.{RevokedOutput}
use Rattle.revoked.specs.declared.outputs.RevokedOutput.TheVariants.{ToLocal, ToRemote, ToHtlc}

-- with anchors an HTLC transaction waits for one block
abbrev pub wait_of : ChannelType → ℕ
wait_of StaticRemoteKey = 0
wait_of Anchors = 1

-- HTLC-timeout has the expiry as its lock time, so it is in a block above it (BIP 65); HTLC-success has none
abbrev pub htlc_height : Direction → ℕ → ℕ → ℕ
htlc_height Offered least expiry_height = max least (expiry_height + 1)
htlc_height Received least expiry_height = least

abbrev pub if_offered : Direction → Bool → Bool
if_offered Offered same = same
if_offered Received same = false

-- an HTLC that is offered, and has a hash
abbrev pub is_offered_with : List ℕ → RevokedHtlc → Bool
is_offered_with hash h = if_offered h.direction (bytes_eq h.hash hash)

-- the least expiry of an HTLC and of the offered ones with its hash: their scripts are one, since they do not have the expiry, so nothing tells which output is whose
abbrev pub least_expiry_height : RevokedHtlc → List RevokedHtlc → ℕ
least_expiry_height h [] = h.expiry.height
least_expiry_height h (o ∷ htlcs) = if is_offered_with h.hash o then min o.expiry.height (least_expiry_height h htlcs) else least_expiry_height h htlcs

-- the least height of a block in which the owner can take an output of a transaction that the block of a height has. to_local's form asks for the delay (BIP 68), which the output of an HTLC transaction has too;
-- to_remote is the peer's
abbrev pub owner_height : RevokedParts → RevokedOutput → ℕ → Option ℕ
owner_height r ToLocal confirmed = Some (confirmed + r.delay_blocks)
owner_height r ToRemote confirmed = None
owner_height r (ToHtlc h) confirmed = Some (htlc_height h.direction (confirmed + wait_of r.channel_type) (least_expiry_height h r.htlcs))
