-- From which block on one can take an output, and from which block on somebody else can (BIP 65, BIP 68; BOLT 3).
use Rattle.std.specs.Prelude.{ℕ, ◌+◌, max, if◌then◌else◌, ◌==◌, Option, Some, None}
use Rattle.anchor_forms.specs.declared.channel_types.ChannelType.{ChannelType}
use Rattle.commit.specs.declared.fees.Direction.{Direction}
use Rattle.commit.specs.declared.fees.Direction.TheVariants.{Offered, Received}
use Rattle.claim.specs.Claims.{ClaimParts, sequence_of, lock_time_of}
use Rattle.revoked.specs.Deadlines.{wait_of, owner_height}
use Rattle.revoked.specs.Parts.{RevokedParts}
use Rattle.revoked.specs.declared.outputs.RevokedOutput.{RevokedOutput}
use Rattle.revoked.specs.declared.outputs.RevokedOutput.TheVariants.{ToLocal, ToRemote, ToHtlc}
use Rattle.unilateral.specs.declared.closes.Whose.{Whose}
use Rattle.unilateral.specs.declared.closes.Whose.TheVariants.{Ours, Theirs}
use Rattle.unilateral.specs.declared.closes.Close.{Close}

-- a transaction with a lock time is in a block above it, and one without in any
abbrev pub height_above : ℕ → ℕ
height_above lock_time = if lock_time == 0 then 0 else lock_time + 1

-- the least height of a block that can have a transaction with a claim, where the block of a height has the output
abbrev pub from_height : ClaimParts → ℕ → ℕ
from_height c confirmed = max (confirmed + sequence_of c) (height_above (lock_time_of c))

-- the peer of a commitment's owner takes an offered HTLC with the preimage at any time, and a received one by its lock time
abbrev pub peers_htlc_height : Direction → ℕ → ℕ → ℕ
peers_htlc_height Offered least expiry_height = least
peers_htlc_height Received least expiry_height = max least (expiry_height + 1)

-- the least height of a block in which the peer of a commitment's owner can take an output of it. to_local is the owner's
abbrev pub peers_height : RevokedParts → RevokedOutput → ℕ → Option ℕ
peers_height r ToLocal confirmed = None
peers_height r ToRemote confirmed = Some confirmed
peers_height r (ToHtlc h) confirmed = Some (peers_htlc_height h.direction (confirmed + wait_of r.channel_type) h.expiry.height)

-- the least height of a block in which the other side can take an output
abbrev pub deadline_by : Whose → RevokedParts → RevokedOutput → ℕ → Option ℕ
deadline_by Ours r o confirmed = peers_height r o confirmed
deadline_by Theirs r o confirmed = owner_height r o confirmed

abbrev pub deadline_height : Close → RevokedOutput → ℕ → Option ℕ
deadline_height c o confirmed = deadline_by c.whose c.commitment o confirmed
