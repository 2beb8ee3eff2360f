-- What a side can claim where a commitment of its peer closes the channel (BOLT 5, "Unilateral Close Handling: Remote Commitment Transaction" and "Revoked
-- Transaction Close Handling"), and how long nobody else can take it.
use Rattle.std.specs.Prelude.{ℕ, Bool, if◌then◌else◌, List, [], ◌++◌, Option, Some, None, option_map}
use Rattle.std.specs.Str.{bytes_eq}
use Rattle.std.specs.List.{cons_option, filter_map, list_any}
use Rattle.terms.specs.declared.htlcs.Htlc.{Htlc}
use Rattle.commit.specs.declared.fees.Direction.{Direction}
use Rattle.commit.specs.declared.fees.Direction.TheVariants as direction
use Rattle.commit.specs.declared.amounts.Amounts.{Amounts}
use Rattle.commit.specs.Fees.{satoshis_of}
use Rattle.trace.specs.declared.dumps.claims.Close.{Close}
use Rattle.trace.specs.declared.dumps.claims.Close.TheVariants.{Newest, Revoked}
use Rattle.trace.specs.declared.dumps.claims.OutputName.{OutputName}
use Rattle.trace.specs.declared.dumps.claims.OutputName.TheVariants.{ToLocal, ToRemote, Offered, Received}
use Rattle.trace.specs.declared.dumps.claims.Way.{Way}
use Rattle.trace.specs.declared.dumps.claims.Way.TheVariants.{Payment, Preimage, Timeout, Penalty}
use Rattle.trace.specs.declared.dumps.claims.Alone.{Alone}
use Rattle.trace.specs.declared.dumps.claims.Alone.TheVariants.{Always, Blocks, Until, NoPreimage}
use Rattle.trace.specs.declared.dumps.claims.Claimable.{Claimable}

abbrev pub claim : OutputName → Way → Alone → ℕ → Claimable
claim output way alone value = record { output = output; value = value; way = way; alone = alone }

-- the owner's balance is open to its peer once the commitment is revoked, and to the owner once the output is old enough
abbrev pub local_claim : Close → Option ℕ → Option Claimable
local_claim Newest value = None
local_claim (Revoked delay_blocks) value = option_map (claim ToLocal Penalty (Blocks delay_blocks)) value

-- the balance of the owner's peer is its own
abbrev pub remote_claim : Option ℕ → Option Claimable
remote_claim value = option_map (claim ToRemote Payment Always) value

abbrev pub is_among : List ℕ → List (List ℕ) → Bool
is_among hash hashes = list_any (λ h. bytes_eq h hash) hashes

-- an HTLC is claimed by the secret, else the owner's by its preimage, and one that was offered to the owner by its lock time
abbrev pub htlc_way : Close → List (List ℕ) → Direction → Htlc → Option Way
htlc_way (Revoked delay_blocks) hashes d h = Some Penalty
htlc_way Newest hashes direction.Offered h = if is_among h.hash hashes then Some Preimage else None
htlc_way Newest hashes direction.Received h = Some (Timeout h.expiry_height)

-- the owner takes its own HTLC once it expired, and one that was offered to it by the preimage
abbrev pub claim_in : Direction → Htlc → Way → Claimable
claim_in direction.Offered h way = claim (Received h.id) way (Until h.expiry_height) (satoshis_of h.amount_msat)
claim_in direction.Received h way = claim (Offered h.id) way NoPreimage (satoshis_of h.amount_msat)

abbrev pub htlc_claim : Close → List (List ℕ) → Direction → Htlc → Option Claimable
htlc_claim close hashes d h = option_map (claim_in d h) (htlc_way close hashes d h)

abbrev pub htlc_claims : Close → List (List ℕ) → Direction → List Htlc → List Claimable
htlc_claims close hashes d htlcs = filter_map (htlc_claim close hashes d) htlcs

abbrev pub balance_claims : Close → Amounts → List Claimable
balance_claims close a = cons_option (local_claim close a.to_local) [] ++ cons_option (remote_claim a.to_remote) []

-- what can be claimed of a commitment of these amounts, where preimages of these hashes are known
abbrev pub claims_of : Close → List (List ℕ) → Amounts → List Claimable
claims_of close hashes a = balance_claims close a ++ htlc_claims close hashes direction.Offered a.offered ++ htlc_claims close hashes direction.Received a.received
