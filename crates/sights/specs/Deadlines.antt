-- From which block on somebody else can take an output of a commitment that closed a channel (BOLT 3, "Commitment Transaction Outputs" and "HTLC-Timeout and HTLC-Success Transactions"; BOLT 5).
use Rattle.std.specs.Prelude.{ℕ, ◌+◌, max, if◌then◌else◌, Option, Some, None, slice_get}
use Rattle.std.specs.Option.{option_and_then}
use Rattle.std.specs.Str.{bytes_eq}
use Rattle.tx.specs.declared.input.OutPoint.{OutPoint}
use Rattle.commit.specs.declared.fees.Direction.{Direction}
use Rattle.commit.specs.declared.fees.Direction.TheVariants.{Offered, Received}
use Rattle.commit.specs.declared.outputs.OutputKind.{OutputKind}
use Rattle.commit.specs.declared.outputs.OutputKind.TheVariants.{ToLocal, ToRemote, ToHtlc}
use Rattle.commit.specs.Commitments.{Contents, id_of}
use Rattle.resolve.specs.declared.verdicts.Verdict.{Verdict}
use Rattle.resolve.specs.declared.verdicts.Verdict.TheVariants.{Ours, Theirs, TheirsNext, Revoked, Unknown}

-- whoever offered an HTLC takes it back above its expiry, by its lock time (BIP 65)
abbrev pub takes_back : (expiry_height made : ℕ) → Option ℕ
takes_back expiry_height made = Some (max made (expiry_height + 1))

-- Of an HTLC's output. On the node's own commitment the peer takes back what it offered, which the node received; so it does on a newest or next one of its own, where it offered it. Of a revoked one the owner takes what
-- it offered above the expiry, and what it received at once
abbrev pub ends_on_htlc : Verdict → Direction → (expiry_height made : ℕ) → Option ℕ
ends_on_htlc Ours Offered expiry_height made = None
ends_on_htlc Ours Received expiry_height made = takes_back expiry_height made
ends_on_htlc Theirs Offered expiry_height made = takes_back expiry_height made
ends_on_htlc Theirs Received expiry_height made = None
ends_on_htlc TheirsNext Offered expiry_height made = takes_back expiry_height made
ends_on_htlc TheirsNext Received expiry_height made = None
ends_on_htlc (Revoked n) Offered expiry_height made = takes_back expiry_height made
ends_on_htlc (Revoked n) Received expiry_height made = Some made
ends_on_htlc Unknown direction expiry_height made = None

-- of to_local, or of the output of an HTLC transaction: the owner of a revoked commitment waits for the delay (BIP 68)
abbrev pub ends_after : Verdict → Contents → (made : ℕ) → Option ℕ
ends_after (Revoked n) c made = Some (made + c.delay_blocks)
ends_after verdict c made = None

-- of a commitment's output
abbrev pub ends_on : Verdict → Contents → (made : ℕ) → OutputKind → Option ℕ
ends_on verdict c made ToLocal = ends_after verdict c made
ends_on verdict c made ToRemote = None
ends_on verdict c made (ToHtlc direction h) = ends_on_htlc verdict direction h.expiry_height made

-- of what is due by a verdict on a commitment
abbrev pub ends_at : Verdict → Contents → OutPoint → (made : ℕ) → Option ℕ
ends_at verdict c o made =
    if bytes_eq (id_of c) o.txid then option_and_then (λ output. ends_on verdict c made output.kind) (slice_get c.outputs o.index) else ends_after verdict c made

-- where the commitment is known, and the output was made
abbrev pub deadline_of : Verdict → Option Contents → OutPoint → Option ℕ → Option ℕ
deadline_of verdict known o made = option_and_then (λ c. option_and_then (ends_at verdict c o) made) known
