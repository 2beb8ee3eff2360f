-- The preimages that a block shows.
use Rattle.std.specs.Prelude.{ℕ, Bool, ◌&&◌, ◌==◌, if◌then◌else◌, List, Option, Some, None, option_map}
use Rattle.std.specs.List.{list_any, flat_map, filter_map}
use Rattle.std.specs.Str.{bytes_eq}
use Rattle.sha2.specs.Sha256.{sha256}
use Rattle.tx.specs.declared.input.OutPoint.{OutPoint}
use Rattle.tx.specs.declared.input.TxIn.{TxIn}
use Rattle.tx.specs.Fields.{Transaction}
use Rattle.commit.specs.Commitments.{Contents, id_of, htlcs_of}
use Rattle.penalty.specs.Claimable.{commitment_in}
use Rattle.resolve.specs.declared.verdicts.Verdict.{Verdict}
use Rattle.resolve.specs.declared.verdicts.Verdict.TheVariants.{Ours, Theirs, TheirsNext, Revoked, Unknown}
use Rattle.resolve.specs.declared.known.Known.{Known}
use Rattle.resolve.specs.Due.{revoked_at}
use Rattle.resolve.specs.Preimages.{shown_by_input}
use Rattle.watch.specs.declared.spends.Spend.{Spend}
use Rattle.watch.specs.declared.learning.CommitmentHtlcs.{CommitmentHtlcs}
use Rattle.watch.specs.Verdicts.{verdict_of}

-- the commitment that a verdict names
abbrev pub commitment_by : Known → Verdict → Option Contents
commitment_by known Ours = Some known.own.commitment
commitment_by known Theirs = Some known.theirs
commitment_by known TheirsNext = known.next
commitment_by known (Revoked n) = option_map (λ r. commitment_in r.state) (revoked_at known n)
commitment_by known Unknown = None

-- the HTLCs of a commitment, with its id
abbrev pub htlcs_in : Contents → CommitmentHtlcs
htlcs_in c = record { id = id_of c; htlcs = htlcs_of c }

-- the HTLCs of the known commitment that a transaction is
abbrev pub htlcs_if : Known → Spend → Option CommitmentHtlcs
htlcs_if known s = option_map htlcs_in (commitment_by known (verdict_of known s.tx))

-- the HTLCs of all these commitments, among transactions
abbrev pub htlcs_by : Known → List Spend → List CommitmentHtlcs
htlcs_by known spends = filter_map (htlcs_if known) spends

-- an HTLC stands at the outpoint, and this is its preimage
abbrev pub is_paid_by : List ℕ → OutPoint → CommitmentHtlcs → Bool
is_paid_by x o c = bytes_eq c.id o.txid && list_any (λ h. h.index == o.index && bytes_eq (sha256 x) h.htlc.hash) c.htlcs

-- a preimage of an HTLC's hash is learnt where an input that spends the HTLC's output shows it
abbrev pub learnt_if : List CommitmentHtlcs → OutPoint → Option (List ℕ) → Option (List ℕ)
learnt_if commitments o None = None
learnt_if commitments o (Some x) = if list_any (is_paid_by x o) commitments then Some x else None

abbrev pub learnt_by : List CommitmentHtlcs → TxIn → Option (List ℕ)
learnt_by commitments i = learnt_if commitments i.outpoint (shown_by_input (Some i))

-- what inputs show, and those of transactions, in order
abbrev pub learnt_from : List CommitmentHtlcs → List TxIn → List (List ℕ)
learnt_from commitments inputs = filter_map (learnt_by commitments) inputs

abbrev pub learnt_in : List CommitmentHtlcs → List Transaction → List (List ℕ)
learnt_in commitments txs = flat_map (λ t. learnt_from commitments t.inputs) txs
