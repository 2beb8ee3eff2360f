-- What holds of whatever fits an accepted claim.
use Rattle.std.specs.Prelude.{◌≡◌, ◌≤◌, ◌<◌, ◌^◌}
use Rattle.script.specs.declared.limits.TheConstants.{LOCKTIME_THRESHOLD}
use Rattle.script.specs.Spelling.{spelling}
use Rattle.script.specs.Clean.{IsClean}
use Rattle.tx.specs.declared.input.TxIn.{TxIn}
use Rattle.tx.specs.Fields.{Transaction}
use Rattle.sighash.specs.Programs.{spend_of}
use Rattle.claim.specs.Claims.{ClaimParts, IsWhole, FitsClaim, IsSpending, sequence_of, lock_time_of}

-- it spends the output
abbrev pub AcceptedSpend : Type 0
AcceptedSpend = (c : ClaimParts) → IsWhole c → IsSpending c

-- step by step, its script runs clean on the items of the witness, with the counted opcodes and the height of the claim's path
abbrev pub FittingRunsClean : Type 0
FittingRunsClean =
    (c : ClaimParts) (t : Transaction) (input : TxIn) → IsWhole c → (f : FitsClaim c t input)
    → IsClean (spend_of t input (spelling c.ways.ops) c.place.value) c.ways.ops f.fits.items f.path.ops f.path.height

-- version 2, the claim's age in blocks as the sequence, and a lock time that is a height, at least the one that the claim needs
pub record IsTimed (c : ClaimParts) (t : Transaction) (input : TxIn) : Type 0 where
  pub version : t.version ≡ 2
  pub sequence : input.sequence ≡ sequence_of c
  pub age : sequence_of c < 2 ^ 16
  pub reached : lock_time_of c ≤ t.lock_time
  pub height : t.lock_time < LOCKTIME_THRESHOLD

abbrev pub FittingIsTimed : Type 0
FittingIsTimed = (c : ClaimParts) (t : Transaction) (input : TxIn) → IsWhole c → FitsClaim c t input → IsTimed c t input
