-- What a claim on an output of a commitment needs.
use Rattle.std.specs.Prelude.{◌≡◌, ℕ, ◌≤◌, ◌<◌, true, List, length, Some, slice_get}
use Rattle.std.specs.List.{All}
use Rattle.script.specs.declared.limits.TheConstants.{LOCKTIME_THRESHOLD}
use Rattle.tx.specs.declared.limits.TheConstants.{MAX_OUTPUTS}
use Rattle.paths.specs.declared.state.Path.{Path}
use Rattle.paths.specs.Listing.{CheckedScript}
use Rattle.claim.specs.declared.parts.Place.{Place}
use Rattle.claim.specs.declared.parts.Shell.{Shell}
use Rattle.claim.specs.Judgement.{is_shell}
use Rattle.commit.specs.declared.outputs.OutputKind.{OutputKind}
use Rattle.commit.specs.declared.outputs.OutputKind.TheVariants.{ToLocal, ToRemote, ToHtlc}
use Rattle.commit.specs.declared.outputs.CommitmentOutput.{CommitmentOutput}
use Rattle.commit.specs.Keys.{KeyBytes}
use Rattle.sighash.specs.Programs.{script_hash_program, key_hash_program}
use Rattle.commit.specs.Outputs.{to_local_script, htlc_script}
use Rattle.commit.specs.Commitments.{Contents}

-- the program of an output, by its kind
abbrev pub program_of : ℕ → KeyBytes → OutputKind → List ℕ
program_of delay_blocks k ToLocal = script_hash_program (to_local_script delay_blocks k)
program_of delay_blocks k ToRemote = key_hash_program k.remote
program_of delay_blocks k (ToHtlc direction h) = script_hash_program (htlc_script k direction h)

-- an HTLC expires at a height
abbrev pub HasHeight : OutputKind → Type 0
HasHeight ToLocal = Unit {0}
HasHeight ToRemote = Unit {0}
HasHeight (ToHtlc direction h) = h.expiry_height < LOCKTIME_THRESHOLD

pub record IsOutput (delay_blocks : ℕ) (k : KeyBytes) (o : CommitmentOutput) : Type 0 where
  pub program : o.program ≡ program_of delay_blocks k o.kind
  pub height : HasHeight o.kind

pub record AreOutputs (c : Contents) : Type 0 where
  pub few : length c.outputs ≤ MAX_OUTPUTS
  pub each : All (λ o. IsOutput c.delay_blocks c.keys o) c.outputs

-- a form has the path at an index, and the transaction may stand round it
abbrev pub HasWay : CheckedScript → ℕ → Place → Shell → Type 0
HasWay form index place shell = (p : Path) × (slice_get form.paths index ≡ Some p) × (is_shell p place shell ≡ true)
