-- The outputs of a commitment (BOLT 3, "Commitment Transaction Outputs").
use Rattle.std.specs.Prelude.{ℕ, List, [], ◌∷◌, ◌++◌, map, Option, Some, None}
use Rattle.digest.specs.Hash.{hash160}
use Rattle.digest.specs.Ripemd160.{ripemd160}
use Rattle.script.specs.Spelling.{spelling}
use Rattle.sighash.specs.Programs.{script_hash_program, key_hash_program}
use Rattle.terms.specs.Scripts.{to_local, key_hash, offered, received}
use Rattle.terms.specs.declared.htlcs.Htlc.{Htlc}
use Rattle.commit.specs.declared.fees.Direction.{Direction}
use Rattle.commit.specs.declared.fees.Direction.TheVariants.{Offered, Received}
use Rattle.commit.specs.declared.amounts.Amounts.{Amounts}
use Rattle.commit.specs.declared.outputs.OutputKind.{OutputKind}
use Rattle.commit.specs.declared.outputs.OutputKind.TheVariants.{ToLocal, ToRemote, ToHtlc}
use Rattle.commit.specs.declared.outputs.CommitmentOutput.{CommitmentOutput}
use Rattle.commit.specs.Fees.{satoshis_of}
use Rattle.commit.specs.Keys.{KeyBytes}

-- the bytes of each script
unfoldable pub to_local_script : ℕ → KeyBytes → List ℕ
to_local_script delay_blocks k = spelling (to_local k.revocation delay_blocks k.delayed)

unfoldable pub to_remote_script : KeyBytes → List ℕ
to_remote_script k = spelling (key_hash (hash160 k.remote))

-- the bytes that the scripts of both directions begin with
abbrev pub htlc_start : List ℕ → List ℕ → List ℕ
htlc_start revocation_hash remote = 0x76 ∷ 0xa9 ∷ 0x14 ∷ (revocation_hash ++ 0x87 ∷ 0x63 ∷ 0xac ∷ 0x67 ∷ 0x21 ∷ (remote ++ 0x7c ∷ 0x82 ∷ 0x01 ∷ 0x20 ∷ 0x87 ∷ []))

unfoldable pub htlc_script : KeyBytes → Direction → Htlc → List ℕ
htlc_script k Offered h =
    spelling (offered (hash160 k.revocation) k.remote_htlc k.local_htlc (ripemd160 h.hash))
htlc_script k Received h = spelling (received (hash160 k.revocation) k.remote_htlc k.local_htlc
    (ripemd160 h.hash) h.expiry_height)

-- the output with a script
abbrev pub script_output : ℕ → List ℕ → OutputKind → CommitmentOutput
script_output value script kind =
    record { value = value; script = script; program = script_hash_program script; kind = kind }

abbrev pub to_local_output : ℕ → KeyBytes → ℕ → CommitmentOutput
to_local_output delay_blocks k value = script_output value (to_local_script delay_blocks k) ToLocal

abbrev pub to_remote_output : KeyBytes → ℕ → CommitmentOutput
to_remote_output k v =
    record (script_output v (to_remote_script k) ToRemote) { program = key_hash_program k.remote }

abbrev pub htlc_output : KeyBytes → Direction → Htlc → CommitmentOutput
htlc_output k d h = script_output (satoshis_of h.amount_msat) (htlc_script k d h) (ToHtlc d h)

-- an output, if there is one
abbrev pub where_paid : (ℕ → CommitmentOutput) → Option ℕ → List CommitmentOutput
where_paid output None = []
where_paid output (Some value) = output value ∷ []

-- the outputs of amounts, not sorted yet: the HTLCs of each direction in the view's order, to_local and to_remote
unfoldable pub outputs_of : ℕ → KeyBytes → Amounts → List CommitmentOutput
outputs_of delay_blocks k a = map (htlc_output k Offered) a.offered
    ++ map (htlc_output k Received) a.received ++ where_paid (to_local_output delay_blocks k) a.to_local
    ++ where_paid (to_remote_output k) a.to_remote
