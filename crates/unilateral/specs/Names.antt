-- What an output is, by its program (BOLT 3, "Commitment Transaction Outputs").
use Rattle.std.specs.Prelude.{ℕ, if◌then◌else◌, List, [], ◌∷◌, ◌++◌, Option, Some, None, slice_get}
use Rattle.std.specs.Str.{bytes_eq}
use Rattle.tx.specs.Parts.{Output}
use Rattle.tx.specs.Fields.{Transaction}
use Rattle.sighash.specs.Programs.{script_hash_program}
use Rattle.anchor_forms.specs.declared.channel_types.ChannelType.{ChannelType}
use Rattle.anchor_forms.specs.declared.channel_types.ChannelType.TheVariants.{StaticRemoteKey, Anchors}
use Rattle.commit.specs.declared.fees.Direction.{Direction}
use Rattle.commit.specs.declared.fees.Direction.TheVariants as directions
use Rattle.commit.specs.Keys.{KeyBytes}
use Rattle.revoked.specs.Parts.{RevokedParts}
use Rattle.revoked.specs.declared.outputs.RevokedOutput.{RevokedOutput}
use Rattle.revoked.specs.declared.outputs.RevokedOutput.TheVariants as outputs
use Rattle.revoked.specs.Programs.{output_with}
use Rattle.unilateral.specs.declared.names.FundingKeys.{FundingKeys}
use Rattle.unilateral.specs.declared.names.OutputName.{OutputName}
use Rattle.unilateral.specs.declared.names.OutputName.TheVariants.{ToLocal, ToRemote, OurAnchor, PeersAnchor, Offered, Received, Unknown}

-- the push of a key, and what stands behind it
abbrev pub key_program : List ℕ → List ℕ → List ℕ
key_program key end = script_hash_program (0x21 ∷ (key ++ end))

-- with anchors to_remote is KEY CHECKSIGVERIFY 1 CHECKSEQUENCEVERIFY
abbrev pub to_remote_program : List ℕ → List ℕ
to_remote_program key = key_program key (0xad ∷ 0x51 ∷ 0xb2 ∷ [])

-- an anchor is KEY CHECKSIG IFDUP NOTIF 16 CHECKSEQUENCEVERIFY ENDIF, with a key of the funding output
abbrev pub anchor_program : List ℕ → List ℕ
anchor_program key = key_program key (0xac ∷ 0x73 ∷ 0x64 ∷ 0x60 ∷ 0xb2 ∷ 0x68 ∷ [])

abbrev pub htlc_name : Direction → OutputName
htlc_name directions.Offered = Offered
htlc_name directions.Received = Received

abbrev pub known_name : RevokedOutput → OutputName
known_name outputs.ToLocal = ToLocal
known_name outputs.ToRemote = ToRemote
known_name (outputs.ToHtlc h) = htlc_name h.direction

-- an anchor, if the funding keys are told
abbrev pub anchor_name : Option FundingKeys → List ℕ → OutputName
anchor_name None program = Unknown
anchor_name (Some f) program =
    if bytes_eq (anchor_program f.ours.bytes) program then OurAnchor
    else if bytes_eq (anchor_program f.peers.bytes) program then PeersAnchor
    else Unknown

-- what has no form that is known here
abbrev pub other_name : ChannelType → KeyBytes → Option FundingKeys → List ℕ → OutputName
other_name StaticRemoteKey k funding_keys program = Unknown
other_name Anchors k funding_keys program =
    if bytes_eq (to_remote_program k.remote) program then ToRemote else anchor_name funding_keys program

abbrev pub name_if : RevokedParts → Option FundingKeys → List ℕ → Option RevokedOutput → OutputName
name_if r funding_keys program (Some o) = known_name o
name_if r funding_keys program None = other_name r.channel_type r.keys funding_keys program

abbrev pub name_of : RevokedParts → Option FundingKeys → List ℕ → OutputName
name_of r funding_keys program = name_if r funding_keys program (output_with r program)

-- the name of the output of a transaction at an index
abbrev pub name_if_there : RevokedParts → Option FundingKeys → Option Output → OutputName
name_if_there r funding_keys None = Unknown
name_if_there r funding_keys (Some o) = name_of r funding_keys o.script

abbrev pub name_at : RevokedParts → Option FundingKeys → Transaction → ℕ → OutputName
name_at r funding_keys t index = name_if_there r funding_keys (slice_get t.outputs index)
