-- What is known of a revoked commitment.
use Rattle.std.specs.Prelude.{ℕ, List}
use Rattle.anchor_forms.specs.declared.channel_types.ChannelType.{ChannelType}
use Rattle.commit.specs.Keys.{KeyBytes}
use Rattle.revoked.specs.declared.outputs.RevokedHtlc.{RevokedHtlc}

-- the type of its channel, the keys of its outputs, the delay of to_local and of its HTLC transactions' outputs, and its HTLCs
pub record RevokedParts : Type 0 where
  pub channel_type : ChannelType
  pub keys : KeyBytes
  pub delay_blocks : ℕ
  pub htlcs : List RevokedHtlc
