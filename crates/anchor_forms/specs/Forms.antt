-- The forms of HTLCs by the type of the channel.
use Rattle.std.specs.Prelude.{ℕ, List}
use Rattle.digest.specs.Hash.{hash160}
use Rattle.digest.specs.Ripemd160.{ripemd160}
use Rattle.paths.specs.Listing.{CheckedScript}
use Rattle.forms.specs.declared.parameters.HtlcKeys.{HtlcKeys}
use Rattle.forms.specs.Forms.{offered_form, received_form}
use Rattle.anchor_forms.specs.declared.channel_types.ChannelType.{ChannelType}
use Rattle.anchor_forms.specs.declared.channel_types.ChannelType.TheVariants.{StaticRemoteKey, Anchors}
use Rattle.anchor_forms.specs.Scripts.{offered_with_anchors, received_with_anchors}
use Rattle.anchor_forms.specs.Ways.{offered_with_anchors_ways, received_with_anchors_ways}

-- an HTLC's form in a channel with anchors, with the hash of the revocation key and that of the preimage
abbrev pub offered_with_anchors_form : (revocation remote local payment : List ℕ) → CheckedScript
offered_with_anchors_form h remote local p = record {
  ops = offered_with_anchors h remote local p;
  paths = offered_with_anchors_ways h remote local p;
}

abbrev pub received_with_anchors_form : (revocation remote local payment : List ℕ)
    (expiry_height : ℕ) → CheckedScript
received_with_anchors_form h remote local p t = record {
  ops = received_with_anchors h remote local p t;
  paths = received_with_anchors_ways h remote local p t;
}

-- an HTLC's form in a channel of a type
abbrev pub offered_form_in : ChannelType → (revocation remote local payment : List ℕ)
    → CheckedScript
offered_form_in StaticRemoteKey h remote local p = offered_form h remote local p
offered_form_in Anchors h remote local p = offered_with_anchors_form h remote local p

abbrev pub received_form_in : ChannelType → (revocation remote local payment : List ℕ)
    (expiry_height : ℕ) → CheckedScript
received_form_in StaticRemoteKey h remote local p t = received_form h remote local p t
received_form_in Anchors h remote local p t = received_with_anchors_form h remote local p t

-- the forms of an HTLC. The script has the HASH160 of the revocation key and the RIPEMD-160 of the payment hash
abbrev pub offered_htlc_in : ChannelType → HtlcKeys → List ℕ → CheckedScript
offered_htlc_in channel_type keys payment_hash = offered_form_in channel_type
    (hash160 keys.revocation.bytes) keys.remote.bytes keys.local.bytes (ripemd160 payment_hash)

abbrev pub received_htlc_in : ChannelType → HtlcKeys → List ℕ → ℕ → CheckedScript
received_htlc_in channel_type keys payment_hash expiry_height = received_form_in channel_type
    (hash160 keys.revocation.bytes) keys.remote.bytes keys.local.bytes (ripemd160 payment_hash)
    expiry_height
