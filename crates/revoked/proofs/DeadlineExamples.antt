-- From which block on the owner takes the outputs of a commitment with a delay of 144, in a channel of each type: both sides of each bound.
use Rattle.std.proofs.Common.{◌≡◌, [], ◌∷◌, map, refl, Some, None, arith}
use Rattle.anchor_forms.specs.declared.channel_types.ChannelType.{ChannelType}
use Rattle.anchor_forms.specs.declared.channel_types.ChannelType.TheVariants.{StaticRemoteKey, Anchors}
use Rattle.commit.specs.declared.fees.Direction.{Direction}
use Rattle.commit.specs.declared.fees.Direction.TheVariants.{Offered, Received}
use Rattle.revoked.specs.Parts.{RevokedParts}
use Rattle.revoked.specs.Deadlines.{least_expiry_height, owner_height}
use Rattle.revoked.specs.declared.outputs.RevokedHtlc.{RevokedHtlc}
use Rattle.revoked.specs.declared.outputs.RevokedOutput.TheVariants.{ToLocal, ToRemote, ToHtlc}

abbrev commitment : ChannelType → RevokedParts
commitment t = record { channel_type = t; keys = record { revocation = 2 ∷ []; delayed = 3 ∷ []; local_htlc = 4 ∷ []; remote_htlc = 5 ∷ []; remote = 6 ∷ [] }; delay_blocks = 144; htlcs = [] }

abbrev htlc : Direction → RevokedHtlc
htlc direction = record { direction = direction; hash = 7 ∷ []; expiry = record { height = 501; low = omega arith } }

-- to_local of a transaction in block 500, and to_remote
to_local : owner_height (commitment StaticRemoteKey) ToLocal 500 ≡ Some 644
to_local = refl

to_local_with_anchors : owner_height (commitment Anchors) ToLocal 500 ≡ Some 644
to_local_with_anchors = refl

to_remote : owner_height (commitment StaticRemoteKey) ToRemote 500 ≡ None
to_remote = refl

-- an HTLC until height 501, of a transaction in the blocks about that height
offered : map (owner_height (commitment StaticRemoteKey) (ToHtlc (htlc Offered))) (0 ∷ 501 ∷ 502 ∷ 503 ∷ []) ≡ Some 502 ∷ Some 502 ∷ Some 502 ∷ Some 503 ∷ []
offered = refl

offered_with_anchors : map (owner_height (commitment Anchors) (ToHtlc (htlc Offered))) (0 ∷ 500 ∷ 501 ∷ 502 ∷ 503 ∷ []) ≡ Some 502 ∷ Some 502 ∷ Some 502 ∷ Some 503 ∷ Some 504 ∷ []
offered_with_anchors = refl

received : map (owner_height (commitment StaticRemoteKey) (ToHtlc (htlc Received))) (0 ∷ 501 ∷ 502 ∷ []) ≡ Some 0 ∷ Some 501 ∷ Some 502 ∷ []
received = refl

received_with_anchors : map (owner_height (commitment Anchors) (ToHtlc (htlc Received))) (0 ∷ 501 ∷ 502 ∷ []) ≡ Some 1 ∷ Some 502 ∷ Some 503 ∷ []
received_with_anchors = refl

-- offered HTLCs with one hash, until 505 and 900: whichever is told first, an output of either may be the owner's from 506 on. A received one with that hash does not count, nor one with another hash
abbrev until_505 : RevokedHtlc
until_505 = record { direction = Offered; hash = 8 ∷ []; expiry = record { height = 505; low = omega arith } }

abbrev until_900 : RevokedHtlc
until_900 = record { direction = Offered; hash = 8 ∷ []; expiry = record { height = 900; low = omega arith } }

abbrev received_until_3 : RevokedHtlc
received_until_3 = record { direction = Received; hash = 8 ∷ []; expiry = record { height = 3; low = omega arith } }

abbrev other_until_4 : RevokedHtlc
other_until_4 = record { direction = Offered; hash = 9 ∷ []; expiry = record { height = 4; low = omega arith } }

shared : map (least_expiry_height until_900) ((until_900 ∷ until_505 ∷ []) ∷ (until_505 ∷ until_900 ∷ []) ∷ (received_until_3 ∷ until_900 ∷ other_until_4 ∷ []) ∷ [] ∷ []) ≡ 505 ∷ 505 ∷ 900 ∷ 900 ∷ []
shared = refl

shared_output : owner_height (record { channel_type = StaticRemoteKey; keys = (commitment StaticRemoteKey).keys; delay_blocks = 144; htlcs = until_900 ∷ until_505 ∷ [] }) (ToHtlc until_900) 500 ≡ Some 506
shared_output = refl
