-- From which block on outputs are taken, with a delay of 144, in a channel of each type: both sides of each bound. The HTLC transactions of BOLT 3, Appendix C, at its feerate of 647.
use Rattle.std.proofs.Common.{◌≡◌, ℕ, true, false, List, [], ◌∷◌, map, refl, Option, Some, None, arith}
use Rattle.tx.specs.Fields.{Transaction, version_two}
use Rattle.paths.specs.Listing.{path_with}
use Rattle.claim.specs.Claims.{ClaimParts}
use Rattle.claim.specs.declared.parts.Place.{Place}
use Rattle.claim.specs.declared.parts.Shell.{Shell}
use Rattle.claim.specs.declared.parts.Shell.TheVariants.{Open, Fixed}
use Rattle.anchor_forms.specs.declared.channel_types.ChannelType.{ChannelType}
use Rattle.anchor_forms.specs.declared.channel_types.ChannelType.TheVariants.{StaticRemoteKey, Anchors}
use Rattle.commit.specs.declared.fees.Direction.{Direction}
use Rattle.commit.specs.declared.fees.Direction.TheVariants.{Offered, Received}
use Rattle.commit.specs.Keys.{KeyBytes}
use Rattle.revoked.specs.declared.outputs.RevokedHtlc.{RevokedHtlc}
use Rattle.revoked.specs.declared.outputs.RevokedOutput.TheVariants.{ToLocal, ToRemote, ToHtlc}
use Rattle.unilateral.specs.declared.closes.Whose.{Whose}
use Rattle.unilateral.specs.declared.closes.Whose.TheVariants.{Ours, Theirs}
use Rattle.unilateral.specs.declared.closes.Close.{Close}
use Rattle.unilateral.specs.Claims.{is_claimed, with_expiries, expiries_of}
use Rattle.unilateral.specs.Heights.{from_height, deadline_height}
use Rattle.unilateral.specs.HtlcTransactions.{htlc_tx_on}

abbrev keys : KeyBytes
keys = record { revocation = 2 ∷ []; delayed = 3 ∷ []; local_htlc = 4 ∷ []; remote_htlc = 5 ∷ []; remote = 6 ∷ [] }

abbrev close : Whose → ChannelType → Close
close w t = record { commitment = record { channel_type = t; keys = keys; delay_blocks = 144; htlcs = [] }; whose = w; feerate_per_kw = 647; preimages = [] }

abbrev htlc : Direction → RevokedHtlc
htlc direction = record { direction = direction; hash = 7 ∷ []; expiry = record { height = 501; low = omega arith } }

abbrev place : ℕ → Place
place value = record { outpoint = record { txid = 8 ∷ []; index = 1 }; value = value; program = 9 ∷ [] }

-- a claim on a path with this lock time and this age
abbrev claim : Option ℕ → Option ℕ → Shell → ClaimParts
claim lock age shell = record { ways = record { ops = []; paths = path_with 0 [] 0 0 lock age ∷ [] }; index = 0; slots = []; place = place 2000; shell = shell }

-- after a delay, of a transaction in block 500; at once; and after one block
delayed : map (from_height (claim None (Some 144) Open)) (0 ∷ 500 ∷ []) ≡ 144 ∷ 644 ∷ []
delayed = refl

at_once : map (from_height (claim None None Open)) (0 ∷ 500 ∷ []) ≡ 0 ∷ 500 ∷ []
at_once = refl

after_a_block : from_height (claim None (Some 1) Open) 500 ≡ 501
after_a_block = refl

-- until height 501, of a transaction in the blocks about that height
after_expiry : map (from_height (claim (Some 501) None Open)) (0 ∷ 501 ∷ 502 ∷ 503 ∷ []) ≡ 502 ∷ 502 ∷ 502 ∷ 503 ∷ []
after_expiry = refl

after_expiry_and_a_block : map (from_height (claim (Some 501) (Some 1) Open)) (0 ∷ 500 ∷ 501 ∷ 502 ∷ []) ≡ 502 ∷ 502 ∷ 502 ∷ 503 ∷ []
after_expiry_and_a_block = refl

-- by an HTLC transaction, which has its own lock time
abbrev with_lock : ℕ → Transaction
with_lock n = version_two [] [] n

by_htlc_timeout : map (from_height (claim None None (Fixed (with_lock 501)))) (501 ∷ 502 ∷ 503 ∷ []) ≡ 502 ∷ 502 ∷ 503 ∷ []
by_htlc_timeout = refl

by_htlc_success : from_height (claim None None (Fixed (with_lock 0))) 500 ≡ 500
by_htlc_success = refl

-- the other side takes an HTLC of one's own commitment: with the preimage at any time, or from the expiry on
peer_by_preimage : map (deadline_height (close Ours StaticRemoteKey) (ToHtlc (htlc Offered))) (0 ∷ 501 ∷ []) ≡ Some 0 ∷ Some 501 ∷ []
peer_by_preimage = refl

peer_by_preimage_with_anchors : deadline_height (close Ours Anchors) (ToHtlc (htlc Offered)) 501 ≡ Some 502
peer_by_preimage_with_anchors = refl

peer_by_timeout : map (deadline_height (close Ours StaticRemoteKey) (ToHtlc (htlc Received))) (0 ∷ 501 ∷ 502 ∷ 503 ∷ []) ≡ Some 502 ∷ Some 502 ∷ Some 502 ∷ Some 503 ∷ []
peer_by_timeout = refl

peer_by_timeout_with_anchors : map (deadline_height (close Ours Anchors) (ToHtlc (htlc Received))) (0 ∷ 500 ∷ 501 ∷ 502 ∷ []) ≡ Some 502 ∷ Some 502 ∷ Some 502 ∷ Some 503 ∷ []
peer_by_timeout_with_anchors = refl

-- to_local is its owner's alone, and to_remote its peer's
own_to_local : deadline_height (close Ours StaticRemoteKey) ToLocal 500 ≡ None
own_to_local = refl

own_to_remote : deadline_height (close Ours StaticRemoteKey) ToRemote 500 ≡ Some 500
own_to_remote = refl

-- of the peer's commitment its owner takes these
owner_by_timeout : map (deadline_height (close Theirs StaticRemoteKey) (ToHtlc (htlc Offered))) (0 ∷ 501 ∷ 502 ∷ 503 ∷ []) ≡ Some 502 ∷ Some 502 ∷ Some 502 ∷ Some 503 ∷ []
owner_by_timeout = refl

owner_by_preimage : map (λ t. deadline_height (close Theirs t) (ToHtlc (htlc Received)) 501) (StaticRemoteKey ∷ Anchors ∷ []) ≡ Some 501 ∷ Some 502 ∷ []
owner_by_preimage = refl

peers_to_local : deadline_height (close Theirs StaticRemoteKey) ToLocal 500 ≡ Some 644
peers_to_local = refl

peers_to_remote : deadline_height (close Theirs StaticRemoteKey) ToRemote 500 ≡ None
peers_to_remote = refl

-- the appendix's HTLC-timeout of 2,000 satoshis pays 428 of them, and its HTLC-success 454; a fee above the value leaves nothing
timeout_pays : map (λ o. o.value) (htlc_tx_on keys 144 647 Offered 502 (place 2000)).outputs ≡ 1572 ∷ []
unfolding htlc_tx_on
timeout_pays = refl

success_pays : map (λ o. o.value) (htlc_tx_on keys 144 647 Received 501 (place 2000)).outputs ≡ 1546 ∷ []
unfolding htlc_tx_on
success_pays = refl

nothing_left : map (λ o. o.value) (htlc_tx_on keys 144 647 Received 501 (place 453)).outputs ≡ 0 ∷ []
unfolding htlc_tx_on
nothing_left = refl

timeout_locks : (htlc_tx_on keys 144 647 Offered 502 (place 2000)).lock_time ≡ 502
unfolding htlc_tx_on
timeout_locks = refl

success_locks : (htlc_tx_on keys 144 647 Received 501 (place 2000)).lock_time ≡ 0
unfolding htlc_tx_on
success_locks = refl

-- one payment in parts that expire apart, one of them told twice; another payment; and one that was received
abbrev first_part : RevokedHtlc
first_part = htlc Offered

abbrev other_part : RevokedHtlc
other_part = record first_part { expiry = record { height = 506; low = omega arith } }

abbrev another : RevokedHtlc
another = record first_part { hash = 10 ∷ []; expiry = record { height = 507; low = omega arith } }

parts : map (λ e. e.height) (expiries_of Offered (other_part ∷ first_part ∷ another ∷ htlc Received ∷ other_part ∷ []) first_part) ≡ 501 ∷ 506 ∷ []
unfolding with_expiries
parts = refl

one_received : map (λ e. e.height) (expiries_of Received (htlc Received ∷ record (htlc Received) { expiry = record { height = 506; low = omega arith } } ∷ []) (htlc Received)) ≡ 501 ∷ []
one_received = refl

-- one's own HTLCs are claimed without anchors alone, and the peer's with the preimage
claimed_without_a_preimage : map (λ t. is_claimed (close Ours t) ToLocal) (StaticRemoteKey ∷ Anchors ∷ []) ≡ true ∷ true ∷ []
claimed_without_a_preimage = refl

own_to_remote_is_the_peers : is_claimed (close Ours StaticRemoteKey) ToRemote ≡ false
own_to_remote_is_the_peers = refl

own_received_without_a_preimage : map (λ t. is_claimed (close Ours t) (ToHtlc (htlc Received))) (StaticRemoteKey ∷ Anchors ∷ []) ≡ false ∷ false ∷ []
own_received_without_a_preimage = refl

own_offered_with_anchors : is_claimed (close Ours Anchors) (ToHtlc (htlc Offered)) ≡ false
own_offered_with_anchors = refl

peers_to_local_is_its_owners : is_claimed (close Theirs StaticRemoteKey) ToLocal ≡ false
peers_to_local_is_its_owners = refl

peers_offered_without_a_preimage : is_claimed (close Theirs StaticRemoteKey) (ToHtlc (htlc Offered)) ≡ false
peers_offered_without_a_preimage = refl
