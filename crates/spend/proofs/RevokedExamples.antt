-- Parts of a request about a revoked commitment: the five keys in their places, the names of directions and of types of channels, and both sides of the bound of heights (BIP 65).
use Rattle.std.proofs.Common.{◌≡◌, ℕ, List, [], ◌∷◌, replicate, Option, Some, None, codes, refl}
use Rattle.std.specs.Prelude.{option_map}
use Rattle.std.specs.Str.{chars, is_utf8}
use Rattle.hex.proofs.OnLiterals.{hex_on_literals}
use Rattle.serde_json.proofs.OnLiterals.{serde_json_on_literals}
use Rattle.script.specs.Token.{is_key}
use Rattle.claim.specs.Opcodes.{◌>>=◌}
use Rattle.anchor_forms.specs.declared.channel_types.ChannelType.TheVariants.{StaticRemoteKey, Anchors}
use Rattle.commit.specs.Keys.{bytes_of}
use Rattle.commit.specs.declared.fees.Direction.{Direction}
use Rattle.commit.specs.declared.fees.Direction.TheVariants.{Offered, Received}
use Rattle.revoked.specs.declared.outputs.RevokedHtlc.{RevokedHtlc}
use Rattle.spend.specs.Asking.{value_in}
use Rattle.spend.specs.RevokedRequests.{channel_type_of, keys_of, expiry_of, htlc_of}

keys : (option_map bytes_of (value_in (codes "{\"revocation\":\"020101010101010101010101010101010101010101010101010101010101010101\",\"delayed\":\"030202020202020202020202020202020202020202020202020202020202020202\",\"local_htlc\":\"020303030303030303030303030303030303030303030303030303030303030303\",\"remote_htlc\":\"030404040404040404040404040404040404040404040404040404040404040404\",\"remote\":\"020505050505050505050505050505050505050505050505050505050505050505\"}") >>= keys_of)
    ≡ Some (record { revocation = 2 ∷ replicate 32 1; delayed = 3 ∷ replicate 32 2; local_htlc = 2 ∷ replicate 32 3; remote_htlc = 3 ∷ replicate 32 4; remote = 2 ∷ replicate 32 5 }))
    × (option_map bytes_of (value_in (codes "{\"revocation\":\"020101010101010101010101010101010101010101010101010101010101010101\",\"delayed\":\"030202020202020202020202020202020202020202020202020202020202020202\",\"local_htlc\":\"020303030303030303030303030303030303030303030303030303030303030303\",\"remote_htlc\":\"030404040404040404040404040404040404040404040404040404040404040404\"}") >>= keys_of) ≡ None)
    × (option_map bytes_of (value_in (codes "{\"revocation\":\"020101010101010101010101010101010101010101010101010101010101010101\",\"delayed\":\"030202020202020202020202020202020202020202020202020202020202020202\",\"local_htlc\":\"020303030303030303030303030303030303030303030303030303030303030303\",\"remote_htlc\":\"030404040404040404040404040404040404040404040404040404040404040404\",\"remote\":\"040505050505050505050505050505050505050505050505050505050505050505\"}") >>= keys_of) ≡ None)
unfolding keys_of is_key chars is_utf8 hex_on_literals serde_json_on_literals
keys = (refl, refl, refl)

types : ((value_in (codes "\"static_remotekey\"") >>= channel_type_of) ≡ Some StaticRemoteKey)
    × ((value_in (codes "\"anchors\"") >>= channel_type_of) ≡ Some Anchors)
    × ((value_in (codes "\"anchor\"") >>= channel_type_of) ≡ None)
unfolding chars is_utf8 serde_json_on_literals
types = (refl, refl, refl)

abbrev parts : RevokedHtlc → Direction × (List ℕ × ℕ)
parts h = (h.direction, (h.hash, h.expiry.height))

htlcs : (option_map parts (value_in (codes "{\"direction\":\"offered\",\"hash\":\"0606060606060606060606060606060606060606060606060606060606060606\",\"expiry_height\":499999999}") >>= htlc_of) ≡ Some (Offered, (replicate 32 6, 499999999)))
    × (option_map parts (value_in (codes "{\"direction\":\"received\",\"hash\":\"0606060606060606060606060606060606060606060606060606060606060606\",\"expiry_height\":0}") >>= htlc_of) ≡ Some (Received, (replicate 32 6, 0)))
    × (option_map parts (value_in (codes "{\"direction\":\"offered\",\"hash\":\"0606060606060606060606060606060606060606060606060606060606060606\",\"expiry_height\":500000000}") >>= htlc_of) ≡ None)
    × (option_map parts (value_in (codes "{\"direction\":\"recieved\",\"hash\":\"0606060606060606060606060606060606060606060606060606060606060606\",\"expiry_height\":1}") >>= htlc_of) ≡ None)
    × (option_map parts (value_in (codes "{\"direction\":\"offered\",\"hash\":\"0606060606060606060606060606060606060606060606060606060606060606\",\"expiry_height\":1,\"id\":1}") >>= htlc_of) ≡ None)
unfolding htlc_of chars is_utf8 hex_on_literals serde_json_on_literals
htlcs = (refl, refl, refl, refl, refl)
