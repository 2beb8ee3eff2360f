-- The forms: each script of BOLT 3 with the ways through it, and what goes into them.
use Rattle.std.specs.Prelude.{ℕ, List}
use Rattle.digest.specs.Hash.{hash160}
use Rattle.digest.specs.Ripemd160.{ripemd160}
use Rattle.paths.specs.Listing.{CheckedScript}
use Rattle.forms.specs.declared.parameters.HtlcKeys.{HtlcKeys}
use Rattle.terms.specs.Scripts.{two_of_two, funding, to_local, key_hash, offered, received}
use Rattle.forms.specs.Ways.{two_of_two_ways, funding_ways, to_local_ways, key_hash_ways, offered_ways, received_ways}

abbrev pub two_of_two_form : List ℕ → List ℕ → CheckedScript
two_of_two_form first second = record { ops = two_of_two first second; paths = two_of_two_ways first second }

abbrev pub funding_form : List ℕ → List ℕ → CheckedScript
funding_form key other = record { ops = funding key other; paths = funding_ways key other }

abbrev pub to_local_form : (revocation : List ℕ) (delay_blocks : ℕ) (delayed : List ℕ) → CheckedScript
to_local_form key delay_blocks delayed =
    record { ops = to_local key delay_blocks delayed; paths = to_local_ways key delay_blocks delayed }

abbrev pub key_hash_form : List ℕ → CheckedScript
key_hash_form hash = record { ops = key_hash hash; paths = key_hash_ways hash }

-- an HTLC's form, with the hash of the revocation key and that of the preimage
abbrev pub offered_form : (revocation remote local payment : List ℕ) → CheckedScript
offered_form h remote local p =
    record { ops = offered h remote local p; paths = offered_ways h remote local p }

abbrev pub received_form : (revocation remote local payment : List ℕ) (expiry_height : ℕ) → CheckedScript
received_form h remote local p t =
    record { ops = received h remote local p t; paths = received_ways h remote local p t }

-- the forms of an HTLC. The script has the HASH160 of the revocation key and the RIPEMD-160 of the payment hash. The payment hash is a SHA-256, so the
-- latter is the HASH160 of the preimage
abbrev pub offered_htlc : HtlcKeys → List ℕ → CheckedScript
offered_htlc keys payment_hash = offered_form (hash160 keys.revocation.bytes) keys.remote.bytes keys.local.bytes (ripemd160 payment_hash)

abbrev pub received_htlc : HtlcKeys → List ℕ → ℕ → CheckedScript
received_htlc keys payment_hash expiry_height = received_form (hash160 keys.revocation.bytes) keys.remote.bytes keys.local.bytes (ripemd160 payment_hash) expiry_height
