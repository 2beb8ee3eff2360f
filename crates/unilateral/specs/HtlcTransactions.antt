-- One's own HTLC transactions, by the outputs that they spend (BOLT 3, "HTLC-Timeout and HTLC-Success Transactions").
use Rattle.std.specs.Prelude.{ℕ, ◌-◌, List, [], ◌∷◌}
use Rattle.digest.specs.Hash.{sha256d}
use Rattle.tx.specs.Fields.{Transaction}
use Rattle.script.specs.Spelling.{spelling}
use Rattle.sighash.specs.Programs.{script_hash_program}
use Rattle.sighash.specs.Signing.{signed_list}
use Rattle.claim.specs.declared.parts.Place.{Place}
use Rattle.forms.specs.Forms.{to_local_form}
use Rattle.commit.specs.Keys.{KeyBytes}
use Rattle.commit.specs.declared.fees.Direction.{Direction}
use Rattle.commit.specs.declared.fees.Direction.TheVariants.{Offered, Received}
use Rattle.commit.specs.Fees.{fee_sat_of, htlc_weight}
use Rattle.commit.specs.Commitments.{spending}
use Rattle.commit.specs.Signing.{input_of}

-- HTLC-timeout has the expiry as its lock time, HTLC-success has 0
abbrev pub lock_time_of : Direction → ℕ → ℕ
lock_time_of Offered expiry_height = expiry_height
lock_time_of Received expiry_height = 0

-- the HTLC transaction of the output at a place, in a channel without anchors: it pays the output's value less the fee to the script of to_local
unfoldable pub htlc_tx_on : KeyBytes → (delay_blocks feerate_per_kw : ℕ) → Direction → (expiry_height : ℕ) → Place → Transaction
htlc_tx_on k delay_blocks feerate_per_kw direction expiry_height place = spending place.outpoint 0
    (record {
      value = place.value - fee_sat_of (htlc_weight direction) feerate_per_kw;
      script = script_hash_program (spelling (to_local_form k.revocation delay_blocks k.delayed).ops);
    } ∷ [])
    (lock_time_of direction expiry_height)

-- the digest that both its signatures are over
unfoldable pub digest_on : Transaction → Place → List ℕ → List ℕ
digest_on t place script = sha256d (signed_list t (input_of place.outpoint 0) script place.value)
