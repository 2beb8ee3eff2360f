-- The fees of a commitment's transactions, and which HTLCs get an output (BOLT 3, "Fees" and "Trimmed Outputs").
use Rattle.std.specs.Prelude.{ℕ, ◌+◌, ◌*◌, ◌/◌, Bool, nat_lt}
use Rattle.terms.specs.declared.amounts.TheConstants.{MSAT_PER_SAT}
use Rattle.terms.specs.declared.htlcs.Htlc.{Htlc}
use Rattle.commit.specs.declared.fees.Direction.{Direction}
use Rattle.commit.specs.declared.fees.Direction.TheVariants.{Offered, Received}
use Rattle.commit.specs.declared.fees.TheConstants.{WEIGHT_PER_FEERATE}

-- an amount of millisatoshis in satoshis, rounded down
abbrev pub satoshis_of : ℕ → ℕ
satoshis_of amount_msat = amount_msat / MSAT_PER_SAT

-- the fee of a transaction of a weight, in satoshis, rounded down
abbrev pub fee_sat_of : ℕ → ℕ → ℕ
fee_sat_of weight feerate_per_kw = weight * feerate_per_kw / WEIGHT_PER_FEERATE

-- the weight of a commitment with this number of untrimmed HTLCs
abbrev pub commitment_weight : ℕ → ℕ
commitment_weight htlcs = 724 + 172 * htlcs

-- the weight of the owner's second-stage transaction: HTLC-timeout, HTLC-success
abbrev pub htlc_weight : Direction → ℕ
htlc_weight Offered = 663
htlc_weight Received = 703

-- an HTLC is trimmed if it is worth less than the dust limit and the fee of its second-stage transaction together
abbrev pub is_trimmed_by : ℕ → ℕ → Direction → Htlc → Bool
is_trimmed_by dust_sat feerate_per_kw d h = nat_lt (satoshis_of h.amount_msat) (dust_sat + fee_sat_of (htlc_weight d) feerate_per_kw)
