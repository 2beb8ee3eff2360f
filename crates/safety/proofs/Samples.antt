-- Two seeds, and a side's part of the terms, for worked examples.
use Rattle.std.proofs.Common.{◌≢◌, ℕ, List, get_or, replicate, ap, arith}
use Rattle.keys.specs.declared.bases.Base.{Base}
use Rattle.keys.specs.declared.bases.Base.TheVariants.{Funding, Payment, Delayed, Htlc, Revocation}
use Rattle.keys.specs.declared.compressed.Key.{Key}
use Rattle.keys.specs.Derivation.{base_key, seed_secret, number_of}
use Rattle.terms.specs.declared.agreement.BaseKeys.{BaseKeys}
use Rattle.terms.specs.declared.agreement.Party.{Party}
use Rattle.channel.specs.Points.{point_form}

-- the base keys of a seed
abbrev pub key_of : List ℕ → Base → Key
key_of seed b = record { bytes = base_key seed b; form = point_form (seed_secret seed (number_of b)) }

abbrev pub bases_of : List ℕ → BaseKeys
bases_of seed = record { funding = key_of seed Funding; payment = key_of seed Payment; delayed = key_of seed Delayed; htlc = key_of seed Htlc; revocation = key_of seed Revocation }

abbrev pub first_seed : List ℕ
first_seed = replicate 32 1

abbrev pub second_seed : List ℕ
second_seed = replicate 32 2

pub seeds_differ : first_seed ≢ second_seed
seeds_differ e = let f = ap (λ (x : List ℕ). get_or x 0 0) e in omega (arith, f)

pub seeds_differ_too : second_seed ≢ first_seed
seeds_differ_too e = let f = ap (λ (x : List ℕ). get_or x 0 0) e in omega (arith, f)

-- a side with a dust limit of 546 satoshis and a delay of 144 blocks
abbrev pub side_with : ℕ → BaseKeys → Party
side_with start_msat bases = record { dust_sat = 546; delay_blocks = 144; minimum_msat = 0; start_msat = start_msat; bases = bases }
