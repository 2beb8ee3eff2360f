-- The base keys of a side, which derive from its seed.
use Rattle.std.specs.Prelude.{ℕ, refl, List}
use Rattle.keys.specs.declared.compressed.Key.{Key}
use Rattle.keys.specs.declared.bases.Base.{Base}
use Rattle.keys.specs.declared.bases.Base.TheVariants.{Funding, Payment, Delayed, Htlc, Revocation}
use Rattle.keys.specs.Derivation.{seed_secret, number_of}
use Rattle.channel.specs.Points.{point_key}
use Rattle.terms.specs.declared.agreement.BaseKeys.{BaseKeys}
use Rattle.terms.specs.Bases.{IsSeedOf}

-- the base key of a seed, and all five
abbrev pub key_of : List ℕ → Base → Key
key_of seed b = point_key (seed_secret seed (number_of b))

abbrev pub bases_of : List ℕ → BaseKeys
bases_of seed = record { funding = key_of seed Funding; payment = key_of seed Payment; delayed = key_of seed Delayed; htlc = key_of seed Htlc; revocation = key_of seed Revocation }

pub are_seeds : (seed : List ℕ) → IsSeedOf seed (bases_of seed)
are_seeds seed = record { funding = refl; payment = refl; delayed = refl; htlc = refl; revocation = refl }
