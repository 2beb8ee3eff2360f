-- The seeds of signers, whose hashes were computed elsewhere, and the greatest capacity that is funded.
use Rattle.std.proofs.Common.{◌≡◌, ℕ, [], ◌∷◌, replicate, Some, None, refl}
use Rattle.sha2.specs.Sha256.{sha256, digest_bytes, hash_after, compress, rounds, schedule, first_words}
use Rattle.tx.specs.Spelling.{number}
use Rattle.terms.specs.declared.sides.Side.TheVariants.{A}
use Rattle.terms.specs.declared.proposals.ProposedParty.{ProposedParty}
use Rattle.terms.specs.declared.proposals.ProposedTerms.{ProposedTerms}
use Rattle.scenario.specs.declared.seeds.Seeds.{Seeds}
use Rattle.world.specs.Opening.{channel_seed, funding_output, funding_if_within}

first : channel_seed (replicate 32 0x0a) 0 ≡ 0x8e ∷ 0x0f ∷ 0x8e ∷ 0xfc ∷ 0x74 ∷ 0x85 ∷ 0xa2 ∷ 0xcc ∷ 0xca ∷ 0xff ∷ 0x5e ∷ 0x7a ∷ 0x63 ∷ 0x5d ∷ 0xc4 ∷ 0x56 ∷ 0x7f ∷ 0x6f ∷ 0x88 ∷ 0x91 ∷ 0x49 ∷ 0xac ∷ 0x1d ∷ 0x46 ∷ 0x2b ∷ 0xb8 ∷ 0x5e ∷ 0xbf ∷ 0x0d ∷ 0xf5 ∷ 0x4e ∷ 0x7b ∷ []
unfolding channel_seed number sha256 digest_bytes hash_after compress rounds schedule first_words
first = refl

far : channel_seed (replicate 32 0x0b) 0x01020304 ≡ 0xfa ∷ 0x99 ∷ 0x36 ∷ 0x47 ∷ 0x6c ∷ 0x8c ∷ 0xca ∷ 0xb5 ∷ 0xad ∷ 0xb5 ∷ 0xa4 ∷ 0x46 ∷ 0x52 ∷ 0xd1 ∷ 0x4f ∷ 0xc6 ∷ 0x8b ∷ 0x34 ∷ 0x2d ∷ 0x28 ∷ 0x09 ∷ 0x34 ∷ 0x03 ∷ 0xf8 ∷ 0xb4 ∷ 0x19 ∷ 0x11 ∷ 0x4d ∷ 0x6c ∷ 0xfd ∷ 0x11 ∷ 0x3f ∷ []
unfolding channel_seed number sha256 digest_bytes hash_after compress rounds schedule first_words
far = refl

-- 21,000,000 bitcoins are funded; one satoshi more is not
module _ (seeds : Seeds) (channel : ℕ) (a b : ProposedParty) where
  abbrev terms : ℕ → ProposedTerms
  terms capacity_sat = record { capacity_sat = capacity_sat; opener = A; feerate_per_kw = 1000; a = a; b = b }

  limit : (funding_if_within seeds channel (terms 2100000000000000) ≡ Some (funding_output seeds channel (terms 2100000000000000)))
      × (funding_if_within seeds channel (terms 2100000000000001) ≡ None)
  limit = (refl, refl)
