-- The terms of a channel in JSON.
use Rattle.std.specs.Prelude.{ℕ, Option, Some, codes}
use Rattle.serde_json.specs.Data.{Data}
use Rattle.terms.specs.declared.proposals.ProposedParty.{ProposedParty}
use Rattle.terms.specs.declared.proposals.ProposedTerms.{ProposedTerms}
use Rattle.claim.specs.Opcodes.{◌>>=◌}
use Rattle.texts.specs.Values.{object_of, member_of, pair_of, u64_of, u32_of, u16_of, side_of}

abbrev pub party_of : ℕ → ℕ → ℕ → ℕ → ProposedParty
party_of dust_sat delay_blocks minimum_msat start_msat = record { dust_sat = dust_sat; delay_blocks = delay_blocks; minimum_msat = minimum_msat; start_msat = start_msat }

-- an object of these seven members; each pair has the value of side A first
unfoldable pub terms_of : Data → Option ProposedTerms
terms_of d = do
  form ← object_of 7 d
  dust_sat ← member_of (codes "dust") (pair_of u64_of) form
  delay_blocks ← member_of (codes "delay") (pair_of u16_of) form
  minimum_msat ← member_of (codes "minimum") (pair_of u64_of) form
  start_msat ← member_of (codes "start") (pair_of u64_of) form
  capacity_sat ← member_of (codes "capacity") u64_of form
  opener ← member_of (codes "opener") side_of form
  feerate_per_kw ← member_of (codes "feerate") u32_of form
  Some (record {
    capacity_sat = capacity_sat;
    opener = opener;
    feerate_per_kw = feerate_per_kw;
    a = party_of dust_sat.0 delay_blocks.0 minimum_msat.0 start_msat.0;
    b = party_of dust_sat.1 delay_blocks.1 minimum_msat.1 start_msat.1;
  })
