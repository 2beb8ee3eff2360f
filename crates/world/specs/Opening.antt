-- How the channels of a scenario are opened: the seeds and keys of their signers,
-- their terms and funding outputs, and the openings that each side's book is given.
use Rattle.std.specs.Prelude.{ℕ, nat_lt, if◌then◌else◌, List, ◌++◌, Option, Some, None, codes}
use Rattle.sha2.specs.Sha256.{sha256}
use Rattle.script.specs.Spelling.{spelling}
use Rattle.tx.specs.declared.limits.TheConstants.{MAX_VALUE}
use Rattle.tx.specs.declared.input.OutPoint.{OutPoint}
use Rattle.tx.specs.Parts.{Output}
use Rattle.tx.specs.Spelling.{number}
use Rattle.keys.specs.declared.compressed.Key.{Key}
use Rattle.keys.specs.declared.bases.Base.TheVariants.{Funding}
use Rattle.keys.specs.Derivation.{base_key}
use Rattle.terms.specs.declared.sides.Side.{Side}
use Rattle.terms.specs.declared.sides.Side.TheVariants.{A, B}
use Rattle.terms.specs.declared.agreement.Terms.{Terms}
use Rattle.terms.specs.Agreement.{HasFields, party}
use Rattle.terms.specs.Sides.{other}
use Rattle.terms.specs.Scripts.{funding}
use Rattle.sighash.specs.Programs.{script_hash_program}
use Rattle.channel.specs.Points.{point_at}
use Rattle.channel.specs.States.{first_of}
use Rattle.channel.specs.Tokens.{peer_tokens}
use Rattle.terms.specs.declared.proposals.ProposedTerms.{ProposedTerms}
use Rattle.book.specs.declared.calls.Opening.{Opening}
use Rattle.terms.specs.Bases.{IsSeedOf}
use Rattle.book.specs.Calls.{IsOpenedBy}
use Rattle.terms.specs.Proposals.{party_of}
use Rattle.book.specs.Seeds.{bases_of}
use Rattle.scenario.specs.declared.seeds.Seeds.{Seeds}
use Rattle.scenario.specs.Seeds.{seed_of}
use Rattle.world.specs.declared.openings.sides.Both.{Both}

-- the seed of a signer: SHA-256 of "channel", the side's seed, and the channel's index in four bytes, little-endian
unfoldable pub channel_seed : List ℕ → ℕ → List ℕ
channel_seed seed channel = sha256 (codes "channel" ++ seed ++ number 4 channel)

abbrev pub seed_in : Seeds → ℕ → Side → List ℕ
seed_in seeds channel side = channel_seed (seed_of side seeds) channel

-- the funding output (BOLT 3): the capacity, for the base keys of both sides
abbrev pub funding_output : Seeds → ℕ → ProposedTerms → Output
funding_output seeds channel plain = record {
  value = plain.capacity_sat;
  script = script_hash_program (spelling (funding (base_key (seed_in seeds channel A) Funding) (base_key (seed_in seeds channel B) Funding)));
}

-- the funding output, if an output may have the value
abbrev pub funding_if_within : Seeds → ℕ → ProposedTerms → Option Output
funding_if_within seeds channel plain = if nat_lt MAX_VALUE plain.capacity_sat then None else Some (funding_output seeds channel plain)

-- the terms are the scenario's, with the funding output's outpoint and the base keys of both sides
abbrev pub AreTermsOf : Seeds → ℕ → OutPoint → ProposedTerms → Terms → Type 0
AreTermsOf seeds channel outpoint plain terms =
    HasFields terms outpoint plain.capacity_sat plain.opener plain.feerate_per_kw (party_of plain.a (bases_of (seed_in seeds channel A))) (party_of plain.b (bases_of (seed_in seeds channel B)))

-- the base keys of both sides in the terms are those of their signers
abbrev pub HaveKeys : Seeds → ℕ → Terms → Type 0
HaveKeys seeds channel terms = (side : Side) → IsSeedOf (seed_in seeds channel side) (party side terms).bases

abbrev pub point_in : Seeds → ℕ → Side → ℕ → Key
point_in seeds channel side n = point_at (seed_in seeds channel side) n

-- the peer's token on a side's commitment 0
abbrev pub token_in : Seeds → ℕ → Side → Terms → List ℕ
token_in seeds channel side terms = (peer_tokens terms (first_of terms side (point_in seeds channel side 0))).commitment

-- how a side opens: with the seed of its signer, its peer's points for 0 and 1, and its peer's token on its own commitment 0
abbrev pub IsOpeningOf : Seeds → ℕ → Side → Terms → Opening → Type 0
IsOpeningOf seeds channel side terms opening =
    IsOpenedBy terms side (seed_in seeds channel side) (point_in seeds channel (other side) 0) (point_in seeds channel (other side) 1) (token_in seeds channel side terms) opening

-- how both sides open a channel: on terms of the scenario, which are the same for both
pub record AreOpeningsOf (seeds : Seeds) (channel : ℕ) (outpoint : OutPoint) (plain : ProposedTerms) (both : Both) : Type 0 where
  pub terms : Terms
  pub agreed : AreTermsOf seeds channel outpoint plain terms
  pub by_a : IsOpeningOf seeds channel A terms both.a
  pub by_b : IsOpeningOf seeds channel B terms both.b
