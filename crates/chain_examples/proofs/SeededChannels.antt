-- Two channels of one node that have one seed. The node closed the first of them with its commitment 0, which has HTLCs of both sides. Of the second it revoked commitment 0, so it gave out the secret that both commitments
-- 0 have. The peer of the first channel has a seed of its own, from which its revocation base key is.
use Rattle.std.proofs.Common.{ℕ, Bool, true, false, List, [], ◌∷◌, replicate, Some, None, refl, lit≤, lit<}
use Rattle.keys.specs.Derivation.{seed_secret}
use Rattle.chain.specs.Blocks.{grant_outpoint}
use Rattle.terms.specs.declared.htlcs.Htlc.{Htlc}
use Rattle.terms.specs.declared.sides.Side.TheVariants.{A}
use Rattle.terms.specs.declared.agreement.Terms.{Terms}
use Rattle.terms.specs.declared.views.View.{View}
use Rattle.commit.specs.declared.fees.Direction.TheVariants.{Offered, Received}
use Rattle.commit.specs.declared.outputs.HtlcOutput.{HtlcOutput}
use Rattle.channel.specs.declared.commitments.CommitmentState.{CommitmentState}
use Rattle.channel.specs.Points.{point_key, point_at}
use Rattle.safety.specs.Holdings.{Release, Holding}
use Rattle.safety.proofs.Examples.{bases}
use Rattle.safety.proofs.WorkedChannels.{second_terms, htlc, share, view, plain, commitment, first_opened, second_opened, state, holding}

-- the seed of both channels, and that of the first channel's peer
abbrev pub seed : List ℕ
seed = replicate 32 1

abbrev pub peer_seed : List ℕ
peer_seed = replicate 32 2

-- The first channel: 100,000 satoshis, which the node, A, opened. Each side waits for 2 blocks, and the dust limits are two. The second channel is that of the other chains
abbrev pub seeded_terms : Terms
seeded_terms = record {
  funding = grant_outpoint 0;
  capacity_sat = 100000;
  opener = A;
  feerate_per_kw = 1000;
  a = record { dust_sat = 546; delay_blocks = 2; minimum_msat = 0; start_msat = 80000000; bases = bases 0x10 };
  b = record { dust_sat = 1500; delay_blocks = 2; minimum_msat = 0; start_msat = 20000000; bases = record (bases 0x20) { revocation = point_key (seed_secret peer_seed 4) } };
  limited = lit≤ tt;
  whole = refl;
  short_a = lit< tt;
  short_b = lit< tt;
}

-- A offered 2,000 satoshis, 3,000, and 600, which are trimmed; B offered 12,000. Half a satoshi of each balance is rounded off
abbrev pub seeded_view : View
seeded_view = view (share 60000500 (htlc 2000 7 ∷ htlc 3000 10 ∷ htlc 600 11 ∷ [])) (share 22399500 (htlc 12000 8 ∷ []))

-- the commitment that closed the first channel, at the seed's point of its number
abbrev pub seeded_own : CommitmentState
seeded_own = commitment A 0 (point_at seed 0) seeded_view

-- the node's commitments in the second channel
abbrev pub sibling_old : CommitmentState
sibling_old = commitment A 0 (point_at seed 0) plain

abbrev pub sibling_own : CommitmentState
sibling_own = commitment A 1 (point_at seed 1) plain

-- the HTLCs that have an output on the first channel's commitment, by its index
abbrev pub back_htlc : HtlcOutput
back_htlc = record { index = 0; direction = Offered; htlc = htlc 2000 7 }

abbrev pub paid_htlc : HtlcOutput
paid_htlc = record { index = 1; direction = Offered; htlc = htlc 3000 10 }

abbrev pub received_htlc : HtlcOutput
received_htlc = record { index = 2; direction = Received; htlc = htlc 12000 8 }

-- the node, with what it released in the first channel. It closed that one
abbrev pub seeded : List Release → Holding
seeded releases = holding (state seeded_terms 0 false [] (seeded_own ∷ []) (first_opened ∷ [])) releases (Some 0)

abbrev pub sibling : Holding
sibling = holding (record (state second_terms 0 false [] (sibling_old ∷ sibling_own ∷ []) (second_opened ∷ [])) { number = 1 }) [] None

abbrev pub one_seed : List Release → List Holding
one_seed releases = seeded releases ∷ sibling ∷ []

-- below, it has the preimage of each HTLC
abbrev pub knows_all : Htlc → Bool
knows_all h = true
