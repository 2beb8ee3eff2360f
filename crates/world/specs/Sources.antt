-- Where each transaction of a world comes from, and on what each claim of a side is.
use Rattle.std.specs.Prelude.{◌≡◌, ℕ, ◌<◌, List, ◌++◌, Contains, Some, Ok, slice_get}
use Rattle.std.specs.List.{AllByRecursion}
use Rattle.tx.specs.Fields.{Transaction}
use Rattle.chain.specs.Blocks.{grant_outpoint, transactions_of}
use Rattle.terms.specs.declared.sides.Side.{Side}
use Rattle.claim.specs.Claims.{ClaimParts}
use Rattle.penalty.specs.Claimable.{Claimable}
use Rattle.penalty.specs.Sets.{claimed_by}
use Rattle.resolve.specs.Due.{owners_due, peers_due}
use Rattle.channel.specs.declared.commitments.CommitmentState.{CommitmentState}
use Rattle.channel.specs.Tokens.{contents_of}
use Rattle.channel.specs.States.{State}
use Rattle.scenario.specs.declared.limits.TheConstants.{MAX_CHANNELS}
use Rattle.book.specs.declared.calls.Batch.{Batch}
use Rattle.book.specs.declared.calls.Call.TheVariants.{Release}
use Rattle.book.specs.declared.calls.Entry.{Entry}
use Rattle.book.specs.Books.{ChannelBook, replay}
use Rattle.book.specs.Penalties.{claimable_at}
use Rattle.world.specs.Worlds.{World, Node, node_of, channel_of}
use Rattle.world.specs.Publishing.{commitment_in, htlc_tx_in}
use Rattle.world.specs.Releasing.{IsFillingIn}

-- ---- transactions

-- A transaction comes from a side. It is a commitment that the side records, with both signatures. Or it is an HTLC transaction of such a commitment, with any preimages. Or it is the filling of a
-- release in the side's history.
pub data IsFrom (w : World) (t : Transaction) : Type 0 where
  a_commitment : (s : Side) (c n : ℕ) → commitment_in n (channel_of (node_of s w) c) ≡ Ok t → IsFrom w t
  an_htlc_tx : (s : Side) (c n k : ℕ) (preimages : List (List ℕ)) → htlc_tx_in n k preimages (channel_of (node_of s w) c) ≡ Ok t → IsFrom w t
  a_filling : (s : Side) → IsFillingIn (node_of s w).history t → IsFrom w t

-- the transactions on the chain, those in the pool, and those that were released
abbrev pub transactions_in : World → List Transaction
transactions_in w = transactions_of w.chain.blocks ++ (w.pool ++ w.released)

-- ---- claims

-- A claim is on what a recorded commitment lets a side claim. The commitment is the side's own, or the peer's, or the peer's and revoked.
pub data IsDueOf (s : State) (x : ClaimParts) : Type 0 where
  of_own : (n : ℕ) (k : CommitmentState) (preimages : List (List ℕ)) → slice_get s.mine n ≡ Some k → Contains (owners_due preimages (contents_of s.held.terms k)) (claimed_by x) → IsDueOf s x
  of_peers : (n : ℕ) (k : CommitmentState) (preimages : List (List ℕ)) → slice_get s.signed n ≡ Some k → Contains (peers_due preimages (contents_of s.held.terms k)) (claimed_by x) → IsDueOf s x
  of_revoked : (n : ℕ) (claimable : List Claimable) → claimable_at s n ≡ Some claimable → Contains claimable (claimed_by x) → IsDueOf s x

-- the same in a channel of a book, by its history
pub record IsDueIn (history : List Entry) (c : ℕ) (x : ClaimParts) : Type 0 where
  pub ch : ChannelBook
  pub there : slice_get (replay history) c ≡ Some ch
  pub due : IsDueOf ch.state x

-- What is true of a side. Each channel is on its own grant of the chain. Its jobs, the claims that it took, and those that it released are on what recorded commitments of their channel let it claim.
pub record IsSide (n : Node) : Type 0 where
  pub opened : (c : ℕ) (ch : ChannelBook) → channel_of n c ≡ Some ch → (c < MAX_CHANNELS) × (ch.state.held.terms.funding ≡ grant_outpoint c)
  pub jobs : AllByRecursion (λ j. IsDueIn n.history j.channel j.claim) (n.jobs ++ n.taken)
  pub due : (seat c : ℕ) (batch : Batch) → Contains n.history (record { seat = seat; call = Release c batch }) → AllByRecursion (IsDueIn n.history c) batch.claims
