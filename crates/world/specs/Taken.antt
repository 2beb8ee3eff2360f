-- What takes an output on the chain that a revoked commitment lets a side claim.
use Rattle.std.specs.Prelude.{◌≡◌, ◌≢◌, ℕ, ◌<◌, List, Contains, Some, slice_get}
use Rattle.tx.specs.declared.input.TxIn.{TxIn}
use Rattle.tx.specs.Fields.{Transaction}
use Rattle.chain.specs.Blocks.{Contents as Block, Coin, coin_at}
use Rattle.terms.specs.declared.sides.Side.{Side}
use Rattle.terms.specs.Sides.{other}
use Rattle.commit.specs.Commitments.{Contents}
use Rattle.penalty.specs.Claimable.{Claimable}
use Rattle.channel.specs.declared.commitments.CommitmentState.{CommitmentState}
use Rattle.scenario.specs.declared.limits.TheConstants.{MAX_CHANNELS}
use Rattle.safety.specs.Standing.{StandsAt}
use Rattle.safety.specs.Strings.{IsHashedForCommitment, IsHashedForSeed, StringsCollide}
use Rattle.safety.specs.Ways.{TakenBy}
use Rattle.safety.specs.Spending.{HasWaited}
use Rattle.safety.specs.Takers.{IsHtlcTransaction, IsHashedForGrant}
use Rattle.book.specs.Books.{ChannelBook}
use Rattle.book.specs.Penalties.{revoked_contents, claimable_in}
use Rattle.world.specs.Worlds.{World, node_of, channel_of}
use Rattle.world.specs.Releasing.{IsFillingIn}

-- a commitment of the other side's, which this side signed, is revoked to this side. The two seeds of the channel differ
pub record IsRevokedTo (w : World) (s : Side) (c : Contents) : Type 0 where
  pub channel : ℕ
  pub number : ℕ
  pub ch : ChannelBook
  pub commitment : CommitmentState
  pub secret : List ℕ
  pub there : channel_of (node_of s w) channel ≡ Some ch
  pub signed : slice_get ch.state.signed number ≡ Some commitment
  pub revealed : slice_get ch.state.secrets number ≡ Some secret
  pub peers : ChannelBook
  pub peers_there : channel_of (node_of (other s) w) channel ≡ Some peers
  pub apart : ch.state.seed ≢ peers.state.seed
  pub is : c ≡ revoked_contents ch.state commitment secret

-- the output has the form of to_local, and the block is at least the commitment's delay above the output's. With a delay of 0 nobody waits
pub record HasWaitedOn (blocks : List Block) (c : Contents) (o : Claimable) (height : ℕ) : Type 0 where
  pub coin : Coin
  pub there : coin_at blocks o.place.outpoint ≡ Some coin
  pub waited : HasWaited c o coin.height height

-- what is hashed for commitments that a side signed, for the seeds, and for the grants that fund channels
pub data IsHashedIn (w : World) (bytes : List ℕ) : Type 0 where
  of_commitment : (s : Side) (c n : ℕ) (ch : ChannelBook) (k : CommitmentState)
      → channel_of (node_of s w) c ≡ Some ch → slice_get ch.state.signed n ≡ Some k
      → IsHashedForCommitment ch.state.held.terms k bytes → IsHashedIn w bytes
  of_seed : (s : Side) (c : ℕ) (ch : ChannelBook) → channel_of (node_of s w) c ≡ Some ch
      → IsHashedForSeed ch.state.seed bytes → IsHashedIn w bytes
  of_grant : (c : ℕ) → c < MAX_CHANNELS → IsHashedForGrant c bytes → IsHashedIn w bytes

-- A transaction in a block of a height takes an output that the side can claim. It is a filling that the side released. Or it is the HTLC transaction of the HTLC whose output this
-- is. Or it is a filling that the owner of the commitment released, after the delay, and the output has the form of to_local. Or two of these strings collide
abbrev pub IsTaker : World → Side → Contents → Claimable → (height : ℕ) → Transaction → Type 0
IsTaker w s c o height t =
    TakenBy (IsFillingIn (node_of s w).history t) (IsHtlcTransaction c o.place.outpoint height t)
    (IsFillingIn (node_of (other s) w).history t × HasWaitedOn w.chain.blocks c o height) (StringsCollide (IsHashedIn w) (IsHashedIn w))

-- Each input on the chain that names an output which a revoked commitment, or an HTLC transaction of it, lets a side claim stands in such a transaction
abbrev pub OutputsAreTaken : World → Type 0
OutputsAreTaken w =
    (s : Side) (c : Contents) (o : Claimable) (height : ℕ) (t : Transaction) (input : TxIn)
    → IsRevokedTo w s c → Contains (claimable_in c) o → StandsAt w.chain.blocks height t
    → Contains t.inputs input → input.outpoint ≡ o.place.outpoint → IsTaker w s c o height t
