-- What takes an output that a commitment lets the owner's peer claim once it is revoked, where all transactions come from what two sides recorded.
use Rattle.std.specs.Prelude.{◌≡◌, ◌≢◌, ℕ, ◌<◌, ◌^◌, true, List, Option, Some, slice_get}
use Rattle.std.specs.List.{Contains}
use Rattle.tx.specs.declared.input.TxIn.{TxIn}
use Rattle.tx.specs.Fields.{Transaction, unsigned_transaction}
use Rattle.chain.specs.Blocks.{Contents as Block, Coin, coin_at, grant_outpoint}
use Rattle.chain.specs.Checked.{is_checked}
use Rattle.claim.specs.Claims.{ClaimParts}
use Rattle.filling.specs.Filled.{AllFit}
use Rattle.terms.specs.declared.sides.Side.{Side}
use Rattle.terms.specs.declared.agreement.Terms.{Terms}
use Rattle.terms.specs.Agreement.{party}
use Rattle.terms.specs.Sides.{other}
use Rattle.commit.specs.declared.outputs.HtlcOutput.{HtlcOutput}
use Rattle.commit.specs.Commitments.{transaction_of, htlcs_of, htlc_tx_of}
use Rattle.penalty.specs.Claimable.{Claimable, claims_from}
use Rattle.penalty.specs.Sets.{claimed_by}
use Rattle.resolve.specs.Due.{owners_due, peers_due}
use Rattle.channel.specs.declared.commitments.CommitmentState.{CommitmentState}
use Rattle.channel.specs.Numbered.{IsNumbered}
use Rattle.channel.specs.Tokens.{contents_of}
use Rattle.safety.specs.Owning.{AreOfSeed}
use Rattle.safety.specs.Standing.{StandsAt, PassesTest}
use Rattle.safety.specs.Ways.{TakenBy}
use Rattle.safety.specs.Spending.{HasWaited}
use Rattle.safety.specs.Recorded.{IsOutPoint, IsPayable}
use Rattle.safety.specs.Strings.{IsHashedForCommitment, IsHashedForSeed, StringsCollide}
use Rattle.safety.specs.Takers.{IsHtlcTransaction, IsHashedForGrant}

-- what is recorded of a channel: its terms, the seed of each side's keys, and each side's own commitments by number
pub record ChannelRecord : Type 0 where
  pub terms : Terms
  pub seed : Side → List ℕ
  pub own : Side → List CommitmentState

-- a commitment of a side is recorded
pub record IsIn (r : ChannelRecord) (side : Side) (k : CommitmentState) : Type 0 where
  pub at : ℕ
  pub there : slice_get (r.own side) at ≡ Some k

-- a commitment of a side, by its number
pub record IsOwn (r : ChannelRecord) (side : Side) (n : ℕ) (k : CommitmentState) : Type 0 where
  pub payable : IsPayable r.terms k
  pub owner : k.owner ≡ side
  pub number : k.number ≡ n

-- such are the commitments that a channel records by number, below 2^48
abbrev pub NumberedAreOwn : Type 0
NumberedAreOwn = (r : ChannelRecord) (side : Side) (n : ℕ) (k : CommitmentState) → IsOutPoint r.terms.funding → n < 2 ^ 48 → IsNumbered r.terms side n k → IsOwn r side n k

-- and the outpoints of grants fund channels
abbrev pub GrantsAreOutPoints : Type 0
GrantsAreOutPoints = (g : ℕ) → IsOutPoint (grant_outpoint g)

-- each commitment can be paid, and stands by its number. Each side's base keys are of its seed, and the two seeds differ
pub record IsSound (r : ChannelRecord) : Type 0 where
  pub each : (side : Side) (n : ℕ) (k : CommitmentState) → slice_get (r.own side) n ≡ Some k → IsOwn r side n k
  pub seeds : (side : Side) → AreOfSeed (r.seed side) (party side r.terms).bases
  pub apart : (side : Side) → r.seed side ≢ r.seed (other side)

-- the channels by number
abbrev pub ChannelRecords : Type 0
ChannelRecords = ℕ → Option ChannelRecord

-- each channel's record is sound. Its funding output is the grant of its number, and no two channels have one
pub record AreSound (channels : ChannelRecords) : Type 0 where
  pub each : (c : ℕ) (r : ChannelRecord) → channels c ≡ Some r → IsSound r
  pub granted : (c : ℕ) (r : ChannelRecord) → channels c ≡ Some r → r.terms.funding ≡ grant_outpoint c
  pub apart : (c d : ℕ) (r q : ChannelRecord) → channels c ≡ Some r → channels d ≡ Some q → c ≢ d → r.terms.funding ≢ q.terms.funding

-- a claim is one of those that a recorded commitment gives a side: on its own; on its peer's; on its peer's once that is revoked
pub data IsDueTo (channels : ChannelRecords) (side : Side) (x : ClaimParts) : Type 0 where
  of_own : (c : ℕ) (r : ChannelRecord) → channels c ≡ Some r → (k : CommitmentState) → IsIn r side k
      → (preimages : List (List ℕ)) → Contains (owners_due preimages (contents_of r.terms k)) (claimed_by x) → IsDueTo channels side x
  of_peers : (c : ℕ) (r : ChannelRecord) → channels c ≡ Some r → (k : CommitmentState) → IsIn r (other side) k
      → (preimages : List (List ℕ)) → Contains (peers_due preimages (contents_of r.terms k)) (claimed_by x) → IsDueTo channels side x
  of_revoked : (c : ℕ) (r : ChannelRecord) → channels c ≡ Some r → (k : CommitmentState) → IsIn r (other side) k
      → Contains (claims_from (contents_of r.terms k) 0 (contents_of r.terms k).outputs) (claimed_by x) → IsDueTo channels side x

-- a transaction fills claims that are due to a side
pub record IsFilledBy (channels : ChannelRecords) (side : Side) (t : Transaction) : Type 0 where
  pub claims : List ClaimParts
  pub fits : AllFit t claims t.inputs
  pub due : (x : ClaimParts) → Contains claims x → IsDueTo channels side x

-- the transactions by which each side filled claims
abbrev pub Fillings : Type 0
Fillings = Side → List Transaction

-- each of them fills claims that are due to the side
abbrev pub AreFilled : ChannelRecords → Fillings → Type 0
AreFilled channels fillings = (side : Side) (t : Transaction) → Contains (fillings side) t → IsFilledBy channels side t

-- a transaction is, whatever its witnesses, a recorded commitment or an HTLC transaction of one; or it is a filling of a side's
pub data IsFrom (channels : ChannelRecords) (fillings : Fillings) (t : Transaction) : Type 0 where
  from_commitment : (c : ℕ) (r : ChannelRecord) → channels c ≡ Some r → (side : Side) (k : CommitmentState) → IsIn r side k
      → unsigned_transaction t ≡ transaction_of (contents_of r.terms k) → IsFrom channels fillings t
  from_htlc : (c : ℕ) (r : ChannelRecord) → channels c ≡ Some r → (side : Side) (k : CommitmentState) → IsIn r side k
      → (h : HtlcOutput) → Contains (htlcs_of (contents_of r.terms k)) h → unsigned_transaction t ≡ htlc_tx_of (contents_of r.terms k) h → IsFrom channels fillings t
  from_filling : (side : Side) → Contains (fillings side) t → IsFrom channels fillings t

-- what is hashed for recorded commitments, for the seeds, and for the grants that fund the channels
pub data IsHashedForChannels (channels : ChannelRecords) (bytes : List ℕ) : Type 0 where
  of_commitment : (c : ℕ) (r : ChannelRecord) → channels c ≡ Some r → (side : Side) (k : CommitmentState) → IsIn r side k → IsHashedForCommitment r.terms k bytes → IsHashedForChannels channels bytes
  of_seed : (c : ℕ) (r : ChannelRecord) → channels c ≡ Some r → (side : Side) → IsHashedForSeed (r.seed side) bytes → IsHashedForChannels channels bytes
  of_grant : (c : ℕ) (r : ChannelRecord) → channels c ≡ Some r → IsHashedForGrant c bytes → IsHashedForChannels channels bytes

-- what takes an output of a side's commitment: a filling of its peer's; the HTLC's transaction; a filling of its own, after the delay on to_local's form; or two of these strings collide
abbrev pub IsTaker : ChannelRecords → Fillings → ChannelRecord → Side → CommitmentState → Claimable → (since height : ℕ) → Transaction → Type 0
IsTaker channels fillings r side k o since height t =
    TakenBy (Contains (fillings (other side)) t) (IsHtlcTransaction (contents_of r.terms k) o.place.outpoint height t)
    (Contains (fillings side) t × HasWaited (contents_of r.terms k) o since height) (StringsCollide (IsHashedForChannels channels) (IsHashedForChannels channels))

-- this holds of each input that names the output and passes the chain's test of its coin
abbrev pub Taken : Type 0
Taken =
    (channels : ChannelRecords) → AreSound channels → (fillings : Fillings) → AreFilled channels fillings
    → (c : ℕ) (r : ChannelRecord) → channels c ≡ Some r → (side : Side) (k : CommitmentState) → IsIn r side k
    → (o : Claimable) → Contains (claims_from (contents_of r.terms k) 0 (contents_of r.terms k).outputs) o
    → (height : ℕ) (t : Transaction) (input : TxIn) (coin : Coin) → IsFrom channels fillings t → Contains t.inputs input → input.outpoint ≡ o.place.outpoint → PassesTest height t input coin
    → IsTaker channels fillings r side k o coin.height height t

-- the coin of the output on a chain, and what takes it, by the height of the coin's block
pub record IsTakenOn (blocks : List Block) (o : Claimable) (Takes : ℕ → Type 0) : Type 0 where
  pub coin : Coin
  pub there : coin_at blocks o.place.outpoint ≡ Some coin
  pub taker : Takes coin.height

-- this holds of each input that names the output on a chain, if the chain's transactions passed their tests and come from what is recorded
abbrev pub TakenOnChains : Type 0
TakenOnChains =
    (channels : ChannelRecords) → AreSound channels → (fillings : Fillings) → AreFilled channels fillings
    → (blocks : List Block) → is_checked blocks ≡ true → ((height : ℕ) (t : Transaction) → StandsAt blocks height t → IsFrom channels fillings t)
    → (c : ℕ) (r : ChannelRecord) → channels c ≡ Some r → (side : Side) (k : CommitmentState) → IsIn r side k
    → (o : Claimable) → Contains (claims_from (contents_of r.terms k) 0 (contents_of r.terms k).outputs) o
    → (height : ℕ) (t : Transaction) → StandsAt blocks height t → (input : TxIn) → Contains t.inputs input → input.outpoint ≡ o.place.outpoint
    → IsTakenOn blocks o (λ since. IsTaker channels fillings r side k o since height t)
