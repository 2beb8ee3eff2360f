-- What is left of a balance where each deadline was kept. What is asked is of outputs and heights alone: that it was the node that took them is what follows.
use Rattle.std.specs.Prelude.{◌≡◌, ℕ, ◌+◌, ◌<◌, Bool, not, List}
use Rattle.std.specs.List.{Contains}
use Rattle.tx.specs.declared.input.TxIn.{TxIn}
use Rattle.tx.specs.Fields.{Transaction}
use Rattle.chain.specs.Blocks.{Contents as Block, Coin}
use Rattle.terms.specs.declared.htlcs.Htlc.{Htlc}
use Rattle.forms.specs.Forms.{to_local_form}
use Rattle.commit.specs.declared.fees.Direction.{Direction}
use Rattle.commit.specs.declared.outputs.HtlcOutput.{HtlcOutput}
use Rattle.commit.specs.Commitments.{Contents}
use Rattle.penalty.specs.Claimable.{Claimable}
use Rattle.penalty.specs.Worth.{staged}
use Rattle.channel.specs.declared.commitments.CommitmentState.{CommitmentState}
use Rattle.channel.specs.Tokens.{contents_of}
use Rattle.worth_laws.specs.Counted.{counted}
use Rattle.safety.specs.Whereabouts.{IsNamedBy, IsCoinOf}
use Rattle.safety.specs.Holdings.{Holding, terms_in}
use Rattle.safety.specs.Resolutions.{Resolution, IsSlept, ShowsPreimage, IsOnHtlc, outgoing, IsPaidOrLate}
use Rattle.balance_laws.specs.Claims.{AllAreWorth, ShareIsWorth}

-- whatever took the output stands below this height
abbrev pub IsTakenBelow : List Block → Claimable → ℕ → Type 0
IsTakenBelow blocks o deadline = (height : ℕ) (t : Transaction) (input : TxIn) → IsNamedBy blocks o height t input → height < deadline

-- of a revoked commitment, an output in to_local's form: its owner may take it once the delay is over
abbrev pub DelayIsKept : List Block → Contents → Claimable → Type 0
DelayIsKept blocks c o = (coin : Coin) → IsCoinOf blocks o coin → o.form ≡ to_local_form c.keys.revocation c.delay_blocks c.keys.delayed → IsTakenBelow blocks o (coin.height + c.delay_blocks)

-- an HTLC that was offered to the node, as one of this direction: its peer may take it back above the expiry
abbrev pub ExpiryIsKept : List Block → Contents → Direction → Claimable → Type 0
ExpiryIsKept blocks c direction o = (x : HtlcOutput) → IsOnHtlc c x o → x.direction ≡ direction → IsTakenBelow blocks o (x.htlc.expiry_height + 1)

-- the node had offered the HTLC, which is of this direction, and whoever took it showed the preimage
pub record IsPaid (c : Contents) (direction : Direction) (o : Claimable) (input : TxIn) : Type 0 where
  pub htlc : HtlcOutput
  pub on : IsOnHtlc c htlc o
  pub mine : htlc.direction ≡ direction
  pub shows : ShowsPreimage input.witness htlc.htlc.hash

-- Then nothing is lost of what the claims are worth, but where strings collide (`Broken`). A penalty is unspent, or the node took it. Any other claim is so too, or it is an HTLC that was paid
pub record NothingIsLate (Broken : List Holding → List Block → Type 0) : Type 0 where
  pub revoked : (hs : List Holding) (blocks : List Block) (h : Holding) (known : Htlc → Bool) (stands : ℕ → Bool) (k : CommitmentState) → AllAreWorth h known stands k (λ o. Resolution Broken hs blocks (IsSlept (contents_of (terms_in h) k) o) o)
      → ((o : Claimable) → Contains (staged stands (contents_of (terms_in h) k)) o → DelayIsKept blocks (contents_of (terms_in h) k) o)
      → AllAreWorth h known stands k (λ o. Resolution Broken hs blocks (λ coin height input. ⊥) o)
  pub unrevoked : (hs : List Holding) (blocks : List Block) (h : Holding) (own : Bool) (known : Htlc → Bool) (stands : ℕ → Bool) (k : CommitmentState)
      → ShareIsWorth h own known stands k (λ o. Resolution Broken hs blocks (IsPaidOrLate own (contents_of (terms_in h) k) o) o)
      → ((o : Claimable) → Contains (counted own known stands (contents_of (terms_in h) k)) o → ExpiryIsKept blocks (contents_of (terms_in h) k) (outgoing (not own)) o)
      → ShareIsWorth h own known stands k (λ o. Resolution Broken hs blocks (λ coin height input. IsPaid (contents_of (terms_in h) k) (outgoing own) o input) o)
