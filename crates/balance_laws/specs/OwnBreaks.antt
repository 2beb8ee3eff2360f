-- What would have to be broken besides, where the node closed a channel itself: two named byte strings with one hash, of which one is hashed for its own newest commitment.
use Rattle.std.specs.Prelude.{◌≡◌, ℕ, List, ◌++◌, Some, slice_get, codes}
use Rattle.std.specs.List.{Contains}
use Rattle.sha2.specs.Sha256.{sha256}
use Rattle.digest.specs.Hash.{hash160, Collide}
use Rattle.digest.specs.Ripemd160.{ripemd160}
use Rattle.terms.specs.declared.sides.Side.{Side}
use Rattle.terms.specs.declared.agreement.Terms.{Terms}
use Rattle.terms.specs.Agreement.{party}
use Rattle.chain.specs.Blocks.{Contents as Block}
use Rattle.channel.specs.declared.commitments.CommitmentState.{CommitmentState}
use Rattle.channel.specs.Tokens.{contents_of}
use Rattle.safety.specs.Signing.{Signed, Collision}
use Rattle.safety.specs.Spending.{ItemCollides}
use Rattle.safety.specs.Holdings.{Holding, terms_in}
use Rattle.safety.specs.Breaks.{IsSpendOn, IsPaymentHash, IsHashOfItem, Breaks}

-- the newest own commitment of one of the node's channels
pub record IsOwnNewest (hs : List Holding) (h : Holding) (k : CommitmentState) : Type 0 where
  pub held : Contains hs h
  pub recorded : slice_get h.state.mine h.state.number ≡ Some k

-- what is hashed for the HTLC key of a side on a commitment (BOLT 3, "Key Derivation")
abbrev pub IsHashedForHtlcKey : Terms → CommitmentState → List ℕ → Type 0
IsHashedForHtlcKey terms k bytes = (side : Side) × (bytes ≡ codes "derive" ++ (party side terms).bases.htlc.bytes ++ k.point.bytes)

-- such a string, or a payment hash, of a newest own commitment
pub record IsForOwn (Is : Terms → CommitmentState → List ℕ → Type 0) (hs : List Holding) (bytes : List ℕ) : Type 0 where
  pub holding : Holding
  pub commitment : CommitmentState
  pub newest : IsOwnNewest hs holding commitment
  pub is : Is (terms_in holding) commitment bytes

pub data OwnBreaks (hs : List Holding) (blocks : List Block) : Type 0 where
  -- two of those that are named of peers' commitments
  by_breaks : Breaks hs blocks → OwnBreaks hs blocks
  -- what is hashed for the HTLC keys of the two sides
  by_htlc_keys : Collision (Collide sha256) (IsForOwn IsHashedForHtlcKey hs) (IsForOwn IsHashedForHtlcKey hs) → OwnBreaks hs blocks
  -- an item of the witness, and the revocation key
  by_revocation_key : (s : Signed) → IsSpendOn hs blocks s → (h : Holding) (k : CommitmentState) → IsOwnNewest hs h k
      → ItemCollides hash160 (contents_of (terms_in h) k).keys.revocation s.input.witness → OwnBreaks hs blocks
  -- the SHA-256 of an item, and a payment hash
  by_own_preimage : (s : Signed) → IsSpendOn hs blocks s → Collision (Collide ripemd160) (IsHashOfItem s.input.witness) (IsForOwn IsPaymentHash hs) → OwnBreaks hs blocks
