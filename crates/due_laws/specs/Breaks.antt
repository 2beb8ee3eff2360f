-- What would have to be broken for a claim to be missed: two named byte strings with one hash. Each of them is fixed by what a channel recorded, and by the preimages that are known.
use Rattle.std.specs.Prelude.{◌≡◌, ℕ, List, [], Some, slice_get}
use Rattle.std.specs.List.{Contains}
use Rattle.digest.specs.Hash.{sha256d, hash160, Collide}
use Rattle.tx.specs.Spelling.{stripped_spelling}
use Rattle.commit.specs.Commitments.{transaction_of}
use Rattle.channel.specs.declared.commitments.CommitmentState.{CommitmentState}
use Rattle.channel.specs.States.{State}
use Rattle.channel.specs.Tokens.{contents_of}
use Rattle.safety.specs.Signing.{Collision}

-- a commitment that a channel recorded: the side's own newest, or one of its peer's
pub data IsOfChannel (s : State) (k : CommitmentState) : Type 0 where
  own_newest : slice_get s.mine s.number ≡ Some k → IsOfChannel s k
  of_peers : (n : ℕ) → slice_get s.signed n ≡ Some k → IsOfChannel s k

-- what is hashed for the id of such a commitment's transaction
pub record IsHashedForId (s : State) (bytes : List ℕ) : Type 0 where
  pub commitment : CommitmentState
  pub recorded : IsOfChannel s commitment
  pub is : bytes ≡ stripped_spelling (transaction_of (contents_of s.held.terms commitment))

pub data DuesBreak (s : State) (preimages : List (List ℕ)) : Type 0 where
  -- what is hashed for the ids of two commitments
  by_ids : Collision (Collide sha256d) (IsHashedForId s) (IsHashedForId s) → DuesBreak s preimages
  -- the revocation key of a commitment, and the empty item
  by_empty_item : (k : CommitmentState) → IsOfChannel s k → Collide hash160 (contents_of s.held.terms k).keys.revocation [] → DuesBreak s preimages
  -- the revocation key of a commitment, and a preimage that is known
  by_known_preimage : (k : CommitmentState) → IsOfChannel s k → (x : List ℕ) → Contains preimages x → Collide hash160 (contents_of s.held.terms k).keys.revocation x → DuesBreak s preimages
