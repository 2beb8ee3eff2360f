-- What a book hands out of a revoked commitment, from which its penalties are built.
use Rattle.std.specs.Prelude.{◌≡◌, ℕ, true, false, not, nat_lt, List, length, Option, Some, None, slice_get}
use Rattle.terms.specs.Sides.{other}
use Rattle.claim.specs.Claims.{ClaimParts}
use Rattle.penalty.specs.declared.states.RevokedState.{RevokedState}
use Rattle.penalty.specs.Claimable.{claimable_of}
use Rattle.penalty.specs.Sets.{AreClaimsOn}
use Rattle.penalty.specs.States.{HasParts}
use Rattle.channel.specs.declared.commitments.CommitmentState.{CommitmentState}
use Rattle.channel.specs.States.{State}
use Rattle.book.specs.declared.errors.KeepError.{KeepError}
use Rattle.book.specs.declared.errors.KeepError.TheVariants.{NotRevoked, AlreadyKept, NoSuchChannel}
use Rattle.book.specs.Penalties.{is_penalty_set}
use Rattle.book.specs.Books.{ChannelBook, is_kept}
use Rattle.book.specs.Replies.{if_so}

-- why nothing is kept for a commitment of the peer, for any claims: NoSuchChannel, NotRevoked, AlreadyKept
abbrev pub early_keep_refusal : ℕ → Option ChannelBook → Option KeepError
early_keep_refusal n None = Some NoSuchChannel
early_keep_refusal n (Some ch) = if_so (not (nat_lt n (length ch.state.secrets))) NotRevoked (if_so (is_kept ch.kept n) AlreadyKept None)

-- the state is the peer's commitment of a number, with the secret that revokes it
pub record IsStateAt (s : State) (n : ℕ) (state : RevokedState) : Type 0 where
  pub commitment : CommitmentState
  pub secret : List ℕ
  pub signed : slice_get s.signed n ≡ Some commitment
  pub number_is : commitment.number ≡ n
  pub revealed : slice_get s.secrets n ≡ Some secret
  pub parts : HasParts s.held.terms commitment.view (other s.held.side) commitment.number secret state

-- the channel is there, and the state is of a number whose penalties are not kept; the claims on what the state lets claim are the penalty set
pub record IsRevokedIn (n : ℕ) (channel : Option ChannelBook) (state : RevokedState) : Type 0 where
  pub ch : ChannelBook
  pub there : channel ≡ Some ch
  pub revoked : nat_lt n (length ch.state.secrets) ≡ true
  pub unkept : is_kept ch.kept n ≡ false
  pub state_is : IsStateAt ch.state n state
  pub sets : (claims : List ClaimParts) → AreClaimsOn (claimable_of state) claims → is_penalty_set ch.state n claims ≡ true
