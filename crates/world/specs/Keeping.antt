-- Penalties that a side keeps.
use Rattle.std.specs.Prelude.{◌≡◌, ℕ, true, false, not, nat_lt, List, length, Option, Some, None, Ok}
use Rattle.claim.specs.Claims.{ClaimParts}
use Rattle.book.specs.declared.calls.Call.TheVariants as calls
use Rattle.book.specs.declared.errors.KeepError.TheVariants.{NotRevoked, AlreadyKept}
use Rattle.book.specs.Penalties.{is_penalty_set}
use Rattle.book.specs.Books.{ChannelBook, is_kept}
use Rattle.book.specs.Replies.{kept, if_so}
use Rattle.world.specs.declared.errors.EventError.{EventError}
use Rattle.world.specs.declared.errors.EventError.TheVariants.{NoSuchChannel, Keep}
use Rattle.world.specs.Worlds.{Node, channel_of, answer_to, after_call}

-- NoSuchChannel, NotRevoked, AlreadyKept
abbrev pub keep_refusal : ℕ → Option ChannelBook → Option EventError
keep_refusal number None = Some NoSuchChannel
keep_refusal number (Some ch) = if_so (not (nat_lt number (length ch.state.secrets))) (Keep NotRevoked) (if_so (is_kept ch.kept number) (Keep AlreadyKept) None)

-- the claims are the penalty set of the peer's commitment of a number, which is revoked and whose penalties are not kept
pub record IsSetFor (n : Node) (channel number : ℕ) (claims : List ClaimParts) : Type 0 where
  pub ch : ChannelBook
  pub there : channel_of n channel ≡ Some ch
  pub revoked : nat_lt number (length ch.state.secrets) ≡ true
  pub unkept : is_kept ch.kept number ≡ false
  pub set : is_penalty_set ch.state number claims ≡ true

-- the side's book keeps the set
pub record IsKept (n : Node) (channel number : ℕ) (done : Node) : Type 0 where
  pub claims : List ClaimParts
  pub set : IsSetFor n channel number claims
  pub answer : answer_to n (calls.Keep channel number claims) ≡ kept (Ok tt)
  pub after : done ≡ after_call (calls.Keep channel number claims) n
