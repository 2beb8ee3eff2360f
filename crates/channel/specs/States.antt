-- The state of one side of a channel, its refusals in their order, and the state after its calls and received messages (BOLT 2, "Normal Operation").
use Rattle.std.specs.Prelude.{ℕ, ◌+◌, Bool, true, false, not, ◌&&◌, ◌||◌, nat_le, ◌==◌, List, [], ◌∷◌, ◌++◌, Option}
use Rattle.std.specs.List.{list_any}
use Rattle.std.specs.Str.{bytes_eq}
use lib.Pointwise.{pointwise}
use Rattle.keys.specs.declared.compressed.Key.{Key}
use Rattle.keys.specs.Derivation.{point_of}
use Rattle.terms.specs.declared.sides.Side.{Side}
use Rattle.terms.specs.declared.agreement.Terms.{Terms}
use Rattle.terms.specs.Sides.{other}
use Rattle.updates.specs.declared.changes.Update.{Update}
use Rattle.updates.specs.declared.changes.Update.TheVariants.{Add, Fulfil as Fulfilling, Fail as Failing, Fee}
use Rattle.updates.specs.declared.changes.OwnUpdate.{OwnUpdate}
use Rattle.updates.specs.declared.changes.OwnUpdate.TheVariants.{Offer, Fulfil, Fail, SetFee}
use Rattle.updates.specs.declared.errors.ChannelError.{ChannelError}
use Rattle.updates.specs.declared.errors.ChannelError.TheVariants.{NoUpdates, BadSignature, WrongSecret, NotYourTurn, AlreadyFulfilled}
use Rattle.updates.specs.Views.{view_by}
use Rattle.updates.specs.Stages.{Stages}
use Rattle.updates.specs.Refusals.{Test, first_refusal, covers_nothing}
use Rattle.updates.specs.Steady.{Held, next_htlc, own_tests, their_tests, holding_none, holding_made, holding_signed, holding_update, holding_signature, holding_revocation}
use Rattle.channel.specs.declared.commitments.CommitmentState.{CommitmentState}
use Rattle.updates.specs.declared.messages.Tokens.{Tokens}
use Rattle.channel.specs.declared.messages.Message.{Message}
use Rattle.updates.specs.declared.messages.PeerStep.TheVariants.{Update as Updated, CommitmentSigned}
use Rattle.channel.specs.declared.messages.Message.TheVariants.{Step, RevokeAndAck}
use Rattle.channel.specs.declared.limits.TheConstants.{LAST_NUMBER}
use Rattle.channel.specs.Points.{secret_at, point_at, is_foreign}

-- the tokens of the owner's peer on a commitment and on its HTLC transactions
abbrev pub Signing : Type 0
Signing = Terms → CommitmentState → Tokens

-- the state of a side
pub record State : Type 0 where
  pub held : Held  -- the terms, which side it is, and the updates
  pub seed : List ℕ  -- of its signer
  pub awaiting : Bool  -- a signature given out awaits its revocation
  pub number : ℕ  -- of this side's newest commitment
  pub peer_number : ℕ  -- of the peer's newest commitment that revoked the one before
  pub point : Key  -- the peer's point for that number
  pub next_point : Key  -- and for the number after it
  pub secrets : List (List ℕ)  -- the peer's, by number
  pub mine : List CommitmentState  -- this side's commitments that the peer signed, by number
  pub signed : List CommitmentState  -- the peer's commitments that were signed, by number
  pub revoked_last : Bool  -- of the newest signature and the newest revocation that this side gave, the revocation went out last
  pub fulfilled : List ℕ  -- the ids of the peer's HTLCs that this side ever fulfilled, also where the fulfilment was forgotten

-- commitment 0, which pays the balances at the start
abbrev pub first_of : Terms → Side → Key → CommitmentState
first_of terms owner point =
    record { view = view_by terms owner [] []; owner = owner; number = 0; point = point }

-- a side of a new channel, with the peer's points for 0 and 1
abbrev pub state_at_opening : Terms → Side → List ℕ → Key → Key → State
state_at_opening terms side seed point next_point = record {
  held = holding_none terms side;
  seed = seed;
  awaiting = false;
  number = 0;
  peer_number = 0;
  point = point;
  next_point = next_point;
  secrets = [];
  mine = first_of terms side (point_at seed 0) ∷ [];
  signed = first_of terms (other side) point ∷ [];
  revoked_last = false;
  fulfilled = [];
}

-- the commitment that a signature of `by` is for: it has all of the signer's updates, and those of the other side that the signer's revocation acknowledged
abbrev pub next_commitment : Terms → Side → Stages → Stages → ℕ → Key → CommitmentState
next_commitment t by s o n p =
    record { view = view_by t by s.known o.past_receiver; owner = other by; number = n; point = p }

-- the peer's next commitment, as this side signs it
abbrev pub peers_next : State → CommitmentState
peers_next s = next_commitment s.held.terms s.held.side s.held.own s.held.theirs
    (s.peer_number + 1) s.next_point

-- one's own next commitment, which the peer's signature has to be for
abbrev pub own_next : State → CommitmentState
own_next s = next_commitment s.held.terms (other s.held.side) s.held.theirs s.held.own
    (s.number + 1) (point_at s.seed (s.number + 1))

abbrev pub all_eq : List (List ℕ) → List (List ℕ) → Bool
all_eq xs ys = pointwise bytes_eq xs ys

-- the same token for the commitment, and the same number of tokens for HTLC transactions, the same ones in order
abbrev pub same_tokens : Tokens → Tokens → Bool
same_tokens s t = bytes_eq s.commitment t.commitment && all_eq s.htlcs t.htlcs

-- a signature is not given out while another awaits its revocation, nor past the last number, nor where it covers nothing
abbrev pub sign_tests : State → List Test
sign_tests s = (s.awaiting || nat_le LAST_NUMBER s.peer_number, NotYourTurn) ∷ (covers_nothing s.held.own s.held.theirs, NoUpdates) ∷ []

abbrev pub receive_tests : Signing → State → Message → List Test
receive_tests tokens_of s (Step (Updated u)) = their_tests s.held u
receive_tests tokens_of s (Step (CommitmentSigned tokens)) = (nat_le LAST_NUMBER s.number, NotYourTurn)
    ∷ (covers_nothing s.held.theirs s.held.own, NoUpdates)
    ∷ (not (same_tokens tokens (tokens_of s.held.terms (own_next s))), BadSignature) ∷ []
receive_tests tokens_of s (RevokeAndAck revocation) =
    (not s.awaiting, NotYourTurn) ∷ (not (bytes_eq (point_of revocation.secret) s.point.bytes), WrongSecret)
    ∷ (is_foreign s.secrets revocation.secret, WrongSecret) ∷ []

-- an HTLC that this side ever fulfilled is not failed, since its preimage is out
abbrev pub repeat_tests : List ℕ → Update → List Test
repeat_tests fulfilled (Failing id) = (list_any (λ i. i == id) fulfilled, AlreadyFulfilled) ∷ []
repeat_tests fulfilled u = []

abbrev pub repeat_refusal : State → Update → Option ChannelError
repeat_refusal s u = first_refusal (repeat_tests s.fulfilled u)

-- the refusals of an update of one's own, of a signature to be given out, and of a received message
abbrev pub update_refusal : State → Update → Option ChannelError
update_refusal s u = first_refusal (own_tests s.held u ++ repeat_tests s.fulfilled u)

abbrev pub sign_refusal : State → Option ChannelError
sign_refusal s = first_refusal (sign_tests s)

abbrev pub receive_refusal : Signing → State → Message → Option ChannelError
receive_refusal tokens_of s m = first_refusal (receive_tests tokens_of s m)

-- the update that a side in this state makes: an offer has the next id
abbrev pub update_of : State → OwnUpdate → Update
update_of s (Offer amount_msat hash expiry_height) = Add (next_htlc s.held.own amount_msat hash expiry_height)
update_of s (Fulfil id preimage) = Fulfilling id preimage
update_of s (Fail id) = Failing id
update_of s (SetFee feerate_per_kw) = Fee feerate_per_kw

-- the state after an update of one's own, after a signature given out, and after a received message; a received signature is answered at once by a
-- revocation
abbrev pub fulfilled_after : Update → List ℕ → List ℕ
fulfilled_after (Fulfilling id preimage) fulfilled = fulfilled ++ id ∷ []
fulfilled_after u fulfilled = fulfilled

abbrev pub after_update : Update → State → State
after_update u s =
    record s { held = holding_made u s.held; fulfilled = fulfilled_after u s.fulfilled }

abbrev pub after_sign : State → State
after_sign s = record s {
  held = holding_signed s.held;
  awaiting = true;
  signed = s.signed ++ peers_next s ∷ [];
  revoked_last = false;
}

abbrev pub after : State → Message → State
after s (Step (Updated u)) = record s { held = holding_update u s.held }
after s (Step (CommitmentSigned tokens)) = record s {
  held = holding_signature s.held;
  number = s.number + 1;
  mine = s.mine ++ own_next s ∷ [];
  revoked_last = true;
}
after s (RevokeAndAck revocation) = record s {
  held = holding_revocation s.held;
  awaiting = false;
  peer_number = s.peer_number + 1;
  point = s.next_point;
  next_point = revocation.next_point;
  secrets = s.secrets ++ revocation.secret ∷ [];
}

-- the message of a signature
abbrev pub signature_message : Signing → State → Message
signature_message tokens_of s = Step (CommitmentSigned (tokens_of s.held.terms (peers_next s)))

-- the messages that answer a received one: a signature is answered by the secret of the commitment that it replaces, and the point for the number after the
-- next
abbrev pub answers : State → Message → List Message
answers s (Step (CommitmentSigned tokens)) =
    RevokeAndAck (record { secret = secret_at s.seed s.number; next_point = point_at s.seed (s.number + 2) }) ∷ []
answers s (Step (Updated u)) = []
answers s (RevokeAndAck revocation) = []
