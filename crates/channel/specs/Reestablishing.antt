-- What a side says and gives again once its connection was cut (BOLT 2, "Message Retransmission", with `option_static_remotekey`).
use Rattle.std.specs.Prelude.{◌≡◌, ℕ, zero, suc, ◌+◌, ◌-◌, Bool, true, false, not, ◌&&◌, nat_lt, nat_le, ◌==◌, if◌then◌else◌, List, [], ◌∷◌, ◌++◌, length, drop, map, replicate, slice_get, Option, unwrap_or}
use Rattle.std.specs.Str.{bytes_eq}
use Rattle.updates.specs.declared.changes.Update.{Update}
use Rattle.updates.specs.declared.errors.ChannelError.{ChannelError}
use Rattle.updates.specs.declared.errors.ChannelError.TheVariants.{WrongSecret, PeerBehind, NeverSigned}
use Rattle.updates.specs.Stages.{unacknowledged}
use Rattle.updates.specs.Refusals.{Test, first_refusal}
use Rattle.updates.specs.Steady.{holding_committed}
use Rattle.channel.specs.declared.limits.TheConstants.{LAST_NUMBER}
use Rattle.channel.specs.declared.messages.Message.{Message}
use Rattle.updates.specs.declared.messages.PeerStep.TheVariants.{Update as Updated, CommitmentSigned}
use Rattle.channel.specs.declared.messages.Message.TheVariants.{Step, RevokeAndAck}
use Rattle.channel.specs.declared.reestablish.Reestablish.{Reestablish}
use Rattle.channel.specs.declared.reestablish.Again.{Again}
use Rattle.channel.specs.declared.reestablish.Again.TheVariants.{Send, Behind}
use Rattle.channel.specs.Points.{secret_at, point_at}
use Rattle.channel.specs.States.{Signing, State}

-- the state once its connection is cut
abbrev pub forgotten : State → State
forgotten s = record s { held = holding_committed s.held }

-- the 32 zeros that stand for the secret before the first
abbrev pub no_secret : List ℕ
no_secret = replicate 32 0

-- what a side says first on the next connection: the numbers of the signature and of the revocation that it expects next, and the last secret that came
abbrev pub hello : State → Reestablish
hello s = record {
  next_commitment = s.number + 1;
  next_revocation = s.peer_number;
  last_secret = unwrap_or (slice_get s.secrets (length s.secrets - 1)) no_secret;
}

-- the number of the newest commitment that this side signed
abbrev pub last_signed : State → ℕ
last_signed s = if s.awaiting then s.peer_number + 1 else s.peer_number

-- the last secret that a peer has which expects this revocation next
abbrev pub secret_before : List ℕ → ℕ → List ℕ
secret_before seed zero = no_secret
secret_before seed (suc n) = secret_at seed n

-- the peer has the secret of this side's newest commitment, so this side was put back to what it knew before
abbrev pub is_behind : State → Reestablish → Bool
is_behind s r = nat_lt s.number r.next_revocation

-- the peer expects a revocation or a signature that it had, or a signature that was never given
abbrev pub number_tests : State → Reestablish → List Test
number_tests s r =
    (nat_lt (r.next_revocation + 1) s.number, PeerBehind)
    ∷ (nat_le r.next_commitment s.peer_number, PeerBehind)
    ∷ (nat_lt (last_signed s + 1) r.next_commitment, NeverSigned) ∷ []

-- the secret is tested first, so that nobody is told to be behind by a peer without it. A side that is behind tests nothing else
abbrev pub hello_tests : State → Reestablish → List Test
hello_tests s r =
    (nat_lt (LAST_NUMBER + 1) r.next_revocation, WrongSecret)
    ∷ (not (bytes_eq r.last_secret (secret_before s.seed r.next_revocation)), WrongSecret)
    ∷ (if is_behind s r then [] else number_tests s r)

abbrev pub hello_refusal : State → Reestablish → Option ChannelError
hello_refusal s r = first_refusal (hello_tests s r)

-- whether the peer lacks the newest signature, and whether it lacks the newest revocation
abbrev pub lacks_signature : State → Reestablish → Bool
lacks_signature s r = s.awaiting && r.next_commitment == s.peer_number + 1

abbrev pub lacks_revocation : State → Reestablish → Bool
lacks_revocation s r = r.next_revocation + 1 == s.number

-- the message of an update
abbrev pub update_message : Update → Message
update_message u = Step (Updated u)

-- the newest signature, after the updates that it covers and no earlier one did; and the newest revocation
abbrev pub signature_again : Signing → State → List Message
signature_again tokens_of s = map update_message (unacknowledged s.held.own)
    ++ map (λ c. Step (CommitmentSigned (tokens_of s.held.terms c))) (drop (s.peer_number + 1) s.signed)

abbrev pub revocation_again : State → List Message
revocation_again s = RevokeAndAck (record { secret = secret_at s.seed (s.number - 1); next_point = point_at s.seed (s.number + 1) }) ∷ []

-- the two in the order in which they first went out
abbrev pub in_order : Bool → List Message → List Message → List Message
in_order true signature revocation = signature ++ revocation
in_order false signature revocation = revocation ++ signature

-- what goes out again
abbrev pub resends : Signing → State → Reestablish → List Message
resends tokens_of s r = in_order s.revoked_last
    (if lacks_signature s r then signature_again tokens_of s else [])
    (if lacks_revocation s r then revocation_again s else [])

-- the answer to a hello that nothing refuses
abbrev pub IsAgain : Signing → State → Reestablish → Again → Type 0
IsAgain tokens_of s r (Send messages) = (is_behind s r ≡ false) × (messages.items ≡ resends tokens_of s r)
IsAgain tokens_of s r Behind = is_behind s r ≡ true
