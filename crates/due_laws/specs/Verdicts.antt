-- The verdict on a transaction that closes a channel is the right one (BOLT 5, "Unilateral Close Handling").
use Rattle.std.specs.Prelude.{◌≡◌, Some, slice_get}
use Rattle.tx.specs.Fields.{Transaction, unsigned_transaction}
use Rattle.commit.specs.Commitments.{transaction_of}
use Rattle.resolve.specs.declared.verdicts.Verdict.{Verdict}
use Rattle.resolve.specs.declared.verdicts.Verdict.TheVariants.{Ours, Theirs, TheirsNext, Revoked}
use Rattle.resolve.specs.declared.known.Known.{Known}
use Rattle.watch.specs.Verdicts.{verdict_of}
use Rattle.channel.specs.declared.commitments.CommitmentState.{CommitmentState}
use Rattle.channel.specs.States.{State}
use Rattle.channel.specs.Tokens.{contents_of}
use Rattle.worth_laws.specs.Least.{MayClose, revoked, newest, next, own}
use Rattle.safety.specs.Holdings.{Holding, terms_in, KeepsRules}
use Rattle.due_laws.specs.Breaks.{DuesBreak}
use Rattle.due_laws.specs.Knowing.{IsKnownTo}

-- the right verdict, by why the commitment may close the channel
abbrev pub verdict_by : (s : State) (k : CommitmentState) → MayClose s k → Verdict
verdict_by s k (revoked n l at) = Revoked n
verdict_by s k (newest at) = Theirs
verdict_by s k (next e at) = TheirsNext
verdict_by s k (own at) = Ours

-- The verdict on a transaction of a commitment is that one. Where the node's own newest commitment has the same transaction, it is Ours. Two commitments of one number have one transaction if they have no output. They have one
-- too if each pays the same amount to the payment key of its owner's peer, and nothing else, and both sides have one payment base key. No law says that these are all the cases: `as_own` asks for no reason why the two are the same.
-- What is due then is what the node counts on of its own commitment. An output that is to_remote of both is the peer's there, and not due
pub data IsJudged (h : Holding) (known : Known) (t : Transaction) (k : CommitmentState) (m : MayClose h.state k) : Type 0 where
  rightly : verdict_of known t ≡ verdict_by h.state k m → IsJudged h known t k m
  as_own : (o : CommitmentState) → slice_get h.state.mine h.state.number ≡ Some o → transaction_of (contents_of (terms_in h) o) ≡ transaction_of (contents_of (terms_in h) k) → verdict_of known t ≡ Ours
      → IsJudged h known t k m
  broken : DuesBreak h.state known.preimages → IsJudged h known t k m

-- such is the verdict on each commitment that may close a channel, signed or not
abbrev pub ClosersAreJudged : Type 0
ClosersAreJudged =
    (h : Holding) → KeepsRules h → (known : Known) → IsKnownTo h known
    → (t : Transaction) (k : CommitmentState) (m : MayClose h.state k) → unsigned_transaction t ≡ transaction_of (contents_of (terms_in h) k) → IsJudged h known t k m
