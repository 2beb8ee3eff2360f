-- Nothing that a node counts on stands after a close without being told.
use Rattle.std.specs.Prelude.{◌≡◌, ◌⊎◌, ℕ, Bool, List, map, Some}
use Rattle.std.specs.List.{Contains}
use Rattle.tx.specs.Fields.{unsigned_transaction}
use Rattle.commit.specs.Commitments.{transaction_of}
use Rattle.penalty.specs.Claimable.{Claimable}
use Rattle.penalty.specs.Sets.{claimed_by}
use Rattle.resolve.specs.declared.verdicts.Verdict.TheVariants.{Ours}
use Rattle.resolve.specs.declared.known.Known.{Known}
use Rattle.watch.specs.Verdicts.{verdict_of}
use Rattle.sights.specs.declared.sighted.Sighted.{Sighted}
use Rattle.sights.specs.declared.telling.Told.{Told}
use Rattle.sights.specs.Telling.{close_of, IsTold}
use Rattle.channel.specs.declared.commitments.CommitmentState.{CommitmentState}
use Rattle.channel.specs.Tokens.{contents_of}
use Rattle.worth_laws.specs.Counted.{known_by}
use Rattle.worth_laws.specs.Least.{MayClose, counted_by}
use Rattle.safety.specs.Holdings.{Holding, terms_in}
use Rattle.due_laws.specs.Breaks.{DuesBreak}
use Rattle.due_laws.specs.Books.{AreInHand}

-- Where what is due is in hand and a commitment closed the channel, each output that the node counts on is told, whichever HTLC transactions stand. The verdict is another only where the node's own newest commitment has the same
-- transaction
abbrev pub CountedAreTold : Type 0
CountedAreTold =
    (h : Holding) (known : Known) → AreInHand h known → (ss : List Sighted) (s : Sighted) → close_of known.terms.funding ss ≡ Some s
    → (k : CommitmentState) (m : MayClose h.state k) → unsigned_transaction s.tx ≡ transaction_of (contents_of (terms_in h) k) → (told : List Told) → IsTold ss known told
    → (stands : ℕ → Bool) (o : Claimable) → Contains (counted_by (known_by known.preimages) stands h.state k m) o
    → Contains (map (λ x. claimed_by x.claim) told) o ⊎ (verdict_of known s.tx ≡ Ours) ⊎ DuesBreak h.state known.preimages
