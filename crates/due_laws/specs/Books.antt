-- What is due to a node with a book is in hand.
use Rattle.std.specs.Prelude.{◌≡◌, ◌⊎◌, ℕ, List, ◌∷◌, length, Some, None, slice_get}
use Rattle.std.specs.List.{AllByRecursion}
use Rattle.tx.specs.Parts.{Output}
use Rattle.tx.specs.Fields.{Transaction, unsigned_transaction}
use Rattle.chain.specs.Blocks.{Contents as Block, empty_block}
use Rattle.chain.specs.Checks.{transaction_refusal}
use Rattle.claim.specs.Claims.{ClaimParts}
use Rattle.filling.specs.Filling.{filling_of}
use Rattle.commit.specs.Commitments.{transaction_of}
use Rattle.resolve.specs.declared.known.Known.{Known}
use Rattle.resolve.specs.Due.{due_of}
use Rattle.resolve.specs.Numbered.{AreNumbered}
use Rattle.channel.specs.declared.commitments.CommitmentState.{CommitmentState}
use Rattle.channel.specs.States.{Signing}
use Rattle.channel.specs.Tokens.{contents_of}
use Rattle.worth_laws.specs.Counted.{known_by}
use Rattle.worth_laws.specs.Least.{MayClose, counted_by}
use Rattle.safety.specs.Passing.{HasTwinOn}
use Rattle.safety.specs.Holdings.{Holding, terms_in, IsOnRecorded}
use Rattle.book.specs.declared.calls.Entry.{Entry}
use Rattle.book.specs.Accepted.{IsHistory}
use Rattle.book.specs.Books.{ChannelBook, is_kept, replay}
use Rattle.book.specs.Knowing.{IsKnownOf}
use Rattle.book_laws.specs.Holdings.{holding_of}
use Rattle.book_laws.specs.Keeping.{IsCareful}
use Rattle.due_laws.specs.Breaks.{DuesBreak}
use Rattle.due_laws.specs.Verdicts.{verdict_by, IsJudged}
use Rattle.due_laws.specs.Counting.{AreExactly}
use Rattle.due_laws.specs.Filling.{IsDueBy, CanFillAllSlots}
use Rattle.due_laws.specs.Passing.{MayBeFilled, KeepLimits}

-- What is due in a channel is in hand, by what is known of it. The verdict on whatever may close it is right, and what is due by it is exactly what is counted. The signer can fill each claim, and a filling passes as a
-- whole
pub record AreInHand (h : Holding) (known : Known) : Type 0 where
  pub judged : (t : Transaction) (k : CommitmentState) (m : MayClose h.state k) → unsigned_transaction t ≡ transaction_of (contents_of (terms_in h) k) → IsJudged h known t k m
  pub counted : (k : CommitmentState) (m : MayClose h.state k) → AreExactly (due_of known (verdict_by h.state k m)) (λ stands. counted_by (known_by known.preimages) stands h.state k m) ⊎ DuesBreak h.state known.preimages
  pub fillable : (claims : List ClaimParts) → AllByRecursion (IsDueBy known) claims → CanFillAllSlots h known claims
  pub pass : (blocks : List Block) (claims : List ClaimParts) (outputs : List Output) → MayBeFilled known blocks claims outputs → KeepLimits blocks (filling_of claims outputs known.preimages)
      → (transaction_refusal (empty_block ∷ blocks) (filling_of claims outputs known.preimages) ≡ None) ⊎ HasTwinOn blocks (filling_of claims outputs known.preimages)

-- So it is in each channel of which a history of a book's calls takes care, by what the book tells of it with any preimages. Of values it says what their types say: the i-th revoked commitment has number i, and a preimage
-- has 32 bytes
abbrev pub BooksHaveDues : Type 0
BooksHaveDues =
    (history : List Entry) (c : ℕ) (ch : ChannelBook) → IsCareful history c ch
    → (preimages : List (List ℕ)) (known : Known) → IsKnownOf ch.state (is_kept ch.kept) preimages known → AreNumbered known.revoked → AllByRecursion (λ x. length x ≡ 32) known.preimages
    → AreInHand (holding_of history c ch) known

-- A claim that is due by what a book tells of a channel is on what a recorded commitment of the channel gives its node, over every history of its calls. So a node that releases just such claims takes the care that
-- `IsCareful` asks of releases
abbrev pub BookDuesAreRecorded : Type 0
BookDuesAreRecorded =
    (tokens_of : Signing) (history : List Entry) → IsHistory tokens_of history → (c : ℕ) (ch : ChannelBook) → slice_get (replay history) c ≡ Some ch
    → (preimages : List (List ℕ)) (known : Known) → IsKnownOf ch.state (is_kept ch.kept) preimages known → AreNumbered known.revoked → AllByRecursion (λ x. length x ≡ 32) known.preimages
    → (x : ClaimParts) → IsDueBy known x → IsOnRecorded (holding_of history c ch) x
