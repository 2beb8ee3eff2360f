-- The balance of a node with a book.
use Rattle.std.specs.Prelude.{◌≡◌, ◌≢◌, ◌⊎◌, ℕ, Bool, true, List, [], ◌∷◌, map, reverse, Some, None, slice_get}
use Rattle.chain.specs.Blocks.{Contents as Block}
use Rattle.terms.specs.declared.htlcs.Htlc.{Htlc}
use Rattle.terms.specs.Agreement.{party}
use Rattle.channel.specs.Tokens.{peer_tokens}
use Rattle.safety.specs.Holdings.{Holding, terms_in, peer_in}
use Rattle.safety.specs.Premises.{are_own, none_revokes}
use Rattle.safety.specs.Ledgers.{IsLedger}
use Rattle.safety.specs.Closers.{IsFunded}
use Rattle.balance_laws.specs.Balances.{BalanceIsThere}
use Rattle.book.specs.declared.calls.Entry.{Entry}
use Rattle.book.specs.Books.{ChannelBook}
use Rattle.book_laws.specs.Holdings.{holding_of}
use Rattle.book_laws.specs.Keeping.{IsCareful}
use Rattle.book_laws.specs.Received.{tokens_in}

-- It is there on each channel of which a history takes care, whatever became of the others, whichever HTLCs the node counts on. The chain is a ledger of this channel's outputs, and on the inputs that name them nobody forged
-- a token of the node's. The tokens that came in for its own commitments, with which it closes, are its peer's. Where the node closed the channel itself two things more are asked: no such input shows a token of the revocation key of the newest own commitment, and the HTLC base keys of the channel's sides are two
abbrev pub BooksHaveBalances : Type 0
BooksHaveBalances =
    (history : List Entry) (c : ℕ) (ch : ChannelBook) (blocks : List Block) → IsCareful history c ch
    → (h : Holding) → holding_of history c ch ≡ h → IsLedger (h ∷ []) blocks → are_own (h ∷ []) blocks ≡ true → IsFunded blocks (terms_in h)
    → (h.closed ≡ None) ⊎ ((none_revokes (h ∷ []) blocks ≡ true) × ((party h.state.held.side (terms_in h)).bases.htlc.bytes ≢ (party (peer_in h) (terms_in h)).bases.htlc.bytes))
    → (known : Htlc → Bool) → BalanceIsThere (h ∷ []) blocks h known × (slice_get (tokens_in (reverse history)) c ≡ Some (map (peer_tokens (terms_in h)) h.state.mine))
