-- The channel of two rounds awaits a third revocation and misses no penalties. Before it kept the second ones it awaited none, and missed them.
use Rattle.std.proofs.Common.{◌≡◌, true, false, true≢false, List, [], ◌∷◌, ◌++◌, take, Some, None, Err, refl, sym}
use Rattle.std.proofs.lemmas.Option.{none-some}
use Rattle.keys.specs.Derivation.{point_of}
use Rattle.updates.specs.declared.changes.Update.TheVariants.{Add}
use Rattle.updates.specs.declared.changes.OwnUpdate.TheVariants.{Offer}
use Rattle.channel.specs.States.{after_update, after_sign}
use Rattle.channel.specs.Tokens.{peer_tokens}
use Rattle.book.specs.declared.calls.Step.TheVariants.{Own}
use Rattle.book.specs.declared.calls.Call.TheVariants.{Step as Stepping, Sign}
use Rattle.book.specs.declared.calls.Entry.{Entry}
use Rattle.book.specs.declared.errors.SignError.TheVariants.{PenaltiesMissing}
use Rattle.book.specs.Books.{ChannelBook, first_missing, replay}
use Rattle.book.specs.Penalties.{PenaltySetsAreExact}
use Rattle.book.specs.Replies.{signed, reply_of}
use Rattle.book.specs.Accepted.{all_accepted, AcceptedMeans}
use Rattle.book_laws.specs.Awaiting.{AwaitsWithAllKept, AwaitingMissNone}
use Rattle.book_laws.proofs.Samples.{entry}
use Rattle.book_laws.proofs.ReceivedExamples.{tokens_same}
use Rattle.book_laws.proofs.RoundsExamples.{secret_0, secret_1, hash, htlc, opening, tokens_1, tokens_2, revoked_1, received_3, history, book, same, not_foreign, first_set, taken}

-- two commitments of the peer are revoked, and the penalties of both are kept
-- yes: AwaitsWithAllKept
awaits : (received_3.awaiting ≡ true) × AwaitsWithAllKept (book None)
awaits = (refl, λ e. refl)

by_law : AwaitingMissNone → AcceptedMeans → PenaltySetsAreExact → first_missing (book None) ≡ None
by_law law accepted sets = law peer_tokens history 0 (book None) ((accepted.accepted_exactly peer_tokens history).1 (taken sets)) refl refl

-- ---- the second revocation came, and its penalties are not kept yet

abbrev unkept : List Entry
unkept = take 10 history

abbrev unkept_book : ChannelBook
unkept_book = record { state = revoked_1; kept = 0 ∷ []; closed = None }

unkept_there : replay unkept ≡ unkept_book ∷ []
unkept_there = refl

unkept_taken : PenaltySetsAreExact → all_accepted peer_tokens unkept ≡ true
unkept_taken law = rw (same opening.token, tokens_same tokens_1, tokens_same tokens_2, same (point_of secret_0), same (point_of secret_1), not_foreign.0, not_foreign.1, first_set law) refl

unkept_misses : first_missing unkept_book ≡ Some 1
unkept_misses = refl

-- it awaits no revocation
-- yes: AwaitsWithAllKept
awaits_none : AwaitsWithAllKept unkept_book
awaits_none e = absurd (true≢false (sym e))

-- and signs nothing
unsigned : reply_of peer_tokens unkept (Sign 0) ≡ signed (Err (PenaltiesMissing 1))
unsigned = refl

-- ---- entries that no book has: it signs all the same

abbrev hasty : List Entry
hasty = unkept ++ entry 1 (Stepping 0 (Own (Offer 1200700 (hash 10) 5))) ∷ entry 1 (Sign 0) ∷ []

abbrev hasty_book : ChannelBook
hasty_book = record { state = after_sign (after_update (Add (htlc 1 1200700 10 5)) revoked_1); kept = 0 ∷ []; closed = None }

hasty_there : replay hasty ≡ hasty_book ∷ []
hasty_there = refl

hasty_refused : all_accepted peer_tokens hasty ≡ false
hasty_refused = refl

-- no: AwaitsWithAllKept
hasty_misses : AwaitsWithAllKept hasty_book → ⊥
hasty_misses h = none-some 1 (sym (h refl))
