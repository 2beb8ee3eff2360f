-- What is due in the channel of two rounds of `book_laws` is in hand, by the law on books: what its book tells, with the preimages of the two HTLCs that were offered to the node. So it is at each of its four ends: the verdict on
-- the commitment that closed it is right, and what is due by it is exactly what is counted.
use Rattle.std.proofs.Common.{◌≡◌, ℕ, zero, suc, true, List, [], ◌∷◌, Some, None, refl, sym, ap, ◌∙◌, arith, lit≤, lit<}
use Rattle.std.specs.Prelude.{◌⊎◌}
use Rattle.std.proofs.lemmas.Option.{same_Some, slice_get_past}
use Rattle.tx.specs.Fields.{unsigned_transaction}
use Rattle.keys.specs.declared.compressed.Key.{Key}
use Rattle.terms.specs.declared.sides.Side.TheVariants.{A, B}
use Rattle.terms.specs.declared.views.View.{View}
use Rattle.commit.specs.Commitments.{id_of, transaction_of}
use Rattle.penalty.specs.declared.states.RevokedState.{RevokedState}
use Rattle.penalty.specs.Claimable.{commitment_in}
use Rattle.resolve.specs.declared.known.RevokedCommitment.{RevokedCommitment}
use Rattle.resolve.specs.declared.known.SignedCommitment.{SignedCommitment}
use Rattle.resolve.specs.declared.known.Known.{Known}
use Rattle.resolve.specs.Due.{due_of}
use Rattle.resolve.specs.Numbered.{AreNumbered}
use Rattle.channel.specs.declared.commitments.CommitmentState.{CommitmentState}
use Rattle.channel.specs.Points.{point_key, point_at}
use Rattle.channel.specs.Rights.{rights_of}
use Rattle.channel.specs.States.{first_of, own_next, peers_next}
use Rattle.channel.specs.Tokens.{contents_of, peer_tokens}
use Rattle.worth_laws.specs.Counted.{known_by}
use Rattle.worth_laws.specs.Least.{MayClose, revoked as may_revoked, newest as may_newest, next as may_next, own as may_own, counted_by}
use Rattle.safety.specs.Holdings.{Holding}
use Rattle.safety.proofs.Lists.{none_some}
use Rattle.book.specs.Accepted.{AcceptedMeans}
use Rattle.book.specs.Books.{is_kept}
use Rattle.book.specs.Knowing.{IsKnownOf}
use Rattle.book.specs.Penalties.{PenaltySetsAreExact}
use Rattle.book.specs.Signers.{RefusalsAreFound}
use Rattle.book_laws.specs.Holdings.{holding_of}
use Rattle.book_laws.proofs.RoundsExamples.{seed, secret_0, secret_1, terms, offered, signed_1, revoked_0, signed_2, offered_more, signed_3, received_3, history, book, careful}
use Rattle.book_laws.proofs.RoundsChains.{closing, revoked, newest, next, own}
use Rattle.book_laws.proofs.RoundsReleases.{preimages, closed_history, careful_too}
use Rattle.due_laws.specs.Books.{AreInHand, BooksHaveDues}
use Rattle.due_laws.specs.Breaks.{DuesBreak}
use Rattle.due_laws.specs.Counting.{AreExactly}
use Rattle.due_laws.specs.Verdicts.{verdict_by, IsJudged}

-- an own commitment with the peer's tokens
abbrev signed_with : View → ℕ → Key → SignedCommitment
signed_with view number point =
    let k : CommitmentState = record { view = view; owner = A; number = number; point = point } in
    record { commitment = contents_of terms k; terms = terms; owner = A; token = (peer_tokens terms k).commitment; htlc_tokens = (peer_tokens terms k).htlcs; funding = refl; signed = refl }

abbrev signed : CommitmentState → SignedCommitment
signed k = signed_with k.view k.number k.point

-- the two that the peer revoked
abbrev opened_state : RevokedState
opened_state = record { terms = terms; view = (first_of terms B (point_key secret_0)).view; owner = B; number = 0; secret = secret_0; few = lit≤ tt; heights = refl; whole = refl }

abbrev second_state : RevokedState
second_state = record { terms = terms; view = (peers_next offered).view; owner = B; number = 1; secret = secret_1; few = lit≤ tt; heights = refl; whole = refl }

abbrev revoked_with : RevokedState → RevokedCommitment
revoked_with state = record { state = state; id = id_of (commitment_in state); is_kept = true; id_is = refl }

abbrev both_revoked : List RevokedCommitment
both_revoked = revoked_with opened_state ∷ revoked_with second_state ∷ []

two_numbered : AreNumbered both_revoked
two_numbered zero r e = ap (λ (x : RevokedCommitment). x.state.number) (sym (same_Some (revoked_with opened_state) r e))
two_numbered (suc zero) r e = ap (λ (x : RevokedCommitment). x.state.number) (sym (same_Some (revoked_with second_state) r e))
two_numbered (suc (suc i)) r e = absurd (none_some r (sym (slice_get_past both_revoked (suc (suc i)) (omega arith)) ∙ e))

-- the patterns are any
abbrev known_with : Known → Known
known_with any = record any {
  terms = terms;
  side = A;
  signer = rights_of received_3;
  own = signed (own_next signed_3);
  older = signed (first_of terms A (point_at seed 0)) ∷ signed (own_next signed_1) ∷ signed (own_next signed_2) ∷ [];
  theirs = contents_of terms (peers_next revoked_0);
  next = Some (contents_of terms (peers_next offered_more));
  revoked = both_revoked;
  preimages = preimages;
}

is_known : (any : Known) → IsKnownOf received_3 (is_kept (book None).kept) preimages (known_with any)
is_known any = record {
  terms_are = refl;
  side_is = refl;
  seed_is = refl;
  rights_are = λ key. ((λ m. m), (λ m. m));
  own_is = refl;
  older_are = refl;
  theirs_is = refl;
  next_is = refl;
  revoked_are = refl;
  preimages_are = refl;
}

-- but for witnesses, what closes the channel is the commitment
unsigned : (k : CommitmentState) → unsigned_transaction (closing k) ≡ transaction_of (contents_of terms k)
unfolding transaction_of
unsigned k = refl

-- at an end: the verdict, and what is due
abbrev IsRightAt : (h : Holding) → Known → (k : CommitmentState) → MayClose h.state k → Type 0
IsRightAt h known k m = IsJudged h known (closing k) k m × (AreExactly (due_of known (verdict_by h.state k m)) (λ stands. counted_by (known_by known.preimages) stands h.state k m) ⊎ DuesBreak h.state known.preimages)

module _ (means : AcceptedMeans) (sets : PenaltySetsAreExact) (found : RefusalsAreFound) (law : BooksHaveDues) (any : Known) where
  in_hand : AreInHand (holding_of history 0 (book None)) (known_with any)
  in_hand = law history 0 (book None) (careful means sets) preimages (known_with any) (is_known any) two_numbered (refl, (refl, tt))

  -- the node closed it with its own, and released its HTLC transactions
  in_hand_too : AreInHand (holding_of closed_history 0 (book (Some 3))) (known_with any)
  in_hand_too = law closed_history 0 (book (Some 3)) (careful_too means sets found) preimages (known_with any) (is_known any) two_numbered (refl, (refl, tt))

  after_revoked : IsRightAt (holding_of history 0 (book None)) (known_with any) revoked (may_revoked 1 (lit< tt) refl)
  after_revoked = (in_hand.judged (closing revoked) revoked (may_revoked 1 (lit< tt) refl) (unsigned revoked), in_hand.counted revoked (may_revoked 1 (lit< tt) refl))

  after_newest : IsRightAt (holding_of history 0 (book None)) (known_with any) newest (may_newest refl)
  after_newest = (in_hand.judged (closing newest) newest (may_newest refl) (unsigned newest), in_hand.counted newest (may_newest refl))

  after_next : IsRightAt (holding_of history 0 (book None)) (known_with any) next (may_next refl refl)
  after_next = (in_hand.judged (closing next) next (may_next refl refl) (unsigned next), in_hand.counted next (may_next refl refl))

  after_own : IsRightAt (holding_of closed_history 0 (book (Some 3))) (known_with any) own (may_own refl)
  after_own = (in_hand_too.judged (closing own) own (may_own refl) (unsigned own), in_hand_too.counted own (may_own refl))
