-- What is broadcast of a side's book, and what becomes of the events that broadcast: in the second of two channels, of which the book has commitments 0 to 3.
use Rattle.std.proofs.Common.{◌≡◌, ℕ, List, [], ◌∷◌, ◌++◌, Option, Some, None, Result, Ok, Err, refl, sym, ap, ◌∙◌, subst}
use Rattle.std.specs.Prelude.{slice_get, option_map}
use Rattle.std.proofs.lemmas.Option.{none-some}
use Rattle.tx.specs.Fields.{Transaction}
use Rattle.terms.specs.declared.sides.Side.TheVariants.{A, B}
use Rattle.channel.specs.declared.commitments.CommitmentState.{CommitmentState}
use Rattle.channel.specs.States.{State}
use Rattle.channel.specs.Tokens.{contents_of}
use Rattle.publish.specs.Published.{signed_transaction, signed_commitment_of}
use Rattle.scenario.specs.declared.events.Event.TheVariants as events
use Rattle.book.specs.Books.{ChannelBook, replay}
use Rattle.desk.specs.Histories.{History}
use Rattle.world.specs.declared.errors.EventError.{EventError}
use Rattle.world.specs.declared.errors.EventError.TheVariants.{NoSuchChannel, NoSuchTx}
use Rattle.world.specs.Publishing.{found, commitment_in, refusal_by}
use Rattle.running.specs.Broadcasts.{IsFoundBy, IsBroadcast}
use Rattle.running.specs.Outcomes.{IsBroadcastOutcome, IsOutcomeOf, IsOutcome}
use Rattle.law_examples.proofs.BroadcastSamples.{third, newest, signed, newest_not_third, timeout, success, timeout_not_success, state}
use Rattle.law_examples.proofs.Broadcasts.{Broadcast, of_event, commitment, htlc_tx, close, Answer, ok, same_ok, not_ok, number_found, newest_found, none_found, htlc_tx_found, past_last_htlc, timeout_is, no_third_is}

-- ---- answers

abbrev no_channel : Answer
no_channel = Err NoSuchChannel

abbrev no_tx : Answer
no_tx = Err NoSuchTx

-- the channel before it, and the one after it, which is not there
abbrev before_it : Broadcast
before_it = of_event (events.Broadcast A 0 2) refl

abbrev after_it : Broadcast
after_it = of_event (events.Broadcast A 2 2) refl

-- ---- what is broadcast of a book

-- Side A's book has some channel, and after it one with the four commitments
module _ (base : State) (kept_numbers : List ℕ) (closed : Option ℕ) where
  abbrev channel : ChannelBook
  channel = record { state = state base; kept = kept_numbers; closed = closed }

  abbrev of_third : Transaction
  of_third = signed base (third base)

  abbrev of_newest : Transaction
  of_newest = signed base (newest base)

  abbrev IsFound : History → Broadcast → Option ChannelBook → Answer → Type 0
  IsFound h b there answer = IsFoundBy h b.channel b.choice there answer

  module _ (h : History) where
    -- ---- of a book

    module _ (other : ChannelBook) (there : replay h ≡ other ∷ channel ∷ []) where
      at_0 : slice_get (replay h) 0 ≡ Some other
      at_0 = ap (λ (chs : List ChannelBook). slice_get chs 0) there

      at_1 : slice_get (replay h) 1 ≡ Some channel
      at_1 = ap (λ (chs : List ChannelBook). slice_get chs 1) there

      at_2 : slice_get (replay h) 2 ≡ None
      at_2 = ap (λ (chs : List ChannelBook). slice_get chs 2) there

      -- yes: IsBroadcast
      number_broadcast : IsBroadcast h (commitment 2) (Ok of_third)
      number_broadcast = subst (λ (o : Option ChannelBook). IsFound h (commitment 2) o (Ok of_third)) (sym at_1) (number_found base kept_numbers closed h)

      -- yes: IsBroadcast
      close_broadcast : IsBroadcast h close (Ok of_newest)
      close_broadcast = subst (λ (o : Option ChannelBook). IsFound h close o (Ok of_newest)) (sym at_1) (newest_found base kept_numbers closed h)

      -- yes: IsBroadcast
      htlc_broadcast : IsBroadcast h (htlc_tx 2 0) (Ok (timeout base))
      htlc_broadcast = subst (λ (o : Option ChannelBook). IsFound h (htlc_tx 2 0) o (Ok (timeout base))) (sym at_1) (htlc_tx_found base kept_numbers closed h)

      -- yes: IsBroadcast
      no_number_broadcast : IsBroadcast h (commitment 4) (Err NoSuchTx)
      no_number_broadcast = subst (λ (o : Option ChannelBook). IsFound h (commitment 4) o (Err NoSuchTx)) (sym at_1) (none_found base kept_numbers closed h)

      no_htlc_broadcast : IsBroadcast h (htlc_tx 2 2) (Err NoSuchTx)
      no_htlc_broadcast = subst (λ (o : Option ChannelBook). IsFound h (htlc_tx 2 2) o (Err NoSuchTx)) (sym at_1) (past_last_htlc base kept_numbers closed h)

      -- yes: IsBroadcast
      nothing_after : IsBroadcast h after_it (Err NoSuchChannel)
      nothing_after = subst (λ (o : Option ChannelBook). IsFound h after_it o (Err NoSuchChannel)) (sym at_2) refl

      number_is : (n : ℕ) (answer : Answer) → IsBroadcast h (commitment n) answer → answer ≡ found (signed_commitment_of (state base) n)
      number_is n answer is = subst (λ (o : Option ChannelBook). answer ≡ commitment_in n o) at_1 is

      close_is : (answer : Answer) → IsBroadcast h close answer → answer ≡ ok of_newest
      close_is answer is = subst (λ (o : Option ChannelBook). IsFound h close o answer) at_1 is

      htlc_is : (answer : Answer) → IsBroadcast h (htlc_tx 2 0) answer → answer ≡ ok (timeout base)
      htlc_is answer is = let it = subst (λ (o : Option ChannelBook). IsFound h (htlc_tx 2 0) o answer) at_1 is in it.1 ∙ timeout_is base kept_numbers closed h it.0

      no_htlc_is : (answer : Answer) → IsBroadcast h (htlc_tx 2 2) answer → answer ≡ no_tx
      no_htlc_is answer is = let it = subst (λ (o : Option ChannelBook). IsFound h (htlc_tx 2 2) o answer) at_1 is in it.1 ∙ no_third_is base kept_numbers closed h it.0

      after_is : (answer : Answer) → IsBroadcast h after_it answer → answer ≡ no_channel
      after_is answer is = subst (λ (o : Option ChannelBook). IsFound h after_it o answer) at_2 is

      -- no: IsBroadcast
      another_number : IsBroadcast h (commitment 2) (Ok of_newest) → ⊥
      another_number is = newest_not_third base (same_ok of_newest of_third (number_is 2 (ok of_newest) is))

      -- no: IsBroadcast
      older_closed : IsBroadcast h close (Ok of_third) → ⊥
      older_closed is = newest_not_third base (sym (same_ok of_third of_newest (close_is (ok of_third) is)))

      -- no: IsBroadcast
      another_htlc : IsBroadcast h (htlc_tx 2 0) (Ok (success base)) → ⊥
      another_htlc is = timeout_not_success base (sym (same_ok (success base) (timeout base) (htlc_is (ok (success base)) is)))

      -- no: IsBroadcast
      in_channel_after : IsBroadcast h after_it (Ok of_third) → ⊥
      in_channel_after is = not_ok of_third NoSuchChannel (after_is (ok of_third) is)

      -- the channel before it has no commitment 2
      -- no: IsBroadcast
      in_channel_before : slice_get other.state.mine 2 ≡ None → IsBroadcast h before_it (Ok of_third) → ⊥
      in_channel_before none is =
          let by : Ok of_third ≡ found (signed_commitment_of other.state 2) = subst (λ (o : Option ChannelBook). IsFound h before_it o (Ok of_third)) at_0 is in
          let e : signed_commitment_of other.state 2 ≡ None
          = ap (λ (o : Option CommitmentState). option_map (λ c. signed_transaction other.state.held.terms (contents_of other.state.held.terms c)) o) none in
          not_ok of_third NoSuchTx (by ∙ ap found e)

      -- ---- outcomes

      refusal_is : (x y : Answer) (outcome : Option EventError) → x ≡ y → outcome ≡ refusal_by x → outcome ≡ refusal_by y
      refusal_is x y outcome e f = f ∙ ap (λ (r : Answer). refusal_by r) e

      -- yes: IsBroadcastOutcome
      number_goes_out : IsBroadcastOutcome h (commitment 2) None
      number_goes_out = (Ok of_third, number_broadcast, refl)

      -- yes: IsBroadcastOutcome
      close_goes_out : IsBroadcastOutcome h close None
      close_goes_out = (Ok of_newest, close_broadcast, refl)

      -- yes: IsBroadcastOutcome
      htlc_goes_out : IsBroadcastOutcome h (htlc_tx 2 0) None
      htlc_goes_out = (Ok (timeout base), htlc_broadcast, refl)

      -- yes: IsBroadcastOutcome
      no_number_goes_out : IsBroadcastOutcome h (commitment 4) (Some NoSuchTx)
      no_number_goes_out = (Err NoSuchTx, no_number_broadcast, refl)

      no_htlc_goes_out : IsBroadcastOutcome h (htlc_tx 2 2) (Some NoSuchTx)
      no_htlc_goes_out = (Err NoSuchTx, no_htlc_broadcast, refl)

      -- no: IsBroadcastOutcome
      number_refused : IsBroadcastOutcome h (commitment 2) (Some NoSuchTx) → ⊥
      number_refused (answer, is, e) = none-some NoSuchTx (sym (refusal_is answer (ok of_third) (Some NoSuchTx) (number_is 2 answer is) e))

      -- no: IsBroadcastOutcome
      close_refused : IsBroadcastOutcome h close (Some NoSuchTx) → ⊥
      close_refused (answer, is, e) = none-some NoSuchTx (sym (refusal_is answer (ok of_newest) (Some NoSuchTx) (close_is answer is) e))

      htlc_refused : IsBroadcastOutcome h (htlc_tx 2 0) (Some NoSuchTx) → ⊥
      htlc_refused (answer, is, e) = none-some NoSuchTx (sym (refusal_is answer (ok (timeout base)) (Some NoSuchTx) (htlc_is answer is) e))

      -- no: IsBroadcastOutcome
      past_newest_goes_out : IsBroadcastOutcome h (commitment 4) None → ⊥
      past_newest_goes_out (answer, is, e) = none-some NoSuchTx (refusal_is answer no_tx None (number_is 4 answer is) e)

      past_last_htlc_goes_out : IsBroadcastOutcome h (htlc_tx 2 2) None → ⊥
      past_last_htlc_goes_out (answer, is, e) = none-some NoSuchTx (refusal_is answer no_tx None (no_htlc_is answer is) e)

      -- no: IsBroadcastOutcome
      otherwise_refused : IsBroadcastOutcome h (commitment 4) (Some NoSuchChannel) → ⊥
      otherwise_refused (answer, is, e) =
          let f : Some NoSuchChannel ≡ Some NoSuchTx = refusal_is answer no_tx (Some NoSuchChannel) (number_is 4 answer is) e in
          absurd cc

      -- no: IsBroadcastOutcome
      after_goes_out : IsBroadcastOutcome h after_it None → ⊥
      after_goes_out (answer, is, e) = none-some NoSuchChannel (refusal_is answer no_channel None (after_is answer is) e)

      -- ---- events: A's book has these channels, and B's has none

      -- yes: IsOutcome
      broadcast_done : IsOutcome (events.Broadcast A 1 2) h [] None
      broadcast_done = number_goes_out

      -- yes: IsOutcome
      close_done : IsOutcome (events.Close A 1) h [] None
      close_done = close_goes_out

      -- yes: IsOutcome
      htlc_done : IsOutcome (events.BroadcastHtlc A 1 2 0) h [] None
      htlc_done = htlc_goes_out

      -- yes: IsOutcome
      past_newest_refused : IsOutcome (events.Broadcast A 1 4) h [] (Some NoSuchTx)
      past_newest_refused = no_number_goes_out

      -- yes: IsOutcome
      past_last_htlc_refused : IsOutcome (events.BroadcastHtlc A 1 2 2) h [] (Some NoSuchTx)
      past_last_htlc_refused = no_htlc_goes_out

      -- yes: IsOutcome
      close_of_b_refused : IsOutcome (events.Close B 1) h [] (Some NoSuchChannel)
      close_of_b_refused = (Err NoSuchChannel, refl, refl)

      -- no: IsOutcome
      broadcast_undone : IsOutcome (events.Broadcast A 1 2) h [] (Some NoSuchTx) → ⊥
      broadcast_undone is = number_refused is

      -- no: IsOutcome
      close_undone : IsOutcome (events.Close A 1) h [] (Some NoSuchTx) → ⊥
      close_undone is = close_refused is

      -- no: IsOutcome
      htlc_undone : IsOutcome (events.BroadcastHtlc A 1 2 0) h [] (Some NoSuchTx) → ⊥
      htlc_undone is = htlc_refused is

      -- no: IsOutcome
      past_newest_done : IsOutcome (events.Broadcast A 1 4) h [] None → ⊥
      past_newest_done is = past_newest_goes_out is

      -- no: IsOutcome
      past_last_htlc_done : IsOutcome (events.BroadcastHtlc A 1 2 2) h [] None → ⊥
      past_last_htlc_done is = past_last_htlc_goes_out is

      -- no: IsOutcome
      done_in_channel_after : IsOutcome (events.Broadcast A 2 2) h [] None → ⊥
      done_in_channel_after is = after_goes_out is

      -- no: IsOutcome
      done_by_the_peers_book : IsOutcome (events.Close A 1) [] h None → ⊥
      done_by_the_peers_book (answer, is, e) = none-some NoSuchChannel (refusal_is answer no_channel None is e)

      -- no: IsOutcome
      done_by_b : IsOutcome (events.Close B 1) h [] None → ⊥
      done_by_b (answer, is, e) = none-some NoSuchChannel (refusal_is answer no_channel None is e)

      -- yes: IsOutcomeOf
      of_a_close : IsOutcomeOf (Some close) None h [] None
      of_a_close = close_goes_out

      -- no: IsOutcomeOf
      of_the_peers_book : IsOutcomeOf (Some close) None [] h None → ⊥
      of_the_peers_book is = done_by_the_peers_book is
