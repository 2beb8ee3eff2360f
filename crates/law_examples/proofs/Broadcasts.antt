-- What events broadcast: which side and channel, and which commitment or HTLC transaction of the channel.
use Rattle.std.proofs.Common.{◌≡◌, ℕ, true, List, [], ◌∷◌, ◌++◌, map, is_some, Option, Some, None, Result, Ok, Err, refl, sym, ap, ◌∙◌, subst}
use Rattle.std.specs.Prelude.{option_map}
use Rattle.std.proofs.lemmas.Bool.{false≢true}
use Rattle.std.proofs.lemmas.Option.{none-some}
use Rattle.tx.specs.Fields.{Transaction}
use Rattle.terms.specs.declared.sides.Side.{Side}
use Rattle.terms.specs.declared.sides.Side.TheVariants.{A, B}
use Rattle.updates.specs.declared.changes.OwnUpdate.{OwnUpdate}
use Rattle.channel.specs.States.{State}
use Rattle.scenario.specs.declared.events.Event.{Event}
use Rattle.scenario.specs.declared.events.Event.TheVariants as events
use Rattle.book.specs.Books.{ChannelBook}
use Rattle.book.specs.Knowing.{preimages_in}
use Rattle.desk.specs.Histories.{History}
use Rattle.world.specs.declared.errors.EventError.{EventError}
use Rattle.world.specs.declared.errors.EventError.TheVariants.{NoSuchChannel, NoSuchTx}
use Rattle.world.specs.Publishing.{found, htlc_tx_in, refusal_by}
use Rattle.running.specs.Broadcasts.{broadcast_in, IsFoundBy, IsBroadcast}
use Rattle.law_examples.proofs.Samples.{argument_of}
use Rattle.law_examples.proofs.BroadcastSamples.{preimage, second, third, newest, signed, newest_not_third, third_not_second, timeout, success, newest_timeout, timeout_not_success, newest_timeout_not_that, timeout_there, success_there, newest_timeout_there, no_third_htlc, no_htlc, no_preimage, state}

-- ---- what events broadcast

-- a side, a channel, and a choice of a transaction
abbrev pub Broadcast : Type 0
Broadcast = argument_of (IsBroadcast [])

abbrev got : {X : Type 0} (o : Option X) → is_some o ≡ true → X
got (Some x) e = x
got None e = absurd (false≢true e)

-- what an event broadcasts that broadcasts something
abbrev pub of_event : (e : Event) → is_some (broadcast_in e) ≡ true → Broadcast
of_event e is = got (broadcast_in e) is

abbrev place_of : Broadcast → Side × ℕ
place_of b = (b.side, b.channel)

-- yes: broadcast_in
places : map (λ e. option_map place_of (broadcast_in e)) (events.Broadcast A 5 2 ∷ events.Broadcast B 6 1 ∷ events.BroadcastHtlc A 7 2 1 ∷ events.BroadcastHtlc B 8 1 3 ∷ events.Close A 9 ∷ events.Close B 4 ∷ [])
    ≡ Some (A, 5) ∷ Some (B, 6) ∷ Some (A, 7) ∷ Some (B, 8) ∷ Some (A, 9) ∷ Some (B, 4) ∷ []
places = refl

-- yes: broadcast_in
nothing : (u : OwnUpdate) → map (λ e. broadcast_in e) (events.Own A 1 u ∷ events.Sign B 2 ∷ events.Deliver A 3 ∷ events.Keep B 4 5 ∷ events.Blocks 6 ∷ events.Look A ∷ events.Take B 7 ∷ events.Release A 8 ∷ events.Reorg 9 1 ∷ [])
    ≡ None ∷ None ∷ None ∷ None ∷ None ∷ None ∷ None ∷ None ∷ None ∷ []
nothing u = refl

-- no: broadcast_in
kept_alone : (b : Broadcast) → broadcast_in (events.Keep A 5 2) ≡ Some b → ⊥
kept_alone b e = none-some b e

-- the choices of events in channel 1: commitments 2 and 4, the newest, and the HTLC transactions 0, 1 and 2 of commitment 2, and those of others
abbrev pub commitment : ℕ → Broadcast
commitment n = of_event (events.Broadcast A 1 n) refl

abbrev pub htlc_tx : ℕ → ℕ → Broadcast
htlc_tx n i = of_event (events.BroadcastHtlc A 1 n i) refl

abbrev pub close : Broadcast
close = of_event (events.Close A 1) refl

-- ---- answers

abbrev pub Answer : Type 0
Answer = Result Transaction EventError

abbrev pub ok : Transaction → Answer
ok t = Ok t

pub same_ok : (t u : Transaction) → ok t ≡ ok u → t ≡ u
same_ok t u e = cc

pub not_ok : (t : Transaction) (e : EventError) → ok t ≡ Err e → ⊥
not_ok t e f = none-some e (ap (λ (r : Answer). refusal_by r) f)

-- ---- what is found in a channel

-- commitments 0 to 3, of which 3 is the newest
module _ (base : State) (kept_numbers : List ℕ) (closed : Option ℕ) (h : History) where
  abbrev pub there : Option ChannelBook
  there = Some (record { state = state base; kept = kept_numbers; closed = closed })

  abbrev of_third : Transaction
  of_third = signed base (third base)

  abbrev of_newest : Transaction
  of_newest = signed base (newest base)

  -- yes: IsFoundBy
  pub number_found : IsFoundBy h 1 (commitment 2).choice there (Ok of_third)
  number_found = refl

  -- yes: IsFoundBy
  pub newest_found : IsFoundBy h 1 close.choice there (Ok of_newest)
  newest_found = refl

  -- past the newest there is none
  -- yes: IsFoundBy
  pub none_found : IsFoundBy h 1 (commitment 4).choice there (Err NoSuchTx)
  none_found = refl

  -- yes: IsFoundBy
  no_channel_found : IsFoundBy h 1 (commitment 2).choice None (Err NoSuchChannel)
  no_channel_found = refl

  -- no: IsFoundBy
  number_after_it : IsFoundBy h 1 (commitment 2).choice there (Ok of_newest) → ⊥
  number_after_it is = newest_not_third base (same_ok of_newest of_third is)

  -- no: IsFoundBy
  number_before_it : IsFoundBy h 1 (commitment 2).choice there (Ok (signed base (second base))) → ⊥
  number_before_it is = third_not_second base (sym (same_ok (signed base (second base)) of_third is))

  -- no: IsFoundBy
  closes_with_an_older_one : IsFoundBy h 1 close.choice there (Ok of_third) → ⊥
  closes_with_an_older_one is = newest_not_third base (sym (same_ok of_third of_newest is))

  -- no: IsFoundBy
  closes_with_none : IsFoundBy h 1 close.choice there (Err NoSuchTx) → ⊥
  closes_with_none is = not_ok of_newest NoSuchTx (sym is)

  -- no: IsFoundBy
  one_past_newest : (t : Transaction) → IsFoundBy h 1 (commitment 4).choice there (Ok t) → ⊥
  one_past_newest t is = not_ok t NoSuchTx is

  -- no: IsFoundBy
  no_tx_without_channel : IsFoundBy h 1 (commitment 2).choice None (Err NoSuchTx) → ⊥
  no_tx_without_channel is = let e : Some NoSuchTx ≡ Some NoSuchChannel = ap (λ (r : Answer). refusal_by r) is in absurd cc

  -- ---- HTLC transactions

  -- commitment 2 has two HTLCs: 0 is offered, and 1 is received
  pub timeout_is : (learnt : List (List ℕ)) → htlc_tx_in 2 0 (preimages_in 1 h ++ learnt) there ≡ ok (timeout base)
  timeout_is learnt = ap found (timeout_there base (preimages_in 1 h ++ learnt))

  pub no_third_is : (learnt : List (List ℕ)) → htlc_tx_in 2 2 (preimages_in 1 h ++ learnt) there ≡ Err NoSuchTx
  no_third_is learnt = ap found (no_third_htlc base (preimages_in 1 h ++ learnt))

  -- yes: IsFoundBy
  pub htlc_tx_found : IsFoundBy h 1 (htlc_tx 2 0).choice there (Ok (timeout base))
  htlc_tx_found = ([], sym (timeout_is []))

  -- commitment 2 has no third HTLC
  -- yes: IsFoundBy
  pub past_last_htlc : IsFoundBy h 1 (htlc_tx 2 2).choice there (Err NoSuchTx)
  past_last_htlc = ([], sym (no_third_is []))

  -- no: IsFoundBy
  another_htlc : IsFoundBy h 1 (htlc_tx 2 0).choice there (Ok (success base)) → ⊥
  another_htlc (learnt, is) = timeout_not_success base (sym (same_ok (success base) (timeout base) (is ∙ timeout_is learnt)))

  -- no: IsFoundBy
  of_another_commitment : IsFoundBy h 1 (htlc_tx 3 0).choice there (Ok (timeout base)) → ⊥
  of_another_commitment (learnt, is) =
      newest_timeout_not_that base (sym (same_ok (timeout base) (newest_timeout base) (is ∙ ap found (newest_timeout_there base (preimages_in 1 h ++ learnt)))))

  -- no: IsFoundBy
  timeout_not_found : IsFoundBy h 1 (htlc_tx 2 0).choice there (Err NoSuchTx) → ⊥
  timeout_not_found (learnt, is) = not_ok (timeout base) NoSuchTx (sym (is ∙ timeout_is learnt))

  -- no: IsFoundBy
  one_past_last_htlc : (t : Transaction) → IsFoundBy h 1 (htlc_tx 2 2).choice there (Ok t) → ⊥
  one_past_last_htlc t (learnt, is) = not_ok t NoSuchTx (is ∙ no_third_is learnt)

  -- commitment 1 has no HTLC
  -- no: IsFoundBy
  number_for_htlc : (t : Transaction) → IsFoundBy h 1 (htlc_tx 1 2).choice there (Ok t) → ⊥
  number_for_htlc t (learnt, is) = not_ok t NoSuchTx (is ∙ ap found (no_htlc base (preimages_in 1 h ++ learnt) 2))

  -- ---- with the preimage of a fulfil, or one that blocks showed

  module _ (fulfilled : preimages_in 1 h ≡ preimage ∷ []) where
    success_is : (learnt : List (List ℕ)) → htlc_tx_in 2 1 (preimages_in 1 h ++ learnt) there ≡ ok (success base)
    success_is learnt = ap (λ (ps : List (List ℕ)). htlc_tx_in 2 1 (ps ++ learnt) there) fulfilled ∙ ap found (success_there base learnt)

    -- yes: IsFoundBy
    pub success_found : IsFoundBy h 1 (htlc_tx 2 1).choice there (Ok (success base))
    success_found = ([], sym (success_is []))

    -- no: IsFoundBy
    preimage_forgotten : IsFoundBy h 1 (htlc_tx 2 1).choice there (Err NoSuchTx) → ⊥
    preimage_forgotten (learnt, is) = not_ok (success base) NoSuchTx (sym (is ∙ success_is learnt))

  module _ (none : preimages_in 1 h ≡ []) where
    -- yes: IsFoundBy
    success_learnt : IsFoundBy h 1 (htlc_tx 2 1).choice there (Ok (success base))
    success_learnt = (preimage ∷ [], sym (ap (λ (ps : List (List ℕ)). htlc_tx_in 2 1 (ps ++ preimage ∷ []) there) none ∙ ap found (success_there base [])))

    -- yes: IsFoundBy
    preimage_unknown : IsFoundBy h 1 (htlc_tx 2 1).choice there (Err NoSuchTx)
    preimage_unknown = ([], sym (ap (λ (ps : List (List ℕ)). htlc_tx_in 2 1 (ps ++ []) there) none ∙ ap found (no_preimage base)))
