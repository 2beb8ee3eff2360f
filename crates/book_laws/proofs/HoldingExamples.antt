-- The holdings of a book: two channels on unlike funding outputs, what is released in each, and the law, which holds of either, whatever the node does in the other.
use Rattle.std.proofs.Common.{◌≡◌, ℕ, ◌<◌, true, List, [], ◌∷◌, replicate, Some, None, refl, lit<, arith}
use Rattle.terms.specs.declared.sides.Side.TheVariants.{A, B}
use Rattle.terms.specs.declared.agreement.BaseKeys.{BaseKeys}
use Rattle.terms.specs.Bases.{IsSeedOf}
use Rattle.updates.specs.declared.changes.Update.TheVariants.{Add}
use Rattle.updates.specs.declared.changes.OwnUpdate.TheVariants.{Offer}
use Rattle.updates.specs.declared.messages.PeerStep.TheVariants.{Update as Updated}
use Rattle.claim.specs.Claims.{ClaimParts, IsWhole}
use Rattle.channel.specs.declared.messages.Message.TheVariants.{Step as StepMessage, RevokeAndAck}
use Rattle.channel.specs.Points.{is_foreign}
use Rattle.channel.specs.Rights.{rights_of}
use Rattle.channel.specs.States.{State, state_at_opening as opened_state, after_update, after_sign, after}
use Rattle.channel.specs.Tokens.{peer_tokens}
use Rattle.channel.proofs.Samples.{key, secret, point_is, point_key}
use Rattle.safety.specs.Holdings.{Holding, EachKeepsRules}
use Rattle.book.specs.declared.calls.Step.TheVariants.{Own, Peer}
use Rattle.book.specs.declared.calls.Call.TheVariants.{Open, Step as Stepping, Sign, Revoke, Keep, Release as Releasing, Close}
use Rattle.book.specs.declared.calls.Entry.{Entry}
use Rattle.book.specs.Books.{ChannelBook, replay}
use Rattle.book.specs.Penalties.{is_penalty_set}
use Rattle.book.specs.Signers.{fill_refusal}
use Rattle.book.specs.Accepted.{all_accepted, AreWhole, IsHistory, AcceptedMeans}
use Rattle.book_laws.specs.Holdings.{releases_in, holding_of}
use Rattle.book_laws.specs.Keeping.{IsCareful, BooksKeepRules, KeptAreRecorded}
use Rattle.book_laws.proofs.Samples.{entry, hash, htlc, stray, pays, batch, release, first_terms, second_terms, first_signed, second_signed, first_opening, second_opening}

-- what is released stays in its channel, in order
module _ (x y z : ClaimParts) where
  abbrev releasing : List Entry
  releasing = entry 2 (Releasing 1 (batch x 900)) ∷ entry 0 (Releasing 0 (batch y 901)) ∷ entry 3 (Sign 1) ∷ entry 0 (Releasing 1 (batch z 902)) ∷ []

  by_channel : (releases_in 1 releasing ≡ release x 900 ∷ release z 902 ∷ []) × (releases_in 0 releasing ≡ release y 901 ∷ []) × (releases_in 2 releasing ≡ [])
  by_channel = (refl, refl, refl)

module _ (bases theirs : BaseKeys) (seed : List ℕ) (own : IsSeedOf seed bases) where
  -- The node opens both channels, and offers an HTLC in the first, signs, and is given the revocation. In the second its peer offers one that expires at 0, and the node closes
  abbrev history : List Entry
  history =
      entry 3 (Open (first_opening bases theirs seed own (replicate 32 5)))
      ∷ entry 0 (Open (second_opening bases theirs seed own))
      ∷ entry 1 (Stepping 0 (Own (Offer 1000000 hash 500)))
      ∷ entry 2 (Stepping 1 (Peer (Updated (Add (htlc 2000000 0)))))
      ∷ entry 1 (Sign 0)
      ∷ entry 1 (Revoke 0 (record { secret = secret; next_point = key 2 }))
      ∷ entry 4 (Close 1)
      ∷ []

  abbrev first_state : State
  first_state = after (after_sign (after_update (Add (htlc 1000000 500)) (opened_state (first_terms bases theirs seed own (replicate 32 5)) A seed point_key (key 1)))) (RevokeAndAck (record { secret = secret; next_point = key 2 }))

  abbrev second_state : State
  second_state = after (opened_state (second_terms bases theirs seed own) B seed point_key (key 3)) (StepMessage (Updated (Add (htlc 2000000 0))))

  -- the first once the node offered, and the second when it was opened
  abbrev offered_book : ChannelBook
  offered_book = record { state = after_update (Add (htlc 1000000 500)) (opened_state (first_terms bases theirs seed own (replicate 32 5)) A seed point_key (key 1)); kept = []; closed = None }

  abbrev second_opened : State
  second_opened = opened_state (second_terms bases theirs seed own) B seed point_key (key 3)

  abbrev first : Holding
  first = record { state = first_state; releases = []; closed = None }

  abbrev second : Holding
  second = record { state = second_state; releases = []; closed = Some 0 }

  abbrev first_book : ChannelBook
  first_book = record { state = first_state; kept = []; closed = None }

  abbrev second_book : ChannelBook
  second_book = record { state = second_state; kept = []; closed = Some 0 }

  -- these are its channels, each with its holding
  pub they_are : replay history ≡ first_book ∷ second_book ∷ []
  they_are = refl

  first_held : holding_of history 0 first_book ≡ first
  first_held = refl

  second_held : holding_of history 1 second_book ≡ second
  second_held = refl

  accepted : all_accepted peer_tokens history ≡ true
  unfolding is_foreign
  accepted = rw (first_signed bases theirs seed own (replicate 32 5), second_signed bases theirs seed own, point_is) refl

  -- yes: IsHistory
  called : AcceptedMeans → IsHistory peer_tokens history
  called law = (law.accepted_exactly peer_tokens history).1 accepted

  -- yes: IsCareful
  pub careful : AcceptedMeans → IsCareful history 0 first_book
  careful law = record {
    called = called law;
    there = refl;
    cares = (tt, (tt, ((λ e. lit< tt), (tt, (tt, (tt, (tt, tt)))))));
    due = tt;
    funding = record { txid = refl; index = lit< tt };
  }

  -- yes: IsCareful
  pub careful_too : AcceptedMeans → IsCareful history 1 second_book
  careful_too law = record {
    called = called law;
    there = refl;
    cares = (tt, (tt, ((λ e. lit< tt), (tt, (tt, (tt, (tt, tt)))))));
    due = tt;
    funding = record { txid = refl; index = lit< tt };
  }

  -- so both keep the rules
  keep_rules : AcceptedMeans → BooksKeepRules → EachKeepsRules (first ∷ []) × EachKeepsRules (second ∷ [])
  keep_rules law keeps = (keeps history 0 first_book (careful law), keeps history 1 second_book (careful_too law))

  -- in the second channel the node offers an HTLC that expires at 0, and releases a claim on what no channel has: of the first it takes care all the same
  module _ (fills : fill_refusal (stray ∷ []) (pays 900) (rights_of second_opened) [] ≡ None) where
    abbrev careless : List Entry
    careless =
        entry 3 (Open (first_opening bases theirs seed own (replicate 32 5)))
        ∷ entry 0 (Open (second_opening bases theirs seed own))
        ∷ entry 1 (Stepping 0 (Own (Offer 1000000 hash 500)))
        ∷ entry 0 (Releasing 1 (batch stray 900))
        ∷ entry 2 (Stepping 1 (Own (Offer 1000000 hash 0)))
        ∷ []

    careless_accepted : all_accepted peer_tokens careless ≡ true
    careless_accepted = rw (first_signed bases theirs seed own (replicate 32 5), second_signed bases theirs seed own, fills) refl

    -- yes: IsCareful
    careful_of_first : AcceptedMeans → IsCareful careless 0 offered_book
    careful_of_first law = record {
      called = (law.accepted_exactly peer_tokens careless).1 careless_accepted;
      there = refl;
      cares = (tt, (tt, ((λ e. lit< tt), ((λ (e : 1 ≡ 0). omega (arith, e)), ((λ (e : 1 ≡ 0). omega (arith, e)), tt)))));
      due = tt;
      funding = record { txid = refl; index = lit< tt };
    }

    -- no: IsCareful
    careless_of_second : (ch : ChannelBook) → IsCareful careless 1 ch → ⊥
    careless_of_second ch c = let l : 0 < 0 = c.cares.1.1.1.1.0 refl in omega (arith, l)

    first_keeps_rules : AcceptedMeans → BooksKeepRules → EachKeepsRules (record { state = offered_book.state; releases = []; closed = None } ∷ [])
    first_keeps_rules law keeps = keeps careless 0 offered_book (careful_of_first law)

  -- a penalty that was kept is released: by `KeptAreRecorded` it is on a recorded commitment
  module _ (x : ClaimParts) (whole : IsWhole x) (is_set : is_penalty_set first_state 0 (x ∷ []) ≡ true) (fills : fill_refusal (x ∷ []) (pays 900) (rights_of first_state) [] ≡ None) where
    abbrev with_release : List Entry
    with_release =
        entry 3 (Open (first_opening bases theirs seed own (replicate 32 5)))
        ∷ entry 1 (Stepping 0 (Own (Offer 1000000 hash 500)))
        ∷ entry 1 (Sign 0)
        ∷ entry 1 (Revoke 0 (record { secret = secret; next_point = key 2 }))
        ∷ entry 1 (Keep 0 0 (x ∷ []))
        ∷ entry 5 (Releasing 0 (batch x 900))
        ∷ []

    abbrev kept_book : ChannelBook
    kept_book = record { state = first_state; kept = 0 ∷ []; closed = None }

    released : holding_of with_release 0 kept_book ≡ record { state = first_state; releases = release x 900 ∷ []; closed = None }
    released = refl

    released_accepted : all_accepted peer_tokens with_release ≡ true
    unfolding is_foreign
    released_accepted = rw (first_signed bases theirs seed own (replicate 32 5), point_is, is_set, fills) refl

    release_called : AcceptedMeans → IsHistory peer_tokens with_release
    release_called law = (law.accepted_exactly peer_tokens with_release).1 released_accepted

    all_whole : AreWhole with_release
    all_whole = (tt, (tt, (tt, (tt, ((whole, tt), ((whole, tt), tt))))))

    -- yes: IsCareful
    careful_release : AcceptedMeans → KeptAreRecorded → IsCareful with_release 0 kept_book
    careful_release law recorded = record {
      called = release_called law;
      there = refl;
      cares = (tt, ((λ e. lit< tt), (tt, (tt, (tt, ((λ e. (record { value = omega arith; script = omega arith }, tt)), tt))))));
      due = ((recorded peer_tokens with_release 0 kept_book x (release_called law) all_whole refl (record { seat = 1; number = 0; set = x ∷ []; kept = (4, lit< tt, refl); within = (0, lit< tt, refl) }), tt), tt);
      funding = record { txid = refl; index = lit< tt };
    }

    keep_rules_too : AcceptedMeans → KeptAreRecorded → BooksKeepRules → EachKeepsRules (record { state = first_state; releases = release x 900 ∷ []; closed = None } ∷ [])
    keep_rules_too law recorded keeps = keeps with_release 0 kept_book (careful_release law recorded)
