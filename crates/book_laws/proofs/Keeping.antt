-- A channel of a book keeps the rules.
use Rattle.std.proofs.Common.{◌≡◌, ℕ, ◌+◌, ◌<◌, true, List, [], ◌∷◌, Some, refl, sym, ◌∙◌, subst, ⊎_elim, arith}
use Rattle.std.specs.Prelude.{slice_get}
use Rattle.std.specs.List.{AllByRecursion, Contains}
use Rattle.terms.specs.declared.htlcs.Htlc.{Htlc}
use Rattle.terms.specs.Views.{share}
use Rattle.updates.specs.declared.changes.OwnUpdate.TheVariants.{Offer}
use Rattle.updates.specs.Updates.{offers}
use Rattle.channel.specs.declared.commitments.CommitmentState.{CommitmentState}
use Rattle.channel.specs.Learning.{HasLearnt, SidesLearn, SidesAreLimited, OffersOwn, SidesOfferOwn}
use Rattle.channel.specs.Recording.{SidesNumber}
use Rattle.channel.specs.States.{Signing, State}
use Rattle.channel.specs.Tokens.{peer_tokens}
use Rattle.safety.specs.Everybody.{EachChannelStands}
use Rattle.safety.specs.Holdings.{Holding, IsRevealed, KeepsRules, EachKeepsRules}
use Rattle.safety.specs.Places.{OwnersPlaces, PeersPlaces, RevokedPlaces}
use Rattle.safety.specs.Recorded.{RecordedLimits}
use Rattle.safety.specs.Taken.{NumberedAreOwn}
use Rattle.safety.proofs.Lists.{contained, contains_none}
use Rattle.safety.proofs.Slots.{contains_first, contains_cases}
use Rattle.book.specs.declared.calls.Step.TheVariants.{Own}
use Rattle.book.specs.declared.calls.Call.TheVariants.{Step as Stepping}
use Rattle.book.specs.declared.calls.Entry.{Entry}
use Rattle.book.specs.Books.{ChannelBook, replay}
use Rattle.book.specs.Accepted.{all_accepted, IsHistory, AcceptedMeans}
use Rattle.book.specs.Closing.{ClosedStaysNewest}
use Rattle.book.specs.Guarding.{KeptAreExact}
use Rattle.book.specs.Lived.{ChannelsAreLived, IsAskedFor, OffersAreAskedFor}
use Rattle.book_laws.specs.Holdings.{holding_of}
use Rattle.book_laws.specs.Keeping.{TakesCare, IsCareful, BooksKeepRules, ClaimablesAreRecorded, KeptAreRecorded, BooksStand}
use Rattle.book_laws.proofs.Lists.{within, all_from, of_each}
use Rattle.book_laws.proofs.Expiries.{IsLater, AreLater, expires_later}
use Rattle.book_laws.proofs.Released.{Laws, IsSure, on_claimable, on_kept, all_rightful}

-- ---- the rules

-- what `channel` says of a state that calls and messages lead to
pub record StateLaws : Type 0 where
  pub numbers : SidesNumber
  pub learn : SidesLearn
  pub limits : SidesAreLimited
  pub offers : SidesOfferOwn

-- what `book` says of the channels that a history leaves
pub record ChannelLaws : Type 0 where
  pub accepted : AcceptedMeans
  pub lived : ChannelsAreLived
  pub asked : OffersAreAskedFor
  pub closes : ClosedStaysNewest

pub record AllLaws : Type 0 where
  pub states : StateLaws
  pub channels : ChannelLaws
  pub releases : Laws

pub of_states : SidesNumber → SidesLearn → SidesAreLimited → SidesOfferOwn → StateLaws
of_states numbers learn limits offers = record { numbers = numbers; learn = learn; limits = limits; offers = offers }

pub of_channels : AcceptedMeans → ChannelsAreLived → OffersAreAskedFor → ClosedStaysNewest → ChannelLaws
of_channels accepted lived asked closes = record { accepted = accepted; lived = lived; asked = asked; closes = closes }

pub laws_of : StateLaws → ChannelLaws → NumberedAreOwn → RecordedLimits → OwnersPlaces → PeersPlaces → RevokedPlaces → KeptAreExact → AllLaws
laws_of states channels own limits owners peers revoked kept =
    record { states = states; channels = channels; releases = record { own = own; limits = limits; owners = owners; peers = peers; revoked = revoked; kept = kept } }

revealed : (h : Holding) → HasLearnt h.state → (n : ℕ) (k : CommitmentState) → n < h.state.peer_number → slice_get h.state.signed n ≡ Some k → IsRevealed h n k
revealed h l n k low there =
    let count = l.count in
    let at = within h.state.secrets n (omega (arith, low, count)) in
    record { secret = at.0; there = at.1; opens = l.each n k at.0 there at.1 }

-- what is known of the state of each channel
sure_at : AllLaws → (tokens_of : Signing) (history : List Entry) → IsHistory tokens_of history → (c : ℕ) (ch : ChannelBook) → slice_get (replay history) c ≡ Some ch → IsSure ch.state
sure_at laws tokens_of history called c ch there =
    let lived = laws.channels.lived tokens_of history c ch called there in
    record { numbered = laws.states.numbers tokens_of ch.state lived; learnt = laws.states.learn tokens_of ch.state lived; limited = laws.states.limits tokens_of ch.state lived }

-- what a call offers that takes care of the channel
asked_later : (history : List Entry) (c : ℕ) → AllByRecursion (λ e. TakesCare c e.call) history → (h : Htlc) → IsAskedFor history c h → IsLater h
asked_later history c cares h a =
    of_each (λ (e : Entry). TakesCare c e.call) history (record { seat = a.seat; call = Stepping c (Own (Offer h.amount_msat h.hash h.expiry_height)) }) cares a.asked refl

-- so what the node offers in a commitment expires above 0, if its own updates offer that
offers_later : (history : List Entry) (c : ℕ) → AllByRecursion (λ e. TakesCare c e.call) history → (s : State) → AllByRecursion (IsAskedFor history c) (offers s.held.own.known) → (k : CommitmentState) → OffersOwn s k
    → AreLater s.held.side k
offers_later history c cares s asked k own =
    all_from (Contains (offers s.held.own.known)) IsLater (λ (h : Htlc) (i : Contains (offers s.held.own.known) h). asked_later history c cares h (of_each (IsAskedFor history c) (offers s.held.own.known) h asked i))
    (share s.held.side k.view).offered own

pub claimables_are_recorded : AllLaws → ClaimablesAreRecorded
claimables_are_recorded laws tokens_of history c n ch outputs x called there lets i = on_claimable (holding_of history c ch) (sure_at laws tokens_of history called c ch there) n outputs x lets i

pub kept_are_recorded : AllLaws → KeptAreRecorded
kept_are_recorded laws tokens_of history c ch x called whole there k =
    on_kept laws.releases tokens_of history c ch x ((laws.channels.accepted.accepted_exactly tokens_of history).0 called) whole there (sure_at laws tokens_of history called c ch there) k

module _ (laws : AllLaws) (history : List Entry) (c : ℕ) (ch : ChannelBook) (careful : IsCareful history c ch) where
  abbrev it : Holding
  it = holding_of history c ch

  accepted : all_accepted peer_tokens history ≡ true
  accepted = (laws.channels.accepted.accepted_exactly peer_tokens history).0 careful.called

  keeps_rules : KeepsRules it
  keeps_rules =
      let sure : IsSure ch.state = sure_at laws peer_tokens history careful.called c ch careful.there in
      let own = laws.states.offers peer_tokens ch.state (laws.channels.lived peer_tokens history c ch careful.called careful.there) in
      let later : (k : CommitmentState) → Contains ch.state.signed k → AreLater ch.state.held.side k
      = λ k i. offers_later history c careful.cares ch.state (laws.channels.asked history c ch careful.there) k (of_each (OffersOwn ch.state) ch.state.signed k own i) in
      record {
        funding = careful.funding;
        numbered = sure.numbered;
        number = sure.limited.number;
        peer_number = sure.limited.peer_number;
        revealed = revealed it sure.learnt;
        releases = all_rightful laws.releases history c ch careful.funding sure history careful.cares careful.due;
        newest = λ m e. laws.channels.closes peer_tokens history c m ch accepted careful.there e;
        expiries = λ m k at x i received. expires_later ch.state.held.terms ch.state.held.side k (sure.numbered.signed.each m k at).owner (later k (contained ch.state.signed m k at)) x i received;
      }

-- a list of one has no other
only_one : {X : Type 0} (x y : X) → Contains (x ∷ []) y → x ≡ y
only_one x y i = ⊎_elim {C = x ≡ y} (λ (e : x ≡ y). e) (λ (j : Contains [] y). absurd (contains_none y j)) (contains_cases x [] y i)

pub books_keep_rules : AllLaws → BooksKeepRules
books_keep_rules laws history c ch careful = record {
  each = (keeps_rules laws history c ch careful, tt);
  apart = λ h g i j funded. sym (only_one (holding_of history c ch) h i) ∙ only_one (holding_of history c ch) g j;
}

pub books_stand : BooksKeepRules → EachChannelStands → BooksStand
books_stand keeps stands history c ch blocks careful h same ledger own funded =
    let kept : EachKeepsRules (h ∷ []) = subst (λ (x : Holding). EachKeepsRules (x ∷ [])) same (keeps history c ch careful) in
    stands (h ∷ []) blocks (record { kept = kept; ledger = ledger; own = own }) h (contains_first h []) funded
