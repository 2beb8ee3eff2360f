-- What each channel that a history leaves has: a state that calls and messages lead to, offers that calls asked for, the base keys of its seed, and a funding output of its own.
use Rattle.std.specs.Prelude.{◌≡◌, ℕ, List, Some, slice_get, Contains}
use Rattle.std.specs.List.{AllByRecursion}
use Rattle.terms.specs.declared.htlcs.Htlc.{Htlc}
use Rattle.terms.specs.Agreement.{party}
use Rattle.terms.specs.Bases.{IsSeedOf}
use Rattle.updates.specs.declared.changes.OwnUpdate.TheVariants.{Offer}
use Rattle.updates.specs.Updates.{offers}
use Rattle.channel.specs.States.{Signing}
use Rattle.channel.specs.Peers.{IsLived}
use Rattle.book.specs.declared.calls.Step.TheVariants.{Own}
use Rattle.book.specs.declared.calls.Call.TheVariants.{Step as Stepping}
use Rattle.book.specs.declared.calls.Entry.{Entry}
use Rattle.book.specs.Books.{ChannelBook, replay}
use Rattle.book.specs.Accepted.{IsHistory}

-- calls and messages lead to the state of each channel, whatever the peers sent
abbrev pub ChannelsAreLived : Type 0
ChannelsAreLived = (tokens_of : Signing) (history : List Entry) (c : ℕ) (ch : ChannelBook) → IsHistory tokens_of history → slice_get (replay history) c ≡ Some ch → IsLived tokens_of ch.state

-- no two channels are on one funding output
abbrev pub FundingsAreApart : Type 0
FundingsAreApart =
    (tokens_of : Signing) (history : List Entry) (c d : ℕ) (ch other : ChannelBook) → IsHistory tokens_of history → slice_get (replay history) c ≡ Some ch → slice_get (replay history) d ≡ Some other
    → ch.state.held.terms.funding ≡ other.state.held.terms.funding → c ≡ d

-- a call of the history offers an HTLC of this amount, hash and expiry in a channel
pub record IsAskedFor (history : List Entry) (c : ℕ) (h : Htlc) : Type 0 where
  pub seat : ℕ
  pub asked : Contains history (record { seat = seat; call = Stepping c (Own (Offer h.amount_msat h.hash h.expiry_height)) })

-- so it is for each HTLC that a channel's own updates offer, whether or not the calls are accepted
abbrev pub OffersAreAskedFor : Type 0
OffersAreAskedFor = (history : List Entry) (c : ℕ) (ch : ChannelBook) → slice_get (replay history) c ≡ Some ch → AllByRecursion (IsAskedFor history c) (offers ch.state.held.own.known)

-- the base keys of each channel's side are those of its seed
abbrev pub BasesAreOwn : Type 0
BasesAreOwn = (history : List Entry) (c : ℕ) (ch : ChannelBook) → slice_get (replay history) c ≡ Some ch → IsSeedOf ch.state.seed (party ch.state.held.side ch.state.held.terms).bases
