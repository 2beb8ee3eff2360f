-- What a book records of a channel stays, whatever calls it gets.
use Rattle.std.specs.Prelude.{◌≡◌, ℕ, List, [], ◌∷◌, ◌++◌, Some, slice_get}
use Rattle.channel.specs.States.{State}
use Rattle.book.specs.declared.calls.Entry.{Entry}
use Rattle.book.specs.Books.{ChannelBook, Channels, replay}

-- what stands at a number in a list stands there in another
abbrev pub Stays : {A : Type 0} → List A → List A → Type 0
Stays {A} old new = (n : ℕ) (x : A) → slice_get old n ≡ Some x → slice_get new n ≡ Some x

-- the terms and the side of a channel's state are those of another, which has each recorded commitment and secret of it at its number
pub record Grew (old new : State) : Type 0 where
  pub terms : new.held.terms ≡ old.held.terms
  pub side : new.held.side ≡ old.held.side
  pub mine : Stays old.mine new.mine
  pub signed : Stays old.signed new.signed
  pub secrets : Stays old.secrets new.secrets

-- a channel is still there
pub record IsLater (c : ℕ) (old : ChannelBook) (chs : Channels) : Type 0 where
  pub new : ChannelBook
  pub there : slice_get chs c ≡ Some new
  pub grew : Grew old.state new.state

-- so it is after one more entry, accepted or not
abbrev pub ChannelsGrow : Type 0
ChannelsGrow = (history : List Entry) (e : Entry) (c : ℕ) (ch : ChannelBook) → slice_get (replay history) c ≡ Some ch → IsLater c ch (replay (history ++ e ∷ []))
