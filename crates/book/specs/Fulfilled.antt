-- The preimages that a book keeps beside its history, by channel.
use Rattle.std.specs.Prelude.{◌≡◌, ℕ, ◌<◌, List, [], ◌∷◌, ◌++◌, map, reverse, Some, slice_get}
use Rattle.std.specs.Global.{Vec}
use Rattle.std.specs.List.{cons_option}
use Rattle.std.specs.Vec.{vec_len, vec_capacity}
use Rattle.tx.specs.declared.input.OutPoint.{OutPoint}
use Rattle.book.specs.declared.calls.Step.{Step}
use Rattle.book.specs.declared.calls.Call.{Call}
use Rattle.book.specs.declared.calls.Call.TheVariants.{Open, Step as Stepping, Sign, Revoke, Keep, Release, Close}
use Rattle.book.specs.declared.calls.Entry.{Entry}
use Rattle.book.specs.declared.fulfils.Fulfils.{Fulfils}
use Rattle.book.specs.Books.{ChannelBook, at_index}
use Rattle.book.specs.Knowing.{preimage_in}
use Rattle.book.specs.Kept.{AreLeft}

-- the preimages of each channel's fulfils
abbrev pub Preimages : Type 0
Preimages = List (List (List ℕ))

abbrev pub kept_by : Fulfils → Preimages
kept_by f = map (λ (v : Vec (List ℕ)). v.items) f.channels.items

-- one more channel needs no allocation
abbrev pub HasRoom : Fulfils → Type 0
HasRoom f = vec_len f.channels < vec_capacity f.channels

-- one more preimage of this channel needs no allocation
abbrev pub HasRoomAt : ℕ → Fulfils → Type 0
HasRoomAt c f = (v : Vec (List ℕ)) → slice_get f.channels.items c ≡ Some v → vec_len v < vec_capacity v

-- the preimages after an accepted call: a new channel has none, and a fulfil appends one to those of its channel
abbrev pub preimages_after : Call → Preimages → Preimages
preimages_after (Open o) ps = ps ++ [] ∷ []
preimages_after (Stepping c step) ps = at_index (λ own. own ++ cons_option (preimage_in step) []) c ps
preimages_after (Sign c) ps = ps
preimages_after (Revoke c revocation) ps = ps
preimages_after (Keep c n claims) ps = ps
preimages_after (Release c batch) ps = ps
preimages_after (Close c) ps = ps

-- the preimages after these accepted calls, which have the newest first
abbrev pub preimages_replayed : List Entry → Preimages
preimages_replayed [] = []
preimages_replayed (e ∷ es) = preimages_after e.call (preimages_replayed es)

-- the preimages after a history, which has the oldest entry first
abbrev pub preimages_of : List Entry → Preimages
preimages_of history = preimages_replayed (reverse history)

-- what a book keeps beside its history: the channels that it leaves, and the preimages of each channel's fulfils
pub record AreBeside (history : List Entry) (channels : List (OutPoint × ChannelBook)) (preimages : Preimages) : Type 0 where
  pub left : AreLeft history channels
  pub fulfilled : preimages ≡ preimages_of history
