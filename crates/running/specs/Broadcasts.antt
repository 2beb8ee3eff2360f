-- What a side broadcasts.
use Rattle.std.specs.Prelude.{◌≡◌, ℕ, List, ◌++◌, Option, Some, None, Result, Ok, Err, ok_or, slice_get}
use Rattle.tx.specs.Fields.{Transaction}
use Rattle.scenario.specs.declared.events.Event.{Event}
use Rattle.scenario.specs.declared.events.Event.TheVariants as events
use Rattle.book.specs.declared.errors.KnowError.{KnowError}
use Rattle.book.specs.declared.errors.KnowError.TheVariants as knows
use Rattle.book.specs.Books.{ChannelBook, replay}
use Rattle.book.specs.Knowing.{preimages_in}
use Rattle.desk.specs.Histories.{History}
use Rattle.world.specs.declared.errors.EventError.{EventError}
use Rattle.world.specs.declared.errors.EventError.TheVariants.{NoSuchChannel, NoSuchTx}
use Rattle.world.specs.Publishing.{commitment_in, closing_in, htlc_tx_in}
use Rattle.running.specs.declared.chain_thread.Broadcast.{Broadcast}
use Rattle.running.specs.declared.chain_thread.Choice.{Choice}
use Rattle.running.specs.declared.chain_thread.Choice.TheVariants.{Commitment, Newest, HtlcTx}

-- what an event broadcasts, if it does: the commitment or the HTLC transaction that it names, and a close the side's newest commitment
abbrev pub broadcast_in : Event → Option Broadcast
broadcast_in (events.Broadcast s c n) = Some (record { side = s; channel = c; choice = Commitment n })
broadcast_in (events.BroadcastHtlc s c n h) = Some (record { side = s; channel = c; choice = HtlcTx n h })
broadcast_in (events.Close s c) = Some (record { side = s; channel = c; choice = Newest })
broadcast_in event = None

-- the transaction that is chosen in a channel of a history, as in a world: NoSuchChannel, NoSuchTx. Beside the preimages of the channel's fulfils are any that blocks showed: nothing is known
-- of what threads share
abbrev pub IsFoundBy : History → ℕ → Choice → Option ChannelBook → Result Transaction EventError → Type 0
IsFoundBy history c (Commitment number) there answer = answer ≡ commitment_in number there
IsFoundBy history c Newest there answer = answer ≡ closing_in there
IsFoundBy history c (HtlcTx number htlc) there answer = (learnt : List (List ℕ)) × (answer ≡ htlc_tx_in number htlc (preimages_in c history ++ learnt) there)

abbrev pub IsBroadcast : History → Broadcast → Result Transaction EventError → Type 0
IsBroadcast history b answer = IsFoundBy history b.channel b.choice (slice_get (replay history) b.channel) answer

-- the same as a desk tells it
abbrev pub IsToldBy : History → ℕ → Choice → Option ChannelBook → Result (Option Transaction) KnowError → Type 0
IsToldBy history c choice there (Ok tx) = IsFoundBy history c choice there (ok_or tx NoSuchTx)
IsToldBy history c choice there (Err knows.NoMemory) = Unit {0}
IsToldBy history c choice there (Err knows.NoSuchChannel) = IsFoundBy history c choice there (Err NoSuchChannel)

abbrev pub IsTold : History → Broadcast → Result (Option Transaction) KnowError → Type 0
IsTold history b told = IsToldBy history b.channel b.choice (slice_get (replay history) b.channel) told
