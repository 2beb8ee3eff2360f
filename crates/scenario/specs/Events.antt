-- The events of a scenario in JSON: arrays whose first item is the event's name, by which `event_of` tells them.
use Rattle.std.specs.Prelude.{ℕ, if◌then◌else◌, List, Option, Some, codes}
use Rattle.std.specs.Str.{bytes_eq}
use Rattle.serde_json.specs.Data.{Data}
use Rattle.scenario.specs.declared.events.Event.{Event}
use Rattle.scenario.specs.declared.events.Event.TheVariants.{Own, Sign, Deliver, Keep, Broadcast, BroadcastHtlc, Blocks, Look, Take, Release, Reorg, Close}
use Rattle.claim.specs.Opcodes.{◌>>=◌}
use Rattle.texts.specs.Values.{first_some, array_of, item_of, tag_of, u64_of, side_of}
use Rattle.texts.specs.Steps.{own_named}

-- an update of a side: its name, the side, the channel, and then the fields that a book's step has there, too
unfoldable pub own_of : List ℕ → Data → Option Event
own_of name d = do
  side ← item_of 1 side_of d
  channel ← item_of 2 u64_of d
  update ← own_named name d
  Some (Own side channel update)

-- a side signs
unfoldable pub sign_of : Data → Option Event
sign_of d = do
  form ← array_of 3 d
  side ← item_of 1 side_of form
  channel ← item_of 2 u64_of form
  Some (Sign side channel)

-- a side receives its oldest message
unfoldable pub deliver_of : Data → Option Event
deliver_of d = do
  form ← array_of 3 d
  side ← item_of 1 side_of form
  channel ← item_of 2 u64_of form
  Some (Deliver side channel)

-- a side keeps penalties
unfoldable pub keep_of : Data → Option Event
keep_of d = do
  form ← array_of 4 d
  side ← item_of 1 side_of form
  channel ← item_of 2 u64_of form
  number ← item_of 3 u64_of form
  Some (Keep side channel number)

-- a commitment is broadcast
unfoldable pub commitment_of : Data → Option Event
commitment_of d = do
  form ← array_of 4 d
  side ← item_of 1 side_of form
  channel ← item_of 2 u64_of form
  number ← item_of 3 u64_of form
  Some (Broadcast side channel number)

-- an HTLC transaction is broadcast
unfoldable pub htlc_transaction_of : Data → Option Event
htlc_transaction_of d = do
  form ← array_of 5 d
  side ← item_of 1 side_of form
  channel ← item_of 2 u64_of form
  number ← item_of 3 u64_of form
  htlc ← item_of 4 u64_of form
  Some (BroadcastHtlc side channel number htlc)

-- a side takes jobs
unfoldable pub take_of : Data → Option Event
take_of d = do
  form ← array_of 3 d
  side ← item_of 1 side_of form
  count ← item_of 2 u64_of form
  Some (Take side count)

-- a side releases claims
unfoldable pub release_of : Data → Option Event
release_of d = do
  form ← array_of 3 d
  side ← item_of 1 side_of form
  count ← item_of 2 u64_of form
  Some (Release side count)

-- a reorganisation replaces the newest blocks
unfoldable pub reorg_of : Data → Option Event
reorg_of d = do
  form ← array_of 3 d
  depth ← item_of 1 u64_of form
  forgotten ← item_of 2 u64_of form
  Some (Reorg depth forgotten)

-- a side closes a channel
unfoldable pub close_of : Data → Option Event
close_of d = do
  form ← array_of 3 d
  side ← item_of 1 side_of form
  channel ← item_of 2 u64_of form
  Some (Close side channel)

-- the chain grows
unfoldable pub blocks_of : Data → Option Event
blocks_of d = do
  form ← array_of 2 d
  count ← item_of 1 u64_of form
  Some (Blocks count)

-- a side reads blocks
unfoldable pub look_of : Data → Option Event
look_of d = do
  form ← array_of 2 d
  side ← item_of 1 side_of form
  Some (Look side)

-- a commitment, or, with a fifth item, the HTLC transaction of that HTLC
unfoldable pub broadcast_of : Data → Option Event
broadcast_of d = first_some (commitment_of d) (htlc_transaction_of d)

-- reads an event by its name
unfoldable pub event_named : List ℕ → Data → Option Event
event_named name d =
    if bytes_eq name (codes "sign") then sign_of d
    else if bytes_eq name (codes "deliver") then deliver_of d
    else if bytes_eq name (codes "keep") then keep_of d
    else if bytes_eq name (codes "broadcast") then broadcast_of d
    else if bytes_eq name (codes "blocks") then blocks_of d
    else if bytes_eq name (codes "look") then look_of d
    else if bytes_eq name (codes "take") then take_of d
    else if bytes_eq name (codes "release") then release_of d
    else if bytes_eq name (codes "reorg") then reorg_of d
    else if bytes_eq name (codes "close") then close_of d
    else own_of name d

-- an array whose first item is the event's name
unfoldable pub event_of : Data → Option Event
event_of d = tag_of d >>= (λ name. event_named name d)
