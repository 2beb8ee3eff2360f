-- Events and scenarios with distinct values in all their parts, and values that just miss the shape.
use Rattle.std.proofs.Common.{◌≡◌, ℕ, List, [], ◌∷◌, Some, None, codes, refl}
use Rattle.std.specs.Prelude.{replicate}
use Rattle.hex.proofs.OnLiterals.{hex_on_literals}
use Rattle.serde_json.specs.Data.{Data, Items, no_items, item, no_members, member, null, number, string, array, object, unsigned}
use Rattle.serde_json.specs.Read.{read}
use Rattle.serde_json.proofs.OnLiterals.{serde_json_on_literals}
use Rattle.terms.specs.declared.sides.Side.TheVariants.{A, B}
use Rattle.updates.specs.declared.changes.OwnUpdate.TheVariants.{Offer, Fulfil, Fail, SetFee}
use Rattle.claim.specs.Opcodes.{◌>>=◌}
use Rattle.texts.specs.Steps.{own_named, own_offer_of, own_fulfil_of, own_fail_of, own_fee_of}
use Rattle.scenario.specs.declared.events.Event.TheVariants.{Own, Sign, Deliver, Keep, Broadcast, BroadcastHtlc, Blocks, Look, Take, Release, Reorg, Close}
use Rattle.scenario.specs.Events.{own_of, sign_of, deliver_of, keep_of, commitment_of, htlc_transaction_of, broadcast_of, blocks_of, look_of, take_of, release_of, reorg_of, close_of, event_named, event_of}
use Rattle.scenario.specs.Scenarios.{scenario_of}

abbrev n : ℕ → Data
n k = number (unsigned k)

-- an array whose first item is a name
abbrev tagged : List ℕ → List Data → Data
tagged name ds = array (item (string name) (items ds))
  where
    items : List Data → Items
    items [] = no_items
    items (d ∷ ds) = item d (items ds)

abbrev a_side : Data
a_side = string (codes "A")

abbrev b_side : Data
b_side = string (codes "B")

-- 32 bytes of 9
abbrev hash : Data
hash = string (codes "0909090909090909090909090909090909090909090909090909090909090909")

abbrev nines : List ℕ
nines = replicate 32 9

channel_events : (event_of (tagged (codes "offer") (a_side ∷ n 1 ∷ n 2 ∷ hash ∷ n 3 ∷ [])) ≡ Some (Own A 1 (Offer 2 nines 3)))
    × (event_of (tagged (codes "fulfil") (b_side ∷ n 1 ∷ n 2 ∷ hash ∷ [])) ≡ Some (Own B 1 (Fulfil 2 nines)))
    × (event_of (tagged (codes "fail") (a_side ∷ n 1 ∷ n 2 ∷ [])) ≡ Some (Own A 1 (Fail 2)))
    × (event_of (tagged (codes "fee") (b_side ∷ n 1 ∷ n 2 ∷ [])) ≡ Some (Own B 1 (SetFee 2)))
    × (event_of (tagged (codes "sign") (a_side ∷ n 1 ∷ [])) ≡ Some (Sign A 1))
    × (event_of (tagged (codes "deliver") (b_side ∷ n 1 ∷ [])) ≡ Some (Deliver B 1))
    × (event_of (tagged (codes "keep") (a_side ∷ n 1 ∷ n 2 ∷ [])) ≡ Some (Keep A 1 2))
unfolding own_of own_named own_offer_of own_fulfil_of own_fail_of own_fee_of sign_of deliver_of keep_of event_named event_of hex_on_literals
channel_events = (refl, refl, refl, refl, refl, refl, refl)

chain_events : (event_of (tagged (codes "broadcast") (a_side ∷ n 1 ∷ n 2 ∷ [])) ≡ Some (Broadcast A 1 2))
    × (event_of (tagged (codes "broadcast") (a_side ∷ n 1 ∷ n 2 ∷ n 3 ∷ [])) ≡ Some (BroadcastHtlc A 1 2 3))
    × (event_of (tagged (codes "broadcast") (a_side ∷ n 1 ∷ [])) ≡ None)
    × (event_of (tagged (codes "blocks") (n 1 ∷ [])) ≡ Some (Blocks 1))
    × (event_of (tagged (codes "look") (b_side ∷ [])) ≡ Some (Look B))
    × (event_of (tagged (codes "take") (b_side ∷ n 1 ∷ [])) ≡ Some (Take B 1))
    × (event_of (tagged (codes "release") (a_side ∷ n 1 ∷ [])) ≡ Some (Release A 1))
    × (event_of (tagged (codes "reorg") (n 1 ∷ n 2 ∷ [])) ≡ Some (Reorg 1 2))
unfolding commitment_of htlc_transaction_of broadcast_of blocks_of look_of take_of release_of reorg_of event_named event_of
chain_events = (refl, refl, refl, refl, refl, refl, refl, refl)

closes : (event_of (tagged (codes "close") (a_side ∷ n 1 ∷ [])) ≡ Some (Close A 1))
    × (event_of (tagged (codes "close") (b_side ∷ n 0 ∷ [])) ≡ Some (Close B 0))
    × (event_of (tagged (codes "close") (a_side ∷ [])) ≡ None)
    × (event_of (tagged (codes "close") (a_side ∷ n 1 ∷ n 2 ∷ [])) ≡ None)
    × (event_of (tagged (codes "close") (n 1 ∷ a_side ∷ [])) ≡ None)
unfolding close_of event_named event_of
closes = (refl, refl, refl, refl, refl)

-- as texts: the channel has at most 64 bits
closes_in_text : (read (codes "[\"close\",\"B\",18446744073709551615]") >>= event_of ≡ Some (Close B 18446744073709551615))
    × (read (codes "[\"close\",\"B\",18446744073709551616]") >>= event_of ≡ None)
unfolding close_of event_named event_of serde_json_on_literals
closes_in_text = (refl, refl)

no_events : (event_of (tagged (codes "rest") []) ≡ None) × (event_of (tagged (codes "blocks") []) ≡ None)
    × (event_of (tagged (codes "blocks") (n 1 ∷ n 1 ∷ [])) ≡ None) × (event_of (array no_items) ≡ None) × (event_of null ≡ None)
    × (event_of (tagged (codes "offer") (a_side ∷ n 1 ∷ n 2 ∷ hash ∷ n 4294967296 ∷ [])) ≡ None)
unfolding own_of own_named own_offer_of blocks_of event_named event_of hex_on_literals
no_events = (refl, refl, refl, refl, refl, refl)

scenarios : (scenario_of (object (member (codes "channels") (array no_items) (member (codes "events") (array (item (tagged (codes "blocks") (n 3 ∷ [])) no_items))
    (member (codes "seeds") (array (item hash (item (string (codes "0808080808080808080808080808080808080808080808080808080808080808")) no_items))) no_members)))) ≡ Some (record { seed_a = replicate 32 9; seed_b = replicate 32 8; channels = []; events = Blocks 3 ∷ [] }))
    × (scenario_of (object (member (codes "channels") (array no_items) (member (codes "events") (array no_items) no_members))) ≡ None)
unfolding scenario_of blocks_of event_named event_of hex_on_literals
scenarios = (refl, refl)
