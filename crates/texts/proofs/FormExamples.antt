-- The shapes with distinct values in all their parts, and values that just miss a shape.
use Rattle.std.proofs.Common.{◌≡◌, ℕ, List, [], ◌∷◌, Some, None, codes, refl}
use Rattle.std.specs.Prelude.{replicate}
use Rattle.hex.proofs.OnLiterals.{hex_on_literals}
use Rattle.serde_json.specs.Data.{Data, Items, Members, no_items, item, no_members, member, null, number, string, array, object, unsigned}
use Rattle.terms.specs.declared.sides.Side.TheVariants.{B}
use Rattle.updates.specs.declared.changes.Update.TheVariants as update
use Rattle.texts.specs.Terms.{terms_of}
use Rattle.texts.specs.Messages as message
use Rattle.texts.specs.Messages.{update_of, update_named}
use Rattle.texts.specs.Outputs.{output_of}

abbrev n : ℕ → Data
n k = number (unsigned k)

abbrev pair : ℕ → ℕ → Data
pair a b = array (item (n a) (item (n b) no_items))

-- the members of terms after `capacity`; each pair has two distinct values
abbrev others : Members
others =
    member (codes "delay") (pair 2 3) (member (codes "dust") (pair 4 5) (member (codes "feerate") (n 6) (member (codes "minimum") (pair 7 8)
    (member (codes "opener") (string (codes "B")) (member (codes "start") (pair 9 10) no_members)))))

terms : (terms_of (object (member (codes "capacity") (n 1) others)) ≡ Some (record {
  capacity_sat = 1;
  opener = B;
  feerate_per_kw = 6;
  a = record { dust_sat = 4; delay_blocks = 2; minimum_msat = 7; start_msat = 9 };
  b = record { dust_sat = 5; delay_blocks = 3; minimum_msat = 8; start_msat = 10 };
}))
    × (terms_of (object others) ≡ None)
    × (terms_of (object (member (codes "capacities") (n 1) others)) ≡ None)
    × (terms_of (object (member (codes "base") (n 1) (member (codes "capacity") (n 1) others))) ≡ None)
    × (terms_of (object (member (codes "capacity") (pair 1 1) others)) ≡ None)
    × (terms_of null ≡ None)
unfolding terms_of
terms = (refl, refl, refl, refl, refl, refl)

-- an array whose first item is a name
abbrev tagged : List ℕ → List Data → Data
tagged name ds = array (item (string name) (items ds))
  where
    items : List Data → Items
    items [] = no_items
    items (d ∷ ds) = item d (items ds)

-- 32 bytes
abbrev hash : Data
hash = string (codes "0909090909090909090909090909090909090909090909090909090909090909")

abbrev nines : List ℕ
nines = replicate 32 9

updates : (update_of (tagged (codes "add") (n 1 ∷ n 2 ∷ hash ∷ n 3 ∷ [])) ≡ Some (update.Add (record { id = 1; amount_msat = 2; hash = nines; expiry_height = 3 })))
    × (update_of (tagged (codes "fulfil") (n 1 ∷ hash ∷ [])) ≡ Some (update.Fulfil 1 nines))
    × (update_of (tagged (codes "fail") (n 1 ∷ [])) ≡ Some (update.Fail 1))
    × (update_of (tagged (codes "fee") (n 1 ∷ [])) ≡ Some (update.Fee 1))
    × (update_of (tagged (codes "fee") (n 4294967296 ∷ [])) ≡ None)
    × (update_of (tagged (codes "offer") (n 1 ∷ n 2 ∷ hash ∷ n 3 ∷ [])) ≡ None)
unfolding message.add_of message.fulfil_of message.fail_of message.fee_of update_named update_of hex_on_literals
updates = (refl, refl, refl, refl, refl, refl)

outputs : (output_of (array (item (n 7) (item (string (codes "0102")) no_items))) ≡ Some (record { value = 7; script = 1 ∷ 2 ∷ [] }))
    × (output_of (array (item (n 2100000000000000) (item (string []) no_items))) ≡ Some (record { value = 2100000000000000; script = [] }))
    × (output_of (array (item (n 2100000000000001) (item (string []) no_items))) ≡ None)
    × (output_of (array (item (string []) (item (n 7) no_items))) ≡ None)
unfolding output_of hex_on_literals
outputs = (refl, refl, refl, refl)
