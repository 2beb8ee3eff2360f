-- Claims with distinct values in all their parts, and values that just miss the shape.
use Rattle.std.proofs.Common.{◌≡◌, ℕ, true, false, List, [], ◌∷◌, Some, None, codes, refl}
use Rattle.std.specs.Prelude.{replicate, is_some}
use Rattle.hex.proofs.OnLiterals.{hex_on_literals}
use Rattle.serde_json.specs.Data.{Data, Members, no_items, item, no_members, member, null, number, string, array, object, unsigned}
use Rattle.script.specs.Token.{is_key}
use Rattle.keys.specs.declared.compressed.Key.{Key}
use Rattle.claim.specs.declared.parts.Slot.TheVariants.{Sig, Preimage}
use Rattle.claim.specs.declared.parts.Shell.TheVariants.{Open}
use Rattle.texts.specs.Keys.{key_of}
use Rattle.texts.specs.Outpoints.{digits_from, outpoint_in}
use Rattle.texts.specs.Claims.{sig_of, preimage_of, exact_of, slot_named, slot_of, witness_item_of, shell_of, claim_of}

abbrev n : ℕ → Data
n k = number (unsigned k)

abbrev text : List ℕ → Data
text s = string s

abbrev pair : Data → Data → Data
pair a b = array (item a (item b no_items))

-- the key 02 11 11 ..
abbrev key_text : Data
key_text = text (codes "021111111111111111111111111111111111111111111111111111111111111111")

abbrev key : Key
unfolding is_key
key = record { bytes = 2 ∷ replicate 32 17; form = refl }

keys : (key_of key_text ≡ Some key)
    × (is_some (key_of (text (codes "031111111111111111111111111111111111111111111111111111111111111111"))) ≡ true)
    × (key_of (text (codes "041111111111111111111111111111111111111111111111111111111111111111")) ≡ None)
    × (key_of (text (codes "1111111111111111111111111111111111111111111111111111111111111111")) ≡ None)
    × (key_of (text (codes "02111111111111111111111111111111111111111111111111111111111111111111")) ≡ None)
unfolding is_key hex_on_literals
keys = (refl, refl, refl, refl, refl)

-- 32 bytes of 9
abbrev hash_text : Data
hash_text = text (codes "0909090909090909090909090909090909090909090909090909090909090909")

slots : (slot_of (pair (text (codes "sig")) key_text) ≡ Some (Sig key))
    × (slot_of (pair (text (codes "preimage")) hash_text) ≡ Some (Preimage (replicate 32 9)))
    × (slot_of (pair (text (codes "sig")) hash_text) ≡ None)
    × (slot_of (pair (text (codes "preimage")) key_text) ≡ None)
    × (is_some (slot_of (pair (text (codes "exact")) (text []))) ≡ true)
    × (slot_of (pair (text (codes "open")) (text [])) ≡ None)
    × (slot_of (array (item (text (codes "exact")) no_items)) ≡ None)
unfolding sig_of preimage_of exact_of slot_named slot_of is_key hex_on_literals
slots = (refl, refl, refl, refl, refl, refl, refl)

-- at most 520 bytes
limits : (is_some (witness_item_of (text (replicate 1040 48))) ≡ true) × (is_some (witness_item_of (text (replicate 1042 48))) ≡ false)
unfolding hex_on_literals
limits = (refl, refl)

shells : (shell_of null ≡ Some Open) × (shell_of (n 0) ≡ None) × (shell_of (text (codes "0")) ≡ None)
unfolding shell_of hex_on_literals
shells = (refl, refl, refl)

-- the members of a claim after `outpoint`
abbrev others : Members
others =
    member (codes "path") (n 2) (member (codes "program") (text (codes "03")) (member (codes "script") (text (codes "04")) (member (codes "shell") null
    (member (codes "slots") (array (item (pair (text (codes "sig")) key_text) no_items)) (member (codes "value") (n 5) no_members)))))

claims : (claim_of (object (member (codes "outpoint") (text (codes "0909090909090909090909090909090909090909090909090909090909090909:1")) others)) ≡ Some (record {
  script = 4 ∷ [];
  path = 2;
  slots = Sig key ∷ [];
  place = record { outpoint = record { txid = replicate 32 9; index = 1 }; value = 5; program = 3 ∷ [] };
  shell = Open;
}))
    × (claim_of (object others) ≡ None)
    × (claim_of (object (member (codes "age") (n 1) (member (codes "outpoint") (text (codes "0909090909090909090909090909090909090909090909090909090909090909:1")) others))) ≡ None)
unfolding claim_of sig_of slot_named slot_of shell_of outpoint_in digits_from is_key hex_on_literals
claims = (refl, refl, refl)
