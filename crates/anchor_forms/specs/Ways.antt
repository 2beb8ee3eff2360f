-- The ways through the scripts of HTLCs in a channel with anchors, in the text order of their branches.
use Rattle.std.specs.Prelude.{ℕ, List, [], ◌∷◌, Some, None}
use Rattle.facts.specs.declared.symbols.KeySourceOver.TheVariants.{Const as FixedKey}
use Rattle.facts.specs.declared.symbols.FactOver.TheVariants.{Is, Form, Token, Assigned, Lock, Age}
use Rattle.facts.specs.Symbols.{Stated}
use Rattle.paths.specs.declared.state.Path.{Path}
use Rattle.paths.specs.Listing.{path_with}
use Rattle.forms.specs.Ways.{yes, key_way, takes_preimage, takes_neither}

-- slot 1 is the signature of this key, one block later
abbrev pub key_signs_later : List ℕ → List Stated
key_signs_later key = yes (Form 1) ∷ yes (Age 1) ∷ yes (Token 1 (FixedKey key)) ∷ []

-- slots 2 and 1 are the signatures of these two keys, one block later, and slot 3 is the empty item below them
abbrev pub both_sign_later : List ℕ → List ℕ → List Stated
both_sign_later remote local = yes (Form 2) ∷ yes (Form 1) ∷ yes (Is 3 []) ∷ yes (Age 1)
    ∷ yes (Assigned (2 ∷ 1 ∷ []) (FixedKey remote ∷ FixedKey local ∷ [])) ∷ []

-- the revocation key's way, the timeout with both keys, and the remote key's way with the preimage: all but the first after one block
abbrev pub offered_with_anchors_ways : (revocation_hash remote local payment_hash : List ℕ)
    → List Path
offered_with_anchors_ways h remote local p =
    key_way h 21
    ∷ path_with 4 (takes_neither h (both_sign_later remote local)) 23 7 None (Some 1)
    ∷ path_with 2 (takes_preimage h p (key_signs_later remote)) 21 5 None (Some 1) ∷ []

-- the revocation key's way, the success with both keys and the preimage, and the remote key's way from a height on: all but the first after one block
abbrev pub received_with_anchors_ways : (revocation_hash remote local payment_hash : List ℕ)
    (expiry_height : ℕ) → List Path
received_with_anchors_ways h remote local p t =
    key_way h 23
    ∷ path_with 4 (takes_preimage h p (both_sign_later remote local)) 25 7 None (Some 1)
    ∷ path_with 2 (takes_neither h (yes (Lock t) ∷ key_signs_later remote)) 23 5 (Some t) (Some 1)
    ∷ []
