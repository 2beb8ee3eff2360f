-- The lengths of items.
use Rattle.std.proofs.Common.{◌≡◌, ℕ, ◌≤◌, true, List, [], ◌∷◌, ◌++◌, length, map, refl, arith, nat_le, eqb, length-append, le-leb}
use Rattle.std.specs.Prelude.{unwrap_or}
use Rattle.std.specs.Str.{bytes_eq}
use Rattle.sha2.specs.Sha256.{sha256}
use Rattle.std.specs.List.{list_all}
use Rattle.std.proofs.lemmas.Bool.{and_parts, and_from, eqb-true}
use Rattle.script.specs.Token.{token_of, is_key}
use Rattle.keys.specs.Rights.{Rights}
use Rattle.claim.specs.declared.parts.Slot.{Slot}
use Rattle.claim.specs.declared.parts.Slot.TheVariants.{Sig, Preimage, Exact}
use Rattle.filling.specs.Filling.{preimage_of, item_for}
use Rattle.filling.specs.Refusals.{IsFillable, AreFillable}
use Rattle.filling.proofs.Fitted.{preimage-found}

token_length : (k d : List ℕ) → is_key k ≡ true → length d ≡ 32 → length (token_of k d) ≤ 10000
unfolding token_of is_key
token_length k d e l =
    let n = eqb-true (length k) 33 (and_parts _ _ e).0 in
    omega (arith, n, l, length-append k (d ++ 1 ∷ []), length-append d (1 ∷ []))

item_short : (d : List ℕ) (r : Rights) (ps : List (List ℕ)) (slot : Slot) → length d ≡ 32 → IsFillable r ps slot → length (item_for d ps slot) ≤ 10000
item_short d r ps (Sig k) l f = token_length k.bytes d k.form l
item_short d r ps (Preimage h) l f =
    let x = unwrap_or (preimage_of ps h) [] in
    let n : length x ≡ 32 = eqb-true (length x) 32 (and_parts (eqb (length x) 32) (bytes_eq (sha256 x) h) (preimage-found ps h f)).0 in
    omega (arith, n)
item_short d r ps (Exact b) l f = omega (arith, b.short)

pub items-short : (d : List ℕ) (r : Rights) (ps : List (List ℕ)) (slots : List Slot) → length d ≡ 32 → AreFillable r ps slots → list_all (λ item. nat_le (length item) 10000) (map (item_for d ps) slots) ≡ true
items-short d r ps [] l f = refl
items-short d r ps (slot ∷ slots) l f = and_from _ _ (le-leb _ _ (item_short d r ps slot l f.0)) (items-short d r ps slots l f.1)
