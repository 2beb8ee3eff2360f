-- What a test of each input says of one, and what is in the lists that functions make.
use Rattle.std.proofs.Common.{◌≡◌, ℕ, zero, suc, Bool, true, false, not, List, [], ◌∷◌, ◌++◌, map, Option, Some, None, sym, ap, ◌∙◌, refl, subst, ⊎_elim}
use Rattle.std.specs.Prelude.{◌||◌}
use Rattle.std.specs.List.{Contains, Any, list_any, list_all, flat_map, cons_option}
use Rattle.std.specs.Str.{bytes_eq}
use Rattle.std.proofs.lemmas.Bool.{false≢true, and_parts}
use Rattle.std.proofs.lemmas.List.Elements.{Contains-append_left, Contains-append_right, Contains-append_cases}
use Rattle.std.proofs.lemmas.Slice.Eq.{bytes_eq-Decides}
use Rattle.tx.specs.declared.input.OutPoint.{OutPoint}
use Rattle.tx.specs.declared.input.TxIn.{TxIn}
use Rattle.tx.specs.Fields.{Transaction, same_outpoint}
use Rattle.chain.specs.Blocks.{Contents as Block}
use Rattle.chain.proofs.Noting.{itself}
use Rattle.safety.specs.Signing.{digest_of}
use Rattle.safety.specs.Standing.{StandsAt}
use Rattle.safety.specs.Premises.{LockedOutput, spend, each_input, if_named, each_spend, has_item}
use Rattle.safety.proofs.Slots.{contains_first, contains_later, contains_cases, same_bytes}
use Rattle.safety.proofs.Lists.{contains_none, any_map, any_found, any_holds}
use Rattle.safety.proofs.Standing.{block_in}

-- ---- lists

pub in_flat : {X Y : Type 0} (f : X → List Y) (xs : List X) (y : Y) → Contains (flat_map f xs) y → (x : X) × Contains xs x × Contains (f x) y
in_flat f [] y c = absurd (contains_none y c)
in_flat {X} {Y} f (x ∷ xs) y c =
    ⊎_elim {C = (z : X) × Contains (x ∷ xs) z × Contains (f z) y} (λ (a : Contains (f x) y). (x, contains_first x xs, a))
    (λ (b : Contains (flat_map f xs) y). let r = in_flat f xs y b in (r.0, contains_later x xs r.0 r.1, r.2))
    (Contains-append_cases (f x) (flat_map f xs) y c)

pub flat_in : {X Y : Type 0} (f : X → List Y) (xs : List X) (x : X) (y : Y) → Contains xs x → Contains (f x) y → Contains (flat_map f xs) y
flat_in f [] x y c d = absurd (contains_none x c)
flat_in {X} {Y} f (z ∷ xs) x y c d =
    ⊎_elim {C = Contains (flat_map f (z ∷ xs)) y} (λ (e : z ≡ x). Contains-append_left (f z) (flat_map f xs) y (subst (λ (w : X). Contains (f w) y) (sym e) d))
    (λ (b : Contains xs x). Contains-append_right (f z) (flat_map f xs) y (flat_in f xs x y b d))
    (contains_cases z xs x c)

pub as_any : {X : Type 0} (P : X → Type 0) (xs : List X) (x : X) → Contains xs x → P x → Any P xs
as_any P xs x (k, l, e) p = (k, x, l, e, p)

pub from_map : {X Y : Type 0} (f : X → Y) (xs : List X) (y : Y) → Contains (map f xs) y → (x : X) × Contains xs x × (f x ≡ y)
from_map {X} {Y} f xs y c = any_map (λ (z : Y). z ≡ y) f xs (as_any (λ (z : Y). z ≡ y) (map f xs) y c refl)

pub in_option : {X : Type 0} (o : Option X) (x : X) → Contains (cons_option o []) x → o ≡ Some x
in_option None x c = absurd (contains_none x c)
in_option {X} (Some y) x c = ⊎_elim {C = Some y ≡ Some x} (λ (e : y ≡ x). ap Some e) (λ (d : Contains [] x). absurd (contains_none x d)) (contains_cases y [] x c)

pub all_hold : {X : Type 0} (p : X → Bool) (xs : List X) → list_all p xs ≡ true → (x : X) → Contains xs x → p x ≡ true
all_hold p [] e x c = absurd (contains_none x c)
all_hold {X} p (y ∷ ys) e x c =
    let r = and_parts (p y) (list_all p ys) e in
    ⊎_elim {C = p x ≡ true} (λ (s : y ≡ x). ap p (sym s) ∙ r.0) (λ (d : Contains ys x). all_hold p ys r.1 x d) (contains_cases y ys x c)

-- ---- items

pub has : (items : List (List ℕ)) (item : List ℕ) → Contains items item → has_item items item ≡ true
has items item c = any_holds (λ (x : List ℕ). bytes_eq x item) items item c ((bytes_eq-Decides item item).1 refl)

pub has_one : (items : List (List ℕ)) (item : List ℕ) → has_item items item ≡ true → Contains items item
has_one items item e =
    let f = any_found (λ (x : List ℕ). bytes_eq x item) items e in
    subst (λ (x : List ℕ). Contains items x) (same_bytes f.0 item f.2) f.1

pub or_then : (a b : Bool) → a ≡ true → (not a || b) ≡ true → b ≡ true
or_then true b e f = f
or_then false b e f = absurd (false≢true e)

-- ---- inputs

pub on_input : (test : Transaction → TxIn → Bool) (blocks : List Block) → each_input test blocks ≡ true → (height : ℕ) (t : Transaction) (input : TxIn) → StandsAt blocks height t → Contains t.inputs input
    → test t input ≡ true
on_input test blocks e height t input s i =
    let b = all_hold (λ (x : Block). list_all (λ (u : Transaction). list_all (test u) u.inputs) x.transactions) blocks e s.block (block_in blocks height t s) in
    let u = all_hold (λ (u : Transaction). list_all (test u) u.inputs) s.block.transactions b t s.within in
    all_hold (test t) t.inputs u input i

pub on_spend : (test : List (List ℕ) → List ℕ → Bool) (ws : List LockedOutput) (t : Transaction) (input : TxIn) → each_spend test ws t input ≡ true → (w : LockedOutput) → Contains ws w → input.outpoint ≡ w.place.outpoint
    → test input.witness (digest_of (spend w t input)) ≡ true
on_spend test ws t input e w i names =
    let p = all_hold (λ (x : LockedOutput). if_named (same_outpoint input.outpoint x.place.outpoint) (test input.witness) x t input) ws e w i in
    let here : same_outpoint input.outpoint w.place.outpoint ≡ true = ap (λ (o : OutPoint). same_outpoint input.outpoint o) (sym names) ∙ itself input.outpoint in
    sym (ap (λ (b : Bool). if_named b (test input.witness) w t input) here) ∙ p
