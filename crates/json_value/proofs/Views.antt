-- A value, level by level, and the members of an object.
use Rattle.std.proofs.Common.{◌≡◌, ℕ, zero, suc, ◌+◌, ◌<◌, ◌≤◌, List, [], ◌∷◌, length, drop, get_or, Option, Some, None, String, Vec, Global, Ordering, Less, Equal, Greater, string_bytes, string_cmp, nat_cmp, true, false, bytes_eq, refl, ap, ◌∙◌, arith, rules, drop-cons, add-one}
use Rattle.std.proofs.lemmas.List.{drop_all}
use Rattle.std.proofs.lemmas.Map.Text.{is_eq-slice_cmp}
use Rattle.std.specs.Cmp.Lexicographic.{slice_cmp}
use Rattle.std.specs.Ordering.{match_ordering, is_eq}
use Rattle.std.specs.BTreeMap.{insert_entry}
use Rattle.serde_json.specs.Data.{Data, array, object, put}
use Rattle.serde_json.specs.Find.{get_member, get_item}
use Rattle.json_value.specs.View.{view, items_view, members_view}
use Rattle.json_value.specs.declared.value.Value.{Value, Array, Object, the_lemmas}

abbrev pub Entry : Type 0
Entry = String Global × Value

pub view-Array : (v : Vec Value Global) → view (Array v) ≡ array (items_view v.items)
view-Array v = search (rules, the_lemmas)

pub view-Object : (m : Vec Entry Global) → view (Object m) ≡ object (members_view m.items)
view-Object m = search (rules, the_lemmas)

members_view-match_ordering : (o : Ordering) (a b c : List Entry) → members_view (match_ordering o a b c) ≡ match_ordering o (members_view a) (members_view b) (members_view c)
members_view-match_ordering Less a b c = refl
members_view-match_ordering Equal a b c = refl
members_view-match_ordering Greater a b c = refl

pub members_view-insert_entry : (es : List Entry) (k : String Global) (v : Value) → members_view (insert_entry string_cmp es k v) ≡ put (string_bytes k) (view v) (members_view es)
members_view-insert_entry [] k v = refl
members_view-insert_entry (e ∷ es) k v = members_view-match_ordering (string_cmp k e.0) _ _ _ ∙ rw (members_view-insert_entry es k v)

split : (es : List Entry) (i : ℕ) (d e : Entry) → i < length es → e ≡ get_or es i d → drop i es ≡ e ∷ drop (i + 1) es
split es i d e h is = rw (add-one, is) (drop-cons es i d h)

hit : (o : Ordering) (here rest : Option Data) → is_eq o ≡ true → match_ordering o rest here rest ≡ here
hit Less here rest e = absurd (cc)
hit Equal here rest e = refl
hit Greater here rest e = absurd (cc)

miss : (o : Ordering) (here rest : Option Data) → is_eq o ≡ false → match_ordering o rest here rest ≡ rest
miss Less here rest e = refl
miss Equal here rest e = absurd (cc)
miss Greater here rest e = refl

-- the member at an index has the name
pub found_at : (name : List ℕ) (es : List Entry) (i : ℕ) (d e : Entry) → i < length es → e ≡ get_or es i d → bytes_eq name (string_bytes e.0) ≡ true → get_member name (members_view (drop i es)) ≡ Some (view e.1)
found_at name es i d e h is named =
    ap (λ xs. get_member name (members_view xs)) (split es i d e h is)
    ∙ hit (slice_cmp nat_cmp name (string_bytes e.0)) (Some (view e.1)) (get_member name (members_view (drop (i + 1) es))) (is_eq-slice_cmp name (string_bytes e.0) ∙ named)

-- it has another
pub passed_at : (name : List ℕ) (es : List Entry) (i : ℕ) (d e : Entry) → i < length es → e ≡ get_or es i d → bytes_eq name (string_bytes e.0) ≡ false → get_member name (members_view (drop i es)) ≡ get_member name (members_view (drop (i + 1) es))
passed_at name es i d e h is other =
    ap (λ xs. get_member name (members_view xs)) (split es i d e h is)
    ∙ miss (slice_cmp nat_cmp name (string_bytes e.0)) (Some (view e.1)) (get_member name (members_view (drop (i + 1) es))) (is_eq-slice_cmp name (string_bytes e.0) ∙ other)

-- nothing is left
pub none_left : (name : List ℕ) (es : List Entry) (i : ℕ) → length es ≤ i → get_member name (members_view (drop i es)) ≡ None
none_left name es i h = ap (λ xs. get_member name (members_view xs)) (drop_all i es h)

pub get_item_within : (vs : List Value) (i : ℕ) (d : Value) → i < length vs → Some (view (get_or vs i d)) ≡ get_item i (items_view vs)
get_item_within [] i d h = absurd (omega arith)
get_item_within (v ∷ vs) zero d h = refl
get_item_within (v ∷ vs) (suc i) d h = get_item_within vs i d (omega arith)

pub get_item_past : (vs : List Value) (i : ℕ) → length vs ≤ i → None ≡ get_item i (items_view vs)
get_item_past [] i h = refl
get_item_past (v ∷ vs) zero h = absurd (omega arith)
get_item_past (v ∷ vs) (suc i) h = get_item_past vs i (omega arith)
