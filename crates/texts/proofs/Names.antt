-- If an object has a member for each of some distinct names, and no more members than names, these are the names of all its members.
use Rattle.std.proofs.Common.{◌≡◌, ℕ, suc, ◌==◌, ◌||◌, Bool, true, false, true≢false, List, [], ◌∷◌, ◌++◌, length, Option, Some, None, is_some, Ordering, Less, Equal, Greater, is_eq, nat_cmp, bytes_eq, if◌then◌else◌, length-append, ⊎_elim, refl, sym, ap, ◌∙◌, arith}
use Rattle.std.specs.Ordering.{match_ordering}
use Rattle.std.specs.Set.{is_member}
use Rattle.std.specs.List.{IsDistinct}
use Rattle.std.specs.Cmp.Lexicographic.{slice_cmp, nat_list_eq_equiv}
use Rattle.std.proofs.lemmas.Bool.{eqb-true, or_cases}
use Rattle.std.proofs.lemmas.List.Folds.{list_any-append}
use Rattle.std.proofs.lemmas.Map.Keys.{IsDistinct-push}
use Rattle.std.proofs.lemmas.Map.Made.{length-le_from_is_member}
use Rattle.std.proofs.lemmas.Map.Text.{is_eq-slice_cmp}
use Rattle.std.proofs.lemmas.Slice.Eq.{bytes_eq-Decides}
use Rattle.serde_json.specs.Data.{Data, null, boolean, number, string, array, object, Members, no_members, member}
use Rattle.serde_json.specs.Find.{get_member}
use Rattle.texts.specs.Values.{member_count}
use Rattle.texts.specs.Names.{NamesAreAll}

abbrev names_of : Members → List (List ℕ)
names_of no_members = []
names_of (member name d ms) = name ∷ names_of ms

count_is : (ms : Members) → length (names_of ms) ≡ member_count ms
count_is no_members = refl
count_is (member name d ms) = ap suc (count_is ms)

found_here : (o : Ordering) (d : Data) (rest : Option Data) → is_some (match_ordering o rest (Some d) rest) ≡ (is_eq o || is_some rest)
found_here Less d rest = refl
found_here Equal d rest = refl
found_here Greater d rest = refl

found_is : (name : List ℕ) (ms : Members) → is_some (get_member name ms) ≡ is_member bytes_eq (names_of ms) name
found_is name no_members = refl
found_is name (member other d ms) = found_here (slice_cmp nat_cmp name other) d (get_member name ms) ∙ rw (is_eq-slice_cmp name other, found_is name ms) refl

-- another name would be one too many
no_more : (names : List (List ℕ)) (ms : Members) → IsDistinct bytes_eq names → member_count ms ≡ length names
    → ((name : List ℕ) → is_member bytes_eq names name ≡ true → is_some (get_member name ms) ≡ true)
    → (name : List ℕ) (known : Bool) → is_member bytes_eq names name ≡ known → is_some (get_member name ms) ≡ true → is_member bytes_eq names name ≡ true
no_more names ms distinct count all name true e found = e
no_more names ms distinct count all name false e found =
    absurd (omega (arith, count, count_is ms, length-append names (name ∷ []), length-le_from_is_member nat_list_eq_equiv (names ++ name ∷ []) (names_of ms) (IsDistinct-push nat_list_eq_equiv names name distinct e) each))
  where
    last : (other : List ℕ) → is_member bytes_eq (name ∷ []) other ≡ true → is_some (get_member other ms) ≡ true
    last other h = ⊎_elim
        (λ same. ap (λ n. is_some (get_member n ms)) ((bytes_eq-Decides other name).0 same) ∙ found)
        (λ none. absurd (true≢false (sym none)))
        (or_cases (bytes_eq other name) false h)

    each : (other : List ℕ) → is_member bytes_eq (names ++ name ∷ []) other ≡ true → is_member bytes_eq (names_of ms) other ≡ true
    each other h = sym (found_is other ms) ∙ ⊎_elim
        (λ before. all other before)
        (λ after. last other after)
        (or_cases (is_member bytes_eq names other) (is_member bytes_eq (name ∷ []) other) (sym (list_any-append (bytes_eq other) names (name ∷ [])) ∙ h))

counted : (test : Bool) (d : Data) → is_some (if test then Some d else None) ≡ true → test ≡ true
counted true d h = refl
counted false d h = h

pub names_are_all : NamesAreAll
names_are_all names null distinct counts all name found = absurd (true≢false (sym found))
names_are_all names (boolean b) distinct counts all name found = absurd (true≢false (sym found))
names_are_all names (number n) distinct counts all name found = absurd (true≢false (sym found))
names_are_all names (string s) distinct counts all name found = absurd (true≢false (sym found))
names_are_all names (array ds) distinct counts all name found = absurd (true≢false (sym found))
names_are_all names (object ms) distinct counts all name found =
    no_more names ms distinct (eqb-true (member_count ms) (length names) (counted (member_count ms == length names) (object ms) counts)) all name (is_member bytes_eq names name) refl found
