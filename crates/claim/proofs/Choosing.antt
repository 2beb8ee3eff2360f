-- Choices of keys: by a stronger test, by tests that agree, and where a slot has no key.
use Rattle.std.proofs.Common.{◌≡◌, ℕ, Bool, true, false, ◌&&◌, ◌||◌, not, List, [], ◌∷◌, map, Option, Some, None, sym, ap, ◌∙◌, refl, ⊎_elim, arith}
use Rattle.std.specs.Prelude.{◌+◌, ◌<◌, ◌≤◌, length, drop, if◌then◌else◌, is_some}
use Rattle.std.proofs.Common.{eqb, get_or, add-one, drop-cons}
use Rattle.std.proofs.lemmas.List.{drop_all}
use Rattle.std.specs.Str.{bytes_eq}
use Rattle.std.specs.List.{list_any, list_all}
use Rattle.std.proofs.lemmas.Bool.{or_cases, and_parts, and_from, and_left, and_right, or_from, or_left, or_right, false≢true, eq-eqb, ne_eqb, cases_lt}
use Rattle.script.specs.Token.{token_of, assigned}
use Rattle.facts.specs.Symbols.{KeySource}
use Rattle.claim.specs.Evidence.{exists_choice, is_yes, is_no}
use Rattle.claim.proofs.Telling.{Tells}

abbrev Test : Type 0
Test = ℕ → KeySource → Bool

pub any-mono : {X : Type 0} (p q : X → Bool) → ((x : X) → p x ≡ true → q x ≡ true) → (xs : List X) → list_any p xs ≡ true → list_any q xs ≡ true
any-mono p q h [] e = e
any-mono p q h (x ∷ xs) e = ⊎_elim (λ a. or_left (q x) (list_any q xs) (h x a)) (λ a. or_right (q x) (list_any q xs) (any-mono p q h xs a)) (or_cases (p x) (list_any p xs) e)

pub all-mono : {X : Type 0} (p q : X → Bool) → ((x : X) → p x ≡ true → q x ≡ true) → (xs : List X) → list_all p xs ≡ true → list_all q xs ≡ true
all-mono p q h [] e = e
all-mono p q h (x ∷ xs) e = let w = and_parts (p x) (list_all p xs) e in and_from (q x) (list_all q xs) (h x w.0) (all-mono p q h xs w.1)

-- one more key keeps a choice, and so does one slot fewer
pub more : (p : Test) (is : List ℕ) (k : KeySource) (keys : List KeySource) → exists_choice p is keys ≡ true → exists_choice p is (k ∷ keys) ≡ true
more p [] k keys e = refl
more p (i ∷ is) k keys e = or_right (p i k && exists_choice p is keys) (exists_choice p (i ∷ is) keys) e

pub fewer : (p : Test) (i : ℕ) (is : List ℕ) (keys : List KeySource) → exists_choice p (i ∷ is) keys ≡ true → exists_choice p is keys ≡ true
fewer p i is [] e = absurd (false≢true e)
fewer p i is (k ∷ keys) e =
    ⊎_elim
    (λ h. more p is k keys (and_parts (p i k) (exists_choice p is keys) h).1)
    (λ h. more p is k keys (fewer p i is keys h))
    (or_cases (p i k && exists_choice p is keys) (exists_choice p (i ∷ is) keys) e)

-- each key in turn: taken for the first slot that is left, where it fits
abbrev pub greedy : Test → List ℕ → List KeySource → Bool
greedy p [] keys = true
greedy p (i ∷ is) [] = false
greedy p (i ∷ is) (k ∷ keys) = if p i k then greedy p is keys else greedy p (i ∷ is) keys

or_false : (a : Bool) → (a || false) ≡ a
or_false true = refl
or_false false = refl

taken : (b a c : Bool) → (c ≡ true → a ≡ true) → ((b && a) || c) ≡ (if b then a else c)
taken true a true h = or_right a true refl ∙ sym (h refl)
taken true a false h = or_false a
taken false a c h = refl

-- the greedy choice finds a choice wherever one exists
pub greedy-choice : (p : Test) (is : List ℕ) (keys : List KeySource) → greedy p is keys ≡ exists_choice p is keys
greedy-choice p [] keys = refl
greedy-choice p (i ∷ is) [] = refl
greedy-choice p (i ∷ is) (k ∷ keys) = sym (
    taken (p i k) (exists_choice p is keys) (exists_choice p (i ∷ is) keys) (fewer p i is keys)
    ∙ ap (λ t. if p i k then t else exists_choice p (i ∷ is) keys) (sym (greedy-choice p is keys))
    ∙ ap (λ t. if p i k then greedy p is keys else t) (sym (greedy-choice p (i ∷ is) keys)))

-- a list from an index on
pub split : {X : Type 0} (xs : List X) (i : ℕ) (d : X) → i < length xs → drop i xs ≡ get_or xs i d ∷ drop (i + 1) xs
split xs i d h = rw (add-one, drop-cons xs i d)

pub greedy-taken : (p : Test) (is : List ℕ) (keys : List KeySource) (t j x : ℕ) (y : KeySource) → t < length is → j < length keys → p (get_or is t x) (get_or keys j y) ≡ true → greedy p (drop t is) (drop j keys) ≡ greedy p (drop (t + 1) is) (drop (j + 1) keys)
greedy-taken p is keys t j x y h k e =
    ap (λ l. greedy p l (drop j keys)) (split is t x h)
    ∙ ap (greedy p (get_or is t x ∷ drop (t + 1) is)) (split keys j y k)
    ∙ ap (λ b. if b then greedy p (drop (t + 1) is) (drop (j + 1) keys) else greedy p (get_or is t x ∷ drop (t + 1) is) (drop (j + 1) keys)) e

pub greedy-passed : (p : Test) (is : List ℕ) (keys : List KeySource) (t j x : ℕ) (y : KeySource) → t < length is → j < length keys → p (get_or is t x) (get_or keys j y) ≡ false → greedy p (drop t is) (drop j keys) ≡ greedy p (drop t is) (drop (j + 1) keys)
greedy-passed p is keys t j x y h k e =
    ap (λ l. greedy p l (drop j keys)) (split is t x h)
    ∙ ap (greedy p (get_or is t x ∷ drop (t + 1) is)) (split keys j y k)
    ∙ ap (λ b. if b then greedy p (drop (t + 1) is) (drop (j + 1) keys) else greedy p (get_or is t x ∷ drop (t + 1) is) (drop (j + 1) keys)) e
    ∙ ap (λ l. greedy p l (drop (j + 1) keys)) (sym (split is t x h))

pub greedy-done : (p : Test) (is : List ℕ) (keys : List KeySource) (t : ℕ) → length is ≤ t → greedy p (drop t is) keys ≡ true
greedy-done p is keys t h = ap (λ l. greedy p l keys) (drop_all t is h)

pub greedy-short : (p : Test) (is : List ℕ) (keys : List KeySource) (t j : ℕ) → t < length is → length keys ≤ j → greedy p (drop t is) (drop j keys) ≡ false
greedy-short p is keys t j h k = ap (λ l. greedy p l (drop j keys)) (split is t 0 h) ∙ ap (greedy p (get_or is t 0 ∷ drop (t + 1) is)) (drop_all j keys k)

-- at the end of the keys
pub greedy-end : (p : Test) (is : List ℕ) (keys : List KeySource) (t j : ℕ) → length keys ≤ j → t ≤ length is → eqb t (length is) ≡ greedy p (drop t is) (drop j keys)
greedy-end p is keys t j k h = ⊎_elim
    (λ l. ne_eqb t (length is) (λ e. omega arith) ∙ sym (greedy-short p is keys t j l k))
    (λ g. eq-eqb t (length is) (omega arith) ∙ sym (greedy-done p is (drop j keys) t g))
    (cases_lt t (length is))

-- a weaker test has a choice too
pub choice-mono : (p q : Test) → ((i : ℕ) (k : KeySource) → p i k ≡ true → q i k ≡ true) → (is : List ℕ) (keys : List KeySource) → exists_choice p is keys ≡ true → exists_choice q is keys ≡ true
choice-mono p q h [] keys e = refl
choice-mono p q h (i ∷ is) [] e = e
choice-mono p q h (i ∷ is) (k ∷ keys) e =
    ⊎_elim
    (λ a. let w = and_parts (p i k) (exists_choice p is keys) a in or_left _ _ (and_from (q i k) (exists_choice q is keys) (h i k w.0) (choice-mono p q h is keys w.1)))
    (λ a. or_right (q i k && exists_choice q is keys) _ (choice-mono p q h (i ∷ is) keys a))
    (or_cases (p i k && exists_choice p is keys) (exists_choice p (i ∷ is) keys) e)

-- some slot has no key
abbrev pub Lonely : Test → List ℕ → List KeySource → Type 0
Lonely q is keys = list_any (λ i. list_all (λ key. not (q i key)) keys) is ≡ true

lonely-less : (q : Test) (is : List ℕ) (k : KeySource) (keys : List KeySource) → Lonely q is (k ∷ keys) → Lonely q is keys
lonely-less q is k keys e = any-mono (λ i. list_all (λ key. not (q i key)) (k ∷ keys)) (λ i. list_all (λ key. not (q i key)) keys) (λ i h. (and_parts (not (q i k)) _ h).1) is e

not-true : (b : Bool) → not b ≡ true → b ≡ false
not-true true e = sym e
not-true false e = refl

pub choice-lonely : (q : Test) (is : List ℕ) (keys : List KeySource) → Lonely q is keys → exists_choice q is keys ≡ false
choice-lonely q [] keys e = absurd (false≢true e)
choice-lonely q (i ∷ is) [] e = refl
choice-lonely q (i ∷ is) (k ∷ keys) e =
    or_from (q i k && exists_choice q is keys) (exists_choice q (i ∷ is) keys)
    (⊎_elim
    (λ h. and_left (q i k) (exists_choice q is keys) (not-true (q i k) (and_parts (not (q i k)) (list_all (λ key. not (q i key)) keys) h).0))
    (λ h. and_right (q i k) (exists_choice q is keys) (choice-lonely q is keys (lonely-less q is k keys h)))
    (or_cases (list_all (λ key. not (q i key)) (k ∷ keys)) (list_any (λ j. list_all (λ key. not (q j key)) (k ∷ keys)) is) e))
    (choice-lonely q (i ∷ is) keys (lonely-less q (i ∷ is) k keys e))

-- the tests agree on each slot with each key
abbrev pub Agree : Test → List ℕ → List KeySource → Type 0
Agree r is keys = list_all (λ i. list_all (λ key. r i key) keys) is ≡ true

agree-less : (r : Test) (is : List ℕ) (k : KeySource) (keys : List KeySource) → Agree r is (k ∷ keys) → Agree r is keys
agree-less r is k keys e = all-mono (λ i. list_all (λ key. r i key) (k ∷ keys)) (λ i. list_all (λ key. r i key) keys) (λ i h. (and_parts (r i k) _ h).1) is e

pub choice-agree : (r p q : Test) → ((i : ℕ) (k : KeySource) → r i k ≡ true → p i k ≡ q i k) → (is : List ℕ) (keys : List KeySource) → Agree r is keys → exists_choice p is keys ≡ exists_choice q is keys
choice-agree r p q h [] keys e = refl
choice-agree r p q h (i ∷ is) [] e = refl
choice-agree r p q h (i ∷ is) (k ∷ keys) e =
    let w = and_parts (list_all (λ key. r i key) (k ∷ keys)) (list_all (λ j. list_all (λ key. r j key) (k ∷ keys)) is) e in
    let here = h i k (and_parts (r i k) (list_all (λ key. r i key) keys) w.0).0 in
    let others = choice-agree r p q h is keys (agree-less r is k keys w.1) in
    let passed = choice-agree r p q h (i ∷ is) keys (agree-less r (i ∷ is) k keys e) in
    ap (λ t. (t && exists_choice p is keys) || exists_choice p (i ∷ is) keys) here
    ∙ ap (λ t. (q i k && t) || exists_choice p (i ∷ is) keys) others
    ∙ ap (λ t. (q i k && exists_choice q is keys) || t) passed

-- what tests of three answers show of the choice
yes-so : (o : Option Bool) (t : Bool) → Tells o t → is_yes o ≡ true → t ≡ true
yes-so None t h e = absurd (false≢true e)
yes-so (Some b) t h e = h ∙ e

no-so : (o : Option Bool) (t : Bool) → Tells o t → is_no o ≡ true → not t ≡ true
no-so None t h e = absurd (false≢true e)
no-so (Some b) t h e = ap not h ∙ e

decided-so : (o : Option Bool) (t : Bool) → Tells o t → is_some o ≡ true → is_yes o ≡ t
decided-so None t h e = absurd (false≢true e)
decided-so (Some b) t h e = sym h

abbrev pub shown_choice : (ℕ → KeySource → Option Bool) → List ℕ → List KeySource → Option Bool
shown_choice s is keys =
    if exists_choice (λ i key. is_yes (s i key)) is keys
    then Some true
    else (if list_any (λ i. list_all (λ key. is_no (s i key)) keys) is || list_all (λ i. list_all (λ key. is_some (s i key)) keys) is
    then Some false else None)

by_answer : (a b t : Bool) → (a ≡ true → t ≡ true) → (a ≡ false → b ≡ true → t ≡ false) → Tells (if a then Some true else (if b then Some false else None)) t
by_answer true b t f g = f refl
by_answer false true t f g = g refl refl
by_answer false false t f g = tt

pub choice-tells : (s : ℕ → KeySource → Option Bool) (q : Test) → ((i : ℕ) (k : KeySource) → Tells (s i k) (q i k)) → (is : List ℕ) (keys : List KeySource) → Tells (shown_choice s is keys) (exists_choice q is keys)
choice-tells s q h is keys = by_answer _ _ (exists_choice q is keys)
    (λ e. choice-mono (λ i key. is_yes (s i key)) q (λ i k y. yes-so (s i k) (q i k) (h i k) y) is keys e)
    (λ none e. ⊎_elim
    (λ a. choice-lonely q is keys (any-mono (λ i. list_all (λ key. is_no (s i key)) keys) (λ i. list_all (λ key. not (q i key)) keys) (λ i. all-mono (λ key. is_no (s i key)) (λ key. not (q i key)) (λ k y. no-so (s i k) (q i k) (h i k) y) keys) is a))
    (λ a. sym (choice-agree (λ i key. is_some (s i key)) (λ i key. is_yes (s i key)) q (λ i k y. decided-so (s i k) (q i k) (h i k) y) is keys a) ∙ none)
    (or_cases (list_any (λ i. list_all (λ key. is_no (s i key)) keys) is) (list_all (λ i. list_all (λ key. is_some (s i key)) keys) is) e))

-- the tokens of keys are a choice
pub choice-assigned : (slot : ℕ → List ℕ) (key : KeySource → List ℕ) (d : List ℕ) (is : List ℕ) (keys : List KeySource) → exists_choice (λ i k. bytes_eq (slot i) (token_of (key k) d)) is keys ≡ assigned (map slot is) (map key keys) d
choice-assigned slot key d [] keys = refl
choice-assigned slot key d (i ∷ is) [] = refl
choice-assigned slot key d (i ∷ is) (k ∷ keys) =
    ap (λ t. (bytes_eq (slot i) (token_of (key k) d) && t) || exists_choice (λ i k. bytes_eq (slot i) (token_of (key k) d)) (i ∷ is) keys) (choice-assigned slot key d is keys)
    ∙ ap (λ t. (bytes_eq (slot i) (token_of (key k) d) && assigned (map slot is) (map key keys) d) || t) (choice-assigned slot key d (i ∷ is) keys)
