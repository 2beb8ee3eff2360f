-- What a map from ids holds after a change.
use Rattle.std.proofs.Common.{◌≡◌, ℕ, suc, ◌<◌, Bool, true, false, cond, ◌==◌, List, [], ◌∷◌, length, Option, Some, None, nat_cmp, sym, ap, ◌∙◌, refl, arith, ne_eqb, eq-eqb}
use Rattle.std.specs.Prelude.{is_some, IfSome, if◌then◌else◌}
use Rattle.std.specs.Ordering.{is_eq}
use Rattle.std.specs.Cmp.Lexicographic.{slice_cmp}
use Rattle.std.specs.Option.{option_or}
use Rattle.std.specs.BTreeMap.{BTreeMap}
use Rattle.std.specs.Str.{bytes_eq}
use Rattle.std.proofs.lemmas.Bool.{false≢true}
use Rattle.std.proofs.lemmas.Map.Text.{is_eq-slice_cmp}
use Rattle.std.proofs.lemmas.Slice.Eq.{bytes_eq-Decides}
use Rattle.tx.specs.Spelling.{transaction_id}
use Rattle.sights.specs.declared.sighted.Sighted.{Sighted}
use Rattle.sights.specs.declared.origins.Origin.{Origin}
use Rattle.sights.specs.Origins.{origin, origin_of, origin_in, unless_number, without}

same : (a b : List ℕ) → bytes_eq a b ≡ true → a ≡ b
same a b e = (bytes_eq-Decides a b).0 e

or_nothing : (x : Option Origin) → x ≡ option_or x None
or_nothing None = refl
or_nothing (Some o) = refl

nothing : (x : Option Origin) → is_some x ≡ false → x ≡ None
nothing None e = refl
nothing (Some o) e = absurd (false≢true (sym e))

more_here : (f : List ℕ → Option Origin) (id : List ℕ) (o : Origin) (q : List ℕ) (t : Bool) → f id ≡ None → bytes_eq id q ≡ t → cond t (Some o) (f q) ≡ option_or (f q) (if t then Some o else None)
more_here f id o q true none e = ap (λ x. option_or x (Some o)) (sym none ∙ ap f (same id q e))
more_here f id o q false none e = or_nothing (f q)

-- one more transaction, where none has its id
pub one_more : (m n : BTreeMap (List ℕ) Origin) (id : List ℕ) (o : Origin) → is_some (origin_in m id) ≡ false → ((q : List ℕ) → origin_in n q ≡ cond (is_eq (slice_cmp nat_cmp id q)) (Some o) (origin_in m q))
    → (q : List ℕ) → origin_in n q ≡ option_or (origin_in m q) (if bytes_eq id q then Some o else None)
one_more m n id o none u q =
    u q ∙ ap (λ t. cond t (Some o) (origin_in m q)) (is_eq-slice_cmp id q) ∙ more_here (λ i. origin_in m i) id o q (bytes_eq id q) (nothing (origin_in m id) none) refl

or_some : (x y : Option Origin) → is_some x ≡ true → x ≡ option_or x y
or_some None y e = absurd (false≢true e)
or_some (Some o) y e = refl

already_here : (f : List ℕ → Option Origin) (id : List ℕ) (o : Origin) (q : List ℕ) (t : Bool) → is_some (f id) ≡ true → bytes_eq id q ≡ t → f q ≡ option_or (f q) (if t then Some o else None)
already_here f id o q true some e = or_some (f q) (Some o) (ap (λ i. is_some (f i)) (sym (same id q e)) ∙ some)
already_here f id o q false some e = or_nothing (f q)

-- and where one has it already, the first remains
pub one_already : (m : BTreeMap (List ℕ) Origin) (id : List ℕ) (o : Origin) → is_some (origin_in m id) ≡ true → (q : List ℕ) → origin_in m q ≡ option_or (origin_in m q) (if bytes_eq id q then Some o else None)
one_already m id o some q = already_here (λ i. origin_in m i) id o q (bytes_eq id q) some refl

taken : (f : List ℕ → Option Origin) (id : List ℕ) (number : ℕ) (o : Origin) (q : List ℕ) (t : Bool) → f id ≡ Some o → (o.number == number) ≡ true → bytes_eq id q ≡ t → cond t None (f q) ≡ without t number (f q)
taken f id number o q true e n s = sym (ap (unless_number number) (sym (ap f (same id q s)) ∙ e) ∙ ap (λ (b : Bool). if b then None else Some o) n)
taken f id number o q false e n s = refl

-- what has an id is removed, if it has this number
pub taken_away : (m n : BTreeMap (List ℕ) Origin) (id : List ℕ) (number : ℕ) (o : Origin) → origin_in m id ≡ Some o → (o.number == number) ≡ true
    → ((q : List ℕ) → origin_in n q ≡ cond (is_eq (slice_cmp nat_cmp id q)) None (origin_in m q)) → (q : List ℕ) → origin_in n q ≡ without (bytes_eq id q) number (origin_in m q)
taken_away m n id number o e h u q = u q ∙ ap (λ t. cond t None (origin_in m q)) (is_eq-slice_cmp id q) ∙ taken (λ i. origin_in m i) id number o q (bytes_eq id q) e h refl

-- ---- beside the list

-- one more is the newest of the list
pub pushed : (ss : List Sighted) (s : Sighted) (f g : List ℕ → Option Origin) (id : List ℕ) (o : Origin) → id ≡ transaction_id s.tx → o ≡ origin s (length ss) → ((q : List ℕ) → f q ≡ origin_of q ss)
    → ((q : List ℕ) → g q ≡ option_or (f q) (if bytes_eq id q then Some o else None)) → (q : List ℕ) → g q ≡ origin_of q (s ∷ ss)
pushed ss s f g id o same_id same_origin i u q =
    u q ∙ ap (λ (x : Option Origin). option_or x (if bytes_eq id q then Some o else None)) (i q)
    ∙ ap (λ (k : List ℕ). option_or (origin_of q ss) (if bytes_eq k q then Some o else None)) same_id
    ∙ ap (λ (y : Origin). option_or (origin_of q ss) (if bytes_eq (transaction_id s.tx) q then Some y else None)) same_origin

or_below : (n : ℕ) (x : Option Origin) (t : Bool) (o : Origin) → o.number ≡ n → IfSome x (λ y. y.number < n) → IfSome (option_or x (if t then Some o else None)) (λ y. y.number < suc n)
or_below n (Some y) t o e low = omega (arith, low)
or_below n None true o e low = omega (arith, e)
or_below n None false o e low = tt

below : (q : List ℕ) (ss : List Sighted) → IfSome (origin_of q ss) (λ y. y.number < length ss)
below q [] = tt
below q (s ∷ ss) = or_below (length ss) (origin_of q ss) (bytes_eq (transaction_id s.tx) q) (origin s (length ss)) refl (below q ss)

undone : (n : ℕ) (x : Option Origin) (t : Bool) (o : Origin) → o.number ≡ n → IfSome x (λ y. y.number < n) → without t n (option_or x (if t then Some o else None)) ≡ x
undone n x false o e low = sym (or_nothing x)
undone n None true o e low = ap (λ (b : Bool). if b then None else Some o) (eq-eqb o.number n e)
undone n (Some y) true o e low = ap (λ (b : Bool). if b then None else Some y) (ne_eqb y.number n (λ same. omega (arith, same, low)))

-- and is removed again
pub popped : (ss : List Sighted) (s : Sighted) (f g : List ℕ → Option Origin) (id : List ℕ) (number : ℕ) → id ≡ transaction_id s.tx → number ≡ length ss → ((q : List ℕ) → f q ≡ origin_of q (s ∷ ss))
    → ((q : List ℕ) → g q ≡ without (bytes_eq id q) number (f q)) → (q : List ℕ) → g q ≡ origin_of q ss
popped ss s f g id number same_id same_number i u q =
    u q ∙ ap (without (bytes_eq id q) number) (i q)
    ∙ ap (λ (k : List ℕ). without (bytes_eq k q) number (origin_of q (s ∷ ss))) same_id
    ∙ ap (λ (n : ℕ). without (bytes_eq (transaction_id s.tx) q) n (origin_of q (s ∷ ss))) same_number
    ∙ undone (length ss) (origin_of q ss) (bytes_eq (transaction_id s.tx) q) (origin s (length ss)) refl (below q ss)
