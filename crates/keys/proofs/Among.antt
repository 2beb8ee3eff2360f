-- Whether a key is in a list of keys.
use Rattle.std.proofs.Common.{◌≡◌, ℕ, ◌⊎◌, inl, inr, Bool, true, false, ◌||◌, List, [], ◌∷◌, ◌++◌, sym, ap, ◌∙◌, refl, arith}
use Rattle.std.specs.Prelude.{Contains}
use Rattle.std.specs.List.{flat_map}
use Rattle.std.specs.Str.{bytes_eq}
use Rattle.std.proofs.lemmas.Slice.Eq.{bytes_eq-Decides}
use Rattle.std.proofs.lemmas.Bool.{or_cases, false≢true}
use Rattle.std.proofs.lemmas.Grind.{flat_map-append}
use Rattle.std.proofs.lemmas.List.Elements.{Contains-append_cases, Contains-append_left, Contains-append_right, Contains-push, Contains-push_cases}
use Rattle.keys.specs.declared.bases.Base.{Base}
use Rattle.keys.specs.declared.bases.Base.TheVariants.{Funding, Payment, Delayed, Htlc, Revocation}
use Rattle.keys.specs.Derivation.{point_of}
use Rattle.keys.specs.Keys.{at_each, keys_at, revocations_at, learnt_keys, is_among}

-- a disjunction, from either side
pub here : (a b : Bool) → a ≡ true → (a || b) ≡ true
here true b e = refl
here false b e = absurd (false≢true e)

pub there : (a b : Bool) → b ≡ true → (a || b) ≡ true
there true b e = refl
there false b e = e

pub or_assoc : (a b c : Bool) → ((a || b) || c) ≡ (a || (b || c))
or_assoc true b c = refl
or_assoc false b c = refl

-- a disjunction of three, whose second part comes first
or_second : (a b c : Bool) → ((a || b) || c) ≡ (b || (a || c))
or_second true true c = refl
or_second true false c = refl
or_second false b c = refl

pub is_among-append : (q : List ℕ) (xs ys : List (List ℕ)) → is_among q (xs ++ ys) ≡ (is_among q xs || is_among q ys)
is_among-append q [] ys = refl
is_among-append q (x ∷ xs) ys =
    ap (λ b. bytes_eq x q || b) (is_among-append q xs ys) ∙ sym (or_assoc (bytes_eq x q) (is_among q xs) (is_among q ys))

is_among-single : (q : List ℕ) (x : List (List ℕ)) → is_among q (x ++ []) ≡ is_among q x
is_among-single q [] = refl
is_among-single q (x ∷ xs) = ap (λ b. bytes_eq x q || b) (is_among-single q xs)

-- one more list at the end
is_among-pushed : {X : Type 0} (f : X → List (List ℕ)) (q : List ℕ) (xs : List X) (x : X) → is_among q (flat_map f (xs ++ x ∷ [])) ≡ (is_among q (flat_map f xs) || is_among q (f x))
is_among-pushed f q xs x =
    ap (is_among q) (flat_map-append f xs (x ∷ [])) ∙ is_among-append q (flat_map f xs) (f x ++ [])
    ∙ ap (λ b. is_among q (flat_map f xs) || b) (is_among-single q (f x))

-- what one more point adds
pub learnt_point : (seed : List ℕ) (points secrets : List (List ℕ)) (p q : List ℕ) → is_among q (learnt_keys seed (points ++ p ∷ []) secrets) ≡ (is_among q (keys_at seed p) || is_among q (learnt_keys seed points secrets))
unfolding learnt_keys
learnt_point seed points secrets p q =
    let f : List ℕ → List (List ℕ) = keys_at seed in
    let ss : List (List ℕ) = flat_map (λ s. revocations_at seed (point_of s)) secrets in
    is_among-append q (flat_map f (points ++ p ∷ [])) ss
    ∙ ap (λ b. b || is_among q ss) (is_among-pushed f q points p)
    ∙ or_second (is_among q (flat_map f points)) (is_among q (f p)) (is_among q ss)
    ∙ ap (λ b. is_among q (f p) || b) (sym (is_among-append q (flat_map f points) ss))

or_last : (a b c : Bool) → (a || (b || c)) ≡ (c || (a || b))
or_last true b true = refl
or_last true b false = refl
or_last false true true = refl
or_last false true false = refl
or_last false false true = refl
or_last false false false = refl

-- what one more secret adds
pub learnt_secret : (seed : List ℕ) (points secrets : List (List ℕ)) (s q : List ℕ) → is_among q (learnt_keys seed points (secrets ++ s ∷ [])) ≡ (is_among q (revocations_at seed (point_of s)) || is_among q (learnt_keys seed points secrets))
unfolding learnt_keys
learnt_secret seed points secrets s q =
    let f : List ℕ → List (List ℕ) = λ x. revocations_at seed (point_of x) in
    let ps : List (List ℕ) = flat_map (keys_at seed) points in
    is_among-append q ps (flat_map f (secrets ++ s ∷ []))
    ∙ ap (λ b. is_among q ps || b) (is_among-pushed f q secrets s)
    ∙ or_last (is_among q ps) (is_among q (flat_map f secrets)) (is_among q (f s))
    ∙ ap (λ b. is_among q (f s) || b) (sym (is_among-append q ps (flat_map f secrets)))

-- a list of two parts
head_or_tail : (y x : List ℕ) (ys : List (List ℕ)) → Contains (y ∷ ys) x → (y ≡ x) ⊎ Contains ys x
head_or_tail y x ys h =
    elim (Contains-append_cases (y ∷ []) ys x h) [
      | inl a ↦ elim (Contains-push_cases [] y x a) [ inl n ↦ absurd (omega (arith, n.1)) | inr e ↦ inl e ]
      | inr t ↦ inr t
    ]

pub among_flat : (f : List ℕ → List (List ℕ)) (q : List ℕ) (ps : List (List ℕ)) (p : List ℕ) → Contains ps p → is_among q (f p) ≡ true → is_among q (flat_map f ps) ≡ true
among_flat f q [] p h e = absurd (omega (arith, h.1))
among_flat f q (y ∷ ys) p h e =
    is_among-append q (f y) (flat_map f ys)
    ∙ elim (head_or_tail y p ys h) [
      | inl same ↦ here (is_among q (f y)) _ (ap (λ x. is_among q (f x)) same ∙ e)
      | inr t ↦ there (is_among q (f y)) _ (among_flat f q ys p t e)
    ]

pub flat_among : (f : List ℕ → List (List ℕ)) (q : List ℕ) (ps : List (List ℕ)) → is_among q (flat_map f ps) ≡ true → (p : List ℕ) × Contains ps p × (is_among q (f p) ≡ true)
flat_among f q [] e = absurd (false≢true e)
flat_among f q (y ∷ ys) e =
    elim (or_cases (is_among q (f y)) (is_among q (flat_map f ys)) (sym (is_among-append q (f y) (flat_map f ys)) ∙ e)) [
      | inl a ↦ (y, Contains-append_left (y ∷ []) ys y (Contains-push [] y), a)
      | inr b ↦
          let r = flat_among f q ys b in
          (r.0, Contains-append_right (y ∷ []) ys r.0 r.1, r.2)
    ]

same : (k q : List ℕ) → q ≡ k → bytes_eq k q ≡ true
same k q e = (bytes_eq-Decides k q).1 (sym e)

-- the value at a base is among the values at the five bases
pub among_each : (f : Base → List ℕ) (b : Base) (q : List ℕ) → q ≡ f b → is_among q (at_each f) ≡ true
among_each f Funding q e = here (bytes_eq (f Funding) q) _ (same _ q e)
among_each f Payment q e = there (bytes_eq (f Funding) q) _ (here (bytes_eq (f Payment) q) _ (same _ q e))
among_each f Delayed q e =
    there (bytes_eq (f Funding) q) _ (there (bytes_eq (f Payment) q) _ (here (bytes_eq (f Delayed) q) _ (same _ q e)))
among_each f Htlc q e =
    there (bytes_eq (f Funding) q) _ (there (bytes_eq (f Payment) q) _ (there (bytes_eq (f Delayed) q) _ (here (bytes_eq (f Htlc) q) _ (same _ q e))))
among_each f Revocation q e =
    there (bytes_eq (f Funding) q) _ (there (bytes_eq (f Payment) q) _ (there (bytes_eq (f Delayed) q) _ (there (bytes_eq (f Htlc) q) _ (here (bytes_eq (f Revocation) q) _ (same _ q e)))))

one_of : (f : Base → List ℕ) (q : List ℕ) (b : Base) (others : Bool) → (bytes_eq (f b) q || others) ≡ true → (others ≡ true → (c : Base) × (q ≡ f c)) → (c : Base) × (q ≡ f c)
one_of f q b others e next =
    elim (or_cases (bytes_eq (f b) q) others e) [ inl a ↦ (b, sym ((bytes_eq-Decides (f b) q).0 a)) | inr r ↦ next r ]

pub each_among : (f : Base → List ℕ) (q : List ℕ) → is_among q (at_each f) ≡ true → (b : Base) × (q ≡ f b)
each_among f q e =
    one_of f q Funding _ e (λ r.
    one_of f q Payment _ r (λ s. one_of f q Delayed _ s (λ t. one_of f q Htlc _ t (λ u. one_of f q Revocation _ u (λ v. absurd (false≢true v))))))
