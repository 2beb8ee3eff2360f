-- Sets of keys, as tests, to which keys are added and from which they are taken again.
use Rattle.std.proofs.Common.{◌≡◌, ℕ, Bool, true, false, cond, ◌||◌, List, [], ◌∷◌, ◌++◌, sym, ap, ◌∙◌, refl}
use Rattle.std.specs.Prelude.{Result, Ok, Err, OnOk, OnErr, is_ok}
use Rattle.std.specs.Ordering.{is_eq, nat_cmp}
use Rattle.std.specs.Cmp.Lexicographic.{slice_cmp}
use Rattle.std.specs.BTreeSet.{BTreeSet, contains}
use Rattle.std.specs.Str.{bytes_eq}
use Rattle.std.proofs.lemmas.Slice.Eq.{bytes_eq-Decides}
use Rattle.std.proofs.lemmas.Map.Text.{is_eq-slice_cmp}
use Rattle.keys.specs.Derivation.{point_of}
use Rattle.keys.specs.Keys.{keys_at, revocations_at, learnt_keys, is_among}
use Rattle.keys.proofs.Among.{or_assoc, is_among-append, learnt_point, learnt_secret}

taken_again : (key q : List ℕ) (c0 : List ℕ → Bool) (c1 c2 c3 : Bool) (t : Bool) → bytes_eq key q ≡ t → c0 key ≡ false → c1 ≡ cond t true (c0 q) → c2 ≡ c1 → c3 ≡ cond t false c2 → c3 ≡ c0 q
taken_again key q c0 c1 c2 c3 true e absent a b c = c ∙ sym absent ∙ ap c0 ((bytes_eq-Decides key q).0 e)
taken_again key q c0 c1 c2 c3 false e absent a b c = c ∙ b ∙ a

-- a key that was not there is added and taken out again
pub undone : (c0 c1 c2 c3 : List ℕ → Bool) (key : List ℕ) → c0 key ≡ false → ((q : List ℕ) → c1 q ≡ cond (is_eq (slice_cmp nat_cmp key q)) true (c0 q)) → ((q : List ℕ) → c2 q ≡ c1 q) → ((q : List ℕ) → c3 q ≡ cond (is_eq (slice_cmp nat_cmp key q)) false (c2 q)) → (q : List ℕ) → c3 q ≡ c0 q
undone c0 c1 c2 c3 key absent a b c q =
    let s = is_eq-slice_cmp key q in
    taken_again key q c0 (c1 q) (c2 q) (c3 q) (bytes_eq key q) refl absent (a q ∙ ap (λ t. cond t true (c0 q)) s) (b q) (c q ∙ ap (λ t. cond t false (c2 q)) s)

joined : (t a b : Bool) → (a || cond t true b) ≡ ((t || a) || b)
joined true true b = refl
joined true false b = refl
joined false a b = refl

-- a key is added, and then others
pub added : (c0 c1 c2 : List ℕ → Bool) (key : List ℕ) (others keys : List (List ℕ)) → keys ≡ key ∷ others → ((q : List ℕ) → c1 q ≡ cond (is_eq (slice_cmp nat_cmp key q)) true (c0 q)) → ((q : List ℕ) → c2 q ≡ (is_among q others || c1 q)) → (q : List ℕ) → c2 q ≡ (is_among q keys || c0 q)
added c0 c1 c2 key others keys k a b q =
    b q
    ∙ ap (λ x. is_among q others || x) (a q ∙ ap (λ t. cond t true (c0 q)) (is_eq-slice_cmp key q))
    ∙ joined (bytes_eq key q) (is_among q others) (c0 q)
    ∙ ap (λ ks. is_among q ks || c0 q) (sym k)

-- nothing was learnt
pub nothing : (s : BTreeSet (List ℕ)) (seed : List ℕ) (points secrets : List (List ℕ)) → s.keys ≡ [] → points ≡ [] → secrets ≡ [] → (q : List ℕ) → contains (slice_cmp nat_cmp) s q ≡ is_among q (learnt_keys seed points secrets)
unfolding learnt_keys
nothing s seed points secrets k p t q = rw (k, p, t) refl

-- the same where only a refusal says so
pub undone_after : {T E : Type 0} (r : Result T E) (c0 c1 c2 c3 : List ℕ → Bool) (key : List ℕ) → c0 key ≡ false → ((q : List ℕ) → c1 q ≡ cond (is_eq (slice_cmp nat_cmp key q)) true (c0 q)) → OnErr r ((q : List ℕ) → c2 q ≡ c1 q) → ((q : List ℕ) → c3 q ≡ cond (is_eq (slice_cmp nat_cmp key q)) false (c2 q)) → OnErr r ((q : List ℕ) → c3 q ≡ c0 q)
undone_after (Ok x) c0 c1 c2 c3 key absent a b c = b
undone_after (Err e) c0 c1 c2 c3 key absent a b c = undone c0 c1 c2 c3 key absent a b c

-- the same where only an answer says so
pub added_after : {T E : Type 0} (r : Result T E) (c0 c1 c2 : List ℕ → Bool) (key : List ℕ) (others keys : List (List ℕ)) → keys ≡ key ∷ others → ((q : List ℕ) → c1 q ≡ cond (is_eq (slice_cmp nat_cmp key q)) true (c0 q)) → OnOk r ((q : List ℕ) → c2 q ≡ (is_among q others || c1 q)) → OnOk r ((q : List ℕ) → c2 q ≡ (is_among q keys || c0 q))
added_after (Ok x) c0 c1 c2 key others keys k a b = added c0 c1 c2 key others keys k a b
added_after (Err e) c0 c1 c2 key others keys k a b = b

-- what a push that succeeded leaves
pub pushed : {T E X : Type 0} (r : Result T E) (x : T) (items a b : X) → r ≡ Ok x → items ≡ cond (is_ok r) a b → items ≡ a
pushed (Ok y) x items a b e h = h
pushed (Err y) x items a b e h = absurd cc

-- one more point is learnt
pub learnt_one_point : (c0 c2 : List ℕ → Bool) (seed : List ℕ) (points secrets after more : List (List ℕ)) (p : List ℕ) → more ≡ keys_at seed p → after ≡ points ++ p ∷ [] → ((q : List ℕ) → c2 q ≡ (is_among q more || c0 q)) → ((q : List ℕ) → c0 q ≡ is_among q (learnt_keys seed points secrets)) → (q : List ℕ) → c2 q ≡ is_among q (learnt_keys seed after secrets)
learnt_one_point c0 c2 seed points secrets after more p m f a i q =
    a q
    ∙ ap (λ x. is_among q more || x) (i q)
    ∙ ap (λ ks. is_among q ks || is_among q (learnt_keys seed points secrets)) m
    ∙ sym (learnt_point seed points secrets p q)
    ∙ ap (λ ps. is_among q (learnt_keys seed ps secrets)) (sym f)

-- one more secret is learnt
pub learnt_one_secret : (c0 c2 : List ℕ → Bool) (seed : List ℕ) (points secrets after more : List (List ℕ)) (s point : List ℕ) → point ≡ point_of s → more ≡ revocations_at seed point → after ≡ secrets ++ s ∷ [] → ((q : List ℕ) → c2 q ≡ (is_among q more || c0 q)) → ((q : List ℕ) → c0 q ≡ is_among q (learnt_keys seed points secrets)) → (q : List ℕ) → c2 q ≡ is_among q (learnt_keys seed points after)
learnt_one_secret c0 c2 seed points secrets after more s point pe m f a i q =
    a q
    ∙ ap (λ x. is_among q more || x) (i q)
    ∙ ap (λ ks. is_among q ks || is_among q (learnt_keys seed points secrets)) (m ∙ ap (revocations_at seed) pe)
    ∙ sym (learnt_secret seed points secrets s q)
    ∙ ap (λ ss. is_among q (learnt_keys seed points ss)) (sym f)

-- a point and a secret are learnt
pub learnt_both :
    (c0 c2 : List ℕ → Bool) (seed : List ℕ) (points secrets points_after secrets_after more : List (List ℕ)) (p s point : List ℕ)
    → point ≡ point_of s → more ≡ keys_at seed p ++ revocations_at seed point → points_after ≡ points ++ p ∷ [] → secrets_after ≡ secrets ++ s ∷ []
    → ((q : List ℕ) → c2 q ≡ (is_among q more || c0 q)) → ((q : List ℕ) → c0 q ≡ is_among q (learnt_keys seed points secrets))
    → (q : List ℕ) → c2 q ≡ is_among q (learnt_keys seed points_after secrets_after)
learnt_both c0 c2 seed points secrets points_after secrets_after more p s point e m ps ss a i q =
    let ks : List (List ℕ) = keys_at seed p in
    let rs : List (List ℕ) = revocations_at seed (point_of s) in
    let old : Bool = is_among q (learnt_keys seed points secrets) in
    a q
    ∙ ap (λ x. is_among q more || x) (i q)
    ∙ ap (λ xs. is_among q xs || old) (m ∙ ap (λ x. ks ++ revocations_at seed x) e)
    ∙ ap (λ b. b || old) (is_among-append q ks rs)
    ∙ or_assoc (is_among q ks) (is_among q rs) old
    ∙ ap (λ b. is_among q ks || b) (sym (learnt_secret seed points secrets s q))
    ∙ sym (learnt_point seed points (secrets ++ s ∷ []) p q)
    ∙ ap (λ xs. is_among q (learnt_keys seed xs (secrets ++ s ∷ []))) (sym ps)
    ∙ ap (λ xs. is_among q (learnt_keys seed points_after xs)) (sym ss)
