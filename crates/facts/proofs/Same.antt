-- The test of facts decides whether they are the same.
use Rattle.std.proofs.Common.{◌≡◌, ℕ, Bool, true, false, ◌&&◌, eqb, List, [], ◌∷◌, length, drop, get_or, add-one, drop-cons, sym, ap, ◌∙◌, refl, arith}
use Rattle.std.specs.Prelude.{◌+◌, ◌<◌, ◌≤◌, ◌≢◌}
use Rattle.std.proofs.lemmas.List.{drop_all}
use Rattle.std.specs.Str.{bytes_eq}
use Rattle.std.specs.Bool.{Decides}
use Rattle.std.proofs.lemmas.Slice.Eq.{bytes_eq-Decides}
use Rattle.std.proofs.lemmas.Bool.{false≢true, false_from_ne_true}
use Rattle.std.proofs.lemmas.Bool.Decides.{Decides-eqb, Decides-and, Decides-like}
use Rattle.facts.specs.Symbols.{KeySource}
use Rattle.facts.specs.declared.symbols.KeySourceOver.TheVariants.{Const as FixedKey, Slot as SlotKey}
use Rattle.facts.specs.Symbols.{Fact}
use Rattle.facts.specs.declared.symbols.FactOver.TheVariants.{Hash, Size, Truth, Is, KeyForm, Form, Token, Assigned, Lock, Age}
use Rattle.facts.specs.Sameness.{same_key, same_keys, same_fact}

differ : {P : Type 0} → (P → ⊥) → Decides false P
differ n = ((λ e. absurd (false≢true e)), (λ p. absurd (n p)))

one : {A B : Type 0} (f : A → B) (b : Bool) (x y : A) → (f x ≡ f y → x ≡ y) → Decides b (x ≡ y) → Decides b (f x ≡ f y)
one f b x y inj d = Decides-like b (ap f) inj d

two : {A B C : Type 0} (f : A → B → C) (a b : Bool) (x y : A) (u v : B) → (f x u ≡ f y v → (x ≡ y) × (u ≡ v)) → Decides a (x ≡ y) → Decides b (u ≡ v) → Decides (a && b) (f x u ≡ f y v)
two f a b x y u v inj d e = Decides-like (a && b) (λ w. ap (λ t. f t u) w.0 ∙ ap (f y) w.1) inj (Decides-and a b d e)

pub same_key-Decides : (a b : KeySource) → Decides (same_key a b) (a ≡ b)
same_key-Decides (FixedKey a) (FixedKey b) = one FixedKey (bytes_eq a b) a b (λ e. cc) (bytes_eq-Decides a b)
same_key-Decides (SlotKey i) (SlotKey j) = one SlotKey (eqb i j) i j (λ e. cc) (Decides-eqb i j)
same_key-Decides a b = differ (λ e. cc)

pub same_keys-Decides : (a b : List KeySource) → Decides (same_keys a b) (a ≡ b)
same_keys-Decides [] [] = ((λ e. refl), (λ e. refl))
same_keys-Decides (x ∷ a) (y ∷ b) = two (λ (t : KeySource) (u : List KeySource). t ∷ u) (same_key x y) (same_keys a b) x y a b (λ e. (cc, cc)) (same_key-Decides x y) (same_keys-Decides a b)
same_keys-Decides a b = differ (λ e. cc)

pub same_fact-Decides : (f g : Fact) → Decides (same_fact f g) (f ≡ g)
same_fact-Decides (Hash i a) (Hash j b) = two Hash (eqb i j) (bytes_eq a b) i j a b (λ e. (cc, cc)) (Decides-eqb i j) (bytes_eq-Decides a b)
same_fact-Decides (Size i a) (Size j b) = two Size (eqb i j) (eqb a b) i j a b (λ e. (cc, cc)) (Decides-eqb i j) (Decides-eqb a b)
same_fact-Decides (Truth i) (Truth j) = one Truth (eqb i j) i j (λ e. cc) (Decides-eqb i j)
same_fact-Decides (Is i a) (Is j b) = two Is (eqb i j) (bytes_eq a b) i j a b (λ e. (cc, cc)) (Decides-eqb i j) (bytes_eq-Decides a b)
same_fact-Decides (KeyForm i) (KeyForm j) = one KeyForm (eqb i j) i j (λ e. cc) (Decides-eqb i j)
same_fact-Decides (Form i) (Form j) = one Form (eqb i j) i j (λ e. cc) (Decides-eqb i j)
same_fact-Decides (Token i a) (Token j b) = two Token (eqb i j) (same_key a b) i j a b (λ e. (cc, cc)) (Decides-eqb i j) (same_key-Decides a b)
same_fact-Decides (Assigned i a) (Assigned j b) = two Assigned (bytes_eq i j) (same_keys a b) i j a b (λ e. (cc, cc)) (bytes_eq-Decides i j) (same_keys-Decides a b)
same_fact-Decides (Lock i) (Lock j) = one Lock (eqb i j) i j (λ e. cc) (Decides-eqb i j)
same_fact-Decides (Age i) (Age j) = one Age (eqb i j) i j (λ e. cc) (Decides-eqb i j)
same_fact-Decides f g = differ (λ e. cc)

pub same_keys-apart : (a b : List KeySource) → length a ≢ length b → false ≡ same_keys a b
same_keys-apart a b n = sym (false_from_ne_true (same_keys a b) (λ t. n (ap length ((same_keys-Decides a b).0 t))))

-- from an index on
pub same_keys-at : (a b : List KeySource) (i : ℕ) (x y : KeySource) → i < length a → i < length b → same_keys (drop i a) (drop i b) ≡ (same_key (get_or a i x) (get_or b i y) && same_keys (drop (i + 1) a) (drop (i + 1) b))
same_keys-at a b i x y h l = rw (add-one, drop-cons a i x, drop-cons b i y)

pub same_keys-end : (a b : List KeySource) (i : ℕ) → length a ≤ i → length a ≡ length b → same_keys (drop i a) (drop i b) ≡ true
same_keys-end a b i h e = ap (λ t. same_keys t (drop i b)) (drop_all i a h) ∙ ap (same_keys []) (drop_all i b (omega arith))

pub same_fact-exact : (f g : Fact) (b : Bool) → b ≡ same_fact f g → Decides b (f ≡ g)
same_fact-exact f g b e = ((λ t. (same_fact-Decides f g).0 (sym e ∙ t)), (λ p. e ∙ (same_fact-Decides f g).1 p))
