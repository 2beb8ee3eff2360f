-- A rule over some constants, and the same rule over those that stand in their place.
use Rattle.std.proofs.Common.{◌≡◌, ℕ, Bool, true, false, not, ◌||◌, List, [], ◌∷◌, ◌++◌, map, reverse, Result, Ok, Err, sym, ap, subst, ◌∙◌, refl, ◌⊎◌}
use Rattle.script.specs.Step.{◌>>=◌, result_if}
use Rattle.std.proofs.lemmas.List.{map-append, reverse-append}
use Rattle.paths.specs.declared.state.Halt.{Halt}
use Rattle.paths.specs.declared.state.Halt.TheVariants.{NoMemory, Dead, Undecided, TooManyOps}
use Rattle.paths.specs.Table.{Words}
use Rattle.paths.specs.Maps.{Replacing}

-- a halt stands; where no rule decides, it stands only where all must agree
abbrev pub Stands : {B : Type 0} → Bool → Halt → Result B Halt → Type 0
Stands true h r = r ≡ Err h
Stands false NoMemory r = r ≡ Err NoMemory
Stands false Dead r = r ≡ Err Dead
Stands false Undecided r = Unit {0}
Stands false TooManyOps r = r ≡ Err TooManyOps

-- the second answer is the first one's
abbrev pub Agrees : {A B : Type 0} → Bool → (A → B) → Result A Halt → Result B Halt → Type 0
Agrees exact f (Ok x) r = r ≡ Ok (f x)
Agrees exact f (Err h) r = Stands exact h r

pub halts : {B : Type 0} (exact : Bool) (h : Halt) (r : Result B Halt) → r ≡ Err h → Stands exact h r
halts true h r e = e
halts false NoMemory r e = e
halts false Dead r e = e
halts false Undecided r e = tt
halts false TooManyOps r e = e

pub undecided : (B : Type 0) (exact : Bool) → Stands {B = B} exact Undecided (Err Undecided)
undecided B exact = halts exact Undecided (Err Undecided) refl

stands_then : {A B : Type 0} (exact : Bool) (h : Halt) (r : Result A Halt) (k : A → Result B Halt) → Stands exact h r → Stands exact h (r >>= k)
stands_then true h r k e = ap (λ x. x >>= k) e
stands_then false NoMemory r k e = ap (λ x. x >>= k) e
stands_then false Dead r k e = ap (λ x. x >>= k) e
stands_then false Undecided r k e = tt
stands_then false TooManyOps r k e = ap (λ x. x >>= k) e

pub agrees_then : {A A' B B' : Type 0} (exact : Bool) (f : A → A') (g : B → B') (r : Result A Halt) (r' : Result A' Halt) (k : A → Result B Halt) (k' : A' → Result B' Halt) → Agrees exact f r r' → ((x : A) → Agrees exact g (k x) (k' (f x))) → Agrees exact g (r >>= k) (r' >>= k')
agrees_then exact f g (Ok x) r' k k' e h = subst (λ v. Agrees exact g (k x) (v >>= k')) (sym e) (h x)
agrees_then exact f g (Err c) r' k k' e h = stands_then exact c r' k' e

pub agrees_if : {A B : Type 0} (exact : Bool) (f : A → B) (b b' : Bool) (h : Halt) (r : Result A Halt) (r' : Result B Halt) → b ≡ b' → Agrees exact f r r' → Agrees exact f (result_if b h r) (result_if b' h r')
agrees_if exact f true b' h r r' e a = subst (λ v. Agrees exact f r (result_if v h r')) e a
agrees_if exact f false b' h r r' e a = subst (λ v. Stands exact h (result_if v h r')) e (halts exact h (Err h) refl)

-- an answer, or no rule decides
abbrev pub Settles : {A : Type 0} → Result A Halt → Type 0
Settles (Ok x) = Unit {0}
Settles (Err h) = h ≡ Undecided

pub settles_then : {A B : Type 0} (r : Result A Halt) (k : A → Result B Halt) → Settles r → ((x : A) → k x ≡ Err Undecided) → (r >>= k) ≡ Err Undecided
settles_then (Ok x) k e h = h x
settles_then (Err c) k e h = ap Err e

pub joined_settles : {X Y Z : Type 0} (r : Result X Halt) (t : Result Y Halt) (f : X → Y → Z) → Settles r → Settles t → Settles (r >>= λ x. t >>= λ y. Ok (f x y))
joined_settles (Ok x) (Ok y) f e d = tt
joined_settles (Ok x) (Err h) f e d = d
joined_settles (Err h) t f e d = e

-- where the test fails on neither side, no rule decides
pub agrees_unclear : {A B : Type 0} (exact : Bool) (f : A → B) (p p' bad bad' : Bool) (rest : Result A Halt) (rest' : Result B Halt) → p ≡ p' → exact ≡ false → bad ≡ false → rest ≡ Err Undecided → Agrees exact f (result_if (not (p || bad)) Dead rest) (result_if (not (p' || bad')) Dead rest')
agrees_unclear {A} {B} exact f true p' bad bad' rest rest' e x b u = subst (λ q. Stands {B = B} exact Dead (result_if (not (q || bad')) Dead rest')) e (halts exact Dead (Err Dead) refl)
agrees_unclear {A} {B} exact f false p' bad bad' rest rest' e x b u =
    let tested : result_if (not bad) Dead rest ≡ Err Undecided = ap (λ q. result_if (not q) Dead rest) b ∙ u in
    subst (λ q. Agrees exact f q (result_if (not (p' || bad')) Dead rest')) (sym tested) (subst (λ q. Stands {B = B} q Undecided (result_if (not (p' || bad')) Dead rest')) (sym x) tt)

-- a test of a constant agrees with the test of the one in its place, or the value is not clear and no rule decides
abbrev pub Clear : Bool → Bool → Bool → Bool → Bool → Type 0
Clear exact bad none bad' none' = ((bad ≡ bad') × (none ≡ none')) ⊎ ((exact ≡ false) × (bad ≡ false) × (none ≡ false))

-- the words on constants agree with those on what stands in their place
pub record Respects {C L A C' L' A' : Type 0} (exact : Bool) (m : Replacing C L A C' L' A') (w : Words C L A) (v : Words C' L' A') : Type 0 where
  pub known : (b : List ℕ) → m.bytes (w.known b) ≡ v.known b
  pub size : (c : C) → Agrees exact m.bytes (w.size c) (v.size (m.bytes c))
  pub hash : (c : C) → Agrees exact m.bytes (w.hash c) (v.hash (m.bytes c))
  pub equal : (c d : C) → Agrees exact m.bytes (w.equal c d) (v.equal (m.bytes c) (m.bytes d))
  pub truth : (c : C) → Agrees exact (λ b. b) (w.truth c) (v.truth (m.bytes c))
  pub is_hash : (c : C) → w.is_hash c ≡ v.is_hash (m.bytes c)
  pub named_size : (c : C) → Agrees exact (λ n. n) (w.named_size c) (v.named_size (m.bytes c))
  pub is_bad_key : (c : C) → w.is_bad_key c ≡ v.is_bad_key (m.bytes c)
  pub signature : (c : C) → Clear exact (w.is_bad_signature c) (w.is_no_signature c) (v.is_bad_signature (m.bytes c)) (v.is_no_signature (m.bytes c))
  pub extra : (c : C) → Clear exact (w.is_bad_extra c) (w.is_clear_extra c) (v.is_bad_extra (m.bytes c)) (v.is_clear_extra (m.bytes c))
  pub count : (limit : ℕ) (c : C) → Agrees exact (λ n. n) (w.count limit c) (v.count limit (m.bytes c))
  pub lock : (c : C) → Agrees exact m.lock (w.lock c) (v.lock (m.bytes c))
  pub is_off : (n : L) → w.is_off n ≡ v.is_off (m.lock n)
  pub age_bits : (n : L) → m.age (w.age_bits n) ≡ v.age_bits (m.lock n)

pub map-reverse : {X Y : Type 0} (f : X → Y) (xs : List X) → map f (reverse xs) ≡ reverse (map f xs)
map-reverse f [] = refl
map-reverse f (x ∷ xs) = ap (map f) (reverse-append (x ∷ []) xs) ∙ map-append f (reverse xs) (x ∷ []) ∙ ap (λ l. l ++ f x ∷ []) (map-reverse f xs) ∙ sym (reverse-append (f x ∷ []) (map f xs))
