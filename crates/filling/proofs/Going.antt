-- Claim after claim.
use Rattle.std.proofs.Common.{◌≡◌, ℕ, zero, suc, ◌+◌, ◌<◌, List, [], ◌∷◌, ◌++◌, length, map, take, drop, Some, sym, ap, subst, ◌∙◌, refl, arith, get_or, add-one, Bor}
use Rattle.std.specs.Prelude.{slice_get}
use Rattle.std.proofs.lemmas.Option.{slice_get-get_or}
use Rattle.keys.specs.Rights.{Rights}
use Rattle.claim.specs.Claims.{ClaimParts}
use Rattle.filling.specs.declared.errors.FillError.{FillError}
use Rattle.filling.specs.declared.errors.FillError.TheVariants.{NoMemory, NoRight, NoPreimage, OutputsExceed, MixedShells, SameOutpoint}
use Rattle.filling.specs.Refusals.{AreFillable, LacksFirst, UnlessMemory, all_slots}
use Rattle.filling.specs.Standing.{CanSpend, AllCanSpend}
use Rattle.filling.proofs.Lists.{split, slice_get-map}
use Rattle.filling.proofs.Fitted.{joined, lacks-here, lacks-later}

abbrev pub values : List (Bor ClaimParts) → List ClaimParts
values claims = map (λ c. c.now) claims

pub at-index : (claims : List (Bor ClaimParts)) (i : ℕ) (d c : Bor ClaimParts) → i < length claims → c ≡ get_or claims i d → slice_get (values claims) i ≡ Some c.now
at-index claims i d c h e = slice_get-map (λ x. x.now) claims i c (slice_get-get_or claims i d h ∙ ap Some (sym e))

more : {X : Type 0} (xs : List X) (i : ℕ) (d : X) → i < length xs → take (suc i) xs ≡ take i xs ++ get_or xs i d ∷ []
more [] i d h = absurd (omega arith)
more (x ∷ xs) zero d h = refl
more (x ∷ xs) (suc i) d h = ap (λ l. x ∷ l) (more xs i d (omega arith))

map-end : {X Y : Type 0} (f : X → Y) (xs : List X) (x : X) → map f (xs ++ x ∷ []) ≡ map f xs ++ f x ∷ []
map-end f [] x = refl
map-end f (y ∷ xs) x = ap (λ l. f y ∷ l) (map-end f xs x)

pub grown : {Y : Type 0} (f : ClaimParts → Y) (claims : List (Bor ClaimParts)) (i : ℕ) (d c : Bor ClaimParts) (old new : List Y) (x : Y) → i < length claims → c ≡ get_or claims i d → old ≡ map f (values (take i claims)) → x ≡ f c.now → new ≡ old ++ x ∷ [] → new ≡ map f (values (take (i + 1) claims))
grown f claims i d c old new x h e o k n =
    n ∙ ap (λ l. l ++ x ∷ []) o ∙ ap (λ y. map f (values (take i claims)) ++ y ∷ []) k
    ∙ sym (map-end f (values (take i claims)) c.now) ∙ ap (map f) (sym (map-end (λ y. y.now) (take i claims) c))
    ∙ ap (λ l. map f (values l)) (ap (λ y. take i claims ++ y ∷ []) e ∙ sym (more claims i d h) ∙ ap (λ n. take n claims) (sym (add-one i)))

pub fillable-next : (r : Rights) (ps : List (List ℕ)) (claims : List (Bor ClaimParts)) (i : ℕ) (d c : Bor ClaimParts) → i < length claims → c ≡ get_or claims i d → AreFillable r ps c.now.slots → (AreFillable r ps (all_slots (values (drop i claims))) → AreFillable r ps (all_slots (values claims))) → AreFillable r ps (all_slots (values (drop (i + 1) claims))) → AreFillable r ps (all_slots (values claims))
fillable-next r ps claims i d c h e f go rest =
    go (subst (λ l. AreFillable r ps (all_slots (values l))) (sym (split claims i d c h e)) (joined r ps c.now.slots (all_slots (values (drop (i + 1) claims))) f rest))

pub lacks-next : (r : Rights) (ps : List (List ℕ)) (claims : List (Bor ClaimParts)) (i : ℕ) (d c : Bor ClaimParts) → i < length claims → c ≡ get_or claims i d → AreFillable r ps c.now.slots → ((e : FillError) → LacksFirst r ps (all_slots (values (drop i claims))) e → LacksFirst r ps (all_slots (values claims)) e) → (e : FillError) → LacksFirst r ps (all_slots (values (drop (i + 1) claims))) e → LacksFirst r ps (all_slots (values claims)) e
lacks-next r ps claims i d c h e f go x l =
    go x (subst (λ l. LacksFirst r ps (all_slots (values l)) x) (sym (split claims i d c h e)) (lacks-later r ps c.now.slots (all_slots (values (drop (i + 1) claims))) x f l))

unless : (x : FillError) (P Q : Type 0) → (P → Q) → UnlessMemory x P → UnlessMemory x Q
unless NoMemory P Q f u = tt
unless NoRight P Q f u = f u
unless NoPreimage P Q f u = f u
unless OutputsExceed P Q f u = f u
unless MixedShells P Q f u = f u
unless SameOutpoint P Q f u = f u

pub lacks-at : (r : Rights) (ps : List (List ℕ)) (claims : List (Bor ClaimParts)) (i : ℕ) (d c : Bor ClaimParts) → i < length claims → c ≡ get_or claims i d → ((e : FillError) → LacksFirst r ps (all_slots (values (drop i claims))) e → LacksFirst r ps (all_slots (values claims)) e) → (x : FillError) → UnlessMemory x (LacksFirst r ps c.now.slots x) → UnlessMemory x (LacksFirst r ps (all_slots (values claims)) x)
lacks-at r ps claims i d c h e go x u =
    unless x (LacksFirst r ps c.now.slots x) (LacksFirst r ps (all_slots (values claims)) x)
    (λ l. go x (subst (λ l. LacksFirst r ps (all_slots (values l)) x) (sym (split claims i d c h e)) (lacks-here r ps c.now.slots (all_slots (values (drop (i + 1) claims))) x l))) u

pub opening-next : (claims : List (Bor ClaimParts)) (i : ℕ) (d c : Bor ClaimParts) → i < length claims → c ≡ get_or claims i d → CanSpend c.now → (AllCanSpend (values (drop i claims)) → AllCanSpend (values claims)) → AllCanSpend (values (drop (i + 1) claims)) → AllCanSpend (values claims)
opening-next claims i d c h e o go rest = go (subst (λ l. AllCanSpend (values l)) (sym (split claims i d c h e)) (o, rest))
