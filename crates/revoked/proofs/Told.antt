-- A transaction is read whole: each output is told, and told once.
use Rattle.std.proofs.Common.{◌≡◌, ℕ, zero, suc, ◌+◌, ◌≤◌, List, [], ◌∷◌, map, length, Option, Some, None, refl, subst, arith}
use Rattle.std.specs.Prelude.{slice_get, option_map, Contains, MatchOption}
use Rattle.std.specs.List.{cons_option, AllByRecursion}
use Rattle.std.proofs.lemmas.List.Elements.{Contains-append_right}
use Rattle.tx.specs.Parts.{Output}
use Rattle.tx.specs.Fields.{Transaction}
use Rattle.claim.specs.declared.parts.Place.{Place}
use Rattle.penalty.specs.Claimable.{Claimable, place_in}
use Rattle.revoked.specs.Parts.{RevokedParts}
use Rattle.revoked.specs.declared.outputs.RevokedOutput.{RevokedOutput}
use Rattle.revoked.specs.declared.outputs.RevokedOutput.TheVariants.{ToLocal, ToRemote, ToHtlc}
use Rattle.revoked.specs.Programs.{output_with, claim_on}
use Rattle.revoked.specs.Reading.{claim_at, claimed_from, unless_found, others_from}
use Rattle.revoked.specs.Telling.{EachOutputIsTold, RisesFrom, EachIsToldOnce, IsOnOutput, EachClaimIsOnItsOutput}

some_is : {X : Type 0} (x y : X) → Some x ≡ Some y → x ≡ y
some_is x y e = cc

none_some : {X : Type 0} (x : X) → None ≡ Some x → ⊥
none_some x e = cc

head : {X : Type 0} (x : X) (xs : List X) → Contains (x ∷ xs) x
head x xs = (0, omega arith, refl)

behind : {X : Type 0} (o : Option X) (xs : List X) (y : X) → Contains xs y → Contains (cons_option o xs) y
behind None xs y c = c
behind (Some x) xs y c = Contains-append_right (x ∷ []) xs y c

-- what is told of an output with this index, at this place
abbrev IsTold : RevokedParts → Place → ℕ → Option RevokedOutput → List Claimable → List ℕ → Type 0
IsTold r place index known claims others = MatchOption known (Contains others index) (λ k. Contains claims (claim_on r k place))

at_head : (r : RevokedParts) (place : Place) (index : ℕ) (known : Option RevokedOutput) (claims : List Claimable) (others : List ℕ)
    → IsTold r place index known (cons_option (option_map (λ k. claim_on r k place) known) claims) (cons_option (unless_found known index) others)
at_head r place index None claims others = head index others
at_head r place index (Some k) claims others = head (claim_on r k place) claims

later : (r : RevokedParts) (place : Place) (index : ℕ) (known : Option RevokedOutput) (c : Option Claimable) (n : Option ℕ) (claims : List Claimable) (others : List ℕ)
    → IsTold r place index known claims others → IsTold r place index known (cons_option c claims) (cons_option n others)
later r place index None c n claims others i = behind n others index i
later r place index (Some k) c n claims others i = behind c claims (claim_on r k place) i

told_from : (r : RevokedParts) (t : Transaction) (i : ℕ) (os : List Output) (n : ℕ) (o : Output) → slice_get os n ≡ Some o
    → IsTold r (place_in t (i + n) o) (i + n) (output_with r o.script) (claimed_from r t i os) (others_from r i os)
unfolding claimed_from others_from
told_from r t i [] n o e = absurd (none_some o e)
told_from r t i (p ∷ os) zero o e =
    let f : p ≡ o = some_is p o e in
    let g : i ≡ i + 0 = omega arith in
    subst (λ m. IsTold r (place_in t m o) m (output_with r o.script) (cons_option (claim_at r (place_in t i p)) (claimed_from r t (i + 1) os)) (cons_option (unless_found (output_with r p.script) i) (others_from r (i + 1) os))) g
    (subst (λ (x : Output). IsTold r (place_in t i x) i (output_with r x.script) (cons_option (claim_at r (place_in t i p)) (claimed_from r t (i + 1) os)) (cons_option (unless_found (output_with r p.script) i) (others_from r (i + 1) os))) f
    (at_head r (place_in t i p) i (output_with r p.script) (claimed_from r t (i + 1) os) (others_from r (i + 1) os)))
told_from r t i (p ∷ os) (suc n) o e =
    let g : i + 1 + n ≡ i + suc n = omega arith in
    later r (place_in t (i + suc n) o) (i + suc n) (output_with r o.script) (claim_at r (place_in t i p)) (unless_found (output_with r p.script) i) (claimed_from r t (i + 1) os) (others_from r (i + 1) os)
    (subst (λ m. IsTold r (place_in t m o) m (output_with r o.script) (claimed_from r t (i + 1) os) (others_from r (i + 1) os)) g (told_from r t (i + 1) os n o e))

pub each_told : EachOutputIsTold
each_told r t index o e =
    let z : 0 + index ≡ index = omega arith in
    subst (λ m. IsTold r (place_in t m o) m (output_with r o.script) (claimed_from r t 0 t.outputs) (others_from r 0 t.outputs)) z (told_from r t 0 t.outputs index o e)

-- the indices rise
lower : (i : ℕ) (ns : List ℕ) → RisesFrom (i + 1) ns → RisesFrom i ns
lower i [] r = tt
lower i (n ∷ ns) r = let l : i + 1 ≤ n = r.0 in (omega (arith, l), r.1)

abbrev indices : List Claimable → List ℕ
indices cs = map (λ c. c.place.outpoint.index) cs

claims_rise : (r : RevokedParts) (t : Transaction) (i : ℕ) (os : List Output) → RisesFrom i (indices (claimed_from r t i os))
unfolding claimed_from
claims_rise r t i [] = tt
claims_rise r t i (o ∷ os) = at (output_with r o.script) (claims_rise r t (i + 1) os)
  where
    of_kind : (k : RevokedOutput) → RisesFrom (i + 1) (indices (claimed_from r t (i + 1) os)) → RisesFrom i (indices (claim_on r k (place_in t i o) ∷ claimed_from r t (i + 1) os))
    of_kind ToLocal rest = (omega arith, rest)
    of_kind ToRemote rest = (omega arith, rest)
    of_kind (ToHtlc h) rest = (omega arith, rest)

    at : (known : Option RevokedOutput) → RisesFrom (i + 1) (indices (claimed_from r t (i + 1) os))
        → RisesFrom i (indices (cons_option (option_map (λ k. claim_on r k (place_in t i o)) known) (claimed_from r t (i + 1) os)))
    at None rest = lower i (indices (claimed_from r t (i + 1) os)) rest
    at (Some k) rest = of_kind k rest

others_rise : (r : RevokedParts) (i : ℕ) (os : List Output) → RisesFrom i (others_from r i os)
unfolding others_from
others_rise r i [] = tt
others_rise r i (o ∷ os) = at (output_with r o.script) (others_rise r (i + 1) os)
  where
    at : (known : Option RevokedOutput) → RisesFrom (i + 1) (others_from r (i + 1) os) → RisesFrom i (cons_option (unless_found known i) (others_from r (i + 1) os))
    at None rest = (omega arith, rest)
    at (Some k) rest = lower i (others_from r (i + 1) os) rest

all_told : (r : RevokedParts) (t : Transaction) (i : ℕ) (os : List Output) → length (claimed_from r t i os) + length (others_from r i os) ≡ length os
unfolding claimed_from others_from
all_told r t i [] = refl
all_told r t i (o ∷ os) = at (output_with r o.script) (all_told r t (i + 1) os)
  where
    at : (known : Option RevokedOutput) → length (claimed_from r t (i + 1) os) + length (others_from r (i + 1) os) ≡ length os
        → length (cons_option (option_map (λ k. claim_on r k (place_in t i o)) known) (claimed_from r t (i + 1) os)) + length (cons_option (unless_found known i) (others_from r (i + 1) os)) ≡ suc (length os)
    at None e = omega (arith, e)
    at (Some k) e = omega (arith, e)

pub told_once : EachIsToldOnce
told_once r t = record {
  claimed = claims_rise r t 0 t.outputs;
  named = others_rise r 0 t.outputs;
  all = all_told r t 0 t.outputs;
}

-- each claim is on its output
on_outputs : (r : RevokedParts) (t : Transaction) (i : ℕ) (os : List Output) → ((n : ℕ) (o : Output) → slice_get os n ≡ Some o → slice_get t.outputs (i + n) ≡ Some o)
    → AllByRecursion (IsOnOutput r t) (claimed_from r t i os)
unfolding claimed_from
on_outputs r t i [] within = tt
on_outputs r t i (o ∷ os) within =
    at (output_with r o.script) refl
    (on_outputs r t (i + 1) os (λ n p e. let g : i + suc n ≡ i + 1 + n = omega arith in subst (λ m. slice_get t.outputs m ≡ Some p) g (within (suc n) p e)))
  where
    stands : slice_get t.outputs i ≡ Some o
    stands = let g : i + 0 ≡ i = omega arith in subst (λ m. slice_get t.outputs m ≡ Some o) g (within 0 o refl)

    at : (known : Option RevokedOutput) → output_with r o.script ≡ known → AllByRecursion (IsOnOutput r t) (claimed_from r t (i + 1) os)
        → AllByRecursion (IsOnOutput r t) (cons_option (option_map (λ k. claim_on r k (place_in t i o)) known) (claimed_from r t (i + 1) os))
    at None e rest = rest
    at (Some k) e rest = (record { index = i; output = o; known = k; among = stands; found = e; claim = refl }, rest)

pub each_on_output : EachClaimIsOnItsOutput
each_on_output r t = on_outputs r t 0 t.outputs (λ n o e. let z : n ≡ 0 + n = omega arith in subst (λ m. slice_get t.outputs m ≡ Some o) z e)
