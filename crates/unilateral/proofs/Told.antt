-- A transaction is read whole: each output is told.
use Rattle.std.proofs.Common.{◌≡◌, ℕ, zero, suc, ◌+◌, ◌≤◌, ◌<◌, Bool, true, false, cond, List, [], ◌∷◌, ◌++◌, map, length, Option, Some, None, refl, sym, ap, subst, ◌∙◌, arith}
use Rattle.std.specs.Prelude.{slice_get, Contains, ◌&&◌, not}
use Rattle.std.specs.List.{cons_option, AllByRecursion}
use Rattle.std.proofs.lemmas.Bool.{false≢true}
use Rattle.std.proofs.lemmas.List.Elements.{Contains-append_right}
use Rattle.tx.specs.Parts.{Output}
use Rattle.tx.specs.Fields.{Transaction}
use Rattle.claim.specs.declared.parts.Place.{Place}
use Rattle.forms.specs.declared.parameters.Expiry.{Expiry}
use Rattle.commit.specs.declared.fees.Direction.{Direction}
use Rattle.commit.specs.declared.fees.Direction.TheVariants.{Offered, Received}
use Rattle.penalty.specs.Claimable.{Claimable, place_in}
use Rattle.revoked.specs.Deadlines.{is_offered_with}
use Rattle.revoked.specs.Parts.{RevokedParts}
use Rattle.revoked.specs.Programs.{output_with}
use Rattle.revoked.specs.Telling.{RisesFrom}
use Rattle.revoked.specs.declared.outputs.RevokedHtlc.{RevokedHtlc}
use Rattle.revoked.specs.declared.outputs.RevokedOutput.{RevokedOutput}
use Rattle.revoked.specs.declared.outputs.RevokedOutput.TheVariants.{ToLocal, ToRemote, ToHtlc}
use Rattle.unilateral.specs.declared.closes.Whose.{Whose}
use Rattle.unilateral.specs.declared.closes.Whose.TheVariants.{Ours, Theirs}
use Rattle.unilateral.specs.declared.closes.Close.{Close}
use Rattle.unilateral.specs.Claims.{is_claimed_of, has_expiry, with_expiry, with_expiries, expiries_of, ways_to, claims_of, is_claimed, claims_on}
use Rattle.unilateral.specs.Reading.{claims_if, claims_at, claimed_from, unless_claimed, others_from}
use Rattle.unilateral.specs.Telling.{IsTold, EachOutputIsTold, IsOnOutput, EachClaimIsOnItsOutput, IsWithoutClaim, OthersAreWithoutClaims}

some_is : {X : Type 0} (x y : X) → Some x ≡ Some y → x ≡ y
some_is x y e = cc

none_some : {X : Type 0} (x : X) → None ≡ Some x → ⊥
none_some x e = cc

cons_nil : {X : Type 0} (x : X) (xs : List X) → x ∷ xs ≡ [] → ⊥
cons_nil x xs e = cc

head : {X : Type 0} (x : X) (xs : List X) → Contains (x ∷ xs) x
head x xs = (0, omega arith, refl)

deeper : {X : Type 0} (x : X) (xs : List X) (y : X) → Contains xs y → Contains (x ∷ xs) y
deeper x xs y (k, l, e) = (suc k, omega (arith, l), e)

behind : {X : Type 0} (o : Option X) (xs : List X) (y : X) → Contains xs y → Contains (cons_option o xs) y
behind None xs y c = c
behind (Some x) xs y c = deeper x xs y c

in_front : {X : Type 0} (xs ys : List X) (y : X) → Contains xs y → Contains (xs ++ ys) y
in_front [] ys y (k, l, e) = absurd (omega (arith, l))
in_front (x ∷ xs) ys y (zero, l, e) = (0, omega arith, e)
in_front (x ∷ xs) ys y (suc k, l, e) = deeper x (xs ++ ys) y (in_front xs ys y (k, omega (arith, l), e))

-- what holds of each of a list holds where it is weaker
weaker : {X : Type 0} (P Q : X → Type 0) (xs : List X) → ((x : X) → P x → Q x) → AllByRecursion P xs → AllByRecursion Q xs
weaker P Q [] f a = tt
weaker P Q (x ∷ xs) f a = (f x a.0, weaker P Q xs f a.1)

each_within : {X : Type 0} (xs : List X) → AllByRecursion (Contains xs) xs
each_within [] = tt
each_within (x ∷ xs) = (head x xs, weaker (Contains xs) (Contains (x ∷ xs)) xs (λ y c. deeper x xs y c) (each_within xs))

-- an output that is claimed has a claim
a_first_expiry : (hash : List ℕ) (e : Expiry) (es : List Expiry) (hs : List RevokedHtlc) → with_expiries hash (e ∷ es) hs ≡ [] → ⊥
unfolding with_expiries
a_first_expiry hash e es [] f = cons_nil e es f
a_first_expiry hash e es (h ∷ hs) f = at (is_offered_with hash h && not (has_expiry (e ∷ es) h.expiry)) (a_first_expiry hash e (es ++ h.expiry ∷ []) hs) (a_first_expiry hash e es hs) f
  where
    at : (b : Bool) → (with_expiries hash (e ∷ es ++ h.expiry ∷ []) hs ≡ [] → ⊥) → (with_expiries hash (e ∷ es) hs ≡ [] → ⊥) → with_expiries hash (cond b (e ∷ es ++ h.expiry ∷ []) (e ∷ es)) hs ≡ [] → ⊥
    at true one none g = one g
    at false one none g = none g

an_expiry : (direction : Direction) (hs : List RevokedHtlc) (h : RevokedHtlc) → expiries_of direction hs h ≡ [] → ⊥
an_expiry Offered hs h f = a_first_expiry h.hash h.expiry [] hs f
an_expiry Received hs h f = cons_nil h.expiry [] f

map_nil : {X Y : Type 0} (f : X → Y) (xs : List X) → map f xs ≡ [] → xs ≡ []
map_nil f [] e = refl
map_nil f (x ∷ xs) e = absurd (cons_nil (f x) (map f xs) e)

some_way : (w : Whose) (preimages : List (List ℕ)) (feerate_per_kw : ℕ) (r : RevokedParts) (o : RevokedOutput) (place : Place) → is_claimed_of w preimages r o ≡ true → ways_to w feerate_per_kw r o place ≡ [] → ⊥
some_way Ours preimages feerate_per_kw r ToLocal place t e = cons_nil _ [] e
some_way Ours preimages feerate_per_kw r ToRemote place t e = false≢true t
some_way Ours preimages feerate_per_kw r (ToHtlc h) place t e = an_expiry h.direction r.htlcs h (map_nil _ (expiries_of h.direction r.htlcs h) e)
some_way Theirs preimages feerate_per_kw r ToLocal place t e = false≢true t
some_way Theirs preimages feerate_per_kw r ToRemote place t e = cons_nil _ [] e
some_way Theirs preimages feerate_per_kw r (ToHtlc h) place t e = cons_nil _ [] e

-- an output without a claim is named
unclaimed : (c : Close) (place : Place) (index : ℕ) (known : Option RevokedOutput) (rest : List ℕ) → claims_if c known place ≡ [] → Contains (cons_option (unless_claimed c known index) rest) index
unclaimed c place index None rest e = head index rest
unclaimed c place index (Some o) rest e = at (is_claimed c o) refl e
  where
    at : (b : Bool) → is_claimed c o ≡ b → cond b (ways_to c.whose c.feerate_per_kw c.commitment o place) [] ≡ [] → Contains (cons_option (cond b None (Some index)) rest) index
    at true t f = absurd (some_way c.whose c.preimages c.feerate_per_kw c.commitment o place t f)
    at false t f = head index rest

named_from : (c : Close) (t : Transaction) (i : ℕ) (os : List Output) (n : ℕ) (o : Output) → slice_get os n ≡ Some o → claims_at c (place_in t (i + n) o) ≡ [] → Contains (others_from c i os) (i + n)
unfolding others_from
named_from c t i [] n o e f = absurd (none_some o e)
named_from c t i (p ∷ os) zero o e f =
    let s : p ≡ o = some_is p o e in
    let g : i ≡ i + 0 = omega arith in
    subst (λ m. Contains (cons_option (unless_claimed c (output_with c.commitment p.script) i) (others_from c (i + 1) os)) m) g
    (unclaimed c (place_in t (i + 0) p) i (output_with c.commitment p.script) (others_from c (i + 1) os) (subst (λ (x : Output). claims_at c (place_in t (i + 0) x) ≡ []) (sym s) f))
named_from c t i (p ∷ os) (suc n) o e f =
    let g : i + 1 + n ≡ i + suc n = omega arith in
    behind (unless_claimed c (output_with c.commitment p.script) i) (others_from c (i + 1) os) (i + suc n)
    (subst (λ m. Contains (others_from c (i + 1) os) m) g (named_from c t (i + 1) os n o e (subst (λ m. claims_at c (place_in t m o) ≡ []) (sym g) f)))

claimed_here : (c : Close) (t : Transaction) (i : ℕ) (os : List Output) (n : ℕ) (o : Output) → slice_get os n ≡ Some o → AllByRecursion (Contains (claimed_from c t i os)) (claims_at c (place_in t (i + n) o))
unfolding claimed_from
claimed_here c t i [] n o e = absurd (none_some o e)
claimed_here c t i (p ∷ os) zero o e =
    let s : p ≡ o = some_is p o e in
    let g : i ≡ i + 0 = omega arith in
    subst (λ m. AllByRecursion (Contains (claims_at c (place_in t i p) ++ claimed_from c t (i + 1) os)) (claims_at c (place_in t m o))) g
    (subst (λ (x : Output). AllByRecursion (Contains (claims_at c (place_in t i p) ++ claimed_from c t (i + 1) os)) (claims_at c (place_in t i x))) s
    (weaker (Contains (claims_at c (place_in t i p))) (Contains (claims_at c (place_in t i p) ++ claimed_from c t (i + 1) os)) (claims_at c (place_in t i p))
    (λ y k. in_front (claims_at c (place_in t i p)) (claimed_from c t (i + 1) os) y k) (each_within (claims_at c (place_in t i p)))))
claimed_here c t i (p ∷ os) (suc n) o e =
    let g : i + 1 + n ≡ i + suc n = omega arith in
    subst (λ m. AllByRecursion (Contains (claims_at c (place_in t i p) ++ claimed_from c t (i + 1) os)) (claims_at c (place_in t m o))) g
    (weaker (Contains (claimed_from c t (i + 1) os)) (Contains (claims_at c (place_in t i p) ++ claimed_from c t (i + 1) os)) (claims_at c (place_in t (i + 1 + n) o))
    (λ y k. Contains-append_right (claims_at c (place_in t i p)) (claimed_from c t (i + 1) os) y k) (claimed_here c t (i + 1) os n o e))

pub each_told : EachOutputIsTold
each_told c t index o e =
    let z : 0 + index ≡ index = omega arith in
    record {
      claimed = subst (λ m. AllByRecursion (Contains (claimed_from c t 0 t.outputs)) (claims_at c (place_in t m o))) z (claimed_here c t 0 t.outputs index o e);
      named = λ f. subst (λ m. Contains (others_from c 0 t.outputs) m) z (named_from c t 0 t.outputs index o e (subst (λ m. claims_at c (place_in t m o) ≡ []) (sym z) f));
    }

-- each claim is on its output
both : {X : Type 0} (P : X → Type 0) (xs ys : List X) → AllByRecursion P xs → AllByRecursion P ys → AllByRecursion P (xs ++ ys)
both P [] ys a b = b
both P (x ∷ xs) ys a b = (a.0, both P xs ys a.1 b)

later : (t : Transaction) (i : ℕ) (o : Output) (os : List Output) → ((n : ℕ) (p : Output) → slice_get (o ∷ os) n ≡ Some p → slice_get t.outputs (i + n) ≡ Some p)
    → (n : ℕ) (p : Output) → slice_get os n ≡ Some p → slice_get t.outputs (i + 1 + n) ≡ Some p
later t i o os within n p e = let g : i + suc n ≡ i + 1 + n = omega arith in subst (λ m. slice_get t.outputs m ≡ Some p) g (within (suc n) p e)

stands : (t : Transaction) (i : ℕ) (o : Output) (os : List Output) → ((n : ℕ) (p : Output) → slice_get (o ∷ os) n ≡ Some p → slice_get t.outputs (i + n) ≡ Some p) → slice_get t.outputs i ≡ Some o
stands t i o os within = let g : i + 0 ≡ i = omega arith in subst (λ m. slice_get t.outputs m ≡ Some o) g (within 0 o refl)

own : (c : Close) (t : Transaction) (i : ℕ) (o : Output) (known : Option RevokedOutput) → output_with c.commitment o.script ≡ known → slice_get t.outputs i ≡ Some o
    → AllByRecursion (IsOnOutput c t) (claims_if c known (place_in t i o))
own c t i o None e s = tt
own c t i o (Some k) e s =
    weaker (Contains (claims_on c k (place_in t i o))) (IsOnOutput c t) (claims_on c k (place_in t i o))
    (λ x m. record { index = i; output = o; known = k; among = s; found = e; own = m }) (each_within (claims_on c k (place_in t i o)))

on_outputs : (c : Close) (t : Transaction) (i : ℕ) (os : List Output) → ((n : ℕ) (o : Output) → slice_get os n ≡ Some o → slice_get t.outputs (i + n) ≡ Some o)
    → AllByRecursion (IsOnOutput c t) (claimed_from c t i os)
unfolding claimed_from
on_outputs c t i [] within = tt
on_outputs c t i (o ∷ os) within =
    both (IsOnOutput c t) (claims_at c (place_in t i o)) (claimed_from c t (i + 1) os)
    (own c t i o (output_with c.commitment o.script) refl (stands t i o os within)) (on_outputs c t (i + 1) os (later t i o os within))

pub each_on_output : EachClaimIsOnItsOutput
each_on_output c t = on_outputs c t 0 t.outputs (λ n o e. let g : n ≡ 0 + n = omega arith in subst (λ m. slice_get t.outputs m ≡ Some o) g e)

-- the others have no claims, and rise
lower : (i : ℕ) (ns : List ℕ) → RisesFrom (i + 1) ns → RisesFrom i ns
lower i [] r = tt
lower i (n ∷ ns) r = let l : i + 1 ≤ n = r.0 in (omega (arith, l), r.1)

rise_from : (c : Close) (i : ℕ) (os : List Output) → RisesFrom i (others_from c i os)
unfolding others_from
rise_from c i [] = tt
rise_from c i (o ∷ os) = at (unless_claimed c (output_with c.commitment o.script) i) (of (output_with c.commitment o.script)) (rise_from c (i + 1) os)
  where
    IsHere : Option ℕ → Type 0
    IsHere n = (m : ℕ) → n ≡ Some m → m ≡ i

    of : (known : Option RevokedOutput) → IsHere (unless_claimed c known i)
    of None m e = sym (some_is i m e)
    of (Some k) m e = with_claim (is_claimed c k) m e
      where
        with_claim : (b : Bool) (m : ℕ) → cond b None (Some i) ≡ Some m → m ≡ i
        with_claim true m e = absurd (none_some m e)
        with_claim false m e = sym (some_is i m e)

    at : (n : Option ℕ) → IsHere n → RisesFrom (i + 1) (others_from c (i + 1) os) → RisesFrom i (cons_option n (others_from c (i + 1) os))
    at None h rest = lower i (others_from c (i + 1) os) rest
    at (Some m) h rest = let f : m ≡ i = h m refl in (omega (arith, f), subst (λ x. RisesFrom (x + 1) (others_from c (i + 1) os)) (sym f) rest)

no_claim : (c : Close) (t : Transaction) (i : ℕ) (o : Output) (known : Option RevokedOutput) (rest : List ℕ) → output_with c.commitment o.script ≡ known → slice_get t.outputs i ≡ Some o
    → AllByRecursion (IsWithoutClaim c t) rest → AllByRecursion (IsWithoutClaim c t) (cons_option (unless_claimed c known i) rest)
no_claim c t i o None rest e s a = (record { output = o; among = s; none = ap (λ x. claims_if c x (place_in t i o)) e }, a)
no_claim c t i o (Some k) rest e s a = at (is_claimed c k) refl
  where
    at : (b : Bool) → is_claimed c k ≡ b → AllByRecursion (IsWithoutClaim c t) (cons_option (cond b None (Some i)) rest)
    at true f = a
    at false f = (
      record {
        output = o;
        among = s;
        none = ap (λ x. claims_if c x (place_in t i o)) e ∙ ap (λ (b : Bool). cond b (ways_to c.whose c.feerate_per_kw c.commitment k (place_in t i o)) []) f;
      },
      a,
    )

none_from : (c : Close) (t : Transaction) (i : ℕ) (os : List Output) → ((n : ℕ) (o : Output) → slice_get os n ≡ Some o → slice_get t.outputs (i + n) ≡ Some o)
    → AllByRecursion (IsWithoutClaim c t) (others_from c i os)
unfolding others_from
none_from c t i [] within = tt
none_from c t i (o ∷ os) within =
    no_claim c t i o (output_with c.commitment o.script) (others_from c (i + 1) os) refl (stands t i o os within) (none_from c t (i + 1) os (later t i o os within))

pub without_claims : OthersAreWithoutClaims
without_claims c t = record {
  rise = rise_from c 0 t.outputs;
  each = none_from c t 0 t.outputs (λ n o e. let g : n ≡ 0 + n = omega arith in subst (λ m. slice_get t.outputs m ≡ Some o) g e);
}
