-- Whoever knows more HTLCs has no less.
use Rattle.std.proofs.Common.{◌≡◌, ℕ, ◌+◌, ◌≤◌, min, Bool, true, false, List, [], ◌∷◌, ◌++◌, map, take, drop, refl, arith}
use Rattle.std.specs.Prelude.{if◌then◌else◌}
use Rattle.std.proofs.lemmas.Bool.{false≢true}
use Rattle.std.proofs.lemmas.List.Sums.{sum_by-cons, sum_by-append}
use Rattle.terms.specs.declared.htlcs.Htlc.{Htlc}
use Rattle.commit.specs.declared.fees.Direction.TheVariants.{Offered, Received}
use Rattle.commit.specs.declared.outputs.OutputKind.{OutputKind}
use Rattle.commit.specs.declared.outputs.OutputKind.TheVariants.{ToLocal, ToRemote, ToHtlc}
use Rattle.commit.specs.declared.outputs.CommitmentOutput.{CommitmentOutput}
use Rattle.commit.specs.Commitments.{Contents, tx_output, transaction_of}
use Rattle.penalty.specs.Claimable.{Claimable, place_in, claims_by}
use Rattle.penalty.specs.Worth.{value_of}
use Rattle.channel.specs.declared.commitments.CommitmentState.{CommitmentState}
use Rattle.channel.specs.States.{State}
use Rattle.channel.specs.Tokens.{contents_of}
use Rattle.worth_laws.specs.Shares.{counts_on, counted_sat, none_known}
use Rattle.worth_laws.specs.Counted.{claim_on, counted_on}
use Rattle.worth_laws.specs.Least.{own_left_sat, peers_sat, revoked_left_sat, least, at_least_sat}
use Rattle.worth_laws.proofs.Shares.{worth_on, worth_in, filtered}
use Rattle.balance_laws.specs.Knowing.{KnowsMore, MoreIsNotLess}

-- ---- the outputs

counts_more : (known more : Htlc → Bool) → KnowsMore known more → (own : Bool) (kind : OutputKind) → counts_on own known kind ≡ true → counts_on own more kind ≡ true
counts_more known more k own ToLocal e = e
counts_more known more k own ToRemote e = e
counts_more known more k true (ToHtlc Offered h) e = e
counts_more known more k true (ToHtlc Received h) e = k h e
counts_more known more k false (ToHtlc Offered h) e = k h e
counts_more known more k false (ToHtlc Received h) e = e

where_counted : (a b : Bool) (value : ℕ) → (a ≡ true → b ≡ true) → (if a then value else 0) ≤ (if b then value else 0)
where_counted false b value f = omega arith
where_counted true true value f = omega arith
where_counted true false value f = absurd (false≢true (f refl))

worth_more : (known more : Htlc → Bool) → KnowsMore known more → (own : Bool) (os : List CommitmentOutput) → worth_in own known os ≤ worth_in own more os
worth_more known more k own [] = omega arith
worth_more known more k own (o ∷ os) =
    let a = sum_by-cons (worth_on own known) o os in
    let b = sum_by-cons (worth_on own more) o os in
    let here = where_counted (counts_on own known o.kind) (counts_on own more o.kind) o.value (counts_more known more k own o.kind) in
    let rest = worth_more known more k own os in
    joined _ _ _ _ _ _ a b here rest
  where
    joined : (s t x y u v : ℕ) → s ≡ x + u → t ≡ y + v → x ≤ y → u ≤ v → s ≤ t
    joined s t x y u v e f l m = omega (arith, e, f, l, m)

outputs_more : (known more : Htlc → Bool) → KnowsMore known more → (own : Bool) (os : List CommitmentOutput) → counted_sat own known os ≤ counted_sat own more os
outputs_more known more k own os =
    let a = filtered own known os in
    let b = filtered own more os in
    let l = worth_more known more k own os in
    omega (arith, a, b, l)

-- ---- the claims on them

if_claimed : (a b : Bool) (os xs ys : List Claimable) → (a ≡ true → b ≡ true) → value_of xs ≤ value_of ys → value_of ((if a then os else []) ++ xs) ≤ value_of ((if b then os else []) ++ ys)
if_claimed true true os xs ys f l = both _ _ _ _ _ (sum_by-append (λ (o : Claimable). o.place.value) os xs) (sum_by-append (λ (o : Claimable). o.place.value) os ys) l
  where
    both : (s t n u v : ℕ) → s ≡ n + u → t ≡ n + v → u ≤ v → s ≤ t
    both s t n u v e f l = omega (arith, e, f, l)
if_claimed true false os xs ys f l = absurd (false≢true (f refl))
if_claimed false true os xs ys f l = let e = sum_by-append (λ (o : Claimable). o.place.value) os ys in omega (arith, e, l)
if_claimed false false os xs ys f l = l

claims_more : (known more : Htlc → Bool) → KnowsMore known more → (own : Bool) (stands : ℕ → Bool) (c : Contents) (index : ℕ) (os : List CommitmentOutput)
    → value_of (claims_by (counted_on own known stands c) c index os) ≤ value_of (claims_by (counted_on own more stands c) c index os)
unfolding claims_by
claims_more known more k own stands c index [] = omega arith
claims_more known more k own stands c index (o ∷ os) =
    if_claimed (counts_on own known o.kind) (counts_on own more o.kind) (claim_on own stands c index (place_in (transaction_of c) index (tx_output o)) o.kind) (claims_by (counted_on own known stands c) c (index + 1) os)
    (claims_by (counted_on own more stands c) c (index + 1) os) (counts_more known more k own o.kind) (claims_more known more k own stands c (index + 1) os)

left_more : (known more : Htlc → Bool) → KnowsMore known more → (s : State) (k : CommitmentState) → own_left_sat known s k ≤ own_left_sat more s k
left_more known more m s k = let c = contents_of s.held.terms k in claims_more known more m true (λ _. true) c 0 c.outputs

-- ---- the least of them

-- as many numbers, each at least that at its place
data AreAbove : List ℕ → List ℕ → Type 0 where
  none : AreAbove [] []
  more : (n m : ℕ) (ns ms : List ℕ) → n ≤ m → AreAbove ns ms → AreAbove (n ∷ ns) (m ∷ ms)

least_above : (ns ms : List ℕ) → AreAbove ns ms → least ns ≤ least ms
least_above _ _ none = omega arith
least_above _ _ (more n m _ _ l none) = l
least_above _ _ (more n m _ _ l (more i j is js k a)) = let r = least_above (i ∷ is) (j ∷ js) (more i j is js k a) in smaller n m (least (i ∷ is)) (least (j ∷ js)) l r
  where
    smaller : (a b c d : ℕ) → a ≤ b → c ≤ d → min a c ≤ min b d
    smaller a b c d l m = omega (arith, l, m)

joined_above : (ns ms is js : List ℕ) → AreAbove ns ms → AreAbove is js → AreAbove (ns ++ is) (ms ++ js)
joined_above _ _ is js none b = b
joined_above _ _ is js (more n m ns ms l a) b = more n m (ns ++ is) (ms ++ js) l (joined_above ns ms is js a b)

mapped_above : {X : Type 0} (f g : X → ℕ) → ((x : X) → f x ≤ g x) → (xs : List X) → AreAbove (map f xs) (map g xs)
mapped_above f g l [] = none
mapped_above f g l (x ∷ xs) = more (f x) (g x) (map f xs) (map g xs) (l x) (mapped_above f g l xs)

least_more : (known other : Htlc → Bool) → KnowsMore known other → (s : State) → at_least_sat known s ≤ at_least_sat other s
least_more known other k s =
    let mine = drop s.number s.mine in
    let newer = drop s.peer_number s.signed in
    let older = take s.peer_number s.signed in
    least_above ((map (own_left_sat known s) mine ++ map (peers_sat known s) newer) ++ map (revoked_left_sat s) older) ((map (own_left_sat other s) mine ++ map (peers_sat other s) newer) ++ map (revoked_left_sat s) older)
    (joined_above (map (own_left_sat known s) mine ++ map (peers_sat known s) newer) (map (own_left_sat other s) mine ++ map (peers_sat other s) newer) (map (revoked_left_sat s) older) (map (revoked_left_sat s) older)
    (joined_above (map (own_left_sat known s) mine) (map (own_left_sat other s) mine) (map (peers_sat known s) newer) (map (peers_sat other s) newer)
    (mapped_above (own_left_sat known s) (own_left_sat other s) (left_more known other k s) mine)
    (mapped_above (peers_sat known s) (peers_sat other s) (λ (c : CommitmentState). outputs_more known other k false (contents_of s.held.terms c).outputs) newer))
    (mapped_above (revoked_left_sat s) (revoked_left_sat s) (λ (c : CommitmentState). omega arith) older))

pub more_is_not_less : MoreIsNotLess
more_is_not_less = record { outputs = outputs_more; least = least_more }

-- ---- on both sides

-- whoever knows none knows no more than anybody
-- yes: KnowsMore
none_is_less : (known : Htlc → Bool) → KnowsMore none_known known
none_is_less known h e = absurd (false≢true e)

-- and whoever knows one knows more than that
-- no: KnowsMore
one_is_more : (known : Htlc → Bool) (h : Htlc) → known h ≡ true → KnowsMore known none_known → ⊥
one_is_more known h e k = false≢true (k h e)
