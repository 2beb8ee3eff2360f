-- Claims for different outputs of a commitment are at different outpoints.
use Rattle.std.proofs.Common.{◌≡◌, ◌≢◌, ℕ, ◌+◌, ◌<◌, ◌≤◌, List, [], ◌∷◌, ◌++◌, Some, sym, subst, arith}
use Rattle.std.specs.Prelude.{slice_get}
use Rattle.std.specs.List.{All, AllPairs}
use Rattle.std.proofs.lemmas.List.Elements.{All-nil, All-cons, All-weaker}
use Rattle.std.proofs.lemmas.List.Kept.{AllPairs-cons}
use Rattle.commit.specs.declared.outputs.CommitmentOutput.{CommitmentOutput}
use Rattle.commit.specs.Commitments.{Contents}
use Rattle.penalty.specs.Claimable.{Claimable, claims_by}
use Rattle.safety.specs.Places.{place_at}
use Rattle.safety.proofs.Places.{Rule}
use Rattle.safety.proofs.Seconds.{AreFrom, first_of, others_of}

abbrev pub AreApart : Claimable → Claimable → Type 0
AreApart o p = o.place.outpoint ≢ p.place.outpoint

-- no claim, or one of which this holds
pub data IsOneAtMost (For : Claimable → Type 0) (os : List Claimable) : Type 0 where
  none : os ≡ [] → IsOneAtMost For os
  one : (o : Claimable) → os ≡ o ∷ [] → For o → IsOneAtMost For os

-- the rule gives one claim at most for each output, and of it holds what is said of the output's index
abbrev pub GivesOne : (ℕ → Claimable → Type 0) → Rule → Contents → Type 0
GivesOne For on c = (index : ℕ) (o : CommitmentOutput) → slice_get c.outputs index ≡ Some o → IsOneAtMost (For index) (on index (place_at c index o) o.kind)

-- it holds of an index from here on
abbrev IsFrom : (ℕ → Claimable → Type 0) → ℕ → Claimable → Type 0
IsFrom For index o = (j : ℕ) × (index ≤ j) × For j o

put : (For : ℕ → Claimable → Type 0) (index : ℕ) (xs rest : List Claimable) → IsOneAtMost (For index) xs → All (IsFrom For index) rest → All (IsFrom For index) (xs ++ rest)
put For index xs rest (none e) others = subst (λ (ys : List Claimable). All (IsFrom For index) (ys ++ rest)) (sym e) others
put For index xs rest (one o e f) others = subst (λ (ys : List Claimable). All (IsFrom For index) (ys ++ rest)) (sym e) (All-cons (IsFrom For index) o rest (index, omega arith, f) others)

each_for : (For : ℕ → Claimable → Type 0) (on : Rule) (c : Contents) → GivesOne For on c → (index : ℕ) (os : List CommitmentOutput) → AreFrom c.outputs index os → All (IsFrom For index) (claims_by on c index os)
unfolding claims_by
each_for For on c gives index [] at = All-nil (IsFrom For index)
each_for For on c gives index (o ∷ os) at =
    let rest = claims_by on c (index + 1) os in
    let later = each_for For on c gives (index + 1) os (others_of c.outputs index o os at) in
    put For index (on index (place_at c index o) o.kind) rest (gives index o (first_of c.outputs index o os at))
    (All-weaker (IsFrom For (index + 1)) (IsFrom For index) (λ p f. (f.0, (let l = f.1 in omega (arith, l)), f.2)) rest later)

put_apart : (For : ℕ → Claimable → Type 0) → ((i j : ℕ) → i < j → (o p : Claimable) → For i o → For j p → AreApart o p) → (index : ℕ) (xs rest : List Claimable)
    → IsOneAtMost (For index) xs → All (IsFrom For (index + 1)) rest → AllPairs AreApart rest → AllPairs AreApart (xs ++ rest)
put_apart For apart index xs rest (none e) later pairs = subst (λ (ys : List Claimable). AllPairs AreApart (ys ++ rest)) (sym e) pairs
put_apart For apart index xs rest (one o e f) later pairs =
    subst (λ (ys : List Claimable). AllPairs AreApart (ys ++ rest)) (sym e)
    (AllPairs-cons AreApart o rest (All-weaker (IsFrom For (index + 1)) (AreApart o) (λ p g. apart index g.0 (let l = g.1 in omega (arith, l)) o p f g.2) rest later) pairs)

pub apart_from : (For : ℕ → Claimable → Type 0) (on : Rule) (c : Contents) → GivesOne For on c → ((i j : ℕ) → i < j → (o p : Claimable) → For i o → For j p → AreApart o p)
    → (index : ℕ) (os : List CommitmentOutput) → AreFrom c.outputs index os → AllPairs AreApart (claims_by on c index os)
unfolding claims_by
apart_from For on c gives apart index [] at = λ i j d l m. absurd (omega (arith, m))
apart_from For on c gives apart index (o ∷ os) at =
    let rest = claims_by on c (index + 1) os in
    put_apart For apart index (on index (place_at c index o) o.kind) rest (gives index o (first_of c.outputs index o os at)) (each_for For on c gives (index + 1) os (others_of c.outputs index o os at))
    (apart_from For on c gives apart (index + 1) os (others_of c.outputs index o os at))
