-- Whichever commitment closes a channel, it gives the side what it is worth, and the least at least.
use Rattle.std.proofs.Common.{◌≡◌, ℕ, zero, suc, ◌+◌, ◌*◌, ◌<◌, ◌≤◌, min, Bool, true, false, List, [], ◌∷◌, ◌++◌, map, take, drop, Some, None, refl, sym, subst, arith}
use Rattle.std.specs.Prelude.{slice_get}
use Rattle.std.specs.List.{AllByRecursion}
use Rattle.terms.specs.declared.htlcs.Htlc.{Htlc}
use Rattle.terms.specs.declared.sides.Side.{Side}
use Rattle.terms.specs.declared.agreement.Terms.{Terms}
use Rattle.terms.specs.Sides.{other}
use Rattle.commit.specs.Order.{ThereIsOneOrder}
use Rattle.commit.specs.Commitments.{commitment_of}
use Rattle.penalty.specs.Worth.{value_of}
use Rattle.channel.specs.declared.commitments.CommitmentState.{CommitmentState}
use Rattle.channel.specs.Numbered.{IsNumbered}
use Rattle.channel.specs.States.{Signing, State}
use Rattle.channel.specs.Peers.{IsLived}
use Rattle.channel.specs.Recording.{SidesNumber}
use Rattle.channel.specs.Tokens.{contents_of}
use Rattle.worth_laws.specs.Shares.{owner_by, counted_msat, counted_sat, values_sat, deductions, all_deductions, IsLess, SharesAreWorth, AllIsTheCapacity}
use Rattle.worth_laws.specs.Bounds.{AreAtMost, IsWithin, DeductionsAreBounded, AllAreBounded}
use Rattle.worth_laws.specs.Least.{MayClose, revoked, newest, next, own, peers_sat, gives_sat, whole_msat, taken_off, most_off, counted_by, fees_by, least, own_left_sat, revoked_left_sat, at_least_sat, WhicheverCloses}
use Rattle.worth_laws.proofs.Counted.{counted_worth}
use Rattle.worth_laws.proofs.Staged.{staged_worth}
use Rattle.worth_laws.proofs.Fees.{fewer_fees_with, fewer_fees_counted}

-- ---- the least of a list

some_is : {X : Type 0} (x y : X) → Some x ≡ Some y → x ≡ y
some_is x y e = cc

none_some : {X : Type 0} (x : X) → None ≡ Some x → ⊥
none_some x e = cc

lower : (n m : ℕ) (xs : List ℕ) → n ≤ m → AllByRecursion (λ x. m ≤ x) xs → AllByRecursion (λ x. n ≤ x) xs
lower n m [] l a = tt
lower n m (x ∷ xs) l a = (omega (arith, l, a.0), lower n m xs l a.1)

least_below : (xs : List ℕ) → AllByRecursion (λ x. least xs ≤ x) xs
least_below [] = tt
least_below (n ∷ []) = (omega arith, tt)
least_below (n ∷ m ∷ ns) = (omega arith, lower (min n (least (m ∷ ns))) (least (m ∷ ns)) (m ∷ ns) (omega arith) (least_below (m ∷ ns)))

-- ---- at a place of a list

module _ (P : ℕ → Type 0) where
  in_first : (xs ys : List ℕ) → AllByRecursion P (xs ++ ys) → AllByRecursion P xs
  in_first [] ys a = tt
  in_first (x ∷ xs) ys a = (a.0, in_first xs ys a.1)

  in_second : (xs ys : List ℕ) → AllByRecursion P (xs ++ ys) → AllByRecursion P ys
  in_second [] ys a = a
  in_second (x ∷ xs) ys a = in_second xs ys a.1

  module _ {X : Type 0} (f : X → ℕ) where
    of_all : (xs : List X) (i : ℕ) (x : X) → slice_get xs i ≡ Some x → AllByRecursion P (map f xs) → P (f x)
    of_all [] i x e a = absurd (none_some x e)
    of_all (y ∷ ys) zero x e a = subst (λ z. P (f z)) (some_is y x e) a.0
    of_all (y ∷ ys) (suc i) x e a = of_all ys i x e a.1

    of_later : (n : ℕ) (xs : List X) (i : ℕ) (x : X) → n ≤ i → slice_get xs i ≡ Some x → AllByRecursion P (map f (drop n xs)) → P (f x)
    of_later zero xs i x l e a = of_all xs i x e a
    of_later (suc n) [] i x l e a = absurd (none_some x e)
    of_later (suc n) (y ∷ ys) zero x l e a = absurd (omega (arith, l))
    of_later (suc n) (y ∷ ys) (suc i) x l e a = of_later n ys i x (omega (arith, l)) e a

    of_earlier : (n : ℕ) (xs : List X) (i : ℕ) (x : X) → i < n → slice_get xs i ≡ Some x → AllByRecursion P (map f (take n xs)) → P (f x)
    of_earlier zero xs i x l e a = absurd (omega (arith, l))
    of_earlier (suc n) [] i x l e a = absurd (none_some x e)
    of_earlier (suc n) (y ∷ ys) zero x l e a = subst (λ z. P (f z)) (some_is y x e) a.0
    of_earlier (suc n) (y ∷ ys) (suc i) x l e a = of_earlier n ys i x (omega (arith, l)) e a.1

-- ---- what can be claimed, whichever HTLC transactions stand

-- with the fees of those that stand the claims are worth the outputs
are_claimed : ThereIsOneOrder → (known : Htlc → Bool) (stands : ℕ → Bool) (s : State) (k : CommitmentState) (m : MayClose s k) → value_of (counted_by known stands s k m) + fees_by known stands s k m ≡ gives_sat known s k m
are_claimed order known stands s k (revoked n l at) = staged_worth order s.held.terms k.view k.owner k.number k.point.bytes stands
are_claimed order known stands s k (newest at) = counted_worth order s.held.terms k.view k.owner k.number k.point.bytes false known stands
are_claimed order known stands s k (next e at) = counted_worth order s.held.terms k.view k.owner k.number k.point.bytes false known stands
are_claimed order known stands s k (own at) = counted_worth order s.held.terms k.view k.owner k.number k.point.bytes true known stands

fewer_fees : (known : Htlc → Bool) (stands : ℕ → Bool) (s : State) (k : CommitmentState) (m : MayClose s k) → fees_by known stands s k m ≤ fees_by known (λ _. true) s k m
fewer_fees known stands s k (revoked n l at) = fewer_fees_with stands (contents_of s.held.terms k)
fewer_fees known stands s k (newest at) = omega arith
fewer_fees known stands s k (next e at) = omega arith
fewer_fees known stands s k (own at) = fewer_fees_counted known stands (contents_of s.held.terms k)

-- so they are worth the least where each stands
left_at_least : ThereIsOneOrder → (known : Htlc → Bool) (stands : ℕ → Bool) (s : State) (k : CommitmentState) (m : MayClose s k) → value_of (counted_by known (λ _. true) s k m) ≤ value_of (counted_by known stands s k m)
left_at_least order known stands s k m = by _ _ _ _ _ (are_claimed order known stands s k m) (are_claimed order known (λ _. true) s k m) (fewer_fees known stands s k m)
  where
    by : (value left fees most gives : ℕ) → value + fees ≡ gives → left + most ≡ gives → fees ≤ most → left ≤ value
    by value left fees most gives e f l = omega (arith, e, f, l)

module _ (order : ThereIsOneOrder) (known : Htlc → Bool) (s : State) (k : CommitmentState) where
  abbrev P : ℕ → Type 0
  P x = at_least_sat known s ≤ x

  abbrev mine : List ℕ
  mine = map (own_left_sat known s) (drop s.number s.mine)

  abbrev newer : List ℕ
  newer = map (peers_sat known s) (drop s.peer_number s.signed)

  abbrev older : List ℕ
  older = map (revoked_left_sat s) (take s.peer_number s.signed)

  every : AllByRecursion P ((mine ++ newer) ++ older)
  every = least_below ((mine ++ newer) ++ older)

  -- of its peer's it claims all that the outputs are worth on which it counts
  of_peers : (m : MayClose s k) → fees_by known (λ _. true) s k m ≡ 0 → P (gives_sat known s k m) → P (value_of (counted_by known (λ _. true) s k m))
  of_peers m none l = let e = are_claimed order known (λ _. true) s k m in omega (arith, none, l, e)

  is_left : (m : MayClose s k) → P (value_of (counted_by known (λ _. true) s k m))
  is_left (revoked n l at) = of_earlier P (revoked_left_sat s) s.peer_number s.signed n k l at (in_second P (mine ++ newer) older every)
  is_left (newest at) = of_peers (newest at) refl (of_later P (peers_sat known s) s.peer_number s.signed s.peer_number k (omega arith) at (in_second P mine newer (in_first P (mine ++ newer) older every)))
  is_left (next e at) = of_peers (next e at) refl (of_later P (peers_sat known s) s.peer_number s.signed (s.peer_number + 1) k (omega arith) at (in_second P mine newer (in_first P (mine ++ newer) older every)))
  is_left (own at) = of_later P (own_left_sat known s) s.number s.mine s.number k (omega arith) at (in_first P mine newer (in_first P (mine ++ newer) older every))

is_least : ThereIsOneOrder → (known : Htlc → Bool) (stands : ℕ → Bool) (s : State) (k : CommitmentState) (m : MayClose s k) → at_least_sat known s ≤ value_of (counted_by known stands s k m)
is_least order known stands s k m = let l = is_left order known s k m in let more = left_at_least order known stands s k m in omega (arith, l, more)

is_given : ThereIsOneOrder → (known : Htlc → Bool) (s : State) (k : CommitmentState) (m : MayClose s k) → at_least_sat known s ≤ gives_sat known s k m
is_given order known s k m = let l = is_left order known s k m in let e = are_claimed order known (λ _. true) s k m in omega (arith, l, e)

-- ---- what each gives

-- a recorded commitment is of its side, and its view shares out the capacity
of_mine : SidesNumber → (tokens_of : Signing) (s : State) → IsLived tokens_of s → (n : ℕ) (k : CommitmentState) → slice_get s.mine n ≡ Some k → IsNumbered s.held.terms s.held.side n k
of_mine law tokens_of s lived n k at = (law tokens_of s lived).mine.each n k at

of_signed : SidesNumber → (tokens_of : Signing) (s : State) → IsLived tokens_of s → (n : ℕ) (k : CommitmentState) → slice_get s.signed n ≡ Some k → IsNumbered s.held.terms (other s.held.side) n k
of_signed law tokens_of s lived n k at = (law tokens_of s lived).signed.each n k at

-- a share of a recorded commitment, by its owner
share_of : SharesAreWorth → (terms : Terms) (ours : Bool) (me : Side) (k : CommitmentState) (known : Htlc → Bool) → k.owner ≡ owner_by ours me
    → IsLess (counted_msat known me k.view) (deductions terms k.view ours me known) (counted_sat ours known (contents_of terms k).outputs)
share_of law terms ours me k known e =
    subst (λ owner. IsLess (counted_msat known me k.view) (deductions terms k.view ours me known) (counted_sat ours known (commitment_of terms k.view owner k.number k.point.bytes).outputs)) (sym e)
    (law terms k.view ours me k.number k.point.bytes known)

all_of : AllIsTheCapacity → (terms : Terms) (owner : Side) (n : ℕ) (k : CommitmentState) → IsNumbered terms owner n k
    → IsLess (1000 * terms.capacity_sat) (all_deductions terms k.view owner) (values_sat (contents_of terms k).outputs)
all_of law terms owner n k i =
    subst (λ by. IsLess (1000 * terms.capacity_sat) (all_deductions terms k.view owner) (values_sat (commitment_of terms k.view by k.number k.point.bytes).outputs)) (sym i.owner)
    (law terms k.view owner k.number k.point.bytes i.shares.whole)

-- its feerate and its owner's dust limit, by whose it is
of_owner : (terms : Terms) (k : CommitmentState) (owner : Side) (feerate_per_kw limit_sat : ℕ) → k.owner ≡ owner → IsWithin terms k.view k.owner feerate_per_kw limit_sat → IsWithin terms k.view owner feerate_per_kw limit_sat
of_owner terms k owner feerate_per_kw limit_sat e w = subst (λ by. IsWithin terms k.view by feerate_per_kw limit_sat) e w

module _ (shares : SharesAreWorth) (all : AllIsTheCapacity) (each : DeductionsAreBounded) (both : AllAreBounded) (order : ThereIsOneOrder) (numbered : SidesNumber) where
  is_worth : (tokens_of : Signing) (s : State) → IsLived tokens_of s → (known : Htlc → Bool) (k : CommitmentState) (m : MayClose s k) → IsLess (whole_msat known s k m) (taken_off known s k m) (gives_sat known s k m)
  is_worth tokens_of s lived known k (revoked n l at) = all_of all s.held.terms (other s.held.side) n k (of_signed numbered tokens_of s lived n k at)
  is_worth tokens_of s lived known k (newest at) = share_of shares s.held.terms false s.held.side k known (of_signed numbered tokens_of s lived s.peer_number k at).owner
  is_worth tokens_of s lived known k (next e at) = share_of shares s.held.terms false s.held.side k known (of_signed numbered tokens_of s lived (s.peer_number + 1) k at).owner
  is_worth tokens_of s lived known k (own at) = share_of shares s.held.terms true s.held.side k known (of_mine numbered tokens_of s lived s.number k at).owner

  are_bounded : (tokens_of : Signing) (s : State) → IsLived tokens_of s → (known : Htlc → Bool) (k : CommitmentState) (m : MayClose s k) (feerate_per_kw limit_sat : ℕ) → IsWithin s.held.terms k.view k.owner feerate_per_kw limit_sat
      → AreAtMost (taken_off known s k m) (most_off known s k m feerate_per_kw limit_sat)
  are_bounded tokens_of s lived known k (revoked n l at) feerate_per_kw limit_sat w =
      both s.held.terms k.view (other s.held.side) feerate_per_kw limit_sat (of_owner s.held.terms k (other s.held.side) feerate_per_kw limit_sat (of_signed numbered tokens_of s lived n k at).owner w)
  are_bounded tokens_of s lived known k (newest at) feerate_per_kw limit_sat w =
      each s.held.terms k.view false s.held.side known feerate_per_kw limit_sat (of_owner s.held.terms k (other s.held.side) feerate_per_kw limit_sat (of_signed numbered tokens_of s lived s.peer_number k at).owner w)
  are_bounded tokens_of s lived known k (next e at) feerate_per_kw limit_sat w =
      each s.held.terms k.view false s.held.side known feerate_per_kw limit_sat (of_owner s.held.terms k (other s.held.side) feerate_per_kw limit_sat (of_signed numbered tokens_of s lived (s.peer_number + 1) k at).owner w)
  are_bounded tokens_of s lived known k (own at) feerate_per_kw limit_sat w =
      each s.held.terms k.view true s.held.side known feerate_per_kw limit_sat (of_owner s.held.terms k s.held.side feerate_per_kw limit_sat (of_mine numbered tokens_of s lived s.number k at).owner w)

  pub whichever_closes : WhicheverCloses
  whichever_closes = record { worth = is_worth; bounded = are_bounded; claims = are_claimed order; least = is_least order; given = is_given order }
