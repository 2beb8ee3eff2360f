-- What is recorded of a channel of a world, for the law on what takes its outputs.
use Rattle.std.proofs.Common.{◌≡◌, ◌≢◌, ℕ, zero, suc, ◌+◌, ◌≤◌, ◌<◌, ◌^◌, Bool, true, false, eqb, List, [], ◌∷◌, length, Some, None, refl, sym, ap, ◌∙◌, subst, arith, inl, inr, ⊎_elim, eq-eqb}
use Rattle.std.specs.Prelude.{◌⊎◌, if◌then◌else◌, slice_get}
use Rattle.std.specs.List.{list_any}
use Rattle.std.proofs.lemmas.Bool.{false≢true, or_parts, eqb-true}
use Rattle.std.proofs.lemmas.List.Folds.{list_any-append}
use Rattle.std.proofs.lemmas.Option.{none-some, same_Some, slice_get_within}
use Rattle.std.proofs.lemmas.Slice.Eq.{bytes_eq-Decides}
use Rattle.tx.specs.declared.input.OutPoint.{OutPoint}
use Rattle.tx.specs.Fields.{same_outpoint}
use Rattle.terms.specs.declared.sides.Side.{Side}
use Rattle.terms.specs.declared.sides.Side.TheVariants.{A, B}
use Rattle.terms.specs.declared.agreement.Terms.{Terms}
use Rattle.terms.specs.declared.agreement.BaseKeys.{BaseKeys}
use Rattle.terms.specs.Agreement.{party}
use Rattle.terms.specs.Bases.{IsSeedOf}
use Rattle.terms.specs.Sides.{other}
use Rattle.chain.specs.Blocks.{grant_outpoint}
use Rattle.safety.specs.Owning.{AreOfSeed}
use Rattle.channel.specs.declared.commitments.CommitmentState.{CommitmentState}
use Rattle.channel.specs.declared.limits.TheConstants.{LAST_NUMBER}
use Rattle.channel.specs.Keeping.{one_if}
use Rattle.channel.specs.Numbered.{IsNumbered}
use Rattle.book.specs.Books.{ChannelBook}
use Rattle.safety.specs.Recorded.{IsOutPoint}
use Rattle.safety.specs.Taken.{ChannelRecord, IsOwn, IsSound, ChannelRecords, AreSound}
use Rattle.world.specs.Agreeing.{first_grants}
use Rattle.world.specs.Worlds.{World, channel_of}
use Rattle.world.proofs.Grants.{apart}
use Rattle.world.proofs.TwoEnds.{end_of, AreBoth, Laws}

-- ---- the record of a channel

abbrev pub recorded : ChannelBook → ChannelBook → ChannelRecord
recorded x y = record { terms = x.state.held.terms; seed = λ s. (end_of s x y).state.seed; own = λ s. (end_of (other s) x y).state.signed }

-- the ends of a channel have one record
pub same_record : (w : World) (c d : ℕ) (x y v z : ChannelBook) → AreBoth w c x y → AreBoth w d v z → d ≡ c → recorded x y ≡ recorded v z
same_record w c d x y v z a b e =
    let first : x ≡ v = same_Some x v (sym (a.there A) ∙ ap (λ n. channel_of w.a n) (sym e) ∙ b.there A) in
    let second : y ≡ z = same_Some y z (sym (a.there B) ∙ ap (λ n. channel_of w.b n) (sym e) ∙ b.there B) in
    ap (λ (u : ChannelBook). recorded u y) first ∙ ap (λ (u : ChannelBook). recorded v u) second

-- the record of one channel alone
abbrev pub only : ℕ → ChannelRecord → ChannelRecords
only c r d = if eqb d c then Some r else None

pub only_is : (c d : ℕ) (r q : ChannelRecord) → only c r d ≡ Some q → (d ≡ c) × (r ≡ q)
only_is c d r q e = go (eqb d c) refl e
  where
    go : (b : Bool) → eqb d c ≡ b → (if b then Some r else None) ≡ Some q → (d ≡ c) × (r ≡ q)
    go true t e = (eqb-true d c t, same_Some r q e)
    go false t e = absurd (none-some q e)

pub only_there : (c d : ℕ) (r q : ChannelRecord) → d ≡ c → r ≡ q → only c r d ≡ Some q
only_there c d r q e same = ap (λ (b : Bool). if b then Some r else None) (eq-eqb d c e) ∙ ap Some same

-- ---- the outpoints of grants

-- no earlier grant has the outpoint of one of the first eight
or_below : (d n : ℕ) → d < suc n → (d ≡ n) ⊎ (d < n)
or_below zero zero l = inl refl
or_below zero (suc n) l = inr (omega arith)
or_below (suc d) zero l = absurd (omega (arith, l))
or_below (suc d) (suc n) l = ⊎_elim {C = (suc d ≡ suc n) ⊎ (suc d < suc n)} (λ (h : d ≡ n). inl (ap suc h)) (λ (h : d < n). inr (omega (arith, h))) (or_below d n (omega (arith, l)))

none_before : (p : OutPoint → Bool) (n d : ℕ) → d < n → list_any p (first_grants n) ≡ false → p (grant_outpoint d) ≡ false
none_before p zero d l e = absurd (omega (arith, l))
none_before p (suc n) d l e =
    let parts = or_parts (list_any p (first_grants n)) (list_any p (grant_outpoint n ∷ [])) (sym (list_any-append p (first_grants n) (grant_outpoint n ∷ [])) ∙ e) in
    ⊎_elim {C = p (grant_outpoint d) ≡ false} (λ (same : d ≡ n). ap (λ k. p (grant_outpoint k)) same ∙ (or_parts (p (grant_outpoint n)) false parts.1).0)
    (λ (less : d < n). none_before p n d less parts.0) (or_below d n l)

itself : (o : OutPoint) → same_outpoint o o ≡ true
itself o = rw ((bytes_eq-Decides o.txid o.txid).1 refl, eq-eqb o.index o.index refl) refl

later_differs : (c d : ℕ) → c < 8 → d < c → grant_outpoint d ≢ grant_outpoint c
later_differs c d few less e =
    let none = none_before (λ q. same_outpoint q (grant_outpoint c)) c d less (apart c few) in
    false≢true (sym none ∙ ap (λ o. same_outpoint o (grant_outpoint c)) e ∙ itself (grant_outpoint c))

pub grants_differ : (c d : ℕ) → c < 8 → d < 8 → c ≢ d → grant_outpoint c ≢ grant_outpoint d
grants_differ c d few some differ e = go (order c d)
  where
    order : (a b : ℕ) → (a < b) ⊎ ((b < a) ⊎ (a ≡ b))
    order zero zero = inr (inr refl)
    order zero (suc b) = inl (omega arith)
    order (suc a) zero = inr (inl (omega arith))
    order (suc a) (suc b) = ⊎_elim {C = (suc a < suc b) ⊎ ((suc b < suc a) ⊎ (suc a ≡ suc b))} (λ (h : a < b). inl (omega (arith, h)))
        (λ (h : (b < a) ⊎ (a ≡ b)). ⊎_elim {C = (suc a < suc b) ⊎ ((suc b < suc a) ⊎ (suc a ≡ suc b))} (λ (k : b < a). inr (inl (omega (arith, k)))) (λ (k : a ≡ b). inr (inr (ap suc k))) h) (order a b)

    go : (c < d) ⊎ ((d < c) ⊎ (c ≡ d)) → ⊥
    go (inl l) = later_differs d c some l e
    go (inr (inl l)) = later_differs c d few l (sym e)
    go (inr (inr s)) = differ s

-- ---- they are sound

pub twice : (side : Side) → other (other side) ≡ side
twice A = refl
twice B = refl

numbers_fit : (n many awaiting peer : ℕ) → n < many → many ≡ peer + 1 + awaiting → peer + awaiting ≤ LAST_NUMBER → n < 2 ^ 48
numbers_fit n many awaiting peer l e b = omega (arith, l, e, b)

pub own_at : Laws → (w : World) (c : ℕ) (x y : ChannelBook) → AreBoth w c x y → (side : Side) (n : ℕ) (k : CommitmentState) → slice_get (end_of (other side) x y).state.signed n ≡ Some k
    → IsOwn (recorded x y) side n k
own_at laws w c x y b side n k at =
    let me = (end_of (other side) x y).state in
    let end = b.ends (other side) in
    let numbered = end.numbered.signed in
    let below = numbers_fit n (length me.signed) (one_if me.awaiting) me.peer_number (slice_get_within me.signed n k at) numbered.count end.limited.bound in
    laws.own (recorded x y) side n k (subst IsOutPoint (sym b.granted.1) (laws.grants c)) below
    (subst (λ (v : Side). IsNumbered x.state.held.terms v n k) (ap other end.side_is ∙ twice side)
    (subst (λ (t : Terms). IsNumbered t (other me.held.side) n k) (b.terms (other side)) (numbered.each n k at)))

of_seed : (seed : List ℕ) (bases : BaseKeys) → IsSeedOf seed bases → AreOfSeed seed bases
of_seed seed bases is = record { payment = is.payment; htlc = is.htlc; revocation = is.revocation }

seed_at : (w : World) (c : ℕ) (x y : ChannelBook) → AreBoth w c x y → (side : Side) → AreOfSeed (end_of side x y).state.seed (party side x.state.held.terms).bases
seed_at w c x y b side =
    let me = (end_of side x y).state in
    of_seed me.seed (party side x.state.held.terms).bases
    (subst (λ (t : Terms). IsSeedOf me.seed (party side t).bases) (b.terms side) (subst (λ (s : Side). IsSeedOf me.seed (party s me.held.terms).bases) (b.ends side).side_is (b.seeds side)))

seeds_apart : (s : Side) (x y : ChannelBook) → (end_of s x y).state.seed ≢ (end_of (other s) x y).state.seed → (side : Side) → (end_of side x y).state.seed ≢ (end_of (other side) x y).state.seed
seeds_apart A x y differ A e = differ e
seeds_apart A x y differ B e = differ (sym e)
seeds_apart B x y differ A e = differ (sym e)
seeds_apart B x y differ B e = differ e

pub is_sound : Laws → (w : World) (c : ℕ) (x y : ChannelBook) → AreBoth w c x y → (s : Side) → (end_of s x y).state.seed ≢ (end_of (other s) x y).state.seed → AreSound (only c (recorded x y))
is_sound laws w c x y b s differ =
    let r = recorded x y in
    let sound : IsSound r = record { each = own_at laws w c x y b; seeds = seed_at w c x y b; apart = seeds_apart s x y differ } in
    record {
      each = λ d q e. subst IsSound (only_is c d r q e).1 sound;
      granted = λ d q e. let i = only_is c d r q e in ap (λ (p : ChannelRecord). p.terms.funding) (sym i.1) ∙ b.granted.1 ∙ ap grant_outpoint (sym i.0);
      apart = λ d n q p e f unlike same. unlike ((only_is c d r q e).0 ∙ sym (only_is c n r p f).0);
    }
