-- The claims on a peer's commitment on whose outputs a node counts: each is one of the peer's claims of `safety`, and no two are at one outpoint.
use Rattle.std.proofs.Common.{◌≡◌, ℕ, ◌<◌, Bool, true, false, [], ◌∷◌, Some, sym, ap, ◌∙◌, refl, arith}
use Rattle.std.specs.Prelude.{slice_get, if◌then◌else◌}
use Rattle.std.specs.List.{Contains, AllPairs}
use Rattle.tx.specs.declared.input.OutPoint.{OutPoint}
use Rattle.terms.specs.declared.htlcs.Htlc.{Htlc}
use Rattle.commit.specs.declared.fees.Direction.{Direction}
use Rattle.commit.specs.declared.outputs.OutputKind.{OutputKind}
use Rattle.commit.specs.declared.outputs.OutputKind.TheVariants.{ToLocal, ToRemote, ToHtlc}
use Rattle.commit.specs.declared.outputs.CommitmentOutput.{CommitmentOutput}
use Rattle.commit.specs.Commitments.{Contents, id_of}
use Rattle.penalty.specs.Claimable.{Claimable, payment_on}
use Rattle.resolve.specs.Due.{direct_on}
use Rattle.worth_laws.specs.Shares.{counts_on}
use Rattle.worth_laws.specs.Counted.{counted_on, counted}
use Rattle.safety.specs.Places.{place_at, IsPeersClaim, payment, direct}
use Rattle.safety.proofs.Lists.{contains_none}
use Rattle.safety.proofs.Places.{contains_one, given_by, htlc_at_index}
use Rattle.safety.proofs.Seconds.{all_of}
use Rattle.balance_laws.proofs.Apart.{AreApart, IsOneAtMost, none, one, apart_from}

-- the HTLC transactions of a peer's commitment are the peer's
abbrev pub no_stage : ℕ → Bool
no_stage = λ index. false

-- ---- each is one of the peer's claims

pub if_one : (b : Bool) (p o : Claimable) → Contains (if b then p ∷ [] else []) o → o ≡ p
if_one true p o i = contains_one p o i
if_one false p o i = absurd (contains_none o i)

by_kind : (known : Htlc → Bool) (c : Contents) (index : ℕ) (output : CommitmentOutput) (kind : OutputKind) (o : Claimable) → slice_get c.outputs index ≡ Some output → output.kind ≡ kind
    → Contains (counted_on false known no_stage c index (place_at c index output) kind) o → IsPeersClaim c o
by_kind known c index output ToLocal o e k i = absurd (contains_none o i)
by_kind known c index output ToRemote o e k i = payment index output (record { there = e; kind = k }) (contains_one (payment_on c (place_at c index output)) o i)
by_kind known c index output (ToHtlc direction h) o e k i =
    direct (record { index = index; direction = direction; htlc = h }) output (htlc_at_index c index output direction h e k)
    (if_one (counts_on false known (ToHtlc direction h)) (direct_on c direction h (place_at c index output)) o i)

pub is_peers : (known : Htlc → Bool) (c : Contents) (o : Claimable) → Contains (counted false known no_stage c) o → IsPeersClaim c o
is_peers known c o i =
    let g = given_by (counted_on false known no_stage c) c o i in
    by_kind known c g.index g.output g.output.kind o g.there refl g.given

-- ---- no two are at one outpoint

abbrev IsAtIndex : Contents → ℕ → Claimable → Type 0
IsAtIndex c index o = o.place.outpoint ≡ record { txid = id_of c; index = index }

if_at : (c : Contents) (index : ℕ) (output : CommitmentOutput) (direction : Direction) (h : Htlc) (b : Bool)
    → IsOneAtMost (IsAtIndex c index) (if b then direct_on c direction h (place_at c index output) ∷ [] else [])
if_at c index output direction h true = one (direct_on c direction h (place_at c index output)) refl refl
if_at c index output direction h false = none refl

gives_one : (known : Htlc → Bool) (c : Contents) (index : ℕ) (output : CommitmentOutput) (kind : OutputKind) → IsOneAtMost (IsAtIndex c index) (counted_on false known no_stage c index (place_at c index output) kind)
gives_one known c index output ToLocal = none refl
gives_one known c index output ToRemote = one (payment_on c (place_at c index output)) refl refl
gives_one known c index output (ToHtlc direction h) = if_at c index output direction h (counts_on false known (ToHtlc direction h))

at_indices : (c : Contents) (i j : ℕ) → i < j → (o p : Claimable) → IsAtIndex c i o → IsAtIndex c j p → AreApart o p
at_indices c i j l o p a b e = let f : i ≡ j = ap (λ (q : OutPoint). q.index) (sym a ∙ e ∙ b) in omega (arith, f, l)

pub counted_apart : (known : Htlc → Bool) (c : Contents) → AllPairs AreApart (counted false known no_stage c)
counted_apart known c =
    apart_from (IsAtIndex c) (counted_on false known no_stage c) c (λ index output e. gives_one known c index output output.kind) (at_indices c) 0 c.outputs (all_of c.outputs)
