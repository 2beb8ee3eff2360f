-- Each event keeps that each transaction comes from a side.
use Rattle.std.proofs.Common.{◌≡◌, ℕ, List, [], ◌∷◌, ◌++◌, Option, Some, None, Ok, Err, ⊎_elim, refl, sym, ap, ◌∙◌, subst}
use Rattle.std.specs.Prelude.{◌⊎◌, slice_get, option_map, option_and_then}
use Rattle.std.specs.List.{AllByRecursion}
use Rattle.tx.specs.Fields.{Transaction}
use Rattle.terms.specs.declared.sides.Side.{Side}
use Rattle.terms.specs.declared.sides.Side.TheVariants.{A, B}
use Rattle.terms.specs.declared.agreement.Terms.{Terms}
use Rattle.scenario.specs.declared.events.Event.{Event}
use Rattle.chain.specs.Blocks.{transactions_of}
use Rattle.mempool.specs.Mining.{Mined}
use Rattle.channel.specs.declared.commitments.CommitmentState.{CommitmentState}
use Rattle.channel.specs.Tokens.{contents_of}
use Rattle.channel.specs.States.{State}
use Rattle.publish.specs.Published.{signed_transaction, signed_commitment_of, signed_htlc_of, signed_htlc_tx_of}
use Rattle.book.specs.Growing.{Grew}
use Rattle.book.specs.declared.calls.Entry.{Entry}
use Rattle.book.specs.declared.calls.Call.TheVariants as calls
use Rattle.book.specs.Books.{ChannelBook, replay}
use Rattle.world.specs.declared.outcomes.Outcome.{Outcome}
use Rattle.world.specs.declared.errors.EventError.{EventError}
use Rattle.world.specs.Worlds.{World, Node, node_of, with_node, with_nodes, channel_of, after_call}
use Rattle.world.specs.Publishing.{preimages_known, found, commitment_in, closing_in, htlc_tx_in}
use Rattle.world.specs.Releasing.{with_taken, IsFillingIn}
use Rattle.world.specs.Steps.{with_waiting, with_released, with_mined, Happens, updates, signs, receives, keeps, broadcasts, broadcasts_htlc, mines, looks, takes, releases, reorganises, closes, WorldSteps, happens, refuses, runs_out}
use Rattle.world.specs.Sources.{IsFrom, a_commitment, an_htlc_tx, a_filling, transactions_in}
use Rattle.world.proofs.Whole.{all_append}
use Rattle.world.proofs.Unmade.{all_weaker, all_first, all_last, AllIn, AllOn, all_mined, all_reorganised}
use Rattle.world.proofs.Growing.{IsGrown, AreLater}
use Rattle.world.proofs.Fillings.{AreReleased}

-- ---- what is recorded can be broadcast later

pub not_found : (t : Transaction) → found None ≡ Ok t → ⊥
not_found t e = absurd cc

-- a commitment with both signatures, and an HTLC transaction of it
abbrev made_of : Terms → Option CommitmentState → Option Transaction
made_of terms o = option_map (λ c. signed_transaction terms (contents_of terms c)) o

abbrev second_of : ℕ → List (List ℕ) → Terms → Option CommitmentState → Option Transaction
second_of k preimages terms o = option_and_then (λ c. signed_htlc_of (contents_of terms c) k preimages) o

commitment_stays : (old new : State) → Grew old new → (n : ℕ) (t : Transaction) → found (signed_commitment_of old n) ≡ Ok t → found (signed_commitment_of new n) ≡ Ok t
commitment_stays old new g n t is = go (slice_get old.mine n) refl is
  where
    go : (o : Option CommitmentState) → slice_get old.mine n ≡ o → found (made_of old.held.terms o) ≡ Ok t → found (made_of new.held.terms (slice_get new.mine n)) ≡ Ok t
    go None at is = absurd (not_found t is)
    go (Some k) at is =
        ap (λ (o : Option CommitmentState). found (made_of new.held.terms o)) (g.mine n k at) ∙ ap (λ (terms : Terms). found (made_of terms (Some k))) g.terms ∙ is

htlc_tx_stays : (old new : State) → Grew old new → (n k : ℕ) (preimages : List (List ℕ)) (t : Transaction) → found (signed_htlc_tx_of old n k preimages) ≡ Ok t → found (signed_htlc_tx_of new n k preimages) ≡ Ok t
htlc_tx_stays old new g n k preimages t is = go (slice_get old.mine n) refl is
  where
    go : (o : Option CommitmentState) → slice_get old.mine n ≡ o → found (second_of k preimages old.held.terms o) ≡ Ok t → found (second_of k preimages new.held.terms (slice_get new.mine n)) ≡ Ok t
    go None at is = absurd (not_found t is)
    go (Some c) at is =
        ap (λ (o : Option CommitmentState). found (second_of k preimages new.held.terms o)) (g.mine n c at) ∙ ap (λ (terms : Terms). found (second_of k preimages terms (Some c))) g.terms ∙ is

pub no_channel : {X : Type 0} (e : EventError) (x : X) → Err e ≡ Ok x → ⊥
no_channel e x is = absurd cc

commitment_in_later : (old new : List Entry) → IsGrown old new → (c n : ℕ) (t : Transaction) → commitment_in n (slice_get (replay old) c) ≡ Ok t → commitment_in n (slice_get (replay new) c) ≡ Ok t
commitment_in_later old new g c n t is = go (slice_get (replay old) c) refl is
  where
    go : (o : Option ChannelBook) → slice_get (replay old) c ≡ o → commitment_in n o ≡ Ok t → commitment_in n (slice_get (replay new) c) ≡ Ok t
    go None at is = absurd (no_channel _ t is)
    go (Some ch) at is = let l = g.later c ch at in ap (commitment_in n) l.there ∙ commitment_stays ch.state l.new.state l.grew n t is

htlc_tx_in_later : (old new : List Entry) → IsGrown old new → (c n k : ℕ) (preimages : List (List ℕ)) (t : Transaction) → htlc_tx_in n k preimages (slice_get (replay old) c) ≡ Ok t
    → htlc_tx_in n k preimages (slice_get (replay new) c) ≡ Ok t
htlc_tx_in_later old new g c n k preimages t is = go (slice_get (replay old) c) refl is
  where
    go : (o : Option ChannelBook) → slice_get (replay old) c ≡ o → htlc_tx_in n k preimages o ≡ Ok t → htlc_tx_in n k preimages (slice_get (replay new) c) ≡ Ok t
    go None at is = absurd (no_channel _ t is)
    go (Some ch) at is = let l = g.later c ch at in ap (htlc_tx_in n k preimages) l.there ∙ htlc_tx_stays ch.state l.new.state l.grew n k preimages t is

-- what closes a channel is the side's commitment of some number
closes_with : (o : Option ChannelBook) (t : Transaction) → closing_in o ≡ Ok t → (n : ℕ) × (commitment_in n o ≡ Ok t)
closes_with None t is = absurd (no_channel _ t is)
closes_with (Some ch) t is = (ch.state.number, is)

filling_later : (old new : List Entry) → IsGrown old new → (t : Transaction) → IsFillingIn old t → IsFillingIn new t
filling_later old new g t f = record { seat = f.seat; channel = f.channel; batch = f.batch; noted = g.entries (record { seat = f.seat; call = calls.Release f.channel f.batch }) f.noted; filled = f.filled }

from_later : (w v : World) → AreLater w v → (t : Transaction) → IsFrom w t → IsFrom v t
from_later w v g t (a_commitment s c n is) = a_commitment s c n (commitment_in_later (node_of s w).history (node_of s v).history (g s) c n t is)
from_later w v g t (an_htlc_tx s c n k preimages is) = an_htlc_tx s c n k preimages (htlc_tx_in_later (node_of s w).history (node_of s v).history (g s) c n k preimages t is)
from_later w v g t (a_filling s is) = a_filling s (filling_later (node_of s w).history (node_of s v).history (g s) t is)

-- ---- all transactions of a world

pub record AllOf (P : Transaction → Type 0) (w : World) : Type 0 where
  pub chain : AllOn P w.chain.blocks
  pub pool : AllByRecursion P w.pool
  pub released : AllByRecursion P w.released

pub all_of : (P : Transaction → Type 0) (w : World) → AllByRecursion P (transactions_in w) → AllOf P w
all_of P w a =
    let waiting = all_last P (transactions_of w.chain.blocks) (w.pool ++ w.released) a in
    record { chain = all_first P (transactions_of w.chain.blocks) (w.pool ++ w.released) a; pool = all_first P w.pool w.released waiting; released = all_last P w.pool w.released waiting }

pub from_all : (P : Transaction → Type 0) (w : World) → AllOf P w → AllByRecursion P (transactions_in w)
from_all P w a = all_append P (transactions_of w.chain.blocks) (w.pool ++ w.released) a.chain (all_append P w.pool w.released a.pool a.released)

weaker : (P Q : Transaction → Type 0) (w : World) → ((t : Transaction) → P t → Q t) → AllOf P w → AllOf Q w
weaker P Q w f a = record { chain = all_weaker P Q f (transactions_of w.chain.blocks) a.chain; pool = all_weaker P Q f w.pool a.pool; released = all_weaker P Q f w.released a.released }

one_node : (P : Transaction → Type 0) (s : Side) (n : Node) (w : World) → AllOf P w → AllOf P (with_node s n w)
one_node P A n w a = record { chain = a.chain; pool = a.pool; released = a.released }
one_node P B n w a = record { chain = a.chain; pool = a.pool; released = a.released }

two_nodes : (P : Transaction → Type 0) (s : Side) (n peer : Node) (w : World) → AllOf P w → AllOf P (with_nodes s n peer w)
two_nodes P A n peer w a = record { chain = a.chain; pool = a.pool; released = a.released }
two_nodes P B n peer w a = record { chain = a.chain; pool = a.pool; released = a.released }

one_waits : (P : Transaction → Type 0) (t : Transaction) (w : World) → AllOf P w → P t → AllOf P (with_waiting t w)
one_waits P t w a p = record { chain = a.chain; pool = all_append P w.pool (t ∷ []) a.pool (p, tt); released = a.released }

one_released : (P : Transaction → Type 0) (t : Transaction) (w : World) → AllOf P w → P t → AllOf P (with_released t w)
one_released P t w a p = record { chain = a.chain; pool = all_append P w.pool (t ∷ []) a.pool (p, tt); released = all_append P w.released (t ∷ []) a.released (p, tt) }

some_mined : (P : Transaction → Type 0) (m : Mined) (w : World) → AllOf P w → AllIn P m → AllOf P (with_mined m w)
some_mined P m w a i = record { chain = i.chain; pool = i.waiting; released = a.released }

-- ---- each event

either : (w : World) (t : Transaction) → IsFillingIn w.a.history t ⊎ IsFillingIn w.b.history t → IsFrom w t
either w t f = ⊎_elim (λ (x : IsFillingIn w.a.history t). a_filling A x) (λ (y : IsFillingIn w.b.history t). a_filling B y) f

-- the last transaction that was released is a filling
last_filling : (s : Side) (n : Node) (t : Transaction) (w : World) → AreReleased (with_released t (with_node s n w)) → IsFrom (with_released t (with_node s n w)) t
last_filling A n t w f = either _ t (all_last (λ (x : Transaction). IsFillingIn n.history x ⊎ IsFillingIn w.b.history x) w.released (t ∷ []) f).0
last_filling B n t w f = either _ t (all_last (λ (x : Transaction). IsFillingIn w.a.history x ⊎ IsFillingIn n.history x) w.released (t ∷ []) f).0

happening : (w v : World) (e : Event) (o : Outcome) → AreLater w v → AreReleased v → AllOf (IsFrom w) w → Happens w e v o → AllOf (IsFrom v) v
happening w v e o g f a (updates {s} {c} {update}) = two_nodes (IsFrom v) s _ _ w (weaker (IsFrom w) (IsFrom v) w (from_later w v g) a)
happening w v e o g f a (signs {s} {c}) = two_nodes (IsFrom v) s _ _ w (weaker (IsFrom w) (IsFrom v) w (from_later w v g) a)
happening w v e o g f a (receives {s} {c}) = two_nodes (IsFrom v) s _ _ w (weaker (IsFrom w) (IsFrom v) w (from_later w v g) a)
happening w v e o g f a (keeps {s} {c} {n} {after} kept) = one_node (IsFrom v) s after w (weaker (IsFrom w) (IsFrom v) w (from_later w v g) a)
happening w v e o g f a (broadcasts {s} {c} {n} {t} is) = one_waits (IsFrom v) t w (weaker (IsFrom w) (IsFrom v) w (from_later w v g) a) (from_later w v g t (a_commitment s c n is))
happening w v e o g f a (broadcasts_htlc {s} {c} {n} {k} {t} is) =
    one_waits (IsFrom v) t w (weaker (IsFrom w) (IsFrom v) w (from_later w v g) a) (from_later w v g t (an_htlc_tx s c n k (preimages_known c (node_of s w)) is))
happening w v e o g f a (mines {k} {m} is) =
    let b = weaker (IsFrom w) (IsFrom v) w (from_later w v g) a in
    some_mined (IsFrom v) m w b (subst (λ (x : Mined). AllIn (IsFrom v) x) (sym is) (all_mined (IsFrom v) k w.chain w.pool b.chain b.pool))
happening w v e o g f a (looks {s} {after} {count} l) = one_node (IsFrom v) s after w (weaker (IsFrom w) (IsFrom v) w (from_later w v g) a)
happening w v e o g f a (takes {s} {k}) = one_node (IsFrom v) s (with_taken k (node_of s w)) w (weaker (IsFrom w) (IsFrom v) w (from_later w v g) a)
happening w v e o g f a (releases {s} {k} {after} {t} done) =
    one_released (IsFrom v) t (with_node s after w) (one_node (IsFrom v) s after w (weaker (IsFrom w) (IsFrom v) w (from_later w v g) a)) (last_filling s after t w f)
happening w v e o g f a (reorganises {depth} {forgotten} {m} is) =
    let b = weaker (IsFrom w) (IsFrom v) w (from_later w v g) a in
    let i = subst (λ (x : Mined). AllIn (IsFrom v) x) (sym is) (all_reorganised (IsFrom v) depth forgotten w.chain w.pool w.released b.chain b.pool b.released) in
    record { chain = i.chain; pool = i.waiting; released = b.released }
happening w v e o g f a (closes {s} {c} {t} is) =
    let me = after_call (calls.Close c) (node_of s w) in
    let of_number = closes_with (channel_of (node_of s w) c) t is in
    one_waits (IsFrom v) t (with_node s me w) (one_node (IsFrom v) s me w (weaker (IsFrom w) (IsFrom v) w (from_later w v g) a)) (from_later w v g t (a_commitment s c of_number.0 of_number.1))

stepping : (w v : World) (e : Event) (o : Outcome) → AreLater w v → AreReleased v → AllOf (IsFrom w) w → WorldSteps w e v o → AllOf (IsFrom v) v
stepping w v e o g f a (happens none h) = happening w v e o g f a h
stepping w v e o g f a (refuses some) = a
stepping w v e o g f a runs_out = a

pub sources_after : (w v : World) (e : Event) (o : Outcome) → AreLater w v → AreReleased v → AllByRecursion (IsFrom w) (transactions_in w) → WorldSteps w e v o → AllByRecursion (IsFrom v) (transactions_in v)
sources_after w v e o g f a step = from_all (IsFrom v) v (stepping w v e o g f (all_of (IsFrom w) w a) step)
