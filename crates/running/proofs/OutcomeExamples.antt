-- What becomes of the events of the chain: each relation where it holds, and right beside it where it does not.
use Rattle.std.proofs.Common.{◌≡◌, ℕ, List, [], ◌∷◌, Option, Some, None, Result, Err, refl, sym, ap, ◌∙◌, subst}
use Rattle.std.proofs.lemmas.Option.{none-some}
use Rattle.std.specs.Prelude.{slice_get}
use Rattle.tx.specs.Fields.{Transaction}
use Rattle.chain.specs.Blocks.{Standing}
use Rattle.terms.specs.declared.sides.Side.TheVariants.{A}
use Rattle.scenario.specs.declared.events.Event.{Event}
use Rattle.scenario.specs.declared.events.Event.TheVariants.{Blocks, Broadcast as Broadcasts}
use Rattle.book.specs.Books.{ChannelBook, replay}
use Rattle.desk.specs.Histories.{History}
use Rattle.desk.proofs.Parts.{goes_on_same}
use Rattle.world.specs.declared.errors.EventError.{EventError}
use Rattle.world.specs.declared.errors.EventError.TheVariants.{NoSuchChannel, NoSuchTx, TooDeep}
use Rattle.world.specs.Publishing.{refusal_by}
use Rattle.running.specs.declared.chain_thread.Choice.TheVariants.{Commitment}
use Rattle.running.specs.Broadcasts.{IsFoundBy}
use Rattle.running.specs.Outcomes.{IsReorgOutcome, IsOutcome, PlaysChain, IsChainPlayed}

-- ---- one event

-- no block is to be replaced: each chain refuses that
none_replaced : (chain : Standing) (f : ℕ) → IsReorgOutcome (record { depth = 0; forgotten = f }) (Some TooDeep)
none_replaced chain f = (chain, refl)

told_as_replaced : (f : ℕ) → IsReorgOutcome (record { depth = 0; forgotten = f }) None → ⊥
told_as_replaced f (chain, e) = none-some TooDeep e

blocks_made : (a b : History) (k : ℕ) → IsOutcome (Blocks k) a b None
blocks_made a b k = refl

blocks_refused : (a b : History) (k : ℕ) → IsOutcome (Blocks k) a b (Some TooDeep) → ⊥
blocks_refused a b k e = none-some TooDeep (sym e)

-- A's book has no such channel
in_no_channel : (a b : History) → slice_get (replay a) 7 ≡ None → IsOutcome (Broadcasts A 7 0) a b (Some NoSuchChannel)
in_no_channel a b none = (Err NoSuchChannel, subst (λ (o : Option ChannelBook). IsFoundBy a 7 (Commitment 0) o (Err NoSuchChannel)) (sym none) refl, refl)

told_as_another : (a b : History) → slice_get (replay a) 7 ≡ None → IsOutcome (Broadcasts A 7 0) a b (Some NoSuchTx) → ⊥
told_as_another a b none (answer, is, same) =
    let refused : answer ≡ Err NoSuchChannel = subst (λ (o : Option ChannelBook). IsFoundBy a 7 (Commitment 0) o answer) none is in
    let wrong : Some NoSuchTx ≡ Some NoSuchChannel = same ∙ ap (λ (r : Result Transaction EventError). refusal_by r) refused in
    absurd cc

told_as_broadcast : (a b : History) → slice_get (replay a) 7 ≡ None → IsOutcome (Broadcasts A 7 0) a b None → ⊥
told_as_broadcast a b none (answer, is, same) =
    let refused : answer ≡ Err NoSuchChannel = subst (λ (o : Option ChannelBook). IsFoundBy a 7 (Commitment 0) o answer) none is in
    none-some NoSuchChannel (same ∙ ap (λ (r : Result Transaction EventError). refusal_by r) refused)

-- ---- all events

one_played : (a b : History) (k : ℕ) → PlaysChain (Blocks k ∷ []) a b (None ∷ []) a b
one_played a b k = PlaysChain.played (Blocks k) [] a b a b a b None [] (goes_on_same a) (goes_on_same b) refl (PlaysChain.none_left a b)

all_told : (a b : History) (k : ℕ) → IsChainPlayed a b (Blocks k ∷ []) (None ∷ []) a b
all_told a b k = record { after_a = a; after_b = b; plays = one_played a b k; since_a = goes_on_same a; since_b = goes_on_same b }

-- nothing is told of an event
untold : (e : Event) (a b x y : History) → PlaysChain (e ∷ []) a b [] x y → ⊥
untold e a b x y p = elim p [ ]

one_untold : (e : Event) (a b x y : History) → IsChainPlayed a b (e ∷ []) [] x y → ⊥
one_untold e a b x y is = untold e a b is.after_a is.after_b is.plays
