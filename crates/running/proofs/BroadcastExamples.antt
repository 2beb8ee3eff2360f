-- What a side broadcasts, and how an event that broadcasts is answered: each relation where it holds, and right beside it where it does not.
use Rattle.std.proofs.Common.{◌≡◌, ℕ, List, [], ◌∷◌, Option, Some, None, Result, Ok, Err, refl, sym, ap, ◌∙◌, subst}
use Rattle.std.proofs.lemmas.Option.{none-some}
use Rattle.std.specs.Prelude.{slice_get}
use Rattle.tx.specs.Fields.{Transaction}
use Rattle.terms.specs.declared.sides.Side.TheVariants.{A}
use Rattle.book.specs.declared.errors.KnowError.TheVariants as knows
use Rattle.book.specs.Books.{ChannelBook, replay}
use Rattle.desk.specs.Histories.{History}
use Rattle.world.specs.declared.errors.EventError.{EventError}
use Rattle.world.specs.declared.errors.EventError.TheVariants.{NoSuchChannel, NoSuchTx, TooDeep}
use Rattle.world.specs.Publishing.{refusal_by}
use Rattle.running.specs.declared.chain_thread.Broadcast.{Broadcast}
use Rattle.running.specs.declared.chain_thread.Choice.TheVariants.{Commitment, HtlcTx}
use Rattle.running.specs.Broadcasts.{IsFoundBy, IsBroadcast, IsToldBy}
use Rattle.running.specs.Outcomes.{IsBroadcastOutcome, IsMiningOutcome, IsOutcomeOf}

-- ---- what is broadcast of a history

abbrev in_channel_7 : Broadcast
in_channel_7 = record { side = A; channel = 7; choice = Commitment 0 }

not_there : (a : History) → IsFoundBy a 7 (Commitment 0) None (Err NoSuchChannel)
not_there a = refl

refused_otherwise : (a : History) → IsFoundBy a 7 (Commitment 0) None (Err NoSuchTx) → ⊥
refused_otherwise a e = absurd cc

no_htlc_there : (a : History) → IsFoundBy a 7 (HtlcTx 0 1) None (Err NoSuchChannel)
no_htlc_there a = ([], refl)

told_so : (a : History) → IsToldBy a 7 (Commitment 0) None (Err knows.NoSuchChannel)
told_so a = refl

told_a_transaction : (a : History) (t : Transaction) → IsToldBy a 7 (Commitment 0) None (Ok (Some t)) → ⊥
told_a_transaction a t e = absurd cc

no_channel : (a : History) → slice_get (replay a) 7 ≡ None → IsBroadcast a in_channel_7 (Err NoSuchChannel)
no_channel a none = subst (λ (o : Option ChannelBook). IsFoundBy a 7 (Commitment 0) o (Err NoSuchChannel)) (sym none) refl

no_transaction : (a : History) (t : Transaction) → slice_get (replay a) 7 ≡ None → IsBroadcast a in_channel_7 (Ok t) → ⊥
no_transaction a t none is = let e : Ok t ≡ Err NoSuchChannel = subst (λ (o : Option ChannelBook). IsFoundBy a 7 (Commitment 0) o (Ok t)) none is in absurd cc

told : (a : History) → slice_get (replay a) 7 ≡ None → IsBroadcastOutcome a in_channel_7 (Some NoSuchChannel)
told a none = (Err NoSuchChannel, no_channel a none, refl)

not_told : (a : History) → slice_get (replay a) 7 ≡ None → IsBroadcastOutcome a in_channel_7 None → ⊥
not_told a none (answer, is, same) =
    let refused : answer ≡ Err NoSuchChannel = subst (λ (o : Option ChannelBook). IsFoundBy a 7 (Commitment 0) o answer) none is in
    none-some NoSuchChannel (same ∙ ap (λ (r : Result Transaction EventError). refusal_by r) refused)

-- ---- events that broadcast nothing

mined : IsMiningOutcome None None
mined = refl

too_deep : IsMiningOutcome None (Some TooDeep) → ⊥
too_deep e = none-some TooDeep (sym e)

of_no_broadcast : (a b : History) → IsOutcomeOf None None a b None
of_no_broadcast a b = refl

refused_without_one : (a b : History) → IsOutcomeOf None None a b (Some TooDeep) → ⊥
refused_without_one a b e = none-some TooDeep (sym e)
