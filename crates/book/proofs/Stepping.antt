-- Steps that a channel of a book refuses.
use Rattle.std.proofs.Common.{◌≡◌, Bool, false, Option, Some, option_map, refl, ap, ◌∙◌}
use Rattle.updates.specs.declared.errors.ChannelError.{ChannelError}
use Rattle.updates.specs.declared.errors.ChannelError.TheVariants as refuses
use Rattle.updates.specs.Refusals.{IsRefusal}
use Rattle.book.specs.declared.errors.StepError.TheVariants.{Refused, ChannelClosed}
use Rattle.book.specs.Replies.{if_so}
use Rattle.book.specs.Calling.{IsStepRefusal}

-- the channel's own refusal is the first one where the channel does not bar the step
pub refused_by : (barred : Bool) (first : Option ChannelError) (r : ChannelError) → barred ≡ false → IsRefusal first r → IsStepRefusal (if_so barred ChannelClosed (option_map Refused first)) (Refused r)
refused_by barred first r unbarred is = by r is
  where
    named : (e : ChannelError) → first ≡ Some e → if_so barred ChannelClosed (option_map Refused first) ≡ Some (Refused e)
    named e h = rw (unbarred, h) refl

    by : (e : ChannelError) → IsRefusal first e → IsStepRefusal (if_so barred ChannelClosed (option_map Refused first)) (Refused e)
    by refuses.NoMemory h = tt
    by refuses.AmountZero h = named refuses.AmountZero h
    by refuses.BelowMinimum h = named refuses.BelowMinimum h
    by refuses.ExpiryTooLarge h = named refuses.ExpiryTooLarge h
    by refuses.WrongId h = named refuses.WrongId h
    by refuses.TooManyHtlcs h = named refuses.TooManyHtlcs h
    by refuses.OverBalance h = named refuses.OverBalance h
    by refuses.UnknownHtlc h = named refuses.UnknownHtlc h
    by refuses.WrongPreimage h = named refuses.WrongPreimage h
    by refuses.NoUpdates h = named refuses.NoUpdates h
    by refuses.BadSignature h = named refuses.BadSignature h
    by refuses.WrongSecret h = named refuses.WrongSecret h
    by refuses.NotYourTurn h = named refuses.NotYourTurn h
    by refuses.NotOpener h = named refuses.NotOpener h
    by refuses.PeerBehind h = named refuses.PeerBehind h
    by refuses.NeverSigned h = named refuses.NeverSigned h
    by refuses.AlreadyFulfilled h = named refuses.AlreadyFulfilled h
