use Rattle.std.proofs.Common.{◌≡◌, ◌<◌, ◌≤◌, ◌||◌, false, Some, None, length, sym, ◌∙◌, subst, rules}
use Rattle.std.specs.Prelude.{nat_le, is_some}
use Rattle.channel.specs.declared.limits.TheConstants.{LAST_NUMBER}
use Rattle.book.specs.declared.errors.SignError.TheVariants.{PenaltiesMissing}
use Rattle.book.specs.Books.{ChannelBook}
use Rattle.book.specs.Calling.{early_sign_refusal}
use Rattle.book.proofs.Signing.{missing_refused, nothing_missing}
use Rattle.book.proofs.open_channel.OpenChannel.check_sign.Goals as goal

pub returns-then-self-len : goal.returns-then-self-len
returns-then-self-len c =
    let i = c.self.inside in
    let unclosed : is_some i.closed ≡ false = search rules in
    let waits : (i.channel.awaiting || nat_le LAST_NUMBER i.channel.peer_number) ≡ false = sym c.waits_to_sign.ensures ∙ c.if-waits_to_sign.false in
    let less : i.below < length i.flags.items = search rules in
    subst (λ (ch : ChannelBook). early_sign_refusal ch ≡ Some (PenaltiesMissing i.below)) c.self.view_is (missing_refused (record { state = i.channel; kept = i.kept.items; closed = i.closed }) i.flags.items i.below c.self.invariant unclosed waits less)

pub returns : goal.returns
returns c =
    let i = c.self.inside in
    let unclosed : is_some i.closed ≡ false = search rules in
    let waits : (i.channel.awaiting || nat_le LAST_NUMBER i.channel.peer_number) ≡ false = sym c.waits_to_sign.ensures ∙ c.if-waits_to_sign.false in
    let most : length i.flags.items ≤ i.below = search rules in
    subst (λ (ch : ChannelBook). early_sign_refusal ch ≡ None) c.self.view_is (nothing_missing (record { state = i.channel; kept = i.kept.items; closed = i.closed }) i.flags.items i.below c.self.invariant unclosed waits most)
