use Rattle.std.proofs.Common.{◌≡◌, length, Some, refl, sym, ap, ◌∙◌, subst}
use Rattle.std.specs.Prelude.{slice_get}
use Rattle.std.proofs.lemmas.Option.{slice_get_read}
use Rattle.book.specs.Books.{ChannelBook}
use Rattle.book.specs.declared.errors.KeepError.TheVariants.{AlreadyKept}
use Rattle.book.specs.Revoked.{IsRevokedIn, early_keep_refusal}
use Rattle.book.proofs.Unkept.{kept_before, revoked_in}
use Rattle.book.proofs.open_channel.OpenChannel.revoked.Goals as goal

pub returns : goal.returns
returns c =
    let i = c.self.inside in
    let n = c.args.number in
    let flags = c.deref.result.now in
    let flag = c.in-Some.is_kept.now in
    let ch : ChannelBook = record { state = i.channel; kept = i.kept.items; closed = i.closed } in
    let found : slice_get i.flags.items n ≡ Some flag =
    ap (λ fs. slice_get fs n) (sym c.deref.ensures.value) ∙ slice_get_read flags (length flags) n flag refl c.in-Some.ensures.lookup.3.0 c.in-Some.ensures.lookup.1
    in
    subst (λ (o : ChannelBook). IsRevokedIn n (Some o) c.in_ok-state_at.field-0) c.self.view_is (revoked_in ch i.flags.items i.below n c.self.invariant flag c.in_ok-state_at.field-0 found c.if-is_kept.false c.in_ok-state_at.ensures)

pub returns-then-is_kept : goal.returns-then-is_kept
returns-then-is_kept c =
    let i = c.self.inside in
    let n = c.args.number in
    let flags = c.deref.result.now in
    let flag = c.in-Some.is_kept.now in
    let ch : ChannelBook = record { state = i.channel; kept = i.kept.items; closed = i.closed } in
    let found : slice_get i.flags.items n ≡ Some flag =
    ap (λ fs. slice_get fs n) (sym c.deref.ensures.value) ∙ slice_get_read flags (length flags) n flag refl c.in-Some.ensures.lookup.3.0 c.in-Some.ensures.lookup.1
    in
    subst (λ (o : ChannelBook). early_keep_refusal n (Some o) ≡ Some AlreadyKept) c.self.view_is (kept_before ch i.flags.items i.below n c.self.invariant flag found c.if-is_kept.true)
