use Rattle.std.proofs.Common.{◌≡◌, true, false, length, Some, None, refl, sym, ap, ◌∙◌, subst, rules}
use Rattle.std.specs.Prelude.{slice_get}
use Rattle.std.proofs.lemmas.Option.{slice_get_read}
use Rattle.book.specs.declared.errors.KeepError.TheVariants.{AlreadyKept, OtherState}
use Rattle.book.specs.Penalties.{is_penalty_set}
use Rattle.book.specs.Books.{ChannelBook}
use Rattle.book.specs.Replies.{keep_refusal}
use Rattle.book.proofs.Keeping.{already_kept, other_state, none_refused}
use Rattle.book.proofs.open_channel.OpenChannel.check_keep.Goals as goal

pub returns-then-is_kept-clause-tested : goal.returns-then-is_kept-clause-tested
returns-then-is_kept-clause-tested c =
    let i = c.self.inside in
    let n = c.args.number in
    let flags = c.deref.result.now in
    let flag = c.in-Some.is_kept.now in
    let ch : ChannelBook = record { state = i.channel; kept = i.kept.items; closed = i.closed } in
    let found : slice_get i.flags.items n ≡ Some flag =
    ap (λ fs. slice_get fs n) (sym c.deref.ensures.value) ∙ slice_get_read flags (length flags) n flag refl c.in-Some.ensures.lookup.3.0 c.in-Some.ensures.lookup.1
    in
    subst (λ (o : ChannelBook). keep_refusal o n c.args.claims.now ≡ Some AlreadyKept) c.self.view_is (already_kept ch i.flags.items i.below n flag c.args.claims.now c.self.invariant found c.if-is_kept.true)

pub returns-then-not-branch-clause-tested : goal.returns-then-not-branch-clause-tested
returns-then-not-branch-clause-tested c =
    let i = c.self.inside in
    let n = c.args.number in
    let flags = c.deref.result.now in
    let flag = c.in-Some.is_kept.now in
    let claims = c.args.claims.now in
    let ch : ChannelBook = record { state = i.channel; kept = i.kept.items; closed = i.closed } in
    let found : slice_get i.flags.items n ≡ Some flag =
    ap (λ fs. slice_get fs n) (sym c.deref.ensures.value) ∙ slice_get_read flags (length flags) n flag refl c.in-Some.ensures.lookup.3.0 c.in-Some.ensures.lookup.1
    in
    let no : c.in_ok-are_its_own.field-0 ≡ false = search rules in
    let others = sym (subst (λ (o : ChannelBook). c.in_ok-are_its_own.field-0 ≡ is_penalty_set o.state n claims) (sym c.self.view_is) c.in_ok-are_its_own.ensures) ∙ no in
    subst (λ (o : ChannelBook). keep_refusal o n claims ≡ Some OtherState) c.self.view_is (other_state ch i.flags.items i.below n flag claims c.self.invariant found c.if-is_kept.false others)

pub returns-clause-tested : goal.returns-clause-tested
returns-clause-tested c =
    let i = c.self.inside in
    let n = c.args.number in
    let flags = c.deref.result.now in
    let flag = c.in-Some.is_kept.now in
    let claims = c.args.claims.now in
    let ch : ChannelBook = record { state = i.channel; kept = i.kept.items; closed = i.closed } in
    let found : slice_get i.flags.items n ≡ Some flag =
    ap (λ fs. slice_get fs n) (sym c.deref.ensures.value) ∙ slice_get_read flags (length flags) n flag refl c.in-Some.ensures.lookup.3.0 c.in-Some.ensures.lookup.1
    in
    let yes : c.in_ok-are_its_own.field-0 ≡ true = search rules in
    let own = sym (subst (λ (o : ChannelBook). c.in_ok-are_its_own.field-0 ≡ is_penalty_set o.state n claims) (sym c.self.view_is) c.in_ok-are_its_own.ensures) ∙ yes in
    subst (λ (o : ChannelBook). keep_refusal o n claims ≡ None) c.self.view_is (none_refused ch i.flags.items i.below n flag claims c.self.invariant found c.if-is_kept.false own)
