use Rattle.std.proofs.Common.{◌≡◌, ℕ, ◌<◌, ◌≤◌, Bool, true, false, List, length, Some, sym, subst}
use Rattle.std.specs.Prelude.{slice_get}
use Rattle.book.specs.Books.{ChannelBook}
use Rattle.book.proofs.Keeping.{beside_kept}
use Rattle.book.proofs.open_channel.OpenChannel.keep.Goals as goal

pub invariant_of-self-2 : goal.invariant_of-self-2
invariant_of-self-2 c =
    let i = c.self.inside in
    let n = c.args.number in
    let next = c.first_unset-self-inside.result in
    let e = c.first_unset-self-inside.ensures in
    let set_is = c.deref.ensures.value in
    let within = subst (λ (ch : ChannelBook). n < length ch.state.secrets) (sym c.self.view_is) c.in_ok-check_keep.ensures.within in
    beside_kept (record { state = i.channel; kept = i.kept.items; closed = i.closed }) i.flags.items i.below n next c.push.new.self.items c.self.invariant within c.in-Ok.ensures.items e.from
    (subst (λ (fs : List Bool). next ≤ length fs) set_is e.within)
    (subst (λ (fs : List Bool). (m : ℕ) → i.below ≤ m → m < next → slice_get fs m ≡ Some true) set_is e.set)
    (subst (λ (fs : List Bool). next < length fs → slice_get fs next ≡ Some false) set_is e.unset)
