use Rattle.std.proofs.Common.{List, Bool, subst}
use Rattle.std.specs.Prelude.{IfOk}
use Rattle.book.specs.Books.{ChannelBook, is_kept}
use Rattle.book.specs.Knowing.{IsKnownOf, flag_at}
use Rattle.book.proofs.KnownFlags.{known_by}
use Rattle.book.proofs.open_channel.OpenChannel.known.Goals as goal

pub returns : goal.returns
returns c =
    let i = c.self.inside in
    let preimages = c.args.preimages.items in
    let ch : ChannelBook = record { state = i.channel; kept = i.kept.items; closed = i.closed } in
    let known = subst (λ (fs : List Bool). IfOk c.known_of.result (IsKnownOf i.channel (flag_at fs) preimages)) c.deref.ensures.value c.known_of.ensures in
    subst (λ (ch : ChannelBook). IfOk c.known_of.result (IsKnownOf ch.state (is_kept ch.kept) preimages)) c.self.view_is (known_by ch i.flags.items i.below c.self.invariant preimages c.known_of.result known)
