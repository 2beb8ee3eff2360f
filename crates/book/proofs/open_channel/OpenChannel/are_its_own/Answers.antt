use Rattle.std.proofs.Common.{◌≡◌, true, sym, subst}
use Rattle.book.specs.Penalties.{is_penalty_set}
use Rattle.book.specs.Books.{ChannelBook}
use Rattle.book.proofs.Unkept.{sets_are}
use Rattle.book.proofs.open_channel.OpenChannel.are_its_own.Goals as goal

pub returns-then-is_state_at : goal.returns-then-is_state_at
returns-then-is_state_at c =
    let n = c.args.number in
    let claims = c.args.claims.now in
    let at = c.is_state_at.ensures.0 c.if-is_state_at.true in
    let full = c.requires c.in-Some.state c.in-Some.is in
    subst (λ (ch : ChannelBook). true ≡ is_penalty_set ch.state n claims) c.self.view_is (sym (sets_are c.self.inside.channel n c.in-Some.state.now at claims full))
