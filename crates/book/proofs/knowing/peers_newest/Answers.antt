use Rattle.std.proofs.Common.{sym, ap, ◌∙◌}
use Rattle.book.specs.Knowing.{theirs_at}
use Rattle.book.proofs.knowing.peers_newest.Goals as goal

pub returns : goal.returns
returns c = sym c.in-Some.is ∙ c.in_ok-newest.ensures.value ∙ ap (theirs_at c.args.channel.now) c.peer_number.ensures.number
