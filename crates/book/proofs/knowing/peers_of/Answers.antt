use Rattle.std.proofs.Common.{◌+◌, ap, ◌∙◌}
use Rattle.book.specs.Knowing.{theirs_at}
use Rattle.book.proofs.knowing.peers_of.Goals as goal

pub returns-clause-next : goal.returns-clause-next
returns-clause-next c = c.in_ok-next.ensures.value ∙ ap (λ n. theirs_at c.args.channel.now (n + 1)) c.peer_number-number.ensures.number
