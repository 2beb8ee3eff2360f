use Rattle.std.proofs.Common.{◌≡◌, true, ◌∙◌}
use Rattle.crossbeam_channel.specs.Claims.{view}
use Rattle.channel.specs.Tokens.{peer_tokens}
use Rattle.book.specs.Accepted.{all_accepted}
use Rattle.book.specs.Guarding.{is_guarded}
use Rattle.desk.specs.Rule.{fresh}
use Rattle.desk.proofs.Keeps.{opens}
use Rattle.desk.proofs.desk.Desk.put_first.Goals as goal

pub send_as-requires-clause-rule : goal.send_as-requires-clause-rule
send_as-requires-clause-rule g c =
    let kept = c.loop.invariant in
    let is : view c.loop.pass ≡ fresh = kept.3 ∙ c.requires.1 in
    let accepted : all_accepted peer_tokens c.loop.book ≡ true = rw kept.4 c.entries-entries.ensures.accepted in
    let guarded : is_guarded c.loop.book ≡ true = rw kept.4 c.entries-entries.ensures.guarded in
    (rw is (opens _ c.loop.pass.id c.loop.book accepted guarded), λ items views h at. tt)
