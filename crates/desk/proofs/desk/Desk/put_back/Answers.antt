use Rattle.std.proofs.Common.{arith, ◌≡◌, true, ◌∙◌, ap}
use Rattle.crossbeam_channel.specs.Claims.{view}
use Rattle.channel.specs.Tokens.{peer_tokens}
use Rattle.book.specs.Accepted.{all_accepted}
use Rattle.book.specs.Guarding.{is_guarded}
use Rattle.desk.specs.declared.rule.SeatView.{SeatView}
use Rattle.desk.specs.Rule.{Follows}
use Rattle.desk.proofs.Keeps.{puts_back}
use Rattle.desk.proofs.desk.Desk.put_back.Goals as goal

pub send_as-requires-clause-rule : goal.send_as-requires-clause-rule
send_as-requires-clause-rule g c =
    let f = c.requires.follows in
    let kept = c.loop.invariant in
    let follows : Follows (view c.loop.pass).number f.0 c.loop.book = rw (kept.3, kept.4) f.2 in
    let accepted : all_accepted peer_tokens c.loop.book ≡ true = rw kept.4 c.entries-entries.ensures.accepted in
    let guarded : is_guarded c.loop.book ≡ true = rw kept.4 c.entries-entries.ensures.guarded in
    (puts_back _ c.loop.pass.id (view c.loop.pass) c.loop.book f.0 (ap (λ (v : SeatView). v.is_spent) kept.3 ∙ c.requires.live) (omega (arith, c.requires.pass.one)) (ap (λ (v : SeatView). v.book) kept.3 ∙ f.1) follows accepted guarded, λ items views h at. tt)
