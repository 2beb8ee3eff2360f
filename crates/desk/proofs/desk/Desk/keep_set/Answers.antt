use Rattle.std.proofs.Common.{◌≡◌, ◌∙◌, ap, sym, subst}
use Rattle.crossbeam_channel.specs.Claims.{view}
use Rattle.book.specs.declared.calls.Call.{Call}
use Rattle.book.specs.declared.calls.Call.TheVariants.{Keep}
use Rattle.book.specs.Replies.{kept}
use Rattle.desk.specs.declared.rule.SeatView.{SeatView}
use Rattle.desk.specs.Histories.{calls_of}
use Rattle.desk.specs.Rule.{Follows}
use Rattle.desk.specs.Seats.{calls_in, last_in}
use Rattle.desk.specs.Answers.{IsHistoryFor}
use Rattle.desk.proofs.Replies.{answers, followed}
use Rattle.desk.proofs.desk.Desk.keep_set.Goals as goal

pub put_back-requires-clause-follows : goal.put_back-requires-clause-follows
put_back-requires-clause-follows g c =
    let taken = c.take-book.ensures.taken in
    let h = c.take-book.result in
    let x = c.keep_set-reply.new.self in
    let n = c.args.seat.now.number in
    let call : Call = Keep c.args.channel c.args.number c.args.set.claims in
    let number : (view c.take-book.new.pass).number ≡ n = ap (λ (v : SeatView). v.number) taken.out ∙ c.requires.number in
    let follows : Follows n h x = followed n h x call (kept c.keep_set-reply.result) c.keep_set-reply.ensures.call in
    (h, ap (λ (v : SeatView). v.book) taken.out, subst (λ m. Follows m h x) (sym number) follows)

pub returns-clause-reply : goal.returns-clause-reply
returns-clause-reply g c =
    let taken = c.take-book.ensures.taken in
    let h = c.take-book.result in
    let x = c.keep_set-reply.new.self in
    let n = c.args.seat.now.number in
    let call : Call = Keep c.args.channel c.args.number c.args.set.claims in
    let number = c.requires.number in
    let back = c.put_back.ensures.back in
    let of : IsHistoryFor n (calls_in c.args.seat.now) (last_in c.args.seat.now) h =
    record { accepted = taken.accepted; guarded = taken.guarded; mine = ap (λ m. calls_of m h) (sym number) ∙ taken.mine; since = taken.since } in
    let out : (view c.put_back.new.pass).calls ≡ calls_of n x = ap (λ (v : SeatView). v.calls) back ∙ ap (λ (v : SeatView). calls_of v.number x) taken.out ∙ ap (λ m. calls_of m x) number in
    answers n (calls_in c.args.seat.now) _ (last_in c.args.seat.now) _ h x call (kept c.keep_set-reply.result) of out (ap (λ (v : SeatView). v.last) back) c.keep_set-reply.ensures.call
