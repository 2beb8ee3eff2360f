use Rattle.std.proofs.Common.{ℕ, List, subst}
use Rattle.std.proofs.lemmas.Result.{IfOk-weaker}
use Rattle.desk.specs.Seats.{last_in}
use Rattle.running.specs.declared.watching.Sight.{Sight}
use Rattle.running.specs.declared.watching.Sight.TheVariants.{Asks, Back}
use Rattle.running.specs.Following.{FindsSome, HasAsked, ReadsAgain, GoesOnReading}
use Rattle.running.proofs.watching.go_on.Goals as goal

pub returns-in-Asks-clause-reads : goal.returns-in-Asks-clause-reads
returns-in-Asks-clause-reads g c =
    let f = c.args.follower in
    let same = c.in-Asks.follower in
    let asked = c.in-Asks.channels in
    let before = last_in c.args.watcher.now.seat in
    let after = last_in c.answer_follower.new.seat in
    let found : FindsSome c.args.top f (Asks same asked) = subst (λ (s : Sight). FindsSome c.args.top f s) c.in-Asks.is c.in_ok-sight.ensures.found in
    IfOk-weaker c.answer_follower.result (HasAsked before after c.deref.result.now same) (GoesOnReading c.args.side.now.fundings.items before after c.args.top f)
    (λ next has. record { sight = Asks same asked; found = found; follows = subst (λ (cs : List ℕ). HasAsked before after cs same next) c.deref.ensures.value has }) c.answer_follower.ensures.asked

pub returns-in-Back-clause-reads : goal.returns-in-Back-clause-reads
returns-in-Back-clause-reads g c =
    let f = c.args.follower in
    let same = c.in-Back.follower in
    let fork = c.in-Back.fork in
    let round = c.in-Back.round in
    let before = last_in c.args.watcher.now.seat in
    let after = last_in c.go_back.new.watcher.seat in
    let found : FindsSome c.args.top f (Back same fork round) = subst (λ (s : Sight). FindsSome c.args.top f s) c.in-Back.is c.in_ok-sight.ensures.found in
    IfOk-weaker c.go_back.result (ReadsAgain c.args.side.now.fundings.items fork round same) (GoesOnReading c.args.side.now.fundings.items before after c.args.top f)
    (λ next has. record { sight = Back same fork round; found = found; follows = has }) c.go_back.ensures.back
