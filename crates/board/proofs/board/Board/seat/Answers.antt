use Rattle.board.proofs.Dealing.{seated, shares_more}
use Rattle.board.proofs.board.Board.seat.Goals as goal

pub returns-clause-list : goal.returns-clause-list
returns-clause-list c = rw c.push_reserved.ensures.items (seated c.args.self.now c.args.place c.args.list.items c.idle-idle.result c.requires.place c.idle-idle.ensures.place c.idle-idle.ensures.draws c.requires.list.0)

pub returns-clause-shares : goal.returns-clause-shares
returns-clause-shares c = rw c.push_reserved.ensures.items (shares_more c.args.place c.args.list.items c.idle-idle.result c.idle-idle.ensures.place)
