use Rattle.std.proofs.Common.{List, Ok, subst}
use Rattle.std.specs.Prelude.{slice_get}
use Rattle.book.specs.declared.calls.Entry.{Entry}
use Rattle.book.specs.Again.{IsRest}
use Rattle.book.proofs.Remaining.{again, refused_again}
use Rattle.book.proofs.history.Book.release_again.Goals as goal

pub returns-in-Ok-release : goal.returns-in-Ok-release
returns-in-Ok-release c =
    let r = c.in-Ok.rest in
    let left = subst (λ (h : List Entry). IsRest (slice_get h c.args.entry) c.args.spent.now c.args.outputs r.channel r.batch) c.entries.ensures.value c.in-Ok.ensures.ok in
    again c.args.self.now c.release.new.self c.args.seat c.args.entry c.args.spent.now c.args.outputs r.channel r.batch (Ok c.in-Ok-release.filled) left c.in-Ok-release.ensures

pub returns-in-Err-release : goal.returns-in-Err-release
returns-in-Err-release c =
    let r = c.in-Ok.rest in
    let left = subst (λ (h : List Entry). IsRest (slice_get h c.args.entry) c.args.spent.now c.args.outputs r.channel r.batch) c.entries.ensures.value c.in-Ok.ensures.ok in
    refused_again c.args.self.now c.release.new.self c.args.seat c.args.entry c.args.spent.now c.args.outputs r.channel r.batch c.in-Err-release.error left c.in-Err-release.ensures
