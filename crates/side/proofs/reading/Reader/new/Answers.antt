use Rattle.std.proofs.Common.{List, length, ap, sym, subst, ◌∙◌, arith}
use Rattle.std.proofs.lemmas.List.{length-map}
use Rattle.tx.specs.declared.input.OutPoint.{OutPoint}
use Rattle.side.specs.Following.{AreOpen, unanswered, reader_of}
use Rattle.side.proofs.Followed.{begins, are_open}
use Rattle.side.proofs.reading.Reader.new.Goals as goal

pub invariant_of-result : goal.invariant_of-result
invariant_of-result c = (
  omega (arith, c.requires, ap length c.in_ok-channels.ensures, ap length c.in_ok-fundings.ensures, length-map c.args.watches.items unanswered),
  subst AreOpen (sym c.in_ok-channels.ensures) (are_open c.args.watches.items),
)

pub returns : goal.returns
returns c =
    ap (λ (fs : List OutPoint). reader_of fs c.in_ok-channels.channels.items c.args.learnt.items c.new-2.result.items) c.in_ok-fundings.ensures
    ∙ begins c.args.fundings.items c.args.watches.items c.in_ok-channels.channels.items c.args.learnt.items c.new-2.result.items c.in_ok-channels.ensures c.new-2.ensures.items
