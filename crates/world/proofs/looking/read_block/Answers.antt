use Rattle.std.proofs.Common.{◌≡◌, reverse, ap, ◌∙◌}
use Rattle.side.specs.Reading.{Reader, IsRead}
use Rattle.world.specs.Looking.{IsAfter, reading_in}
use Rattle.world.specs.Asking.{AreKnown}
use Rattle.world.proofs.Readings.{after_read, known_read, if_ok_then}
use Rattle.world.proofs.looking.read_block.Goals as goal

pub returns-clause-after : goal.returns-clause-after
returns-clause-after c =
    let history = c.args.book.now in
    let txs = reverse c.args.block.now.transactions in
    let r = c.args.reader in
    let asked = c.answer_all.new.reader in
    if_ok_then (IsRead c.args.height txs asked) (λ (n : Reader). IsAfter history c.args.height txs (reading_in r) (reading_in n)) c.read.result
    (λ n is. after_read history c.args.height txs r asked n c.in_ok-answer_all.ensures.ready c.in_ok-answer_all.ensures.same is) c.read.ensures

pub returns-clause-known : goal.returns-clause-known
returns-clause-known c =
    let history = c.args.book.now in
    let txs = reverse c.args.block.now.transactions in
    let r = c.args.reader in
    let asked = c.answer_all.new.reader in
    if_ok_then (IsRead c.args.height txs asked) (λ (n : Reader). AreKnown history n.learnt n.knowns) c.read.result
    (λ n is. known_read history c.args.height txs r asked n c.in_ok-answer_all.ensures.known c.in_ok-answer_all.ensures.same is) c.read.ensures

pub returns-clause-fundings : goal.returns-clause-fundings
returns-clause-fundings c =
    let txs = reverse c.args.block.now.transactions in
    let asked = c.answer_all.new.reader in
    if_ok_then (IsRead c.args.height txs asked) (λ (n : Reader). n.fundings ≡ c.args.reader.fundings) c.read.result
    (λ n is. is.fundings_are ∙ ap (λ (x : Reader). x.fundings) c.in_ok-answer_all.ensures.same) c.read.ensures
