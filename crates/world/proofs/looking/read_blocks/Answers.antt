use Rattle.std.proofs.Common.{◌+◌, List, length, map, reverse, sym, ap, subst, ◌∙◌, arith}
use Rattle.std.proofs.lemmas.List.{length-reverse}
use Rattle.book.specs.declared.calls.Entry.{Entry}
use Rattle.side.specs.Reading.{Reader}
use Rattle.world.specs.Worlds.{Node}
use Rattle.world.specs.Looking.{Reading, IsAfter, Upward, reading_of, reading_in}
use Rattle.world.specs.Asking.{AreKnown}
use Rattle.world.proofs.Readings.{none_known, upward_step, upward_end}
use Rattle.world.proofs.looking.read_blocks.Goals as goal

pub loop-read-init : goal.loop-read-init
loop-read-init c =
    let me = c.args.me.now in
    let is = c.in_ok-reader.ensures in
    let none = none_known me.history me.learnt (length (map (λ line. line.seen) me.lines)) in
    record {
      upward = subst (λ (r : Reading). Upward me.history (reverse c.args.chain.now.blocks) me.read (reading_of me) c.args.from r) (sym (ap reading_in is)) c.requires;
      known = subst (λ (r : Reader). AreKnown me.history r.learnt r.knowns) (sym is) none;
      fundings = ap (λ (r : Reader). r.fundings) is;
    }

pub loop-read-preserved : goal.loop-read-preserved
loop-read-preserved c =
    let me = c.args.me.now in
    let at = c.loop-read.read in
    let r = c.loop-read.reader in
    let next = c.in_ok-reader-2.reader in
    let txs = reverse c.in-Some.block.now.transactions in
    let history = ap (λ (n : Node). n.history) c.me.view_is in
    let after = subst (λ (h : List Entry). IsAfter h (at + 1) txs (reading_in r) (reading_in next)) history c.in_ok-reader-2.ensures.after in
    record {
      upward =
          upward_step me.history (reverse c.args.chain.now.blocks) me.read at (reading_of me) (reading_in r) (reading_in next) c.in-Some.block.now c.loop-read.invariant.upward (sym c.in-Some.ensures) after;
      known = subst (λ (h : List Entry). AreKnown h next.learnt next.knowns) history c.in_ok-reader-2.ensures.known;
      fundings = c.in_ok-reader-2.ensures.fundings ∙ c.loop-read.invariant.fundings;
    }

pub returns : goal.returns
returns c =
    let me = c.args.me.now in
    upward_end me.history (reverse c.args.chain.now.blocks) me.read c.loop-read.read (reading_of me) (reading_in c.loop-read.reader) c.loop-read.invariant.upward
    (omega (arith, c.height-read-end.ensures, length-reverse c.args.chain.now.blocks))
