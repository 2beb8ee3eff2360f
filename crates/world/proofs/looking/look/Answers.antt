use Rattle.std.proofs.Common.{rules, ◌+◌, length, drop, reverse, sym, ap, subst, ◌∙◌}
use Rattle.chain.specs.Blocks.{height_of}
use Rattle.world.specs.Looking.{Reading, Reads, reading_of, reading_in, parts_read, with_reading}
use Rattle.world.proofs.Readings.{each_line, parts_are}
use Rattle.world.proofs.QuietBlocks.{quiet_side}
use Rattle.world.proofs.looking.look.Goals as goal

pub is_quiet_after-quiet-requires-clause-reads : goal.is_quiet_after-quiet-requires-clause-reads
is_quiet_after-quiet-requires-clause-reads c =
    let me = c.args.me.now in
    let reader = c.in_ok-read_blocks.field-0 in
    let parts = c.in_ok-parts.parts in
    let same = parts_are parts reader c.in_ok-parts.ensures.watches c.in_ok-parts.ensures.learnt c.in_ok-parts.ensures.due in
    subst (λ (r : Reading). Reads me.history (me.read + 1) (drop (me.read + 1) (reverse c.args.chain.now.blocks)) (reading_of me) r) (sym same) c.in_ok-read_blocks.ensures

pub take_over-requires-clause-lines : goal.take_over-requires-clause-lines
take_over-requires-clause-lines c =
    let me = c.args.me.now in
    let reader = c.in_ok-read_blocks.field-0 in
    ap length c.in_ok-parts.ensures.watches ∙ each_line me (me.read + 1) _ (reading_in reader) c.in_ok-read_blocks.ensures

pub returns-clause-looks : goal.returns-clause-looks
returns-clause-looks c =
    let reader = c.in_ok-read_blocks.field-0 in
    let parts = c.in_ok-parts.parts in
    let same = parts_are parts reader c.in_ok-parts.ensures.watches c.in_ok-parts.ensures.learnt c.in_ok-parts.ensures.due in
    record {
      found = reading_in reader;
      reads = c.in_ok-read_blocks.ensures;
      after =
          c.in_ok-take_over.ensures.ok
          ∙ ap (λ n. with_reading n (parts_read parts) c.args.me.now) c.height.ensures
          ∙ ap (λ (r : Reading). with_reading (height_of c.args.chain.now.blocks) r c.args.me.now) same;
      count = search (rules, ap (λ (r : Reading). length r.jobs) same);
    }

pub returns-clause-quiet : goal.returns-clause-quiet
returns-clause-quiet c =
    let me = c.args.me.now in
    let reader = c.in_ok-read_blocks.field-0 in
    let parts = c.in_ok-parts.parts in
    quiet_side c.is_quiet_after-quiet.result me c.take_over.new.me c.height.result (parts_read parts) c.in_ok-take_over.ensures.ok
    (ap length c.in_ok-parts.ensures.watches ∙ each_line me (me.read + 1) _ (reading_in reader) c.in_ok-read_blocks.ensures) c.is_quiet_after-quiet.ensures
