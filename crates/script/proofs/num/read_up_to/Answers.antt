use Rattle.std.proofs.Common.{sym, arith, rules}
use Rattle.std.proofs.lemmas.Grind.{common_steps}
use Rattle.script.proofs.Numbers.{number_of-nil, number_of-long, number_of-short, number_of-good, unsigned-more, unsigned-whole}
use Rattle.script.proofs.num.read_up_to.Goals as goal

pub returns-then-is_empty : goal.returns-then-is_empty
returns-then-is_empty c = sym (number_of-nil c.args.limit c.args.bytes.now (search rules))

pub returns-then-bytes-limit : goal.returns-then-bytes-limit
returns-then-bytes-limit c = sym (number_of-long c.args.limit c.args.bytes.now c.if-bytes-limit.true)

pub loop-byte-preserved : goal.loop-byte-preserved
loop-byte-preserved c = unsigned-more c.args.bytes.now c.loop-byte.byte-index _ _ _ c.loop-byte-test.true c.from.ensures c.loop-byte.invariant (omega (arith, c.type_inv.bytes c.loop-byte.byte-index))

pub returns-then-magnitude-scale : goal.returns-then-magnitude-scale
returns-then-magnitude-scale c =
    let w = unsigned-whole c.args.bytes.now _ _ _ c.loop-byte.auto.byte-index-end c.loop-byte-test.false c.loop-byte.invariant in
    sym (number_of-short c.args.limit c.args.bytes.now _ _ (grind (arith, common_steps)) c.if-bytes-limit.false w.0 w.1 c.if-magnitude-scale.true)

pub returns : goal.returns
returns c =
    let w = unsigned-whole c.args.bytes.now _ _ _ c.loop-byte.auto.byte-index-end c.loop-byte-test.false c.loop-byte.invariant in
    sym (number_of-good c.args.limit c.args.bytes.now _ _ (grind (arith, common_steps)) c.if-bytes-limit.false w.0 w.1 c.if-magnitude-scale.false)
