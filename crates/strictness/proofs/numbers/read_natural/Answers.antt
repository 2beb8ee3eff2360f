use Rattle.std.proofs.Common.{sym, ◌∙◌, arith, rules}
use Rattle.script.proofs.Numbers.{unsigned-more, unsigned-whole}
use Rattle.strictness.proofs.Naturals.{natural_of-nil, natural_of-long, natural_of-short, low_scale, low_product, low_step, half_scale}
use Rattle.strictness.proofs.numbers.read_natural.Goals as goal

pub returns-then-is_empty : goal.returns-then-is_empty
returns-then-is_empty c = sym (natural_of-nil c.args.limit c.args.bytes.now (search rules))

pub returns-then-bytes-limit : goal.returns-then-bytes-limit
returns-then-bytes-limit c = sym (natural_of-long c.args.limit c.args.bytes.now c.if-bytes-limit.true)

pub overflow_mul-value : goal.overflow_mul-value
overflow_mul-value c = omega (arith, low_product c.args.bytes.now c.args.limit _ _ _ c.requires c.if-bytes-limit.false c.loop-byte-test.true c.loop-byte.invariant.1 c.from.ensures (omega (arith, c.type_inv.bytes c.loop-byte.byte-index)))

pub overflow_add-value : goal.overflow_add-value
overflow_add-value c = omega (arith, low_step c.args.bytes.now c.args.limit _ _ _ _ c.requires c.if-bytes-limit.false c.loop-byte-test.true c.loop-byte.invariant.1 c.loop-byte.invariant.2 c.from.ensures (omega (arith, c.type_inv.bytes c.loop-byte.byte-index)))

pub overflow_mul-scale : goal.overflow_mul-scale
overflow_mul-scale c = omega (arith, low_scale c.args.bytes.now c.args.limit _ _ c.requires c.if-bytes-limit.false c.loop-byte-test.true c.loop-byte.invariant.1)

pub loop-byte-preserved : goal.loop-byte-preserved
loop-byte-preserved c = unsigned-more c.args.bytes.now c.loop-byte.byte-index _ _ _ c.loop-byte-test.true c.from.ensures c.loop-byte.invariant (omega (arith, c.type_inv.bytes c.loop-byte.byte-index))

pub natural_by-requires : goal.natural_by-requires
natural_by-requires c = half_scale c.args.bytes.now _ _ _ c.is_empty.ensures c.if-is_empty.false c.loop-byte-test.false c.loop-byte.invariant.1

pub returns : goal.returns
returns c =
    let w = unsigned-whole c.args.bytes.now _ _ _ c.loop-byte.auto.byte-index-end c.loop-byte-test.false c.loop-byte.invariant in
    c.natural_by.ensures ∙ sym (natural_of-short c.args.limit c.args.bytes.now _ _ c.if-bytes-limit.false w.0 w.1)
