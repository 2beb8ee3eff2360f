use Rattle.std.proofs.Common.{◌≡◌, ℕ, ◌<◌, List, length, sym, subst, arith}
use Rattle.std.specs.Prelude.{slice_index_or}
use Rattle.std.specs.List.{All}
use Rattle.library_tests.proofs.reactions.answer.Goals as goal

pub answer-requires : goal.answer-requires
answer-requires c =
    let i = c.loop-channel.channel-index in
    let all = subst (λ (xs : List ℕ). All (λ k. k < length c.args.reader.now.seen) xs) (sym c.deref-channel-items.ensures.value) c.in_ok-channels.ensures.within in
    let here : slice_index_or c.deref-channel-items.result.now i 0 < length c.args.reader.now.seen = all i 0 (omega arith) in
    omega (arith, here, c.loop-channel.invariant)
