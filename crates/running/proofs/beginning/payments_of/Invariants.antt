use Rattle.std.proofs.Common.{◌≡◌, map, take}
use Rattle.book.specs.Books.{replay}
use Rattle.running.specs.Threads.{payments_in}
use Rattle.running.proofs.beginning.payments_of.Given as goal

abbrev pub invariant-loop-channel : goal.invariant-loop-channel
invariant-loop-channel l = map (λ k. k.bytes) l.payments.items ≡ payments_in (take l.channel (replay l.book))
