-- A reader follows as many channels after a block as before it.
use Rattle.std.proofs.Common.{◌≡◌, ℕ, ◌+◌, List, length, Option, refl, arith}
use Rattle.tx.specs.Fields.{Transaction}
use Rattle.resolve.specs.declared.known.Known.{Known}
use Rattle.watch.specs.Watching.{Seen}
use Rattle.side.specs.declared.due.DueClaim.{DueClaim}
use Rattle.side.specs.Reading.{Reader, FindsBlock, IsRead}

finds_as_many : (height : ℕ) (txs : List Transaction) (c : ℕ) (knowns : List (Option Known)) (older newer : List Seen) (jobs : List DueClaim) (shown : List (List ℕ))
    → FindsBlock height txs c knowns older newer jobs shown → length newer ≡ length older
finds_as_many height txs c knowns older newer jobs shown FindsBlock.no_more = refl
finds_as_many height txs c knowns older newer jobs shown (FindsBlock.channel found more f rest) = let e = finds_as_many height txs (c + 1) _ _ _ _ _ rest in omega (arith, e)

pub read_as_many : (height : ℕ) (txs : List Transaction) (r next : Reader) → IsRead height txs r next → length next.seen ≡ length r.seen
read_as_many height txs r next is = finds_as_many height txs 0 r.knowns r.seen next.seen is.jobs is.shown is.channels
