-- When an empty block gives a watch nothing, and that what it gave is still due.
use Rattle.std.specs.Prelude.{◌≡◌, ℕ, List, [], Contains}
use Rattle.std.specs.List.{AllByRecursion}
use Rattle.tx.specs.Fields.{Transaction}
use Rattle.resolve.specs.declared.known.Known.{Known}
use Rattle.watch.specs.Watching.{Seen, Extends, spends_after, due_by, claims_after, seen_after}
use Rattle.watch.specs.Sights.{IsSight}
use Rattle.watch.specs.Lookouts.{IsSettled}

-- after a block was read, all that is due was given
abbrev pub ReadingSettles : Type 0
ReadingSettles = (seen : Seen) (height : ℕ) (txs : List Transaction) (known : Known) → IsSettled (seen_after seen height txs known) known

-- and then an empty block gives no claim and shows no preimage, and the watch has seen no more than before
abbrev pub EmptyBlocksGiveNothing : Type 0
EmptyBlocksGiveNothing = (seen : Seen) (height : ℕ) (known : Known) → IsSettled seen known → IsSight seen height [] known [] [] × (seen_after seen height [] known ≡ seen)

-- what was given after a block is due by the transactions read by then, and by these and more
abbrev pub GivenStaysDue : Type 0
GivenStaysDue =
    (seen later : Seen) (height : ℕ) (txs : List Transaction) (known : Known) → Extends (spends_after seen height txs known) later.spends
    → AllByRecursion (Contains (due_by known later.spends)) (claims_after seen height txs known)
