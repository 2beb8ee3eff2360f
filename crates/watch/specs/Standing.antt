-- What a watch has seen after it read blocks and went back is what it sees of the blocks that are still on the chain.
use Rattle.std.specs.Prelude.{◌≡◌, ℕ, ◌<◌, nat_le, List, [], ◌∷◌, filter}
use Rattle.std.specs.List.{AllByRecursion}
use Rattle.tx.specs.Fields.{Transaction}
use Rattle.resolve.specs.declared.known.Known.{Known}
use Rattle.watch.specs.Watching.{Seen, nothing_seen, seen_after, seen_up_to}

-- a block that was read, with its height and what was known then
pub record Reading : Type 0 where
  pub height : ℕ
  pub transactions : List Transaction
  pub known : Known

-- a call of a watch: it reads a block, or goes back to a height
pub data Call : Type 0 where
  Look : Reading → Call
  Back : ℕ → Call

-- the blocks that are still on the chain after calls, the newest first; the calls too are listed newest first
abbrev pub standing : List Call → List Reading
standing [] = []
standing (Look r ∷ calls) = r ∷ standing calls
standing (Back height ∷ calls) = filter (λ r. nat_le r.height height) (standing calls)

-- each block is read above those that are still on the chain
abbrev pub AreInOrder : List Call → Type 0
AreInOrder [] = Unit {0}
AreInOrder (Look r ∷ calls) = AllByRecursion (λ q. q.height < r.height) (standing calls) × AreInOrder calls
AreInOrder (Back height ∷ calls) = AreInOrder calls

-- what was seen after one more block
abbrev pub after_reading : Reading → Seen → Seen
after_reading r seen = seen_after seen r.height r.transactions r.known

-- what is seen of these blocks and no others
unfoldable pub seen_of : List Reading → Seen
seen_of [] = nothing_seen
seen_of (r ∷ older) = after_reading r (seen_of older)

-- what was seen after calls
unfoldable pub seen_by : List Call → Seen
seen_by [] = nothing_seen
seen_by (Look r ∷ calls) = after_reading r (seen_by calls)
seen_by (Back height ∷ calls) = seen_up_to height (seen_by calls)

abbrev pub SeesWhatStands : Type 0
SeesWhatStands = (calls : List Call) → AreInOrder calls → seen_by calls ≡ seen_of (standing calls)
