-- What a side has asked its book while it reads blocks.
use Rattle.std.specs.Prelude.{◌≡◌, ℕ, ◌+◌, ◌<◌, false, List, ◌∷◌, length, Option, Some, None, slice_get, slice_index_or}
use Rattle.tx.specs.Fields.{Transaction}
use Rattle.resolve.specs.declared.known.Known.{Known}
use Rattle.watch.specs.Watching.{Seen}
use Rattle.book.specs.declared.calls.Entry.{Entry}
use Rattle.book.specs.Books.{replay}
use Rattle.world.specs.Looking.{is_closed, Knows}

-- what is known of a channel is what the side knows, if the book was asked; and so for each channel
abbrev pub IfKnown : List Entry → List (List ℕ) → ℕ → Option Known → Type 0
IfKnown history learnt c None = Unit {0}
IfKnown history learnt c (Some known) = Knows history learnt c known

abbrev pub AreKnown : List Entry → List (List ℕ) → List (Option Known) → Type 0
AreKnown history learnt knowns = (c : ℕ) → c < length knowns → (d : Option Known) → IfKnown history learnt c (slice_index_or knowns c d)

-- the book was asked, unless the channel is still open
abbrev pub IsReady : List Entry → List (List ℕ) → ℕ → Seen → List Transaction → Option Known → Type 0
IsReady history learnt c seen txs None = is_closed (slice_get (replay history) c) seen txs ≡ false
IsReady history learnt c seen txs (Some known) = Knows history learnt c known

-- so for each channel from number c on
abbrev pub AreReady : List Entry → List (List ℕ) → ℕ → List (Option Known) → List Seen → List Transaction → Type 0
AreReady history learnt c (k ∷ knowns) (s ∷ seen) txs = IsReady history learnt c s txs k × AreReady history learnt (c + 1) knowns seen txs
AreReady history learnt c knowns seen txs = Unit {0}
