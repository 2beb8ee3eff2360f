-- When an empty block gives a side nothing.
use Rattle.std.specs.Prelude.{◌≡◌, ℕ, ◌+◌, false, List, [], ◌∷◌, map, slice_get}
use Rattle.resolve.specs.declared.known.Known.{Known}
use Rattle.watch.specs.Watching.{Seen}
use Rattle.watch.specs.Lookouts.{IsSettled}
use Rattle.book.specs.declared.calls.Entry.{Entry}
use Rattle.book.specs.Books.{replay}
use Rattle.world.specs.Worlds.{Node}
use Rattle.world.specs.Looking.{is_closed, Knows}

-- a channel is open, or all that is due by what the side knows of it was given
pub data IsQuietIn (history : List Entry) (learnt : List (List ℕ)) (c : ℕ) (seen : Seen) : Type 0 where
  stands : is_closed (slice_get (replay history) c) seen [] ≡ false → IsQuietIn history learnt c seen
  gave : (known : Known) → Knows history learnt c known → IsSettled seen known → IsQuietIn history learnt c seen

-- so is each channel from number c on
abbrev pub AreQuiet : List Entry → List (List ℕ) → ℕ → List Seen → Type 0
AreQuiet history learnt c [] = Unit {0}
AreQuiet history learnt c (s ∷ seen) = IsQuietIn history learnt c s × AreQuiet history learnt (c + 1) seen

-- so is each channel of a side
abbrev pub IsQuiet : Node → Type 0
IsQuiet n = AreQuiet n.history n.learnt 0 (map (λ line. line.seen) n.lines)
