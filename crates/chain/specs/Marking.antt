-- Marks of a chain's state, to which it can go back.
use Rattle.std.specs.Prelude.{◌≡◌, ◌+◌, false, List, ◌++◌, length}
use Rattle.std.specs.List.{list_any}
use Rattle.chain.specs.declared.index.Mark.{Mark}
use Rattle.chain.specs.Blocks.{Contents, Standing}
use Rattle.chain.specs.Connecting.{has_grant}

-- the mark has the height of the newest block, and the greatest height that the chain ever had
pub record IsMark (s : Standing) (m : Mark) : Type 0 where
  pub height : length s.blocks ≡ m.height + 1
  pub greatest : m.greatest ≡ s.greatest

-- blocks were added, and nothing was granted in them
pub record IsGrown (old new : Standing) : Type 0 where
  pub above : List Contents
  pub blocks : new.blocks ≡ above ++ old.blocks
  pub no_grant : list_any has_grant above ≡ false
