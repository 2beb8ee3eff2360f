-- What an index of outputs and ids holds.
use Rattle.std.specs.Prelude.{◌≡◌, ℕ, Bool, true, false, ◌&&◌, nat_lt, ◌==◌, if◌then◌else◌, List, Option, Some, None, option_map}
use Rattle.std.specs.declared.cmp.Ordering.{Ordering}
use Rattle.std.specs.Ordering.{ordering_then, nat_cmp}
use Rattle.std.specs.Cmp.Lexicographic.{slice_cmp}
use Rattle.std.specs.List.{find}
use Rattle.std.specs.BTreeMap.{BTreeMap, get}
use Rattle.std.specs.Str.{bytes_eq}
use Rattle.tx.specs.declared.input.OutPoint.{OutPoint}
use Rattle.tx.specs.Fields.{same_outpoint}
use Rattle.chain.specs.declared.coin_map.IndexedCoin.{IndexedCoin}
use Rattle.chain.specs.Blocks.{Contents, Creation, Coin, coin_at, has_id}
use Rattle.chain.specs.Checked.{is_checked}

-- the order of outpoints: by their ids, byte by byte, and then by their indices
abbrev pub outpoint_cmp : OutPoint → OutPoint → Ordering
outpoint_cmp o p = ordering_then (slice_cmp nat_cmp o.txid p.txid) (nat_cmp o.index p.index)

abbrev pub indexed_coin : IndexedCoin → Coin
indexed_coin c = record { output = c.output; height = c.height; spent = c.spent }

-- the output that a map holds at an outpoint
abbrev pub noted : BTreeMap OutPoint IndexedCoin → OutPoint → Option Coin
noted coins o = option_map indexed_coin (get outpoint_cmp coins o)

-- an output as it was created
abbrev pub new_coin : Creation → Coin
new_coin c = record { output = c.output; height = c.height; spent = false }

-- the first of these at an outpoint
abbrev pub first_new : List Creation → OutPoint → Option Coin
first_new list o = option_map new_coin (find (λ c. same_outpoint c.outpoint o) list)

-- the outpoint is that of one of the first `count` outputs of a transaction
abbrev pub is_output_below : List ℕ → ℕ → OutPoint → Bool
is_output_below id count o = bytes_eq id o.txid && nat_lt o.index count

-- the coin, unless it was created at this height
abbrev pub unless_height : ℕ → Option Coin → Option Coin
unless_height height None = None
unless_height height (Some c) = if c.height == height then None else Some c

abbrev pub without : Bool → ℕ → Option Coin → Option Coin
without here height found = if here then unless_height height found else found

-- marked as spent or not
abbrev pub marked : Bool → Coin → Coin
marked spent c = record c { spent = spent }

abbrev pub with_mark : Bool → Bool → Option Coin → Option Coin
with_mark here spent found = if here then option_map (marked spent) found else found

-- what an index holds beside the blocks, as contracts see it: the output at each outpoint, and whether each id is on the chain; and each
-- transaction passed its tests
pub record IsIndex (blocks : List Contents) (coins : OutPoint → Option Coin) (ids : List ℕ → Bool) : Type 0 where
  pub coins_are : (o : OutPoint) → coins o ≡ coin_at blocks o
  pub ids_are : (id : List ℕ) → ids id ≡ has_id blocks id
  pub checked : is_checked blocks ≡ true
