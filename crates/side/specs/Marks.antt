-- Which outpoints have both of their marks.
use Rattle.std.specs.Prelude.{ℕ, ◌+◌, ◌*◌, Bool, false, ◌&&◌, List, slice_get, unwrap_or}
use Rattle.tx.specs.declared.input.OutPoint.{OutPoint}

-- a byte of an id; 0 past its end
abbrev pub byte_in : List ℕ → ℕ → ℕ
byte_in txid index = unwrap_or (slice_get txid index) 0

-- the place of an id in a table by two bytes
abbrev pub place_in : List ℕ → ℕ → ℕ → ℕ
place_in txid first second = byte_in txid first * 256 + byte_in txid second

abbrev pub is_set : List Bool → ℕ → Bool
is_set table place = unwrap_or (slice_get table place) false

-- the first two bytes are marked in the first table, and the next two in the second
abbrev pub is_marked : List Bool → List Bool → OutPoint → Bool
is_marked first second o = is_set first (place_in o.txid 0 1) && is_set second (place_in o.txid 2 3)
