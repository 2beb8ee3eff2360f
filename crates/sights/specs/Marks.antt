-- Which ids have both of their marks. Where a table has no place for an id, that counts as marked.
use Rattle.std.specs.Prelude.{◌≡◌, ℕ, ◌+◌, ◌*◌, Bool, true, ◌&&◌, List, Some, slice_get, unwrap_or}
use Rattle.tx.specs.declared.input.OutPoint.{OutPoint}
use Rattle.sights.specs.declared.sighted.Sighted.{Sighted}
use Rattle.sights.specs.Sights.{is_funding, sighted_as}

-- a byte of an id; 0 past its end
abbrev pub byte_in : List ℕ → ℕ → ℕ
byte_in id index = unwrap_or (slice_get id index) 0

-- the place of an id in a table, by two bytes
abbrev pub place_in : List ℕ → ℕ → ℕ → ℕ
place_in id first second = byte_in id first * 256 + byte_in id second

abbrev pub is_set : List Bool → ℕ → Bool
is_set table place = unwrap_or (slice_get table place) true

-- the first two bytes are marked in the first table, and the next two in the second
abbrev pub is_marked : List Bool → List Bool → List ℕ → Bool
is_marked first second id = is_set first (place_in id 0 1) && is_set second (place_in id 2 3)

-- the ids of the funding outputs are marked, and those of the transactions that were read
pub record AreMarked (first second : List Bool) (fundings : List OutPoint) (ss : List Sighted) : Type 0 where
  pub outputs : (o : OutPoint) → is_funding fundings o ≡ true → is_marked first second o.txid ≡ true
  pub ids : (id : List ℕ) (s : Sighted) → sighted_as id ss ≡ Some s → is_marked first second id ≡ true
