-- A store of secrets, as the list of what was inserted: the secret of index 2^48 - 1 first, that of the next lower index after it.
-- So the secret of commitment number n stands at position n.
use Rattle.std.specs.Prelude.{◌≡◌, ℕ, ◌+◌, ◌-◌, ◌/◌, ◌^◌, List, length, Option, Some, None, if◌then◌else◌, nat_lt, slice_get}
use Rattle.std.specs.Int.Count.{count_trailing_zeros}
use Rattle.secrets.specs.Derivation.{derived_secret, commitment_secret}

-- what was inserted at index i
unfoldable pub inserted_at : List (List ℕ) → ℕ → Option (List ℕ)
inserted_at secrets i = if nat_lt i (2 ^ 48) then slice_get secrets (2 ^ 48 - 1 - i) else None

-- i is the next index: indices are counted down from 2^48 - 1, and 0 is the last
abbrev pub IsNext : List (List ℕ) → ℕ → Type 0
IsNext secrets i = i + length secrets + 1 ≡ 2 ^ 48

-- each secret inserted whose index begins with the leading bits of i, those above its trailing zeros, derives from s
unfoldable pub LeadsTo : List ℕ → ℕ → List (List ℕ) → Type 0
LeadsTo s i secrets =
    let b = count_trailing_zeros 48 i in
    (j : ℕ) (t : List ℕ) → inserted_at secrets j ≡ Some t → j / 2 ^ b ≡ i / 2 ^ b → t ≡ derived_secret s b j

-- each secret inserted is the one that the seed derives at its index
unfoldable pub AreOfSeed : List ℕ → List (List ℕ) → Type 0
AreOfSeed seed secrets = (j : ℕ) (t : List ℕ) → inserted_at secrets j ≡ Some t → t ≡ commitment_secret seed j
