-- The keys that a signer keeps for its answers.
use Rattle.std.specs.Prelude.{ℕ, Bool, List, [], ◌∷◌, ◌++◌}
use Rattle.std.specs.List.{flat_map, list_any}
use Rattle.std.specs.Str.{bytes_eq}
use Rattle.keys.specs.declared.bases.Base.{Base}
use Rattle.keys.specs.declared.bases.Base.TheVariants.{Funding, Payment, Delayed, Htlc, Revocation}
use Rattle.keys.specs.Derivation.{point_of, derived_key, revocation_key, base_key}

-- the value of a function at each base
abbrev pub at_each : (Base → List ℕ) → List (List ℕ)
at_each f = f Funding ∷ f Payment ∷ f Delayed ∷ f Htlc ∷ f Revocation ∷ []

abbrev pub base_keys : List ℕ → List (List ℕ)
base_keys seed = at_each (base_key seed)

abbrev pub keys_at : List ℕ → List ℕ → List (List ℕ)
keys_at seed point = at_each (λ b. derived_key (base_key seed b) point)

abbrev pub revocations_at : List ℕ → List ℕ → List (List ℕ)
revocations_at seed point = at_each (λ b. revocation_key (base_key seed b) point)

-- the keys that the signer may sign for because of what it learnt
unfoldable pub learnt_keys : List ℕ → List (List ℕ) → List (List ℕ) → List (List ℕ)
learnt_keys seed points secrets = flat_map (keys_at seed) points
    ++ flat_map (λ s. revocations_at seed (point_of s)) secrets

-- whether a key is in a list
abbrev pub is_among : List ℕ → List (List ℕ) → Bool
is_among key keys = list_any (λ k. bytes_eq k key) keys
