-- What a signer may sign for.
use Rattle.std.specs.Prelude.{◌≡◌, ℕ, List, Contains}
use Rattle.keys.specs.declared.bases.Base.{Base}
use Rattle.keys.specs.Derivation.{point_of, derived_key, revocation_key, base_key}

-- a signer's seed, and the points and secrets that it learnt, the oldest first
pub record Rights : Type 0 where
  pub seed : List ℕ
  pub points : List (List ℕ)
  pub secrets : List (List ℕ)

-- the signer may sign for its base keys, for the keys that derive from them at learnt points, and for their revocation keys at the points
-- of learnt secrets
pub data MaySign (r : Rights) (key : List ℕ) : Type 0 where
  own : (b : Base) → key ≡ base_key r.seed b → MaySign r key
  derived : (b : Base) (point : List ℕ) → Contains r.points point → key ≡ derived_key (base_key r.seed b) point → MaySign r key
  revoked : (b : Base) (secret : List ℕ) → Contains r.secrets secret → key ≡ revocation_key (base_key r.seed b) (point_of secret) → MaySign r key
