-- The seeds of the two sides.
use Rattle.std.specs.Prelude.{ℕ, List}
use Rattle.terms.specs.declared.sides.Side.{Side}
use Rattle.terms.specs.declared.sides.Side.TheVariants.{A, B}
use Rattle.scenario.specs.declared.seeds.Seeds.{Seeds}

-- the seed of a side
abbrev pub seed_of : Side → Seeds → List ℕ
seed_of A seeds = seeds.a
seed_of B seeds = seeds.b
