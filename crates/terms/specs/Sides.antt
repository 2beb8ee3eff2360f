-- The two sides of a channel.
use Rattle.terms.specs.declared.sides.Side.{Side}
use Rattle.terms.specs.declared.sides.Side.TheVariants.{A, B}

-- the side's peer
abbrev pub other : Side → Side
other A = B
other B = A
