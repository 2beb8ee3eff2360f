-- What a commitment pays (BOLT 3).
use Rattle.terms.specs.declared.sides.Side.{Side}
use Rattle.terms.specs.declared.sides.Side.TheVariants.{A, B}
use Rattle.terms.specs.declared.views.Share.{Share}
use Rattle.terms.specs.declared.views.View.{View}

-- what a view gives to a side
abbrev pub share : Side → View → Share
share A v = v.a
share B v = v.b
