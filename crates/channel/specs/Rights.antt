-- What the signer of a side may sign for.
use Rattle.std.specs.Prelude.{◌+◌, ◌∷◌, ◌++◌, map}
use Rattle.keys.specs.Rights.{Rights}
use Rattle.channel.specs.Points.{point_at}
use Rattle.channel.specs.States.{State}

-- the signer of a side knows its own points up to the one after its newest commitment's, and every point and every secret received
abbrev pub rights_of : State → Rights
rights_of s = record {
  seed = s.seed;
  points = (point_at s.seed (s.number + 1)).bytes ∷ s.next_point.bytes
      ∷ (map (λ c. c.point.bytes) s.mine ++ map (λ c. c.point.bytes) s.signed);
  secrets = s.secrets;
}
