use Rattle.std.proofs.Common.{ℕ, List, ap, sym, ◌∙◌}
use Rattle.keys.specs.Rights.{Rights}
use Rattle.terms.specs.declared.sides.Side.TheVariants.{A, B}
use Rattle.channel.specs.Points.{point_at}
use Rattle.channel.specs.States.{state_at_opening}
use Rattle.vectors.proofs.channel_sides.open_sides.Goals as goal

pub returns : goal.returns
returns c =
    let terms = c.in_ok-terms.terms in
    let seed_a = c.new-a.result.seed in
    let seed_b = c.new-b.result.seed in
    let same_a = ap (λ (r : Rights). r.seed) (c.new.ensures ∙ sym c.new-a.ensures) in
    let same_b = ap (λ (r : Rights). r.seed) (c.new-2.ensures ∙ sym c.new-b.ensures) in
    record {
      terms = terms;
      seed_a = seed_a;
      seed_b = seed_b;
      a_is = c.in_ok-open_side.ensures ∙ ap (λ (d : List ℕ). state_at_opening terms A d (point_at seed_b 0) (point_at seed_b 1)) same_a;
      b_is = c.in_ok-open_side-2.ensures ∙ ap (λ (d : List ℕ). state_at_opening terms B d (point_at seed_a 0) (point_at seed_a 1)) same_b;
    }
