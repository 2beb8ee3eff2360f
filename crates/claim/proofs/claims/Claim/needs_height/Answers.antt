use Rattle.std.proofs.Common.{◌<◌, ap, sym, subst, ◌∙◌}
use Rattle.std.specs.Prelude.{option_map, unwrap_or}
use Rattle.claim.specs.Judgement.{needed_height}
use Rattle.claim.proofs.Judged.{accepted-low, needed-low}
use Rattle.claim.proofs.claims.Claim.needs_height.Goals as goal

pub returns-in-Open-clause-below : goal.returns-in-Open-clause-below
returns-in-Open-clause-below c =
    let v = c.args.self.now in
    subst (λ n. n < 500000000) (sym c.unwrap_or.ensures) (accepted-low v.ways v.index v.slots v.place v.shell c.path.result.now c.path.ensures.sound c.path.ensures.value)

pub returns-in-Fixed-clause-below : goal.returns-in-Fixed-clause-below
returns-in-Fixed-clause-below c =
    let v = c.args.self.now in
    let p = c.path.result.now in
    let low = subst (λ s. needed_height p s < 500000000) (sym (ap (λ w. w.shell) c.self.view_is) ∙ c.in-Fixed.is) (needed-low v.ways v.index v.slots v.place v.shell p c.path.ensures.sound c.path.ensures.value) in
    subst (λ n. n < 500000000) (sym (c.from.ensures ∙ c.lock_time.ensures)) low

pub returns-in-Open-clause-value : goal.returns-in-Open-clause-value
returns-in-Open-clause-value c =
    let v = c.args.self.now in
    c.unwrap_or.ensures ∙ ap (needed_height c.path.result.now) (sym c.in-Open.is ∙ ap (λ w. w.shell) c.self.view_is)
    ∙ ap (λ o. unwrap_or (option_map (λ p. needed_height p v.shell) o) 0) (sym c.path.ensures.at)

pub returns-in-Fixed-clause-value : goal.returns-in-Fixed-clause-value
returns-in-Fixed-clause-value c =
    let v = c.args.self.now in
    c.from.ensures ∙ c.lock_time.ensures ∙ ap (needed_height c.path.result.now) (sym c.in-Fixed.is ∙ ap (λ w. w.shell) c.self.view_is)
    ∙ ap (λ o. unwrap_or (option_map (λ p. needed_height p v.shell) o) 0) (sym c.path.ensures.at)
