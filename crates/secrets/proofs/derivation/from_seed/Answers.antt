use Rattle.std.proofs.Common.{List, ℕ, sym, ap, ◌∙◌}
use Rattle.secrets.specs.Derivation.{derived_secret}
use Rattle.secrets.proofs.Storing.{seed-leads}
use Rattle.secrets.proofs.derivation.from_seed.Goals as goal

pub returns-clause-leads : goal.returns-clause-leads
returns-clause-leads c = λ b j top clear same.
    seed-leads c.args.seed.now c.args.i b j top clear same
    ∙ sym (ap (λ (s : List ℕ). derived_secret s b j) c.derive.ensures)
