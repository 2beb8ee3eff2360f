use Rattle.std.proofs.Common.{◌≡◌, true, subst}
use Rattle.chain.specs.Blocks.{Standing}
use Rattle.chain.specs.Checked.{is_checked}
use Rattle.chain.proofs.index.Index.passed_tests.Goals as goal

pub returns : goal.returns
returns c = subst (λ (s : Standing). is_checked s.blocks ≡ true) c.self.view_is c.self.invariant.1.checked
