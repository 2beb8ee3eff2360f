use Rattle.std.proofs.Common.{List, [], ap, ◌∙◌}
use Rattle.script.specs.declared.opcode.Op.{Op}
use Rattle.strictness.specs.Balance.{is_balanced}
use Rattle.script_notes.proofs.Balanced.{listed_balanced}
use Rattle.script_notes.proofs.scripts.note_listing.Goals as goal

-- the script is listed, so its opcodes are valid and its branches close
pub note_exact-requires : goal.note_exact-requires
note_exact-requires c = c.in_ok-ends.ensures c.if-ends.true c.ops-ops.ensures.valid (ap (λ (ops : List Op). is_balanced ops []) (c.ops-ops.ensures.value ∙ c.script.ensures) ∙ listed_balanced _ _ c.paths.ensures.listed)

pub note_dead_ends-requires : goal.note_dead_ends-requires
note_dead_ends-requires c = record {
  valid = c.ops-ops.ensures.valid;
  closed = ap (λ (ops : List Op). is_balanced ops []) (c.ops-ops.ensures.value ∙ c.script.ensures) ∙ listed_balanced _ _ c.paths.ensures.listed;
}
