use Rattle.std.proofs.Common.{◌≡◌, ◌<◌, ◌≤◌, ℕ, List, ap, sym, subst, ◌∙◌, length, reverse, map, nat_le, arith}
use Rattle.std.specs.List.{list_any, list_all}
use Rattle.std.proofs.lemmas.List.{length-map, length-reverse}
use Rattle.filling.specs.Spends.{blank_for, wants_preimage}
use Rattle.filling.proofs.Lists.{all-reverse}
use Rattle.filling.proofs.OpenSlots.{slots-few, blanks-short}
use Rattle.filling.proofs.blanks.blank_witness.Goals as goal

pub witness_of-requires-clause-count : goal.witness_of-requires-clause-count
witness_of-requires-clause-count c =
    let claim = c.args.claim.now in
    let few = slots-few claim c.args.preimages.now (record { path = c.path.result.now; at = c.path.ensures.at; taken = c.path.ensures.value; opens = c.path.ensures.spends }) c.requires.lone (subst (λ n. n < 500000000) c.needs_height.ensures.value c.needs_height.ensures.below) c.requires.preimages in
    let items = map (blank_for c.args.preimages.now) claim.slots in
    let same = ap length (c.reverse.ensures.items ∙ ap reverse (c.in_ok-items.ensures ∙ ap (map (blank_for c.args.preimages.now)) c.slots.ensures)) in
    omega (arith, few, same, length-reverse items, length-map claim.slots (blank_for c.args.preimages.now))

pub witness_of-requires-clause-bounded : goal.witness_of-requires-clause-bounded
witness_of-requires-clause-bounded c =
    let ps = c.args.preimages.now in
    let slots = c.args.claim.now.slots in
    let short = λ (item : List ℕ). nat_le (length item) 10000 in
    ap (list_all short) (c.reverse.ensures.items ∙ ap reverse (c.in_ok-items.ensures ∙ ap (map (blank_for ps)) c.slots.ensures))
    ∙ all-reverse short (map (blank_for ps) slots) (blanks-short ps slots c.requires.preimages)
