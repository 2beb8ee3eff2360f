use Rattle.std.proofs.Common.{ℕ, List, ap, ◌∙◌, length, reverse, map, nat_le}
use Rattle.std.specs.List.{list_all}
use Rattle.filling.specs.Filling.{item_for}
use Rattle.filling.proofs.Lists.{all-reverse}
use Rattle.filling.proofs.Bounds.{items-short}
use Rattle.filling.proofs.witnesses.witness.Goals as goal

pub witness_of-requires-clause-bounded : goal.witness_of-requires-clause-bounded
witness_of-requires-clause-bounded c =
    let short = λ (item : List ℕ). nat_le (length item) 10000 in
    ap (list_all short) (c.reverse.ensures.items ∙ ap reverse c.in_ok-items.ensures.0)
    ∙ all-reverse short (map (item_for c.args.digest.now c.args.preimages.now) c.slots.result.now) (items-short c.args.digest.now c.args.signer.now c.args.preimages.now c.slots.result.now c.told-digest c.in_ok-items.ensures.1)
