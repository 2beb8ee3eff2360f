use Rattle.std.proofs.Common.{List, [], ◌∷◌, length, reverse, ap, ◌∙◌, arith}
use Rattle.std.proofs.lemmas.List.{reverse-append, length-reverse}
use Rattle.chain.specs.Blocks.{Contents, empty_block}
use Rattle.chain.proofs.chain_blocks.Blocks.begin.Goals as goal

pub returns : goal.returns
returns c =
    let items = c.self.inside.items.items in
    record {
      ok = ap reverse c.in_ok-push.ensures.items ∙ reverse-append items (c.new.result ∷ []) ∙ ap (λ (b : Contents). b ∷ reverse items) c.new.ensures ∙ ap (λ (bs : List Contents). empty_block ∷ bs) c.self.view_is;
      some = omega (arith, length-reverse items, ap length c.self.view_is, c.self.invariant);
      err = tt;
    }
