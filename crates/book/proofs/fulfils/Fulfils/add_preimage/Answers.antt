use Rattle.std.proofs.Common.{◌++◌, [], List, ℕ, Option, sym, ap, ◌∙◌}
use Rattle.std.specs.List.{cons_option}
use Rattle.book.proofs.Fulfilled.{pushed, written, nothing_more}
use Rattle.book.specs.Books.{at_index}
use Rattle.book.specs.Knowing.{preimage_in}
use Rattle.book.specs.Fulfilled.{kept_by}
use Rattle.book.proofs.fulfils.Fulfils.add_preimage.Goals as goal

pub returns-in-Some : goal.returns-in-Some
returns-in-Some c =
    let more = cons_option (preimage_in c.args.step.now) [] in
    let is = ap (λ (o : Option (List ℕ)). cons_option o []) (sym c.in-Some.is ∙ c.preimage_in.ensures) in
    written c.args.self.now.channels.items c.args.channel c.index_mut.result.now c.push.new.self c.requires.within c.index_mut.ensures.value more
    (pushed c.push.result c.unwrap.result c.index_mut.result.now.items c.push.new.self.items c.in-Some.preimage more c.unwrap.ensures c.push.ensures.items is)

pub returns-in_default : goal.returns-in_default
returns-in_default c =
    let none = ap (λ (o : Option (List ℕ)). at_index (λ own. own ++ cons_option o []) c.args.channel (kept_by c.args.self.now)) (sym c.preimage_in.ensures ∙ c.in_default.is) in
    sym (none ∙ nothing_more c.args.channel (kept_by c.args.self.now))
