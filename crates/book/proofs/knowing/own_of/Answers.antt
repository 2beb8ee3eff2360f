use Rattle.std.proofs.Common.{◌↔◌, List, ℕ, map, sym, ap, ◌∙◌, subst}
use Rattle.keys.specs.Rights.{Rights, MaySign}
use Rattle.channel.specs.Rights.{rights_of}
use Rattle.book.specs.Knowing.{signed_parts, own_at}
use Rattle.book.proofs.knowing.own_of.Goals as goal

pub returns : goal.returns
returns c =
    let s = c.args.channel.now in
    record {
      seed = ap (λ (r : Rights). r.seed) c.in_ok-signer.ensures ∙ c.signer.ensures.seed;
      rights = subst (λ (r : Rights). (key : List ℕ) → MaySign r key ↔ MaySign (rights_of s) key) (sym c.in_ok-signer.ensures) c.signer.ensures.rights;
      newest = c.in_ok-newest.ensures ∙ ap (own_at s) c.number.ensures.number;
      older = ap (map signed_parts) c.from_vec.ensures ∙ c.in_ok-older.ensures;
    }
