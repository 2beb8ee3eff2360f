use Rattle.std.proofs.Common.{◌≡◌, ℕ, List, Option, IfSome, sym, ap, subst, ◌∙◌, nat_cmp}
use Rattle.std.specs.Option.{option_or}
use Rattle.std.specs.Cmp.Lexicographic.{slice_cmp}
use Rattle.std.specs.BTreeMap.{BTreeMap, get}
use Rattle.std.proofs.lemmas.Option.{IfSome_then}
use Rattle.resolve.specs.Preimages.{first_of}
use Rattle.resolve.proofs.Knowing.{first_of_both}
use Rattle.resolve.proofs.known_preimages.KnownPreimages.extend.Goals as goal

pub invariant_of-self-in-Some-2 : goal.invariant_of-self-in-Some-2
invariant_of-self-in-Some-2 c =
    let more = c.args.more.now in
    let old = c.self.inside.values.items in
    let noted : (h : List ℕ) → get (slice_cmp nat_cmp) c.in-Some.by_hash h ≡ first_of old h =
    subst (λ (o : Option (BTreeMap (List ℕ) (List ℕ))). IfSome o (λ m. (h : List ℕ) → get (slice_cmp nat_cmp) m h ≡ first_of old h)) (sym c.in-Some.ensures.value) c.self.invariant in
    IfSome_then c.extended.result c.extended.ensures (λ m p h.
    p h
    ∙ ap (λ o. option_or o (first_of more h)) (noted h)
    ∙ sym (first_of_both old more h)
    ∙ ap (λ (xs : List (List ℕ)). first_of xs h) (sym c.in_ok-extend_from_slice.ensures.items))
