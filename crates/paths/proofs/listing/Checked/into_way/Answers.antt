use Rattle.std.proofs.Common.{◌≡◌, ◌<◌, List, Some, length, refl, sym, ap, subst, ◌∙◌, arith}
use Rattle.std.specs.Prelude.{slice_get}
use Rattle.std.proofs.lemmas.Option.{slice_get_read}
use Rattle.paths.specs.declared.state.Path.{Path}
use Rattle.paths.specs.Listing.{CheckedScript}
use Rattle.paths.proofs.listing.Checked.into_way.Goals as goal

pub returns-clause-path : goal.returns-clause-path
returns-clause-path c =
    let items = c.into_vec-paths.result.items in
    let within : c.args.index < length items = omega (arith, c.requires, ap length c.into_vec-paths.ensures, ap (λ (v : CheckedScript). length v.paths) c.self.view_is) in
    subst (λ (v : CheckedScript). slice_get v.paths c.args.index ≡ Some c.swap_remove-path.result) c.self.view_is
    (ap (λ (ps : List Path). slice_get ps c.args.index) (sym c.into_vec-paths.ensures) ∙ slice_get_read items (length items) c.args.index c.swap_remove-path.result refl within c.swap_remove-path.ensures.value)
