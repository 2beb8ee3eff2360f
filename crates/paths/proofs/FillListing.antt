-- The listing of a script, and that of a pattern of it.
use Rattle.std.proofs.Common.{◌≡◌, ℕ, ◌+◌, true, false, List, [], ◌∷◌, map, Option, Result, Ok, Err, subst, refl, inl}
use Rattle.std.specs.Prelude.{nat_le}
use Rattle.script.specs.declared.opcode.Op.{Op}
use Rattle.script.specs.declared.limits.TheConstants.{MAX_OPS_PER_SCRIPT}
use Rattle.script.specs.Run.{counted_in}
use Rattle.paths.specs.declared.errors.CheckError.{CheckError}
use Rattle.paths.specs.declared.errors.CheckError.TheVariants.{NoMemory, OpenBranch, TooManyOps, Undecided, TooManyPaths, TooTall}
use Rattle.paths.specs.Answers.{IfRefused}
use Rattle.paths.specs.declared.constants.HoleKind.{HoleKind}
use Rattle.paths.specs.declared.state.Path.{Path}
use Rattle.paths.specs.declared.state.PatternPath.{PatternPath}
use Rattle.paths.specs.Maps.{in_stated}
use Rattle.paths.specs.Rules.{plain, rule_of, check_multi_sig}
use Rattle.paths.specs.Holes.{with_holes, filling}
use Rattle.paths.specs.HoleRules.{rule_of as hole_rule_of, check_multi_sig as hole_check_multi_sig}
use Rattle.paths.specs.Listing.{guide as plain_guide, is_balanced, listing}
use Rattle.paths.specs.HoleListing.{guide as hole_guide, pattern_listing}
use Rattle.paths.specs.Filling.{filled_path, filled_paths}
use Rattle.paths.proofs.MapRules.{rule_agrees, condition_agrees}
use Rattle.paths.proofs.MapWalk.{Follows, follows_if, EndsAlike, Alike, walk_all-follows}
use Rattle.paths.proofs.FillRespects.{knowing, knowing_respects, filling_respects}

-- a path, all of whose constants are known
abbrev known_path : Path → PatternPath
known_path p = record { arity = p.arity; facts = map (in_stated knowing) p.facts; ops = p.ops; height = p.height }

known_alike : (counted at : ℕ) (ops : List Op) → Alike true knowing known_path plain_guide (hole_guide []) counted at ops ops
unfolding rule_of hole_rule_of check_multi_sig hole_check_multi_sig
known_alike counted at [] = tt
known_alike counted at (op ∷ ops) = (inl refl, λ s. rule_agrees true knowing plain with_holes knowing_respects counted op s, known_alike counted (at + 1) ops)

known_ends : (counted : ℕ) → EndsAlike true knowing known_path plain_guide (hole_guide []) counted
known_ends counted = record { condition = condition_agrees true knowing plain with_holes knowing_respects; path = λ s. refl }

filled_alike : (whole : List Op) (counted at : ℕ) (ops : List Op) → Alike false (filling whole) (filled_path whole) (hole_guide []) plain_guide counted at ops ops
unfolding rule_of hole_rule_of check_multi_sig hole_check_multi_sig
filled_alike whole counted at [] = tt
filled_alike whole counted at (op ∷ ops) = (inl refl, λ s. rule_agrees false (filling whole) with_holes plain (filling_respects whole) counted op s, filled_alike whole counted (at + 1) ops)

pub filled_ends : (whole : List Op) (holes : List (Option HoleKind)) (counted : ℕ) → EndsAlike false (filling whole) (filled_path whole) (hole_guide holes) plain_guide counted
filled_ends whole holes counted = record { condition = condition_agrees false (filling whole) with_holes plain (filling_respects whole); path = λ s. refl }

-- a script's listing, and that of the script as a pattern without holes
known_listing : (ops : List Op) → Follows true (map known_path) (listing ops) (pattern_listing [] ops)
unfolding listing pattern_listing
known_listing ops =
    follows_if true (map known_path) (is_balanced ops []) (is_balanced ops []) _ _ _ refl (
    follows_if true (map known_path) (nat_le (counted_in ops) MAX_OPS_PER_SCRIPT) (nat_le (counted_in ops) MAX_OPS_PER_SCRIPT) _ _ _ refl (
    walk_all-follows true knowing known_path plain_guide (hole_guide []) (counted_in ops) (known_ends (counted_in ops)) ops ops (known_alike (counted_in ops) 0 ops)))

filled_listing : (ops : List Op) → Follows false (filled_paths ops) (pattern_listing [] ops) (listing ops)
unfolding listing pattern_listing
filled_listing ops =
    follows_if false (filled_paths ops) (is_balanced ops []) (is_balanced ops []) _ _ _ refl (
    follows_if false (filled_paths ops) (nat_le (counted_in ops) MAX_OPS_PER_SCRIPT) (nat_le (counted_in ops) MAX_OPS_PER_SCRIPT) _ _ _ refl (
    walk_all-follows false (filling ops) (filled_path ops) (hole_guide []) plain_guide (counted_in ops) (filled_ends ops [] (counted_in ops)) ops ops (filled_alike ops (counted_in ops) 0 ops)))

pub known_listed : (ops : List Op) (paths : List PatternPath) → pattern_listing [] ops ≡ Ok paths → listing ops ≡ Ok (filled_paths ops paths)
known_listed ops paths e = subst (λ r. Follows false (filled_paths ops) r (listing ops)) e (filled_listing ops)

pub known_refused : (ops : List Op) (e : CheckError) → pattern_listing [] ops ≡ Err e → listing ops ≡ Err e
known_refused ops e h = go (listing ops) (known_listing ops)
  where
    go : (r : Result (List Path) CheckError) → Follows true (map known_path) r (pattern_listing [] ops) → r ≡ Err e
    go (Ok paths) k = absurd (cc)
    go (Err d) k = cc

pub known_refusal : (ops : List Op) (e : CheckError) → IfRefused e (pattern_listing [] ops ≡ Err e) → IfRefused e (listing ops ≡ Err e)
known_refusal ops NoMemory h = tt
known_refusal ops OpenBranch h = known_refused ops OpenBranch h
known_refusal ops TooManyOps h = known_refused ops TooManyOps h
known_refusal ops (Undecided at) h = known_refused ops (Undecided at) h
known_refusal ops TooManyPaths h = known_refused ops TooManyPaths h
known_refusal ops TooTall h = known_refused ops TooTall h
