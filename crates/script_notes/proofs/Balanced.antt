-- The branches of a listed script close.
use Rattle.std.proofs.Common.{◌≡◌, Bool, true, false, List, [], ◌∷◌, Result, Ok, Err, ap, refl}
use Rattle.std.proofs.lemmas.Bool.{false≢true}
use Rattle.std.specs.Prelude.{is_ok}
use Rattle.script.specs.declared.opcode.Op.{Op}
use Rattle.script.specs.declared.stops.Cause.{Cause}
use Rattle.script.specs.Step.{result_if}
use Rattle.script.specs.Run.{open_ifs_after}
use Rattle.paths.specs.declared.state.Path.{Path}
use Rattle.paths.specs.declared.errors.CheckError.{CheckError}
use Rattle.paths.specs.Listing.{listing, is_balanced as is_listed_balanced, balanced_with as listed_balanced_with}
use Rattle.strictness.specs.Balance.{is_balanced, balanced_with}

with_same : (r : Result (List Bool) Cause) (f g : List Bool → Bool) → ((ifs : List Bool) → f ifs ≡ true → g ifs ≡ true) → listed_balanced_with r f ≡ true → balanced_with r g ≡ true
with_same (Ok ifs) f g h e = h ifs e
with_same (Err c) f g h e = e

same : (ops : List Op) (ifs : List Bool) → is_listed_balanced ops ifs ≡ true → is_balanced ops ifs ≡ true
same [] [] e = e
same [] (b ∷ ifs) e = e
same (op ∷ ops) ifs e = with_same (open_ifs_after op ifs) (is_listed_balanced ops) (is_balanced ops) (same ops) e

passed : (A E : Type 0) (b : Bool) (c : E) (r : Result A E) (x : A) → result_if b c r ≡ Ok x → b ≡ true
passed A E true c r x e = refl
passed A E false c r x e = absurd (false≢true (ap (λ (t : Result A E). is_ok t) e))

pub listed_balanced : (ops : List Op) (paths : List Path) → listing ops ≡ Ok paths → is_balanced ops [] ≡ true
unfolding listing
listed_balanced ops paths e = same ops [] (passed (List Path) CheckError (is_listed_balanced ops []) _ _ paths e)
