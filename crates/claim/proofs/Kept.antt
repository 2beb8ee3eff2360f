-- What a claim keeps: of its checked script the bytes, and of the paths its own.
use Rattle.std.proofs.Common.{◌≡◌, ℕ, ◌≤◌, List, length, Some, Result, Ok, refl, sym, ap, subst, ◌∙◌}
use Rattle.std.specs.Prelude.{slice_get, is_ok, IsTrue}
use Rattle.script.specs.declared.limits.TheConstants.{MAX_SCRIPT_SIZE as max_script_size}
use Rattle.script.specs.Spelling.{Spells}
use Rattle.paths.specs.declared.errors.CheckError.{CheckError}
use Rattle.paths.specs.declared.state.Path.{Path}
use Rattle.paths.specs.Listing.{CheckedScript, listing}
use Rattle.claim.specs.declared.parts.Slot.{Slot}
use Rattle.claim.specs.declared.parts.Place.{Place}
use Rattle.claim.specs.declared.parts.Shell.{Shell}
use Rattle.claim.specs.Judgement.{judgement_of}
use Rattle.claim.specs.Claims.{ClaimParts}
use Rattle.claim.specs.Ways.{paths_in, ways_with, ways_of, IsWayOf}
use Rattle.claim.proofs.OpcodesRead.{reads}

-- the bytes of a checked script are that script again
pub same_ways : (bytes : List ℕ) (w : CheckedScript) → Spells w.ops bytes → length bytes ≤ max_script_size → listing w.ops ≡ Ok w.paths → ways_of bytes ≡ w
unfolding ways_of
same_ways bytes w spells short listed =
    let with : Result (List Path) CheckError → CheckedScript = λ r. record { ops = w.ops; paths = paths_in r } in
    ap ways_with (reads w.ops bytes spells short) ∙ ap with listed

pub is_way : (bytes : List ℕ) (w : CheckedScript) (index : ℕ) (path : Path) → Spells w.ops bytes → length bytes ≤ max_script_size → listing w.ops ≡ Ok w.paths → slice_get w.paths index ≡ Some path
    → IsWayOf bytes index path
is_way bytes w index path spells short listed at =
    let same : w ≡ ways_of bytes = sym (same_ways bytes w spells short listed) in
    record {
      spells = subst (λ (x : CheckedScript). Spells x.ops bytes) same spells;
      short = short;
      listed = subst (λ (x : CheckedScript). listing x.ops ≡ Ok x.paths) same listed;
      at = subst (λ (x : CheckedScript). slice_get x.paths index ≡ Some path) same at;
    }

-- a copy has equal parts
pub judged_again : (s t : List ℕ) (index : ℕ) (slots more : List Slot) (place other : Place) (shell again : Shell) → t ≡ s → more ≡ slots → other ≡ place → again ≡ shell
    → IsTrue (is_ok (judgement_of (ways_of s) index slots place shell)) → IsTrue (is_ok (judgement_of (ways_of t) index more other again))
judged_again s t index slots more place other shell again a b c d h = rw (a, b, c, d) h

pub way_again : (s t : List ℕ) (index : ℕ) (p q : Path) → t ≡ s → q ≡ p → IsWayOf s index p → IsWayOf t index q
way_again s t index p q a b h = rw (a, b) h

-- the parts of a claim that was accepted
pub judged_on : (v w : CheckedScript) (index : ℕ) (slots more : List Slot) (place : Place) (shell : Shell) → v ≡ w → more ≡ slots
    → IsTrue (is_ok (judgement_of w index slots place shell)) → IsTrue (is_ok (judgement_of v index more place shell))
judged_on v w index slots more place shell a b h = rw (a, b) h

pub parts_of : (v w : CheckedScript) (index : ℕ) (slots more : List Slot) (place : Place) (shell bare : Shell) (claim : ClaimParts) → v ≡ w → more ≡ slots → shell ≡ bare
    → claim ≡ record { ways = v; index = index; slots = more; place = place; shell = shell } → claim ≡ record { ways = w; index = index; slots = slots; place = place; shell = bare }
parts_of v w index slots more place shell bare claim a b c h = h ∙ rw (a, b, c) refl
