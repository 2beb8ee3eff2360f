-- The inputs of the transaction that fills accepted claims fit them.
use Rattle.std.proofs.Common.{◌≡◌, ◌<◌, ◌||◌, true, false, List, [], ◌∷◌, map, All, Option, Some, Result, Ok, Err, refl, sym, ap, subst, arith}
use Rattle.std.specs.Prelude.{option_map, unwrap_or, is_ok}
use Rattle.std.specs.List.{AllByRecursion}
use Rattle.std.proofs.lemmas.Bool.{false≢true}
use Rattle.tx.specs.Parts.{Output}
use Rattle.paths.specs.declared.state.Path.{Path}
use Rattle.paths.specs.Sound.{IsSound}
use Rattle.paths.specs.Laws.{ListedAreSound}
use Rattle.claim.specs.declared.errors.AcceptError.{AcceptError}
use Rattle.claim.specs.declared.parts.Shell.{Shell}
use Rattle.claim.specs.declared.parts.Shell.TheVariants.{Open, Fixed}
use Rattle.claim.specs.Judgement.{judgement_of, is_shell, needed_height}
use Rattle.claim.specs.Claims.{ClaimParts, TakesPath, path_of, lock_time_of, IsWhole}
use Rattle.claim.specs.Laws.{AcceptedSpend}
use Rattle.claim.proofs.Judged.{accepted-sound, needed-low, taken-at, taken-shell}
use Rattle.filling.specs.Filling.{greatest_of, open_transaction, lone_transaction, transaction_for}
use Rattle.filling.specs.Refusals.{is_fixed, are_mixed, all_slots}
use Rattle.filling.specs.Standing.{IsUnsigned, AllCanSpend}
use Rattle.filling.specs.Filled.{FillingsFit}
use Rattle.filling.proofs.Standing.{open-of, unsigned-open, unsigned-fixed}
use Rattle.filling.proofs.Fitted.{all-fit, have-preimages}

-- what an accepted claim takes: a path at its index, round which its shell stands; the lock time that it needs is a height
record Taken (c : ClaimParts) : Type 0 where
  path : Path
  taken : TakesPath c path
  at : path_of c ≡ Some path
  stands : is_shell path c.place c.shell ≡ true
  low : lock_time_of c < 500000000

accepted_path : (r : Result Path AcceptError) → is_ok r ≡ true → (p : Path) × (r ≡ Ok p)
accepted_path (Ok p) e = (p, refl)
accepted_path (Err x) e = absurd (false≢true e)

takes : ListedAreSound → (c : ClaimParts) → IsWhole c → Taken c
takes sound c w =
    let all : All (IsSound c.ways.ops) c.ways.paths = sound c.ways.ops c.ways.paths w.listed in
    let t = accepted_path (judgement_of c.ways c.index c.slots c.place c.shell) w.accepted in
    let here = taken-at c t.0 t.1 in
    let below = needed-low c.ways c.index c.slots c.place c.shell t.0 (accepted-sound c.ways c.index c.slots c.place c.shell t.0 all t.1) t.1 in
    record {
      path = t.0;
      taken = t.1;
      at = here;
      stands = taken-shell c t.0 t.1;
      low = subst (λ (o : Option Path). unwrap_or (option_map (λ p. needed_height p c.shell) o) 0 < 500000000) (sym here) below;
    }

-- ---- the transaction, without witnesses

low_together : ListedAreSound → (claims : List ClaimParts) → AllByRecursion IsWhole claims → greatest_of (map lock_time_of claims) < 500000000
low_together sound [] h = omega arith
low_together sound (c ∷ claims) h =
    let here = (takes sound c h.0).low in
    let others = low_together sound claims h.1 in
    omega (arith, here, others)

alone : ListedAreSound → (c : ClaimParts) (outputs : List Output) → IsWhole c → (s : Shell) → c.shell ≡ s → IsUnsigned (c ∷ []) (lone_transaction c s outputs)
alone sound c outputs w Open e =
    unsigned-open (c ∷ []) outputs (open_transaction (c ∷ []) outputs) (ap (λ (s : Shell). is_fixed s || false) e) refl (low_together sound (c ∷ []) (w, tt))
alone sound c outputs w (Fixed t) e = let p = takes sound c w in unsigned-fixed c p.path t p.at e p.stands

unsigned_of : ListedAreSound → (claims : List ClaimParts) (outputs : List Output) → AllByRecursion IsWhole claims → are_mixed claims ≡ false → IsUnsigned claims (transaction_for claims outputs)
unsigned_of sound [] outputs h unmixed = record { inputs = refl; stands = tt }
unsigned_of sound (c ∷ []) outputs h unmixed = alone sound c outputs h.0 c.shell refl
unsigned_of sound (c ∷ d ∷ claims) outputs h unmixed =
    unsigned-open (c ∷ d ∷ claims) outputs (open_transaction (c ∷ d ∷ claims) outputs) (open-of (c ∷ d ∷ claims) unmixed (omega arith)) refl (low_together sound (c ∷ d ∷ claims) h)

-- ---- the inputs

all_spend : ListedAreSound → AcceptedSpend → (claims : List ClaimParts) → AllByRecursion IsWhole claims → AllCanSpend claims
all_spend sound spends [] h = tt
all_spend sound spends (c ∷ claims) h =
    let p = takes sound c h.0 in (record { path = p.path; at = p.at; taken = p.taken; opens = spends c h.0 }, all_spend sound spends claims h.1)

pub fillings_fit : ListedAreSound → AcceptedSpend → FillingsFit
fillings_fit sound spends claims outputs r preimages whole passed fillable =
    all-fit (transaction_for claims outputs) preimages claims (unsigned_of sound claims outputs whole passed.unmixed) (all_spend sound spends claims whole) (have-preimages r preimages (all_slots claims) fillable)
