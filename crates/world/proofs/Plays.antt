-- A run with one more event.
use Rattle.std.proofs.Common.{◌≡◌, ℕ, ◌+◌, ◌<◌, ◌≤◌, cond, List, [], ◌∷◌, ◌++◌, length, take, get_or, Result, Ok, Err, sym, subst}
use Rattle.std.specs.Prelude.{is_ok}
use Rattle.std.proofs.lemmas.List.{take_more, take_all}
use Rattle.scenario.specs.declared.events.Event.{Event}
use Rattle.world.specs.declared.outcomes.Outcome.{Outcome}
use Rattle.world.specs.Worlds.{World}
use Rattle.world.specs.Steps.{WorldSteps, Runs, ends, goes_on}
use Rattle.world.specs.Theorem.{HoldsAt, IsPlay}
use Rattle.world.proofs.Whole.{all_append}

run_on : (w v u : World) (es : List Event) (os : List Outcome) (moments : List World) (e : Event) (o : Outcome) → Runs w es os moments v → WorldSteps v e u o
    → Runs w (es ++ e ∷ []) (os ++ o ∷ []) (moments ++ u ∷ []) u
run_on w v u es os moments e o ends step = goes_on step ends
run_on w v u es os moments e o (goes_on first rest) step = goes_on first (run_on _ v u _ _ _ e o rest step)

-- no event yet
pub not_begun : (w : World) → HoldsAt w → IsPlay w [] [] w
not_begun w holds = record { moments = w ∷ []; runs = ends; holds = (holds, tt) }

-- one more event
play_on : (w v u : World) (es : List Event) (os : List Outcome) (e : Event) (o : Outcome) → IsPlay w es os v → WorldSteps v e u o → HoldsAt u → IsPlay w (es ++ e ∷ []) (os ++ o ∷ []) u
play_on w v u es os e o play step holds = record {
  moments = play.moments ++ u ∷ [];
  runs = run_on w v u es os play.moments e o play.runs step;
  holds = all_append HoldsAt play.moments (u ∷ []) play.holds (holds, tt);
}

pub play_next : (w v u : World) (es : List Event) (done new : List Outcome) (i : ℕ) (e : Event) (o : Outcome) → i < length es → IsPlay w (take i es) done v → WorldSteps v (get_or es i e) u o → HoldsAt u
    → new ≡ done ++ o ∷ [] → IsPlay w (take (i + 1) es) new u
play_next w v u es done new i e o within play step holds is =
    subst (λ os. IsPlay w (take (i + 1) es) os u) (sym is)
    (subst (λ xs. IsPlay w xs (done ++ o ∷ []) u) (sym (take_more es i e within))
    (play_on w v u (take i es) done (get_or es i e) o play step holds))

-- all events are played
pub all_played : (w v : World) (es : List Event) (done : List Outcome) (i : ℕ) → length es ≤ i → IsPlay w (take i es) done v → IsPlay w es done v
all_played w v es done i whole play = subst (λ xs. IsPlay w xs done v) (take_all i es whole) play

-- a push that succeeds
pub pushed : {T E X : Type 0} (r : Result T E) (x : T) (items a b : X) → r ≡ Ok x → items ≡ cond (is_ok r) a b → items ≡ a
pushed (Ok y) x items a b e h = h
pushed (Err y) x items a b e h = absurd cc
