-- What becomes of the events of the chain, one after the other.
use Rattle.std.proofs.Common.{◌≡◌, ℕ, suc, ◌+◌, ◌<◌, ◌≤◌, List, [], ◌∷◌, ◌++◌, length, drop, get_or, Option, sym, ap, ◌∙◌, subst, append_assoc, add-one, drop-cons}
use Rattle.std.proofs.lemmas.List.{drop_all, append-nil}
use Rattle.scenario.specs.declared.events.Event.{Event}
use Rattle.desk.specs.Histories.{History, GoesOn}
use Rattle.desk.specs.Seats.{last_in}
use Rattle.world.specs.declared.errors.EventError.{EventError}
use Rattle.running.specs.declared.chain_thread.ChainThread.{ChainThread}
use Rattle.running.specs.Outcomes.{IsOutcome, PlaysChain, HasSeen}

-- whatever follows from here follows from the first histories
abbrev pub PlaysOnFrom : List Event → ℕ → History → History → History → History → List (Option EventError) → Type 0
PlaysOnFrom es i a b x y outcomes = (more : List (Option EventError)) (after_a after_b : History) → PlaysChain (drop i es) x y more after_a after_b → PlaysChain es a b (outcomes ++ more) after_a after_b

pub chain_first : (es : List Event) (a b : History) (none : List (Option EventError)) → none ≡ [] → PlaysOnFrom es 0 a b a b none
chain_first es a b none is more after_a after_b all = subst (λ (l : List (Option EventError)). PlaysChain es a b (l ++ more) after_a after_b) (sym is) all

pub chain_next : (es : List Event) (i : ℕ) (d e : Event) (a b x y next_a next_b : History) (o : Option EventError) (outcomes now : List (Option EventError)) → i < length es → e ≡ get_or es i d → GoesOn x next_a
    → GoesOn y next_b → IsOutcome e next_a next_b o → now ≡ outcomes ++ o ∷ [] → PlaysOnFrom es i a b x y outcomes → PlaysOnFrom es (i + 1) a b next_a next_b now
chain_next es i d e a b x y next_a next_b o outcomes now low is since_a since_b one pushed was more after_a after_b rest =
    let here : drop i es ≡ e ∷ drop (i + 1) es =
    drop-cons es i d low ∙ ap (λ (z : Event). z ∷ drop (suc i) es) (sym is) ∙ ap (λ (n : ℕ). e ∷ drop n es) (sym (add-one i)) in
    let step : PlaysChain (drop i es) x y (o ∷ more) after_a after_b =
    subst (λ (zs : List Event). PlaysChain zs x y (o ∷ more) after_a after_b) (sym here)
    (PlaysChain.played e (drop (i + 1) es) x y next_a next_b after_a after_b o more since_a since_b one rest) in
    let same : outcomes ++ o ∷ more ≡ now ++ more = sym (append_assoc outcomes (o ∷ []) more) ∙ ap (λ (l : List (Option EventError)). l ++ more) (sym pushed) in
    subst (λ (l : List (Option EventError)). PlaysChain es a b l after_a after_b) same (was (o ∷ more) after_a after_b step)

pub chain_done : (es : List Event) (i : ℕ) (a b x y : History) (outcomes : List (Option EventError)) → length es ≤ i → PlaysOnFrom es i a b x y outcomes → PlaysChain es a b outcomes x y
chain_done es i a b x y outcomes past was =
    let last : PlaysChain (drop i es) x y [] x y = subst (λ (zs : List Event). PlaysChain zs x y [] x y) (sym (drop_all i es past)) (PlaysChain.none_left x y) in
    subst (λ (l : List (Option EventError)). PlaysChain es a b l x y) (append-nil outcomes) (was [] x y last)

-- what a thread played that has last seen these histories
pub chain_from : (es : List Event) (a b x y : History) (outcomes : List (Option EventError)) (p : ChainThread) → HasSeen a b p → PlaysChain es (last_in p.a) (last_in p.b) outcomes x y → PlaysChain es a b outcomes x y
chain_from es a b x y outcomes p seen plays =
    subst (λ (h : History). PlaysChain es a h outcomes x y) seen.b_last (subst (λ (h : History). PlaysChain es h (last_in p.b) outcomes x y) seen.a_last plays)
