-- What is true of a plain scenario that passed each test.
use Rattle.std.proofs.Common.{◌≡◌, ◌≤◌, ◌+◌, ℕ, Bool, true, false, not, ◌&&◌, nat_le, cond, List, [], ◌∷◌, length, Option, Some, None, refl}
use Rattle.std.specs.List.{list_all, position_from}
use Rattle.std.proofs.lemmas.Bool.{and_parts, leb-true}
use Rattle.terms.specs.declared.proposals.ProposedTerms.{ProposedTerms}
use Rattle.scenario.specs.declared.events.Event.{Event}
use Rattle.terms.specs.Proposals.{can_agree}
use Rattle.scenario.specs.declared.limits.TheConstants.{MAX_CHANNELS, MAX_EVENTS}
use Rattle.scenario.specs.Testing.{have_few_blocks, is_within_limits}

pub record AreWithin (channels : List ProposedTerms) (events : List Event) : Type 0 where
  pub few_channels : length channels ≤ MAX_CHANNELS
  pub few_events : length events ≤ MAX_EVENTS
  pub few_blocks : have_few_blocks events ≡ true

pub are_within : (channels : List ProposedTerms) (events : List Event) → is_within_limits channels events ≡ true → AreWithin channels events
are_within channels events h =
    let all = and_parts (nat_le (length channels) MAX_CHANNELS && nat_le (length events) MAX_EVENTS) (have_few_blocks events) h in
    let ends = and_parts (nat_le (length channels) MAX_CHANNELS) (nat_le (length events) MAX_EVENTS) all.0 in
    record { few_channels = leb-true (length channels) MAX_CHANNELS ends.0; few_events = leb-true (length events) MAX_EVENTS ends.1; few_blocks = all.1 }

abbrev first_bad_from : ℕ → List ProposedTerms → Option ℕ
first_bad_from i channels = position_from (λ terms. not (can_agree terms)) i channels

pub no_bad_terms : (i : ℕ) (channels : List ProposedTerms) → first_bad_from i channels ≡ None → list_all can_agree channels ≡ true
no_bad_terms i [] h = refl
no_bad_terms i (t ∷ ts) h = go (can_agree t) (no_bad_terms (i + 1) ts) h
  where
    go : (good : Bool) → (first_bad_from (i + 1) ts ≡ None → list_all can_agree ts ≡ true) → cond (not good) (Some i) (first_bad_from (i + 1) ts) ≡ None
        → (good && list_all can_agree ts) ≡ true
    go true rest h = rest h
    go false rest h = absurd (cc)
