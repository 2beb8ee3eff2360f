-- What a book tells of its channels: the funding outputs, and which revoked commitments have no penalties kept.
use Rattle.std.proofs.Common.{◌≡◌, ℕ, List, [], ◌∷◌, map, Option, Some, None, refl, replicate}
use Rattle.std.specs.Prelude.{option_map}
use Rattle.std.proofs.lemmas.Option.{none-some}
use Rattle.penalty.specs.declared.states.RevokedState.{RevokedState}
use Rattle.channel.specs.States.{State}
use Rattle.book.specs.declared.calls.Opening.{Opening}
use Rattle.book.specs.declared.calls.Call.{Call}
use Rattle.book.specs.declared.calls.Call.TheVariants.{Open, Sign, Keep}
use Rattle.book.specs.declared.calls.Entry.{Entry}
use Rattle.book.specs.Refusals.{keep_error_number}
use Rattle.book.specs.Books.{ChannelBook, replay, fundings_of}
use Rattle.book.specs.Revoked.{early_keep_refusal, IsRevokedIn}

abbrev entry : Call → Entry
entry call = record { seat = 0; call = call }

-- in the order of the openings, whatever came between them
module _ (first second : Opening) where
  fundings : (fundings_of (replay []) ≡ [])
      × (fundings_of (replay (entry (Open first) ∷ entry (Sign 0) ∷ entry (Open second) ∷ entry (Keep 1 0 []) ∷ [])) ≡ first.terms.funding ∷ second.terms.funding ∷ [])
  fundings = (refl, refl)

-- a channel with two revoked commitments; `kept` are the numbers whose penalties are kept
abbrev channel : State → List ℕ → ChannelBook
channel s kept = record { state = record s { secrets = replicate 32 7 ∷ replicate 32 8 ∷ [] }; kept = kept; closed = None }

abbrev refusal : State → List ℕ → ℕ → Option ℕ
refusal s kept n = option_map keep_error_number (early_keep_refusal n (Some (channel s kept)))

-- no channel, a number that is not revoked, and a number that is kept; keeping another number changes nothing
refusals : (s : State) →
    (map (λ n. option_map keep_error_number (early_keep_refusal n None)) (0 ∷ 5 ∷ []) ≡ Some 9 ∷ Some 9 ∷ [])
    × (map (refusal s []) (0 ∷ 1 ∷ 2 ∷ 3 ∷ []) ≡ None ∷ None ∷ Some 1 ∷ Some 1 ∷ [])
    × (map (refusal s (1 ∷ [])) (0 ∷ 1 ∷ 2 ∷ []) ≡ None ∷ Some 3 ∷ Some 1 ∷ [])
    × (map (refusal s (0 ∷ 2 ∷ [])) (0 ∷ 1 ∷ 2 ∷ []) ≡ Some 3 ∷ None ∷ Some 1 ∷ [])
refusals s = (refl, refl, refl, refl)

-- nothing is told without a channel
no_channel : (state : RevokedState) → IsRevokedIn 0 None state → ⊥
no_channel state is = none-some is.ch is.there
