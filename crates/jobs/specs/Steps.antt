-- What a put and a take do, at one moment of the call.
use Rattle.std.specs.Prelude.{◌≡◌, ℕ, ◌<◌, List, [], ◌∷◌, ◌++◌, length, slice_set}
use mathlib.Core.Option.{some}
use lib.ListN.{get_elem?}
use Rattle.jobs.specs.declared.rule.Hand.{Hand}
use Rattle.jobs.specs.Rule.{hand, IsFair}

module _ {J : Type 0} where
  -- the job is added at the back, where fewer than 64 stood
  pub record IsPut (v : Hand J) (job : J) (w : Hand J) : Type 0 where
    pub pass : ℕ
    pub items : List J
    pub views : List (Hand J)
    pub before : IsFair items views
    pub here : get_elem? views pass ≡ some v
    pub room : length items < 64
    pub after : IsFair (items ++ job ∷ []) (slice_set views pass w)
    pub added : w ≡ hand v.halvings (v.put ++ job ∷ []) v.taken

  -- the job is taken from the front
  pub record IsTake (v : Hand J) (job : J) (w : Hand J) : Type 0 where
    pub pass : ℕ
    pub items : List J
    pub views : List (Hand J)
    pub before : IsFair (job ∷ items) views
    pub here : get_elem? views pass ≡ some v
    pub after : IsFair items (slice_set views pass w)
    pub added : w ≡ hand v.halvings v.put (v.taken ++ job ∷ [])

  -- the rule held with these jobs in the queue, for a pass with this view; the other passes may be made up
  pub record HeldThen (v : Hand J) (items : List J) : Type 0 where
    pub pass : ℕ
    pub views : List (Hand J)
    pub rule : IsFair items views
    pub here : get_elem? views pass ≡ some v

  abbrev pub WasEmpty : Hand J → Type 0
  WasEmpty v = HeldThen v []
