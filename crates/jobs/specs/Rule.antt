-- The rule of the queue of jobs: first in, first out, and no job lost or duplicated.
use Rattle.std.specs.Prelude.{◌≡◌, ℕ, ◌+◌, ◌-◌, ◌^◌, ◌≤◌, ◌==◌, List, [], ◌++◌, length, map, filter, sum_by, IsPermutation}
use Rattle.std.specs.List.{flat_map}
use mathlib.Core.Option.{some}
use lib.ListN.{get_elem?}
use Rattle.jobs.specs.declared.rule.Hand.{Hand}

module _ {J : Type 0} where
  abbrev pub hand : ℕ → List J → List J → Hand J
  hand halvings put taken = record { halvings = halvings; put = put; taken = taken }

  -- a pass that has put and taken nothing
  abbrev pub idle : ℕ → Hand J
  idle halvings = hand halvings [] []

  -- Each pass has a share of the queue, which is 1 / 2^halvings of the whole. The first pass has the whole. Where a pass makes another, each of the two has half of
  -- what it had.
  abbrev pub halved : Hand J → Hand J
  halved v = hand (v.halvings + 1) v.put v.taken

  abbrev pub other_half : Hand J → Hand J
  other_half v = idle (v.halvings + 1)

  -- The shares of these passes are the whole queue, in parts of 1 / 2^most. So where the shares of some passes are the whole queue, there is no other pass.
  pub record HoldAllShares (views : List (Hand J)) : Type 0 where
    pub most : ℕ
    pub few : (pass : ℕ) (v : Hand J) → get_elem? views pass ≡ some v → v.halvings ≤ most
    pub whole : sum_by (λ v. 2 ^ (most - v.halvings)) views ≡ 2 ^ most

  -- the jobs that all passes put, and those that they took
  abbrev pub put_by_all : List (Hand J) → List J
  put_by_all views = flat_map (λ v. v.put) views

  abbrev pub taken_by_all : List (Hand J) → List J
  taken_by_all views = flat_map (λ v. v.taken) views

-- jobs in the order of their steps, each with the number of the pass that made the step
abbrev pub Log : Type 0 → Type 0
Log J = List (ℕ × J)

module _ {J : Type 0} where
  abbrev pub jobs_of : Log J → List J
  jobs_of log = map (λ s. s.1) log

  -- the jobs of one pass
  abbrev pub by_pass : ℕ → Log J → List J
  by_pass pass log = map (λ s. s.1) (filter (λ s. s.0 == pass) log)

  -- The jobs that were put are those that were taken, followed by those in the queue, in order: first
  -- in, first out. Each view has the puts and the takes of its pass, and there are no others. The jobs
  -- that all passes put are those that they took and those in the queue, with the same multiplicity.
  -- The passes hold all shares.
  pub record IsFair (items : List J) (views : List (Hand J)) : Type 0 where
    pub puts : Log J
    pub takes : Log J
    pub in_order : jobs_of puts ≡ jobs_of takes ++ items
    pub each : (pass : ℕ) (v : Hand J) → get_elem? views pass ≡ some v → (v.put ≡ by_pass pass puts) × (v.taken ≡ by_pass pass takes)
    pub no_others : (pass : ℕ) → length views ≤ pass → (by_pass pass puts ≡ []) × (by_pass pass takes ≡ [])
    pub balanced : IsPermutation (put_by_all views) (taken_by_all views ++ items)
    pub shares : HoldAllShares views
