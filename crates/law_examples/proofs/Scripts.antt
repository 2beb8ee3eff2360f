-- Blocks, jumps and runs of small scripts, and what is none of them.
use Rattle.std.proofs.Common.{◌≡◌, ℕ, ◌+◌, ◌≤◌, Bool, true, false, List, [], ◌∷◌, ◌++◌, drop, length, IsTrue, ◌⊎◌, sym, ap, ◌∙◌, refl, subst, inl, inr, arith, length-append}
use Rattle.std.proofs.lemmas.Bool.{true≢false, false≢true}
use Rattle.script.specs.declared.opcode.Op.{Op}
use Rattle.script.specs.declared.opcode.Op.TheVariants.{Number, If, Else, EndIf, Dup}
use Rattle.script.specs.declared.jumps.Jump.{Jump}
use Rattle.script.specs.declared.jumps.Jump.TheVariants.{Next, AfterElse}
use Rattle.script.specs.declared.spending.Spend.{Spend}
use Rattle.script.specs.declared.stops.Cause.TheVariants.{NotOneValue}
use Rattle.script.specs.Step.{effect}
use Rattle.script.specs.Run.{Outcome, Clean, Stopped, state_after}
use Rattle.script.specs.Clean.{is_opener, is_single, IsBlock, no_more, one_more, an_else, a_branch, LeadsAfter, Jumps, onward, after_else, after_endif_for_else, to_list_end_for_else, after_endif, to_list_end, JumpIsExact, Point, point_with, start_on, Steps, Chain, ends, goes_on, RunsTo, HasOpen, MayFollow, IsClean, CleanIsExact}

-- yes: Jumps, by crates/script/proofs/Examples.antt: inner_else
-- yes: MayFollow, by crates/script/proofs/Examples.antt: else_follows
-- yes: IsClean, by crates/script/proofs/Examples.antt: delayed_clean

-- ---- blocks

-- how a block begins: with an opcode that has no partner, with an opener that something follows, or with an ELSE where one may occur
abbrev Starts : Bool → List Op → Type 0
Starts elses [] = Unit {0}
Starts elses (op ∷ ops) = (is_single op ≡ true) ⊎ (((is_opener op ≡ true) × (1 ≤ length ops)) ⊎ ((elses ≡ true) × (is_single op ≡ false) × (is_opener op ≡ false) × (op ≡ Else)))

starts_msat : {elses : Bool} {ops : List Op} → IsBlock elses ops → Starts elses ops
starts_msat no_more = tt
starts_msat (one_more s b) = inl s
starts_msat (an_else b) = inr (inr (refl, refl, refl, refl))
starts_msat (a_branch {elses} {op} {inner} {rest} o b c) = inr (inl (o, let l = length-append inner (EndIf ∷ rest) in omega (arith, l)))

-- yes: IsBlock
one_else : IsBlock true (Number 1 ∷ Else ∷ [])
one_else = one_more refl (an_else no_more)

-- no: IsBlock
no_else : IsBlock false (Else ∷ []) → ⊥
no_else b = by (starts_msat b)
  where
    by : Starts false (Else ∷ []) → ⊥
    by (inl s) = false≢true s
    by (inr (inl o)) = false≢true o.0
    by (inr (inr e)) = false≢true e.0

abbrev is_else : Op → Bool
is_else Else = true
is_else op = false

-- no: IsBlock
no_end : IsBlock true (EndIf ∷ []) → ⊥
no_end b = by (starts_msat b)
  where
    by : Starts true (EndIf ∷ []) → ⊥
    by (inl s) = false≢true s
    by (inr (inl o)) = false≢true o.0
    by (inr (inr e)) = false≢true (ap is_else e.3)

-- no: IsBlock
left_open : IsBlock true (If ∷ []) → ⊥
left_open b = by (starts_msat b)
  where
    by : Starts true (If ∷ []) → ⊥
    by (inl s) = false≢true s
    by (inr (inl o)) = let l = o.1 in omega (arith, l)
    by (inr (inr e)) = true≢false e.2

-- yes: LeadsAfter
leads : LeadsAfter false Else (Number 1 ∷ Else ∷ EndIf ∷ []) 2
leads = record { block = Number 1 ∷ []; after = EndIf ∷ []; same = refl; closed = one_more refl no_more; place = refl }

abbrev begins_single : List Op → Bool
begins_single [] = true
begins_single (op ∷ ops) = is_single op

-- no: LeadsAfter
leads_early : LeadsAfter false Else (Number 1 ∷ Else ∷ EndIf ∷ []) 1 → ⊥
leads_early l = by l.block l.after l.same l.place
  where
    by : (block after : List Op) → Number 1 ∷ Else ∷ EndIf ∷ [] ≡ block ++ Else ∷ after → 1 ≡ length block + 1 → ⊥
    by [] after e p = true≢false (ap begins_single e)
    by (x ∷ xs) after e p = omega (arith, p)

abbrev Over : Jump → ℕ → Type 0
Over Next n = n ≡ 0
Over move n = Unit {0}

-- no: Jumps
jumps_one : Jumps (Number 1 ∷ EndIf ∷ []) Next 1 → ⊥
jumps_one j = let e : 1 ≡ 0 = over j in omega (arith, e)
  where
    over : {rest : List Op} {move : Jump} {n : ℕ} → Jumps rest move n → Over move n
    over onward = refl
    over (after_else l) = tt
    over (after_endif_for_else l) = tt
    over (to_list_end_for_else f g) = tt
    over (after_endif l) = tt
    over (to_list_end f) = tt

-- an IF without ELSE: past the ENDIF, and not on it
-- no: Jumps
jumps_short : JumpIsExact → Jumps (Number 1 ∷ EndIf ∷ Else ∷ []) AfterElse 1 → ⊥
jumps_short exact j = let e : 1 ≡ 2 = (exact (Number 1 ∷ EndIf ∷ Else ∷ []) AfterElse 1).0 j in omega (arith, e)

-- yes: HasOpen
open_if : HasOpen true (Number 1 ∷ If ∷ Else ∷ [])
open_if = record { before = Number 1 ∷ []; opener = If; block = Else ∷ []; same = refl; opens = refl; closed = an_else no_more }

abbrev opens_second : List Op → Bool
opens_second (x ∷ y ∷ ops) = is_opener y
opens_second ops = false

-- no: HasOpen
all_closed : HasOpen true (If ∷ EndIf ∷ []) → ⊥
all_closed h = by h.before h.opener h.block h.same h.opens h.closed
  where
    by : (before : List Op) (opener : Op) (block : List Op) → If ∷ EndIf ∷ [] ≡ before ++ opener ∷ block → IsTrue (is_opener opener) → IsBlock true block → ⊥
    by [] opener block e o b = no_end (subst (IsBlock true) (sym (ap (drop 1) e)) b)
    by (x ∷ []) opener block e o b = false≢true (ap opens_second e ∙ o)
    by (x ∷ y ∷ before) opener block e o b = let l = ap length e in let m = length-append before (opener ∷ block) in omega (arith, l, m)

-- no: HasOpen
nothing_open : HasOpen true [] → ⊥
nothing_open h = let l = ap length h.same in let m = length-append h.before (h.opener ∷ h.block) in omega (arith, l, m)

-- no: MayFollow
stray_end : MayFollow [] EndIf → ⊥
stray_end h = nothing_open h

-- a second ELSE of one IF
-- no: MayFollow
stray_else : MayFollow (If ∷ Else ∷ []) Else → ⊥
stray_else h = by h.before h.opener h.block h.same h.opens h.closed
  where
    by : (before : List Op) (opener : Op) (block : List Op) → If ∷ Else ∷ [] ≡ before ++ opener ∷ block → IsTrue (is_opener opener) → IsBlock false block → ⊥
    by [] opener block e o b = no_else (subst (IsBlock false) (sym (ap (drop 1) e)) b)
    by (x ∷ []) opener block e o b = false≢true (ap opens_second e ∙ o)
    by (x ∷ y ∷ before) opener block e o b = let l = ap length e in let m = length-append before (opener ∷ block) in omega (arith, l, m)

-- ---- runs

abbrev stops : Outcome → Bool
stops (Stopped at cause) = true
stops (Clean counted height) = false

module _ (spend : Spend) (item : List ℕ) where
  -- yes: Steps
  doubles : Steps spend (Dup ∷ []) (point_with 0 (item ∷ []) 0 1) (point_with 1 (item ∷ item ∷ []) 0 2)
  unfolding effect
  doubles = record { op = Dup; rest = []; here = refl; done = record { jump = Next; stack = item ∷ item ∷ []; keys = 0 }; does = refl; over = 0; jumps = onward; leads = refl }

  -- a step goes on
  -- no: Steps
  stands_still : Steps spend (Dup ∷ []) (point_with 0 (item ∷ []) 0 1) (point_with 0 (item ∷ item ∷ []) 0 2) → ⊥
  stands_still s = let e = ap (λ (p : Point). p.at) s.leads in omega (arith, e)

  -- no: Steps
  past_the_end : Steps spend [] (point_with 0 (item ∷ []) 0 1) (point_with 1 (item ∷ []) 0 1) → ⊥
  past_the_end s = let l = ap length s.here in omega (arith, l)

  -- yes: Chain
  one_step : Chain spend (Dup ∷ []) 1 (point_with 0 (item ∷ []) 0 1) (point_with 1 (item ∷ item ∷ []) 0 2)
  unfolding effect
  one_step =
      goes_on (omega arith)
      (record { op = Dup; rest = []; here = refl; done = record { jump = Next; stack = item ∷ item ∷ []; keys = 0 }; does = refl; over = 0; jumps = onward; leads = refl })
      (omega arith) ends

  -- no step begins at position 0 or later
  -- no: Chain
  begins_late : Chain spend (Dup ∷ []) 0 (point_with 0 (item ∷ []) 0 1) (point_with 1 (item ∷ item ∷ []) 0 2) → ⊥
  begins_late c = let e : 0 ≡ 1 = ap (λ (p : Point). p.at) (stays c) in omega (arith, e)
    where
      stays : {x y : Point} → Chain spend (Dup ∷ []) 0 x y → x ≡ y
      stays ends = refl
      stays (goes_on l s h c) = absurd (omega (arith, l))

  -- yes: RunsTo
  at_the_start : RunsTo spend (Dup ∷ []) (item ∷ []) 0 (start_on (item ∷ []))
  at_the_start = record { chain = ends; reached = omega arith }

  -- no: RunsTo
  before_the_end : RunsTo spend (Dup ∷ []) (item ∷ []) 1 (start_on (item ∷ [])) → ⊥
  before_the_end r = let l = r.reached in omega (arith, l)

  -- no: IsClean
  past_201 : (ops : List Op) (witness : List (List ℕ)) (height : ℕ) → IsClean spend ops witness 202 height → ⊥
  past_201 ops witness height c = let l = c.limit in omega (arith, l)

  -- two values are left
  -- no: IsClean
  two_values : CleanIsExact → IsClean spend [] ((1 ∷ []) ∷ (1 ∷ []) ∷ []) 0 2 → ⊥
  unfolding state_after effect
  two_values exact c =
      let e : Stopped 0 NotOneValue ≡ Clean 0 2 = (exact spend [] ((1 ∷ []) ∷ (1 ∷ []) ∷ []) 0 2).1 c in
      absurd (true≢false (ap stops e))
