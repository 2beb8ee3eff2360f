-- Claims: which item fills a slot, which transaction stands round a claim, which input fits it, and which claims are on an output.
use Rattle.std.proofs.Common.{◌≡◌, ℕ, zero, suc, Bool, true, false, List, [], ◌∷◌, length, Some, All, Ok, Err, Result, sym, ap, ◌∙◌, refl, arith, lit≤, lit<}
use Rattle.std.specs.Prelude.{is_ok}
use Rattle.std.proofs.lemmas.Bool.{false≢true}
use Rattle.script.specs.declared.opcode.Op.{Op}
use Rattle.script.specs.declared.spending.Spend.{Spend}
use Rattle.script.specs.Spelling.{IsOp, spelling}
use Rattle.tx.specs.declared.input.OutPoint.{OutPoint}
use Rattle.tx.specs.declared.input.TxIn.{TxIn}
use Rattle.tx.specs.Parts.{Output}
use Rattle.tx.specs.Fields.{Transaction}
use Rattle.paths.specs.declared.state.Path.{Path}
use Rattle.paths.specs.declared.errors.CheckError.{CheckError}
use Rattle.paths.specs.Listing.{listing}
use Rattle.claim.specs.declared.errors.AcceptError.{AcceptError}
use Rattle.claim.specs.declared.parts.Place.{Place}
use Rattle.claim.specs.declared.parts.Slot.{Slot}
use Rattle.claim.specs.declared.parts.Slot.TheVariants.{Exact}
use Rattle.claim.specs.declared.parts.Shell.TheVariants.{Open}
use Rattle.claim.specs.Judgement.{judgement_of}
use Rattle.claim.specs.Fitting.{FillsSlots, StandsRound, Fits}
use Rattle.claim.specs.Claims.{ClaimParts, TakesPath, IsAccepted, FitsClaim, IsWhole}
use Rattle.filling.specs.Filled.{AllFit}
use Rattle.penalty.specs.Claimable.{Claimable}
use Rattle.penalty.specs.Covering.{IsClaimedAt}
use Rattle.penalty.specs.Sets.{claimed_by, IsClaimOn, AreClaimsOn}

-- yes: FillsSlot, by crates/claim/proofs/JudgementExamples.antt: preimage
-- no: FillsSlot, by crates/claim/proofs/JudgementExamples.antt: no_long_preimage
-- yes: StandsRound, by crates/claim/proofs/JudgementExamples.antt: fixed_stands
-- no: StandsRound, by crates/claim/proofs/JudgementExamples.antt: no_other_stands
-- yes: Fits, by crates/claim/proofs/JudgementExamples.antt: top_first
-- yes: TakesPath, by crates/world/proofs/EnforcementExamples.antt: taken
-- yes: IsWhole, by crates/world/proofs/EnforcementExamples.antt: whole
-- yes: AllFit, by crates/world/proofs/EnforcementExamples.antt: its_inputs_fit

-- ---- slots

abbrev one : Slot
one = Exact (record { item = 1 ∷ []; short = lit≤ tt })

abbrev empty : Slot
empty = Exact (record { item = []; short = lit≤ tt })

-- the first item fills the first slot
-- yes: FillsSlots
filled : (spend : Spend) → FillsSlots spend (one ∷ empty ∷ []) ((1 ∷ []) ∷ [] ∷ [])
filled spend = (refl, (refl, tt))

-- no: FillsSlots
swapped : (spend : Spend) → FillsSlots spend (one ∷ empty ∷ []) ([] ∷ (1 ∷ []) ∷ []) → ⊥
swapped spend f = let e = ap length f.0 in omega (arith, e)

-- no: FillsSlots
item_missing : (spend : Spend) → FillsSlots spend (one ∷ empty ∷ []) ((1 ∷ []) ∷ []) → ⊥
item_missing spend f = f.1

-- no: FillsSlots
item_more : (spend : Spend) → FillsSlots spend (one ∷ []) ((1 ∷ []) ∷ [] ∷ []) → ⊥
item_more spend f = f.1

-- ---- what stands round a claim

-- a path with a lock time and an age
abbrev locked : Path
locked = record { arity = 1; facts = []; ops = 3; height = 2; lock = Some 500; age = Some 144 }

module _ (inputs : List TxIn) (outputs : List Output) where
  abbrev tx : ℕ → ℕ → Transaction
  tx version lock_time = record { version = version; inputs = inputs; outputs = outputs; lock_time = lock_time }

  -- yes: StandsRound
  at_its_height : StandsRound locked Open (tx 2 500)
  at_its_height = (refl, lit≤ tt, lit< tt)

  -- yes: StandsRound
  last_height : StandsRound locked Open (tx 2 499999999)
  last_height = (refl, lit≤ tt, lit< tt)

  -- no: StandsRound
  below_its_height : StandsRound locked Open (tx 2 499) → ⊥
  below_its_height s = let l = s.1 in omega (arith, l)

  -- no: StandsRound
  at_a_time : StandsRound locked Open (tx 2 500000000) → ⊥
  at_a_time s = let l = s.2 in omega (arith, l)

  -- no: StandsRound
  first_version : StandsRound locked Open (tx 1 500) → ⊥
  first_version s = let e = s.0 in omega (arith, e)

-- ---- what fits

module _ (script txid : List ℕ) (program : List ℕ) (slots : List Slot) (t : Transaction) (witness : List (List ℕ)) where
  abbrev place : Place
  place = record { outpoint = record { txid = txid; index = 7 }; value = 1000; program = program }

  abbrev input : ℕ → ℕ → TxIn
  input index sequence = record { outpoint = record { txid = txid; index = index }; sequence = sequence; witness = witness }

  -- no: Fits
  other_sequence : Fits script locked slots place Open t (input 7 145) → ⊥
  other_sequence f = let e = f.sequence in omega (arith, e)

  -- no: Fits
  other_index : Fits script locked slots place Open t (input 8 144) → ⊥
  other_index f = let e = ap (λ (o : OutPoint). o.index) f.outpoint in omega (arith, e)

  -- no: Fits
  first_lock : t.lock_time ≡ 499 → Fits script locked slots place Open t (input 7 144) → ⊥
  first_lock e f = let l = f.stands.1 in omega (arith, e, l)

-- ---- accepted claims

abbrev paths_in : Result (List Path) CheckError → ℕ
paths_in (Ok ps) = length ps
paths_in (Err e) = 0

abbrev taken_by : Result Path AcceptError → Bool
taken_by (Ok p) = true
taken_by (Err e) = false

module _ (ops : List Op) (paths : List Path) (slots : List Slot) (place : Place) where
  abbrev claim_at : ℕ → ClaimParts
  claim_at index = record { ways = record { ops = ops; paths = paths }; index = index; slots = slots; place = place; shell = Open }

  -- past the last path there is none
  -- no: TakesPath
  no_path : (p : Path) → TakesPath (record (claim_at 0) { ways = record { ops = ops; paths = [] } }) p → ⊥
  unfolding judgement_of
  no_path p t = false≢true (ap taken_by t)

  -- yes: IsAccepted
  accepted : (index : ℕ) (p : Path) → TakesPath (claim_at index) p → IsAccepted (claim_at index)
  accepted index p t = ap is_ok t

  -- no: IsAccepted
  not_accepted : IsAccepted (record (claim_at 0) { ways = record { ops = ops; paths = [] } }) → ⊥
  unfolding judgement_of
  not_accepted a = false≢true a

  module _ (t : Transaction) (input : TxIn) where
    -- yes: FitsClaim
    fits : (index : ℕ) (p : Path) → TakesPath (claim_at index) p → Fits (spelling ops) p slots place Open t input → FitsClaim (claim_at index) t input
    fits index p took f = record { path = p; taken = took; fits = f }

    -- no: FitsClaim
    fits_no_path : FitsClaim (record (claim_at 0) { ways = record { ops = ops; paths = [] } }) t input → ⊥
    fits_no_path f = no_path f.path f.taken

    -- no: FitsClaim
    fits_elsewhere : place.outpoint.index ≡ 7 → input.outpoint.index ≡ 8 → FitsClaim (claim_at 0) t input → ⊥
    fits_elsewhere e g f = let h = ap (λ (o : OutPoint). o.index) f.fits.outpoint in omega (arith, e, g, h)

    -- no: AllFit
    one_claim_more : AllFit t (claim_at 0 ∷ []) [] → ⊥
    one_claim_more a = a

    -- no: AllFit
    one_input_more : FitsClaim (claim_at 0) t input → AllFit t (claim_at 0 ∷ []) (input ∷ input ∷ []) → ⊥
    one_input_more f a = a.1

  -- no: IsWhole
  too_long : length (spelling ops) ≡ 10001 → IsWhole (claim_at 0) → ⊥
  too_long e w = let l = w.short in omega (arith, e, l)

  -- no: IsWhole
  unaccepted : (IsAccepted (claim_at 0) → ⊥) → IsWhole (claim_at 0) → ⊥
  unaccepted n w = n w.accepted

  -- no: IsWhole
  no_opcodes : (All IsOp ops → ⊥) → IsWhole (claim_at 0) → ⊥
  no_opcodes n w = n w.ops

  -- no: IsWhole
  unlisted : listing ops ≡ Ok [] → paths ≡ locked ∷ [] → IsWhole (claim_at 0) → ⊥
  unlisted e f w = let n = ap paths_in (sym e ∙ w.listed ∙ ap Ok f) in omega (arith, n)

  -- ---- claims on outputs

  -- yes: IsClaimOn
  on_output : (index : ℕ) → IsAccepted (claim_at index) → IsClaimOn (claimed_by (claim_at index)) (claim_at index)
  on_output index a = record { exact = refl; accepted = a }

  -- no: IsClaimOn
  by_another_path : IsClaimOn (claimed_by (claim_at 1)) (claim_at 0) → ⊥
  by_another_path c = let e = ap (λ (o : Claimable). o.path) c.exact in omega (arith, e)

  -- yes: AreClaimsOn
  on_outputs : IsAccepted (claim_at 0) → IsAccepted (claim_at 1) → AreClaimsOn (claimed_by (claim_at 0) ∷ claimed_by (claim_at 1) ∷ []) (claim_at 0 ∷ claim_at 1 ∷ [])
  on_outputs a b = (record { exact = refl; accepted = a }, (record { exact = refl; accepted = b }, tt))

  -- no: AreClaimsOn
  in_other_order : AreClaimsOn (claimed_by (claim_at 0) ∷ claimed_by (claim_at 1) ∷ []) (claim_at 1 ∷ claim_at 0 ∷ []) → ⊥
  in_other_order a = let e = ap (λ (o : Claimable). o.path) a.0.exact in omega (arith, e)

  -- no: AreClaimsOn
  one_left_out : AreClaimsOn (claimed_by (claim_at 0) ∷ claimed_by (claim_at 1) ∷ []) (claim_at 0 ∷ []) → ⊥
  one_left_out a = a.1

module _ (o p : Claimable) where
  -- yes: IsClaimedAt
  second_at : IsClaimedAt (o ∷ p ∷ []) p.place
  second_at = (p, (1, lit< tt, refl), refl)

  -- no: IsClaimedAt
  none_at : (place : Place) → IsClaimedAt [] place → ⊥
  none_at place c = let l = c.1.1 in omega (arith, l)

  -- no: IsClaimedAt
  other_value : (place : Place) → o.place.value ≡ 7 → place.value ≡ 8 → IsClaimedAt (o ∷ []) place → ⊥
  other_value place e f (q, (zero, l, g), h) = let a = ap (λ (x : Claimable). x.place.value) g in let b = ap (λ (x : Place). x.value) h in omega (arith, e, f, a, b)
  other_value place e f (q, (suc k, l, g), h) = omega (arith, l)
