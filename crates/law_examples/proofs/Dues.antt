-- What is due on a chain, and when: a claim with an age of 3 blocks, on an output that was granted in the block of height 2.
use Rattle.std.proofs.Common.{◌≡◌, ℕ, ◌≤◌, true, false, List, [], ◌∷◌, Some, None, sym, ap, ◌∙◌, refl, subst, arith}
use Rattle.std.proofs.lemmas.Bool.{false≢true}
use Rattle.std.proofs.lemmas.Option.{same_Some}
use Rattle.std.proofs.lemmas.Slice.Eq.{bytes_eq-Decides}
use Rattle.std.specs.Prelude.{slice_get}
use Rattle.script.specs.Spelling.{spelling}
use Rattle.script.specs.Run.{Clean}
use Rattle.script.specs.Clean.{IsClean}
use Rattle.sighash.specs.Programs.{spend_of, run_of}
use Rattle.tx.specs.declared.input.OutPoint.{OutPoint}
use Rattle.tx.specs.declared.input.TxIn.{TxIn}
use Rattle.tx.specs.Parts.{Output}
use Rattle.tx.specs.Fields.{Transaction}
use Rattle.chain.specs.declared.errors.ChainError.{ChainError}
use Rattle.chain.specs.Blocks.{Contents as Block, Coin, grant_id, grant_outpoint, coin_at}
use Rattle.chain.specs.Locks.{is_old_enough}
use Rattle.chain.specs.Checks.{input_refusal, indexed_refusal}
use Rattle.claim.specs.Claims.{ClaimParts, FitsClaim, IsWhole}
use Rattle.forms.specs.Forms.{to_local_form}
use Rattle.commit.specs.Commitments.{Contents}
use Rattle.penalty.specs.Claimable.{Claimable}
use Rattle.safety.specs.Enforcement.{IsDue, Passes, ClaimsSpend}
use Rattle.world.specs.Taken.{HasWaitedOn}
use Rattle.law_examples.proofs.Samples.{empty}

-- yes: IsDue, by crates/world/proofs/EnforcementExamples.antt: due

module _ (program : List ℕ) (witness : List (List ℕ)) where
  abbrev out : Output
  out = record { value = 1000; script = program }

  abbrev blocks : List Block
  blocks = record { transactions = []; granted = out ∷ [] } ∷ empty ∷ empty ∷ []

  abbrev coin : Coin
  coin = record { output = out; height = 2; spent = false }

  abbrev input : TxIn
  input = record { outpoint = grant_outpoint 0; sequence = 3; witness = witness }

  abbrev spending : ℕ → Transaction
  spending lock_time = record { version = 2; inputs = input ∷ []; outputs = []; lock_time = lock_time }

  there : coin_at blocks (grant_outpoint 0) ≡ Some coin
  there = rw ((bytes_eq-Decides (grant_id 0) (grant_id 0)).1 refl) refl

  module _ (x : ClaimParts) where
    -- a coin that is due is this one
    it_is : (height lock_time : ℕ) (due : IsDue blocks height x (spending lock_time) input) → coin ≡ due.coin
    it_is height lock_time due = same_Some coin due.coin (sym there ∙ due.reached.found)

    -- yes: IsDue
    due_at : FitsClaim x (spending 4) input → x.place.value ≡ 1000 → x.place.program ≡ program → IsDue blocks 5 x (spending 4) input
    due_at f v p = record { fits = f; coin = coin; reached = record { found = there; unspent = refl; final = refl; old_enough = refl }; value = sym v; program = sym p }

    -- the block before its age
    -- no: IsDue
    too_young : (lock_time : ℕ) → IsDue blocks 4 x (spending lock_time) input → ⊥
    too_young lock_time due = false≢true (subst (λ (c : Coin). is_old_enough 4 2 3 c.height ≡ true) (sym (it_is 4 lock_time due)) due.reached.old_enough)

    -- the block of its lock time
    -- no: IsDue
    not_final : IsDue blocks 5 x (spending 5) input → ⊥
    not_final due = false≢true due.reached.final

    -- no: IsDue
    other_value : x.place.value ≡ 1001 → IsDue blocks 5 x (spending 4) input → ⊥
    other_value v due = let e = ap (λ (c : Coin). c.output.value) (it_is 5 4 due) in let f = due.value in omega (arith, v, e, f)

    -- no: IsDue
    no_coin : IsDue (empty ∷ empty ∷ []) 5 x (spending 4) input → ⊥
    no_coin due = let e : None ≡ Some due.coin = due.reached.found in cc

    -- yes: Passes
    passes : ClaimsSpend → IsWhole x → (due : IsDue blocks 5 x (spending 4) input) → Passes blocks 5 x (spending 4) input due
    passes spends w due = spends blocks 5 x (spending 4) input w due

    -- yes: Passes
    passes_by : (due : IsDue blocks 5 x (spending 4) input) → input_refusal blocks 5 (spending 4) input ≡ None
        → ((i : ℕ) → slice_get (spending 4).inputs i ≡ Some input → indexed_refusal blocks 5 (spending 4) (slice_get (spending 4).inputs i) ≡ None)
        → run_of (spending 4) input due.coin.output ≡ Some (Clean due.fits.path.ops due.fits.path.height)
        → IsClean (spend_of (spending 4) input (spelling x.ways.ops) x.place.value) x.ways.ops due.fits.fits.items due.fits.path.ops due.fits.path.height
        → due.fits.path.ops ≤ 201 → due.fits.path.height ≤ 1000 → Passes blocks 5 x (spending 4) input due
    passes_by due p i r c f l = record { passes = p; at_index = i; run = r; clean = c; few = f; low = l }

    -- no: Passes
    past_201 : (due : IsDue blocks 5 x (spending 4) input) → due.fits.path.ops ≡ 202 → Passes blocks 5 x (spending 4) input due → ⊥
    past_201 due e p = let l = p.few in omega (arith, e, l)

    -- no: Passes
    past_1000 : (due : IsDue blocks 5 x (spending 4) input) → due.fits.path.height ≡ 1001 → Passes blocks 5 x (spending 4) input due → ⊥
    past_1000 due e p = let l = p.low in omega (arith, e, l)

    -- no: Passes
    refused : (due : IsDue blocks 5 x (spending 4) input) (e : ChainError) → input_refusal blocks 5 (spending 4) input ≡ Some e → Passes blocks 5 x (spending 4) input due → ⊥
    refused due e r p = let f : None ≡ Some e = sym p.passes ∙ r in cc

  -- ---- after a delay of 3 blocks

  module _ (c : Contents) (o : Claimable) (delay_blocks : c.delay_blocks ≡ 3) (at : o.place.outpoint ≡ grant_outpoint 0) where
    found : coin_at blocks o.place.outpoint ≡ Some coin
    found = subst (λ (p : OutPoint). coin_at blocks p ≡ Some coin) (sym at) there

    -- yes: HasWaitedOn
    waited_on : o.form ≡ to_local_form c.keys.revocation c.delay_blocks c.keys.delayed → HasWaitedOn blocks c o 5
    waited_on form = record { coin = coin; there = found; waited = record { form = form; late = omega (arith, delay_blocks) } }

    -- no: HasWaitedOn
    early_on : HasWaitedOn blocks c o 4 → ⊥
    early_on w =
        let e : 2 ≡ w.coin.height = ap (λ (k : Coin). k.height) (same_Some coin w.coin (sym found ∙ w.there)) in
        let l = w.waited.late in
        omega (arith, delay_blocks, e, l)

    -- no: HasWaitedOn
    on_no_chain : HasWaitedOn [] c o 5 → ⊥
    on_no_chain w = let e : None ≡ Some w.coin = w.there in cc
