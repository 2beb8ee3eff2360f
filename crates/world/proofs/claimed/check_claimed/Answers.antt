use Rattle.std.proofs.Common.{◌≡◌, Option, None, refl}
use Rattle.std.specs.Prelude.{Result, Ok, Err, MatchResult, ⊤}
use Rattle.chain.specs.declared.errors.ChainError.{ChainError}
use Rattle.chain.specs.declared.errors.ChainError.TheVariants.{NoMemory}
use Rattle.chain.specs.Refusals.{Answers}
use Rattle.world.proofs.claimed.check_claimed.Goals as goal

-- if no test refuses, only memory can
memory_alone : {A : Type 0} (o : Option ChainError) (r : Result A ChainError) → o ≡ None → Answers o r → MatchResult r (λ _. ⊤) (λ e. e ≡ NoMemory)
memory_alone o (Ok x) n a = tt
memory_alone o (Err NoMemory) n a = refl
memory_alone o (Err e) n a = absurd (cc)

pub returns-clause-due : goal.returns-clause-due
returns-clause-due g = λ c input at due.
    memory_alone _ c.check_input.result ((c.claims_spend.ensures.spends _ _ c.args.claim.now c.args.tx.now input c.path.ensures.whole due).at_index c.args.index at) c.check_input.ensures
