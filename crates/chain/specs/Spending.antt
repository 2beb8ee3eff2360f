-- When an input may spend an output, in terms of the blocks.
use Rattle.std.specs.Prelude.{◌≡◌, ◌↔◌, ◌⊎◌, ℕ, ◌+◌, true, false, List, [], ◌∷◌, ◌++◌, length, slice_get, Some, Result, Ok, Err}
use Rattle.script.specs.Run.{Clean}
use Rattle.tx.specs.declared.input.OutPoint.{OutPoint}
use Rattle.tx.specs.declared.input.TxIn.{TxIn}
use Rattle.tx.specs.Parts.{Output}
use Rattle.tx.specs.Fields.{Transaction}
use Rattle.tx.specs.Spelling.{transaction_id}
use Rattle.sighash.specs.Programs.{run_of}
use Rattle.chain.specs.declared.errors.ChainError.{ChainError}
use Rattle.chain.specs.declared.errors.ChainError.TheVariants.{Spent, Unknown}
use Rattle.chain.specs.Blocks.{Contents, grant_outpoint, grants_in, is_named}
use Rattle.chain.specs.Locks.{is_final, is_old_enough}

-- it is one of these
abbrev pub IsOneOf : {A : Type 0} → A → List A → Type 0
IsOneOf x [] = ⊥
IsOneOf x (y ∷ ys) = (x ≡ y) ⊎ IsOneOf x ys

-- a transaction of the block created the output: the outpoint has its id, and the index of the output in it
abbrev pub IsPaid : Contents → OutPoint → Output → Type 0
IsPaid b o output = (t : Transaction) × IsOneOf t b.transactions × (o.txid ≡ transaction_id t) × (slice_get t.outputs o.index ≡ Some output)

-- the output was granted in the block, before which `before` grants were made: the outpoint is that of its own number
abbrev pub IsGranted : ℕ → Contents → OutPoint → Output → Type 0
IsGranted before b o output = (later earlier : List Output) × (b.granted ≡ later ++ output ∷ earlier) × (o ≡ grant_outpoint (before + length earlier))

-- the output was created at the outpoint, by a transaction or a grant in the block of this height
abbrev pub IsCreated : List Contents → OutPoint → Output → ℕ → Type 0
IsCreated [] o output height = ⊥
IsCreated (b ∷ older) o output height =
    ((height ≡ length older) × (IsPaid b o output ⊎ IsGranted (grants_in older) b o output)) ⊎ IsCreated older o output height

-- in the next block the input may spend this output, created in the block of this height: no input on the chain spends it, its locks are
-- reached, and its program runs clean
pub record MaySpend (blocks : List Contents) (t : Transaction) (input : TxIn) (output : Output) (height : ℕ) : Type 0 where
  pub created : IsCreated blocks input.outpoint output height
  pub unnamed : is_named blocks input.outpoint ≡ false
  pub final : is_final (length blocks) t.lock_time t.inputs ≡ true
  pub old_enough : is_old_enough (length blocks) t.version input.sequence height ≡ true
  pub clean : (counted depth : ℕ) × (run_of t input output ≡ Some (Clean counted depth))

-- what the answer to the check of an input means for the blocks, in both directions
pub record IsExact (blocks : List Contents) (t : Transaction) (input : TxIn) (r : Result (Unit {0}) ChainError) : Type 0 where
  pub passes : (r ≡ Ok tt) ↔ ((output : Output) × (height : ℕ) × MaySpend blocks t input output height)
  pub unknown : (r ≡ Err Unknown) ↔ ((output : Output) (height : ℕ) → IsCreated blocks input.outpoint output height → ⊥)
  pub spent : (r ≡ Err Spent) ↔ ((output : Output) × (height : ℕ) × IsCreated blocks input.outpoint output height × (is_named blocks input.outpoint ≡ true))
