-- Which inputs fit a claim, and what a claim promises of them.
use Rattle.std.specs.Prelude.{◌≡◌, ℕ, ◌≤◌, ◌<◌, if◌then◌else◌, List, [], ◌∷◌, ◌++◌, length, reverse, Contains, Some, Result, Err}
use Rattle.sha2.specs.Sha256.{sha256}
use Rattle.script.specs.declared.opcode.Op.{Op}
use Rattle.script.specs.declared.spending.Spend.{Spend}
use Rattle.script.specs.declared.limits.TheConstants.{LOCKTIME_THRESHOLD, MAX_OPS_PER_SCRIPT, MAX_STACK_SIZE}
use Rattle.script.specs.Token.{token_of}
use Rattle.script.specs.Spelling.{spelling}
use Rattle.script.specs.Step.{Elements}
use Rattle.script.specs.Run.{Clean}
use Rattle.tx.specs.declared.input.TxIn.{TxIn}
use Rattle.tx.specs.Parts.{Output}
use Rattle.tx.specs.Fields.{Transaction, unsigned_transaction}
use Rattle.sighash.specs.Programs.{is_script_hash_program, spend_of, run_of}
use Rattle.facts.specs.Meaning.{Meets}
use Rattle.paths.specs.declared.state.Path.{Path}
use Rattle.claim.specs.declared.parts.Slot.{Slot}
use Rattle.claim.specs.declared.parts.Slot.TheVariants.{Sig, Preimage, Exact}
use Rattle.claim.specs.declared.parts.Place.{Place}
use Rattle.claim.specs.declared.parts.Shell.{Shell}
use Rattle.claim.specs.declared.parts.Shell.TheVariants.{Open, Fixed}
use Rattle.claim.specs.declared.errors.AcceptError.{AcceptError}
use Rattle.claim.specs.declared.errors.AcceptError.TheVariants.{NoMemory, Unmet}
use Rattle.claim.specs.Judgement.{height_of, age_of}

-- an item fills a slot: the token of the key over the spend's digest, 32 bytes of this SHA-256, or the bytes themselves
abbrev pub FillsSlot : Spend → Slot → List ℕ → Type 0
FillsSlot spend (Sig k) x = x ≡ token_of k.bytes spend.digest
FillsSlot spend (Preimage ph) x = (length x ≡ 32) × (sha256 x ≡ ph)
FillsSlot spend (Exact b) x = x ≡ b.item

-- items, the top first, fill the slots one by one
abbrev pub FillsSlots : Spend → List Slot → Elements → Type 0
FillsSlots spend [] [] = Unit {0}
FillsSlots spend (slot ∷ slots) (x ∷ xs) = FillsSlot spend slot x × FillsSlots spend slots xs
FillsSlots spend slots xs = ⊥

-- a transaction may stand round a claim on a path. In an open shell it is any of version 2 whose lock time is a height that the path allows.
-- In a fixed shell it is the fixed transaction, whatever its witness
abbrev pub StandsRound : Path → Shell → Transaction → Type 0
StandsRound p Open t =
    (t.version ≡ 2) × (height_of p ≤ t.lock_time) × (t.lock_time < LOCKTIME_THRESHOLD)
StandsRound p (Fixed fixed) t = unsigned_transaction t ≡ unsigned_transaction fixed

-- the witness of items: where the program is the hash of a script, the script comes last (BIP 141)
abbrev pub witness_for : List ℕ → List ℕ → List (List ℕ) → List (List ℕ)
witness_for p script items = if is_script_hash_program p then items ++ script ∷ [] else items

-- an input of a transaction fits a claim on a path of a script. It spends the place's outpoint with the path's age as its sequence, and the
-- transaction may stand round the claim. The items of its witness, the last of which is the top, fill the slots
pub record Fits (script : List ℕ) (p : Path) (slots : List Slot) (place : Place) (shell : Shell)
    (t : Transaction) (input : TxIn) : Type 0 where
  pub among : Contains t.inputs input
  pub outpoint : input.outpoint ≡ place.outpoint
  pub sequence : input.sequence ≡ age_of p
  pub stands : StandsRound p shell t
  pub items : List (List ℕ)
  pub witness : input.witness ≡ witness_for place.program script items
  pub filled : FillsSlots (spend_of t input script place.value) slots (reverse items)

-- the output at the place
abbrev pub output_at : Place → Output
output_at place = record { value = place.value; script = place.program }

-- whatever fits the claim meets its path, and spends the output. Run as BIP 141 runs the place's program on the input's whole witness, under
-- the place's value, it is clean, with the path's counted opcodes and height. Its items are at most 1,000
pub record Spends (ops : List Op) (p : Path) (slots : List Slot) (place : Place) (shell : Shell) : Type 0 where
  pub meets : (t : Transaction) (input : TxIn) (fits : Fits (spelling ops) p slots place shell t input) → Meets (spend_of t input (spelling ops) place.value) fits.items p.arity p.facts
  pub clean : (t : Transaction) (input : TxIn) → Fits (spelling ops) p slots place shell t input → run_of t input (output_at place) ≡ Some (Clean p.ops p.height)
  pub short : (t : Transaction) (input : TxIn) (fits : Fits (spelling ops) p slots place shell t input) → length fits.items ≤ MAX_STACK_SIZE
  pub few : p.ops ≤ MAX_OPS_PER_SCRIPT
  pub low : p.height ≤ MAX_STACK_SIZE

-- a fact is not met
abbrev pub IsUnmet : Result Path AcceptError → Type 0
IsUnmet (Err (Unmet s)) = Unit {0}
IsUnmet judgement = ⊥

-- the refusal is the first that holds; memory can run out only while the fact that is not met is copied
abbrev pub IsRefusal : Result Path AcceptError → AcceptError → Type 0
IsRefusal judgement NoMemory = IsUnmet judgement
IsRefusal judgement e = judgement ≡ Err e
