-- What a chain has to satisfy for the outputs that a node's channels make. A chain that passed the tests of `chain` does, and so does Bitcoin's, whatever hash types others sign with.
use Rattle.std.specs.Prelude.{◌≡◌, ◌⊎◌, ℕ, ◌+◌, ◌%◌, ◌^◌, Bool, true, false, ◌&&◌, ◌||◌, ◌==◌, nat_lt, nat_le, List, reverse, Some, slice_get}
use Rattle.std.specs.List.{Contains, list_all}
use Rattle.script.specs.declared.limits.TheConstants.{LOCKTIME_THRESHOLD}
use Rattle.script.specs.Token.{token_of, is_key}
use Rattle.script.specs.Step.{bit_at}
use Rattle.script.specs.Run.{Clean}
use Rattle.tx.specs.declared.input.OutPoint.{OutPoint}
use Rattle.tx.specs.declared.input.TxIn.{TxIn}
use Rattle.tx.specs.Parts.{Output}
use Rattle.tx.specs.Fields.{Transaction, KeepsLimits, signed_input, unsigned_transaction}
use Rattle.tx.specs.Spelling.{transaction_id}
use Rattle.sighash.specs.Programs.{run_of}
use Rattle.chain.specs.Blocks.{Contents as Block, Coin, coin_at}
use Rattle.chain.specs.Checked.{is_checked}
use Rattle.chain.specs.Conserving.{GrantsAreApart}
use Rattle.claim.specs.Fitting.{output_at}
use Rattle.safety.specs.Signing.{Signed, digest_of, FieldsFit}
use Rattle.safety.specs.Standing.{StandsAt}
use Rattle.safety.specs.Holdings.{Holding}
use Rattle.safety.specs.Premises.{LockedOutput, spend, outputs_by, locks_by, has_item, secret_keys}

-- The locks that count blocks are kept, in a block of a height, by an input that spends a coin of a block of another height (BIP 65, BIP 68). A lock time that is a height is below the block's, unless every
-- input is final; a sequence that is an age in blocks is reached. Locks that count time are taken as reached.
abbrev pub keeps_locks : (height : ℕ) → Transaction → TxIn → (since : ℕ) → Bool
keeps_locks height t input since =
    (nat_le LOCKTIME_THRESHOLD t.lock_time || nat_lt t.lock_time height || list_all (λ i. i.sequence == 0xffffffff) t.inputs)
    && (nat_lt t.version 2 || bit_at 31 input.sequence || bit_at 22 input.sequence || nat_le (since + input.sequence % 2 ^ 16) height)

-- a token over a spend, of a key that is none of these. The machine here reads it for a signature of that key, of any hash type
pub record IsForeignToken (keys : List (List ℕ)) (s : Signed) (item : List ℕ) : Type 0 where
  pub key : List ℕ
  pub form : is_key key ≡ true
  pub foreign : has_item keys key ≡ false
  pub is : item ≡ token_of key (digest_of s)

-- An input spends a coin in a block of a height. It keeps its locks, and runs clean once each signature of a key that is none of these is replaced by that key's token. The last item, a script or a key, is none
pub record SpendsCoin (keys : List (List ℕ)) (height : ℕ) (s : Signed) (coin : Coin) : Type 0 where
  pub locks : keeps_locks height s.transaction s.input coin.height ≡ true
  pub items : List (List ℕ)
  pub each : (item : List ℕ) → Contains items item → Contains s.input.witness item ⊎ IsForeignToken keys s item
  pub last : slice_get (reverse items) 0 ≡ slice_get (reverse s.input.witness) 0
  pub counted : ℕ
  pub tallest : ℕ
  pub clean : run_of s.transaction (signed_input s.input items) coin.output ≡ Some (Clean counted tallest)

-- the coin at an output's outpoint is this output
pub record IsCoinAt (blocks : List Block) (w : LockedOutput) (coin : Coin) : Type 0 where
  pub there : coin_at blocks w.place.outpoint ≡ Some coin
  pub output : coin.output ≡ output_at w.place

-- a transaction makes an output at an outpoint
pub record Makes (t : Transaction) (o : OutPoint) (output : Output) : Type 0 where
  pub id : transaction_id t ≡ o.txid
  pub there : slice_get t.outputs o.index ≡ Some output

-- An input that names one of these outputs spends it, if it stands on the chain; the fields of its transaction fit into their bytes. A transaction with the id of one of those that are made keeps all limits but for its
-- witnesses, which no id shows (BIP 141). It is the only one of its id, and its outputs are the coins at their outpoints
pub record IsLedgerOf (keys : List (List ℕ)) (locks made : List LockedOutput) (blocks : List Block) : Type 0 where
  pub named : (w : LockedOutput) → Contains locks w → (coin : Coin) → IsCoinAt blocks w coin → (height : ℕ) (t : Transaction) (input : TxIn) → StandsAt blocks height t → Contains t.inputs input
      → input.outpoint ≡ w.place.outpoint → FieldsFit t × SpendsCoin keys height (spend w t input) coin
  pub limits : (w : LockedOutput) → Contains made w → (height : ℕ) (t : Transaction) → StandsAt blocks height t → transaction_id t ≡ w.place.outpoint.txid → KeepsLimits (unsigned_transaction t)
  pub one : (w : LockedOutput) → Contains made w → (height earlier : ℕ) (t u : Transaction) → StandsAt blocks height t → StandsAt blocks earlier u
      → transaction_id t ≡ w.place.outpoint.txid → transaction_id u ≡ w.place.outpoint.txid → unsigned_transaction t ≡ unsigned_transaction u
  pub coins : (w : LockedOutput) → Contains made w → (height : ℕ) (t : Transaction) → StandsAt blocks height t → (output : Output) → Makes t w.place.outpoint output
      → (coin : Coin) × (coin_at blocks w.place.outpoint ≡ Some coin) × (coin.output ≡ output)

-- the chain is one of the outputs of a node's channels
abbrev pub IsLedger : List Holding → List Block → Type 0
IsLedger hs = IsLedgerOf (secret_keys hs) (locks_by hs) (outputs_by hs)

-- such is each chain that passed its tests, whatever the outputs
abbrev pub CheckedAreLedgers : Type 0
CheckedAreLedgers =
    (blocks : List Block) → is_checked blocks ≡ true → ((height : ℕ) (t : Transaction) → StandsAt blocks height t → KeepsLimits t) → GrantsAreApart blocks
    → (keys : List (List ℕ)) (locks made : List LockedOutput) → IsLedgerOf keys locks made blocks
