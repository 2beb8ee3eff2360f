-- A chain of transactions with one input each passes its tests, transaction by transaction. A script runs by its hash and by the digest that its tokens are over, each of which is computed elsewhere.
use Rattle.std.proofs.Common.{◌≡◌, ℕ, ◌+◌, Bool, true, false, List, [], ◌∷◌, drop, reverse, Option, Some, None, option_map, unwrap_or, refl, ap, ◌∙◌, arith}
use Rattle.std.specs.Prelude.{not, nat_le, option_and_then, if◌then◌else◌}
use Rattle.std.specs.Option.{is_none}
use Rattle.std.specs.Str.{bytes_eq}
use Rattle.std.proofs.lemmas.List.Sums.{sum_by-cons}
use Rattle.std.proofs.lemmas.Slice.Eq.{bytes_eq-Decides}
use Rattle.sha2.specs.Sha256.{sha256}
use Rattle.digest.specs.Hash.{sha256d}
use Rattle.script.specs.Run.{outcome}
use Rattle.tx.specs.declared.input.TxIn.{TxIn}
use Rattle.tx.specs.Parts.{Output}
use Rattle.tx.specs.Fields.{Transaction}
use Rattle.tx.specs.Spelling.{transaction_id}
use Rattle.sighash.specs.Signing.{signed_list}
use Rattle.sighash.specs.Programs.{Given, script_ops, given_by_hash, given_of, run_of_given, run_of}
use Rattle.chain.specs.declared.errors.ChainError.{ChainError}
use Rattle.chain.specs.declared.errors.ChainError.TheVariants.{Spent, NotFinal, TooYoung}
use Rattle.chain.specs.Blocks.{Contents as Block, Coin, coin_at, height_of, has_id, value_at, paid_in, paid_out}
use Rattle.chain.specs.Checks.{required, run_refusal, coin_refusal, transaction_refusal}
use Rattle.chain.specs.Locks.{is_final, is_old_enough}
use Rattle.chain.specs.Checked.{have_passed, is_checked}
use Rattle.safety.proofs.Lists.{both}
use Rattle.safety.proofs.Newest.{unrefused}

-- a transaction of version 2 with one input
abbrev pub lone : TxIn → List Output → ℕ → Transaction
lone input outputs lock_time = record { version = 2; inputs = input ∷ []; outputs = outputs; lock_time = lock_time }

paid_by : (blocks : List Block) (input : TxIn) (coin : Coin) → coin_at blocks input.outpoint ≡ Some coin → paid_in blocks (input ∷ []) ≡ coin.output.value
paid_by blocks input coin there =
    let v : value_at blocks input.outpoint ≡ coin.output.value = ap (λ (c : Option Coin). unwrap_or (option_map (λ (x : Coin). x.output.value) c) 0) there in
    sum_by-cons (λ (x : TxIn). value_at blocks x.outpoint) input [] ∙ ap (λ (n : ℕ). n + 0) v ∙ omega arith

-- its input passes the test of a coin, whose value is enough, and its id is new
pub passes : (blocks : List Block) (input : TxIn) (outputs : List Output) (lock_time : ℕ) (coin : Coin) → has_id blocks (transaction_id (lone input outputs lock_time)) ≡ false → coin_at blocks input.outpoint ≡ Some coin
    → coin_refusal (height_of blocks) (lone input outputs lock_time) input (Some coin) ≡ None → nat_le (paid_out outputs) coin.output.value ≡ true → transaction_refusal blocks (lone input outputs lock_time) ≡ None
passes blocks input outputs lock_time coin new there runs less =
    unrefused blocks 2 lock_time input outputs new (ap (coin_refusal (height_of blocks) (lone input outputs lock_time) input) there ∙ runs) (ap (nat_le (paid_out outputs)) (paid_by blocks input coin there) ∙ less)

pub next_one : (older : List Block) (ts : List Transaction) (t : Transaction) → transaction_refusal (record { transactions = ts; granted = [] } ∷ older) t ≡ None → have_passed older ts ≡ true → have_passed older (t ∷ ts) ≡ true
next_one older ts t e = both (is_none (transaction_refusal (record { transactions = ts; granted = [] } ∷ older) t)) (have_passed older ts) (ap is_none e)

pub next_block : (older : List Block) (b : Block) → have_passed older b.transactions ≡ true → is_checked older ≡ true → is_checked (b ∷ older) ≡ true
next_block older b e f = both (have_passed older b.transactions) (is_checked older) e f

-- ---- a script runs

-- what a witness gives whose last item is the script
abbrev pub shown_by : List ℕ → List (List ℕ) → Given
shown_by script witness = record { script = script; items = reverse (drop 1 (reverse witness)) }

pub shows : (hash script : List ℕ) (witness : List (List ℕ)) → sha256 script ≡ hash → given_by_hash hash (script ∷ drop 1 (reverse witness)) ≡ Some (shown_by script witness)
shows hash script witness e =
    ap (λ (h : List ℕ). if bytes_eq h hash then Some (shown_by script witness) else None) e
    ∙ ap (λ (b : Bool). if b then Some (shown_by script witness) else None) ((bytes_eq-Decides hash hash).1 refl)

-- the refusal of a run on these items, with this digest
abbrev pub ran : ℕ → Transaction → TxIn → Coin → Given → List ℕ → Option ChainError
ran height t input coin given digest =
    required (not coin.spent) Spent
    (required (is_final height t.lock_time t.inputs) NotFinal
    (required (is_old_enough height t.version input.sequence coin.height) TooYoung
    (run_refusal
    (option_map (λ ops. outcome (record { version = t.version; lock_time = t.lock_time; sequence = input.sequence; digest = digest }) ops given.items) (script_ops given.script)))))

pub runs : (height : ℕ) (t : Transaction) (input : TxIn) (coin : Coin) (given : Given) (digest : List ℕ) → given_of coin.output.script input.witness ≡ Some given
    → sha256d (signed_list t input given.script coin.output.value) ≡ digest → ran height t input coin given digest ≡ None → coin_refusal height t input (Some coin) ≡ None
unfolding run_of
runs height t input coin given digest shown signed passes =
    ap
    (λ (g : Option Given).
    required (not coin.spent) Spent
    (required (is_final height t.lock_time t.inputs) NotFinal
    (required (is_old_enough height t.version input.sequence coin.height) TooYoung (run_refusal (option_and_then (run_of_given t input coin.output.value) g))))) shown
    ∙ ap (ran height t input coin given) signed ∙ passes
