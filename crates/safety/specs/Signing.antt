-- What a token signs (BIP 143), up to collisions of named byte strings.
use Rattle.std.specs.Prelude.{◌≡◌, ◌⊎◌, ℕ, ◌^◌, ◌<◌, List, [], length}
use Rattle.std.specs.List.{AllByRecursion}
use Rattle.digest.specs.Hash.{sha256d, Collide}
use Rattle.script.specs.Token.{token_of}
use Rattle.tx.specs.declared.input.TxIn.{TxIn}
use Rattle.tx.specs.Parts.{IsBounded, Output}
use Rattle.tx.specs.Fields.{Transaction, IsInput, signed_input, unsigned_inputs, unsigned_transaction}
use Rattle.sighash.specs.Signing.{all_outpoints, all_sequences, all_outputs, signed_list}

-- a byte string of one kind collides with one of another kind
pub record Collision (Collides : List ℕ → List ℕ → Type 0) (IsFirst IsSecond : List ℕ → Type 0) : Type 0 where
  pub first : List ℕ
  pub second : List ℕ
  pub of_first : IsFirst first
  pub of_second : IsSecond second
  pub collide : Collides first second

-- what a token is over: an input of a transaction, the script code, and the satoshis that the input spends
pub record Signed : Type 0 where
  pub transaction : Transaction
  pub input : TxIn
  pub code : List ℕ
  pub value : ℕ

-- the bytes that are hashed for it
abbrev pub list_of : Signed → List ℕ
list_of s = signed_list s.transaction s.input s.code s.value

abbrev pub digest_of : Signed → List ℕ
digest_of s = sha256d (list_of s)

-- each field of a transaction fits into its bytes, whatever its witnesses
pub record FieldsFit (t : Transaction) : Type 0 where
  pub version : t.version < 2 ^ 32
  pub inputs : AllByRecursion IsInput (unsigned_inputs t.inputs)
  pub outputs : AllByRecursion (λ (o : Output). (o.value < 2 ^ 64) × (length o.script < 2 ^ 64)) t.outputs
  pub lock_time : t.lock_time < 2 ^ 32

-- so does each that is signed
pub record IsSignable (s : Signed) : Type 0 where
  pub transaction : FieldsFit s.transaction
  pub input : IsInput (signed_input s.input [])
  pub code : IsBounded s.code
  pub value : s.value < 2 ^ 64

-- they are the same but for witnesses
pub record AreSame (s z : Signed) : Type 0 where
  pub transaction : unsigned_transaction s.transaction ≡ unsigned_transaction z.transaction
  pub input : signed_input s.input [] ≡ signed_input z.input []
  pub code : s.code ≡ z.code
  pub value : s.value ≡ z.value

-- two byte strings that are hashed for their digests collide
pub data ListsCollide (s z : Signed) : Type 0 where
  wholes : Collide sha256d (list_of s) (list_of z) → ListsCollide s z
  outpoints : Collide sha256d (all_outpoints s.transaction.inputs)
      (all_outpoints z.transaction.inputs) → ListsCollide s z
  sequences : Collide sha256d (all_sequences s.transaction.inputs)
      (all_sequences z.transaction.inputs) → ListsCollide s z
  outputs : Collide sha256d (all_outputs s.transaction.outputs)
      (all_outputs z.transaction.outputs) → ListsCollide s z

-- a digest is over one input of one transaction, up to collisions
abbrev pub OneDigest : Type 0
OneDigest = (s z : Signed) → IsSignable s → IsSignable z → digest_of s ≡ digest_of z → AreSame s z ⊎ ListsCollide s z

-- a token is of one key, and over one input of one transaction, up to collisions
abbrev pub OneToken : Type 0
OneToken =
    (key other : List ℕ) (s z : Signed) → length key ≡ length other → IsSignable s → IsSignable z → token_of key (digest_of s) ≡ token_of other (digest_of z)
    → (key ≡ other) × (AreSame s z ⊎ ListsCollide s z)
