-- What a witness has that runs clean on a script of BOLT 3 ("Commitment Transaction Outputs").
use Rattle.std.specs.Prelude.{◌≡◌, ◌⊎◌, ℕ, ◌^◌, ◌<◌, true, List, length}
use Rattle.std.specs.List.{Contains}
use Rattle.digest.specs.Hash.{hash160}
use Rattle.script.specs.declared.opcode.Op.{Op}
use Rattle.script.specs.declared.spending.Spend.{Spend}
use Rattle.script.specs.Token.{token_of, is_key}
use Rattle.script.specs.Step.{lock_passes, age_passes}
use Rattle.script.specs.Run.{Clean, outcome}
use Rattle.terms.specs.Scripts.{funding, to_local, key_hash, offered, received}

-- an item of the witness is the key's token over the digest
abbrev pub HasToken : Spend → List (List ℕ) → List ℕ → Type 0
HasToken spend witness key = Contains witness (token_of key spend.digest)

-- an item of the witness is a key of this hash, and another one is its token
pub record HasKeyOf (spend : Spend) (witness : List (List ℕ)) (hash : List ℕ) : Type 0 where
  pub key : List ℕ
  pub given : Contains witness key
  pub form : is_key key ≡ true
  pub hashed : hash160 key ≡ hash
  pub token : HasToken spend witness key

-- an item of the witness has 32 bytes and this hash
pub record HasPreimage (witness : List (List ℕ)) (hash : List ℕ) : Type 0 where
  pub preimage : List ℕ
  pub given : Contains witness preimage
  pub size : length preimage ≡ 32
  pub hashed : hash160 preimage ≡ hash

-- whatever runs clean on these opcodes has this, under any spend
abbrev pub OnSatisfied : List Op → (Spend → List (List ℕ) → Type 0) → Type 0
OnSatisfied ops Has =
    (spend : Spend) (witness : List (List ℕ)) (counted height : ℕ) → outcome spend ops witness ≡ Clean counted height → Has spend witness

-- the revocation key's token; or the delayed key's, and a sequence that CHECKSEQUENCEVERIFY accepts for the delay (BIP 112)
abbrev pub SatisfiesToLocal : (revocation : List ℕ) (delay_blocks : ℕ) (delayed : List ℕ) → Spend → List (List ℕ) → Type 0
SatisfiesToLocal revocation delay_blocks delayed spend witness = HasToken spend witness revocation ⊎ (HasToken spend witness delayed × (age_passes spend delay_blocks ≡ true))

abbrev pub ToLocalSatisfied : Type 0
ToLocalSatisfied =
    (revocation : List ℕ) (delay_blocks : ℕ) (delayed : List ℕ) → delay_blocks < 2 ^ 16 → is_key revocation ≡ true → is_key delayed ≡ true
    → OnSatisfied (to_local revocation delay_blocks delayed) (SatisfiesToLocal revocation delay_blocks delayed)

abbrev pub KeyHashSatisfied : Type 0
KeyHashSatisfied = (hash : List ℕ) → length hash ≡ 20 → OnSatisfied (key_hash hash) (λ spend witness. HasKeyOf spend witness hash)

-- a key of the revocation hash, with its token; or the remote key's token, and with it the local key's token or the preimage
abbrev pub SatisfiesOffered : (revocation_hash remote local payment_hash : List ℕ) → Spend → List (List ℕ) → Type 0
SatisfiesOffered revocation_hash remote local payment_hash spend witness =
    HasKeyOf spend witness revocation_hash ⊎ (HasToken spend witness remote × (HasToken spend witness local ⊎ HasPreimage witness payment_hash))

abbrev pub OfferedSatisfied : Type 0
OfferedSatisfied =
    (revocation_hash remote local payment_hash : List ℕ) → length revocation_hash ≡ 20 → length payment_hash ≡ 20 → is_key remote ≡ true → is_key local ≡ true
    → OnSatisfied (offered revocation_hash remote local payment_hash) (SatisfiesOffered revocation_hash remote local payment_hash)

-- a key of the revocation hash, with its token; or the remote key's token. With the latter comes either the local key's token and the
-- preimage, or a lock time that CHECKLOCKTIMEVERIFY accepts for the expiry (BIP 65)
abbrev pub SatisfiesReceived : (revocation_hash remote local payment_hash : List ℕ) (expiry_height : ℕ) → Spend → List (List ℕ) → Type 0
SatisfiesReceived revocation_hash remote local payment_hash expiry_height spend witness =
    HasKeyOf spend witness revocation_hash
    ⊎ (HasToken spend witness remote × ((HasToken spend witness local × HasPreimage witness payment_hash) ⊎ (lock_passes spend expiry_height ≡ true)))

abbrev pub ReceivedSatisfied : Type 0
ReceivedSatisfied =
    (revocation_hash remote local payment_hash : List ℕ) (expiry_height : ℕ) → expiry_height < 2 ^ 32 → length revocation_hash ≡ 20 → length payment_hash ≡ 20
    → is_key remote ≡ true → is_key local ≡ true
    → OnSatisfied (received revocation_hash remote local payment_hash expiry_height) (SatisfiesReceived revocation_hash remote local payment_hash expiry_height)

-- the tokens of both keys
abbrev pub SatisfiesFunding : (first second : List ℕ) → Spend → List (List ℕ) → Type 0
SatisfiesFunding first second spend witness = HasToken spend witness first × HasToken spend witness second

abbrev pub FundingSatisfied : Type 0
FundingSatisfied = (first second : List ℕ) → is_key first ≡ true → is_key second ≡ true → OnSatisfied (funding first second) (SatisfiesFunding first second)
