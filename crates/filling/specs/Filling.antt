-- The transaction that fills claims.
use Rattle.std.specs.Prelude.{ℕ, max, if◌then◌else◌, List, [], ◌∷◌, map, reverse, Option, Some, None, unwrap_or}
use Rattle.std.specs.Option.{option_or}
use Rattle.digest.specs.Hash.{sha256d}
use Rattle.script.specs.Token.{token_of}
use Rattle.script.specs.Spelling.{spelling}
use Rattle.tx.specs.declared.input.TxIn.{TxIn}
use Rattle.tx.specs.Parts.{Output}
use Rattle.tx.specs.Fields.{Transaction, unsigned_transaction, version_two, signed_input}
use Rattle.sighash.specs.Signing.{signed_list}
use Rattle.claim.specs.declared.parts.Slot.{Slot}
use Rattle.claim.specs.declared.parts.Slot.TheVariants.{Sig, Preimage, Exact}
use Rattle.claim.specs.declared.parts.Shell.{Shell}
use Rattle.claim.specs.declared.parts.Shell.TheVariants.{Open, Fixed}
use Rattle.claim.specs.Evidence.{is_preimage}
use Rattle.claim.specs.Fitting.{witness_for}
use Rattle.claim.specs.Claims.{ClaimParts, sequence_of, lock_time_of}

-- the bytes of the claimed output's script
abbrev pub script_of : ClaimParts → List ℕ
script_of c = spelling c.ways.ops

-- the input of a claim, without its witness
abbrev pub unsigned_input : ClaimParts → TxIn
unsigned_input c = record { outpoint = c.place.outpoint; sequence = sequence_of c; witness = [] }

abbrev pub greatest_of : List ℕ → ℕ
greatest_of [] = 0
greatest_of (n ∷ ns) = max n (greatest_of ns)

-- the transaction of open claims, without witnesses: version 2, the claims' inputs in their order, the outputs, and the greatest lock time that a
-- claim needs
abbrev pub open_transaction : List ClaimParts → List Output → Transaction
open_transaction claims outputs =
    version_two (map unsigned_input claims) outputs (greatest_of (map lock_time_of claims))

-- the transaction of a single claim: the fixed one, or that of an open claim
abbrev pub lone_transaction : ClaimParts → Shell → List Output → Transaction
lone_transaction c Open outputs = open_transaction (c ∷ []) outputs
lone_transaction c (Fixed t) outputs = unsigned_transaction t

-- the transaction of claims, without witnesses
abbrev pub transaction_for : List ClaimParts → List Output → Transaction
transaction_for (c ∷ []) outputs = lone_transaction c c.shell outputs
transaction_for claims outputs = open_transaction claims outputs

-- the preimage of a hash, the last one if several are given
abbrev pub preimage_of : List (List ℕ) → List ℕ → Option (List ℕ)
preimage_of [] h = None
preimage_of (x ∷ xs) h = option_or (preimage_of xs h) (if is_preimage x h then Some x else None)

-- the digest that a claim's signatures are over (BIP 143)
abbrev pub digest_for : Transaction → ClaimParts → List ℕ
digest_for t c = sha256d (signed_list t (unsigned_input c) (script_of c) c.place.value)

-- what fills a slot: the token of its key over the digest, the preimage of its hash, or its bytes
abbrev pub item_for : List ℕ → List (List ℕ) → Slot → List ℕ
item_for digest preimages (Sig k) = token_of k.bytes digest
item_for digest preimages (Preimage h) = unwrap_or (preimage_of preimages h) []
item_for digest preimages (Exact b) = b.item

-- the items for the slots of a claim, the deepest first
abbrev pub items_for : Transaction → List (List ℕ) → ClaimParts → List (List ℕ)
items_for t preimages c = reverse (map (item_for (digest_for t c) preimages) c.slots)

-- the input of a claim with its witness, in this transaction
abbrev pub filled_input : Transaction → List (List ℕ) → ClaimParts → TxIn
filled_input t known c = signed_input (unsigned_input c)
    (witness_for c.place.program (script_of c) (items_for t known c))

-- the transaction with the witnesses of all claims
abbrev pub signed_transaction : Transaction → List (List ℕ) → List ClaimParts → Transaction
signed_transaction t preimages claims = record t { inputs = map (filled_input t preimages) claims }

abbrev pub filling_of : List ClaimParts → List Output → List (List ℕ) → Transaction
filling_of claims outputs known = signed_transaction (transaction_for claims outputs) known claims
