-- The transaction that spends open claims before it is signed, and the signatures that it lacks.
use Rattle.std.specs.Prelude.{◌≡◌, ◌==◌, ℕ, zero, suc, Bool, true, false, not, if◌then◌else◌, List, [], ◌∷◌, ◌++◌, length, map, reverse, slice_set, slice_get, Option, Some, None, unwrap_or, is_some, IsTrue}
use Rattle.std.specs.List.{list_any}
use Rattle.script.specs.Token.{token_of}
use Rattle.tx.specs.declared.input.TxIn.{TxIn}
use Rattle.tx.specs.Parts.{Output}
use Rattle.tx.specs.Fields.{Transaction, signed_input}
use Rattle.facts.specs.Symbols.{Fact, Stated}
use Rattle.facts.specs.declared.symbols.FactOver.TheVariants.{Hash, Size, Truth, Is, KeyForm, Form, Token, Assigned, Lock, Age}
use Rattle.paths.specs.declared.state.Path.{Path}
use Rattle.claim.specs.declared.parts.Slot.{Slot}
use Rattle.claim.specs.declared.parts.Slot.TheVariants.{Sig, Preimage, Exact}
use Rattle.claim.specs.Fitting.{witness_for}
use Rattle.claim.specs.Claims.{ClaimParts, path_of}
use Rattle.filling.specs.declared.missing.MissingSignature.{MissingSignature}
use Rattle.filling.specs.declared.errors.SpendError.{SpendError}
use Rattle.filling.specs.declared.errors.SpendError.TheVariants.{NoMemory, FixedTransaction, SameOutpoint, OutputsExceed, MeasuredSignature, NoPreimage}
use Rattle.filling.specs.Filling.{script_of, unsigned_input, open_transaction, preimage_of, digest_for, filling_of}
use Rattle.filling.specs.Filled.{AllFit, AllRunClean}
use Rattle.filling.specs.Refusals.{has_fixed, share_outpoint, do_exceed}

-- ---- the transaction

-- what stands in a slot before anybody signs: the empty item in the place of a signature
abbrev pub blank_for : List (List ℕ) → Slot → List ℕ
blank_for preimages (Sig k) = []
blank_for preimages (Preimage h) = unwrap_or (preimage_of preimages h) []
blank_for preimages (Exact b) = b.item

-- the input of a claim with its witness, the deepest item first
abbrev pub blank_input : List (List ℕ) → ClaimParts → TxIn
blank_input preimages c =
    signed_input (unsigned_input c) (witness_for c.place.program (script_of c) (reverse (map (blank_for preimages) c.slots)))

-- the transaction of open claims, which wants nothing but signatures
abbrev pub unsigned_spend_of : List ClaimParts → List Output → List (List ℕ) → Transaction
unsigned_spend_of claims outputs preimages = record (open_transaction claims outputs) { inputs = map (blank_input preimages) claims }

-- ---- the signatures that it lacks

-- that of a slot, if it is one: the item at this place of this input
abbrev pub missing_here : ℕ → ℕ → List ℕ → Slot → List MissingSignature
missing_here input item digest (Sig k) = record { input = input; item = item; key = k; digest = digest } ∷ []
missing_here input item digest (Preimage h) = []
missing_here input item digest (Exact b) = []

-- those of slots, the top of the stack first. The item of a slot comes after those of the slots below it
abbrev pub missing_on : ℕ → List ℕ → List Slot → List MissingSignature
missing_on input digest [] = []
missing_on input digest (slot ∷ below) = missing_here input (length below) digest slot ++ missing_on input digest below

-- those of claims, the first of which has this input
abbrev pub missing_from : Transaction → ℕ → List ClaimParts → List MissingSignature
missing_from t input [] = []
missing_from t input (c ∷ claims) = missing_on input (digest_for t c) c.slots ++ missing_from t (suc input) claims

abbrev pub missing_of : List ClaimParts → List Output → List MissingSignature
missing_of claims outputs = missing_from (open_transaction claims outputs) 0 claims

-- ---- the signatures put in

-- an input with another item in its witness
abbrev pub with_item : ℕ → List ℕ → TxIn → TxIn
with_item item bytes x = record x { witness = slice_set x.witness item bytes }

-- the input at an index changed
abbrev pub changed_at : (TxIn → TxIn) → ℕ → List TxIn → List TxIn
changed_at f i [] = []
changed_at f zero (x ∷ xs) = f x ∷ xs
changed_at f (suc i) (x ∷ xs) = x ∷ changed_at f i xs

-- the token of each missing signature's key over its digest, at its item of its input
abbrev pub with_tokens : List MissingSignature → List TxIn → List TxIn
with_tokens [] inputs = inputs
with_tokens (m ∷ ms) inputs =
    with_tokens ms (changed_at (with_item m.item (token_of m.key.bytes m.digest)) m.input inputs)

-- ---- refusals

-- whether a signature stands in the slot
abbrev pub is_signature : Option Slot → Bool
is_signature (Some (Sig k)) = true
is_signature (Some (Preimage h)) = false
is_signature (Some (Exact b)) = false
is_signature None = false

-- whether a fact speaks of the bytes of a signature itself: of its hash, its length, what it is, or that it has the form of a key
abbrev pub is_measuring : List Slot → Fact → Bool
is_measuring slots (Hash i h) = is_signature (slice_get slots i)
is_measuring slots (Size i n) = is_signature (slice_get slots i)
is_measuring slots (Is i b) = is_signature (slice_get slots i)
is_measuring slots (KeyForm i) = is_signature (slice_get slots i)
is_measuring slots (Truth i) = false
is_measuring slots (Form i) = false
is_measuring slots (Token i k) = false
is_measuring slots (Assigned is ks) = false
is_measuring slots (Lock n) = false
is_measuring slots (Age n) = false

abbrev pub is_measured_on : List Slot → List Stated → Bool
is_measured_on slots facts = list_any (λ s. is_measuring slots s.fact) facts

abbrev pub is_measured_by : List Slot → Option Path → Bool
is_measured_by slots (Some p) = is_measured_on slots p.facts
is_measured_by slots None = false

-- whether the path of a claim measures one of its signatures
abbrev pub is_measured : ClaimParts → Bool
is_measured c = is_measured_by c.slots (path_of c)

-- whether a slot wants a preimage that is not there
abbrev pub wants_preimage : List (List ℕ) → Slot → Bool
wants_preimage preimages (Sig k) = false
wants_preimage preimages (Preimage h) = not (is_some (preimage_of preimages h))
wants_preimage preimages (Exact b) = false

-- whether a slot of a claim does
abbrev pub lacks_preimage : List (List ℕ) → ClaimParts → Bool
lacks_preimage preimages c = list_any (wants_preimage preimages) c.slots

-- the first refusal that holds
abbrev pub first_spend_refusal : List ClaimParts → List Output → List (List ℕ) → Option SpendError
first_spend_refusal claims outputs preimages =
    if has_fixed claims then Some FixedTransaction
    else if share_outpoint claims then Some SameOutpoint
    else if do_exceed claims outputs then Some OutputsExceed
    else if list_any is_measured claims then Some MeasuredSignature
    else if list_any (lacks_preimage preimages) claims then Some NoPreimage
    else None

-- it is the first that holds, or memory ran out
abbrev pub IsSpendRefusal : Option SpendError → SpendError → Type 0
IsSpendRefusal first NoMemory = Unit {0}
IsSpendRefusal first e = first ≡ Some e

-- the numbers of the refusals
abbrev pub spend_error_number : SpendError → ℕ
spend_error_number NoMemory = 0
spend_error_number FixedTransaction = 1
spend_error_number SameOutpoint = 2
spend_error_number OutputsExceed = 3
spend_error_number MeasuredSignature = 4
spend_error_number NoPreimage = 5

-- ---- what the call gives

-- the transaction and its missing signatures are those of the claims. With the token of each missing signature in its place it is the filling of the claims, each input of which fits its claim and runs clean
pub record IsUnsignedSpend (claims : List ClaimParts) (outputs : List Output) (preimages : List (List ℕ))
    (tx : Transaction) (signatures : List MissingSignature) : Type 0 where
  pub passed : first_spend_refusal claims outputs preimages ≡ None
  pub unsigned : tx ≡ unsigned_spend_of claims outputs preimages
  pub missing : signatures ≡ missing_of claims outputs
  pub signed : record tx { inputs = with_tokens signatures tx.inputs } ≡ filling_of claims outputs preimages
  pub fits : AllFit (filling_of claims outputs preimages) claims (filling_of claims outputs preimages).inputs
  pub clean : AllRunClean (filling_of claims outputs preimages) (filling_of claims outputs preimages).inputs (map (λ c. c.place) claims)
