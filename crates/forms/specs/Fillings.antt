-- What fills the slots of the claims on the forms of BOLT 3, the top of the stack first.
use Rattle.std.specs.Prelude.{ℕ, List, [], ◌∷◌}
use Rattle.claim.specs.declared.parts.Slot.{Slot}
use Rattle.claim.specs.declared.parts.Slot.TheVariants.{Sig, Preimage, Exact}
use Rattle.forms.specs.declared.kinds.ClaimKind.{ClaimKind}
use Rattle.forms.specs.declared.kinds.ClaimKind.TheVariants.{Penalty, Delayed, HtlcPenalty, DirectPreimage, DirectTimeout, KeyHash, HtlcTimeout, HtlcSuccess}

-- the signature of a key, 32 bytes with this SHA-256, or these bytes
pub data Filling : Type 0 where
  Signature : List ℕ → Filling
  PreimageOf : List ℕ → Filling
  Bytes : List ℕ → Filling

abbrev pub filling_of : Slot → Filling
filling_of (Sig key) = Signature key.bytes
filling_of (Preimage hash) = PreimageOf hash
filling_of (Exact bytes) = Bytes bytes.item

abbrev pub fillings_of : ClaimKind → List Filling
fillings_of (Penalty revocation) = Bytes (1 ∷ []) ∷ Signature revocation.bytes ∷ []
fillings_of (Delayed delayed) = Bytes [] ∷ Signature delayed.bytes ∷ []
fillings_of (HtlcPenalty revocation) = Bytes revocation.bytes ∷ Signature revocation.bytes ∷ []
fillings_of (DirectPreimage payment_hash remote) = PreimageOf payment_hash ∷ Signature remote.bytes ∷ []
fillings_of (DirectTimeout remote) = Bytes [] ∷ Signature remote.bytes ∷ []
fillings_of (KeyHash key) = Bytes key.bytes ∷ Signature key.bytes ∷ []
fillings_of (HtlcTimeout local remote_token) = Bytes [] ∷ Signature local.bytes ∷ Bytes remote_token ∷ Bytes [] ∷ []
fillings_of (HtlcSuccess payment_hash local remote_token) = PreimageOf payment_hash ∷ Signature local.bytes ∷ Bytes remote_token ∷ Bytes [] ∷ []
