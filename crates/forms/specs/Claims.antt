-- Which form a kind of claim spends, and by which path (BOLT 3, "Commitment Transaction Outputs"; BOLT 5).
use Rattle.std.specs.Prelude.{◌≡◌, ◌≢◌, ℕ, ◌<◌, ◌^◌, true, List, [], Some, slice_get, Ok, Err}
use Rattle.digest.specs.Hash.{hash160}
use Rattle.digest.specs.Ripemd160.{ripemd160}
use Rattle.script.specs.declared.limits.TheConstants.{LOCKTIME_THRESHOLD}
use Rattle.script.specs.Spelling.{spelling}
use Rattle.keys.specs.declared.compressed.Key.{Key}
use Rattle.tx.specs.Fields.{Transaction}
use Rattle.sighash.specs.Signing.{sighash}
use Rattle.script.specs.Token.{token_of}
use Rattle.paths.specs.declared.state.Path.{Path}
use Rattle.paths.specs.Listing.{CheckedScript}
use Rattle.claim.specs.declared.parts.Slot.{Slot}
use Rattle.claim.specs.declared.parts.Place.{Place}
use Rattle.facts.specs.declared.symbols.FactOver.TheVariants.{Hash}
use Rattle.claim.specs.declared.errors.AcceptError.{AcceptError}
use Rattle.claim.specs.declared.errors.AcceptError.TheVariants.{Unmet, Contradiction}
use Rattle.claim.specs.declared.parts.Shell.{Shell}
use Rattle.claim.specs.declared.parts.Shell.TheVariants.{Open, Fixed}
use Rattle.claim.specs.Judgement.{is_program, is_shell, judgement_of}
use Rattle.forms.specs.declared.kinds.ClaimKind.{ClaimKind}
use Rattle.forms.specs.declared.kinds.ClaimKind.TheVariants.{Penalty, Delayed, HtlcPenalty, DirectPreimage, DirectTimeout, KeyHash, HtlcTimeout, HtlcSuccess}
use Rattle.terms.specs.Scripts.{offered, received}
use Rattle.forms.specs.Ways.{no}
use Rattle.forms.specs.Forms.{to_local_form, key_hash_form, offered_form, received_form}

-- A kind of claim spends a form by a path, at this place and with this transaction round it. Two cases are refused, and so left out. One is a timeout
-- where the revocation key's hash is HASH160 of the empty item. The other is a preimage where it is RIPEMD-160 of the payment hash.
pub data Claims : ClaimKind → CheckedScript → ℕ → Place → Shell → Type 0 where
  of_penalty : (revocation : Key) (delay_blocks : ℕ) (delayed : List ℕ) (place : Place)
      → Claims (Penalty revocation) (to_local_form revocation.bytes delay_blocks delayed) 0 place Open
  of_delayed : (revocation : List ℕ) (delay_blocks : ℕ) (delayed : Key) (place : Place) → delay_blocks < 2 ^ 16
      → Claims (Delayed delayed) (to_local_form revocation delay_blocks delayed.bytes) 1 place Open
  of_offered_penalty : (revocation : Key) (remote local payment_hash : List ℕ) (place : Place)
      → Claims (HtlcPenalty revocation) (offered_form (hash160 revocation.bytes) remote local payment_hash) 0 place Open
  of_received_penalty : (revocation : Key) (remote local payment_hash : List ℕ) (expiry_height : ℕ) (place : Place)
      → Claims (HtlcPenalty revocation) (received_form (hash160 revocation.bytes) remote local payment_hash expiry_height) 0 place Open
  of_preimage : (revocation_hash : List ℕ) (remote : Key) (local payment_hash : List ℕ) (place : Place) → ripemd160 payment_hash ≢ revocation_hash
      → Claims (DirectPreimage payment_hash remote) (offered_form revocation_hash remote.bytes local (ripemd160 payment_hash)) 2 place Open
  of_timeout : (revocation_hash : List ℕ) (remote : Key) (local payment_hash : List ℕ) (expiry_height : ℕ) (place : Place) → expiry_height < LOCKTIME_THRESHOLD → hash160 [] ≢ revocation_hash
      → Claims (DirectTimeout remote) (received_form revocation_hash remote.bytes local payment_hash expiry_height) 2 place Open
  of_key : (key : Key) (place : Place)
      → Claims (KeyHash key) (key_hash_form (hash160 key.bytes)) 0 place Open
  of_htlc_timeout : (revocation_hash : List ℕ) (remote local : Key) (payment_hash : List ℕ) (place : Place) (t : Transaction) (digest : List ℕ) → hash160 [] ≢ revocation_hash
      → sighash t 0 (spelling (offered revocation_hash remote.bytes local.bytes payment_hash)) place.value ≡ Some digest
      → Claims (HtlcTimeout local (token_of remote.bytes digest)) (offered_form revocation_hash remote.bytes local.bytes payment_hash) 1 place (Fixed t)
  of_htlc_success : (revocation_hash : List ℕ) (remote local : Key) (payment_hash : List ℕ) (expiry_height : ℕ) (place : Place) (t : Transaction) (digest : List ℕ) → ripemd160 payment_hash ≢ revocation_hash
      → sighash t 0 (spelling (received revocation_hash remote.bytes local.bytes (ripemd160 payment_hash) expiry_height)) place.value ≡ Some digest
      → Claims (HtlcSuccess payment_hash local (token_of remote.bytes digest)) (received_form revocation_hash remote.bytes local.bytes (ripemd160 payment_hash) expiry_height) 1 place (Fixed t)

-- slots with which a claim of this kind is accepted on its form, wherever the form's program stands, under whatever transaction fits
abbrev pub AreAccepted : ClaimKind → List Slot → Type 0
AreAccepted kind slots =
    (form : CheckedScript) (index : ℕ) (path : Path) (place : Place) (shell : Shell) → Claims kind form index place shell → slice_get form.paths index ≡ Some path
    → is_program (spelling form.ops) place.program ≡ true → is_shell path place shell ≡ true → judgement_of form index slots place shell ≡ Ok path

-- the path that a kind of claim takes
abbrev pub path_taken_by : ClaimKind → ℕ
path_taken_by (Penalty revocation) = 0
path_taken_by (Delayed delayed) = 1
path_taken_by (HtlcPenalty revocation) = 0
path_taken_by (DirectPreimage payment_hash remote) = 2
path_taken_by (DirectTimeout remote) = 2
path_taken_by (KeyHash key) = 0
path_taken_by (HtlcTimeout local remote_token) = 1
path_taken_by (HtlcSuccess payment_hash local remote_token) = 1

-- The two cases that are left out. A timeout fails where the revocation key's hash is HASH160 of the empty item: its first fact is not met. A
-- preimage fails where that hash is RIPEMD-160 of the payment hash, which its path asks for and forbids.
pub data Refused : ClaimKind → CheckedScript → ℕ → Place → Shell → AcceptError → Type 0 where
  no_timeout : (remote : Key) (local payment_hash : List ℕ) (expiry_height : ℕ) (place : Place) (shell : Shell)
      → Refused (DirectTimeout remote) (received_form (hash160 []) remote.bytes local payment_hash expiry_height) 2 place shell (Unmet (no (Hash 0 (hash160 []))))
  no_preimage : (remote : Key) (local payment_hash : List ℕ) (place : Place) (shell : Shell)
      → Refused (DirectPreimage payment_hash remote) (offered_form (ripemd160 payment_hash) remote.bytes local (ripemd160 payment_hash)) 2 place shell Contradiction
  no_htlc_timeout : (remote local : Key) (payment_hash token : List ℕ) (place : Place) (shell : Shell)
      → Refused (HtlcTimeout local token) (offered_form (hash160 []) remote.bytes local.bytes payment_hash) 1 place shell (Unmet (no (Hash 0 (hash160 []))))
  no_htlc_success : (remote local : Key) (payment_hash token : List ℕ) (expiry_height : ℕ) (place : Place) (shell : Shell)
      → Refused (HtlcSuccess payment_hash local token) (received_form (ripemd160 payment_hash) remote.bytes local.bytes (ripemd160 payment_hash) expiry_height) 1 place shell Contradiction

-- slots with which a claim of this kind is refused in those cases, where nothing else is wrong
abbrev pub AreRefused : ClaimKind → List Slot → Type 0
AreRefused kind slots =
    (form : CheckedScript) (index : ℕ) (path : Path) (place : Place) (shell : Shell) (refusal : AcceptError) → Refused kind form index place shell refusal → slice_get form.paths index ≡ Some path
    → is_program (spelling form.ops) place.program ≡ true → is_shell path place shell ≡ true → judgement_of form index slots place shell ≡ Err refusal
