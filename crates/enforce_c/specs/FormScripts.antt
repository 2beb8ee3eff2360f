-- The script of a form, or why there is none.
use Rattle.std.specs.Prelude.{◌≡◌, ℕ, ◌==◌, nat_lt, if◌then◌else◌, List, Result, Ok, Err}
use Rattle.digest.specs.Hash.{hash160}
use Rattle.digest.specs.Ripemd160.{ripemd160}
use Rattle.script.specs.declared.opcode.Op.{Op}
use Rattle.script.specs.Spelling.{Spells}
use Rattle.script.specs.Step.{result_if}
use Rattle.script.specs.Token.{is_key}
use Rattle.script.specs.declared.limits.TheConstants.{LOCKTIME_THRESHOLD}
use Rattle.paths.specs.Listing.{CheckedScript}
use Rattle.forms.specs.Forms.{funding_form, to_local_form, key_hash_form, offered_form, received_form}
use Rattle.anchor_forms.specs.Forms.{offered_with_anchors_form, received_with_anchors_form}
use Rattle.enforce_c.specs.declared.forms_of_c.Form.{Form}
use Rattle.enforce_c.specs.declared.statuses.Refusal.{Refusal}
use Rattle.enforce_c.specs.declared.statuses.Refusal.TheVariants.{NoMemory, NoSuchForm, NotAKey, NotAHeight}
use Rattle.enforce_c.specs.Answers.{LeftBytes, bytes_left_by}

-- the bytes have the form of a key, or the call is refused by the key's number: 0 is `revocation`, 1 `remote` and 2 `local`
abbrev pub keyed : {A : Type 0} → ℕ → List ℕ → Result A Refusal → Result A Refusal
keyed number key r = result_if (is_key key) (NotAKey number) r

abbrev pub funding_of : Form → Result CheckedScript Refusal
funding_of f = keyed 1 f.remote (keyed 2 f.local (Ok (funding_form f.remote f.local)))

abbrev pub to_local_of : Form → Result CheckedScript Refusal
to_local_of f = keyed 0 f.revocation (keyed 2 f.local (Ok (to_local_form f.revocation f.delay_blocks f.local)))

abbrev pub key_hash_of : Form → Result CheckedScript Refusal
key_hash_of f = keyed 1 f.remote (Ok (key_hash_form (hash160 f.remote)))

-- an HTLC's three keys
abbrev pub htlc_keyed : {A : Type 0} → Form → Result A Refusal → Result A Refusal
htlc_keyed f r = keyed 0 f.revocation (keyed 1 f.remote (keyed 2 f.local r))

-- an HTLC's expiry, which is a height
abbrev pub expiring : {A : Type 0} → Form → Result A Refusal → Result A Refusal
expiring f r = result_if (nat_lt f.expiry_height LOCKTIME_THRESHOLD) NotAHeight r

abbrev pub offered_of : Form → Result CheckedScript Refusal
offered_of f = htlc_keyed f (Ok (offered_form (hash160 f.revocation) f.remote f.local (ripemd160 f.payment_hash)))

abbrev pub received_of : Form → Result CheckedScript Refusal
received_of f = htlc_keyed f (expiring f (Ok (received_form (hash160 f.revocation) f.remote f.local (ripemd160 f.payment_hash) f.expiry_height)))

-- the same in a channel with anchors
abbrev pub offered_with_anchors_of : Form → Result CheckedScript Refusal
offered_with_anchors_of f = htlc_keyed f (Ok (offered_with_anchors_form (hash160 f.revocation) f.remote f.local (ripemd160 f.payment_hash)))

abbrev pub received_with_anchors_of : Form → Result CheckedScript Refusal
received_with_anchors_of f =
    htlc_keyed f (expiring f (Ok (received_with_anchors_form (hash160 f.revocation) f.remote f.local (ripemd160 f.payment_hash) f.expiry_height)))

-- the script of a form with its paths, or the first refusal
abbrev pub form_of : Form → Result CheckedScript Refusal
form_of f =
    if f.kind == 1 then funding_of f
    else if f.kind == 2 then to_local_of f
    else if f.kind == 3 then key_hash_of f
    else if f.kind == 4 then offered_of f
    else if f.kind == 5 then received_of f
    else if f.kind == 6 then offered_with_anchors_of f
    else if f.kind == 7 then received_with_anchors_of f
    else Err NoSuchForm

-- a result is that of a definition, unless memory ran out
abbrev pub IsOf : {A : Type 0} → Result A Refusal → Result A Refusal → Type 0
IsOf rule (Err NoMemory) = Unit {0}
IsOf rule r = rule ≡ r

-- the bytes of the script of a definition, or its refusal, unless memory ran out
abbrev pub IsSpelt : Result CheckedScript Refusal → Result (List ℕ) Refusal → Type 0
IsSpelt rule (Ok bytes) = (c : CheckedScript) × (rule ≡ Ok c) × Spells c.ops bytes
IsSpelt rule (Err e) = IsOf rule (Err e)

-- the bytes of these opcodes, unless memory ran out
abbrev pub IsWritten : List Op → Result (List ℕ) Refusal → Type 0
IsWritten ops (Ok bytes) = Spells ops bytes
IsWritten ops (Err e) = e ≡ NoMemory

-- the call leaves this, by what becomes of the form
abbrev pub AnswersForm : Form → List ℕ → LeftBytes → Type 0
AnswersForm f before after = (r : Result (List ℕ) Refusal) × IsSpelt (form_of f) r × (bytes_left_by r before ≡ after)
