-- The calls of a book in JSON, and the dump of its history. A call is an array whose first item is its name.
use Rattle.std.specs.Prelude.{ℕ, ◌==◌, Bool, true, false, not, ◌&&◌, ◌||◌, nat_le, nat_lt, if◌then◌else◌, List, length, Option, Some, None, codes}
use Rattle.std.specs.Str.{bytes_eq}
use Rattle.std.specs.List.{list_any}
use Rattle.serde_json.specs.Data.{Data}
use Rattle.tx.specs.declared.limits.TheConstants.{MAX_INPUTS, MAX_OUTPUTS}
use Rattle.updates.specs.declared.changes.Update.{Update}
use Rattle.updates.specs.declared.changes.Update.TheVariants.{Add, Fulfil as Fulfilling, Fail as Failing, Fee}
use Rattle.terms.specs.Proposals.{can_agree}
use Rattle.updates.specs.declared.changes.OwnUpdate.TheVariants.{Offer, Fulfil, Fail, SetFee}
use Rattle.updates.specs.declared.messages.PeerStep.TheVariants.{Update as Updated, CommitmentSigned}
use Rattle.texts.specs.declared.steps.PlainStep.{PlainStep}
use Rattle.texts.specs.declared.steps.PlainStep.TheVariants.{Own, Receive}
use Rattle.texts.specs.declared.calls.PlainOpening.{PlainOpening}
use Rattle.texts.specs.declared.calls.PlainCall.{PlainCall}
use Rattle.texts.specs.declared.calls.PlainCall.TheVariants.{Open, Step, Sign, Revoke, Keep, Release, Close}
use Rattle.texts.specs.declared.calls.PlainEntry.{PlainEntry}
use Rattle.texts.specs.declared.calls.PlainDump.{PlainDump}
use Rattle.claim.specs.Opcodes.{◌>>=◌}
use Rattle.texts.specs.Values.{array_of, object_of, item_of, member_of, pair_of, tag_of, list_of, u64_of, u32_of, side_of, bytes_of_len}
use Rattle.texts.specs.Keys.{key_of, base_keys_of, token_bytes_of}
use Rattle.texts.specs.Outpoints.{outpoint_of}
use Rattle.texts.specs.Outputs.{output_of}
use Rattle.texts.specs.Terms.{terms_of}
use Rattle.texts.specs.Claims.{claim_of}
use Rattle.texts.specs.Steps.{revocation_of, step_of}

-- with the peer's five base keys, its points for the commitments 0 and 1, and its token on this side's commitment 0
unfoldable pub opening_of : Data → Option PlainOpening
opening_of d = do
  form ← array_of 8 d
  terms ← item_of 1 terms_of form
  funding ← item_of 2 outpoint_of form
  side ← item_of 3 side_of form
  seed ← item_of 4 (bytes_of_len 32) form
  bases ← item_of 5 base_keys_of form
  points ← item_of 6 (pair_of key_of) form
  token ← item_of 7 token_bytes_of form
  if can_agree terms then Some (record { terms = terms; funding = funding; side = side; seed = seed; bases = bases; first_point = points.0; next_point = points.1; token = token }) else None

unfoldable pub open_of : Data → Option PlainCall
open_of d = opening_of d >>= (λ opening. Some (Open opening))

unfoldable pub step_call_of : Data → Option PlainCall
step_call_of d = do
  channel ← item_of 1 u64_of d
  step ← step_of d
  Some (Step channel step)

unfoldable pub sign_of : Data → Option PlainCall
sign_of d = do
  form ← array_of 2 d
  channel ← item_of 1 u64_of form
  Some (Sign channel)

unfoldable pub revoke_of : Data → Option PlainCall
revoke_of d = do
  form ← array_of 3 d
  channel ← item_of 1 u64_of form
  revocation ← item_of 2 revocation_of form
  Some (Revoke channel revocation)

unfoldable pub keep_of : Data → Option PlainCall
keep_of d = do
  form ← array_of 4 d
  channel ← item_of 1 u64_of form
  number ← item_of 2 u64_of form
  claims ← item_of 3 (list_of claim_of) form
  Some (Keep channel number claims)

-- at least one claim, and no more claims and outputs than one transaction may have
abbrev pub are_within : ℕ → ℕ → Bool
are_within claims outputs = nat_lt 0 claims && nat_le claims MAX_INPUTS && nat_le outputs MAX_OUTPUTS

unfoldable pub release_of : Data → Option PlainCall
release_of d = do
  form ← array_of 5 d
  channel ← item_of 1 u64_of form
  claims ← item_of 2 (list_of claim_of) form
  outputs ← item_of 3 (list_of output_of) form
  preimages ← item_of 4 (list_of (bytes_of_len 32)) form
  if are_within (length claims) (length outputs) then Some (Release channel claims outputs preimages) else None

unfoldable pub close_of : Data → Option PlainCall
close_of d = do
  form ← array_of 2 d
  channel ← item_of 1 u64_of form
  Some (Close channel)

-- the calls by their names
unfoldable pub call_named : List ℕ → Data → Option PlainCall
call_named name d =
    if bytes_eq name (codes "open") then open_of d
    else if bytes_eq name (codes "step") then step_call_of d
    else if bytes_eq name (codes "sign") then sign_of d
    else if bytes_eq name (codes "revoke") then revoke_of d
    else if bytes_eq name (codes "keep") then keep_of d
    else if bytes_eq name (codes "release") then release_of d
    else if bytes_eq name (codes "close") then close_of d
    else None

unfoldable pub call_of : Data → Option PlainCall
call_of d = tag_of d >>= (λ name. call_named name d)

-- a call, and the number of the seat that made it
unfoldable pub entry_of : Data → Option PlainEntry
entry_of d = do
  form ← object_of 2 d
  call ← member_of (codes "call") call_of form
  seat ← member_of (codes "seat") u32_of form
  Some (record { call = call; seat = seat })

abbrev pub is_fee : Update → Bool
is_fee (Add htlc) = false
is_fee (Fulfilling id preimage) = false
is_fee (Failing id) = false
is_fee (Fee feerate_per_kw) = true

abbrev pub changes_fee : PlainStep → Bool
changes_fee (Own (Offer amount_msat hash expiry_height)) = false
changes_fee (Own (Fulfil id preimage)) = false
changes_fee (Own (Fail id)) = false
changes_fee (Own (SetFee feerate_per_kw)) = true
changes_fee (Receive (Updated u)) = is_fee u
changes_fee (Receive (CommitmentSigned s)) = false

-- whether a call changes the feerate
abbrev pub has_fee : PlainCall → Bool
has_fee (Open opening) = false
has_fee (Step channel step) = changes_fee step
has_fee (Sign channel) = false
has_fee (Revoke channel revocation) = false
has_fee (Keep channel number claims) = false
has_fee (Release channel claims outputs preimages) = false
has_fee (Close channel) = false

abbrev pub any_fee : List PlainEntry → Bool
any_fee history = list_any (λ e. has_fee e.call) history

-- whether a call closes a channel
abbrev pub has_close : PlainCall → Bool
has_close (Open opening) = false
has_close (Step channel step) = false
has_close (Sign channel) = false
has_close (Revoke channel revocation) = false
has_close (Keep channel number claims) = false
has_close (Release channel claims outputs preimages) = false
has_close (Close channel) = true

abbrev pub any_close : List PlainEntry → Bool
any_close history = list_any (λ e. has_close e.call) history

-- whether a version has these calls: version 3 where one closes a channel, and else version 2, or version 1 where none changes the feerate
abbrev pub is_version : ℕ → List PlainEntry → Bool
is_version version history = if any_close history then version == 3 else version == 2 || (version == 1 && not (any_fee history))

unfoldable pub dump_of : Data → Option PlainDump
dump_of d = do
  form ← object_of 2 d
  version ← member_of (codes "version") u64_of form
  history ← member_of (codes "history") (list_of entry_of) form
  if is_version version history then Some (record { history = history }) else None
