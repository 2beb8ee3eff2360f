-- What the JSON object about a revoked commitment asks (RFC 8259).
use Rattle.std.specs.Prelude.{◌≡◌, ℕ, nat_lt, Bool, true, false, refl, if◌then◌else◌, List, Option, Some, None, codes}
use Rattle.std.specs.Str.{bytes_eq}
use Rattle.std.specs.Result.{result_ok}
use Rattle.std.proofs.lemmas.Bool.{ltb-true}
use Rattle.serde_json.specs.Data.{Data}
use Rattle.serde_json.specs.Find.{as_null, as_str}
use Rattle.script.specs.declared.limits.TheConstants.{LOCKTIME_THRESHOLD}
use Rattle.tx.specs.Fields.{Transaction}
use Rattle.tx.specs.Reading.{reading, stripped_reading}
use Rattle.forms.specs.declared.parameters.Expiry.{Expiry}
use Rattle.anchor_forms.specs.declared.channel_types.ChannelType.{ChannelType}
use Rattle.anchor_forms.specs.declared.channel_types.ChannelType.TheVariants.{StaticRemoteKey, Anchors}
use Rattle.commit.specs.declared.derived.CommitmentKeys.{CommitmentKeys}
use Rattle.commit.specs.declared.fees.Direction.{Direction}
use Rattle.commit.specs.declared.fees.Direction.TheVariants.{Offered, Received}
use Rattle.revoked.specs.declared.outputs.RevokedHtlc.{RevokedHtlc}
use Rattle.claim.specs.Opcodes.{◌>>=◌}
use Rattle.texts.specs.Keys.{key_of}
use Rattle.texts.specs.Values.{first_some, object_of, member_of, list_of, u16_of, u32_of, bytes_of, bytes_of_len}
use Rattle.unilateral.specs.declared.names.FundingKeys.{FundingKeys}
use Rattle.spend.specs.declared.revoked_requests.Commitment.{Commitment}
use Rattle.spend.specs.declared.revoked_requests.RevokedRequest.{RevokedRequest}

-- the types of channels have their names of BOLT 9, without `option_`
abbrev pub channel_type_of : Data → Option ChannelType
channel_type_of d = as_str d >>= (λ name.
    if bytes_eq name (codes "static_remotekey") then Some StaticRemoteKey else if bytes_eq name (codes "anchors") then Some Anchors else None)

unfoldable pub keys_of : Data → Option CommitmentKeys
keys_of d = do
  form ← object_of 5 d
  revocation ← member_of (codes "revocation") key_of form
  delayed ← member_of (codes "delayed") key_of form
  local_htlc ← member_of (codes "local_htlc") key_of form
  remote_htlc ← member_of (codes "remote_htlc") key_of form
  remote ← member_of (codes "remote") key_of form
  Some (record { revocation = revocation; delayed = delayed; local_htlc = local_htlc; remote_htlc = remote_htlc; remote = remote })

-- null, or what is read
abbrev pub null_or : {A : Type 0} → (Data → Option A) → Data → Option (Option A)
null_or reads d = first_some (as_null d >>= (λ n. Some None)) (reads d >>= (λ x. Some (Some x)))

unfoldable pub keys_of_funding : Data → Option FundingKeys
keys_of_funding d = do
  form ← object_of 2 d
  ours ← member_of (codes "own") key_of form
  peers ← member_of (codes "peer") key_of form
  Some (record { ours = ours; peers = peers })

abbrev pub funding_keys_of : Data → Option (Option FundingKeys)
funding_keys_of d = null_or keys_of_funding d

-- four members of a request
unfoldable pub commitment_of : Data → Option Commitment
commitment_of form = do
  channel_type ← member_of (codes "channel_type") channel_type_of form
  keys ← member_of (codes "keys") keys_of form
  delay_blocks ← member_of (codes "delay_blocks") u16_of form
  funding_keys ← member_of (codes "funding_keys") funding_keys_of form
  Some (record { channel_type = channel_type; keys = keys; delay_blocks = delay_blocks; funding_keys = funding_keys })

abbrev pub direction_of : Data → Option Direction
direction_of d = as_str d >>= (λ name. if bytes_eq name (codes "offered") then Some Offered else if bytes_eq name (codes "received") then Some Received else None)

-- a height is below 500,000,000 (BIP 65)
abbrev pub expiry_if : (n : ℕ) (low : Bool) → nat_lt n LOCKTIME_THRESHOLD ≡ low → Option Expiry
expiry_if n true h = Some (record { height = n; low = ltb-true n LOCKTIME_THRESHOLD h })
expiry_if n false h = None

abbrev pub expiry_in : ℕ → Option Expiry
expiry_in n = expiry_if n (nat_lt n LOCKTIME_THRESHOLD) refl

abbrev pub expiry_of : Data → Option Expiry
expiry_of d = u32_of d >>= expiry_in

unfoldable pub htlc_of : Data → Option RevokedHtlc
htlc_of d = do
  form ← object_of 3 d
  direction ← member_of (codes "direction") direction_of form
  hash ← member_of (codes "hash") (bytes_of_len 32) form
  expiry ← member_of (codes "expiry_height") expiry_of form
  Some (record { direction = direction; hash = hash; expiry = expiry })

-- with witnesses or without (BIP 144)
abbrev pub transaction_in : List ℕ → Option Transaction
transaction_in bytes = first_some (result_ok (reading bytes)) (result_ok (stripped_reading bytes))

abbrev pub transaction_of : Data → Option Transaction
transaction_of d = bytes_of d >>= transaction_in

-- an object of these and the commitment's four members
unfoldable pub revoked_request_of : Data → Option RevokedRequest
revoked_request_of d = do
  form ← object_of 7 d
  commitment ← commitment_of form
  confirmed_height ← member_of (codes "confirmed_height") u32_of form
  htlcs ← member_of (codes "htlcs") (list_of htlc_of) form
  transaction ← member_of (codes "transaction") transaction_of form
  Some (record { commitment = commitment; htlcs = htlcs; transaction = transaction; confirmed_height = confirmed_height })
