-- Messages and steps of a channel in JSON. A message is an array whose first item is its name (BOLT 2). A step follows the call's name and its channel.
use Rattle.std.specs.Prelude.{ℕ, if◌then◌else◌, List, Option, Some, None, codes}
use Rattle.std.specs.Str.{bytes_eq}
use Rattle.serde_json.specs.Data.{Data}
use Rattle.serde_json.specs.Find.{as_str}
use Rattle.updates.specs.declared.messages.Tokens.{Tokens}
use Rattle.updates.specs.declared.messages.Revocation.{Revocation}
use Rattle.updates.specs.declared.changes.OwnUpdate.{OwnUpdate}
use Rattle.updates.specs.declared.changes.OwnUpdate.TheVariants.{Offer, Fulfil, Fail, SetFee}
use Rattle.updates.specs.declared.messages.PeerStep.{PeerStep}
use Rattle.updates.specs.declared.messages.PeerStep.TheVariants.{Update as Updated, CommitmentSigned}
use Rattle.texts.specs.declared.steps.PlainStep.{PlainStep}
use Rattle.texts.specs.declared.steps.PlainStep.TheVariants.{Own, Receive}
use Rattle.claim.specs.Opcodes.{◌>>=◌}
use Rattle.texts.specs.Values.{array_of, item_of, tag_of, list_of, u64_of, u32_of, bytes_of_len}
use Rattle.texts.specs.Keys.{key_of, token_bytes_of}
use Rattle.texts.specs.Messages.{update_of}

-- ---- messages

-- the token on a commitment, and those on its HTLC transactions
unfoldable pub signature_in : Data → Option Tokens
signature_in d = do
  form ← array_of 3 d
  commitment ← item_of 1 token_bytes_of form
  htlcs ← item_of 2 (list_of token_bytes_of) form
  Some (record { commitment = commitment; htlcs = htlcs })

-- the secret of the revoked commitment, and the point for the number two above its
unfoldable pub revocation_in : Data → Option Revocation
revocation_in d = do
  form ← array_of 3 d
  secret ← item_of 1 (bytes_of_len 32) form
  next_point ← item_of 2 key_of form
  Some (record { secret = secret; next_point = next_point })

unfoldable pub revocation_of : Data → Option Revocation
revocation_of d = tag_of d >>= (λ name. if bytes_eq name (codes "revoke") then revocation_in d else None)

-- a message that a step receives: any but a revocation
unfoldable pub received_named : List ℕ → Data → Option PeerStep
received_named name d =
    if bytes_eq name (codes "signed") then (signature_in d >>= (λ s. Some (CommitmentSigned s)))
    else (update_of d >>= (λ u. Some (Updated u)))

unfoldable pub received_of : Data → Option PeerStep
received_of d = tag_of d >>= (λ name. received_named name d)

-- ---- steps: the step's name and its fields follow the call's name and the channel

unfoldable pub own_offer_of : Data → Option OwnUpdate
own_offer_of d = do
  form ← array_of 6 d
  amount_msat ← item_of 3 u64_of form
  hash ← item_of 4 (bytes_of_len 32) form
  expiry_height ← item_of 5 u32_of form
  Some (Offer amount_msat hash expiry_height)

unfoldable pub own_fulfil_of : Data → Option OwnUpdate
own_fulfil_of d = do
  form ← array_of 5 d
  id ← item_of 3 u64_of form
  preimage ← item_of 4 (bytes_of_len 32) form
  Some (Fulfil id preimage)

unfoldable pub own_fail_of : Data → Option OwnUpdate
own_fail_of d = do
  form ← array_of 4 d
  id ← item_of 3 u64_of form
  Some (Fail id)

unfoldable pub own_fee_of : Data → Option OwnUpdate
own_fee_of d = do
  form ← array_of 4 d
  feerate_per_kw ← item_of 3 u32_of form
  Some (SetFee feerate_per_kw)

-- reads one's own update by its name
unfoldable pub own_named : List ℕ → Data → Option OwnUpdate
own_named name d =
    if bytes_eq name (codes "offer") then own_offer_of d
    else if bytes_eq name (codes "fulfil") then own_fulfil_of d
    else if bytes_eq name (codes "fail") then own_fail_of d
    else if bytes_eq name (codes "fee") then own_fee_of d
    else None

unfoldable pub receive_of : Data → Option PlainStep
receive_of d = do
  form ← array_of 4 d
  message ← item_of 3 received_of form
  Some (Receive message)

unfoldable pub step_named : List ℕ → Data → Option PlainStep
step_named name d = if bytes_eq name (codes "receive") then receive_of d else (own_named name d >>= (λ u. Some (Own u)))

unfoldable pub step_of : Data → Option PlainStep
step_of d = item_of 2 as_str d >>= (λ name. step_named name d)
