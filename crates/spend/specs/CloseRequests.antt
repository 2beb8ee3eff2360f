-- What the JSON object about an unrevoked commitment asks (RFC 8259).
use Rattle.std.specs.Prelude.{ℕ, if◌then◌else◌, List, Option, Some, None, codes}
use Rattle.std.specs.Str.{bytes_eq}
use Rattle.serde_json.specs.Data.{Data}
use Rattle.serde_json.specs.Find.{as_str}
use Rattle.claim.specs.Opcodes.{◌>>=◌}
use Rattle.texts.specs.Values.{object_of, member_of, list_of, u32_of, bytes_of_len}
use Rattle.unilateral.specs.declared.closes.Whose.{Whose}
use Rattle.unilateral.specs.declared.closes.Whose.TheVariants.{Ours, Theirs}
use Rattle.spend.specs.RevokedRequests.{null_or, commitment_of, htlc_of, transaction_of}
use Rattle.spend.specs.declared.close_requests.CloseRequest.{CloseRequest}

abbrev pub whose_of : Data → Option Whose
whose_of d = as_str d >>= (λ name. if bytes_eq name (codes "own") then Some Ours else if bytes_eq name (codes "peer") then Some Theirs else None)

abbrev pub height_of : Data → Option (Option ℕ)
height_of d = null_or u32_of d

-- an object of these and the commitment's four members
unfoldable pub close_request_of : Data → Option CloseRequest
close_request_of d = do
  form ← object_of 10 d
  commitment ← commitment_of form
  whose ← member_of (codes "whose") whose_of form
  feerate ← member_of (codes "feerate_per_kw") u32_of form
  confirmed_height ← member_of (codes "confirmed_height") height_of form
  htlcs ← member_of (codes "htlcs") (list_of htlc_of) form
  preimages ← member_of (codes "preimages") (list_of (bytes_of_len 32)) form
  transaction ← member_of (codes "transaction") transaction_of form
  Some (record { commitment = commitment; whose = whose; feerate_per_kw = feerate; htlcs = htlcs; preimages = preimages; transaction = transaction; confirmed_height = confirmed_height })
