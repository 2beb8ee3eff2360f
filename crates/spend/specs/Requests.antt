-- What the JSON object asks for (RFC 8259).
use Rattle.std.specs.Prelude.{Option, Some, codes}
use Rattle.serde_json.specs.Data.{Data}
use Rattle.claim.specs.Opcodes.{◌>>=◌}
use Rattle.texts.specs.Values.{member_of, list_of, u32_of, bytes_of, bytes_of_len}
use Rattle.spend.specs.declared.requests.Request.{Request}
use Rattle.spend.specs.Outputs.{output_of}
use Rattle.spend.specs.Limits.{form_of, least_feerate_of, most_feerate_of}

-- an object of these four members, and at will of the limits of the feerate: preimages have 32 bytes
unfoldable pub request_of : Data → Option Request
request_of d = do
  form ← form_of d
  least ← least_feerate_of form
  most ← most_feerate_of form
  feerate ← member_of (codes "feerate_per_kw") u32_of form
  destination ← member_of (codes "destination") bytes_of form
  preimages ← member_of (codes "preimages") (list_of (bytes_of_len 32)) form
  claims ← member_of (codes "outputs") (list_of output_of) form
  Some (record { claims = claims; preimages = preimages; destination = destination; feerate_per_kw = feerate; least_feerate_per_kw = least; most_feerate_per_kw = most })
