use Rattle.std.proofs.Common.{rules}
use Rattle.json_value.specs.View.{view}
use Rattle.spend.proofs.Expiries.{expiry_read}
use Rattle.spend.proofs.revoked_requests.expiry_of.Goals as goal

pub returns-in-Some : goal.returns-in-Some
returns-in-Some c = expiry_read (view c.args.value.now) c.in_ok-height.height c.in-Some.expiry (search rules) (search rules)
