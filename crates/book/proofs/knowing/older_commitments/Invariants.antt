use Rattle.std.proofs.Common.{◌≡◌, ◌≤◌, map}
use Rattle.book.specs.Knowing.{below, signed_parts, own_at}
use Rattle.book.proofs.knowing.older_commitments.Given as goal

abbrev pub invariant-loop-number : goal.invariant-loop-number
invariant-loop-number l = (map signed_parts l.older.items ≡ below (own_at l.channel) l.number) × (l.number ≤ l.number-end) × (l.number-end ≡ l.channel.number)
