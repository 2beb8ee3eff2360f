use Rattle.std.proofs.Common.{◌≡◌, ◌≤◌, map, length}
use Rattle.book.specs.Knowing.{below, revoked_parts, revoked_at, flag_at}
use Rattle.book.proofs.knowing.revoked_commitments.Given as goal

abbrev pub invariant-loop-number : goal.invariant-loop-number
invariant-loop-number l =
    (map revoked_parts l.revoked ≡ below (revoked_at l.channel (flag_at l.flags)) l.number) × (length l.revoked ≡ l.number) × (l.number ≤ l.number-end) × (l.number-end ≡ l.channel.peer_number)
