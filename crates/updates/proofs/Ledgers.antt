-- What a ledger keeps true lasts over its calls.
use Rattle.std.proofs.Common.{◌≡◌, ℕ, ◌+◌, ◌≤◌, [], length, filter, ap, ◌∙◌, refl, arith, None}
use Rattle.terms.specs.declared.sides.Side.{Side}
use Rattle.terms.specs.declared.agreement.Terms.{Terms}
use Rattle.terms.specs.Sides.{other}
use Rattle.updates.specs.declared.changes.Update.{Update}
use Rattle.updates.specs.declared.pending.Pending.{Pending}
use Rattle.updates.specs.Stages.{Stages, to_receiver, by_receiver, to_sender, by_sender}
use Rattle.updates.specs.Refusals.{first_refusal}
use Rattle.updates.specs.Pending.{fulfilled_at, is_left, IsGrown, IsNoted, IsAlike, IsBounded, IsKept, kept_tests}
use Rattle.updates.specs.Steady.{Held, IsLedger, own_tests, their_tests, holding_none, holding_made, holding_signed, holding_update, holding_signature, holding_revocation}
use Rattle.updates.proofs.Accepting.{all_pass}
use Rattle.updates.proofs.Funds.{settled_past, past_known, sender_known}
use Rattle.updates.proofs.OneSide.{steady_none, steady_made, steady_signed, steady_update, steady_signature, steady_revocation}
use Rattle.updates.proofs.Held.{kept_none, tests_kept, kept_grown, kept_noted, kept_settled, kept_alike, kept_moved, offers_few}

pub ledger_none : (terms : Terms) (side : Side) (p q : Pending) → p.offered ≡ 0 → p.fulfilled ≡ 0 → p.htlcs.items ≡ [] → q.offered ≡ 0 → q.fulfilled ≡ 0 → q.htlcs.items ≡ [] → IsLedger (holding_none terms side) p q
ledger_none terms side p q a b c d e f = record { steady = steady_none terms side; own_kept = kept_none p _ _ refl a b c; their_kept = kept_none q _ _ refl d e f }

-- the tests of one's own update, and of the peer's

pub ledger_tests : (h : Held) (p q : Pending) (u : Update) (settled known : ℕ) → IsLedger h p q → settled ≡ length h.theirs.settled → known ≡ length h.own.known
    → kept_tests h.terms h.side p q settled known u ≡ own_tests h u
ledger_tests h p q u settled known k a b =
    ap (λ n. kept_tests h.terms h.side p q n known u) a ∙ ap (λ n. kept_tests h.terms h.side p q (length h.theirs.settled) n u) b
    ∙ tests_kept h.terms h.side p q h.own h.theirs u k.steady.own k.steady.theirs k.own_kept k.their_kept

pub ledger_peer_tests : (h : Held) (p q : Pending) (u : Update) (settled known : ℕ) → IsLedger h p q → settled ≡ length h.own.settled → known ≡ length h.theirs.known
    → kept_tests h.terms (other h.side) q p settled known u ≡ their_tests h u
ledger_peer_tests h p q u settled known k a b =
    ap (λ n. kept_tests h.terms (other h.side) q p n known u) a ∙ ap (λ n. kept_tests h.terms (other h.side) q p (length h.own.settled) n u) b
    ∙ tests_kept h.terms (other h.side) q p h.theirs h.own u k.steady.theirs k.steady.own k.their_kept k.own_kept

pub ledger_made : (h : Held) (p q p' q' : Pending) (u : Update) → IsLedger h p q → first_refusal (own_tests h u) ≡ None → IsGrown p p' (length h.own.known) u → IsNoted q q' (length h.own.known) u → IsLedger (holding_made u h) p' q'
ledger_made h p q p' q' u k e g n = record {
  steady = steady_made h u e k.steady;
  own_kept = kept_grown h.terms h.side _ p p' h.own h.theirs u k.steady.own k.steady.theirs k.steady.their_fair (all_pass _ e) k.own_kept g;
  their_kept = kept_noted q q' h.theirs h.own u k.their_kept n;
}

pub ledger_update : (h : Held) (p q p' q' : Pending) (u : Update) → IsLedger h p q → first_refusal (their_tests h u) ≡ None → IsGrown q q' (length h.theirs.known) u → IsNoted p p' (length h.theirs.known) u → IsLedger (holding_update u h) p' q'
ledger_update h p q p' q' u k e g n = record {
  steady = steady_update h u e k.steady;
  own_kept = kept_noted p p' h.own h.theirs u k.own_kept n;
  their_kept = kept_grown h.terms (other h.side) _ q q' h.theirs h.own u k.steady.theirs k.steady.own k.steady.own_fair (all_pass _ e) k.their_kept g;
}

pub ledger_alike : (h : Held) (p q p' q' : Pending) → IsLedger h p q → IsAlike p p' → IsAlike q q' → IsLedger h p' q'
ledger_alike h p q p' q' k a b = record { steady = k.steady; own_kept = kept_alike p p' h.own h.theirs k.own_kept a; their_kept = kept_alike q q' h.theirs h.own k.their_kept b }

pub ledger_signed : (h : Held) (p q : Pending) → IsLedger h p q → IsLedger (holding_signed h) p q
ledger_signed h p q k = record {
  steady = steady_signed h k.steady;
  own_kept = kept_moved p h.own h.theirs (to_receiver h.own) (to_sender h.theirs) k.own_kept refl refl refl;
  their_kept = kept_moved q h.theirs h.own (to_sender h.theirs) (to_receiver h.own) k.their_kept refl refl refl;
}

pub ledger_signature : (h : Held) (p q q' : Pending) (added removed : ℕ) → IsLedger h p q → added ≡ length h.theirs.known → removed ≡ length h.own.past_receiver
    → q'.offered ≡ q.offered → q'.fulfilled ≡ q.fulfilled + fulfilled_at added removed q.htlcs.items
    → q'.htlcs.items ≡ filter (is_left removed) q.htlcs.items → IsBounded q' → IsLedger (holding_signature h) p q'
ledger_signature h p q q' added removed k x y a b c d = record {
  steady = steady_signature h k.steady;
  own_kept = kept_moved p h.own h.theirs (by_sender (to_sender h.own)) (by_receiver (to_receiver h.theirs)) k.own_kept refl refl refl;
  their_kept = kept_moved q' h.theirs (by_sender (to_sender h.own)) (by_receiver (to_receiver h.theirs)) (by_sender (to_sender h.own))
      (kept_settled q q' h.theirs h.own (by_sender (to_sender h.own)) k.their_kept refl (settled_past h.own k.steady.own) (past_known h.own k.steady.own) a
      (b ∙ ap (λ n. q.fulfilled + fulfilled_at n removed q.htlcs.items) x ∙ ap (λ n. q.fulfilled + fulfilled_at (length h.theirs.known) n q.htlcs.items) y)
      (c ∙ ap (λ n. filter (is_left n) q.htlcs.items) y) d) refl refl refl;
}

pub ledger_revocation : (h : Held) (p q p' : Pending) (added removed : ℕ) → IsLedger h p q → added ≡ length h.own.known → removed ≡ length h.theirs.with_sender
    → p'.offered ≡ p.offered → p'.fulfilled ≡ p.fulfilled + fulfilled_at added removed p.htlcs.items
    → p'.htlcs.items ≡ filter (is_left removed) p.htlcs.items → IsBounded p' → IsLedger (holding_revocation h) p' q
ledger_revocation h p q p' added removed k x y a b c d = record {
  steady = steady_revocation h k.steady;
  own_kept = kept_moved p' h.own (by_sender h.theirs) (by_receiver h.own) (by_sender h.theirs)
      (kept_settled p p' h.own h.theirs (by_sender h.theirs) k.own_kept refl k.steady.theirs.settled (sender_known h.theirs k.steady.theirs) a
      (b ∙ ap (λ n. p.fulfilled + fulfilled_at n removed p.htlcs.items) x ∙ ap (λ n. p.fulfilled + fulfilled_at (length h.own.known) n p.htlcs.items) y)
      (c ∙ ap (λ n. filter (is_left n) p.htlcs.items) y) d) refl refl refl;
  their_kept = kept_moved q h.theirs h.own (by_sender h.theirs) (by_receiver h.own) k.their_kept refl refl refl;
}

-- a direction has at most as many HTLCs as updates
pub offered_few : (p : Pending) (s o : Stages) → IsKept p s o → p.offered ≤ length s.known
offered_few p s o k = let a = k.offered in let b = offers_few s.known in omega (arith, a, b)
