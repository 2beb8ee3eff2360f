-- The commitments that a state records stand by number.
use Rattle.std.proofs.Common.{◌≡◌, ℕ, ◌+◌, true, false, List, [], ◌∷◌, ◌++◌, None, ap, subst, refl, arith}
use Rattle.keys.specs.declared.compressed.Key.{Key}
use Rattle.terms.specs.Sides.{other}
use Rattle.updates.proofs.Accepting.{all_pass}
use Rattle.updates.specs.declared.messages.Tokens.{Tokens}
use Rattle.channel.specs.declared.messages.Message.{Message}
use Rattle.updates.specs.declared.messages.PeerStep.TheVariants.{Update as Updated, CommitmentSigned}
use Rattle.channel.specs.declared.messages.Message.TheVariants.{Step, RevokeAndAck}
use Rattle.channel.specs.Points.{point_at}
use Rattle.channel.specs.States.{Signing, State, sign_tests, receive_tests, receive_refusal, peers_next, own_next, after_sign, after}
use Rattle.channel.specs.Peers.{starts, updated_once, signed_once, received_once, forgot_once}
use Rattle.channel.specs.Keeping.{one_if}
use Rattle.channel.specs.Numbered.{AreNumbered}
use Rattle.channel.specs.Agreeing.{IsSoundState}
use Rattle.channel.specs.Recording.{AreByNumber, SidesNumber}
use Rattle.channel.proofs.Numbered.{numbered_push, numbered_first, numbered_peers, numbered_own}
use Rattle.channel.proofs.Records.{calm_when, awaits_when}
use Rattle.channel.proofs.Sides.{lived_kept, sound_in}

-- one more of the peer's commitments is signed
by_signed : (s : State) → s.awaiting ≡ false → IsSoundState s → AreByNumber s → AreByNumber (after_sign s)
by_signed s e sound n =
    let none : one_if s.awaiting ≡ 0 = ap one_if e in
    let before : s.peer_number + 1 + one_if s.awaiting ≡ s.peer_number + 1 = omega (arith, none) in
    record {
      mine = n.mine;
      signed =
          numbered_push s.held.terms (other s.held.side) (s.peer_number + 1) s.signed (s.signed ++ peers_next s ∷ []) (peers_next s)
          (subst (λ k. AreNumbered s.held.terms (other s.held.side) k s.signed) before n.signed) refl (numbered_peers s (peers_next s) refl sound.to_sign);
    }

-- one more of one's own came signed
by_signature : (s : State) (tokens : Tokens) → IsSoundState s → AreByNumber s → AreByNumber (after s (Step (CommitmentSigned tokens)))
by_signature s tokens sound n = record {
  mine = numbered_push s.held.terms s.held.side (s.number + 1) s.mine (s.mine ++ own_next s ∷ []) (own_next s) n.mine refl (numbered_own s (own_next s) refl sound.next);
  signed = n.signed;
}

-- the peer's next commitment becomes its newest
by_revocation : (s : State) (secret : List ℕ) (next_point : Key) → s.awaiting ≡ true → AreByNumber s → AreByNumber (after s (RevokeAndAck (record { secret = secret; next_point = next_point })))
by_revocation s secret next_point e n =
    let one : one_if s.awaiting ≡ 1 = ap one_if e in
    let same : s.peer_number + 1 + one_if s.awaiting ≡ s.peer_number + 1 + 1 + 0 = omega (arith, one) in
    record { mine = n.mine; signed = subst (λ k. AreNumbered s.held.terms (other s.held.side) k s.signed) same n.signed }

by_message : (tokens_of : Signing) (s : State) (m : Message) → receive_refusal tokens_of s m ≡ None → IsSoundState s → AreByNumber s → AreByNumber (after s m)
by_message tokens_of s (Step (Updated u)) e sound n = record { mine = n.mine; signed = n.signed }
by_message tokens_of s (Step (CommitmentSigned tokens)) e sound n = by_signature s tokens sound n
by_message tokens_of s (RevokeAndAck revocation) e sound n =
    by_revocation s revocation.secret revocation.next_point (awaits_when tokens_of s revocation.secret revocation.next_point (all_pass (receive_tests tokens_of s (RevokeAndAck revocation)) e)) n

pub sides_number : SidesNumber
sides_number tokens_of s (starts terms side seed point next_point) = record { mine = numbered_first terms side (point_at seed 0); signed = numbered_first terms (other side) point }
sides_number tokens_of s (updated_once {s = r} u e l) = let n = sides_number tokens_of r l in record { mine = n.mine; signed = n.signed }
sides_number tokens_of s (signed_once {s = r} e l) = by_signed r (calm_when r (all_pass (sign_tests r) e)) (sound_in r (lived_kept tokens_of r l)) (sides_number tokens_of r l)
sides_number tokens_of s (received_once {s = r} m e l) = by_message tokens_of r m e (sound_in r (lived_kept tokens_of r l)) (sides_number tokens_of r l)
sides_number tokens_of s (forgot_once {s = r} l) = let n = sides_number tokens_of r l in record { mine = n.mine; signed = n.signed }
