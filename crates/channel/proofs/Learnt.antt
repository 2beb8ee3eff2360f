-- The secrets that the peer revealed are those of its commitments, and no number goes past the last.
use Rattle.std.proofs.Common.{◌≡◌, ℕ, zero, suc, ◌+◌, ◌≤◌, Bool, true, leb, List, [], ◌∷◌, ◌++◌, length, Some, None, refl, sym, ap, ◌∙◌, subst, ⊎_elim, inl, inr, arith, length-append}
use Rattle.std.specs.Prelude.{◌⊎◌, slice_get}
use Rattle.std.specs.Str.{bytes_eq}
use Rattle.std.proofs.lemmas.Bool.{or_parts, not-false, leb-false}
use Rattle.std.proofs.lemmas.Option.{same_Some, none-some, slice_get_within}
use Rattle.std.proofs.lemmas.Slice.Eq.{bytes_eq-Decides}
use Rattle.keys.specs.declared.compressed.Key.{Key}
use Rattle.keys.specs.Derivation.{point_of}
use Rattle.updates.specs.declared.messages.Tokens.{Tokens}
use Rattle.updates.specs.declared.messages.PeerStep.TheVariants.{Update as Updated, CommitmentSigned}
use Rattle.updates.proofs.Accepting.{AllPass, all_pass}
use Rattle.channel.specs.declared.limits.TheConstants.{LAST_NUMBER}
use Rattle.channel.specs.declared.commitments.CommitmentState.{CommitmentState}
use Rattle.channel.specs.declared.messages.Message.{Message}
use Rattle.channel.specs.declared.messages.Message.TheVariants.{Step, RevokeAndAck}
use Rattle.channel.specs.States.{Signing, State, sign_tests, receive_tests, receive_refusal, peers_next, after_sign, after}
use Rattle.channel.specs.Peers.{starts, updated_once, signed_once, received_once, forgot_once}
use Rattle.channel.specs.Keeping.{one_if}
use Rattle.channel.specs.Recording.{peers_newest, peers_signed, IsRecorded, AreByNumber}
use Rattle.channel.specs.Learning.{HasLearnt, SidesLearn, IsLimited, SidesAreLimited}
use Rattle.channel.proofs.Records.{sides_record, awaits_when}
use Rattle.channel.proofs.ByNumber.{sides_number}

-- ---- lists

-- an element of a list with one more at its end
pushed_at : {X : Type 0} (xs : List X) (o : X) (i : ℕ) (p : X) → slice_get (xs ++ o ∷ []) i ≡ Some p → (slice_get xs i ≡ Some p) ⊎ ((i ≡ length xs) × (o ≡ p))
pushed_at [] o zero p at = inr (refl, same_Some o p at)
pushed_at [] o (suc i) p at = absurd (none-some p at)
pushed_at (x ∷ xs) o zero p at = inl at
pushed_at {X} (x ∷ xs) o (suc i) p at =
    ⊎_elim (λ (h : slice_get xs i ≡ Some p). inl h) (λ (h : (i ≡ length xs) × (o ≡ p)). inr (ap suc h.0, h.1)) (pushed_at xs o i p at)

in_the_middle : {X : Type 0} (xs : List X) (y : X) (ys : List X) → slice_get (xs ++ y ∷ ys) (length xs) ≡ Some y
in_the_middle [] y ys = refl
in_the_middle (x ∷ xs) y ys = in_the_middle xs y ys

-- ---- the peer's secrets

-- the peer's newest commitment stands at its number
newest_there : (s : State) → IsRecorded s → slice_get s.signed s.peer_number ≡ Some (peers_newest s)
newest_there s r =
    ap (λ (cs : List CommitmentState). slice_get cs s.peer_number) r.signed ∙ ap (λ n. slice_get (r.past ++ peers_newest s ∷ peers_signed s s.awaiting) n) (sym r.past_count)
    ∙ in_the_middle r.past (peers_newest s) (peers_signed s s.awaiting)

-- the commitment that is signed is not revoked yet
learnt_signed : (s : State) → AreByNumber s → HasLearnt s → HasLearnt (after_sign s)
learnt_signed s are l = record {
  count = l.count;
  each = λ n k secret there known.
      ⊎_elim {C = k.point.bytes ≡ point_of secret} (λ (old : slice_get s.signed n ≡ Some k). l.each n k secret old known)
      (λ (new : (n ≡ length s.signed) × (peers_next s ≡ k)).
      let revoked = slice_get_within s.secrets n secret known in
      let many = are.signed.count in
      let few = l.count in
      let at = new.0 in
      absurd (omega (arith, revoked, many, few, at)))
      (pushed_at s.signed (peers_next s) n k there);
}

opens : (tokens_of : Signing) (s : State) (secret : List ℕ) (point : Key) → AllPass (receive_tests tokens_of s (RevokeAndAck (record { secret = secret; next_point = point }))) → point_of secret ≡ s.point.bytes
opens tokens_of s secret point (t1, (t2, t3)) = (bytes_eq-Decides (point_of secret) s.point.bytes).0 (not-false (bytes_eq (point_of secret) s.point.bytes) t2)

learnt_revoked : (s : State) (secret : List ℕ) (point : Key) → point_of secret ≡ s.point.bytes → IsRecorded s → HasLearnt s → HasLearnt (after s (RevokeAndAck (record { secret = secret; next_point = point })))
learnt_revoked s secret point same r l =
    let long = length-append s.secrets (secret ∷ []) in
    let count = l.count in
    record {
      count = omega (arith, long, count);
      each = λ n k x there known.
          ⊎_elim {C = k.point.bytes ≡ point_of x} (λ (old : slice_get s.secrets n ≡ Some x). l.each n k x there old)
          (λ (new : (n ≡ length s.secrets) × (secret ≡ x)).
          let at : n ≡ s.peer_number = new.0 ∙ l.count in
          let newest : peers_newest s ≡ k = same_Some (peers_newest s) k (sym (newest_there s r) ∙ ap (slice_get s.signed) (sym at) ∙ there) in
          ap (λ (c : CommitmentState). c.point.bytes) (sym newest) ∙ sym same ∙ ap point_of new.1)
          (pushed_at s.secrets secret n x known);
    }

learnt_after : (tokens_of : Signing) (s : State) (m : Message) → receive_refusal tokens_of s m ≡ None → IsRecorded s → HasLearnt s → HasLearnt (after s m)
learnt_after tokens_of s (Step (Updated u)) e r l = record { count = l.count; each = l.each }
learnt_after tokens_of s (Step (CommitmentSigned tokens)) e r l = record { count = l.count; each = l.each }
learnt_after tokens_of s (RevokeAndAck revocation) e r l =
    learnt_revoked s revocation.secret revocation.next_point (opens tokens_of s revocation.secret revocation.next_point (all_pass (receive_tests tokens_of s (RevokeAndAck revocation)) e)) r l

pub sides_learn : SidesLearn
sides_learn tokens_of s (starts terms side seed point next_point) = record { count = refl; each = λ n k secret there known. absurd (none-some secret known) }
sides_learn tokens_of s (updated_once {s = r} u e l) = let h = sides_learn tokens_of r l in record { count = h.count; each = h.each }
sides_learn tokens_of s (signed_once {s = r} e l) = learnt_signed r (sides_number tokens_of r l) (sides_learn tokens_of r l)
sides_learn tokens_of s (received_once {s = r} m e l) = learnt_after tokens_of r m e (sides_record tokens_of r l) (sides_learn tokens_of r l)
sides_learn tokens_of s (forgot_once {s = r} l) = let h = sides_learn tokens_of r l in record { count = h.count; each = h.each }

-- ---- the numbers

limited_signed : (s : State) → AllPass (sign_tests s) → IsLimited s → IsLimited (after_sign s)
limited_signed s (t1, t2) l = record {
  number = l.number;
  peer_number = let below = leb-false LAST_NUMBER s.peer_number (or_parts s.awaiting (leb LAST_NUMBER s.peer_number) t1).1 in omega (arith, below);
}

limited_signature : (tokens_of : Signing) (s : State) (tokens : Tokens) → AllPass (receive_tests tokens_of s (Step (CommitmentSigned tokens))) → IsLimited s → IsLimited (after s (Step (CommitmentSigned tokens)))
limited_signature tokens_of s tokens (t1, t2) l = record { number = let below = leb-false LAST_NUMBER s.number t1 in omega (arith, below); peer_number = l.peer_number }

limited_revoked : (s : State) (secret : List ℕ) (point : Key) → s.awaiting ≡ true → IsLimited s → IsLimited (after s (RevokeAndAck (record { secret = secret; next_point = point })))
limited_revoked s secret point awaits l =
    let old : s.peer_number + one_if true ≤ LAST_NUMBER = subst (λ (b : Bool). s.peer_number + one_if b ≤ LAST_NUMBER) awaits l.peer_number in
    record { number = l.number; peer_number = omega (arith, old) }

limited_after : (tokens_of : Signing) (s : State) (m : Message) → receive_refusal tokens_of s m ≡ None → IsLimited s → IsLimited (after s m)
limited_after tokens_of s (Step (Updated u)) e l = record { number = l.number; peer_number = l.peer_number }
limited_after tokens_of s (Step (CommitmentSigned tokens)) e l = limited_signature tokens_of s tokens (all_pass (receive_tests tokens_of s (Step (CommitmentSigned tokens))) e) l
limited_after tokens_of s (RevokeAndAck revocation) e l =
    limited_revoked s revocation.secret revocation.next_point (awaits_when tokens_of s revocation.secret revocation.next_point (all_pass (receive_tests tokens_of s (RevokeAndAck revocation)) e)) l

pub sides_are_limited : SidesAreLimited
sides_are_limited tokens_of s (starts terms side seed point next_point) = record { number = omega arith; peer_number = omega arith }
sides_are_limited tokens_of s (updated_once {s = r} u e l) = let h = sides_are_limited tokens_of r l in record { number = h.number; peer_number = h.peer_number }
sides_are_limited tokens_of s (signed_once {s = r} e l) = limited_signed r (all_pass (sign_tests r) e) (sides_are_limited tokens_of r l)
sides_are_limited tokens_of s (received_once {s = r} m e l) = limited_after tokens_of r m e (sides_are_limited tokens_of r l)
sides_are_limited tokens_of s (forgot_once {s = r} l) = let h = sides_are_limited tokens_of r l in record { number = h.number; peer_number = h.peer_number }
