-- What a side's state has of its peer's commitments: each revealed secret is that of the commitment of its number, and the numbers have a limit.
use Rattle.std.proofs.Common.{◌≡◌, ℕ, zero, suc, ◌+◌, ◌≤◌, ◌<◌, Bool, true, false, leb, List, [], ◌∷◌, ◌++◌, length, Some, None, refl, sym, ap, ◌∙◌, subst, ⊎_elim, arith, length-append}
use Rattle.std.specs.Prelude.{slice_get}
use Rattle.std.specs.Str.{bytes_eq}
use Rattle.std.proofs.lemmas.Bool.{or_parts, not-false, leb-false}
use Rattle.std.proofs.lemmas.Option.{none-some}
use Rattle.std.proofs.lemmas.Slice.Eq.{bytes_eq-Decides}
use Rattle.keys.specs.declared.compressed.Key.{Key}
use Rattle.keys.specs.Derivation.{point_of}
use Rattle.terms.specs.declared.sides.Side.{Side}
use Rattle.terms.specs.declared.sides.Side.TheVariants.{A, B}
use Rattle.terms.specs.declared.agreement.Terms.{Terms}
use Rattle.updates.specs.declared.changes.Update.{Update}
use Rattle.updates.proofs.Accepting.{AllPass, all_pass}
use Rattle.channel.specs.declared.limits.TheConstants.{LAST_NUMBER}
use Rattle.channel.specs.declared.commitments.CommitmentState.{CommitmentState}
use Rattle.channel.specs.declared.messages.Message.{Message}
use Rattle.updates.specs.declared.messages.PeerStep.TheVariants.{Update as Updated, CommitmentSigned}
use Rattle.channel.specs.declared.messages.Message.TheVariants.{Step as StepMessage, RevokeAndAck}
use Rattle.channel.specs.States.{Signing, State, state_at_opening, sign_tests, receive_tests, receive_refusal, peers_next, after_update, after_sign, after}
use Rattle.channel.specs.Reestablishing.{forgotten}
use Rattle.channel.specs.Peers.{World as Pair, Acts, updates, signs, receives, Steps, by_a, by_b, IsReached, at_opening, then, IsLived, starts, updated_once, signed_once, received_once, forgot_once}
use Rattle.channel.specs.Keeping.{one_if}
use Rattle.channel.specs.Recording.{peers_newest, peers_signed, IsRecorded, SidesRecord}
use Rattle.book.specs.Growing.{Stays}
use Rattle.world.proofs.Sides.{pushed_at}

-- a secret at a number is that of the point of the peer's commitment of the number
pub record Reveals (s : State) (n : ℕ) (secret : List ℕ) : Type 0 where
  pub commitment : CommitmentState
  pub signed : slice_get s.signed n ≡ Some commitment
  pub point : commitment.point.bytes ≡ point_of secret

pub record IsLimited (s : State) : Type 0 where
  pub reveals : (n : ℕ) (secret : List ℕ) → slice_get s.secrets n ≡ Some secret → Reveals s n secret
  pub count : length s.secrets ≡ s.peer_number
  pub bound : s.peer_number + one_if s.awaiting ≤ LAST_NUMBER

-- ---- each call and message

limited_opened : (terms : Terms) (side : Side) (seed : List ℕ) (point next_point : Key) → IsLimited (state_at_opening terms side seed point next_point)
limited_opened terms side seed point next_point = record { reveals = λ n secret e. absurd (none-some secret e); count = refl; bound = omega arith }

limited_forgotten : (s : State) → IsLimited s → IsLimited (forgotten s)
limited_forgotten s l = record { reveals = λ n secret e. let x = l.reveals n secret e in record { commitment = x.commitment; signed = x.signed; point = x.point }; count = l.count; bound = l.bound }

limited_made : (s : State) (u : Update) → IsLimited s → IsLimited (after_update u s)
limited_made s u l = record { reveals = λ n secret e. let r = l.reveals n secret e in record { commitment = r.commitment; signed = r.signed; point = r.point }; count = l.count; bound = l.bound }

still_there : (xs : List CommitmentState) (y : CommitmentState) → Stays xs (xs ++ y ∷ [])
still_there [] y n x e = absurd (none-some x e)
still_there (z ∷ xs) y zero x e = e
still_there (z ∷ xs) y (suc n) x e = still_there xs y n x e

calm : (s : State) → AllPass (sign_tests s) → (s.awaiting ≡ false) × (s.peer_number < LAST_NUMBER)
calm s (t1, t2) = let parts = or_parts s.awaiting (leb LAST_NUMBER s.peer_number) t1 in (parts.0, leb-false LAST_NUMBER s.peer_number parts.1)

limited_signed : (s : State) → AllPass (sign_tests s) → IsLimited s → IsLimited (after_sign s)
limited_signed s passes l = record {
  reveals = λ n secret e. let r = l.reveals n secret e in record { commitment = r.commitment; signed = still_there s.signed (peers_next s) n r.commitment r.signed; point = r.point };
  count = l.count;
  bound = let below = (calm s passes).1 in omega (arith, below);
}

in_the_middle : {X : Type 0} (xs : List X) (y : X) (ys : List X) → slice_get (xs ++ y ∷ ys) (length xs) ≡ Some y
in_the_middle [] y ys = refl
in_the_middle (x ∷ xs) y ys = in_the_middle xs y ys

-- the peer's newest commitment stands at its number
newest_there : (s : State) → IsRecorded s → slice_get s.signed s.peer_number ≡ Some (peers_newest s)
newest_there s r =
    ap (λ (cs : List CommitmentState). slice_get cs s.peer_number) r.signed ∙ ap (λ n. slice_get (r.past ++ peers_newest s ∷ peers_signed s s.awaiting) n) (sym r.past_count)
    ∙ in_the_middle r.past (peers_newest s) (peers_signed s s.awaiting)

limited_revoked : (tokens_of : Signing) (s : State) (secret : List ℕ) (point : Key) → AllPass (receive_tests tokens_of s (RevokeAndAck (record { secret = secret; next_point = point }))) → IsRecorded s → IsLimited s
    → IsLimited (after s (RevokeAndAck (record { secret = secret; next_point = point })))
limited_revoked tokens_of s secret point (t1, (t2, t3)) r l =
    let awaits = not-false s.awaiting t1 in
    let same : point_of secret ≡ s.point.bytes = (bytes_eq-Decides (point_of secret) s.point.bytes).0 (not-false (bytes_eq (point_of secret) s.point.bytes) t2) in
    let old : s.peer_number + one_if true ≤ LAST_NUMBER = subst (λ (b : Bool). s.peer_number + one_if b ≤ LAST_NUMBER) awaits l.bound in
    let long = length-append s.secrets (secret ∷ []) in
    let count = l.count in
    record {
      reveals = λ n x e.
          ⊎_elim {C = Reveals (after s (RevokeAndAck (record { secret = secret; next_point = point }))) n x}
          (λ (h : slice_get s.secrets n ≡ Some x). let was = l.reveals n x h in record { commitment = was.commitment; signed = was.signed; point = was.point })
          (λ (h : (n ≡ length s.secrets) × (secret ≡ x)).
          let at : n ≡ s.peer_number = h.0 ∙ l.count in
          record { commitment = peers_newest s; signed = ap (slice_get s.signed) at ∙ newest_there s r; point = sym same ∙ ap point_of h.1 })
          (pushed_at s.secrets secret n x e);
      count = omega (arith, long, count);
      bound = omega (arith, old);
    }

limited_after : (tokens_of : Signing) (s : State) (m : Message) → receive_refusal tokens_of s m ≡ None → IsRecorded s → IsLimited s → IsLimited (after s m)
limited_after tokens_of s (StepMessage (Updated u)) e r l = record { reveals = λ n secret e. let x = l.reveals n secret e in record { commitment = x.commitment; signed = x.signed; point = x.point }; count = l.count; bound = l.bound }
limited_after tokens_of s (StepMessage (CommitmentSigned tokens)) e r l =
    record { reveals = λ n secret e. let x = l.reveals n secret e in record { commitment = x.commitment; signed = x.signed; point = x.point }; count = l.count; bound = l.bound }
limited_after tokens_of s (RevokeAndAck revocation) e r l = limited_revoked tokens_of s revocation.secret revocation.next_point (all_pass (receive_tests tokens_of s (RevokeAndAck revocation)) e) r l

pub limited : SidesRecord → (tokens_of : Signing) (s : State) → IsLived tokens_of s → IsLimited s
limited records tokens_of s (starts terms side seed point next_point) = limited_opened terms side seed point next_point
limited records tokens_of s (updated_once {s = r} u e l) = limited_made r u (limited records tokens_of r l)
limited records tokens_of s (signed_once {s = r} e l) = limited_signed r (all_pass (sign_tests r) e) (limited records tokens_of r l)
limited records tokens_of s (received_once {s = r} m e l) = limited_after tokens_of r m e (records tokens_of r l) (limited records tokens_of r l)
limited records tokens_of s (forgot_once {s = r} l) = limited_forgotten r (limited records tokens_of r l)

-- ---- which side is which

side_after : (s : State) (m : Message) → (after s m).held.side ≡ s.held.side
side_after s (StepMessage (Updated u)) = refl
side_after s (StepMessage (CommitmentSigned tokens)) = refl
side_after s (RevokeAndAck revocation) = refl

side_act : (tokens_of : Signing) (me new : State) (queue sent rest : List Message) → Acts tokens_of me queue new sent rest → new.held.side ≡ me.held.side
side_act tokens_of me new queue sent rest (updates u none) = refl
side_act tokens_of me new queue sent rest (signs none) = refl
side_act tokens_of me new queue sent rest (receives m left is none) = side_after me m

side_step : (tokens_of : Signing) (w v : Pair) → Steps tokens_of w v → (w.a.held.side ≡ A) × (w.b.held.side ≡ B) → (v.a.held.side ≡ A) × (v.b.held.side ≡ B)
side_step tokens_of w v (by_a {me = me} {sent = sent} {rest = rest} acts) l = (side_act tokens_of w.a me w.to_a sent rest acts ∙ l.0, l.1)
side_step tokens_of w v (by_b {me = me} {sent = sent} {rest = rest} acts) l = (l.0, side_act tokens_of w.b me w.to_b sent rest acts ∙ l.1)

pub which_side : (tokens_of : Signing) (terms : Terms) (seed_a seed_b : List ℕ) (w : Pair) → IsReached tokens_of terms seed_a seed_b w → (w.a.held.side ≡ A) × (w.b.held.side ≡ B)
which_side tokens_of terms seed_a seed_b w at_opening = (refl, refl)
which_side tokens_of terms seed_a seed_b w (then {w = v} r s) = side_step tokens_of v w s (which_side tokens_of terms seed_a seed_b v r)
