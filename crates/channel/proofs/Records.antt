-- The commitments that a state records have the views of its stages.
use Rattle.std.proofs.Common.{◌≡◌, ℕ, ◌+◌, Bool, true, false, List, [], ◌∷◌, ◌++◌, length, sym, ap, ◌∙◌, refl, arith, None, append_assoc, length-append}
use Rattle.std.proofs.lemmas.Bool.{or_parts, not-false}
use Rattle.keys.specs.declared.compressed.Key.{Key}
use Rattle.terms.specs.declared.sides.Side.{Side}
use Rattle.terms.specs.declared.sides.Side.TheVariants.{A, B}
use Rattle.terms.specs.declared.agreement.Terms.{Terms}
use Rattle.terms.specs.Sides.{other}
use Rattle.updates.specs.declared.changes.Update.{Update}
use Rattle.updates.specs.Views.{view_by}
use Rattle.updates.proofs.Accepting.{AllPass, all_pass}
use Rattle.channel.specs.declared.commitments.CommitmentState.{CommitmentState}
use Rattle.updates.specs.declared.messages.Tokens.{Tokens}
use Rattle.channel.specs.declared.messages.Message.{Message}
use Rattle.updates.specs.declared.messages.PeerStep.TheVariants.{Update as Updated, CommitmentSigned}
use Rattle.channel.specs.declared.messages.Message.TheVariants.{Step, RevokeAndAck}
use Rattle.channel.specs.Points.{point_at}
use Rattle.channel.specs.States.{Signing, State, state_at_opening, sign_tests, receive_tests, receive_refusal, peers_next, own_next, after_update, after_sign, after}
use Rattle.channel.specs.Reestablishing.{forgotten}
use Rattle.channel.specs.Peers.{starts, updated_once, signed_once, received_once, forgot_once}
use Rattle.channel.specs.Recording.{own_newest, peers_newest, peers_signed, IsRecorded, SidesRecord}

pub view_turned : (terms : Terms) (side : Side) (p q : List Update) → view_by terms (other side) p q ≡ view_by terms side q p
view_turned terms A p q = refl
view_turned terms B p q = refl

pub twice : (side : Side) → other (other side) ≡ side
twice A = refl
twice B = refl

longer : (cs : List CommitmentState) (c : CommitmentState) (n : ℕ) → length cs ≡ n → length (cs ++ c ∷ []) ≡ n + 1
longer cs c n e = let h = length-append cs (c ∷ []) in omega (arith, e, h)

recorded_signed : (s : State) → s.awaiting ≡ false → IsRecorded s → IsRecorded (after_sign s)
recorded_signed s e r = record {
  older = r.older;
  mine = r.mine;
  older_count = r.older_count;
  past = r.past;
  signed = ap (λ l. l ++ peers_next s ∷ []) (r.signed ∙ ap (λ b. r.past ++ peers_newest s ∷ peers_signed s b) e) ∙ append_assoc r.past (peers_newest s ∷ []) (peers_next s ∷ []);
  past_count = r.past_count;
}

-- one's own next commitment becomes its newest
pub own_same : (s : State) (tokens : Tokens) → own_next s ≡ own_newest (after s (Step (CommitmentSigned tokens)))
own_same s tokens =
    ap (λ v. record { view = v; owner = other (other s.held.side); number = s.number + 1; point = point_at s.seed (s.number + 1) }) (view_turned s.held.terms s.held.side s.held.theirs.known s.held.own.past_receiver)
    ∙ ap (λ o. record { view = view_by s.held.terms s.held.side s.held.own.past_receiver s.held.theirs.known; owner = o; number = s.number + 1; point = point_at s.seed (s.number + 1) }) (twice s.held.side)

recorded_signature : (s : State) (tokens : Tokens) → IsRecorded s → IsRecorded (after s (Step (CommitmentSigned tokens)))
recorded_signature s tokens r = record {
  older = r.older ++ own_newest s ∷ [];
  mine = ap (λ l. l ++ own_next s ∷ []) r.mine ∙ ap (λ c. (r.older ++ own_newest s ∷ []) ++ c ∷ []) (own_same s tokens);
  older_count = longer r.older (own_newest s) s.number r.older_count;
  past = r.past;
  signed = r.signed ∙ ap (λ l. r.past ++ peers_newest s ∷ l) (unchanged s.awaiting);
  past_count = r.past_count;
}
  where
    unchanged : (b : Bool) → peers_signed s b ≡ peers_signed (after s (Step (CommitmentSigned tokens))) b
    unchanged true = refl
    unchanged false = refl

recorded_made : (s : State) (u : Update) → IsRecorded s → IsRecorded (after_update u s)
recorded_made s u r = record { older = r.older; mine = r.mine; older_count = r.older_count; past = r.past; signed = r.signed ∙ ap (λ l. r.past ++ peers_newest s ∷ l) (unchanged s.awaiting); past_count = r.past_count }
  where
    unchanged : (b : Bool) → peers_signed s b ≡ peers_signed (after_update u s) b
    unchanged true = refl
    unchanged false = refl

recorded_forgotten : (s : State) → IsRecorded s → IsRecorded (forgotten s)
recorded_forgotten s r = record { older = r.older; mine = r.mine; older_count = r.older_count; past = r.past; signed = r.signed ∙ ap (λ l. r.past ++ peers_newest s ∷ l) (unchanged s.awaiting); past_count = r.past_count }
  where
    unchanged : (b : Bool) → peers_signed s b ≡ peers_signed (forgotten s) b
    unchanged true = refl
    unchanged false = refl

recorded_update : (s : State) (u : Update) → IsRecorded s → IsRecorded (after s (Step (Updated u)))
recorded_update s u r = record { older = r.older; mine = r.mine; older_count = r.older_count; past = r.past; signed = r.signed ∙ ap (λ l. r.past ++ peers_newest s ∷ l) (unchanged s.awaiting); past_count = r.past_count }
  where
    unchanged : (b : Bool) → peers_signed s b ≡ peers_signed (after s (Step (Updated u))) b
    unchanged true = refl
    unchanged false = refl

recorded_revocation : (s : State) (secret : List ℕ) (next_point : Key) → s.awaiting ≡ true → IsRecorded s → IsRecorded (after s (RevokeAndAck (record { secret = secret; next_point = next_point })))
recorded_revocation s secret next_point e r = record {
  older = r.older;
  mine = r.mine;
  older_count = r.older_count;
  past = r.past ++ peers_newest s ∷ [];
  signed = r.signed ∙ ap (λ b. r.past ++ peers_newest s ∷ peers_signed s b) e ∙ sym (append_assoc r.past (peers_newest s ∷ []) (peers_signed s true));
  past_count = longer r.past (peers_newest s) s.peer_number r.past_count;
}

recorded_opened : (terms : Terms) (side : Side) (seed : List ℕ) (point next_point : Key) → IsRecorded (state_at_opening terms side seed point next_point)
recorded_opened terms side seed point next_point = record {
  older = [];
  mine = refl;
  older_count = refl;
  past = [];
  signed = ap (λ v. record { view = v; owner = other side; number = 0; point = point } ∷ []) (view_turned terms side [] []);
  past_count = refl;
}

pub calm_when : (s : State) → AllPass (sign_tests s) → s.awaiting ≡ false
calm_when s (t1, t2) = (or_parts s.awaiting _ t1).0

pub awaits_when : (tokens_of : Signing) (s : State) (secret : List ℕ) (next_point : Key) → AllPass (receive_tests tokens_of s (RevokeAndAck (record { secret = secret; next_point = next_point }))) → s.awaiting ≡ true
awaits_when tokens_of s secret next_point (t1, t2) = not-false s.awaiting t1

recorded_after : (tokens_of : Signing) (s : State) (m : Message) → receive_refusal tokens_of s m ≡ None → IsRecorded s → IsRecorded (after s m)
recorded_after tokens_of s (Step (Updated u)) e r = recorded_update s u r
recorded_after tokens_of s (Step (CommitmentSigned tokens)) e r = recorded_signature s tokens r
recorded_after tokens_of s (RevokeAndAck revocation) e r =
    recorded_revocation s revocation.secret revocation.next_point (awaits_when tokens_of s revocation.secret revocation.next_point (all_pass (receive_tests tokens_of s (RevokeAndAck revocation)) e)) r

pub sides_record : SidesRecord
sides_record tokens_of s (starts terms side seed point next_point) = recorded_opened terms side seed point next_point
sides_record tokens_of s (updated_once {s = r} u e l) = recorded_made r u (sides_record tokens_of r l)
sides_record tokens_of s (signed_once {s = r} e l) = recorded_signed r (calm_when r (all_pass (sign_tests r) e)) (sides_record tokens_of r l)
sides_record tokens_of s (received_once {s = r} m e l) = recorded_after tokens_of r m e (sides_record tokens_of r l)
sides_record tokens_of s (forgot_once {s = r} l) = recorded_forgotten r (sides_record tokens_of r l)
