-- The state after all messages of its queue have come.
use Rattle.std.proofs.Common.{◌≡◌, ℕ, ◌+◌, Bool, true, List, [], ◌∷◌, ◌++◌, sym, ◌∙◌, refl, arith, None, append-nil, append_assoc}
use Rattle.updates.specs.declared.changes.Update.{Update}
use Rattle.updates.specs.Stages.{Stages, with_update}
use Rattle.channel.specs.declared.commitments.CommitmentState.{CommitmentState}
use Rattle.channel.specs.declared.messages.Message.{Message}
use Rattle.updates.specs.declared.messages.PeerStep.TheVariants.{Update as Updated, CommitmentSigned}
use Rattle.channel.specs.declared.messages.Message.TheVariants.{Step, RevokeAndAck}
use Rattle.updates.specs.Steady.{holding_made}
use Rattle.channel.specs.States.{Signing, State, receive_refusal, after, own_next}
use Rattle.terms.specs.Sides.{other}
use Rattle.updates.proofs.Sums.{begins, begins_on}
use Rattle.updates.proofs.Accepting.{update_accepted}
use Rattle.channel.proofs.Sides.{IsKept, kept_after}
use Rattle.updates.proofs.Funds.{settled_past}
use Rattle.updates.specs.Steady.{IsBeginning}

-- the state after all messages of a queue
abbrev pub drained : List Message → State → State
drained [] s = s
drained (m ∷ queue) s = drained queue (after s m)

-- none of them is refused
abbrev pub Flows : Signing → List Message → State → Type 0
Flows tokens_of [] s = Unit {0}
Flows tokens_of (m ∷ queue) s = (receive_refusal tokens_of s m ≡ None) × Flows tokens_of queue (after s m)

pub drained-append : (queue more : List Message) (s : State) → drained (queue ++ more) s ≡ drained more (drained queue s)
drained-append [] more s = refl
drained-append (m ∷ queue) more s = drained-append queue more (after s m)

pub flows-append : (tokens_of : Signing) (queue more : List Message) (s : State) → Flows tokens_of queue s → Flows tokens_of more (drained queue s) → Flows tokens_of (queue ++ more) s
flows-append tokens_of [] more s f g = g
flows-append tokens_of (m ∷ queue) more s f g = (f.0, flows-append tokens_of queue more (after s m) f.1 g)

-- the number of signatures and revocations in a queue
abbrev pub is_signature : Message → ℕ
is_signature (Step (Updated u)) = 0
is_signature (Step (CommitmentSigned tokens)) = 1
is_signature (RevokeAndAck revocation) = 0

abbrev pub is_revocation : Message → ℕ
is_revocation (Step (Updated u)) = 0
is_revocation (Step (CommitmentSigned tokens)) = 0
is_revocation (RevokeAndAck revocation) = 1

abbrev pub signatures_in : List Message → ℕ
signatures_in [] = 0
signatures_in (m ∷ queue) = is_signature m + signatures_in queue

abbrev pub revocations_in : List Message → ℕ
revocations_in [] = 0
revocations_in (m ∷ queue) = is_revocation m + revocations_in queue

pub signatures_in-append : (queue more : List Message) → signatures_in (queue ++ more) ≡ signatures_in queue + signatures_in more
signatures_in-append [] more = omega arith
signatures_in-append (m ∷ queue) more = let h = signatures_in-append queue more in omega (arith, h)

pub revocations_in-append : (queue more : List Message) → revocations_in (queue ++ more) ≡ revocations_in queue + revocations_in more
revocations_in-append [] more = omega arith
revocations_in-append (m ∷ queue) more = let h = revocations_in-append queue more in omega (arith, h)

-- an update of one's own, made before or after they come; the ids of what one ever fulfilled may be any

abbrev pub made : Update → List ℕ → State → State
made u ids s = record s { held = holding_made u s.held; fulfilled = ids }

pub drained_made : (queue : List Message) (u : Update) (ids : List ℕ) (s : State) → drained queue (made u ids s) ≡ made u ids (drained queue s)
drained_made [] u ids s = refl
drained_made (Step (Updated v) ∷ queue) u ids s = drained_made queue u ids (after s (Step (Updated v)))
drained_made (Step (CommitmentSigned tokens) ∷ queue) u ids s = drained_made queue u ids (after s (Step (CommitmentSigned tokens)))
drained_made (RevokeAndAck revocation ∷ queue) u ids s = drained_made queue u ids (after s (RevokeAndAck revocation))

pub flows_made : (tokens_of : Signing) (queue : List Message) (u : Update) (ids : List ℕ) (s : State) → Flows tokens_of queue s → Flows tokens_of queue (made u ids s)
flows_made tokens_of [] u ids s f = tt
flows_made tokens_of (Step (Updated v) ∷ queue) u ids s f =
    (update_accepted s.held.terms (other s.held.side) s.held.theirs s.held.own s.held.theirs (with_update u s.held.own) v (record { known = refl; settled = refl; others_known = (u ∷ [], refl); others_settled = begins s.held.own.settled }) f.0, flows_made tokens_of queue u ids (after s (Step (Updated v))) f.1)
flows_made tokens_of (Step (CommitmentSigned tokens) ∷ queue) u ids s f = (f.0, flows_made tokens_of queue u ids (after s (Step (CommitmentSigned tokens))) f.1)
flows_made tokens_of (RevokeAndAck revocation ∷ queue) u ids s f = (f.0, flows_made tokens_of queue u ids (after s (RevokeAndAck revocation)) f.1)

-- these ids are not looked at

abbrev pub having_fulfilled : List ℕ → State → State
having_fulfilled ids s = record s { fulfilled = ids }

pub drained_fulfilled : (queue : List Message) (ids : List ℕ) (s : State) → drained queue (having_fulfilled ids s) ≡ having_fulfilled ids (drained queue s)
drained_fulfilled [] ids s = refl
drained_fulfilled (Step (Updated v) ∷ queue) ids s = drained_fulfilled queue ids (after s (Step (Updated v)))
drained_fulfilled (Step (CommitmentSigned tokens) ∷ queue) ids s = drained_fulfilled queue ids (after s (Step (CommitmentSigned tokens)))
drained_fulfilled (RevokeAndAck revocation ∷ queue) ids s = drained_fulfilled queue ids (after s (RevokeAndAck revocation))

pub flows_fulfilled : (tokens_of : Signing) (queue : List Message) (ids : List ℕ) (s : State) → Flows tokens_of queue s → Flows tokens_of queue (having_fulfilled ids s)
flows_fulfilled tokens_of [] ids s f = tt
flows_fulfilled tokens_of (Step (Updated v) ∷ queue) ids s f = (f.0, flows_fulfilled tokens_of queue ids (after s (Step (Updated v))) f.1)
flows_fulfilled tokens_of (Step (CommitmentSigned tokens) ∷ queue) ids s f = (f.0, flows_fulfilled tokens_of queue ids (after s (Step (CommitmentSigned tokens))) f.1)
flows_fulfilled tokens_of (RevokeAndAck revocation ∷ queue) ids s f = (f.0, flows_fulfilled tokens_of queue ids (after s (RevokeAndAck revocation)) f.1)

-- a signature given out, where no revocation is on its way
abbrev pub with_receiver : List Update → Stages → Stages
with_receiver part s = record { known = s.known; with_receiver = part; past_receiver = s.past_receiver; with_sender = s.with_sender; settled = s.settled }

abbrev pub with_sender : List Update → Stages → Stages
with_sender part s = record { known = s.known; with_receiver = s.with_receiver; past_receiver = s.past_receiver; with_sender = part; settled = s.settled }

abbrev pub with_signature : List Update → List Update → List CommitmentState → Bool → State → State
with_signature known past signed revoked s = record s {
  held = record { terms = s.held.terms; side = s.held.side; own = with_receiver known s.held.own; theirs = with_sender past s.held.theirs };
  awaiting = true;
  signed = signed;
  revoked_last = revoked;
}

-- a received signature is answered by a revocation, which then goes out last
abbrev pub revoked_after : Bool → List Message → Bool
revoked_after revoked [] = revoked
revoked_after revoked (Step (Updated v) ∷ queue) = revoked_after revoked queue
revoked_after revoked (Step (CommitmentSigned tokens) ∷ queue) = revoked_after true queue
revoked_after revoked (RevokeAndAck revocation ∷ queue) = revoked_after revoked queue

pub drained_signed : (queue : List Message) (known past : List Update) (cs : List CommitmentState) (revoked : Bool) (s : State) → revocations_in queue ≡ 0
    → drained queue (with_signature known past cs revoked s) ≡ with_signature known past cs (revoked_after revoked queue) (drained queue s)
drained_signed [] known past cs revoked s e = refl
drained_signed (Step (Updated v) ∷ queue) known past cs revoked s e = drained_signed queue known past cs revoked (after s (Step (Updated v))) (omega (arith, e))
drained_signed (Step (CommitmentSigned tokens) ∷ queue) known past cs revoked s e = drained_signed queue known past cs true (after s (Step (CommitmentSigned tokens))) (omega (arith, e))
drained_signed (RevokeAndAck revocation ∷ queue) known past cs revoked s e = absurd (omega (arith, e))

pub flows_signed : (tokens_of : Signing) (queue : List Message) (known past : List Update) (cs : List CommitmentState) (revoked : Bool) (s : State) → revocations_in queue ≡ 0
    → Flows tokens_of queue s → Flows tokens_of queue (with_signature known past cs revoked s)
flows_signed tokens_of [] known past cs revoked s e f = tt
flows_signed tokens_of (Step (Updated v) ∷ queue) known past cs revoked s e f = (f.0, flows_signed tokens_of queue known past cs revoked (after s (Step (Updated v))) (omega (arith, e)) f.1)
flows_signed tokens_of (Step (CommitmentSigned tokens) ∷ queue) known past cs revoked s e f = (f.0, flows_signed tokens_of queue known past cs true (after s (Step (CommitmentSigned tokens))) (omega (arith, e)) f.1)
flows_signed tokens_of (RevokeAndAck revocation ∷ queue) known past cs revoked s e f = absurd (omega (arith, e))

-- what the messages leave as it was

pub record SameOf (s t : State) : Type 0 where
  pub terms : t.held.terms ≡ s.held.terms
  pub side : t.held.side ≡ s.held.side
  pub seed : t.seed ≡ s.seed
  pub known : t.held.own.known ≡ s.held.own.known
  pub receiver : t.held.own.with_receiver ≡ s.held.own.with_receiver
  pub sender : t.held.theirs.with_sender ≡ s.held.theirs.with_sender

pub drained_same : (queue : List Message) (s : State) → SameOf s (drained queue s)
drained_same [] s = record { terms = refl; side = refl; seed = refl; known = refl; receiver = refl; sender = refl }
drained_same (Step (Updated v) ∷ queue) s = let h = drained_same queue (after s (Step (Updated v))) in record { terms = h.terms; side = h.side; seed = h.seed; known = h.known; receiver = h.receiver; sender = h.sender }
drained_same (Step (CommitmentSigned tokens) ∷ queue) s = let h = drained_same queue (after s (Step (CommitmentSigned tokens))) in record { terms = h.terms; side = h.side; seed = h.seed; known = h.known; receiver = h.receiver; sender = h.sender }
drained_same (RevokeAndAck revocation ∷ queue) s = let h = drained_same queue (after s (RevokeAndAck revocation)) in record { terms = h.terms; side = h.side; seed = h.seed; known = h.known; receiver = h.receiver; sender = h.sender }

-- where no signature is among them
pub record SameUnsigned (s t : State) : Type 0 where
  pub receiver : t.held.theirs.with_receiver ≡ s.held.theirs.with_receiver
  pub sender : t.held.own.with_sender ≡ s.held.own.with_sender
  pub number : t.number ≡ s.number

pub drained_unsigned : (queue : List Message) (s : State) → signatures_in queue ≡ 0 → SameUnsigned s (drained queue s)
drained_unsigned [] s e = record { receiver = refl; sender = refl; number = refl }
drained_unsigned (Step (Updated v) ∷ queue) s e = let h = drained_unsigned queue (after s (Step (Updated v))) (omega (arith, e)) in record { receiver = h.receiver; sender = h.sender; number = h.number }
drained_unsigned (Step (CommitmentSigned tokens) ∷ queue) s e = absurd (omega (arith, e))
drained_unsigned (RevokeAndAck revocation ∷ queue) s e = let h = drained_unsigned queue (after s (RevokeAndAck revocation)) (omega (arith, e)) in record { receiver = h.receiver; sender = h.sender; number = h.number }

-- where no revocation is among them
pub record SameUnrevoked (s t : State) : Type 0 where
  pub awaiting : t.awaiting ≡ s.awaiting
  pub next_point : t.next_point ≡ s.next_point
  pub past : t.held.own.past_receiver ≡ s.held.own.past_receiver
  pub secrets : t.secrets ≡ s.secrets

pub drained_unrevoked : (queue : List Message) (s : State) → revocations_in queue ≡ 0 → SameUnrevoked s (drained queue s)
drained_unrevoked [] s e = record { awaiting = refl; next_point = refl; past = refl; secrets = refl }
drained_unrevoked (Step (Updated v) ∷ queue) s e = let h = drained_unrevoked queue (after s (Step (Updated v))) (omega (arith, e)) in record { awaiting = h.awaiting; next_point = h.next_point; past = h.past; secrets = h.secrets }
drained_unrevoked (Step (CommitmentSigned tokens) ∷ queue) s e = let h = drained_unrevoked queue (after s (Step (CommitmentSigned tokens))) (omega (arith, e)) in record { awaiting = h.awaiting; next_point = h.next_point; past = h.past; secrets = h.secrets }
drained_unrevoked (RevokeAndAck revocation ∷ queue) s e = absurd (omega (arith, e))

-- what only grows

pub known_grows : (queue : List Message) (s : State) → IsBeginning s.held.theirs.known (drained queue s).held.theirs.known
known_grows [] s = begins s.held.theirs.known
known_grows (Step (Updated v) ∷ queue) s = begins_on _ _ _ (v ∷ [], refl) (known_grows queue (after s (Step (Updated v))))
known_grows (Step (CommitmentSigned tokens) ∷ queue) s = known_grows queue (after s (Step (CommitmentSigned tokens)))
known_grows (RevokeAndAck revocation ∷ queue) s = known_grows queue (after s (RevokeAndAck revocation))

pub mine_grows : (queue : List Message) (s : State) → (more : List CommitmentState) × (s.mine ++ more ≡ (drained queue s).mine)
mine_grows [] s = ([], append-nil s.mine)
mine_grows (Step (Updated v) ∷ queue) s = mine_grows queue (after s (Step (Updated v)))
mine_grows (Step (CommitmentSigned tokens) ∷ queue) s =
    let t = after s (Step (CommitmentSigned tokens)) in
    let h = mine_grows queue t in
    let c = own_next s in
    (c ∷ h.0, sym (append_assoc s.mine (c ∷ []) h.0) ∙ h.1)
mine_grows (RevokeAndAck revocation ∷ queue) s = mine_grows queue (after s (RevokeAndAck revocation))

pub settled_grows : (tokens_of : Signing) (queue : List Message) (s : State) → Flows tokens_of queue s → IsKept s → IsBeginning s.held.own.settled (drained queue s).held.own.settled
settled_grows tokens_of [] s f k = begins s.held.own.settled
settled_grows tokens_of (Step (Updated v) ∷ queue) s f k = settled_grows tokens_of queue (after s (Step (Updated v))) f.1 (kept_after tokens_of s (Step (Updated v)) f.0 k)
settled_grows tokens_of (Step (CommitmentSigned tokens) ∷ queue) s f k = begins_on _ _ _ (settled_past s.held.own k.own) (settled_grows tokens_of queue (after s (Step (CommitmentSigned tokens))) f.1 (kept_after tokens_of s (Step (CommitmentSigned tokens)) f.0 k))
settled_grows tokens_of (RevokeAndAck revocation ∷ queue) s f k = settled_grows tokens_of queue (after s (RevokeAndAck revocation)) f.1 (kept_after tokens_of s (RevokeAndAck revocation) f.0 k)
