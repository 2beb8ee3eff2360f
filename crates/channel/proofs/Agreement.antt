-- Two peers agree, whatever the order of their steps.
use Rattle.std.proofs.Common.{◌≡◌, ◌<◌, suc, ℕ, suc, ◌+◌, Bool, true, false, List, [], ◌∷◌, ◌++◌, sym, ap, ◌∙◌, refl, arith, None, append-nil}
use Rattle.std.proofs.lemmas.Bool.{or_parts, leb-false}
use Rattle.updates.specs.declared.changes.Update.{Update}
use Rattle.terms.specs.declared.sides.Side.{Side}
use Rattle.terms.specs.declared.sides.Side.TheVariants.{A, B}
use Rattle.terms.specs.declared.agreement.Terms.{Terms}
use Rattle.terms.specs.Sides.{other}
use Rattle.channel.specs.declared.limits.TheConstants.{LAST_NUMBER}
use Rattle.updates.specs.declared.messages.Tokens.{Tokens}
use Rattle.channel.specs.declared.messages.Message.{Message}
use Rattle.updates.specs.declared.messages.PeerStep.TheVariants.{Update as Updated, CommitmentSigned}
use Rattle.channel.specs.declared.messages.Message.TheVariants.{Step, RevokeAndAck}
use Rattle.channel.specs.Points.{secret_at, point_at}
use Rattle.channel.specs.States.{Signing, State, first_of, state_at_opening, fulfilled_after, sign_refusal, sign_tests, receive_refusal, receive_tests, peers_next, after_sign, after, answers, signature_message}
use Rattle.channel.specs.Peers.{World, opened_both, Acts, updates, signs, receives, Steps, by_a, by_b, IsReached, at_opening, then}
use Rattle.updates.proofs.Sums.{begins, begins_on}
use Rattle.updates.proofs.Accepting.{AllPass, all_pass}
use Rattle.updates.proofs.OneSide.{steady_made}
use Rattle.channel.proofs.Sides.{IsKept, tests_of, kept_opened, kept_signed, kept_after}
use Rattle.updates.proofs.Funds.{settled_past}
use Rattle.channel.proofs.Queues.{made, revoked_after, drained, Flows, drained-append, flows-append, signatures_in, revocations_in, signatures_in-append, revocations_in-append, drained_made, flows_made, drained_signed, flows_signed, drained_same, drained_unsigned, drained_unrevoked, known_grows, settled_grows}
use Rattle.channel.proofs.Meeting.{bit, Meets, meets_made, meets_made_back, one_commitment, meets_signed, meets_signed_back, meets_receives_made, meets_receives_signed, meets_receives_revocation, takes_made, takes_signed, takes_revocation}
use Rattle.updates.specs.Refusals.{first_refusal}
use Rattle.updates.specs.Steady.{IsBeginning, own_tests}

-- what `a` sent and sends to `b`
pub record Toward (tokens_of : Signing) (a b : State) (to_a to_b : List Message) : Type 0 where
  pub flows : Flows tokens_of to_b b  -- nothing on the way is refused
  pub meets : Meets a (drained to_b b)  -- once all came, they agree
  pub ahead : IsBeginning a.held.theirs.settled b.held.own.settled  -- b knows first what is settled of its own
  pub one : signatures_in to_b + revocations_in to_a ≡ bit a.awaiting  -- a signature or its revocation is on the way exactly while it is awaited

pub record Agree (tokens_of : Signing) (a b : State) (to_a to_b : List Message) : Type 0 where
  pub a_kept : IsKept a
  pub b_kept : IsKept b
  pub ab : Toward tokens_of a b to_a to_b
  pub ba : Toward tokens_of b a to_b to_a

pub turned : (tokens_of : Signing) (a b : State) (to_a to_b : List Message) → Agree tokens_of a b to_a to_b → Agree tokens_of b a to_b to_a
turned tokens_of a b to_a to_b g = record { a_kept = g.b_kept; b_kept = g.a_kept; ab = g.ba; ba = g.ab }

no_bit : (b : Bool) → b ≡ false → bit b ≡ 0
no_bit b e = ap bit e

-- a makes an update

pub agree_makes : (tokens_of : Signing) (a b : State) (to_a to_b : List Message) (u : Update) (ids : List ℕ) → Agree tokens_of a b to_a to_b → first_refusal (own_tests a.held u) ≡ None → Agree tokens_of (made u ids a) b to_a (to_b ++ Step (Updated u) ∷ [])
agree_makes tokens_of a b to_a to_b u ids g e =
    let t = drained to_b b in
    let same = drained_same to_b b in
    let back = g.ba.meets in
    let known : IsBeginning a.held.theirs.known t.held.own.known = rw (same.known, ← back.known) (known_grows to_a a) in
    let settled : IsBeginning a.held.theirs.settled t.held.own.settled = begins_on _ _ _ g.ab.ahead (settled_grows tokens_of to_b b g.ab.flows g.b_kept) in
    let takes : receive_refusal tokens_of t (Step (Updated u)) ≡ None = takes_made tokens_of a t u g.ab.meets known settled e in
    let s1 = signatures_in-append to_b (Step (Updated u) ∷ []) in
    let r1 = revocations_in-append to_b (Step (Updated u) ∷ []) in
    let o1 = g.ab.one in
    let o2 = g.ba.one in
    record {
      a_kept = steady_made a.held u e g.a_kept;
      b_kept = g.b_kept;
      ab = record {
        flows = flows-append tokens_of to_b (Step (Updated u) ∷ []) b g.ab.flows (takes, tt);
        meets = rw drained-append (meets_made a t u ids g.ab.meets);
        ahead = g.ab.ahead;
        one = omega (arith, s1, o1);
      };
      ba = record {
        flows = flows_made tokens_of to_a u ids a g.ba.flows;
        meets = rw (drained_made to_a u ids a) (meets_made_back b (drained to_a a) u ids g.ba.meets);
        ahead = g.ba.ahead;
        one = omega (arith, r1, o2);
      };
    }

-- a signs

pub agree_signs : (tokens_of : Signing) (a b : State) (to_a to_b : List Message) → Agree tokens_of a b to_a to_b → sign_refusal a ≡ None → Agree tokens_of (after_sign a) b to_a (to_b ++ signature_message tokens_of a ∷ [])
agree_signs tokens_of a b to_a to_b g e =
    let t = drained to_b b in
    let c = after_sign a in
    let calm : a.awaiting ≡ false = (calm_when a (all_pass (sign_tests a) e)) in
    let o1 = g.ab.one in
    let o2 = g.ba.one in
    let z = no_bit a.awaiting calm in
    let none : revocations_in to_a ≡ 0 = omega (arith, o1, z) in
    let none' : signatures_in to_b ≡ 0 = omega (arith, o1, z) in
    let point : a.next_point ≡ point_at t.seed (t.number + 1) =
    let u = drained_unrevoked to_a a none in
    let n = drained_unsigned to_b b none' in
    let s = drained_same to_b b in
    sym u.next_point ∙ g.ba.meets.next_point ∙ ap (λ k. point_at b.seed (k + 1)) (sym n.number) ∙ ap (λ d. point_at d (t.number + 1)) (sym s.seed)
    in
    let one = one_commitment a t g.ab.meets calm point in
    let takes : receive_refusal tokens_of t (signature_message tokens_of a) ≡ None = takes_signed tokens_of a t g.ab.meets one e in
    let s1 = signatures_in-append to_b (signature_message tokens_of a ∷ []) in
    let r1 = revocations_in-append to_b (signature_message tokens_of a ∷ []) in
    record {
      a_kept = kept_signed a g.a_kept;
      b_kept = g.b_kept;
      ab = record {
        flows = flows-append tokens_of to_b (signature_message tokens_of a ∷ []) b g.ab.flows (takes, tt);
        meets = rw drained-append (meets_signed a t (tokens_of a.held.terms (peers_next a)) g.ab.meets calm one);
        ahead = g.ab.ahead;
        one = omega (arith, s1, o1, z);
      };
      ba = record {
        flows = flows_signed tokens_of to_a a.held.own.known a.held.theirs.past_receiver c.signed false a none g.ba.flows;
        meets = rw (drained_signed to_a a.held.own.known a.held.theirs.past_receiver c.signed false a none)
            (meets_signed_back b (drained to_a a) a.held.own.known a.held.theirs.past_receiver c.signed (revoked_after false to_a) g.ba.meets);
        ahead = g.ba.ahead;
        one = omega (arith, r1, o2);
      };
    }
  where
    calm_when : (a : State) → AllPass (sign_tests a) → a.awaiting ≡ false
    calm_when a (t1, t2) = (or_parts a.awaiting _ t1).0

-- a receives

pub agree_receives : (tokens_of : Signing) (a b : State) (m : Message) (rest to_b : List Message) → Agree tokens_of a b (m ∷ rest) to_b → Agree tokens_of (after a m) b rest (to_b ++ answers a m)
agree_receives tokens_of a b (Step (Updated u)) rest to_b g =
    let o1 = g.ab.one in
    let o2 = g.ba.one in
    rw append-nil (record {
      a_kept = kept_after tokens_of a (Step (Updated u)) g.ba.flows.0 g.a_kept;
      b_kept = g.b_kept;
      ab = record { flows = g.ab.flows; meets = meets_receives_made a (drained to_b b) u g.ab.meets; ahead = g.ab.ahead; one = omega (arith, o1) };
      ba = record { flows = g.ba.flows.1; meets = g.ba.meets; ahead = g.ba.ahead; one = omega (arith, o2) };
    })
agree_receives tokens_of a b (Step (CommitmentSigned tokens)) rest to_b g =
    let t = drained to_b b in
    let c = after a (Step (CommitmentSigned tokens)) in
    let answer = RevokeAndAck (record { secret = secret_at a.seed a.number; next_point = point_at a.seed (a.number + 2) }) in
    let o1 = g.ab.one in
    let o2 = g.ba.one in
    let waits : b.awaiting ≡ true = waits_when b.awaiting (signatures_in rest + revocations_in to_b) (omega (arith, o2)) in
    let w : bit b.awaiting ≡ 1 = ap bit waits in
    let none : signatures_in rest ≡ 0 = omega (arith, o2, w) in
    let none' : revocations_in to_b ≡ 0 = omega (arith, o2, w) in
    let same = drained_same to_b b in
    let rests = drained_unsigned rest c none in
    let signed : t.held.own.with_receiver ≡ a.held.theirs.known = same.receiver ∙ sym g.ba.meets.receiver ∙ rests.receiver in
    let covered : t.held.theirs.with_sender ≡ a.held.own.past_receiver = same.sender ∙ sym g.ba.meets.sender ∙ rests.sender in
    let u = drained_unrevoked to_b b none' in
    let takes : receive_refusal tokens_of t answer ≡ None = takes_revocation tokens_of a t (point_at a.seed (a.number + 2)) g.ab.meets (below_last tokens_of a tokens (all_pass (receive_tests tokens_of a (Step (CommitmentSigned tokens))) g.ba.flows.0)) (u.awaiting ∙ waits) in
    let s1 = signatures_in-append to_b (answer ∷ []) in
    let r1 = revocations_in-append to_b (answer ∷ []) in
    record {
      a_kept = kept_after tokens_of a (Step (CommitmentSigned tokens)) g.ba.flows.0 g.a_kept;
      b_kept = g.b_kept;
      ab = record {
        flows = flows-append tokens_of to_b (answer ∷ []) b g.ab.flows (takes, tt);
        meets = rw drained-append (meets_receives_signed a t tokens g.ab.meets signed covered);
        ahead = g.ab.ahead;
        one = omega (arith, s1, o1);
      };
      ba = record {
        flows = g.ba.flows.1;
        meets = g.ba.meets;
        ahead = begins_on _ _ _ g.ba.ahead (settled_past a.held.own g.a_kept.own);
        one = omega (arith, r1, o2);
      };
    }
  where
    below_last : (tokens_of : Signing) (a : State) (tokens : Tokens) → AllPass (receive_tests tokens_of a (Step (CommitmentSigned tokens))) → a.number < LAST_NUMBER
    below_last tokens_of a tokens (t1, t2) = leb-false LAST_NUMBER a.number t1

    waits_when : (t : Bool) (n : ℕ) → suc n ≡ bit t → t ≡ true
    waits_when true n e = refl
    waits_when false n e = absurd (omega (arith, e))
agree_receives tokens_of a b (RevokeAndAck revocation) rest to_b g =
    let t = drained to_b b in
    let o1 = g.ab.one in
    let o2 = g.ba.one in
    let waits : a.awaiting ≡ true = waits_when a.awaiting (signatures_in to_b + revocations_in rest) (omega (arith, o1)) in
    let w : bit a.awaiting ≡ 1 = ap bit waits in
    let none : signatures_in to_b ≡ 0 = omega (arith, o1, w) in
    let still = drained_unsigned to_b b none in
    let same : a.held.theirs.with_sender ≡ b.held.own.settled = sym g.ab.meets.sender ∙ still.sender ∙ g.b_kept.own_revoked in
    rw append-nil (record {
      a_kept = kept_after tokens_of a (RevokeAndAck revocation) g.ba.flows.0 g.a_kept;
      b_kept = g.b_kept;
      ab = record {
        flows = g.ab.flows;
        meets = meets_receives_revocation a t revocation.secret revocation.next_point g.ab.meets waits;
        ahead = rw same (begins b.held.own.settled);
        one = omega (arith, o1, w);
      };
      ba = record { flows = g.ba.flows.1; meets = g.ba.meets; ahead = g.ba.ahead; one = omega (arith, o2) };
    })
  where
    waits_when : (t : Bool) (n : ℕ) → suc n ≡ bit t → t ≡ true
    waits_when true n e = refl
    waits_when false n e = absurd (omega (arith, e))

-- any step of a

pub agree_acts : (tokens_of : Signing) (a b : State) (to_a to_b : List Message) (me : State) (sent rest : List Message) → Acts tokens_of a to_a me sent rest → Agree tokens_of a b to_a to_b → Agree tokens_of me b rest (to_b ++ sent)
agree_acts tokens_of a b to_a to_b me sent rest (updates u e) g = agree_makes tokens_of a b to_a to_b u (fulfilled_after u a.fulfilled) g (tests_of a u e)
agree_acts tokens_of a b to_a to_b me sent rest (signs e) g = agree_signs tokens_of a b to_a to_b g e
agree_acts tokens_of a b to_a to_b me sent rest (receives m rest' q e) g = let h : Agree tokens_of a b (m ∷ rest') to_b = rw q at g in agree_receives tokens_of a b m rest' to_b h

-- any step, and any steps

abbrev pub IsAgreed : Signing → World → Type 0
IsAgreed tokens_of w = Agree tokens_of w.a w.b w.to_a w.to_b

meets_opened : (terms : Terms) (side : Side) (seed peers : List ℕ) → other (other side) ≡ side → Meets (state_at_opening terms side seed (point_at peers 0) (point_at peers 1)) (state_at_opening terms (other side) peers (point_at seed 0) (point_at seed 1))
meets_opened terms side seed peers e = record {
  terms = refl;
  side = e;
  known = refl;
  receiver = refl;
  past = refl;
  settled = refl;
  sender = refl;
  mine = ap (λ s. first_of terms s (point_at peers 0) ∷ []) refl;
  number = refl;
  peer_number = refl;
  point = refl;
  next_point = refl;
  secrets = refl;
}

pub agreed_opened : (tokens_of : Signing) (terms : Terms) (seed_a seed_b : List ℕ) → IsAgreed tokens_of (opened_both terms seed_a seed_b)
agreed_opened tokens_of terms seed_a seed_b = record {
  a_kept = kept_opened terms A seed_a (point_at seed_b 0) (point_at seed_b 1);
  b_kept = kept_opened terms B seed_b (point_at seed_a 0) (point_at seed_a 1);
  ab = record { flows = tt; meets = meets_opened terms A seed_a seed_b refl; ahead = begins []; one = refl };
  ba = record { flows = tt; meets = meets_opened terms B seed_b seed_a refl; ahead = begins []; one = refl };
}

pub agreed_step : (tokens_of : Signing) (w v : World) → Steps tokens_of w v → IsAgreed tokens_of w → IsAgreed tokens_of v
agreed_step tokens_of w v (by_a {me = me} {sent = sent} {rest = rest} acts) g = agree_acts tokens_of w.a w.b w.to_a w.to_b me sent rest acts g
agreed_step tokens_of w v (by_b {me = me} {sent = sent} {rest = rest} acts) g =
    turned tokens_of me w.a rest (w.to_a ++ sent) (agree_acts tokens_of w.b w.a w.to_b w.to_a me sent rest acts (turned tokens_of w.a w.b w.to_a w.to_b g))

pub agreed : (tokens_of : Signing) (terms : Terms) (seed_a seed_b : List ℕ) (w : World) → IsReached tokens_of terms seed_a seed_b w → IsAgreed tokens_of w
agreed tokens_of terms seed_a seed_b w at_opening = agreed_opened tokens_of terms seed_a seed_b
agreed tokens_of terms seed_a seed_b w (then {w = v} r s) = agreed_step tokens_of v w s (agreed tokens_of terms seed_a seed_b v r)
