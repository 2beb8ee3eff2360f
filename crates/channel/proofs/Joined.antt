-- What stays true of two honest peers, whatever becomes of their connection and of their memory.
use Rattle.std.proofs.Common.{◌≡◌, ℕ, suc, ◌+◌, Bool, true, false, eqb, List, [], ◌∷◌, ◌++◌, length, drop, sym, ap, ◌∙◌, subst, refl, arith, None, append-nil}
use Rattle.std.proofs.lemmas.Bool.{and_parts, eqb-true, eq-eqb}
use Rattle.std.proofs.Math.Seq.{drop-append_seam}
use Rattle.keys.specs.declared.compressed.Key.{Key}
use Rattle.updates.specs.declared.changes.Update.{Update}
use Rattle.updates.specs.Stages.{Stages, unacknowledged}
use Rattle.updates.specs.Steady.{InOrder}
use Rattle.updates.proofs.Accepting.{all_pass}
use Rattle.updates.specs.Remade.{CanRemake}
use Rattle.updates.proofs.Remaking.{remakes_made, remakes_signed, remakes_signature, remakes_revocation, remakes_committed}
use Rattle.updates.specs.declared.messages.Tokens.{Tokens}
use Rattle.channel.specs.declared.messages.Message.{Message}
use Rattle.updates.specs.declared.messages.PeerStep.TheVariants.{Update as Updated, CommitmentSigned}
use Rattle.channel.specs.declared.messages.Message.TheVariants.{Step, RevokeAndAck}
use Rattle.channel.specs.States.{Signing, State, fulfilled_after, update_refusal, sign_refusal, sign_tests, receive_tests, receive_refusal, after_update, after_sign, after, answers, signature_message}
use Rattle.channel.specs.Keeping.{one_if}
use Rattle.channel.specs.Reestablishing.{forgotten, hello, lacks_signature, lacks_revocation, resends}
use Rattle.channel.specs.Peers.{IsLived, updated_once, signed_once, received_once, forgot_once}
use Rattle.channel.specs.Resending.{IsSince, still, took, forgot}
use Rattle.channel.proofs.Sides.{tests_of, lived_kept}
use Rattle.channel.proofs.Records.{calm_when, awaits_when}
use Rattle.channel.proofs.ByNumber.{sides_number}
use Rattle.channel.proofs.Queues.{signatures_in, revocations_in, drained_same, drained_unsigned, drained_unrevoked}
use Rattle.channel.proofs.Meeting.{bit}
use Rattle.channel.proofs.Agreement.{Agree, turned, agree_makes, agree_signs, agree_receives}
use Rattle.channel.proofs.Hellos.{drained_number, drained_peer_number}
use Rattle.channel.proofs.Resends.{Ordered, ordered_update, ordered_signature, ordered_revocation, ordered_resends}
use Rattle.channel.proofs.Rewound.{Rewound, agree_fulfilled, rewound_signs, revocation_is, rewound_takes_signature, rewound_takes_revocation, rewound_gives_back}

-- where a lacks the signature of b that b revoked after, it lacks that revocation too
abbrev pub IsLate : State → State → Type 0
IsLate b a = lacks_signature b (hello a) ≡ true → b.revoked_last ≡ true → lacks_revocation b (hello a) ≡ true

-- of a, which sends this queue to b
pub record Sends (tokens_of : Signing) (a b : State) (queue : List Message) : Type 0 where
  pub lived : IsLived tokens_of a
  pub remakes : CanRemake a.held
  pub order : Ordered a.revoked_last queue
  pub late : IsLate a b

-- the two agree by what is on its way, with what each will give again; and they would if their connection were cut now
pub record Pairs (tokens_of : Signing) (a b : State) (p q : List Message) : Type 0 where
  pub calm : Agree tokens_of a b p q
  pub rewound : Rewound tokens_of a b
  pub from_a : Sends tokens_of a b q
  pub from_b : Sends tokens_of b a p

pub turned_round : (tokens_of : Signing) (a b : State) (p q : List Message) → Pairs tokens_of a b p q → Pairs tokens_of b a q p
turned_round tokens_of a b p q g = record { calm = turned tokens_of a b p q g.calm; rewound = turned tokens_of (forgotten a) (forgotten b) _ _ g.rewound; from_a = g.from_b; from_b = g.from_a }

-- of new messages on their way the same is known
sends_on : (tokens_of : Signing) (a b : State) (p p' : List Message) → p ≡ p' → Sends tokens_of a b p → Sends tokens_of a b p'
sends_on tokens_of a b p p' e s = subst (Sends tokens_of a b) e s

-- the number of commitments that a side signed
signed_count : (tokens_of : Signing) (a : State) → IsLived tokens_of a → length a.signed ≡ a.peer_number + 1 + one_if a.awaiting
signed_count tokens_of a l = (sides_number tokens_of a l).signed.count

-- a makes an update
pub pairs_makes : (tokens_of : Signing) (a b : State) (p q : List Message) (u : Update) → Pairs tokens_of a b p q → update_refusal a u ≡ None → Pairs tokens_of (after_update u a) b p (q ++ Step (Updated u) ∷ [])
pairs_makes tokens_of a b p q u g e =
    let ids = fulfilled_after u a.fulfilled in
    let t = tests_of a u e in
    let s = g.from_a in
    let k = g.from_b in
    record {
      calm = agree_makes tokens_of a b p q u ids g.calm t;
      rewound = agree_fulfilled tokens_of (forgotten a) (forgotten b) (resends tokens_of b (hello a)) (resends tokens_of a (hello b)) ids g.rewound;
      from_a = record { lived = updated_once u e s.lived; remakes = remakes_made a.held u g.calm.a_kept t s.remakes; order = ordered_update a.revoked_last q u s.order; late = s.late };
      from_b = record { lived = k.lived; remakes = k.remakes; order = k.order; late = k.late };
    }

-- a signs
pub pairs_signs : (tokens_of : Signing) (a b : State) (p q : List Message) → Pairs tokens_of a b p q → sign_refusal a ≡ None → Pairs tokens_of (after_sign a) b p (q ++ signature_message tokens_of a ∷ [])
pairs_signs tokens_of a b p q g e =
    let s = g.from_a in
    let k = g.from_b in
    let calm = calm_when a (all_pass (sign_tests a) e) in
    let z : bit a.awaiting ≡ 0 = ap bit calm in
    let y : one_if a.awaiting ≡ 0 = ap one_if calm in
    let one = g.calm.ab.one in
    let unsigned : signatures_in q ≡ 0 = omega (arith, one, z) in
    let n = signed_count tokens_of a s.lived in
    record {
      calm = agree_signs tokens_of a b p q g.calm e;
      rewound = rewound_signs tokens_of a b g.rewound e calm g.calm.a_kept s.remakes (omega (arith, n, y));
      from_a = record { lived = signed_once e s.lived; remakes = remakes_signed a.held; order = ordered_signature q (signature_message tokens_of a ∷ []) unsigned refl; late = λ lacks last. absurd (cc) };
      from_b = record { lived = k.lived; remakes = k.remakes; order = k.order; late = k.late };
    }

-- a takes a message

-- what a signature that comes finds
record IsSignatureDue (tokens_of : Signing) (a b : State) (p q : List Message) : Type 0 where
  waits : b.awaiting ≡ true
  number : a.number ≡ b.peer_number
  revoked : b.peer_number ≡ a.number
  unrevoked : revocations_in q ≡ 0
  known : a.held.theirs.with_receiver ++ unacknowledged b.held.own ≡ a.held.theirs.known
  count : length b.signed ≡ b.peer_number + 1 + 1
  order : lacks_revocation b (hello a) ≡ true → b.revoked_last ≡ true

waits_when : (t : Bool) (n : ℕ) → suc n ≡ bit t → t ≡ true
waits_when true n e = refl
waits_when false n e = absurd (omega (arith, e))

-- what is acknowledged, and then what is not yet
acknowledged_is : (s : Stages) → InOrder s → s.past_receiver ++ unacknowledged s ≡ s.with_receiver
acknowledged_is s o =
    let b = o.past in
    ap (λ l. s.past_receiver ++ drop (length s.past_receiver) l) (sym b.1) ∙ ap (λ l. s.past_receiver ++ l) (drop-append_seam s.past_receiver b.0) ∙ b.1

signature_due : (tokens_of : Signing) (a b : State) (tokens : Tokens) (p q : List Message) → Pairs tokens_of a b (Step (CommitmentSigned tokens) ∷ p) q → IsSignatureDue tokens_of a b p q
signature_due tokens_of a b tokens p q g =
    let c = g.calm in
    let one = c.ab.one in
    let other = c.ba.one in
    let waits = waits_when b.awaiting (signatures_in p + revocations_in q) (omega (arith, other)) in
    let w : bit b.awaiting ≡ 1 = ap bit waits in
    let v : one_if b.awaiting ≡ 1 = ap one_if waits in
    let unsigned : signatures_in p ≡ 0 = omega (arith, other, w) in
    let unrevoked : revocations_in q ≡ 0 = omega (arith, other, w) in
    let n = drained_number (Step (CommitmentSigned tokens) ∷ p) a in
    let m = c.ba.meets.number in
    let number : a.number ≡ b.peer_number = omega (arith, n, m, w, unsigned) in
    let r = drained_peer_number q b in
    let t = c.ab.meets.peer_number in
    let x = drained_peer_number (Step (CommitmentSigned tokens) ∷ p) a in
    let y = c.ba.meets.peer_number in
    let same = drained_same q b in
    let rests = drained_unsigned p (after a (Step (CommitmentSigned tokens))) unsigned in
    let late = drained_unrevoked q b unrevoked in
    let receiver : b.held.own.with_receiver ≡ a.held.theirs.known = sym c.ba.meets.receiver ∙ rests.receiver in
    let past : a.held.theirs.with_receiver ≡ b.held.own.past_receiver = c.a_kept.theirs_revoked ∙ sym c.ab.meets.past ∙ late.past in
    let count = signed_count tokens_of b g.from_b.lived in
    record {
      waits = waits;
      number = number;
      revoked = omega (arith, r, t, unrevoked);
      unrevoked = unrevoked;
      known = ap (λ l. l ++ unacknowledged b.held.own) past ∙ acknowledged_is b.held.own c.b_kept.own ∙ receiver;
      count = omega (arith, count, v);
      order = λ lacks. g.from_b.order.0 (let f = eqb-true (a.peer_number + 1) b.number lacks in omega (arith, f, x, y));
    }

takes_signature : (tokens_of : Signing) (a b : State) (tokens : Tokens) (p q : List Message) → Pairs tokens_of a b (Step (CommitmentSigned tokens) ∷ p) q → receive_refusal tokens_of a (Step (CommitmentSigned tokens)) ≡ None
    → Pairs tokens_of (after a (Step (CommitmentSigned tokens))) b p (q ++ answers a (Step (CommitmentSigned tokens)))
takes_signature tokens_of a b tokens p q g e =
    let d = signature_due tokens_of a b tokens p q g in
    let s = g.from_a in
    let k = g.from_b in
    let number = d.number in
    let revoked = d.revoked in
    record {
      calm = agree_receives tokens_of a b (Step (CommitmentSigned tokens)) p q g.calm;
      rewound = rewound_takes_signature tokens_of a b tokens g.rewound d.waits d.number d.revoked d.known d.count d.order;
      from_a = record {
        lived = received_once (Step (CommitmentSigned tokens)) e s.lived;
        remakes = remakes_signature a.held g.calm.a_kept s.remakes;
        order = ordered_revocation q (answers a (Step (CommitmentSigned tokens))) d.unrevoked refl;
        late = λ lacks last. eq-eqb (b.peer_number + 1) (a.number + 1) (omega (arith, revoked));
      };
      from_b = record {
        lived = k.lived;
        remakes = k.remakes;
        order = k.order.1;
        late = λ lacks last. absurd (let f = eqb-true (a.number + 1 + 1) (b.peer_number + 1) (and_parts b.awaiting (eqb (a.number + 1 + 1) (b.peer_number + 1)) lacks).1 in omega (arith, f, number));
      };
    }

takes_revocation : (tokens_of : Signing) (a b : State) (secret : List ℕ) (next_point : Key) (p q : List Message) → Pairs tokens_of a b (RevokeAndAck (record { secret = secret; next_point = next_point }) ∷ p) q
    → receive_refusal tokens_of a (RevokeAndAck (record { secret = secret; next_point = next_point })) ≡ None → Pairs tokens_of (after a (RevokeAndAck (record { secret = secret; next_point = next_point }))) b p (q ++ [])
takes_revocation tokens_of a b secret next_point p q g e =
    let c = g.calm in
    let s = g.from_a in
    let k = g.from_b in
    let one = c.ab.one in
    let waits = awaits_when tokens_of a secret next_point (all_pass (receive_tests tokens_of a (RevokeAndAck (record { secret = secret; next_point = next_point }))) e) in
    let w : bit a.awaiting ≡ 1 = ap bit waits in
    let unrevoked : revocations_in p ≡ 0 = omega (arith, one, w) in
    let unsigned : signatures_in q ≡ 0 = omega (arith, one, w) in
    let n = drained_number q b in
    let m = c.ab.meets.number in
    let signed : b.number ≡ a.peer_number + 1 = omega (arith, n, m, w, unsigned) in
    let x = drained_number (RevokeAndAck (record { secret = secret; next_point = next_point }) ∷ p) a in
    let y = c.ba.meets.number in
    let first : lacks_signature b (hello a) ≡ true → b.revoked_last ≡ false =
    λ lacks. k.order.0 (let (t, f) = and_parts b.awaiting (eqb (a.number + 1) (b.peer_number + 1)) lacks in let h = eqb-true (a.number + 1) (b.peer_number + 1) f in let i : bit b.awaiting ≡ 1 = ap bit t in omega (arith, h, i, x, y))
    in
    let is = revocation_is a b secret next_point p c.ba.meets unrevoked in
    record {
      calm = agree_receives tokens_of a b (RevokeAndAck (record { secret = secret; next_point = next_point })) p q g.calm;
      rewound = rewound_takes_revocation tokens_of a b secret next_point g.rewound is (omega (arith, signed)) signed first;
      from_a = record {
        lived = received_once (RevokeAndAck (record { secret = secret; next_point = next_point })) e s.lived;
        remakes = remakes_revocation a.held c.a_kept s.remakes;
        order = subst (Ordered a.revoked_last) (sym (append-nil q)) s.order;
        late = λ lacks last. absurd (cc);
      };
      from_b = record {
        lived = k.lived;
        remakes = k.remakes;
        order = k.order.1;
        late = λ lacks last. absurd (let f : true ≡ false = sym last ∙ first lacks in cc);
      };
    }

pub pairs_takes : (tokens_of : Signing) (a b : State) (m : Message) (p q : List Message) → Pairs tokens_of a b (m ∷ p) q → receive_refusal tokens_of a m ≡ None → Pairs tokens_of (after a m) b p (q ++ answers a m)
pairs_takes tokens_of a b (Step (Updated u)) p q g e =
    let s = g.from_a in
    let k = g.from_b in
    record {
      calm = agree_receives tokens_of a b (Step (Updated u)) p q g.calm;
      rewound = g.rewound;
      from_a = record { lived = received_once (Step (Updated u)) e s.lived; remakes = s.remakes; order = subst (Ordered a.revoked_last) (sym (append-nil q)) s.order; late = s.late };
      from_b = record { lived = k.lived; remakes = k.remakes; order = k.order; late = k.late };
    }
pairs_takes tokens_of a b (Step (CommitmentSigned tokens)) p q g e = takes_signature tokens_of a b tokens p q g e
pairs_takes tokens_of a b (RevokeAndAck revocation) p q g e = takes_revocation tokens_of a b revocation.secret revocation.next_point p q g e

-- the connection is cut

-- all that matters then
pub record IsApart (tokens_of : Signing) (a b : State) : Type 0 where
  pub rewound : Rewound tokens_of a b
  pub a_lived : IsLived tokens_of a
  pub b_lived : IsLived tokens_of b
  pub a_late : IsLate a b
  pub b_late : IsLate b a

pub apart : (tokens_of : Signing) (a b : State) (p q : List Message) → Pairs tokens_of a b p q → IsApart tokens_of a b
apart tokens_of a b p q g = record { rewound = g.rewound; a_lived = g.from_a.lived; b_lived = g.from_b.lived; a_late = g.from_a.late; b_late = g.from_b.late }

pub pairs_cut : (tokens_of : Signing) (a b : State) → IsApart tokens_of a b → Pairs tokens_of (forgotten a) (forgotten b) (resends tokens_of b (hello a)) (resends tokens_of a (hello b))
pairs_cut tokens_of a b g = record {
  calm = g.rewound;
  rewound = g.rewound;
  from_a = record { lived = forgot_once g.a_lived; remakes = remakes_committed a.held; order = ordered_resends tokens_of a (hello b); late = g.a_late };
  from_b = record { lived = forgot_once g.b_lived; remakes = remakes_committed b.held; order = ordered_resends tokens_of b (hello a); late = g.b_late };
}

-- a side starts again from a state since which it gave nothing out

pub lived_since : (tokens_of : Signing) (s t : State) → IsLived tokens_of s → IsSince tokens_of s t → IsLived tokens_of t
lived_since tokens_of s t l still = l
lived_since tokens_of s t l (took {t = r} m e none since) = received_once m e (lived_since tokens_of s r l since)
lived_since tokens_of s t l (forgot {t = r} since) = forgot_once (lived_since tokens_of s r l since)

apart_before : (tokens_of : Signing) (a b : State) (m : Message) → IsLived tokens_of a → receive_refusal tokens_of a m ≡ None → answers a m ≡ [] → IsApart tokens_of (after a m) b → IsApart tokens_of a b
apart_before tokens_of a b (Step (Updated u)) l e none g = record { rewound = g.rewound; a_lived = l; b_lived = g.b_lived; a_late = g.a_late; b_late = g.b_late }
apart_before tokens_of a b (Step (CommitmentSigned tokens)) l e none g = absurd (cc)
apart_before tokens_of a b (RevokeAndAck revocation) l e none g =
    let waits = awaits_when tokens_of a revocation.secret revocation.next_point (all_pass (receive_tests tokens_of a (RevokeAndAck revocation)) e) in
    let back = rewound_gives_back tokens_of a b revocation.secret revocation.next_point waits e (lived_kept tokens_of a l) g.b_late g.rewound in
    let signed = back.1 in
    record {
      rewound = back.0;
      a_lived = l;
      b_lived = g.b_lived;
      a_late = λ lacks last. absurd (let f = eqb-true (b.number + 1) (a.peer_number + 1) (and_parts a.awaiting (eqb (b.number + 1) (a.peer_number + 1)) lacks).1 in omega (arith, f, signed));
      b_late = λ lacks last. eq-eqb (a.peer_number + 1) b.number (omega (arith, signed));
    }

pub apart_since : (tokens_of : Signing) (s t b : State) → IsLived tokens_of s → IsSince tokens_of s t → IsApart tokens_of t b → IsApart tokens_of s b
apart_since tokens_of s t b l still g = g
apart_since tokens_of s t b l (took {t = r} m e none since) g = apart_since tokens_of s r b l since (apart_before tokens_of r b m (lived_since tokens_of s r l since) e none g)
apart_since tokens_of s t b l (forgot {t = r} since) g =
    apart_since tokens_of s r b l since
    (record { rewound = g.rewound; a_lived = lived_since tokens_of s r l since; b_lived = g.b_lived; a_late = g.a_late; b_late = g.b_late })

pub apart_turned : (tokens_of : Signing) (a b : State) → IsApart tokens_of a b → IsApart tokens_of b a
apart_turned tokens_of a b g = record { rewound = turned tokens_of (forgotten a) (forgotten b) _ _ g.rewound; a_lived = g.b_lived; b_lived = g.a_lived; a_late = g.b_late; b_late = g.a_late }
