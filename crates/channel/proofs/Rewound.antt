-- Two peers as they would be if their connection were cut now, and what each would give again had arrived nowhere yet. Each step of the two is none, one or
-- several steps of these.
use Rattle.std.proofs.Common.{◌≡◌, ℕ, suc, ◌+◌, ◌-◌, Bool, true, false, ◌&&◌, cond, eqb, List, [], ◌∷◌, ◌++◌, length, drop, map, sym, ap, ◌∙◌, subst, refl, arith, None, append-nil, append_assoc, length-append}
use Rattle.std.proofs.lemmas.Bool.{eq-eqb, ne_eqb}
use Rattle.std.proofs.lemmas.List.{append_cancel_left}
use Rattle.std.proofs.Math.Seq.{drop-append_seam}
use Rattle.keys.specs.declared.compressed.Key.{Key}
use Rattle.updates.specs.declared.changes.Update.{Update}
use Rattle.updates.specs.Stages.{uncommitted, unacknowledged, committed}
use Rattle.updates.proofs.Sums.{begins_on}
use Rattle.updates.proofs.Committed.{steady_committed}
use Rattle.updates.specs.Remade.{CanMake, CanRemake, knowing}
use Rattle.updates.proofs.Remaking.{whole_is}
use Rattle.updates.specs.declared.messages.Tokens.{Tokens}
use Rattle.channel.specs.declared.messages.Message.{Message}
use Rattle.updates.specs.declared.messages.PeerStep.TheVariants.{Update as Updated, CommitmentSigned}
use Rattle.channel.specs.declared.messages.Message.TheVariants.{Step, RevokeAndAck}
use Rattle.channel.specs.Points.{secret_at, point_at}
use Rattle.channel.specs.States.{Signing, State, sign_refusal, receive_refusal, peers_next, after_sign, after}
use Rattle.channel.specs.Reestablishing.{forgotten, hello, lacks_signature, lacks_revocation, update_message, signature_again, revocation_again, in_order, resends}
use Rattle.channel.proofs.Secrets.{secrets_below, below-length}
use Rattle.channel.proofs.Sides.{IsKept}
use Rattle.channel.proofs.Queues.{made, having_fulfilled, drained, signatures_in, revocations_in, drained_fulfilled, flows_fulfilled, drained_unsigned, drained_unrevoked}
use Rattle.channel.proofs.Meeting.{bit, Meets}
use Rattle.channel.proofs.Agreement.{Agree, agree_makes, agree_signs, agree_receives}
use Rattle.channel.proofs.Hellos.{drained_number, below_start}
use Rattle.channel.proofs.Resends.{signature_part, revocation_part, in_order-none, in_order-alone, resends_revocation, resends_signature, signature_first, revocation_first, last_one}

abbrev pub Rewound : Signing → State → State → Type 0
Rewound tokens_of a b = Agree tokens_of (forgotten a) (forgotten b) (resends tokens_of b (hello a)) (resends tokens_of a (hello b))

-- with other queues that are the same
pub agree_on : (tokens_of : Signing) (a b : State) (p p' q q' : List Message) → p ≡ p' → q ≡ q' → Agree tokens_of a b p q → Agree tokens_of a b p' q'
agree_on tokens_of a b p p' q q' e f g = subst (λ x. Agree tokens_of a b x q') e (subst (λ x. Agree tokens_of a b p x) f g)

-- which HTLCs a side fulfilled is not looked at
meets_fulfilled : (a t : State) (ids : List ℕ) → Meets a t → Meets (having_fulfilled ids a) t
meets_fulfilled a t ids m = record {
  terms = m.terms;
  side = m.side;
  known = m.known;
  receiver = m.receiver;
  past = m.past;
  settled = m.settled;
  sender = m.sender;
  mine = m.mine;
  number = m.number;
  peer_number = m.peer_number;
  point = m.point;
  next_point = m.next_point;
  secrets = m.secrets;
}

meets_fulfilled_back : (a t : State) (ids : List ℕ) → Meets a t → Meets a (having_fulfilled ids t)
meets_fulfilled_back a t ids m = record {
  terms = m.terms;
  side = m.side;
  known = m.known;
  receiver = m.receiver;
  past = m.past;
  settled = m.settled;
  sender = m.sender;
  mine = m.mine;
  number = m.number;
  peer_number = m.peer_number;
  point = m.point;
  next_point = m.next_point;
  secrets = m.secrets;
}

pub agree_fulfilled : (tokens_of : Signing) (a b : State) (p q : List Message) (ids : List ℕ) → Agree tokens_of a b p q → Agree tokens_of (having_fulfilled ids a) b p q
agree_fulfilled tokens_of a b p q ids g = record {
  a_kept = g.a_kept;
  b_kept = g.b_kept;
  ab = record { flows = g.ab.flows; meets = meets_fulfilled a (drained q b) ids g.ab.meets; ahead = g.ab.ahead; one = g.ab.one };
  ba = record {
    flows = flows_fulfilled tokens_of p ids a g.ba.flows;
    meets = subst (Meets b) (sym (drained_fulfilled p ids a)) (meets_fulfilled_back b (drained p a) ids g.ba.meets);
    ahead = g.ba.ahead;
    one = g.ba.one;
  };
}

-- several updates of one's own
abbrev pub knowing_all : List Update → State → State
knowing_all us s = record s { held = knowing us s.held }

makes_again : (tokens_of : Signing) (a b : State) (p q : List Message) (us : List Update) → CanMake a.held us → Agree tokens_of a b p q → Agree tokens_of (knowing_all (a.held.own.known ++ us) a) b p (q ++ map update_message us)
makes_again tokens_of a b p q [] c g =
    subst (λ l. Agree tokens_of (knowing_all l a) b p (q ++ [])) (sym (append-nil a.held.own.known)) (agree_on tokens_of a b p p q (q ++ []) refl (sym (append-nil q)) g)
makes_again tokens_of a b p q (u ∷ us) c g =
    let h = makes_again tokens_of (made u a.fulfilled a) b p (q ++ Step (Updated u) ∷ []) us c.1 (agree_makes tokens_of a b p q u a.fulfilled g c.0) in
    subst (λ l. Agree tokens_of (knowing_all l a) b p (q ++ Step (Updated u) ∷ map update_message us)) (append_assoc a.held.own.known (u ∷ []) us)
    (agree_on tokens_of _ b p p _ (q ++ Step (Updated u) ∷ map update_message us) refl (append_assoc q (Step (Updated u) ∷ []) (map update_message us)) h)

-- a signs

no_bit : (t : Bool) → t ≡ false → bit t ≡ 0
no_bit t e = ap bit e

one_bit : (t : Bool) → t ≡ true → bit t ≡ 1
one_bit t e = ap bit e

not_awaiting : (s : State) (n : ℕ) → s.awaiting ≡ false → s.awaiting && eqb n (s.peer_number + 1) ≡ false
not_awaiting s n e = ap (λ t. t && eqb n (s.peer_number + 1)) e

-- what the two know where a signature of a is neither on its way nor awaited
record IsCalm (a b : State) : Type 0 where
  number : b.number ≡ a.peer_number
  past : a.held.own.past_receiver ≡ a.held.own.with_receiver

calm_between : (tokens_of : Signing) (a b : State) (p q : List Message) → a.awaiting ≡ false → Agree tokens_of a b p q → IsCalm a b
calm_between tokens_of a b p q e g =
    let one = g.ab.one in
    let z = no_bit a.awaiting e in
    let unsigned : signatures_in q ≡ 0 = omega (arith, one, z) in
    let unrevoked : revocations_in p ≡ 0 = omega (arith, one, z) in
    let n = drained_number q b in
    let m = g.ab.meets.number in
    let u = drained_unsigned q b unsigned in
    let v = drained_unrevoked p a unrevoked in
    record {
      number = omega (arith, n, m, z, unsigned);
      past = sym v.past ∙ g.ba.meets.past ∙ sym g.b_kept.theirs_revoked ∙ sym u.receiver ∙ g.ab.meets.receiver;
    }

pub rewound_signs : (tokens_of : Signing) (a b : State) → Rewound tokens_of a b → sign_refusal a ≡ None → a.awaiting ≡ false → IsKept a → CanRemake a.held → length a.signed ≡ a.peer_number + 1
    → Rewound tokens_of (after_sign a) b
rewound_signs tokens_of a b g e calm k remakes count =
    let c = after_sign a in
    let r = hello b in
    let p = resends tokens_of b (hello a) in
    let us = uncommitted a.held.own in
    let part = revocation_part a r in
    let between = calm_between tokens_of (forgotten a) (forgotten b) p (resends tokens_of a r) calm g in
    let start : Agree tokens_of (forgotten a) (forgotten b) p part = agree_on tokens_of (forgotten a) (forgotten b) p p _ part refl (resends_revocation tokens_of a r (not_awaiting a (b.number + 1) calm)) g in
    let made_all = makes_again tokens_of (forgotten a) (forgotten b) p part us remakes start in
    let whole : Agree tokens_of (knowing_all a.held.own.known (forgotten a)) (forgotten b) p (part ++ map update_message us) =
    subst (λ l. Agree tokens_of (knowing_all l (forgotten a)) (forgotten b) p (part ++ map update_message us)) (whole_is a.held.own k.own) made_all
    in
    let signed = agree_signs tokens_of (knowing_all a.held.own.known (forgotten a)) (forgotten b) p (part ++ map update_message us) whole e in
    agree_on tokens_of (forgotten c) (forgotten b) p (resends tokens_of b (hello c)) _ (resends tokens_of c r) refl (append_assoc part (map update_message us) _ ∙ ap (λ l. part ++ l) (again between.number between.past)) signed
  where
    again : b.number ≡ a.peer_number → a.held.own.past_receiver ≡ a.held.own.with_receiver
        → map update_message (uncommitted a.held.own) ++ Step (CommitmentSigned (tokens_of a.held.terms (peers_next a))) ∷ [] ≡ signature_part tokens_of (after_sign a) (hello b)
    again number past =
        let n : b.number + 1 ≡ a.peer_number + 1 = omega (arith, number) in
        let lacks : eqb (b.number + 1) (a.peer_number + 1) ≡ true = eq-eqb (b.number + 1) (a.peer_number + 1) n in
        let updates : uncommitted a.held.own ≡ drop (length a.held.own.past_receiver) a.held.own.known = ap (λ (l : List Update). drop (length l) a.held.own.known) (sym past) in
        let last : peers_next a ∷ [] ≡ drop (a.peer_number + 1) (a.signed ++ peers_next a ∷ []) = sym (drop-append_seam a.signed (peers_next a ∷ [])) ∙ ap (λ i. drop i (a.signed ++ peers_next a ∷ [])) count in
        (λ j. map update_message (updates j) ++ map (λ c. Step (CommitmentSigned (tokens_of a.held.terms c))) (last j))
        ∙ sym (ap (λ t. cond t (signature_again tokens_of (after_sign a)) []) lacks)

-- a takes updates, and then a signature

takes_updates : (tokens_of : Signing) (a b : State) (us : List Update) (p q : List Message) → Agree tokens_of a b (map update_message us ++ p) q
    → Agree tokens_of (record a { held = record a.held { theirs = record a.held.theirs { known = a.held.theirs.known ++ us } } }) b p q
takes_updates tokens_of a b [] p q g =
    subst (λ l. Agree tokens_of (record a { held = record a.held { theirs = record a.held.theirs { known = l } } }) b p q) (sym (append-nil a.held.theirs.known)) g
takes_updates tokens_of a b (u ∷ us) p q g =
    let h = agree_on tokens_of (after a (Step (Updated u))) b _ _ (q ++ []) q refl (append-nil q) (agree_receives tokens_of a b (Step (Updated u)) (map update_message us ++ p) q g) in
    subst (λ l. Agree tokens_of (record a { held = record a.held { theirs = record a.held.theirs { known = l } } }) b p q) (append_assoc a.held.theirs.known (u ∷ []) us)
    (takes_updates tokens_of (after a (Step (Updated u))) b us p q h)

pub rewound_takes_signature : (tokens_of : Signing) (a b : State) (tokens : Tokens) → Rewound tokens_of a b → b.awaiting ≡ true → a.number ≡ b.peer_number → b.peer_number ≡ a.number
    → a.held.theirs.with_receiver ++ unacknowledged b.held.own ≡ a.held.theirs.known → length b.signed ≡ b.peer_number + 1 + 1
    → (lacks_revocation b (hello a) ≡ true → b.revoked_last ≡ true) → Rewound tokens_of (after a (Step (CommitmentSigned tokens))) b
rewound_takes_signature tokens_of a b tokens g waits number revoked known count order =
    let c = after a (Step (CommitmentSigned tokens)) in
    let r = hello b in
    let x = hello a in
    let V = revocation_part b x in
    let q = resends tokens_of a r in
    let us = unacknowledged b.held.own in
    let one = last_one b.signed (b.peer_number + 1) count in
    let token = Step (CommitmentSigned (tokens_of b.held.terms one.0)) in
    let n : a.number + 1 ≡ b.peer_number + 1 = omega (arith, number) in
    let lacks : lacks_signature b x ≡ true = (λ j. waits j && eq-eqb (a.number + 1) (b.peer_number + 1) n j) in
    let part : signature_part tokens_of b x ≡ map update_message us ++ token ∷ [] = ap (λ t. cond t (signature_again tokens_of b) []) lacks ∙ ap (λ l. map update_message us ++ map (λ d. Step (CommitmentSigned (tokens_of b.held.terms d))) l) one.1 in
    let queue : resends tokens_of b x ≡ map update_message us ++ (token ∷ V) = signature_first tokens_of b x order ∙ ap (λ l. l ++ V) part ∙ append_assoc (map update_message us) (token ∷ []) V in
    let start = agree_on tokens_of (forgotten a) (forgotten b) _ (map update_message us ++ (token ∷ V)) q q queue refl g in
    let updated = takes_updates tokens_of (forgotten a) (forgotten b) us (token ∷ V) q start in
    let later = subst (λ l. Agree tokens_of (record a { held = record a.held { own = committed a.held.own; theirs = record a.held.theirs { known = l } } }) (forgotten b) (token ∷ V) q) known updated in
    let taken = agree_receives tokens_of (record a { held = record a.held { own = committed a.held.own } }) (forgotten b) (Step (CommitmentSigned (tokens_of b.held.terms one.0))) V q later in
    agree_on tokens_of (forgotten c) (forgotten b) V (resends tokens_of b (hello c)) _ (resends tokens_of c r) (sym (rest c.number refl)) (again q refl) taken
  where
    rest : (m : ℕ) → m ≡ a.number + 1 → resends tokens_of b (record (hello a) { next_commitment = m + 1 }) ≡ revocation_part b (hello a)
    rest m e =
        let no : eqb (m + 1) (b.peer_number + 1) ≡ false = ne_eqb (m + 1) (b.peer_number + 1) (λ f. omega (arith, e, f, number)) in
        resends_revocation tokens_of b (record (hello a) { next_commitment = m + 1 }) ((λ j. waits j && no j))

    again : (q : List Message) → q ≡ resends tokens_of a (hello b)
        → q ++ RevokeAndAck (record { secret = secret_at a.seed a.number; next_point = point_at a.seed (a.number + 2) }) ∷ [] ≡ resends tokens_of (after a (Step (CommitmentSigned tokens))) (hello b)
    again q e =
        let none : lacks_revocation a (hello b) ≡ false = ne_eqb (b.peer_number + 1) a.number (λ f. omega (arith, f, revoked)) in
        let n : b.peer_number + 1 ≡ a.number + 1 = omega (arith, revoked) in
        let lacks : eqb (b.peer_number + 1) (a.number + 1) ≡ true = eq-eqb (b.peer_number + 1) (a.number + 1) n in
        let before : a.number ≡ a.number + 1 - 1 = omega arith in
        let next : a.number + 2 ≡ a.number + 1 + 1 = omega arith in
        ap (λ l. l ++ RevokeAndAck (record { secret = secret_at a.seed a.number; next_point = point_at a.seed (a.number + 2) }) ∷ []) (e ∙ resends_signature tokens_of a (hello b) none)
        ∙ (λ j. signature_part tokens_of a (hello b) ++ RevokeAndAck (record { secret = secret_at a.seed (before j); next_point = point_at a.seed (next j) }) ∷ [])
        ∙ sym (ap (λ t. signature_part tokens_of a (hello b) ++ cond t (revocation_again (after a (Step (CommitmentSigned tokens)))) []) lacks)

-- what a revocation says, once no other is on its way

pub record IsRevocationOf (b : State) (secret : List ℕ) (next_point : Key) : Type 0 where
  pub reveals : secret ≡ secret_at b.seed (b.number - 1)
  pub promises : next_point ≡ point_at b.seed (b.number + 1)

pub revocation_is : (a b : State) (secret : List ℕ) (next_point : Key) (rest : List Message) → Meets b (drained rest (after a (RevokeAndAck (record { secret = secret; next_point = next_point })))) → revocations_in rest ≡ 0 → IsRevocationOf b secret next_point
revocation_is a b secret next_point rest m e =
    let c = after a (RevokeAndAck (record { secret = secret; next_point = next_point })) in
    let u = drained_unrevoked rest c e in
    let all : a.secrets ++ secret ∷ [] ≡ secrets_below b.seed b.number = sym u.secrets ∙ m.secrets in
    let before = below_start b.seed b.number a.secrets (secret ∷ []) all in
    let n = length a.secrets in
    let count : b.number ≡ suc n =
    (let f = ap length all in let g = length-append a.secrets (secret ∷ []) in let h = below-length b.seed b.number in omega (arith, f, g, h))
    in
    let last : a.secrets ++ secret ∷ [] ≡ secrets_below b.seed n ++ secret_at b.seed n ∷ [] = all ∙ ap (secrets_below b.seed) count in
    let same : secret ∷ [] ≡ secret_at b.seed n ∷ [] = append_cancel_left a.secrets (secret ∷ []) (secret_at b.seed n ∷ []) (last ∙ ap (λ l. l ++ secret_at b.seed n ∷ []) (sym before)) in
    let one : secret ≡ secret_at b.seed n = (cc) in
    let at : n ≡ b.number - 1 = omega (arith, count) in
    record { reveals = one ∙ ap (secret_at b.seed) at; promises = sym u.next_point ∙ m.next_point }

-- no signature is lacking where the numbers differ
unsigned_when : (t : Bool) (m n : ℕ) → (m ≡ n → ⊥) → t && eqb m n ≡ false
unsigned_when true m n f = ne_eqb m n f
unsigned_when false m n f = refl

not_last : (t : Bool) → (t ≡ true → ⊥) → t ≡ false
not_last true f = absurd (f refl)
not_last false f = refl

-- a takes a revocation

pub rewound_takes_revocation : (tokens_of : Signing) (a b : State) (secret : List ℕ) (next_point : Key) → Rewound tokens_of a b → IsRevocationOf b secret next_point → a.peer_number + 1 ≡ b.number
    → b.number ≡ a.peer_number + 1 → (lacks_signature b (hello a) ≡ true → b.revoked_last ≡ false) → Rewound tokens_of (after a (RevokeAndAck (record { secret = secret; next_point = next_point }))) b
rewound_takes_revocation tokens_of a b secret next_point g is revoked signed order =
    let x = hello a in
    let S = signature_part tokens_of b x in
    let q = resends tokens_of a (hello b) in
    let c = after a (RevokeAndAck (record { secret = secret; next_point = next_point })) in
    let again : revocation_part b x ≡ RevokeAndAck (record { secret = secret; next_point = next_point }) ∷ [] =
    ap (λ t. cond t (revocation_again b) []) (eq-eqb (a.peer_number + 1) b.number revoked) ∙ (λ j. RevokeAndAck (record { secret = sym is.reveals j; next_point = sym is.promises j }) ∷ [])
    in
    let queue : resends tokens_of b x ≡ RevokeAndAck (record { secret = secret; next_point = next_point }) ∷ S = revocation_first tokens_of b x order ∙ ap (λ l. l ++ S) again in
    let start = agree_on tokens_of (forgotten a) (forgotten b) _ (RevokeAndAck (record { secret = secret; next_point = next_point }) ∷ S) q q queue refl g in
    let taken = agree_receives tokens_of (forgotten a) (forgotten b) (RevokeAndAck (record { secret = secret; next_point = next_point })) S q start in
    agree_on tokens_of (forgotten c) (forgotten b) S (resends tokens_of b (hello c)) (q ++ []) (resends tokens_of c (hello b)) (sym (rest c.peer_number refl)) (append-nil q ∙ same) taken
  where
    rest : (m : ℕ) → m ≡ a.peer_number + 1 → in_order b.revoked_last (signature_part tokens_of b (hello a)) (cond (eqb (m + 1) b.number) (revocation_again b) []) ≡ signature_part tokens_of b (hello a)
    rest m e =
        let no : eqb (m + 1) b.number ≡ false = ne_eqb (m + 1) b.number (λ f. omega (arith, e, f, revoked)) in
        ap (λ t. in_order b.revoked_last (signature_part tokens_of b (hello a)) (cond t (revocation_again b) [])) no ∙ in_order-alone b.revoked_last (signature_part tokens_of b (hello a))

    same : resends tokens_of a (hello b) ≡ resends tokens_of (after a (RevokeAndAck (record { secret = secret; next_point = next_point }))) (hello b)
    same =
        let no : lacks_signature a (hello b) ≡ false = unsigned_when a.awaiting (b.number + 1) (a.peer_number + 1) (λ f. omega (arith, f, signed)) in
        resends_revocation tokens_of a (hello b) no ∙ sym (in_order-none a.revoked_last (revocation_part a (hello b)))

-- and gives it back: as if the revocation that it took were still on its way

pub rewound_gives_back : (tokens_of : Signing) (a b : State) (secret : List ℕ) (next_point : Key) → a.awaiting ≡ true → receive_refusal tokens_of a (RevokeAndAck (record { secret = secret; next_point = next_point })) ≡ None → IsKept a
    → (lacks_signature b (hello a) ≡ true → b.revoked_last ≡ true → lacks_revocation b (hello (after a (RevokeAndAck (record { secret = secret; next_point = next_point })))) ≡ true)
    → Rewound tokens_of (after a (RevokeAndAck (record { secret = secret; next_point = next_point }))) b → (Rewound tokens_of a b) × (b.number ≡ a.peer_number + 1)
rewound_gives_back tokens_of a b secret next_point waits passes k late g =
    let c = after a (RevokeAndAck (record { secret = secret; next_point = next_point })) in
    let p = resends tokens_of b (hello c) in
    let q = resends tokens_of c (hello b) in
    let one = g.ab.one in
    let other = g.ba.one in
    let unrevoked : revocations_in p ≡ 0 = omega (arith, one) in
    let unsigned : signatures_in q ≡ 0 = omega (arith, one) in
    let n = drained_number q (forgotten b) in
    let m = g.ab.meets.number in
    let signed : b.number ≡ a.peer_number + 1 = omega (arith, n, m, unsigned) in
    let is = revocation_is (forgotten a) (forgotten b) secret next_point p g.ba.meets unrevoked in
    let message = RevokeAndAck (record { secret = secret; next_point = next_point }) in
    let waiting = one_bit a.awaiting waits in
    let one_more : Agree tokens_of (forgotten a) (forgotten b) (message ∷ p) q = record {
      a_kept = steady_committed a.held k;
      b_kept = g.b_kept;
      ab = record {
        flows = g.ab.flows;
        meets = record {
          terms = g.ab.meets.terms;
          side = g.ab.meets.side;
          known = g.ab.meets.known;
          receiver = g.ab.meets.receiver;
          past = g.ab.meets.past;
          settled = g.ab.meets.settled;
          sender = g.ab.meets.sender;
          mine = g.ab.meets.mine;
          number = omega (arith, m, waiting);
          peer_number = g.ab.meets.peer_number;
          point = g.ab.meets.point;
          next_point = g.ab.meets.next_point;
          secrets = g.ab.meets.secrets;
        };
        ahead = begins_on _ _ _ k.theirs.settled g.ab.ahead;
        one = omega (arith, one, waiting);
      };
      ba = record { flows = (passes, g.ba.flows); meets = g.ba.meets; ahead = g.ba.ahead; one = omega (arith, other) };
    }
    in
    (agree_on tokens_of (forgotten a) (forgotten b) (message ∷ p) (resends tokens_of b (hello a)) q (resends tokens_of a (hello b)) (back is signed) (kept signed) one_more, signed)
  where
    back : IsRevocationOf (forgotten b) secret next_point → b.number ≡ a.peer_number + 1
        → RevokeAndAck (record { secret = secret; next_point = next_point }) ∷ resends tokens_of b (hello (after a (RevokeAndAck (record { secret = secret; next_point = next_point })))) ≡ resends tokens_of b (hello a)
    back is signed =
        let c = after a (RevokeAndAck (record { secret = secret; next_point = next_point })) in
        let none : lacks_revocation b (hello c) ≡ false = ne_eqb (a.peer_number + 1 + 1) b.number (λ f. omega (arith, f, signed)) in
        let n : a.peer_number + 1 ≡ b.number = omega (arith, signed) in
        let again : revocation_part b (hello a) ≡ RevokeAndAck (record { secret = secret; next_point = next_point }) ∷ [] =
        ap (λ t. cond t (revocation_again b) []) (eq-eqb (a.peer_number + 1) b.number n) ∙ (λ j. RevokeAndAck (record { secret = sym is.reveals j; next_point = sym is.promises j }) ∷ [])
        in
        let order : lacks_signature b (hello a) ≡ true → b.revoked_last ≡ false = λ lacks. not_last b.revoked_last (λ t. let f : false ≡ true = sym none ∙ late lacks t in cc) in
        ap (λ l. RevokeAndAck (record { secret = secret; next_point = next_point }) ∷ l) (resends_signature tokens_of b (hello c) none)
        ∙ ap (λ l. l ++ signature_part tokens_of b (hello a)) (sym again)
        ∙ sym (revocation_first tokens_of b (hello a) order)

    kept : b.number ≡ a.peer_number + 1 → resends tokens_of (after a (RevokeAndAck (record { secret = secret; next_point = next_point }))) (hello b) ≡ resends tokens_of a (hello b)
    kept signed =
        let no : lacks_signature a (hello b) ≡ false = unsigned_when a.awaiting (b.number + 1) (a.peer_number + 1) (λ f. omega (arith, f, signed)) in
        in_order-none a.revoked_last (revocation_part a (hello b)) ∙ sym (resends_revocation tokens_of a (hello b) no)
