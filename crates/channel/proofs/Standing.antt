-- Two honest peers agree, whatever becomes of their connection and of their memory.
use Rattle.std.proofs.Common.{◌≡◌, ℕ, ◌+◌, true, false, not, ltb, List, [], ◌∷◌, ◌++◌, map, sym, ap, ◌∙◌, subst, refl, arith, None}
use Rattle.std.specs.Str.{bytes_eq}
use Rattle.std.proofs.lemmas.Bool.{lt-ltb, le-ltb}
use Rattle.std.proofs.lemmas.List.{map-append}
use Rattle.terms.specs.declared.sides.Side.{Side}
use Rattle.terms.specs.declared.sides.Side.TheVariants.{A, B}
use Rattle.terms.specs.declared.agreement.Terms.{Terms}
use Rattle.updates.specs.Refusals.{first_refusal}
use Rattle.channel.specs.declared.messages.Message.{Message}
use Rattle.updates.specs.declared.messages.PeerStep.TheVariants.{Update as Updated}
use Rattle.channel.specs.declared.messages.Message.TheVariants.{Step}
use Rattle.channel.specs.declared.reestablish.Reestablish.{Reestablish}
use Rattle.channel.specs.declared.reestablish.Parcel.{Parcel}
use Rattle.channel.specs.declared.reestablish.Parcel.TheVariants.{Hello, Sent}
use Rattle.channel.specs.declared.limits.TheConstants.{LAST_NUMBER}
use Rattle.channel.specs.Points.{point_at}
use Rattle.channel.specs.States.{Signing, State, receive_refusal, after_update, after_sign, after, answers, signature_message}
use Rattle.channel.specs.Reestablishing.{forgotten, hello, secret_before, is_behind, number_tests, hello_refusal, resends}
use Rattle.channel.specs.Peers.{starts}
use Rattle.channel.specs.Connections.{Connection, opened, is_cut, cut_off, Moves, makes, gives, takes, resumes, IsReachable, opens, a_moves, b_moves, is_cut_off, a_restarts, b_restarts, IsTaken, AgreesOver, PeersStillAgree, IsToldBehind, BehindIsTold}
use Rattle.channel.specs.Playing.{state_of, queue_of, moved}
use Rattle.channel.proofs.Agreement.{agreed_opened}
use Rattle.channel.proofs.Theorem.{agrees_in}
use Rattle.channel.proofs.Hellos.{counted, shows_secret, near, knows, takes_hello}
use Rattle.channel.proofs.Joined.{Pairs, IsApart, turned_round, pairs_makes, pairs_signs, pairs_takes, apart, pairs_cut, apart_since, apart_turned}

-- how the queues stand: the connection is up, or one of the two or both have not taken the other's hello
pub data Phase (tokens_of : Signing) (a b : State) (to_a to_b : List Parcel) (p q : List Message) : Type 0 where
  both_up : to_a ≡ map Sent p → to_b ≡ map Sent q → Phase tokens_of a b to_a to_b p q
  a_cut : to_a ≡ Hello (hello b) ∷ map Sent p → to_b ≡ [] → q ≡ resends tokens_of a (hello b) → Phase tokens_of a b to_a to_b p q
  b_cut : to_a ≡ [] → to_b ≡ Hello (hello a) ∷ map Sent q → p ≡ resends tokens_of b (hello a) → Phase tokens_of a b to_a to_b p q
  both_cut : to_a ≡ Hello (hello b) ∷ [] → to_b ≡ Hello (hello a) ∷ [] → p ≡ resends tokens_of b (hello a) → q ≡ resends tokens_of a (hello b) → Phase tokens_of a b to_a to_b p q

phase_turned : (tokens_of : Signing) (a b : State) (to_a to_b : List Parcel) (p q : List Message) → Phase tokens_of a b to_a to_b p q → Phase tokens_of b a to_b to_a q p
phase_turned tokens_of a b to_a to_b p q (both_up e f) = both_up f e
phase_turned tokens_of a b to_a to_b p q (a_cut e f g) = b_cut f e g
phase_turned tokens_of a b to_a to_b p q (b_cut e f g) = a_cut f e g
phase_turned tokens_of a b to_a to_b p q (both_cut e f g h) = both_cut f e h g

-- the two, with what is on its way to each and what each will give again
pub record Joined (tokens_of : Signing) (a b : State) (to_a to_b : List Parcel) : Type 0 where
  pub p : List Message
  pub q : List Message
  pub phase : Phase tokens_of a b to_a to_b p q
  pub pairs : Pairs tokens_of a b p q

joined_turned : (tokens_of : Signing) (a b : State) (to_a to_b : List Parcel) → Joined tokens_of a b to_a to_b → Joined tokens_of b a to_b to_a
joined_turned tokens_of a b to_a to_b j = record { p = j.q; q = j.p; phase = phase_turned tokens_of a b to_a to_b j.p j.q j.phase; pairs = turned_round tokens_of a b j.p j.q j.pairs }

-- a queue that begins with a hello, or with none

not_up : (to_a : List Parcel) (r : Reestablish) (rest : List Parcel) → to_a ≡ Hello r ∷ rest → is_cut to_a ≡ false → ⊥
not_up to_a r rest e up = let f : true ≡ false = sym (ap is_cut e) ∙ up in cc

first_sent : (p : List Message) (m : Message) (rest : List Parcel) → map Sent p ≡ Sent m ∷ rest → (later : List Message) × (p ≡ m ∷ later) × (rest ≡ map Sent later)
first_sent [] m rest e = absurd (cc)
first_sent (n ∷ p) m rest e = let f : n ≡ m = (cc) in let g : map Sent p ≡ rest = (cc) in (p, ap (λ x. x ∷ p) f, sym g)

no_hello : (p : List Message) (r : Reestablish) (rest : List Parcel) → map Sent p ≡ Hello r ∷ rest → ⊥
no_hello [] r rest e = cc
no_hello (n ∷ p) r rest e = cc

-- a, which is up, sends a message
sends_up : (tokens_of : Signing) (a c b : State) (to_a to_b : List Parcel) (p q : List Message) (m : Message) → hello c ≡ hello a → is_cut to_a ≡ false → Phase tokens_of a b to_a to_b p q
    → Phase tokens_of c b to_a (to_b ++ Sent m ∷ []) p (q ++ m ∷ [])
sends_up tokens_of a c b to_a to_b p q m h up (both_up e f) = both_up e (ap (λ l. l ++ Sent m ∷ []) f ∙ sym (map-append Sent q (m ∷ [])))
sends_up tokens_of a c b to_a to_b p q m h up (a_cut e f g) = absurd (not_up to_a (hello b) (map Sent p) e up)
sends_up tokens_of a c b to_a to_b p q m h up (b_cut e f g) =
    b_cut e (ap (λ l. l ++ Sent m ∷ []) f ∙ ap (λ l. Hello (hello a) ∷ l) (sym (map-append Sent q (m ∷ []))) ∙ ap (λ r. Hello r ∷ map Sent (q ++ m ∷ [])) (sym h)) (g ∙ ap (resends tokens_of b) (sym h))
sends_up tokens_of a c b to_a to_b p q m h up (both_cut e f g i) = absurd (not_up to_a (hello b) [] e up)

joined_takes : (tokens_of : Signing) (a b : State) (to_a to_b : List Parcel) (m : Message) (rest : List Parcel) (p q : List Message) → to_a ≡ Sent m ∷ rest → receive_refusal tokens_of a m ≡ None
    → Phase tokens_of a b to_a to_b p q → Pairs tokens_of a b p q → Joined tokens_of (after a m) b rest (to_b ++ map Sent (answers a m))
joined_takes tokens_of a b to_a to_b m rest p q is e (both_up f g) pairs =
    let first = first_sent p m rest (sym f ∙ is) in
    record {
      p = first.0;
      q = q ++ answers a m;
      phase = both_up first.2 (ap (λ l. l ++ map Sent (answers a m)) g ∙ sym (map-append Sent q (answers a m)));
      pairs = pairs_takes tokens_of a b m first.0 q (subst (λ l. Pairs tokens_of a b l q) first.1 pairs) e;
    }
joined_takes tokens_of a b to_a to_b m rest p q is e (a_cut f g h) pairs = absurd (let i : Hello (hello b) ∷ map Sent p ≡ Sent m ∷ rest = sym f ∙ is in cc)
joined_takes tokens_of a b to_a to_b m rest p q is e (b_cut f g h) pairs = absurd (let i : ◌≡◌ {A = List Parcel} [] (Sent m ∷ rest) = sym f ∙ is in cc)
joined_takes tokens_of a b to_a to_b m rest p q is e (both_cut f g h i) pairs = absurd (let j : Hello (hello b) ∷ [] ≡ Sent m ∷ rest = sym f ∙ is in cc)

joined_resumes : (tokens_of : Signing) (a b : State) (to_a to_b : List Parcel) (r : Reestablish) (rest : List Parcel) (p q : List Message) → to_a ≡ Hello r ∷ rest
    → Phase tokens_of a b to_a to_b p q → Pairs tokens_of a b p q → Joined tokens_of a b rest (to_b ++ map Sent (resends tokens_of a r))
joined_resumes tokens_of a b to_a to_b r rest p q is (both_up f g) pairs = absurd (no_hello p r rest (sym f ∙ is))
joined_resumes tokens_of a b to_a to_b r rest p q is (a_cut f g h) pairs =
    let i : Hello (hello b) ∷ map Sent p ≡ Hello r ∷ rest = sym f ∙ is in
    let same : hello b ≡ r = (cc) in
    let left : map Sent p ≡ rest = (cc) in
    record { p = p; q = q; phase = both_up (sym left) (ap (λ l. l ++ map Sent (resends tokens_of a r)) g ∙ ap (λ x. map Sent (resends tokens_of a x)) (sym same) ∙ ap (map Sent) (sym h)); pairs = pairs }
joined_resumes tokens_of a b to_a to_b r rest p q is (b_cut f g h) pairs = absurd (let i : ◌≡◌ {A = List Parcel} [] (Hello r ∷ rest) = sym f ∙ is in cc)
joined_resumes tokens_of a b to_a to_b r rest p q is (both_cut f g h i) pairs =
    let j : Hello (hello b) ∷ [] ≡ Hello r ∷ rest = sym f ∙ is in
    let same : hello b ≡ r = (cc) in
    let left : ◌≡◌ {A = List Parcel} [] rest = (cc) in
    record {
      p = p;
      q = q;
      phase = b_cut (sym left) (ap (λ l. l ++ map Sent (resends tokens_of a r)) g ∙ ap (λ x. Hello (hello a) ∷ map Sent (resends tokens_of a x)) (sym same) ∙ ap (λ l. Hello (hello a) ∷ map Sent l) (sym i)) h;
      pairs = pairs;
    }

joined_moves : (tokens_of : Signing) (a b : State) (to_a to_b : List Parcel) (me : State) (sent rest : List Parcel) → Moves tokens_of a to_a me sent rest → Joined tokens_of a b to_a to_b → Joined tokens_of me b rest (to_b ++ sent)
joined_moves tokens_of a b to_a to_b me sent rest (makes u up e) j = record {
  p = j.p;
  q = j.q ++ Step (Updated u) ∷ [];
  phase = sends_up tokens_of a (after_update u a) b to_a to_b j.p j.q (Step (Updated u)) refl up j.phase;
  pairs = pairs_makes tokens_of a b j.p j.q u j.pairs e;
}
joined_moves tokens_of a b to_a to_b me sent rest (gives up e) j = record {
  p = j.p;
  q = j.q ++ signature_message tokens_of a ∷ [];
  phase = sends_up tokens_of a (after_sign a) b to_a to_b j.p j.q (signature_message tokens_of a) refl up j.phase;
  pairs = pairs_signs tokens_of a b j.p j.q j.pairs e;
}
joined_moves tokens_of a b to_a to_b me sent rest (takes m left is e) j = joined_takes tokens_of a b to_a to_b m left j.p j.q is e j.phase j.pairs
joined_moves tokens_of a b to_a to_b me sent rest (resumes r left is e ahead) j = joined_resumes tokens_of a b to_a to_b r left j.p j.q is j.phase j.pairs

joined_cut : (tokens_of : Signing) (a b : State) → IsApart tokens_of a b → Joined tokens_of (forgotten a) (forgotten b) (Hello (hello b) ∷ []) (Hello (hello a) ∷ [])
joined_cut tokens_of a b g = record { p = resends tokens_of b (hello a); q = resends tokens_of a (hello b); phase = both_cut refl refl refl refl; pairs = pairs_cut tokens_of a b g }

pub joined_opened : (tokens_of : Signing) (terms : Terms) (seed_a seed_b : List ℕ) → Joined tokens_of (opened terms seed_a seed_b).a (opened terms seed_a seed_b).b [] []
joined_opened tokens_of terms seed_a seed_b =
    let g = agreed_opened tokens_of terms seed_a seed_b in
    record {
      p = [];
      q = [];
      phase = both_up refl refl;
      pairs = record {
        calm = g;
        rewound = g;
        from_a = record { lived = starts terms A seed_a (point_at seed_b 0) (point_at seed_b 1); remakes = tt; order = tt; late = λ lacks last. absurd (cc) };
        from_b = record { lived = starts terms B seed_b (point_at seed_a 0) (point_at seed_a 1); remakes = tt; order = tt; late = λ lacks last. absurd (cc) };
      };
    }

pub joined : (tokens_of : Signing) (terms : Terms) (seed_a seed_b : List ℕ) (w : Connection) → IsReachable tokens_of terms seed_a seed_b w → Joined tokens_of w.a w.b w.to_a w.to_b
joined tokens_of terms seed_a seed_b w opens = joined_opened tokens_of terms seed_a seed_b
joined tokens_of terms seed_a seed_b w (a_moves {w = v} {me = me} {sent = sent} {rest = rest} r m) = joined_moves tokens_of v.a v.b v.to_a v.to_b me sent rest m (joined tokens_of terms seed_a seed_b v r)
joined tokens_of terms seed_a seed_b w (b_moves {w = v} {me = me} {sent = sent} {rest = rest} r m) =
    joined_turned tokens_of me v.a rest (v.to_a ++ sent) (joined_moves tokens_of v.b v.a v.to_b v.to_a me sent rest m (joined_turned tokens_of v.a v.b v.to_a v.to_b (joined tokens_of terms seed_a seed_b v r)))
joined tokens_of terms seed_a seed_b w (is_cut_off {w = v} r) =
    let j = joined tokens_of terms seed_a seed_b v r in
    joined_cut tokens_of v.a v.b (apart tokens_of v.a v.b j.p j.q j.pairs)
joined tokens_of terms seed_a seed_b w (a_restarts {w = v} s r l since) =
    let j = joined tokens_of terms seed_a seed_b v r in
    joined_cut tokens_of s v.b (apart_since tokens_of s v.a v.b l since (apart tokens_of v.a v.b j.p j.q j.pairs))
joined tokens_of terms seed_a seed_b w (b_restarts {w = v} s r l since) =
    let j = joined tokens_of terms seed_a seed_b v r in
    joined_cut tokens_of v.a s (apart_turned tokens_of s v.a (apart_since tokens_of s v.b v.a l since (apart_turned tokens_of v.a v.b (apart tokens_of v.a v.b j.p j.q j.pairs))))

-- of either side

pub joined_acts : (tokens_of : Signing) (w : Connection) (side : Side) (me : State) (sent rest : List Parcel) → Moves tokens_of (state_of side w) (queue_of side w) me sent rest → Joined tokens_of w.a w.b w.to_a w.to_b
    → Joined tokens_of (moved side w me rest sent).a (moved side w me rest sent).b (moved side w me rest sent).to_a (moved side w me rest sent).to_b
joined_acts tokens_of w A me sent rest m j = joined_moves tokens_of w.a w.b w.to_a w.to_b me sent rest m j
joined_acts tokens_of w B me sent rest m j =
    joined_turned tokens_of me w.a rest (w.to_a ++ sent) (joined_moves tokens_of w.b w.a w.to_b w.to_a me sent rest m (joined_turned tokens_of w.a w.b w.to_a w.to_b j))

pub joined_cut_off : (tokens_of : Signing) (w : Connection) → Joined tokens_of w.a w.b w.to_a w.to_b → Joined tokens_of (cut_off w).a (cut_off w).b (cut_off w).to_a (cut_off w).to_b
joined_cut_off tokens_of w j = joined_cut tokens_of w.a w.b (apart tokens_of w.a w.b j.p j.q j.pairs)

-- the oldest parcel on its way to a side is taken

hello_taken : (tokens_of : Signing) (a b : State) (p q : List Message) → Pairs tokens_of a b p q → IsTaken tokens_of a (Hello (hello b))
hello_taken tokens_of a b p q g =
    let c = g.calm in
    let h = takes_hello a b (near a b p q c.ab.meets c.ab.one c.ba.one) (counted tokens_of a g.from_a.lived) (shows_secret a b q c.ab.meets (counted tokens_of b g.from_b.lived)) in
    record { passes = h.0; ahead = h.1 }

taken_when : (tokens_of : Signing) (a b : State) (to_a to_b : List Parcel) (p q : List Message) → Pairs tokens_of a b p q → Phase tokens_of a b to_a to_b p q
    → (x : Parcel) (rest : List Parcel) → to_a ≡ x ∷ rest → IsTaken tokens_of a x
taken_when tokens_of a b to_a to_b p q g (both_up e f) (Sent m) rest is =
    let first = first_sent p m rest (sym e ∙ is) in
    let h = agrees_in tokens_of (record { a = a; b = b; to_a = p; to_b = q }) g.calm in
    record { passes = h.a_takes m first.0 first.1; ahead = refl }
taken_when tokens_of a b to_a to_b p q g (both_up e f) (Hello r) rest is = absurd (no_hello p r rest (sym e ∙ is))
taken_when tokens_of a b to_a to_b p q g (a_cut e f h) x rest is =
    let i : Hello (hello b) ∷ map Sent p ≡ x ∷ rest = sym e ∙ is in
    let same : Hello (hello b) ≡ x = (cc) in
    subst (IsTaken tokens_of a) same (hello_taken tokens_of a b p q g)
taken_when tokens_of a b to_a to_b p q g (b_cut e f h) x rest is = absurd (let i : ◌≡◌ {A = List Parcel} [] (x ∷ rest) = sym e ∙ is in cc)
taken_when tokens_of a b to_a to_b p q g (both_cut e f h k) x rest is =
    let i : Hello (hello b) ∷ [] ≡ x ∷ rest = sym e ∙ is in
    let same : Hello (hello b) ≡ x = (cc) in
    subst (IsTaken tokens_of a) same (hello_taken tokens_of a b p q g)

pub agrees_over : (tokens_of : Signing) (w : Connection) → Joined tokens_of w.a w.b w.to_a w.to_b → AgreesOver tokens_of w
agrees_over tokens_of w j =
    let h = agrees_in tokens_of (record { a = w.a; b = w.b; to_a = j.p; to_b = j.q }) j.pairs.calm in
    record {
      same_terms = h.same_terms;
      a_takes = taken_when tokens_of w.a w.b w.to_a w.to_b j.p j.q j.pairs j.phase;
      b_takes = taken_when tokens_of w.b w.a w.to_b w.to_a j.q j.p (turned_round tokens_of w.a w.b j.p j.q j.pairs) (phase_turned tokens_of w.a w.b w.to_a w.to_b j.p j.q j.phase);
      a_accepted = h.a_accepted;
      b_accepted = h.b_accepted;
      a_sound = h.a_sound;
      b_sound = h.b_sound;
    }

pub peers_still_agree : PeersStillAgree
peers_still_agree tokens_of terms seed_a seed_b w r = agrees_over tokens_of w (joined tokens_of terms seed_a seed_b w r)

-- a side that was put back

told : (tokens_of : Signing) (a b old : State) (p q : List Message) → Pairs tokens_of a b p q → old.seed ≡ a.seed → IsToldBehind old b
told tokens_of a b old p q g seed =
    let c = g.calm in
    let n = near a b p q c.ab.meets c.ab.one c.ba.one in
    let ka = counted tokens_of a g.from_a.lived in
    let kb = counted tokens_of b g.from_b.lived in
    let revoked = n.revoked in
    let last = ka.last in
    let count = kb.secrets in
    let shown : (hello b).last_secret ≡ secret_before old.seed b.peer_number = shows_secret a b q c.ab.meets kb ∙ ap (λ s. secret_before s b.peer_number) (sym seed) in
    let first = knows old (hello b) b.peer_number refl (omega (arith, revoked, last)) shown in
    record {
      revoked = λ l. (let behind : is_behind old (hello b) ≡ true = lt-ltb old.number b.peer_number (omega (arith, l, count)) in (behind_passes old (hello b) first behind, behind));
      newest = λ l. (let ahead : is_behind old (hello b) ≡ false = le-ltb old.number b.peer_number (omega (arith, l, count)) in (numbers_decide old (hello b) first ahead, ahead));
    }
  where
    behind_passes : (s : State) (r : Reestablish) → (ltb (LAST_NUMBER + 1) r.next_revocation ≡ false) × (not (bytes_eq r.last_secret (secret_before s.seed r.next_revocation)) ≡ false)
        → is_behind s r ≡ true → hello_refusal s r ≡ None
    behind_passes s r first behind = rw (first.0, first.1, behind) refl

    numbers_decide : (s : State) (r : Reestablish) → (ltb (LAST_NUMBER + 1) r.next_revocation ≡ false) × (not (bytes_eq r.last_secret (secret_before s.seed r.next_revocation)) ≡ false)
        → is_behind s r ≡ false → hello_refusal s r ≡ first_refusal (number_tests s r)
    numbers_decide s r first ahead = rw (first.0, first.1, ahead) refl

pub behind_is_told : BehindIsTold
behind_is_told tokens_of terms seed_a seed_b w old r =
    let j = joined tokens_of terms seed_a seed_b w r in
    (λ e. told tokens_of w.a w.b old j.p j.q j.pairs e, λ e. told tokens_of w.b w.a old j.q j.p (turned_round tokens_of w.a w.b j.p j.q j.pairs) e)
