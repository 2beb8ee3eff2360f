-- What honest peers reach where one of them does nothing but answer hellos from an older state on, while its peer does what it did.
use Rattle.std.proofs.Common.{◌≡◌, ◌+◌, ◌<◌, ◌≤◌, Bool, true, false, ltb, leb, List, [], ◌∷◌, ◌++◌, length, map, sym, ap, ◌∙◌, subst, refl, arith, None, append-nil, append_assoc}
use Rattle.std.proofs.lemmas.Bool.{ltb-false, lt-ltb, le-ltb, lt-leb}
use Rattle.updates.specs.declared.changes.Update.{Update}
use Rattle.updates.specs.declared.changes.Update.TheVariants.{Add, Fulfil, Fail, Fee}
use Rattle.updates.specs.Updates.{offers, spent_msat, gained_msat, live_count}
use Rattle.updates.specs.Views.{start_msat_of}
use Rattle.updates.specs.declared.errors.ChannelError.TheVariants.{PeerBehind, NeverSigned}
use Rattle.updates.specs.Refusals.{if_so, first_refusal, add_tests}
use Rattle.updates.specs.Steady.{IsSteady, RemovesBelow, own_tests}
use Rattle.updates.proofs.Numbering.{gained_settled}
use Rattle.updates.proofs.Funds.{settled_known, removes_below_start}
use Rattle.channel.specs.declared.messages.Message.{Message}
use Rattle.updates.specs.declared.messages.PeerStep.TheVariants.{Update as Updated, CommitmentSigned}
use Rattle.channel.specs.declared.messages.Message.TheVariants.{Step, RevokeAndAck}
use Rattle.channel.specs.declared.reestablish.Reestablish.{Reestablish}
use Rattle.channel.specs.declared.reestablish.Parcel.{Parcel}
use Rattle.channel.specs.declared.reestablish.Parcel.TheVariants.{Hello, Sent}
use Rattle.channel.specs.States.{Signing, State, repeat_tests, update_refusal, sign_refusal, receive_refusal, after_update, after_sign, after, answers, signature_message}
use Rattle.channel.specs.Reestablishing.{forgotten, hello, last_signed, is_behind, number_tests, resends}
use Rattle.channel.specs.Peers.{IsLived}
use Rattle.channel.specs.Resending.{IsSince, forgot}
use Rattle.channel.specs.Connections.{Connection, is_cut, cut_off, Moves, makes, gives, takes, resumes, IsTaken, AgreesOver, IsToldBehind}
use Rattle.restart_laws.specs.Histories.{IsAnswered}
use Rattle.restart_laws.proofs.Phases.{Phase, both_up, a_cut, b_cut, both_cut, not_up, first_sent, no_hello, more_sent, more_behind, lived_steady, IsNear, near}
use Rattle.restart_laws.proofs.Older.{IsAfter, IsWithin, AreBeyond, beyond_both, beyond_grows, IsSplit, split, after_itself, after_more, after_makes, after_gives, after_takes, after_forgets, after_restarts, calm_when, last_calm, number_since}

-- what the steps of two honest peers keep, and what it gives
pub record IsClosed (tokens_of : Signing) (R : Connection → Type 0) : Type 0 where
  pub by_a : (w : Connection) (me : State) (sent rest : List Parcel) → R w → Moves tokens_of w.a w.to_a me sent rest → R (record { a = me; b = w.b; to_a = rest; to_b = w.to_b ++ sent })
  pub by_b : (w : Connection) (me : State) (sent rest : List Parcel) → R w → Moves tokens_of w.b w.to_b me sent rest → R (record { a = w.a; b = me; to_a = w.to_a ++ sent; to_b = rest })
  pub by_cut : (w : Connection) → R w → R (cut_off w)
  pub again_a : (w : Connection) (s : State) → R w → IsLived tokens_of s → IsSince tokens_of s w.a → R (cut_off (record { a = s; b = w.b; to_a = w.to_a; to_b = w.to_b }))
  pub again_b : (w : Connection) (s : State) → R w → IsLived tokens_of s → IsSince tokens_of s w.b → R (cut_off (record { a = w.a; b = s; to_a = w.to_a; to_b = w.to_b }))
  pub agrees : (w : Connection) → R w → AgreesOver tokens_of w
  pub told : (w : Connection) (old : State) → R w → old.seed ≡ w.a.seed → IsToldBehind old w.b
  pub b_lived : (w : Connection) → R w → IsLived tokens_of w.b
  pub phase : (w : Connection) → R w → Phase w.a w.b w.to_a w.to_b

-- a's side: whatever its queue is, it would take b's hello
near_in : (tokens_of : Signing) (R : Connection → Type 0) → IsClosed tokens_of R → (w : Connection) → R w → IsNear w.a w.b
near_in tokens_of R k w r = let t = (k.agrees (cut_off w) (k.by_cut w r)).a_takes (Hello (hello w.b)) [] refl in near w.a w.b t.passes t.ahead

-- a side that took more updates of its peer, which no signature covers
abbrev also : List Update → State → State
also us s = record s { held = record s.held { theirs = record s.held.theirs { known = s.held.theirs.known ++ us } } }

also_none : (s : State) → also [] s ≡ s
also_none s = (λ j. record s { held = record s.held { theirs = record s.held.theirs { known = append-nil s.held.theirs.known j } } })

-- its own updates are tested as before
gained : (y : State) (us : List Update) → IsSteady y.held → IsSteady (also us y).held → gained_msat y.held.own.settled (y.held.theirs.known ++ us) ≡ gained_msat y.held.own.settled y.held.theirs.known
gained y us k m =
    let own = y.held.own in
    let theirs = y.held.theirs in
    let b = settled_known own k.own in
    let all : RemovesBelow (length (offers theirs.settled)) (own.settled ++ b.0) = subst (λ l. RemovesBelow (length (offers theirs.settled)) l) (sym b.1) k.own_fair.removes in
    let removes = removes_below_start (length (offers theirs.settled)) own.settled b.0 all in
    gained_settled own.settled theirs.settled (theirs.known ++ us) (settled_known (also us y).held.theirs m.theirs) m.their_fair.numbered removes
    ∙ sym (gained_settled own.settled theirs.settled theirs.known (settled_known theirs k.theirs) k.their_fair.numbered removes)

same_tests : (y : State) (us : List Update) (u : Update) → IsSteady y.held → IsSteady (also us y).held → own_tests (also us y).held u ≡ own_tests y.held u
same_tests y us (Add h) k m =
    ap (λ n. add_tests y.held.terms y.held.side (length (offers y.held.own.known)) (live_count y.held.own.known y.held.theirs.settled) (start_msat_of y.held.side y.held.terms + n) (spent_msat y.held.own.known y.held.theirs.settled) h)
    (gained y us k m)
same_tests y us (Fulfil id preimage) k m = refl
same_tests y us (Fail id) k m = refl
same_tests y us (Fee feerate_per_kw) k m = refl

makes_too : (y : State) (us : List Update) (u : Update) → IsSteady y.held → IsSteady (also us y).held → update_refusal (also us y) u ≡ None → update_refusal y u ≡ None
makes_too y us u k m e = ap (λ tests. first_refusal (tests ++ repeat_tests y.fulfilled u)) (sym (same_tests y us u k m)) ∙ e

-- b, and the same peer where a stood still: it has the same, or has taken all that it got and lacks some updates

data IsBeside (b y : State) (ns : List Message) : Type 0 where
  same : b ≡ y → IsBeside b y ns
  ahead : (us : List Update) → b ≡ also us y → ns ≡ [] → IsBeside b y ns

-- the two connections: whether a and b have taken the other's hello
data AreBeside (old b : State) (to_a to_b : List Parcel) (y : State) (to_x to_y : List Parcel) : Type 0 where
  up_up : (ps ns extra : List Message) → to_a ≡ map Sent ps → to_b ≡ map Sent (ns ++ extra) → to_y ≡ map Sent ns → IsBeside b y ns → AreBeyond old b extra → AreBeside old b to_a to_b y to_x to_y
  up_cut : (ps ns extra : List Message) (r s : Reestablish) → to_a ≡ map Sent ps → to_b ≡ Hello r ∷ map Sent (ns ++ extra) → to_y ≡ Hello s ∷ map Sent ns → b ≡ y → AreBeyond old b extra
      → AreBeside old b to_a to_b y to_x to_y
  cut_up : (ps : List Message) (rest : List Parcel) → to_a ≡ Hello (hello b) ∷ map Sent ps → to_x ≡ Hello (hello b) ∷ rest → to_b ≡ [] → to_y ≡ [] → b ≡ y → AreBeside old b to_a to_b y to_x to_y
  cut_cut : (ps : List Message) (rest : List Parcel) (r s : Reestablish) → to_a ≡ Hello (hello b) ∷ map Sent ps → to_x ≡ Hello (hello b) ∷ rest → to_b ≡ Hello r ∷ [] → to_y ≡ Hello s ∷ [] → b ≡ y
      → AreBeside old b to_a to_b y to_x to_y

-- such a connection, which the steps of two honest peers lead to
record IsWithout (tokens_of : Signing) (R : Connection → Type 0) (old b : State) (to_a to_b : List Parcel) : Type 0 where
  x : Connection
  here : R x
  older : forgotten x.a ≡ forgotten old
  beside : AreBeside old b to_a to_b x.b x.to_a x.to_b

-- a sends: what it sends takes b further

a_sends : (old b : State) (to_a to_b : List Parcel) (y : State) (to_x to_y : List Parcel) (ms : List Message) → is_cut to_a ≡ false → AreBeyond old b ms → AreBeside old b to_a to_b y to_x to_y
    → AreBeside old b to_a (to_b ++ map Sent ms) y to_x to_y
a_sends old b to_a to_b y to_x to_y ms up g (up_up ps ns extra e f i s d) =
    up_up ps ns (extra ++ ms) e (more_sent to_b (ns ++ extra) ms f ∙ ap (map Sent) (append_assoc ns extra ms)) i s (beyond_both old b extra ms d g)
a_sends old b to_a to_b y to_x to_y ms up g (up_cut ps ns extra r t e f i s d) =
    up_cut ps ns (extra ++ ms) r t e (more_behind to_b r (ns ++ extra) ms f ∙ ap (λ l. Hello r ∷ map Sent l) (append_assoc ns extra ms)) i s (beyond_both old b extra ms d g)
a_sends old b to_a to_b y to_x to_y ms up g (cut_up ps rest e f i j s) = absurd (not_up to_a (hello b) (map Sent ps) e up)
a_sends old b to_a to_b y to_x to_y ms up g (cut_cut ps rest r t e f i j s) = absurd (not_up to_a (hello b) (map Sent ps) e up)

a_takes : (old b : State) (to_a to_b : List Parcel) (y : State) (to_x to_y : List Parcel) (m : Message) (left : List Parcel) (ms : List Message) → to_a ≡ Sent m ∷ left → AreBeyond old b ms
    → AreBeside old b to_a to_b y to_x to_y → AreBeside old b left (to_b ++ map Sent ms) y to_x to_y
a_takes old b to_a to_b y to_x to_y m left ms is g (up_up ps ns extra e f i s d) =
    let h = first_sent ps m left (sym e ∙ is) in
    up_up h.0 ns (extra ++ ms) h.2 (more_sent to_b (ns ++ extra) ms f ∙ ap (map Sent) (append_assoc ns extra ms)) i s (beyond_both old b extra ms d g)
a_takes old b to_a to_b y to_x to_y m left ms is g (up_cut ps ns extra r t e f i s d) =
    let h = first_sent ps m left (sym e ∙ is) in
    up_cut h.0 ns (extra ++ ms) r t h.2 (more_behind to_b r (ns ++ extra) ms f ∙ ap (λ l. Hello r ∷ map Sent l) (append_assoc ns extra ms)) i s (beyond_both old b extra ms d g)
a_takes old b to_a to_b y to_x to_y m left ms is g (cut_up ps rest e f i j s) = absurd (let h : Hello (hello b) ∷ map Sent ps ≡ Sent m ∷ left = sym e ∙ is in cc)
a_takes old b to_a to_b y to_x to_y m left ms is g (cut_cut ps rest r t e f i j s) = absurd (let h : Hello (hello b) ∷ map Sent ps ≡ Sent m ∷ left = sym e ∙ is in cc)

-- a takes b's hello, and so does the older state
resends_older : (tokens_of : Signing) (s t : State) (r : Reestablish) → forgotten s ≡ forgotten t → resends tokens_of s r ≡ resends tokens_of t r
resends_older tokens_of s t r e = ap (λ (u : State). resends tokens_of u r) e

a_resumes : (tokens_of : Signing) (R : Connection → Type 0) → IsClosed tokens_of R → (old a b : State) (to_a to_b : List Parcel) (r : Reestablish) (left : List Parcel) → to_a ≡ Hello r ∷ left → IsSplit tokens_of old a b
    → IsWithout tokens_of R old b to_a to_b → IsWithout tokens_of R old b left (to_b ++ map Sent (resends tokens_of a r))
a_resumes tokens_of R k old a b to_a to_b r left is g w = by w.beside
  where
    x : Connection
    x = w.x

    moved_on : (rest : List Parcel) → x.to_a ≡ Hello (hello b) ∷ rest → R (record { a = x.a; b = x.b; to_a = rest; to_b = x.to_b ++ map Sent (resends tokens_of x.a (hello b)) })
    moved_on rest e =
        let t = (k.agrees x w.here).a_takes (Hello (hello b)) rest e in
        k.by_a x x.a (map Sent (resends tokens_of x.a (hello b))) rest w.here (resumes (hello b) rest e t.passes t.ahead)

    of_older : resends tokens_of x.a (hello b) ≡ resends tokens_of old (hello b)
    of_older = resends_older tokens_of x.a old (hello b) w.older

    first : (ps : List Message) → to_a ≡ Hello (hello b) ∷ map Sent ps → (hello b ≡ r) × (left ≡ map Sent ps)
    first ps e = let h : Hello (hello b) ∷ map Sent ps ≡ Hello r ∷ left = sym e ∙ is in ((cc), (let j : map Sent ps ≡ left = (cc) in sym j))

    all_sent : hello b ≡ r → resends tokens_of a r ≡ resends tokens_of x.a (hello b) ++ g.extra
    all_sent e = ap (resends tokens_of a) (sym e) ∙ g.is ∙ ap (λ l. l ++ g.extra) (sym of_older)

    by : AreBeside old b to_a to_b x.b x.to_a x.to_b → IsWithout tokens_of R old b left (to_b ++ map Sent (resends tokens_of a r))
    by (up_up ps ns extra e f i s d) = absurd (no_hello ps r left (sym e ∙ is))
    by (up_cut ps ns extra u v e f i s d) = absurd (no_hello ps r left (sym e ∙ is))
    by (cut_up ps rest e f i j s) =
        let h = first ps e in
        record {
          x = record { a = x.a; b = x.b; to_a = rest; to_b = x.to_b ++ map Sent (resends tokens_of x.a (hello b)) };
          here = moved_on rest f;
          older = w.older;
          beside = up_up ps (resends tokens_of x.a (hello b)) g.extra h.1 ((λ n. i n ++ map Sent (all_sent h.0 n))) (ap (λ l. l ++ map Sent (resends tokens_of x.a (hello b))) j) (same s) g.beyond;
        }
    by (cut_cut ps rest u v e f i j s) =
        let h = first ps e in
        record {
          x = record { a = x.a; b = x.b; to_a = rest; to_b = x.to_b ++ map Sent (resends tokens_of x.a (hello b)) };
          here = moved_on rest f;
          older = w.older;
          beside = up_cut ps (resends tokens_of x.a (hello b)) g.extra u v h.1 ((λ n. i n ++ map Sent (all_sent h.0 n))) (ap (λ l. l ++ map Sent (resends tokens_of x.a (hello b))) j) s g.beyond;
        }

-- b makes an update, or signs: a call that more updates of the peer do not change

record IsCall (f : State → State) : Type 0 where
  aside : (us : List Update) (s : State) → f (also us s) ≡ also us (f s)
  number : (s : State) → (f s).number ≡ s.number
  peer_number : (s : State) → (f s).peer_number ≡ s.peer_number
  greets : (s : State) → hello (f s) ≡ hello s

beside_calls : (f : State → State) (b y : State) (ns : List Message) → IsCall f → IsBeside b y ns → IsBeside (f b) (f y) ns
beside_calls f b y ns c (same e) = same (ap f e)
beside_calls f b y ns c (ahead us e n) = ahead us (ap f e ∙ c.aside us y) n

-- the side that stands beside is up too
up_too : (old b : State) (to_a to_b : List Parcel) (y : State) (to_x to_y : List Parcel) → is_cut to_b ≡ false → AreBeside old b to_a to_b y to_x to_y → is_cut to_y ≡ false
up_too old b to_a to_b y to_x to_y up (up_up ps ns extra e f i s d) = ap is_cut i ∙ of_sent ns
  where
    of_sent : (ns : List Message) → is_cut (map Sent ns) ≡ false
    of_sent [] = refl
    of_sent (n ∷ ns) = refl
up_too old b to_a to_b y to_x to_y up (up_cut ps ns extra r t e f i s d) = absurd (not_up to_b r (map Sent (ns ++ extra)) f up)
up_too old b to_a to_b y to_x to_y up (cut_up ps rest e f i j s) = ap is_cut j
up_too old b to_a to_b y to_x to_y up (cut_cut ps rest r t e f i j s) = absurd (not_up to_b r [] i up)

b_calls : (f : State → State) (old b : State) (to_a to_b : List Parcel) (y : State) (to_x to_y : List Parcel) (m n : Message) → IsCall f → is_cut to_b ≡ false → AreBeside old b to_a to_b y to_x to_y
    → AreBeside old (f b) (to_a ++ Sent m ∷ []) to_b (f y) (to_x ++ Sent n ∷ []) to_y
b_calls f old b to_a to_b y to_x to_y m n c up (up_up ps ns extra e g i s d) =
    let p = c.number b in
    let q = c.peer_number b in
    up_up (ps ++ m ∷ []) ns extra (more_sent to_a ps (m ∷ []) e) g i (beside_calls f b y ns c s) (beyond_grows old b (f b) extra (omega (arith, p)) (omega (arith, q)) d)
b_calls f old b to_a to_b y to_x to_y m n c up (up_cut ps ns extra r t e g i s d) = absurd (not_up to_b r (map Sent (ns ++ extra)) g up)
b_calls f old b to_a to_b y to_x to_y m n c up (cut_up ps rest e g i j s) =
    let h : (l : List Parcel) → Hello (hello b) ∷ l ≡ Hello (hello (f b)) ∷ l = λ l. ap (λ r. Hello r ∷ l) (sym (c.greets b)) in
    cut_up (ps ++ m ∷ []) (rest ++ Sent n ∷ []) (more_behind to_a (hello b) ps (m ∷ []) e ∙ h (map Sent (ps ++ m ∷ []))) (ap (λ l. l ++ Sent n ∷ []) g ∙ h (rest ++ Sent n ∷ [])) i j (ap f s)
b_calls f old b to_a to_b y to_x to_y m n c up (cut_cut ps rest r t e g i j s) = absurd (not_up to_b r [] i up)

-- what b may make, the peer that stands beside may make
may_make : (tokens_of : Signing) (old b : State) (to_a to_b : List Parcel) (y : State) (to_x to_y : List Parcel) (u : Update) → IsLived tokens_of b → IsLived tokens_of y → update_refusal b u ≡ None
    → AreBeside old b to_a to_b y to_x to_y → update_refusal y u ≡ None
may_make tokens_of old b to_a to_b y to_x to_y u lb ly e (up_up ps ns extra g f i (same s) d) = subst (λ z. update_refusal z u ≡ None) s e
may_make tokens_of old b to_a to_b y to_x to_y u lb ly e (up_up ps ns extra g f i (ahead us s none) d) =
    let both = lived_steady tokens_of (also us y) (subst (IsLived tokens_of) s lb) in
    makes_too y us u (lived_steady tokens_of y ly) both (subst (λ z. update_refusal z u ≡ None) s e)
may_make tokens_of old b to_a to_b y to_x to_y u lb ly e (up_cut ps ns extra r t g f i s d) = subst (λ z. update_refusal z u ≡ None) s e
may_make tokens_of old b to_a to_b y to_x to_y u lb ly e (cut_up ps rest g f i j s) = subst (λ z. update_refusal z u ≡ None) s e
may_make tokens_of old b to_a to_b y to_x to_y u lb ly e (cut_cut ps rest r t g f i j s) = subst (λ z. update_refusal z u ≡ None) s e

may_sign : (old b : State) (to_a to_b : List Parcel) (y : State) (to_x to_y : List Parcel) → sign_refusal b ≡ None → AreBeside old b to_a to_b y to_x to_y → sign_refusal y ≡ None
may_sign old b to_a to_b y to_x to_y e (up_up ps ns extra g f i (same s) d) = subst (λ z. sign_refusal z ≡ None) s e
may_sign old b to_a to_b y to_x to_y e (up_up ps ns extra g f i (ahead us s none) d) = let h : sign_refusal (also us y) ≡ None = subst (λ z. sign_refusal z ≡ None) s e in h
may_sign old b to_a to_b y to_x to_y e (up_cut ps ns extra r t g f i s d) = subst (λ z. sign_refusal z ≡ None) s e
may_sign old b to_a to_b y to_x to_y e (cut_up ps rest g f i j s) = subst (λ z. sign_refusal z ≡ None) s e
may_sign old b to_a to_b y to_x to_y e (cut_cut ps rest r t g f i j s) = subst (λ z. sign_refusal z ≡ None) s e

b_makes : (tokens_of : Signing) (R : Connection → Type 0) → IsClosed tokens_of R → (old b : State) (to_a to_b : List Parcel) (u : Update) → IsLived tokens_of b → is_cut to_b ≡ false → update_refusal b u ≡ None
    → IsWithout tokens_of R old b to_a to_b → IsWithout tokens_of R old (after_update u b) (to_a ++ Sent (Step (Updated u)) ∷ []) to_b
b_makes tokens_of R k old b to_a to_b u lived up e w =
    let x = w.x in
    record {
      x = record { a = x.a; b = after_update u x.b; to_a = x.to_a ++ Sent (Step (Updated u)) ∷ []; to_b = x.to_b };
      here =
          k.by_b x (after_update u x.b) (Sent (Step (Updated u)) ∷ []) x.to_b w.here
          (makes u (up_too old b to_a to_b x.b x.to_a x.to_b up w.beside) (may_make tokens_of old b to_a to_b x.b x.to_a x.to_b u lived (k.b_lived x w.here) e w.beside));
      older = w.older;
      beside = b_calls (after_update u) old b to_a to_b x.b x.to_a x.to_b (Step (Updated u)) (Step (Updated u)) (record { aside = λ us s. refl; number = λ s. refl; peer_number = λ s. refl; greets = λ s. refl }) up w.beside;
    }

b_gives : (tokens_of : Signing) (R : Connection → Type 0) → IsClosed tokens_of R → (old b : State) (to_a to_b : List Parcel) → is_cut to_b ≡ false → sign_refusal b ≡ None
    → IsWithout tokens_of R old b to_a to_b → IsWithout tokens_of R old (after_sign b) (to_a ++ Sent (signature_message tokens_of b) ∷ []) to_b
b_gives tokens_of R k old b to_a to_b up e w =
    let x = w.x in
    record {
      x = record { a = x.a; b = after_sign x.b; to_a = x.to_a ++ Sent (signature_message tokens_of x.b) ∷ []; to_b = x.to_b };
      here =
          k.by_b x (after_sign x.b) (Sent (signature_message tokens_of x.b) ∷ []) x.to_b w.here
          (gives (up_too old b to_a to_b x.b x.to_a x.to_b up w.beside) (may_sign old b to_a to_b x.b x.to_a x.to_b e w.beside));
      older = w.older;
      beside = b_calls after_sign old b to_a to_b x.b x.to_a x.to_b (signature_message tokens_of b) (signature_message tokens_of x.b) (record { aside = λ us s. refl; number = λ s. refl; peer_number = λ s. refl; greets = λ s. refl }) up w.beside;
    }

-- b takes a message: one that the older state gave too, or an update that no signature will cover. Nothing else comes to a peer that goes no further

abbrev IsTakenFrom : Signing → (Connection → Type 0) → State → State → List Parcel → List Parcel → Message → Type 0
IsTakenFrom tokens_of R old b to_a left m = IsWithout tokens_of R old (after b m) (to_a ++ map Sent (answers b m)) left

taken_more : (b y : State) (u : Update) → IsBeside b y [] → IsBeside (after b (Step (Updated u))) y []
taken_more b y u (same e) = ahead (u ∷ []) (ap (λ (s : State). after s (Step (Updated u))) e) refl
taken_more b y u (ahead us e n) = ahead (us ++ u ∷ []) (ap (λ (s : State). after s (Step (Updated u))) e ∙ (λ j. record y { held = record y.held { theirs = record y.held.theirs { known = append_assoc y.held.theirs.known us (u ∷ []) j } } })) refl

-- of the messages that only the later states gave
takes_extra : (tokens_of : Signing) (R : Connection → Type 0) (old b : State) (to_a left : List Parcel) (m : Message) (ps later : List Message) (w : Connection) → R w → forgotten w.a ≡ forgotten old
    → to_a ≡ map Sent ps → left ≡ map Sent later → w.to_b ≡ [] → IsBeside b w.b [] → AreBeyond old b (m ∷ later) → IsWithin old (after b m) → IsTakenFrom tokens_of R old b to_a left m
takes_extra tokens_of R old b to_a left (Step (Updated u)) ps later w r o e f i s d within =
    record { x = w; here = r; older = o; beside = up_up (ps ++ []) [] later (more_sent to_a ps [] e) f i (taken_more b w.b u s) d }
takes_extra tokens_of R old b to_a left (Step (CommitmentSigned tokens)) ps later w r o e f i s d within = absurd (let l = within.given in omega (arith, l, d))
takes_extra tokens_of R old b to_a left (RevokeAndAck revocation) ps later w r o e f i s d within = absurd (let l = within.revoked in omega (arith, l, d))

grows : (s : State) (m : Message) → (s.number ≤ (after s m).number) × (s.peer_number ≤ (after s m).peer_number)
grows s (Step (Updated u)) = (omega arith, omega arith)
grows s (Step (CommitmentSigned tokens)) = (omega arith, omega arith)
grows s (RevokeAndAck revocation) = (omega arith, omega arith)

-- of those that the older state gave too
takes_common : (tokens_of : Signing) (R : Connection → Type 0) → IsClosed tokens_of R → (old b : State) (to_a left : List Parcel) (m : Message) (ps ns extra : List Message) (w : Connection) → R w → forgotten w.a ≡ forgotten old
    → to_a ≡ map Sent ps → left ≡ map Sent (ns ++ extra) → w.to_b ≡ Sent m ∷ map Sent ns → b ≡ w.b → AreBeyond old b extra → receive_refusal tokens_of b m ≡ None → IsTakenFrom tokens_of R old b to_a left m
takes_common tokens_of R k old b to_a left m ps ns extra w r o e f i s d passes =
    let g = grows b m in
    record {
      x = record { a = w.a; b = after w.b m; to_a = w.to_a ++ map Sent (answers w.b m); to_b = map Sent ns };
      here = k.by_b w (after w.b m) (map Sent (answers w.b m)) (map Sent ns) r (takes m (map Sent ns) i (subst (λ z. receive_refusal tokens_of z m ≡ None) s passes));
      older = o;
      beside =
          up_up (ps ++ answers b m) ns extra (more_sent to_a ps (answers b m) e) f refl (same (ap (λ (z : State). after z m) s)) (beyond_grows old b (after b m) extra g.0 g.1 d);
    }

first_of : (n m : Message) (ns : List Message) (left : List Parcel) → map Sent (n ∷ ns) ≡ Sent m ∷ left → (n ≡ m) × (left ≡ map Sent ns)
first_of n m ns left e = ((cc), (let f : map Sent ns ≡ left = (cc) in sym f))

never_ahead : (b y : State) (n : Message) (ns : List Message) → IsBeside b y (n ∷ ns) → b ≡ y
never_ahead b y n ns (same e) = e
never_ahead b y n ns (ahead us e f) = absurd (cc)

b_takes : (tokens_of : Signing) (R : Connection → Type 0) → IsClosed tokens_of R → (old b : State) (to_a to_b : List Parcel) (m : Message) (left : List Parcel) → to_b ≡ Sent m ∷ left → receive_refusal tokens_of b m ≡ None
    → IsWithin old (after b m) → IsWithout tokens_of R old b to_a to_b → IsTakenFrom tokens_of R old b to_a left m
b_takes tokens_of R k old b to_a to_b m left is passes within w = by w.beside
  where
    x : Connection
    x = w.x

    by : AreBeside old b to_a to_b x.b x.to_a x.to_b → IsTakenFrom tokens_of R old b to_a left m
    by (up_up ps [] extra e f i s d) =
        let h = first_sent extra m left (sym f ∙ is) in
        takes_extra tokens_of R old b to_a left m ps h.0 x w.here w.older e h.2 i s (subst (AreBeyond old b) h.1 d) within
    by (up_up ps (n ∷ ns) extra e f i s d) =
        let h = first_of n m (ns ++ extra) left (sym f ∙ is) in
        takes_common tokens_of R k old b to_a left m ps ns extra x w.here w.older e h.1 (i ∙ ap (λ l. Sent l ∷ map Sent ns) h.0) (never_ahead b x.b n ns s) d passes
    by (up_cut ps ns extra r t e f i s d) = absurd (let h : Hello r ∷ map Sent (ns ++ extra) ≡ Sent m ∷ left = sym f ∙ is in cc)
    by (cut_up ps rest e f i j s) = absurd (let h : ◌≡◌ {A = List Parcel} [] (Sent m ∷ left) = sym i ∙ is in cc)
    by (cut_cut ps rest r t e f i j s) = absurd (let h : Hello r ∷ [] ≡ Sent m ∷ left = sym i ∙ is in cc)

-- b takes a hello of a's, and the peer that stands beside one of the older state's

b_resumes : (tokens_of : Signing) (R : Connection → Type 0) → IsClosed tokens_of R → (old b : State) (to_a to_b : List Parcel) (r : Reestablish) (left : List Parcel) → to_b ≡ Hello r ∷ left
    → IsWithout tokens_of R old b to_a to_b → IsWithout tokens_of R old b (to_a ++ map Sent (resends tokens_of b r)) left
b_resumes tokens_of R k old b to_a to_b r left is w = by w.beside
  where
    x : Connection
    x = w.x

    moved_on : (s : Reestablish) (rest : List Parcel) → x.to_b ≡ Hello s ∷ rest → R (record { a = x.a; b = x.b; to_a = x.to_a ++ map Sent (resends tokens_of x.b s); to_b = rest })
    moved_on s rest e =
        let t = (k.agrees x w.here).b_takes (Hello s) rest e in
        k.by_b x x.b (map Sent (resends tokens_of x.b s)) rest w.here (resumes s rest e t.passes t.ahead)

    by : AreBeside old b to_a to_b x.b x.to_a x.to_b → IsWithout tokens_of R old b (to_a ++ map Sent (resends tokens_of b r)) left
    by (up_up ps ns extra e f i s d) = absurd (no_hello (ns ++ extra) r left (sym f ∙ is))
    by (up_cut ps ns extra u t e f i s d) =
        let h : Hello u ∷ map Sent (ns ++ extra) ≡ Hello r ∷ left = sym f ∙ is in
        let rest : map Sent (ns ++ extra) ≡ left = (cc) in
        record {
          x = record { a = x.a; b = x.b; to_a = x.to_a ++ map Sent (resends tokens_of x.b t); to_b = map Sent ns };
          here = moved_on t (map Sent ns) i;
          older = w.older;
          beside = up_up (ps ++ resends tokens_of b r) ns extra (more_sent to_a ps (resends tokens_of b r) e) (sym rest) refl (same s) d;
        }
    by (cut_up ps rest e f i j s) = absurd (let h : ◌≡◌ {A = List Parcel} [] (Hello r ∷ left) = sym i ∙ is in cc)
    by (cut_cut ps rest u t e f i j s) =
        let h : Hello u ∷ [] ≡ Hello r ∷ left = sym i ∙ is in
        let none : ◌≡◌ {A = List Parcel} [] left = (cc) in
        record {
          x = record { a = x.a; b = x.b; to_a = x.to_a ++ map Sent (resends tokens_of x.b t); to_b = [] };
          here = moved_on t [] j;
          older = w.older;
          beside = cut_up (ps ++ resends tokens_of b r) (rest ++ map Sent (resends tokens_of x.b t)) (more_behind to_a (hello b) ps (resends tokens_of b r) e) (ap (λ l. l ++ map Sent (resends tokens_of x.b t)) f) (sym none) refl s;
        }

-- the connection is cut: what no signature covers is forgotten

forgets_same : (b y : State) (ns : List Message) → IsBeside b y ns → forgotten b ≡ forgotten y
forgets_same b y ns (same e) = ap forgotten e
forgets_same b y ns (ahead us e n) = ap forgotten e

forgets_beside : (old b : State) (to_a to_b : List Parcel) (y : State) (to_x to_y : List Parcel) → AreBeside old b to_a to_b y to_x to_y → forgotten b ≡ forgotten y
forgets_beside old b to_a to_b y to_x to_y (up_up ps ns extra e f i s d) = forgets_same b y ns s
forgets_beside old b to_a to_b y to_x to_y (up_cut ps ns extra r t e f i s d) = ap forgotten s
forgets_beside old b to_a to_b y to_x to_y (cut_up ps rest e f i j s) = ap forgotten s
forgets_beside old b to_a to_b y to_x to_y (cut_cut ps rest r t e f i j s) = ap forgotten s

cut_beside : (tokens_of : Signing) (R : Connection → Type 0) (old b : State) (r : Reestablish) (x : Connection) → R (cut_off x) → forgotten x.a ≡ forgotten old → forgotten b ≡ forgotten x.b
    → IsWithout tokens_of R old (forgotten b) (Hello (hello b) ∷ []) (Hello r ∷ [])
cut_beside tokens_of R old b r x here older e = record {
  x = cut_off x;
  here = here;
  older = older;
  beside = cut_cut [] [] r (hello x.a) refl (ap (λ (s : State). Hello (hello s) ∷ []) (sym e)) refl refl e;
}

cut_without : (tokens_of : Signing) (R : Connection → Type 0) → IsClosed tokens_of R → (old b : State) (to_a to_b : List Parcel) (r : Reestablish) → IsWithout tokens_of R old b to_a to_b
    → IsWithout tokens_of R old (forgotten b) (Hello (hello b) ∷ []) (Hello r ∷ [])
cut_without tokens_of R k old b to_a to_b r w = cut_beside tokens_of R old b r w.x (k.by_cut w.x w.here) w.older (forgets_beside old b to_a to_b w.x.b w.x.to_a w.x.to_b w.beside)

-- b starts again: the peer that stands beside is cut, and starts again from the same state
again_without : (tokens_of : Signing) (R : Connection → Type 0) → IsClosed tokens_of R → (old b : State) (to_a to_b : List Parcel) (s : State) (r : Reestablish) → IsLived tokens_of s → IsSince tokens_of s b
    → IsWithout tokens_of R old b to_a to_b → IsWithout tokens_of R old (forgotten s) (Hello (hello s) ∷ []) (Hello r ∷ [])
again_without tokens_of R k old b to_a to_b s r lived since w =
    let x = w.x in
    let e = forgets_beside old b to_a to_b x.b x.to_a x.to_b w.beside in
    let cut = cut_off x in
    let again = k.again_b cut s (k.by_cut x w.here) lived (subst (IsSince tokens_of s) e (forgot since)) in
    cut_beside tokens_of R old s r (record { a = cut.a; b = s; to_a = cut.to_a; to_b = cut.to_b }) again w.older refl

-- a history, where a is the side that will be put back

pub data Goes (tokens_of : Signing) (v : Connection) : Connection → Type 0 where
  none_yet : Goes tokens_of v v
  a_goes : {w : Connection} {me : State} {sent rest : List Parcel} → Goes tokens_of v w → Moves tokens_of w.a w.to_a me sent rest → Goes tokens_of v (record { a = me; b = w.b; to_a = rest; to_b = w.to_b ++ sent })
  b_goes : {w : Connection} {me : State} {sent rest : List Parcel} → Goes tokens_of v w → Moves tokens_of w.b w.to_b me sent rest → Goes tokens_of v (record { a = w.a; b = me; to_a = w.to_a ++ sent; to_b = rest })
  cut_goes : {w : Connection} → Goes tokens_of v w → Goes tokens_of v (cut_off w)
  a_again : {w : Connection} (s : State) → Goes tokens_of v w → IsLived tokens_of s → IsSince tokens_of s w.a → Goes tokens_of v (cut_off (record { a = s; b = w.b; to_a = w.to_a; to_b = w.to_b }))
  b_again : {w : Connection} (s : State) → Goes tokens_of v w → IsLived tokens_of s → IsSince tokens_of s w.b → is_behind v.a (hello w.b) ≡ false
      → Goes tokens_of v (cut_off (record { a = w.a; b = s; to_a = w.to_a; to_b = w.to_b }))

-- what holds of each of its moments
record Stands (tokens_of : Signing) (R : Connection → Type 0) (old : State) (w : Connection) : Type 0 where
  here : R w
  later : IsAfter old w.a w.b
  without : IsWithin old w.b → IsWithout tokens_of R old w.b w.to_a w.to_b

within_before : (old b c : State) → b.number ≤ c.number → b.peer_number ≤ c.peer_number → IsWithin old c → IsWithin old b
within_before old b c n p w = let g = w.given in let r = w.revoked in record { revoked = omega (arith, r, p); given = omega (arith, g, n) }

abbrev after_a : Connection → State → List Parcel → List Parcel → Connection
after_a w me sent rest = record { a = me; b = w.b; to_a = rest; to_b = w.to_b ++ sent }

abbrev after_b : Connection → State → List Parcel → List Parcel → Connection
after_b w me sent rest = record { a = w.a; b = me; to_a = w.to_a ++ sent; to_b = rest }

answers_beyond : (tokens_of : Signing) (old a b : State) (m : Message) → old.number ≤ a.number → (after a m).number ≤ b.peer_number + 1 → AreBeyond old b (answers a m)
answers_beyond tokens_of old a b (Step (Updated u)) l n = tt
answers_beyond tokens_of old a b (Step (CommitmentSigned tokens)) l n = omega (arith, l, n)
answers_beyond tokens_of old a b (RevokeAndAck revocation) l n = tt

stands_a : (tokens_of : Signing) (R : Connection → Type 0) → IsClosed tokens_of R → (old : State) (w : Connection) (me : State) (sent rest : List Parcel) → Moves tokens_of w.a w.to_a me sent rest → R (after_a w me sent rest)
    → Stands tokens_of R old w → Stands tokens_of R old (after_a w me sent rest)
stands_a tokens_of R k old w me sent rest (makes u up e) here g = record {
  here = here;
  later = after_makes old w.a w.b u g.later;
  without =
      λ i. let o = g.without i in
      record { x = o.x; here = o.here; older = o.older; beside = a_sends old w.b w.to_a w.to_b o.x.b o.x.to_a o.x.to_b (Step (Updated u) ∷ []) up tt o.beside };
}
stands_a tokens_of R k old w me sent rest (gives up e) here g =
    let n = near_in tokens_of R k w g.here in
    let calm = calm_when w.a e in
    let z = last_calm w.a calm in
    let l = g.later.last in
    let s = n.signed in
    record {
      here = here;
      later = after_gives old w.a w.b calm g.later;
      without =
          λ i. let o = g.without i in
          record { x = o.x; here = o.here; older = o.older; beside = a_sends old w.b w.to_a w.to_b o.x.b o.x.to_a o.x.to_b (signature_message tokens_of w.a ∷ []) up (omega (arith, z, l, s)) o.beside };
    }
stands_a tokens_of R k old w me sent rest (takes m left is e) here g =
    let n = near_in tokens_of R k (after_a w (after w.a m) (map Sent (answers w.a m)) left) here in
    record {
      here = here;
      later = after_takes tokens_of old w.a w.b m e n.signed g.later;
      without =
          λ i. let o = g.without i in
          record { x = o.x; here = o.here; older = o.older; beside = a_takes old w.b w.to_a w.to_b o.x.b o.x.to_a o.x.to_b m left (answers w.a m) is (answers_beyond tokens_of old w.a w.b m g.later.number n.close) o.beside };
    }
stands_a tokens_of R k old w me sent rest (resumes r left is e up) here g = record {
  here = here;
  later = g.later;
  without = λ i. a_resumes tokens_of R k old w.a w.b w.to_a w.to_b r left is (split tokens_of old w.a w.b g.later (near_in tokens_of R k w g.here)) (g.without i);
}

stands_b : (tokens_of : Signing) (R : Connection → Type 0) → IsClosed tokens_of R → (old : State) (w : Connection) (me : State) (sent rest : List Parcel) → Moves tokens_of w.b w.to_b me sent rest → R (after_b w me sent rest)
    → Stands tokens_of R old w → Stands tokens_of R old (after_b w me sent rest)
stands_b tokens_of R k old w me sent rest (makes u up e) here g = record {
  here = here;
  later = after_more old w.a w.b (after_update u w.b) (omega arith) g.later;
  without = λ i. b_makes tokens_of R k old w.b w.to_a w.to_b u (k.b_lived w g.here) up e (g.without (within_before old w.b (after_update u w.b) (omega arith) (omega arith) i));
}
stands_b tokens_of R k old w me sent rest (gives up e) here g = record {
  here = here;
  later = after_more old w.a w.b (after_sign w.b) (omega arith) g.later;
  without = λ i. b_gives tokens_of R k old w.b w.to_a w.to_b up e (g.without (within_before old w.b (after_sign w.b) (omega arith) (omega arith) i));
}
stands_b tokens_of R k old w me sent rest (takes m left is e) here g =
    let n = grows w.b m in
    record {
      here = here;
      later = after_more old w.a w.b (after w.b m) n.0 g.later;
      without = λ i. b_takes tokens_of R k old w.b w.to_a w.to_b m left is e i (g.without (within_before old w.b (after w.b m) n.0 n.1 i));
    }
stands_b tokens_of R k old w me sent rest (resumes r left is e up) here g = record {
  here = here;
  later = g.later;
  without = λ i. b_resumes tokens_of R k old w.b w.to_a w.to_b r left is (g.without i);
}

-- the first moment
begins : (old : State) (w : Connection) → w.a ≡ old → Phase w.a w.b w.to_a w.to_b → AreBeside old w.b w.to_a w.to_b w.b w.to_a w.to_b
begins old w e (both_up p q f g) = up_up p q [] f (g ∙ ap (map Sent) (sym (append-nil q))) g (same refl) tt
begins old w e (a_cut p f g) = cut_up p (map Sent p) f f g g refl
begins old w e (b_cut q f g) = up_cut [] q [] (hello w.a) (hello w.a) f (g ∙ ap (λ l. Hello (hello w.a) ∷ map Sent l) (sym (append-nil q))) g refl tt
begins old w e (both_cut f g) = cut_cut [] [] (hello w.a) (hello w.a) f f g g refl

stands : (tokens_of : Signing) (R : Connection → Type 0) → IsClosed tokens_of R → (v w : Connection) → R v → Goes tokens_of v w → Stands tokens_of R v.a w
stands tokens_of R k v w r none_yet = record {
  here = r;
  later = after_itself v.a v.b (near_in tokens_of R k v r);
  without = λ i. record { x = v; here = r; older = refl; beside = begins v.a v refl (k.phase v r) };
}
stands tokens_of R k v w r (a_goes {w = u} {me = me} {sent = sent} {rest = rest} l m) =
    let g = stands tokens_of R k v u r l in
    stands_a tokens_of R k v.a u me sent rest m (k.by_a u me sent rest g.here m) g
stands tokens_of R k v w r (b_goes {w = u} {me = me} {sent = sent} {rest = rest} l m) =
    let g = stands tokens_of R k v u r l in
    stands_b tokens_of R k v.a u me sent rest m (k.by_b u me sent rest g.here m) g
stands tokens_of R k v w r (cut_goes {w = u} l) =
    let g = stands tokens_of R k v u r l in
    record {
      here = k.by_cut u g.here;
      later = after_more v.a (forgotten u.a) u.b (forgotten u.b) (omega arith) (after_forgets v.a u.a u.b g.later);
      without = λ i. cut_without tokens_of R k v.a u.b u.to_a u.to_b (hello u.a) (g.without (within_before v.a u.b (forgotten u.b) (omega arith) (omega arith) i));
    }
stands tokens_of R k v w r (a_again {w = u} s l lived since) =
    let g = stands tokens_of R k v u r l in
    record {
      here = k.again_a u s g.here lived since;
      later = after_more v.a (forgotten s) u.b (forgotten u.b) (omega arith) (after_forgets v.a s u.b (after_restarts tokens_of v.a u.a u.b s since g.later));
      without = λ i. cut_without tokens_of R k v.a u.b u.to_a u.to_b (hello s) (g.without (within_before v.a u.b (forgotten u.b) (omega arith) (omega arith) i));
    }
stands tokens_of R k v w r (b_again {w = u} s l lived since up) =
    let g = stands tokens_of R k v u r l in
    let n = number_since tokens_of s u.b since in
    let revoked : u.b.peer_number ≤ v.a.number = ltb-false v.a.number u.b.peer_number up in
    record {
      here = k.again_b u s g.here lived since;
      later = after_more v.a (forgotten u.a) u.b (forgotten s) (omega (arith, n)) (after_forgets v.a u.a u.b g.later);
      without = λ i. again_without tokens_of R k v.a u.b u.to_a u.to_b s (hello u.a) lived since (g.without (record { revoked = revoked; given = (let i' = i.given in omega (arith, n, i')) }));
    }

-- so the older state beside the peer, once their connection is cut, is what honest steps lead to
pub without_loss : (tokens_of : Signing) (R : Connection → Type 0) → IsClosed tokens_of R → (v w : Connection) → R v → Goes tokens_of v w → IsTaken tokens_of v.a (Hello (hello w.b))
    → R (cut_off (record { a = v.a; b = w.b; to_a = w.to_a; to_b = w.to_b }))
without_loss tokens_of R k v w r l t =
    let g = stands tokens_of R k v w r l in
    let n = near v.a w.b t.passes t.ahead in
    let o = g.without (record { revoked = n.revoked; given = n.given }) in
    let a = o.older in
    let b = forgets_beside v.a w.b w.to_a w.to_b o.x.b o.x.to_a o.x.to_b o.beside in
    let e : ◌≡◌ {A = Connection} (cut_off o.x) (cut_off (record { a = v.a; b = w.b; to_a = w.to_a; to_b = w.to_b })) = (λ j. record { a = a j; b = sym b j; to_a = Hello (hello (sym b j)) ∷ []; to_b = Hello (hello (a j)) ∷ [] }) in
    subst R e (k.by_cut o.x o.here)

-- and what the older state makes of the peer's hello

number_refusal : (old : State) (r : Reestablish) (third : Bool) → old.number ≤ r.next_revocation + 1 → old.peer_number < r.next_commitment → ltb (last_signed old + 1) r.next_commitment ≡ third
    → first_refusal (number_tests old r) ≡ if_so third NeverSigned None
number_refusal old r third close above e =
    let t1 : ltb (r.next_revocation + 1) old.number ≡ false = le-ltb (r.next_revocation + 1) old.number close in
    let t2 : leb r.next_commitment old.peer_number ≡ false = lt-leb r.next_commitment old.peer_number above in
    (λ j. if_so (t1 j) PeerBehind (if_so (t2 j) PeerBehind (if_so (e j) NeverSigned None)))

pub answered : (tokens_of : Signing) (R : Connection → Type 0) → IsClosed tokens_of R → (v w : Connection) → R v → Goes tokens_of v w → IsAnswered tokens_of v.a w.b
answered tokens_of R k v w r l =
    let g = stands tokens_of R k v w r l in
    let n = near_in tokens_of R k w g.here in
    let told = k.told w v.a g.here (sym g.later.seed) in
    let number = g.later.number in
    let close = n.close in
    let above = g.later.above in
    let refusal : (third : Bool) → ltb (last_signed v.a + 1) (w.b.number + 1) ≡ third → first_refusal (number_tests v.a (hello w.b)) ≡ if_so third NeverSigned None =
    λ third e. number_refusal v.a (hello w.b) third (omega (arith, number, close)) (omega (arith, above)) e
    in
    record {
      known = λ s m. let h = told.newest s in record { passes = h.0 ∙ refusal false (le-ltb (last_signed v.a + 1) (w.b.number + 1) (omega (arith, m))); ahead = h.1 };
      unknown = λ s m. (told.newest s).0 ∙ refusal true (lt-ltb (last_signed v.a + 1) (w.b.number + 1) (omega (arith, m)));
    }
