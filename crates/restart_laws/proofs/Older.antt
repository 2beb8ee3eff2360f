-- An older state of a side beside a later one: to a peer that got no signature and no revocation that came since, the later one gives again what the older one does, and after it what takes the peer further.
use Rattle.std.proofs.Common.{◌≡◌, ℕ, ◌+◌, ◌-◌, ◌<◌, ◌≤◌, Bool, true, false, not, ◌&&◌, ◌||◌, cond, eqb, List, [], ◌∷◌, ◌++◌, length, drop, map, sym, ap, ◌∙◌, refl, arith, None, append-nil, inl, inr}
use Rattle.std.specs.Prelude.{◌⊎◌}
use Rattle.std.proofs.lemmas.Bool.{eqb-true, eq-eqb, ne_eqb, and_parts, cases_lt}
use Rattle.updates.specs.declared.changes.Update.{Update}
use Rattle.updates.specs.declared.messages.Tokens.{Tokens}
use Rattle.updates.specs.declared.messages.Revocation.{Revocation}
use Rattle.updates.specs.Stages.{unacknowledged}
use Rattle.updates.proofs.Accepting.{all_pass}
use Rattle.channel.specs.declared.commitments.CommitmentState.{CommitmentState}
use Rattle.channel.specs.declared.messages.Message.{Message}
use Rattle.updates.specs.declared.messages.PeerStep.TheVariants.{Update as Updated, CommitmentSigned}
use Rattle.channel.specs.declared.messages.Message.TheVariants.{Step, RevokeAndAck}
use Rattle.channel.specs.Points.{secret_at, point_at}
use Rattle.channel.specs.States.{Signing, State, sign_refusal, sign_tests, receive_tests, receive_refusal, after_update, after_sign, after, answers}
use Rattle.channel.specs.Reestablishing.{forgotten, hello, last_signed, lacks_signature, lacks_revocation, update_message, signature_again, revocation_again, in_order, resends}
use Rattle.channel.specs.Resending.{IsSince, still, took, forgot}
use Rattle.restart_laws.proofs.Phases.{IsNear}

abbrev pub bit : Bool → ℕ
bit true = 1
bit false = 0

pub last_is : (s : State) → last_signed s ≡ s.peer_number + bit s.awaiting
last_is s = by s.awaiting
  where
    by : (t : Bool) → cond t (s.peer_number + 1) s.peer_number ≡ s.peer_number + bit t
    by true = refl
    by false = omega arith

at_most_one : (t : Bool) → bit t ≤ 1
at_most_one true = omega arith
at_most_one false = omega arith

is_one : (t : Bool) → bit t ≡ 1 → t ≡ true
is_one true e = refl
is_one false e = absurd (omega (arith, e))

-- of a later state `a`, where the peer is `b`
pub record IsAfter (old a b : State) : Type 0 where
  pub seed : a.seed ≡ old.seed
  pub terms : a.held.terms ≡ old.held.terms
  pub number : old.number ≤ a.number
  pub last : last_signed old ≤ last_signed a
  pub above : old.peer_number ≤ b.number
  pub neither : a.number ≡ old.number → last_signed a ≡ last_signed old → a.revoked_last ≡ old.revoked_last
  pub signed_since : a.number ≡ old.number → last_signed old < last_signed a → a.revoked_last ≡ false
  pub revoked_since : old.number < a.number → last_signed a ≡ last_signed old → a.revoked_last ≡ true
  pub signed : last_signed a ≡ last_signed old → a.signed ≡ old.signed
  pub receiver : last_signed a ≡ last_signed old → a.held.own.with_receiver ≡ old.held.own.with_receiver
  pub count : old.awaiting ≡ true → b.number ≡ old.peer_number → a.peer_number ≡ old.peer_number
  pub past : old.awaiting ≡ true → b.number ≡ old.peer_number → a.held.own.past_receiver ≡ old.held.own.past_receiver

-- the peer went no further than this state has it
pub record IsWithin (old b : State) : Type 0 where
  pub revoked : b.peer_number ≤ old.number
  pub given : b.number ≤ last_signed old

-- messages of which the first signature or revocation takes the peer further
abbrev pub AreBeyond : State → State → List Message → Type 0
AreBeyond old b [] = Unit {0}
AreBeyond old b (Step (Updated u) ∷ ms) = AreBeyond old b ms
AreBeyond old b (Step (CommitmentSigned tokens) ∷ ms) = last_signed old ≤ b.number
AreBeyond old b (RevokeAndAck revocation ∷ ms) = old.number ≤ b.peer_number

pub beyond_both : (old b : State) (ms ns : List Message) → AreBeyond old b ms → AreBeyond old b ns → AreBeyond old b (ms ++ ns)
beyond_both old b [] ns g h = h
beyond_both old b (Step (Updated u) ∷ ms) ns g h = beyond_both old b ms ns g h
beyond_both old b (Step (CommitmentSigned tokens) ∷ ms) ns g h = g
beyond_both old b (RevokeAndAck revocation ∷ ms) ns g h = g

pub beyond_grows : (old b c : State) (ms : List Message) → b.number ≤ c.number → b.peer_number ≤ c.peer_number → AreBeyond old b ms → AreBeyond old c ms
beyond_grows old b c [] n p g = tt
beyond_grows old b c (Step (Updated u) ∷ ms) n p g = beyond_grows old b c ms n p g
beyond_grows old b c (Step (CommitmentSigned tokens) ∷ ms) n p g = omega (arith, n, g)
beyond_grows old b c (RevokeAndAck revocation ∷ ms) n p g = omega (arith, p, g)

beyond_updates : (old b : State) (us : List Update) (ms : List Message) → AreBeyond old b ms → AreBeyond old b (map update_message us ++ ms)
beyond_updates old b [] ms g = g
beyond_updates old b (u ∷ us) ms g = beyond_updates old b us ms g

beyond_signatures : (tokens_of : Signing) (old a b : State) (cs : List CommitmentState) → last_signed old ≤ b.number → AreBeyond old b (map (λ c. Step (CommitmentSigned (tokens_of a.held.terms c))) cs)
beyond_signatures tokens_of old a b [] l = tt
beyond_signatures tokens_of old a b (c ∷ cs) l = l

-- what goes out again, part by part

abbrev signature_part : Signing → State → State → List Message
signature_part tokens_of s b = cond (lacks_signature s (hello b)) (signature_again tokens_of s) []

abbrev revocation_part : State → State → List Message
revocation_part s b = cond (lacks_revocation s (hello b)) (revocation_again s) []

alone : (revoked : Bool) (signature : List Message) → in_order revoked signature [] ≡ signature
alone true signature = append-nil signature
alone false signature = refl

none : (revoked : Bool) (revocation : List Message) → in_order revoked [] revocation ≡ revocation
none true revocation = refl
none false revocation = append-nil revocation

both_lack : (t : Bool) (m n : ℕ) → t ≡ true → m ≡ n → (t && eqb m n) ≡ true
both_lack t m n e f = (λ j. e j && eq-eqb m n f j)

not_lacking : (t : Bool) (m n : ℕ) → (t ≡ true → m ≡ n → ⊥) → (t && eqb m n) ≡ false
not_lacking false m n f = refl
not_lacking true m n f = ne_eqb m n (λ e. f refl e)

-- the signature that the older one lacks is the one that the later lacks
lacks_the_same : (old a b : State) → IsAfter old a b → IsNear a b → last_signed a ≡ last_signed old → lacks_signature a (hello b) ≡ lacks_signature old (hello b)
lacks_the_same old a b g n e = by (lacks_signature old (hello b)) refl
  where
    by : (t : Bool) → lacks_signature old (hello b) ≡ t → lacks_signature a (hello b) ≡ t
    by true f =
        let p = and_parts old.awaiting (eqb (b.number + 1) (old.peer_number + 1)) f in
        let q = eqb-true (b.number + 1) (old.peer_number + 1) p.1 in
        let at : b.number ≡ old.peer_number = omega (arith, q) in
        let c = g.count p.0 at in
        let x = last_is a in
        let y = last_is old in
        let w : bit old.awaiting ≡ 1 = ap bit p.0 in
        let waits : bit a.awaiting ≡ 1 = omega (arith, x, y, w, c, e) in
        both_lack a.awaiting (b.number + 1) (a.peer_number + 1) (is_one a.awaiting waits) (omega (arith, at, c))
    by false f = not_lacking a.awaiting (b.number + 1) (a.peer_number + 1) (λ waits h. no f waits h)
      where
        no : lacks_signature old (hello b) ≡ false → a.awaiting ≡ true → b.number + 1 ≡ a.peer_number + 1 → ⊥
        no f waits h =
            let x = last_is a in
            let y = last_is old in
            let v : bit a.awaiting ≡ 1 = ap bit waits in
            let up = g.above in
            let small = at_most_one old.awaiting in
            let w : bit old.awaiting ≡ 1 = omega (arith, x, y, v, up, small, h, e) in
            let k : b.number + 1 ≡ old.peer_number + 1 = omega (arith, x, y, v, w, h, e) in
            let z : true ≡ false = sym (both_lack old.awaiting (b.number + 1) (old.peer_number + 1) (is_one old.awaiting w) k) ∙ f in
            cc

same_signature : (tokens_of : Signing) (old a b : State) → IsAfter old a b → IsNear a b → last_signed a ≡ last_signed old → signature_part tokens_of a b ≡ signature_part tokens_of old b
same_signature tokens_of old a b g n e = ap (λ t. cond t (signature_again tokens_of a) []) (lacks_the_same old a b g n e) ∙ by (lacks_signature old (hello b)) refl
  where
    again : lacks_signature old (hello b) ≡ true → signature_again tokens_of a ≡ signature_again tokens_of old
    again f =
        let p = and_parts old.awaiting (eqb (b.number + 1) (old.peer_number + 1)) f in
        let q = eqb-true (b.number + 1) (old.peer_number + 1) p.1 in
        let at : b.number ≡ old.peer_number = omega (arith, q) in
        let past = g.past p.0 at in
        let receiver = g.receiver e in
        let count = g.count p.0 at in
        let signed = g.signed e in
        let terms = g.terms in
        (λ j. map update_message (drop (length (past j)) (receiver j)) ++ map (λ c. Step (CommitmentSigned (tokens_of (terms j) c))) (drop (count j + 1) (signed j)))

    by : (t : Bool) → lacks_signature old (hello b) ≡ t → cond t (signature_again tokens_of a) [] ≡ cond t (signature_again tokens_of old) []
    by true f = again f
    by false f = refl

-- where the later one signed since, the older lacks none
no_signature : (tokens_of : Signing) (old a b : State) → IsAfter old a b → last_signed old < last_signed a → signature_part tokens_of old b ≡ []
no_signature tokens_of old a b g l = ap (λ t. cond t (signature_again tokens_of old) []) (not_lacking old.awaiting (b.number + 1) (old.peer_number + 1) (λ waits h. no waits h))
  where
    no : old.awaiting ≡ true → b.number + 1 ≡ old.peer_number + 1 → ⊥
    no waits h =
        let c = g.count waits (omega (arith, h)) in
        let x = last_is a in
        let y = last_is old in
        let small = at_most_one a.awaiting in
        let w : bit old.awaiting ≡ 1 = ap bit waits in
        omega (arith, c, x, y, small, w, l)

same_revocation : (old a b : State) → IsAfter old a b → a.number ≡ old.number → revocation_part a b ≡ revocation_part old b
same_revocation old a b g e =
    let seed = g.seed in
    (λ j. cond (eqb (b.peer_number + 1) (e j)) (RevokeAndAck (record { secret = secret_at (seed j) (e j - 1); next_point = point_at (seed j) (e j + 1) }) ∷ []) [])

no_revocation : (old a b : State) → IsNear a b → old.number < a.number → revocation_part old b ≡ []
no_revocation old a b n l =
    let c = n.close in
    ap (λ t. cond t (revocation_again old) []) (ne_eqb (b.peer_number + 1) old.number (λ e. omega (arith, e, c, l)))

signature_beyond : (tokens_of : Signing) (old a b : State) → last_signed old < last_signed a → AreBeyond old b (signature_part tokens_of a b)
signature_beyond tokens_of old a b l = by (lacks_signature a (hello b)) refl
  where
    by : (t : Bool) → lacks_signature a (hello b) ≡ t → AreBeyond old b (cond t (signature_again tokens_of a) [])
    by false f = tt
    by true f =
        let p = and_parts a.awaiting (eqb (b.number + 1) (a.peer_number + 1)) f in
        let q = eqb-true (b.number + 1) (a.peer_number + 1) p.1 in
        let x = last_is a in
        let small = at_most_one a.awaiting in
        beyond_updates old b (unacknowledged a.held.own) _ (beyond_signatures tokens_of old a b (drop (a.peer_number + 1) a.signed) (omega (arith, q, x, small, l)))

revocation_beyond : (old a b : State) → IsNear a b → old.number < a.number → AreBeyond old b (revocation_part a b)
revocation_beyond old a b n l = by (lacks_revocation a (hello b))
  where
    by : (t : Bool) → AreBeyond old b (cond t (revocation_again a) [])
    by false = tt
    by true = let c = n.close in omega (arith, c, l)

pub record IsSplit (tokens_of : Signing) (old a b : State) : Type 0 where
  pub extra : List Message
  pub is : resends tokens_of a (hello b) ≡ resends tokens_of old (hello b) ++ extra
  pub beyond : AreBeyond old b extra

-- neither signed nor revoked since; signed alone; revoked alone; both
pub split : (tokens_of : Signing) (old a b : State) → IsAfter old a b → IsNear a b → IsSplit tokens_of old a b
split tokens_of old a b g n = by (cases_lt old.number a.number) (cases_lt (last_signed old) (last_signed a))
  where
    S : State → List Message
    S s = signature_part tokens_of s b

    V : State → List Message
    V s = revocation_part s b

    same_number : a.number ≤ old.number → a.number ≡ old.number
    same_number l = let h = g.number in omega (arith, h, l)

    same_last : last_signed a ≤ last_signed old → last_signed a ≡ last_signed old
    same_last l = let h = g.last in omega (arith, h, l)

    by : (old.number < a.number) ⊎ (a.number ≤ old.number) → (last_signed old < last_signed a) ⊎ (last_signed a ≤ last_signed old) → IsSplit tokens_of old a b
    by (inr m) (inr l) =
        let e = same_number m in
        let f = same_last l in
        let order = g.neither e f in
        let sign = same_signature tokens_of old a b g n f in
        let revoke = same_revocation old a b g e in
        record { extra = []; is = (λ j. in_order (order j) (sign j) (revoke j)) ∙ sym (append-nil (resends tokens_of old (hello b))); beyond = tt }
    by (inr m) (inl l) =
        let e = same_number m in
        let order = g.signed_since e l in
        let revoke = same_revocation old a b g e in
        let older = ap (λ x. in_order old.revoked_last x (revocation_part old b)) (no_signature tokens_of old a b g l) ∙ none old.revoked_last (revocation_part old b) in
        record {
          extra = signature_part tokens_of a b;
          is = (λ j. in_order (order j) (signature_part tokens_of a b) (revoke j)) ∙ ap (λ x. x ++ signature_part tokens_of a b) (sym older);
          beyond = signature_beyond tokens_of old a b l;
        }
    by (inl m) (inr l) =
        let f = same_last l in
        let order = g.revoked_since m f in
        let sign = same_signature tokens_of old a b g n f in
        let older = ap (λ x. in_order old.revoked_last (signature_part tokens_of old b) x) (no_revocation old a b n m) ∙ alone old.revoked_last (signature_part tokens_of old b) in
        record {
          extra = revocation_part a b;
          is = (λ j. in_order (order j) (sign j) (revocation_part a b)) ∙ ap (λ x. x ++ revocation_part a b) (sym older);
          beyond = revocation_beyond old a b n m;
        }
    by (inl m) (inl l) =
        let older : resends tokens_of old (hello b) ≡ [] =
        (λ j. in_order old.revoked_last (no_signature tokens_of old a b g l j) (no_revocation old a b n m j)) ∙ none old.revoked_last []
        in
        record { extra = resends tokens_of a (hello b); is = ap (λ x. x ++ resends tokens_of a (hello b)) (sym older); beyond = in_either a.revoked_last }
      where
        in_either : (revoked : Bool) → AreBeyond old b (in_order revoked (signature_part tokens_of a b) (revocation_part a b))
        in_either true = beyond_both old b (signature_part tokens_of a b) (revocation_part a b) (signature_beyond tokens_of old a b l) (revocation_beyond old a b n m)
        in_either false = beyond_both old b (revocation_part a b) (signature_part tokens_of a b) (revocation_beyond old a b n m) (signature_beyond tokens_of old a b l)

-- a state is after itself, and stays so in each step

pub after_itself : (a b : State) → IsNear a b → IsAfter a a b
after_itself a b n = record {
  seed = refl;
  terms = refl;
  number = omega arith;
  last = omega arith;
  above = n.signed;
  neither = λ e f. refl;
  signed_since = λ e l. absurd (omega (arith, l));
  revoked_since = λ l f. absurd (omega (arith, l));
  signed = λ e. refl;
  receiver = λ e. refl;
  count = λ w e. refl;
  past = λ w e. refl;
}

-- the peer took more
pub after_more : (old a b c : State) → b.number ≤ c.number → IsAfter old a b → IsAfter old a c
after_more old a b c l g =
    let up = g.above in
    record {
      seed = g.seed;
      terms = g.terms;
      number = g.number;
      last = g.last;
      above = omega (arith, l, up);
      neither = g.neither;
      signed_since = g.signed_since;
      revoked_since = g.revoked_since;
      signed = g.signed;
      receiver = g.receiver;
      count = λ w e. g.count w (omega (arith, l, up, e));
      past = λ w e. g.past w (omega (arith, l, up, e));
    }

-- an update of one's own, and a signature

pub after_makes : (old a b : State) (u : Update) → IsAfter old a b → IsAfter old (after_update u a) b
after_makes old a b u g = record { seed = g.seed; terms = g.terms; number = g.number; last = g.last; above = g.above; neither = g.neither; signed_since = g.signed_since; revoked_since = g.revoked_since; signed = g.signed; receiver = g.receiver; count = g.count; past = g.past }

or_first : (t u : Bool) → (t || u) ≡ false → t ≡ false
or_first true u e = e
or_first false u e = refl

pub calm_when : (a : State) → sign_refusal a ≡ None → a.awaiting ≡ false
calm_when a e = or_first a.awaiting _ (all_pass (sign_tests a) e).0

pub last_calm : (a : State) → a.awaiting ≡ false → last_signed a ≡ a.peer_number
last_calm a e = ap (λ t. cond t (a.peer_number + 1) a.peer_number) e

pub after_gives : (old a b : State) → a.awaiting ≡ false → IsAfter old a b → IsAfter old (after_sign a) b
after_gives old a b calm g =
    let z = last_calm a calm in
    let l = g.last in
    record {
      seed = g.seed;
      terms = g.terms;
      number = g.number;
      last = omega (arith, z, l);
      above = g.above;
      neither = λ e f. absurd (omega (arith, z, l, f));
      signed_since = λ e m. refl;
      revoked_since = λ m f. absurd (omega (arith, z, l, f));
      signed = λ e. absurd (omega (arith, z, l, e));
      receiver = λ e. absurd (omega (arith, z, l, e));
      count = g.count;
      past = g.past;
    }

-- a message that came

waits_when : (t : Bool) → not t ≡ false → t ≡ true
waits_when true e = refl
waits_when false e = absurd (cc)

takes_signature : (old a b : State) (tokens : Tokens) → IsAfter old a b → IsAfter old (after a (Step (CommitmentSigned tokens))) b
takes_signature old a b tokens g =
    let h = g.number in
    record {
      seed = g.seed;
      terms = g.terms;
      number = omega (arith, h);
      last = g.last;
      above = g.above;
      neither = λ e f. absurd (omega (arith, e, h));
      signed_since = λ e l. absurd (omega (arith, e, h));
      revoked_since = λ l f. refl;
      signed = g.signed;
      receiver = g.receiver;
      count = g.count;
      past = g.past;
    }

takes_revocation : (tokens_of : Signing) (old a b : State) (revocation : Revocation) → receive_refusal tokens_of a (RevokeAndAck revocation) ≡ None → a.peer_number + 1 ≤ b.number → IsAfter old a b
    → IsAfter old (after a (RevokeAndAck revocation)) b
takes_revocation tokens_of old a b revocation e near g =
    let waits = waits_when a.awaiting (all_pass (receive_tests tokens_of a (RevokeAndAck revocation)) e).0 in
    let z : last_signed a ≡ a.peer_number + 1 = ap (λ t. cond t (a.peer_number + 1) a.peer_number) waits in
    let l = g.last in
    record {
      seed = g.seed;
      terms = g.terms;
      number = g.number;
      last = omega (arith, l, z);
      above = g.above;
      neither = λ d f. g.neither d (omega (arith, f, z));
      signed_since = λ d m. g.signed_since d (omega (arith, m, z));
      revoked_since = λ m f. g.revoked_since m (omega (arith, f, z));
      signed = λ f. g.signed (omega (arith, f, z));
      receiver = λ f. g.receiver (omega (arith, f, z));
      count = λ w d. absurd (let c = g.count w d in omega (arith, c, d, near));
      past = λ w d. absurd (let c = g.count w d in omega (arith, c, d, near));
    }

pub after_takes : (tokens_of : Signing) (old a b : State) (m : Message) → receive_refusal tokens_of a m ≡ None → (after a m).peer_number ≤ b.number → IsAfter old a b → IsAfter old (after a m) b
after_takes tokens_of old a b (Step (Updated u)) e near g = record { seed = g.seed; terms = g.terms; number = g.number; last = g.last; above = g.above; neither = g.neither; signed_since = g.signed_since; revoked_since = g.revoked_since; signed = g.signed; receiver = g.receiver; count = g.count; past = g.past }
after_takes tokens_of old a b (Step (CommitmentSigned tokens)) e near g = takes_signature old a b tokens g
after_takes tokens_of old a b (RevokeAndAck revocation) e near g = takes_revocation tokens_of old a b revocation e near g

-- a start again, from a state since which nothing was given

record IsSame (s t : State) : Type 0 where
  seed : t.seed ≡ s.seed
  terms : t.held.terms ≡ s.held.terms
  number : t.number ≡ s.number
  last : last_signed t ≡ last_signed s
  order : t.revoked_last ≡ s.revoked_last
  signed : t.signed ≡ s.signed
  receiver : t.held.own.with_receiver ≡ s.held.own.with_receiver
  count : t.awaiting ≡ true → t.peer_number ≡ s.peer_number
  past : t.awaiting ≡ true → t.held.own.past_receiver ≡ s.held.own.past_receiver

same_message : (tokens_of : Signing) (s t : State) (m : Message) → receive_refusal tokens_of t m ≡ None → answers t m ≡ [] → IsSame s t → IsSame s (after t m)
same_message tokens_of s t (Step (Updated u)) e none h = record { seed = h.seed; terms = h.terms; number = h.number; last = h.last; order = h.order; signed = h.signed; receiver = h.receiver; count = h.count; past = h.past }
same_message tokens_of s t (Step (CommitmentSigned tokens)) e none h = absurd (cc)
same_message tokens_of s t (RevokeAndAck revocation) e none h =
    let waits = waits_when t.awaiting (all_pass (receive_tests tokens_of t (RevokeAndAck revocation)) e).0 in
    let z : last_signed t ≡ t.peer_number + 1 = ap (λ b. cond b (t.peer_number + 1) t.peer_number) waits in
    let l = h.last in
    record {
      seed = h.seed;
      terms = h.terms;
      number = h.number;
      last = sym z ∙ l;
      order = h.order;
      signed = h.signed;
      receiver = h.receiver;
      count = λ w. absurd (let f : false ≡ true = w in cc);
      past = λ w. absurd (let f : false ≡ true = w in cc);
    }

same_since : (tokens_of : Signing) (s t : State) → IsSince tokens_of s t → IsSame s t
same_since tokens_of s t still = record { seed = refl; terms = refl; number = refl; last = refl; order = refl; signed = refl; receiver = refl; count = λ w. refl; past = λ w. refl }
same_since tokens_of s t (took {t = r} m e none since) = same_message tokens_of s r m e none (same_since tokens_of s r since)
same_since tokens_of s t (forgot {t = r} since) =
    let h = same_since tokens_of s r since in
    record { seed = h.seed; terms = h.terms; number = h.number; last = h.last; order = h.order; signed = h.signed; receiver = h.receiver; count = h.count; past = h.past }

-- the numbers of the peer too
pub number_since : (tokens_of : Signing) (s t : State) → IsSince tokens_of s t → t.number ≡ s.number
number_since tokens_of s t since = (same_since tokens_of s t since).number

pub after_forgets : (old a b : State) → IsAfter old a b → IsAfter old (forgotten a) b
after_forgets old a b g = record { seed = g.seed; terms = g.terms; number = g.number; last = g.last; above = g.above; neither = g.neither; signed_since = g.signed_since; revoked_since = g.revoked_since; signed = g.signed; receiver = g.receiver; count = g.count; past = g.past }

pub after_restarts : (tokens_of : Signing) (old a b s : State) → IsSince tokens_of s a → IsAfter old a b → IsAfter old s b
after_restarts tokens_of old a b s since g =
    let h = same_since tokens_of s a since in
    let n = h.number in
    let l = h.last in
    let up = g.number in
    let on = g.last in
    record {
      seed = sym h.seed ∙ g.seed;
      terms = sym h.terms ∙ g.terms;
      number = omega (arith, n, up);
      last = omega (arith, l, on);
      above = g.above;
      neither = λ d f. sym h.order ∙ g.neither (n ∙ d) (l ∙ f);
      signed_since = λ d m. sym h.order ∙ g.signed_since (n ∙ d) (omega (arith, m, l));
      revoked_since = λ m f. sym h.order ∙ g.revoked_since (omega (arith, m, n)) (l ∙ f);
      signed = λ f. sym h.signed ∙ g.signed (l ∙ f);
      receiver = λ f. sym h.receiver ∙ g.receiver (l ∙ f);
      count = λ w d. sym (h.count (waits w d)) ∙ g.count w d;
      past = λ w d. sym (h.past (waits w d)) ∙ g.past w d;
    }
  where
    waits : old.awaiting ≡ true → b.number ≡ old.peer_number → a.awaiting ≡ true
    waits w d =
        let c = g.count w d in
        let x = last_is a in
        let y = last_is old in
        let v : bit old.awaiting ≡ 1 = ap bit w in
        let on = g.last in
        let small = at_most_one a.awaiting in
        is_one a.awaiting (omega (arith, c, x, y, v, on, small))
