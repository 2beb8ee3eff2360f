-- Two histories of a pair, worked out by hand from BOLT 2, "Message Retransmission", with the state to which a side is put back; and what a history may lead to.
use Rattle.std.proofs.Common.{◌≡◌, ℕ, ◌+◌, ◌<◌, ◌≤◌, true, false, List, [], ◌∷◌, ◌++◌, length, Some, None, sym, ap, ◌∙◌, refl, arith}
use Rattle.std.proofs.lemmas.Bool.{true≢false, ltb-false, le-ltb}
use Rattle.std.proofs.lemmas.Slice.Eq.{bytes_eq-Decides}
use Rattle.tx.specs.declared.input.OutPoint.{OutPoint}
use Rattle.keys.specs.Derivation.{point_of}
use Rattle.terms.specs.declared.htlcs.Htlc.{Htlc}
use Rattle.terms.specs.declared.sides.Side.{Side}
use Rattle.terms.specs.declared.sides.Side.TheVariants.{A, B}
use Rattle.terms.specs.declared.agreement.BaseKeys.{BaseKeys}
use Rattle.terms.specs.declared.agreement.Terms.{Terms}
use Rattle.updates.specs.declared.changes.Update.TheVariants.{Add, Fee}
use Rattle.updates.specs.declared.errors.ChannelError.TheVariants.{NotYourTurn, PeerBehind, NeverSigned}
use Rattle.updates.specs.declared.messages.PeerStep.TheVariants.{Update as Updated, CommitmentSigned}
use Rattle.channel.specs.declared.messages.Message.{Message}
use Rattle.channel.specs.declared.messages.Message.TheVariants.{Step, RevokeAndAck}
use Rattle.channel.specs.declared.reestablish.Parcel.{Parcel}
use Rattle.channel.specs.declared.reestablish.Parcel.TheVariants.{Hello, Sent}
use Rattle.channel.specs.Points.{secret_at, point_at, is_foreign}
use Rattle.channel.specs.States.{Signing, State, state_at_opening, receive_refusal, after_update, after_sign, after, signature_message}
use Rattle.channel.specs.Reestablishing.{forgotten, hello, resends, last_signed, is_behind, hello_refusal}
use Rattle.channel.specs.Peers.{IsLived}
use Rattle.channel.specs.Resending.{IsSince, IsLater, now, received_later}
use Rattle.channel.specs.Connections.{Connection, opened, Moves, makes, gives, takes, resumes, IsReachable, opens, a_moves, b_moves, IsTaken, parcel_refusal, AgreesOver}
use Rattle.channel.proofs.Samples.{key, tokens_of, tokens, sample_terms}
use Rattle.restart_laws.specs.Histories.{LeadsTo, stays, moves_on, is_cut_later, restarts, peer_restarts, put_back_to, GoesOn, PutBackGoesOn, IsAnswered}

-- ---- two histories

abbrev htlc : ℕ → ℕ → Htlc
htlc id amount_msat = record { id = id; amount_msat = amount_msat; hash = []; expiry_height = 500 }

-- the secret of a commitment, of either side
abbrev pub reveals : List ℕ → ℕ → Message
reveals seed number = RevokeAndAck (record { secret = secret_at seed number; next_point = point_at seed (number + 2) })

-- the first revocation of a side is taken by one that waits for it
pub takes_first : (s : State) (seed : List ℕ) → s.awaiting ≡ true → s.point.bytes ≡ point_of (secret_at seed 0) → s.secrets ≡ [] → receive_refusal tokens_of s (reveals seed 0) ≡ None
unfolding is_foreign
takes_first s seed w p n = rw (w, p, n, (bytes_eq-Decides (point_of (secret_at seed 0)) (point_of (secret_at seed 0))).1 refl) refl

module _ (funding : OutPoint) (bases : BaseKeys) (seed_a seed_b : List ℕ) where
  abbrev terms : Terms
  terms = sample_terms funding bases

  abbrev start : Connection
  start = opened terms seed_a seed_b

  abbrev a0 : State
  a0 = start.a

  abbrev b0 : State
  b0 = start.b

  -- A offers an HTLC and signs
  abbrev offer : Message
  offer = Step (Updated (Add (htlc 0 2000)))

  abbrev a1 : State
  a1 = after_sign (after_update (Add (htlc 0 2000)) a0)

  abbrev signature : Message
  signature = signature_message tokens_of (after_update (Add (htlc 0 2000)) a0)

  abbrev signed : Connection
  signed = record { a = a1; b = b0; to_a = []; to_b = Sent offer ∷ Sent signature ∷ [] }

  reaches_signed : IsReachable tokens_of terms seed_a seed_b signed
  reaches_signed = a_moves (a_moves opens (makes (Add (htlc 0 2000)) refl refl)) (gives refl refl)

  -- B takes both, and revokes
  abbrev b1 : State
  b1 = after (after b0 offer) signature

  abbrev revoked : Connection
  revoked = record { a = a1; b = b1; to_a = Sent (reveals seed_b 0) ∷ []; to_b = [] }

  leads_to_revoked : LeadsTo tokens_of A signed revoked
  leads_to_revoked = moves_on B (moves_on B stays (takes offer (Sent signature ∷ []) refl refl)) (takes signature [] refl refl)

  -- A takes the revocation, offers one more and signs again, which B never gets
  abbrev a2 : State
  a2 = after a1 (reveals seed_b 0)

  abbrev a3 : State
  a3 = after_sign (after_update (Add (htlc 1 3000)) a2)

  abbrev later : Connection
  later = record { a = a3; b = b1; to_a = []; to_b = Sent (Step (Updated (Add (htlc 1 3000)))) ∷ Sent (signature_message tokens_of (after_update (Add (htlc 1 3000)) a2)) ∷ [] }

  leads_to_later : LeadsTo tokens_of A signed later
  leads_to_later = moves_on A (moves_on A (moves_on A leads_to_revoked (takes (reveals seed_b 0) [] refl (takes_first a1 seed_b refl refl refl))) (makes (Add (htlc 1 3000)) refl refl)) (gives refl refl)

  -- A is put back to where it had signed once: it lost a revocation that came, an offer and a signature of its own. The law's premises are met
  a_takes_hello : IsTaken tokens_of signed.a (Hello (hello later.b))
  a_takes_hello = record { passes = refl; ahead = refl }

  a_goes_on : PutBackGoesOn → GoesOn tokens_of terms seed_a seed_b (put_back_to A signed later)
  a_goes_on law = law tokens_of terms seed_a seed_b A signed later reaches_signed leads_to_later a_takes_hello

  -- the older state stands beside B's newest, and each one's hello is on its way
  a_stands : put_back_to A signed later ≡ record { a = forgotten a1; b = forgotten b1; to_a = Hello (hello b1) ∷ []; to_b = Hello (hello a1) ∷ [] }
  a_stands = refl

  -- B gives its revocation again, and A nothing: the signature came
  gives_again : (resends tokens_of later.b (hello signed.a) ≡ reveals seed_b 0 ∷ []) × (resends tokens_of signed.a (hello later.b) ≡ [])
  gives_again = (refl, refl)

  -- put back to the opening, A is told of a signature that it does not know
  from_the_opening : IsTaken tokens_of start.a (Hello (hello later.b)) → ⊥
  from_the_opening t = let f : Some NeverSigned ≡ None = t.passes in cc

  -- B signs too, before A takes anything
  abbrev b2 : State
  b2 = after_sign b1

  abbrev both : Connection
  both = record { a = a1; b = b2; to_a = Sent (reveals seed_b 0) ∷ Sent (signature_message tokens_of b1) ∷ []; to_b = [] }

  reaches_both : IsReachable tokens_of terms seed_a seed_b both
  reaches_both = b_moves (b_moves (b_moves reaches_signed (takes offer (Sent signature ∷ []) refl refl)) (takes signature [] refl refl)) (gives refl refl)

  abbrev a4 : State
  a4 = after a2 (signature_message tokens_of b1)

  abbrev b3 : State
  b3 = after b2 (reveals seed_a 0)

  abbrev over : Connection
  over = record { a = a4; b = b3; to_a = []; to_b = [] }

  leads_to_over : LeadsTo tokens_of B both over
  leads_to_over =
      moves_on B
      (moves_on A (moves_on A stays (takes (reveals seed_b 0) (Sent (signature_message tokens_of b1) ∷ []) refl (takes_first a1 seed_b refl refl refl))) (takes (signature_message tokens_of b1) [] refl refl))
      (takes (reveals seed_a 0) [] refl (takes_first b2 seed_a refl refl refl))

  -- B is put back to where it awaited A's revocation
  b_takes_hello : IsTaken tokens_of both.b (Hello (hello over.a))
  b_takes_hello = record { passes = rw ((bytes_eq-Decides (secret_at seed_b 0) (secret_at seed_b 0)).1 refl) refl; ahead = refl }

  b_goes_on : PutBackGoesOn → GoesOn tokens_of terms seed_a seed_b (put_back_to B both over)
  b_goes_on law = law tokens_of terms seed_a seed_b B both over reaches_both leads_to_over b_takes_hello

  b_stands : put_back_to B both over ≡ record { a = forgotten a4; b = forgotten b2; to_a = Hello (hello b2) ∷ []; to_b = Hello (hello a4) ∷ [] }
  b_stands = refl

  -- put back to before it took A's signature, B is behind: A has the secret of its commitment 0
  from_before : IsTaken tokens_of start.b (Hello (hello over.a)) → ⊥
  from_before t = true≢false t.ahead

-- ---- why the older state is one of the history, and not any from which messages lead to the present one

module _ (funding : OutPoint) (bases : BaseKeys) (seed : List ℕ) where
  -- A, which opened the channel, changes the feerate, and signs for the first and for the second time
  abbrev fee : ℕ → Message
  fee feerate_per_kw = Step (Updated (Fee feerate_per_kw))

  abbrev signs : ℕ → Message
  signs number = Step (CommitmentSigned (tokens number []))

  abbrev fresh : State
  fresh = state_at_opening (sample_terms funding bases) B seed (key 0) (key 1)

  -- it said one feerate twice before its first signature, or once
  abbrev twice : State
  twice = after (after (after fresh (fee 2000)) (fee 2000)) (signs 1)

  abbrev once : State
  once = after (after fresh (fee 2000)) (signs 1)

  abbrev present : State
  present = after (after twice (fee 3000)) (signs 2)

  -- B came to the present state from the one, and could have come to it from the other, where its list of A's updates is shorter
  same_present : IsLater tokens_of twice present × IsLater tokens_of once present × (length twice.held.theirs.with_receiver ≡ 2) × (length once.held.theirs.with_receiver ≡ 1) × (twice.mine ≡ once.mine)
  same_present = (
    received_later (signs 2) refl (received_later (fee 3000) refl now),
    received_later (signs 2) refl (received_later (fee 3000) refl (received_later (fee 2000) refl now)),
    refl,
    refl,
    refl,
  )

-- ---- what a history may lead to

module _ (tokens_of : Signing) (v w : Connection) (s : State) where
  -- this side may start again without a revocation that it took, whatever its number was
  -- yes: LeadsTo
  a_loses_one : w.a.peer_number ≡ 5 → s.peer_number ≡ 4 → LeadsTo tokens_of A v w → IsLived tokens_of s → IsSince tokens_of s w.a
      → LeadsTo tokens_of A v (record { a = forgotten s; b = forgotten w.b; to_a = Hello (hello w.b) ∷ []; to_b = Hello (hello s) ∷ [] })
  a_loses_one e f l lived since = restarts s l lived since

  -- yes: LeadsTo
  b_loses_one : w.b.peer_number ≡ 8 → s.peer_number ≡ 7 → LeadsTo tokens_of B v w → IsLived tokens_of s → IsSince tokens_of s w.b
      → LeadsTo tokens_of B v (record { a = forgotten w.a; b = forgotten s; to_a = Hello (hello s) ∷ []; to_b = Hello (hello w.a) ∷ [] })
  b_loses_one e f l lived since = restarts s l lived since

  -- its peer may while it has no secret of this side's commitment 5
  -- yes: LeadsTo
  peer_of_a_loses_one : v.a.number ≡ 5 → w.b.peer_number ≡ 5 → s.peer_number ≡ 4 → LeadsTo tokens_of A v w → IsLived tokens_of s → IsSince tokens_of s w.b
      → LeadsTo tokens_of A v (record { a = forgotten w.a; b = forgotten s; to_a = Hello (hello s) ∷ []; to_b = Hello (hello w.a) ∷ [] })
  peer_of_a_loses_one e f g l lived since = peer_restarts s l lived since (le-ltb v.a.number w.b.peer_number (omega (arith, e, f)))

  -- yes: LeadsTo
  peer_of_b_loses_one : v.b.number ≡ 8 → w.a.peer_number ≡ 8 → s.peer_number ≡ 7 → LeadsTo tokens_of B v w → IsLived tokens_of s → IsSince tokens_of s w.a
      → LeadsTo tokens_of B v (record { a = forgotten s; b = forgotten w.b; to_a = Hello (hello w.b) ∷ []; to_b = Hello (hello s) ∷ [] })
  peer_of_b_loses_one e f g l lived since = peer_restarts s l lived since (le-ltb v.b.number w.a.peer_number (omega (arith, e, f)))

moves_number : (tokens_of : Signing) (me next : State) (queue sent rest : List Parcel) → Moves tokens_of me queue next sent rest → me.peer_number ≤ next.peer_number
moves_number tokens_of me next queue sent rest (makes u c e) = omega arith
moves_number tokens_of me next queue sent rest (gives c e) = omega arith
moves_number tokens_of me next queue sent rest (takes (Step (Updated u)) more e f) = omega arith
moves_number tokens_of me next queue sent rest (takes (Step (CommitmentSigned tokens)) more e f) = omega arith
moves_number tokens_of me next queue sent rest (takes (RevokeAndAck revocation) more e f) = omega arith
moves_number tokens_of me next queue sent rest (resumes r more e f b) = omega arith

-- a peer that has the secret keeps it

peer_of_a : (tokens_of : Signing) (v w : Connection) → v.a.number < v.b.peer_number → LeadsTo tokens_of A v w → v.a.number < w.b.peer_number
peer_of_a tokens_of v w n stays = n
peer_of_a tokens_of v w n (moves_on {w = u} A l m) = peer_of_a tokens_of v u n l
peer_of_a tokens_of v w n (moves_on {w = u} {me} {sent} {rest} B l m) = let h = peer_of_a tokens_of v u n l in let g = moves_number tokens_of u.b me u.to_b sent rest m in omega (arith, h, g)
peer_of_a tokens_of v w n (is_cut_later {w = u} l) = peer_of_a tokens_of v u n l
peer_of_a tokens_of v w n (restarts {w = u} s l lived since) = peer_of_a tokens_of v u n l
peer_of_a tokens_of v w n (peer_restarts {w = u} s l lived since up) = absurd (let h = peer_of_a tokens_of v u n l in let g = ltb-false v.a.number u.b.peer_number up in omega (arith, h, g))

peer_of_b : (tokens_of : Signing) (v w : Connection) → v.b.number < v.a.peer_number → LeadsTo tokens_of B v w → v.b.number < w.a.peer_number
peer_of_b tokens_of v w n stays = n
peer_of_b tokens_of v w n (moves_on {w = u} {me} {sent} {rest} A l m) = let h = peer_of_b tokens_of v u n l in let g = moves_number tokens_of u.a me u.to_a sent rest m in omega (arith, h, g)
peer_of_b tokens_of v w n (moves_on {w = u} B l m) = peer_of_b tokens_of v u n l
peer_of_b tokens_of v w n (is_cut_later {w = u} l) = peer_of_b tokens_of v u n l
peer_of_b tokens_of v w n (restarts {w = u} s l lived since) = peer_of_b tokens_of v u n l
peer_of_b tokens_of v w n (peer_restarts {w = u} s l lived since up) = absurd (let h = peer_of_b tokens_of v u n l in let g = ltb-false v.b.number u.a.peer_number up in omega (arith, h, g))

module _ (tokens_of : Signing) (v w : Connection) where
  -- the peer has the secret of commitment 5, and loses it
  -- no: LeadsTo
  b_loses_a_secret : v.a.number ≡ 5 → v.b.peer_number ≡ 6 → w.b.peer_number ≡ 5 → LeadsTo tokens_of A v w → ⊥
  b_loses_a_secret e f g l = let h = peer_of_a tokens_of v w (omega (arith, e, f)) l in omega (arith, e, g, h)

  -- no: LeadsTo
  a_loses_a_secret : v.b.number ≡ 8 → v.a.peer_number ≡ 9 → w.a.peer_number ≡ 8 → LeadsTo tokens_of B v w → ⊥
  a_loses_a_secret e f g l = let h = peer_of_b tokens_of v w (omega (arith, e, f)) l in omega (arith, e, g, h)

module _ (tokens_of : Signing) (terms : Terms) (seed_a seed_b : List ℕ) (c : Connection) (p : Parcel) where
  -- yes: GoesOn
  goes_on : IsReachable tokens_of terms seed_a seed_b c → ((w : Connection) → LeadsTo tokens_of A c w → AgreesOver tokens_of w) → ((w : Connection) → LeadsTo tokens_of B c w → AgreesOver tokens_of w)
      → GoesOn tokens_of terms seed_a seed_b c
  goes_on r f g = record { reached = r; agreed = λ side. on_side side }
    where
      on_side : (side : Side) (w : Connection) → LeadsTo tokens_of side c w → AgreesOver tokens_of w
      on_side A = f
      on_side B = g

  -- what is on its way to B is refused at once
  -- no: GoesOn
  b_refuses : c.to_b ≡ p ∷ [] → parcel_refusal tokens_of c.b p ≡ Some NotYourTurn → GoesOn tokens_of terms seed_a seed_b c → ⊥
  b_refuses e f g = let h : None ≡ Some NotYourTurn = sym ((g.agreed A c stays).b_takes p [] e).passes ∙ f in cc

  -- and later: A is refused what B has sent in its next step
  -- no: GoesOn
  a_refuses_later : (me : State) (rest : List Parcel) → c.to_a ≡ [] → Moves tokens_of c.b c.to_b me (p ∷ []) rest → parcel_refusal tokens_of c.a p ≡ Some NotYourTurn → GoesOn tokens_of terms seed_a seed_b c → ⊥
  a_refuses_later me rest e m f g =
      let h : None ≡ Some NotYourTurn = sym ((g.agreed B _ (moves_on B stays m)).a_takes p [] (ap (λ l. l ++ p ∷ []) e)).passes ∙ f in
      cc

-- ---- what an older state makes of its peer's hello

-- the older state's newest commitment is its fourth after the first, and it signed six after the first
module _ (tokens_of : Signing) (old peer : State) (fourth : old.number ≡ 4) (sixth : last_signed old ≡ 6) where
  -- the peer has the secrets of the commitments 0 to 3
  -- yes: IsAnswered
  takes_it : length peer.secrets ≡ 4 → peer.number ≡ 6 → hello_refusal old (hello peer) ≡ None → is_behind old (hello peer) ≡ false → IsAnswered tokens_of old peer
  takes_it s n e b = record { known = λ l m. record { passes = e; ahead = b }; unknown = λ l m. absurd (omega (arith, sixth, n, m)) }

  -- yes: IsAnswered
  knows_no_seventh : length peer.secrets ≡ 4 → peer.number ≡ 7 → hello_refusal old (hello peer) ≡ Some NeverSigned → IsAnswered tokens_of old peer
  knows_no_seventh s n e = record { known = λ l m. absurd (omega (arith, sixth, n, m)); unknown = λ l m. e }

  -- of one more, nothing is said
  -- yes: IsAnswered
  has_the_secret : length peer.secrets ≡ 5 → IsAnswered tokens_of old peer
  has_the_secret s = record { known = λ l m. absurd (omega (arith, fourth, s, l)); unknown = λ l m. absurd (omega (arith, fourth, s, l)) }

  -- no: IsAnswered
  refuses_the_sixth : length peer.secrets ≡ 4 → peer.number ≡ 6 → hello_refusal old (hello peer) ≡ Some NeverSigned → IsAnswered tokens_of old peer → ⊥
  refuses_the_sixth s n e a = let f : None ≡ Some NeverSigned = sym (a.known (omega (arith, fourth, s)) (omega (arith, sixth, n))).passes ∙ e in cc

  -- no: IsAnswered
  takes_the_seventh : length peer.secrets ≡ 4 → peer.number ≡ 7 → hello_refusal old (hello peer) ≡ None → IsAnswered tokens_of old peer → ⊥
  takes_the_seventh s n e a = let f : Some NeverSigned ≡ None = sym (a.unknown (omega (arith, fourth, s)) (omega (arith, sixth, n))) ∙ e in cc

  -- no: IsAnswered
  peer_is_behind : length peer.secrets ≡ 4 → peer.number ≡ 6 → hello_refusal old (hello peer) ≡ Some PeerBehind → IsAnswered tokens_of old peer → ⊥
  peer_is_behind s n e a = let f : None ≡ Some PeerBehind = sym (a.known (omega (arith, fourth, s)) (omega (arith, sixth, n))).passes ∙ e in cc
