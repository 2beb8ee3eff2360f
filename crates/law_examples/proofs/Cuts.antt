-- Two peers whose connection is cut: what one step is, what they reach, what goes out again, and who is told to be behind.
use Rattle.std.proofs.Common.{◌≡◌, ℕ, ◌+◌, ◌≤◌, Bool, true, false, List, [], ◌∷◌, ◌++◌, map, length, Some, None, inl, inr, sym, ap, ◌∙◌, refl, subst, arith, lit<, length-append}
use Rattle.std.specs.List.{Contains}
use Rattle.std.proofs.lemmas.Bool.{true≢false, false≢true}
use Rattle.keys.specs.declared.compressed.Key.{Key}
use Rattle.terms.specs.declared.agreement.Terms.{Terms}
use Rattle.terms.specs.declared.sides.Side.TheVariants.{A, B}
use Rattle.updates.specs.declared.changes.Update.{Update}
use Rattle.updates.specs.declared.errors.ChannelError.{ChannelError}
use Rattle.updates.specs.declared.errors.ChannelError.TheVariants.{NoMemory, NotYourTurn, WrongSecret}
use Rattle.updates.specs.declared.messages.PeerStep.TheVariants.{Update as Updated, CommitmentSigned}
use Rattle.channel.specs.declared.commitments.CommitmentState.{CommitmentState}
use Rattle.channel.specs.declared.messages.Message.{Message}
use Rattle.channel.specs.declared.messages.Message.TheVariants.{Step, RevokeAndAck}
use Rattle.channel.specs.declared.reestablish.Reestablish.{Reestablish}
use Rattle.channel.specs.declared.reestablish.Parcel.{Parcel}
use Rattle.channel.specs.declared.reestablish.Parcel.TheVariants.{Hello, Sent}
use Rattle.channel.specs.declared.plays.Action.TheVariants.{Deliver}
use Rattle.channel.specs.declared.plays.PairStep.TheVariants.{Turn, Cut}
use Rattle.channel.specs.declared.plays.Outcome.{Outcome}
use Rattle.channel.specs.declared.plays.Outcome.TheVariants.{Done, Refused, NoMessage, NotConnected, Behind}
use Rattle.channel.specs.Points.{secret_at, point_at}
use Rattle.channel.specs.States.{Signing, State, sign_refusal, receive_refusal, after_sign, after, answers, signature_message, peers_next}
use Rattle.channel.specs.Reestablishing.{forgotten, hello, is_behind, hello_refusal, resends}
use Rattle.channel.specs.Peers.{World, opened_both, Acts, updates, signs, receives, Steps, by_a, by_b, IsReached, at_opening, then, IsLived}
use Rattle.channel.specs.Agreeing.{AgreesIn, FirstOf, IsSoundState}
use Rattle.channel.specs.Recording.{own_newest, peers_newest, peers_signed, IsRecorded}
use Rattle.channel.specs.Connections.{Connection, is_cut, cut_off, Moves, makes, gives, takes, resumes, IsReachable, opens, a_moves, b_moves, is_cut_off, a_restarts, b_restarts, parcel_refusal, is_told_behind, IsTaken, AgreesOver, IsToldBehind}
use Rattle.channel.specs.Resending.{IsOld, HasGiven, gave_nothing, gave_update, gave_signature, gave_answers, gave_no_more, IsLeftOf, all_left, left_out, left_in, IsSince, still, took, forgot, IsLater, now, updated_later, signed_later, received_later, forgot_later, restarted_later}
use Rattle.channel.specs.Playing.{IsPlay, IsDelivered, AreDelivered}
use Rattle.safety.proofs.Lists.{contains_none}

-- yes: HasGiven, by crates/channel/proofs/ResendExamples.antt: lives
-- yes: InFirstOrder, by crates/channel/proofs/ResendExamples.antt: orders
-- no: InFirstOrder, by crates/channel/proofs/ResendExamples.antt: orders
-- yes: IsSince, by crates/channel/proofs/ResendExamples.antt: quiet
-- no: IsSince, by crates/channel/proofs/ResendExamples.antt: quiet

-- ---- what goes out again is old

module _ (tokens_of : Signing) (s : State) where
  -- the secret of the commitment before the newest, with the point for the number after the newest (BOLT 2, `revoke_and_ack`)
  -- yes: IsOld
  revoked_before : s.number ≡ 5 → IsOld tokens_of s (RevokeAndAck (record { secret = secret_at s.seed 4; next_point = point_at s.seed 6 }))
  revoked_before e = (4, omega (arith, e), refl, refl)

  -- the newest commitment has not been revoked, whatever the secret
  -- no: IsOld
  newest_not_revoked : (secret : List ℕ) (next : Key) → s.number ≡ 0 → IsOld tokens_of s (RevokeAndAck (record { secret = secret; next_point = next })) → ⊥
  newest_not_revoked secret next e (n, below, is, at) = omega (arith, e, below)

  -- yes: IsOld
  covered : (u : Update) → s.held.own.with_receiver ≡ u ∷ [] → IsOld tokens_of s (Step (Updated u))
  covered u e = subst (λ (us : List Update). Contains us u) (sym e) (0, lit< tt, refl)

  -- an update that no signature covers
  -- no: IsOld
  uncovered : (u : Update) → s.held.own.with_receiver ≡ [] → IsOld tokens_of s (Step (Updated u)) → ⊥
  uncovered u e old = contains_none u (subst (λ (us : List Update). Contains us u) e old)

  -- yes: IsOld
  signed : (c : CommitmentState) → s.signed ≡ c ∷ [] → IsOld tokens_of s (Step (CommitmentSigned (tokens_of s.held.terms c)))
  signed c e = (c, subst (λ (cs : List CommitmentState). Contains cs c) (sym e) (0, lit< tt, refl), refl)

-- ---- all that was given

message_signed : (s : State) (m : Message) → length (after s m).signed ≡ length s.signed
message_signed s (Step (Updated u)) = refl
message_signed s (Step (CommitmentSigned tokens)) = refl
message_signed s (RevokeAndAck revocation) = refl

signed_given : (tokens_of : Signing) (s : State) (given : List Message) → HasGiven tokens_of s given → length s.signed ≤ length given + 1
signed_given tokens_of s given (gave_nothing terms side seed point next_point) = omega arith
signed_given tokens_of s given (gave_update {s = t} {given = before} u e g) =
    let l = signed_given tokens_of t before g in
    let a = length-append before (Step (Updated u) ∷ []) in
    omega (arith, l, a)
signed_given tokens_of s given (gave_signature {s = t} {given = before} e g) =
    let l = signed_given tokens_of t before g in
    let a = length-append before (signature_message tokens_of t ∷ []) in
    let b = length-append t.signed (peers_next t ∷ []) in
    omega (arith, l, a, b)
signed_given tokens_of s given (gave_answers {s = t} {given = before} m e g) =
    let l = signed_given tokens_of t before g in
    let a = length-append before (answers t m) in
    let b = message_signed t m in
    omega (arith, l, a, b)
signed_given tokens_of s given (gave_no_more {s = t} g) = signed_given tokens_of t given g

-- a signature was given, and is not among what was given
-- no: HasGiven
signature_left_out : (tokens_of : Signing) (s : State) → length s.signed ≡ 2 → HasGiven tokens_of s [] → ⊥
signature_left_out tokens_of s e g = let l = signed_given tokens_of s [] g in omega (arith, e, l)

-- yes: IsLeftOf
second_left : (m n : Message) → IsLeftOf (n ∷ []) (m ∷ n ∷ [])
second_left m n = left_out m (left_in n all_left)

-- no: IsLeftOf
nothing_left : (m : Message) → IsLeftOf (m ∷ []) [] → ⊥
nothing_left m l = elim l [ ]

-- ---- later states

message_seed : (s : State) (m : Message) → (after s m).seed ≡ s.seed
message_seed s (Step (Updated u)) = refl
message_seed s (Step (CommitmentSigned tokens)) = refl
message_seed s (RevokeAndAck revocation) = refl

since_seed : (tokens_of : Signing) (s t : State) → IsSince tokens_of s t → t.seed ≡ s.seed
since_seed tokens_of s t still = refl
since_seed tokens_of s t (took {t = v} m e a since) = message_seed v m ∙ since_seed tokens_of s v since
since_seed tokens_of s t (forgot {t = v} since) = since_seed tokens_of s v since

later_seed : (tokens_of : Signing) (s t : State) → IsLater tokens_of s t → t.seed ≡ s.seed
later_seed tokens_of s t now = refl
later_seed tokens_of s t (updated_later {t = v} u e l) = later_seed tokens_of s v l
later_seed tokens_of s t (signed_later {t = v} e l) = later_seed tokens_of s v l
later_seed tokens_of s t (received_later {t = v} m e l) = message_seed v m ∙ later_seed tokens_of s v l
later_seed tokens_of s t (forgot_later {t = v} l) = later_seed tokens_of s v l
later_seed tokens_of s t (restarted_later {t = v} u since l) = sym (since_seed tokens_of t v since) ∙ later_seed tokens_of s v l

module _ (tokens_of : Signing) (s t u : State) where
  -- a start from a state since which the side gave nothing out
  -- yes: IsLater
  starts_again : IsSince tokens_of u t → IsLater tokens_of s t → IsLater tokens_of s u
  starts_again since later = restarted_later u since later

  -- no: IsLater
  of_another_seed : length s.seed ≡ 32 → t.seed ≡ [] → IsLater tokens_of s t → ⊥
  of_another_seed e f later = let l = ap length (sym f ∙ later_seed tokens_of s t later) in omega (arith, e, l)

-- ---- one step of a peer

module _ (tokens_of : Signing) (me : State) where
  -- yes: Acts
  takes_oldest : (m n : Message) → receive_refusal tokens_of me m ≡ None → Acts tokens_of me (m ∷ n ∷ []) (after me m) (answers me m) (n ∷ [])
  takes_oldest m n e = receives m (n ∷ []) refl e

  -- without a message an act sends one
  -- no: Acts
  idle : (next : State) (queue sent rest : List Message) → queue ≡ [] → sent ≡ [] → Acts tokens_of me queue next sent rest → ⊥
  idle next queue sent rest none e (updates u f) = let l = ap length e in omega (arith, l)
  idle next queue sent rest none e (signs f) = let l = ap length e in omega (arith, l)
  idle next queue sent rest none e (receives m more f g) = let l = ap length (sym none ∙ f) in omega (arith, l)

  -- yes: Moves
  answers_hello : (r : Reestablish) (p : Parcel) → hello_refusal me r ≡ None → is_behind me r ≡ false → Moves tokens_of me (Hello r ∷ p ∷ []) me (map Sent (resends tokens_of me r)) (p ∷ [])
  answers_hello r p e b = resumes r (p ∷ []) refl e b

  abbrev hello_in : Reestablish → List Parcel → Reestablish
  hello_in r (Hello first ∷ rest) = first
  hello_in r parcels = r

  -- a side that is told to be behind makes no move
  -- no: Moves
  stands_behind : (next : State) (r : Reestablish) (queue sent rest : List Parcel) → queue ≡ Hello r ∷ [] → is_behind me r ≡ true → Moves tokens_of me queue next sent rest → ⊥
  stands_behind next r queue sent rest q b (makes u c e) = true≢false (sym (ap is_cut q) ∙ c)
  stands_behind next r queue sent rest q b (gives c e) = true≢false (sym (ap is_cut q) ∙ c)
  stands_behind next r queue sent rest q b (takes m more e f) = true≢false (sym (ap is_cut q) ∙ ap is_cut e)
  stands_behind next r queue sent rest q b (resumes r' more e f ahead) =
      let same : r ≡ r' = ap (hello_in r) (sym q ∙ e) in
      true≢false (sym b ∙ ap (λ (x : Reestablish). is_behind me x) same ∙ ahead)

-- ---- what two peers reach, and what they agree on

acts_seed : (tokens_of : Signing) (me next : State) (queue sent rest : List Message) → Acts tokens_of me queue next sent rest → next.seed ≡ me.seed
acts_seed tokens_of me next queue sent rest (updates u e) = refl
acts_seed tokens_of me next queue sent rest (signs e) = refl
acts_seed tokens_of me next queue sent rest (receives m more e f) = message_seed me m

moves_seed : (tokens_of : Signing) (me next : State) (queue sent rest : List Parcel) → Moves tokens_of me queue next sent rest → next.seed ≡ me.seed
moves_seed tokens_of me next queue sent rest (makes u c e) = refl
moves_seed tokens_of me next queue sent rest (gives c e) = refl
moves_seed tokens_of me next queue sent rest (takes m more e f) = message_seed me m
moves_seed tokens_of me next queue sent rest (resumes r more e f b) = refl

module _ (tokens_of : Signing) (w : World) where
  -- A's queue stays
  -- yes: Steps
  b_signs : sign_refusal w.b ≡ None → Steps tokens_of w (record { a = w.a; b = after_sign w.b; to_a = w.to_a ++ signature_message tokens_of w.b ∷ []; to_b = w.to_b })
  b_signs e = by_b (signs e)

  nothing_more : (xs ys : List Message) → xs ≡ [] → xs ++ ys ≡ [] → ys ≡ []
  nothing_more xs ys e f = sym (ap (λ (zs : List Message). zs ++ ys) e) ∙ f

  -- a step that neither takes a message nor sends one
  -- no: Steps
  nothing_sent : (v : World) → w.to_a ≡ [] → w.to_b ≡ [] → v.to_a ≡ [] → v.to_b ≡ [] → Steps tokens_of w v → ⊥
  nothing_sent v e f g h (by_a {me} {sent} {rest} acts) = idle tokens_of w.a me w.to_a sent rest e (nothing_more w.to_b sent f h) acts
  nothing_sent v e f g h (by_b {me} {sent} {rest} acts) = idle tokens_of w.b me w.to_b sent rest f (nothing_more w.to_a sent e g) acts

module _ (tokens_of : Signing) (terms : Terms) (seed_a seed_b : List ℕ) where
  steps_seed : (w v : World) → Steps tokens_of w v → v.a.seed ≡ w.a.seed
  steps_seed w v (by_a {me} {sent} {rest} acts) = acts_seed tokens_of w.a me w.to_a sent rest acts
  steps_seed w v (by_b acts) = refl

  reached_seed : (w : World) → IsReached tokens_of terms seed_a seed_b w → w.a.seed ≡ seed_a
  reached_seed w at_opening = refl
  reached_seed w (then {w = before} r step) = steps_seed before w step ∙ reached_seed before r

  -- yes: IsReached
  at_first : IsReached tokens_of terms seed_a seed_b (opened_both terms seed_a seed_b)
  at_first = at_opening

  -- no: IsReached
  by_another : (w : World) → length seed_a ≡ 32 → w.a.seed ≡ [] → IsReached tokens_of terms seed_a seed_b w → ⊥
  by_another w e f r = let l = ap length (sym f ∙ reached_seed w r) in omega (arith, e, l)

  reachable_seed : (w : Connection) → IsReachable tokens_of terms seed_a seed_b w → w.a.seed ≡ seed_a
  reachable_seed w opens = refl
  reachable_seed w (a_moves {w = before} {me} {sent} {rest} r moves) = moves_seed tokens_of before.a me before.to_a sent rest moves ∙ reachable_seed before r
  reachable_seed w (b_moves {w = before} r moves) = reachable_seed before r
  reachable_seed w (is_cut_off {w = before} r) = reachable_seed before r
  reachable_seed w (a_restarts {w = before} s r lived since) = sym (since_seed tokens_of s before.a since) ∙ reachable_seed before r
  reachable_seed w (b_restarts {w = before} s r lived since) = reachable_seed before r

  module _ (w : Connection) where
    -- either side starts again, and all that is on its way is lost
    -- yes: IsReachable
    a_starts_again : (s : State) → IsReachable tokens_of terms seed_a seed_b w → IsLived tokens_of s → IsSince tokens_of s w.a
        → IsReachable tokens_of terms seed_a seed_b (record { a = forgotten s; b = forgotten w.b; to_a = Hello (hello w.b) ∷ []; to_b = Hello (hello s) ∷ [] })
    a_starts_again s r lived since = a_restarts s r lived since

    -- yes: IsReachable
    b_starts_again : (s : State) → IsReachable tokens_of terms seed_a seed_b w → IsLived tokens_of s → IsSince tokens_of s w.b
        → IsReachable tokens_of terms seed_a seed_b (record { a = forgotten w.a; b = forgotten s; to_a = Hello (hello s) ∷ []; to_b = Hello (hello w.a) ∷ [] })
    b_starts_again s r lived since = b_restarts s r lived since

    -- no: IsReachable
    of_other_seeds : length seed_a ≡ 32 → w.a.seed ≡ [] → IsReachable tokens_of terms seed_a seed_b w → ⊥
    of_other_seeds e f r = let l = ap length (sym f ∙ reachable_seed w r) in omega (arith, e, l)

module _ (tokens_of : Signing) (s : State) (r : Reestablish) where
  -- yes: IsTaken
  takes_hello : hello_refusal s r ≡ None → is_behind s r ≡ false → IsTaken tokens_of s (Hello r)
  takes_hello e b = record { passes = e; ahead = b }

  -- no: IsTaken
  refuses_hello : hello_refusal s r ≡ Some WrongSecret → IsTaken tokens_of s (Hello r) → ⊥
  refuses_hello e t = let f : None ≡ Some WrongSecret = sym t.passes ∙ e in cc

  -- no: IsTaken
  is_behind_it : is_behind s r ≡ true → IsTaken tokens_of s (Hello r) → ⊥
  is_behind_it e t = true≢false (sym e ∙ t.ahead)

module _ (tokens_of : Signing) (w : Connection) (p : Parcel) where
  -- yes: AgreesOver
  agrees_over : w.a.held.terms ≡ w.b.held.terms → ((q : Parcel) (rest : List Parcel) → w.to_a ≡ q ∷ rest → IsTaken tokens_of w.a q) → ((q : Parcel) (rest : List Parcel) → w.to_b ≡ q ∷ rest → IsTaken tokens_of w.b q)
      → FirstOf w.a.mine w.b.signed → FirstOf w.b.mine w.a.signed → IsSoundState w.a → IsSoundState w.b → AgreesOver tokens_of w
  agrees_over t a b f g s u = record { same_terms = t; a_takes = a; b_takes = b; a_accepted = f; b_accepted = g; a_sound = s; b_sound = u }

  -- no: AgreesOver
  a_refuses : w.to_a ≡ p ∷ [] → parcel_refusal tokens_of w.a p ≡ Some NotYourTurn → AgreesOver tokens_of w → ⊥
  a_refuses e f g = let h : None ≡ Some NotYourTurn = sym (g.a_takes p [] e).passes ∙ f in cc

  -- no: AgreesOver
  b_is_told_behind : w.to_b ≡ p ∷ [] → is_told_behind w.b p ≡ true → AgreesOver tokens_of w → ⊥
  b_is_told_behind e f g = true≢false (sym f ∙ (g.b_takes p [] e).ahead)

  -- B signed one commitment, and A accepted two
  -- no: AgreesOver
  accepts_more : length w.a.mine ≡ 2 → length w.b.signed ≡ 1 → AgreesOver tokens_of w → ⊥
  accepts_more e f g =
      let h = ap length g.a_accepted.1 in
      let i = length-append w.a.mine g.a_accepted.0 in
      omega (arith, e, f, h, i)

module _ (tokens_of : Signing) (w : World) (m : Message) where
  -- yes: AgreesIn
  agrees_in : w.a.held.terms ≡ w.b.held.terms → ((n : Message) (rest : List Message) → w.to_a ≡ n ∷ rest → receive_refusal tokens_of w.a n ≡ None) → ((n : Message) (rest : List Message) → w.to_b ≡ n ∷ rest → receive_refusal tokens_of w.b n ≡ None)
      → FirstOf w.a.mine w.b.signed → FirstOf w.b.mine w.a.signed → IsSoundState w.a → IsSoundState w.b → AgreesIn tokens_of w
  agrees_in t a b f g s u = record { same_terms = t; a_takes = a; b_takes = b; a_accepted = f; b_accepted = g; a_sound = s; b_sound = u }

  -- no: AgreesIn
  b_refuses : w.to_b ≡ m ∷ [] → receive_refusal tokens_of w.b m ≡ Some NotYourTurn → AgreesIn tokens_of w → ⊥
  b_refuses e f g = let h : None ≡ Some NotYourTurn = sym (g.b_takes m [] e) ∙ f in cc

-- ---- who is told to be behind

-- the old state's newest commitment is the fourth after the first
module _ (old peer : State) (fourth : old.number ≡ 4) where
  -- yes: IsToldBehind
  told : length peer.secrets ≡ 5 → hello_refusal old (hello peer) ≡ None → is_behind old (hello peer) ≡ true → IsToldBehind old peer
  told e h b = record { revoked = λ l. (h, b); newest = λ l. absurd (omega (arith, fourth, e, l)) }

  -- the peer has the secrets of the commitments 0 to 4
  -- no: IsToldBehind
  not_told : length peer.secrets ≡ 5 → is_behind old (hello peer) ≡ false → IsToldBehind old peer → ⊥
  not_told e b t = false≢true (sym b ∙ (t.revoked (omega (arith, fourth, e))).1)

  -- no: IsToldBehind
  refused_for_its_secret : length peer.secrets ≡ 5 → hello_refusal old (hello peer) ≡ Some WrongSecret → IsToldBehind old peer → ⊥
  refused_for_its_secret e h t = let f : None ≡ Some WrongSecret = sym (t.revoked (omega (arith, fourth, e))).0 ∙ h in cc

  -- of the commitments 0 to 3 alone
  -- no: IsToldBehind
  told_too_early : length peer.secrets ≡ 4 → is_behind old (hello peer) ≡ true → IsToldBehind old peer → ⊥
  told_too_early e b t = true≢false (sym b ∙ (t.newest (omega (arith, fourth, e))).1)

-- ---- what a state records

module _ (s : State) (of_mine of_signed : CommitmentState) where
  -- yes: IsRecorded
  records : s.number ≡ 1 → s.peer_number ≡ 1 → s.mine ≡ of_mine ∷ own_newest s ∷ [] → s.signed ≡ of_signed ∷ peers_newest s ∷ peers_signed s s.awaiting → IsRecorded s
  records n p m e = record { older = of_mine ∷ []; mine = m; older_count = omega (arith, n); past = of_signed ∷ []; signed = e; past_count = omega (arith, p) }

  -- no: IsRecorded
  newest_left_out : s.number ≡ 3 → length s.mine ≡ 3 → IsRecorded s → ⊥
  newest_left_out n e r =
      let f = ap length r.mine in
      let g = length-append r.older (own_newest s ∷ []) in
      let h = r.older_count in
      omega (arith, n, e, f, g, h)

  -- no: IsRecorded
  awaited_left_out : s.peer_number ≡ 3 → s.awaiting ≡ true → length s.signed ≡ 4 → IsRecorded s → ⊥
  awaited_left_out n a e r =
      let f : length s.signed ≡ length (r.past ++ peers_newest s ∷ peers_signed s true) = ap length r.signed ∙ ap (λ (b : Bool). length (r.past ++ peers_newest s ∷ peers_signed s b)) a in
      let g = length-append r.past (peers_newest s ∷ peers_signed s true) in
      let h = r.past_count in
      omega (arith, n, e, f, g, h)

-- ---- two peers that are played

abbrev code_of : Outcome → ℕ
code_of Done = 1
code_of (Refused r) = 2
code_of NoMessage = 3
code_of NotConnected = 4
code_of Behind = 5

-- yes: IsDelivered
memory_ran_out : IsDelivered (Turn A Deliver) (Refused NoMemory) × IsDelivered Cut Behind
memory_ran_out = (refl, tt)

-- no: IsDelivered
told_behind : IsDelivered (Turn B Deliver) Behind → ⊥
told_behind d = d

abbrev number_of : ChannelError → ℕ
number_of NoMemory = 0
number_of e = 1

-- no: IsDelivered
delivery_refused : IsDelivered (Turn A Deliver) (Refused NotYourTurn) → ⊥
delivery_refused d = let e : 1 ≡ 0 = ap number_of d in omega (arith, e)

-- yes: AreDelivered
all_delivered : AreDelivered (Turn A Deliver ∷ Turn B Deliver ∷ []) (Done ∷ NoMessage ∷ [])
all_delivered = (tt, (tt, tt))

-- no: AreDelivered
second_told_behind : AreDelivered (Turn A Deliver ∷ Turn B Deliver ∷ []) (Done ∷ Behind ∷ []) → ⊥
second_told_behind d = d.1.0

module _ (tokens_of : Signing) (w v : Connection) where
  -- yes: IsPlay
  cut : IsPlay tokens_of w (Cut ∷ []) (Done ∷ []) (cut_off w) × IsPlay tokens_of w (Cut ∷ []) (Refused NoMemory ∷ []) w
  cut = (inr (refl, refl), inl (refl, refl))

  -- no: IsPlay
  other_outcome : IsPlay tokens_of w (Cut ∷ []) (NotConnected ∷ []) v → ⊥
  other_outcome (inl p) = let e : 4 ≡ 2 = ap code_of p.0 in omega (arith, e)
  other_outcome (inr p) = let e : 4 ≡ 1 = ap code_of p.0 in omega (arith, e)

  -- no: IsPlay
  no_outcome : IsPlay tokens_of w (Cut ∷ []) [] v → ⊥
  no_outcome p = p
