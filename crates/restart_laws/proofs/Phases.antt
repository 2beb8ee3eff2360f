-- How the queues of two honest peers stand: the connection is up, or one of the two or both have not taken the other's hello. And what every life of a side keeps.
use Rattle.std.proofs.Common.{◌≡◌, ℕ, ◌+◌, ◌≤◌, true, false, not, cond, ltb, List, [], ◌∷◌, ◌++◌, map, sym, ap, ◌∙◌, subst, refl, arith, None}
use Rattle.std.specs.Str.{bytes_eq}
use Rattle.std.proofs.lemmas.Bool.{ltb-false, leb-false}
use Rattle.std.proofs.lemmas.List.{map-append}
use Rattle.terms.specs.declared.sides.Side.TheVariants.{A, B}
use Rattle.terms.specs.declared.agreement.Terms.{Terms}
use Rattle.updates.specs.declared.errors.ChannelError.TheVariants.{WrongSecret}
use Rattle.updates.specs.declared.changes.Update.{Update}
use Rattle.updates.specs.Refusals.{Test}
use Rattle.updates.specs.Steady.{IsSteady, own_tests}
use Rattle.updates.proofs.Accepting.{AllPass, all_pass, none_refuses}
use Rattle.updates.proofs.OneSide.{steady_none, steady_made, steady_signed, steady_update, steady_signature, steady_revocation}
use Rattle.updates.proofs.Committed.{steady_committed}
use Rattle.channel.specs.declared.limits.TheConstants.{LAST_NUMBER}
use Rattle.channel.specs.declared.messages.Message.{Message}
use Rattle.updates.specs.declared.messages.PeerStep.TheVariants.{Update as Updated, CommitmentSigned}
use Rattle.channel.specs.declared.messages.Message.TheVariants.{Step, RevokeAndAck}
use Rattle.channel.specs.declared.reestablish.Reestablish.{Reestablish}
use Rattle.channel.specs.declared.reestablish.Parcel.{Parcel}
use Rattle.channel.specs.declared.reestablish.Parcel.TheVariants.{Hello, Sent}
use Rattle.channel.specs.Points.{point_at}
use Rattle.channel.specs.States.{Signing, State, repeat_tests, update_refusal, receive_refusal, after_update, after_sign, after, answers, signature_message}
use Rattle.channel.specs.Reestablishing.{hello, last_signed, secret_before, is_behind, number_tests, hello_refusal, resends}
use Rattle.channel.specs.Peers.{IsLived, starts, updated_once, signed_once, received_once, forgot_once}
use Rattle.channel.specs.Connections.{Connection, is_cut, Moves, makes, gives, takes, resumes, IsReachable, opens, a_moves, b_moves, is_cut_off, a_restarts, b_restarts}

pub data Phase (a b : State) (to_a to_b : List Parcel) : Type 0 where
  both_up : (p q : List Message) → to_a ≡ map Sent p → to_b ≡ map Sent q → Phase a b to_a to_b
  a_cut : (p : List Message) → to_a ≡ Hello (hello b) ∷ map Sent p → to_b ≡ [] → Phase a b to_a to_b
  b_cut : (q : List Message) → to_a ≡ [] → to_b ≡ Hello (hello a) ∷ map Sent q → Phase a b to_a to_b
  both_cut : to_a ≡ Hello (hello b) ∷ [] → to_b ≡ Hello (hello a) ∷ [] → Phase a b to_a to_b

pub phase_turned : (a b : State) (to_a to_b : List Parcel) → Phase a b to_a to_b → Phase b a to_b to_a
phase_turned a b to_a to_b (both_up p q e f) = both_up q p f e
phase_turned a b to_a to_b (a_cut p e f) = b_cut p f e
phase_turned a b to_a to_b (b_cut q e f) = a_cut q f e
phase_turned a b to_a to_b (both_cut e f) = both_cut f e

pub not_up : (queue : List Parcel) (r : Reestablish) (rest : List Parcel) → queue ≡ Hello r ∷ rest → is_cut queue ≡ false → ⊥
not_up queue r rest e up = let f : true ≡ false = sym (ap is_cut e) ∙ up in cc

pub first_sent : (p : List Message) (m : Message) (rest : List Parcel) → map Sent p ≡ Sent m ∷ rest → (later : List Message) × (p ≡ m ∷ later) × (rest ≡ map Sent later)
first_sent [] m rest e = absurd (cc)
first_sent (n ∷ p) m rest e = let f : n ≡ m = (cc) in let g : map Sent p ≡ rest = (cc) in (p, ap (λ x. x ∷ p) f, sym g)

pub no_hello : (p : List Message) (r : Reestablish) (rest : List Parcel) → map Sent p ≡ Hello r ∷ rest → ⊥
no_hello [] r rest e = cc
no_hello (n ∷ p) r rest e = cc

-- a list of sent messages with more of them
pub more_sent : (queue : List Parcel) (p more : List Message) → queue ≡ map Sent p → queue ++ map Sent more ≡ map Sent (p ++ more)
more_sent queue p more e = ap (λ l. l ++ map Sent more) e ∙ sym (map-append Sent p more)

pub more_behind : (queue : List Parcel) (r : Reestablish) (p more : List Message) → queue ≡ Hello r ∷ map Sent p → queue ++ map Sent more ≡ Hello r ∷ map Sent (p ++ more)
more_behind queue r p more e = ap (λ l. l ++ map Sent more) e ∙ ap (λ l. Hello r ∷ l) (sym (map-append Sent p more))

phase_sends : (a c b : State) (to_a to_b : List Parcel) (m : Message) → hello c ≡ hello a → is_cut to_a ≡ false → Phase a b to_a to_b → Phase c b to_a (to_b ++ Sent m ∷ [])
phase_sends a c b to_a to_b m h up (both_up p q e f) = both_up p (q ++ m ∷ []) e (more_sent to_b q (m ∷ []) f)
phase_sends a c b to_a to_b m h up (a_cut p e f) = absurd (not_up to_a (hello b) (map Sent p) e up)
phase_sends a c b to_a to_b m h up (b_cut q e f) = b_cut (q ++ m ∷ []) e (more_behind to_b (hello a) q (m ∷ []) f ∙ ap (λ r. Hello r ∷ map Sent (q ++ m ∷ [])) (sym h))
phase_sends a c b to_a to_b m h up (both_cut e f) = absurd (not_up to_a (hello b) [] e up)

phase_takes : (a b : State) (to_a to_b : List Parcel) (m : Message) (rest : List Parcel) → to_a ≡ Sent m ∷ rest → Phase a b to_a to_b → Phase (after a m) b rest (to_b ++ map Sent (answers a m))
phase_takes a b to_a to_b m rest is (both_up p q e f) = let g = first_sent p m rest (sym e ∙ is) in both_up g.0 (q ++ answers a m) g.2 (more_sent to_b q (answers a m) f)
phase_takes a b to_a to_b m rest is (a_cut p e f) = absurd (let g : Hello (hello b) ∷ map Sent p ≡ Sent m ∷ rest = sym e ∙ is in cc)
phase_takes a b to_a to_b m rest is (b_cut q e f) = absurd (let g : ◌≡◌ {A = List Parcel} [] (Sent m ∷ rest) = sym e ∙ is in cc)
phase_takes a b to_a to_b m rest is (both_cut e f) = absurd (let g : Hello (hello b) ∷ [] ≡ Sent m ∷ rest = sym e ∙ is in cc)

phase_resumes : (tokens_of : Signing) (a b : State) (to_a to_b : List Parcel) (r : Reestablish) (rest : List Parcel) → to_a ≡ Hello r ∷ rest → Phase a b to_a to_b → Phase a b rest (to_b ++ map Sent (resends tokens_of a r))
phase_resumes tokens_of a b to_a to_b r rest is (both_up p q e f) = absurd (no_hello p r rest (sym e ∙ is))
phase_resumes tokens_of a b to_a to_b r rest is (a_cut p e f) =
    let g : Hello (hello b) ∷ map Sent p ≡ Hello r ∷ rest = sym e ∙ is in
    let left : map Sent p ≡ rest = (cc) in
    both_up p (resends tokens_of a r) (sym left) (ap (λ l. l ++ map Sent (resends tokens_of a r)) f)
phase_resumes tokens_of a b to_a to_b r rest is (b_cut q e f) = absurd (let g : ◌≡◌ {A = List Parcel} [] (Hello r ∷ rest) = sym e ∙ is in cc)
phase_resumes tokens_of a b to_a to_b r rest is (both_cut e f) =
    let g : Hello (hello b) ∷ [] ≡ Hello r ∷ rest = sym e ∙ is in
    let left : ◌≡◌ {A = List Parcel} [] rest = (cc) in
    b_cut (resends tokens_of a r) (sym left) (ap (λ l. l ++ map Sent (resends tokens_of a r)) f)

phase_moves : (tokens_of : Signing) (a b : State) (to_a to_b : List Parcel) (me : State) (sent rest : List Parcel) → Moves tokens_of a to_a me sent rest → Phase a b to_a to_b → Phase me b rest (to_b ++ sent)
phase_moves tokens_of a b to_a to_b me sent rest (makes u up e) g = phase_sends a (after_update u a) b to_a to_b (Step (Updated u)) refl up g
phase_moves tokens_of a b to_a to_b me sent rest (gives up e) g = phase_sends a (after_sign a) b to_a to_b (signature_message tokens_of a) refl up g
phase_moves tokens_of a b to_a to_b me sent rest (takes m left is e) g = phase_takes a b to_a to_b m left is g
phase_moves tokens_of a b to_a to_b me sent rest (resumes r left is e ahead) g = phase_resumes tokens_of a b to_a to_b r left is g

pub phase_of : (tokens_of : Signing) (terms : Terms) (seed_a seed_b : List ℕ) (w : Connection) → IsReachable tokens_of terms seed_a seed_b w → Phase w.a w.b w.to_a w.to_b
phase_of tokens_of terms seed_a seed_b w opens = both_up [] [] refl refl
phase_of tokens_of terms seed_a seed_b w (a_moves {w = v} {me = me} {sent = sent} {rest = rest} r m) = phase_moves tokens_of v.a v.b v.to_a v.to_b me sent rest m (phase_of tokens_of terms seed_a seed_b v r)
phase_of tokens_of terms seed_a seed_b w (b_moves {w = v} {me = me} {sent = sent} {rest = rest} r m) =
    phase_turned me v.a rest (v.to_a ++ sent) (phase_moves tokens_of v.b v.a v.to_b v.to_a me sent rest m (phase_turned v.a v.b v.to_a v.to_b (phase_of tokens_of terms seed_a seed_b v r)))
phase_of tokens_of terms seed_a seed_b w (is_cut_off {w = v} r) = both_cut refl refl
phase_of tokens_of terms seed_a seed_b w (a_restarts {w = v} s r l since) = both_cut refl refl
phase_of tokens_of terms seed_a seed_b w (b_restarts {w = v} s r l since) = both_cut refl refl

-- both sides are states of a life

lived_moves : (tokens_of : Signing) (a : State) (to_a : List Parcel) (me : State) (sent rest : List Parcel) → Moves tokens_of a to_a me sent rest → IsLived tokens_of a → IsLived tokens_of me
lived_moves tokens_of a to_a me sent rest (makes u up e) l = updated_once u e l
lived_moves tokens_of a to_a me sent rest (gives up e) l = signed_once e l
lived_moves tokens_of a to_a me sent rest (takes m left is e) l = received_once m e l
lived_moves tokens_of a to_a me sent rest (resumes r left is e ahead) l = l

pub lived_of : (tokens_of : Signing) (terms : Terms) (seed_a seed_b : List ℕ) (w : Connection) → IsReachable tokens_of terms seed_a seed_b w → IsLived tokens_of w.a × IsLived tokens_of w.b
lived_of tokens_of terms seed_a seed_b w opens = (starts terms A seed_a (point_at seed_b 0) (point_at seed_b 1), starts terms B seed_b (point_at seed_a 0) (point_at seed_a 1))
lived_of tokens_of terms seed_a seed_b w (a_moves {w = v} {me = me} {sent = sent} {rest = rest} r m) = let h = lived_of tokens_of terms seed_a seed_b v r in (lived_moves tokens_of v.a v.to_a me sent rest m h.0, h.1)
lived_of tokens_of terms seed_a seed_b w (b_moves {w = v} {me = me} {sent = sent} {rest = rest} r m) = let h = lived_of tokens_of terms seed_a seed_b v r in (h.0, lived_moves tokens_of v.b v.to_b me sent rest m h.1)
lived_of tokens_of terms seed_a seed_b w (is_cut_off {w = v} r) = let h = lived_of tokens_of terms seed_a seed_b v r in (forgot_once h.0, forgot_once h.1)
lived_of tokens_of terms seed_a seed_b w (a_restarts {w = v} s r l since) = let h = lived_of tokens_of terms seed_a seed_b v r in (forgot_once l, forgot_once h.1)
lived_of tokens_of terms seed_a seed_b w (b_restarts {w = v} s r l since) = let h = lived_of tokens_of terms seed_a seed_b v r in (forgot_once h.0, forgot_once l)

-- what no test refuses, the tests of the updates don't
all_front : (xs ys : List Test) → AllPass (xs ++ ys) → AllPass xs
all_front [] ys p = tt
all_front (x ∷ xs) ys p = (p.0, all_front xs ys p.1)

steady_after : (tokens_of : Signing) (s : State) (m : Message) → receive_refusal tokens_of s m ≡ None → IsSteady s.held → IsSteady (after s m).held
steady_after tokens_of s (Step (Updated u)) e k = steady_update s.held u e k
steady_after tokens_of s (Step (CommitmentSigned tokens)) e k = steady_signature s.held k
steady_after tokens_of s (RevokeAndAck revocation) e k = steady_revocation s.held k

steady_makes : (s : State) (u : Update) → update_refusal s u ≡ None → IsSteady s.held → IsSteady (after_update u s).held
steady_makes s u e k = steady_made s.held u (none_refuses (own_tests s.held u) (all_front (own_tests s.held u) (repeat_tests s.fulfilled u) (all_pass (own_tests s.held u ++ repeat_tests s.fulfilled u) e))) k

pub lived_steady : (tokens_of : Signing) (s : State) → IsLived tokens_of s → IsSteady s.held
lived_steady tokens_of s (starts terms side seed point next_point) = steady_none terms side
lived_steady tokens_of s (updated_once {s = r} u e l) = steady_makes r u e (lived_steady tokens_of r l)
lived_steady tokens_of s (signed_once {s = r} e l) = steady_signed r.held (lived_steady tokens_of r l)
lived_steady tokens_of s (received_once {s = r} m e l) = steady_after tokens_of r m e (lived_steady tokens_of r l)
lived_steady tokens_of s (forgot_once {s = r} l) = steady_committed r.held (lived_steady tokens_of r l)

-- the numbers of a side and of a peer whose hello it takes

pub record IsNear (a b : State) : Type 0 where
  pub revoked : b.peer_number ≤ a.number
  pub close : a.number ≤ b.peer_number + 1
  pub signed : a.peer_number ≤ b.number
  pub given : b.number ≤ last_signed a

pub near : (a b : State) → hello_refusal a (hello b) ≡ None → is_behind a (hello b) ≡ false → IsNear a b
near a b e ahead = by (all_pass ((ltb (LAST_NUMBER + 1) b.peer_number, WrongSecret) ∷ (not (bytes_eq (hello b).last_secret (secret_before a.seed b.peer_number)), WrongSecret) ∷ cond (is_behind a (hello b)) [] (number_tests a (hello b))) e)
  where
    of_numbers : AllPass (number_tests a (hello b)) → IsNear a b
    of_numbers (t1, (t2, (t3, t4))) =
        let up = ltb-false a.number b.peer_number ahead in
        let close = ltb-false (b.peer_number + 1) a.number t1 in
        let signed = leb-false (b.number + 1) a.peer_number t2 in
        let given = ltb-false (last_signed a + 1) (b.number + 1) t3 in
        record { revoked = up; close = close; signed = omega (arith, signed); given = omega (arith, given) }

    by : AllPass ((ltb (LAST_NUMBER + 1) b.peer_number, WrongSecret) ∷ (not (bytes_eq (hello b).last_secret (secret_before a.seed b.peer_number)), WrongSecret) ∷ cond (is_behind a (hello b)) [] (number_tests a (hello b))) → IsNear a b
    by (t1, (t2, t3)) = of_numbers (subst (λ t. AllPass (cond t [] (number_tests a (hello b)))) ahead t3)
