-- A play is a run of the two peers' steps and of cuts.
use Rattle.std.proofs.Common.{◌≡◌, Bool, true, false, cond, List, [], ◌∷◌, map, refl, sym, subst, Option, Some, None, inl, inr}
use Rattle.terms.specs.declared.sides.Side.{Side}
use Rattle.terms.specs.declared.sides.Side.TheVariants.{A, B}
use Rattle.updates.specs.declared.changes.Update.{Update}
use Rattle.updates.specs.declared.errors.ChannelError.{ChannelError}
use Rattle.updates.specs.declared.errors.ChannelError.TheVariants.{NoMemory}
use Rattle.updates.specs.declared.messages.PeerStep.TheVariants.{Update as Updated}
use Rattle.channel.specs.declared.messages.Message.TheVariants.{Step}
use Rattle.channel.specs.declared.reestablish.Parcel.{Parcel}
use Rattle.channel.specs.declared.reestablish.Parcel.TheVariants.{Hello, Sent}
use Rattle.channel.specs.declared.plays.Action.{Action}
use Rattle.channel.specs.declared.plays.Action.TheVariants.{Own, Sign, Deliver}
use Rattle.channel.specs.declared.plays.PairStep.{PairStep}
use Rattle.channel.specs.declared.plays.PairStep.TheVariants.{Turn, Cut}
use Rattle.channel.specs.declared.plays.Outcome.{Outcome}
use Rattle.channel.specs.declared.plays.Outcome.TheVariants.{Refused, NotConnected}
use Rattle.channel.specs.States.{Signing, State, update_of, update_refusal, sign_refusal, receive_refusal, after_update, after_sign, after, answers, signature_message}
use Rattle.channel.specs.Reestablishing.{is_behind, hello_refusal, resends}
use Rattle.channel.specs.Connections.{Connection, opened, is_cut, cut_off, Moves, makes, gives, takes, resumes, IsTaken, AgreesOver}
use Rattle.channel.specs.Playing.{Played, state_of, queue_of, moved, unless, unless_cut, after_hello, updated_by, signed_by, delivered_to, acted, played, IsStep, IsPlay, IsDelivered, AreDelivered}
use Rattle.channel.specs.Standing.{PlaysAgree}
use Rattle.channel.proofs.Standing.{Joined, joined_opened, joined_acts, joined_cut_off, agrees_over}

-- what each step and each cut keeps, a play keeps

module _ (tokens_of : Signing) (P : Connection → Type 0)
    (keeps : (w : Connection) (side : Side) (me : State) (sent rest : List Parcel) → Moves tokens_of (state_of side w) (queue_of side w) me sent rest → P w → P (moved side w me rest sent))
    (cuts : (w : Connection) → P w → P (cut_off w)) where
  kept_unless : (w v : Connection) (r : Option ChannelError) → (r ≡ None → P w → P v) → P w → P (unless r w v).connection
  kept_unless w v None s g = s refl g
  kept_unless w v (Some r) s g = g

  kept_unless_cut : (w : Connection) (cut : Bool) (queue : List Parcel) (p : Played) → is_cut queue ≡ cut → (is_cut queue ≡ false → P p.connection) → P w → P (unless_cut queue w p).connection
  kept_unless_cut w true queue p e s g = subst (λ c. P (cond c (record { connection = w; outcome = NotConnected }) p).connection) (sym e) g
  kept_unless_cut w false queue p e s g = subst (λ c. P (cond c (record { connection = w; outcome = NotConnected }) p).connection) (sym e) (s e)

  kept_hello : (w v : Connection) (r : Option ChannelError) (behind : Bool) → (r ≡ None → behind ≡ false → P w → P v) → P w → P (after_hello r behind w v).connection
  kept_hello w v (Some r) behind s g = g
  kept_hello w v None true s g = g
  kept_hello w v None false s g = s refl refl g

  kept_made : (w : Connection) (side : Side) (u : Update) → P w → P (updated_by w side u).connection
  kept_made w side u g =
      kept_unless_cut w (is_cut (queue_of side w)) (queue_of side w) _ refl
      (λ up. kept_unless w _ (update_refusal (state_of side w) u) (λ e h. keeps w side (after_update u (state_of side w)) (Sent (Step (Updated u)) ∷ []) (queue_of side w) (makes u up e) h) g) g

  kept_sign : (w : Connection) (side : Side) → P w → P (signed_by tokens_of w side).connection
  kept_sign w side g =
      kept_unless_cut w (is_cut (queue_of side w)) (queue_of side w) _ refl
      (λ up. kept_unless w _ (sign_refusal (state_of side w))
      (λ e h. keeps w side (after_sign (state_of side w)) (Sent (signature_message tokens_of (state_of side w)) ∷ []) (queue_of side w) (gives up e) h) g) g

  kept_delivered : (w : Connection) (side : Side) (queue : List Parcel) → queue_of side w ≡ queue → P w → P (delivered_to tokens_of w side queue).connection
  kept_delivered w side [] q g = g
  kept_delivered w side (Sent m ∷ rest) q g =
      kept_unless w _ (receive_refusal tokens_of (state_of side w) m)
      (λ e h. keeps w side (after (state_of side w) m) (map Sent (answers (state_of side w) m)) rest (takes m rest q e) h) g
  kept_delivered w side (Hello r ∷ rest) q g =
      kept_hello w _ (hello_refusal (state_of side w) r) (is_behind (state_of side w) r)
      (λ e ahead h. keeps w side (state_of side w) (map Sent (resends tokens_of (state_of side w) r)) rest (resumes r rest q e ahead) h) g

  kept_acted : (w : Connection) (side : Side) (action : Action) → P w → P (acted tokens_of w side action).connection
  kept_acted w side (Own u) g = kept_made w side (update_of (state_of side w) u) g
  kept_acted w side Sign g = kept_sign w side g
  kept_acted w side Deliver g = kept_delivered w side (queue_of side w) refl g

  pub kept_played : (w : Connection) (s : PairStep) → P w → P (played tokens_of w s).connection
  kept_played w (Turn side action) g = kept_acted w side action g
  kept_played w Cut g = cuts w g

  pub kept_step : (w : Connection) (s : PairStep) (o : Outcome) (v : Connection) → IsStep tokens_of w s o v → P w → P v
  kept_step w s o v (inl (e, q)) g = subst P (sym q) g
  kept_step w s o v (inr (e, q)) g = subst P (sym q) (kept_played w s g)

  pub kept_play : (w : Connection) (steps : List PairStep) (outcomes : List Outcome) (v : Connection) → IsPlay tokens_of w steps outcomes v → P w → P v
  kept_play w [] [] v p g = subst P (sym p) g
  kept_play w [] (o ∷ outcomes) v p g = absurd p
  kept_play w (s ∷ steps) [] v p g = absurd p
  kept_play w (s ∷ steps) (o ∷ outcomes) v (inl (e, p)) g = kept_play w steps outcomes v p g
  kept_play w (s ∷ steps) (o ∷ outcomes) v (inr (e, p)) g = kept_play (played tokens_of w s).connection steps outcomes v p (kept_played w s g)

abbrev pub IsJoined : Signing → Connection → Type 0
IsJoined tokens_of w = Joined tokens_of w.a w.b w.to_a w.to_b

pub joined_played : (tokens_of : Signing) (w : Connection) (s : PairStep) → IsJoined tokens_of w → IsJoined tokens_of (played tokens_of w s).connection
joined_played tokens_of w s g = kept_played tokens_of (IsJoined tokens_of) (joined_acts tokens_of) (joined_cut_off tokens_of) w s g

pub taken : (tokens_of : Signing) (w : Connection) (side : Side) (x : Parcel) (rest : List Parcel) → queue_of side w ≡ x ∷ rest → AgreesOver tokens_of w → IsTaken tokens_of (state_of side w) x
taken tokens_of w A x rest q g = g.a_takes x rest q
taken tokens_of w B x rest q g = g.b_takes x rest q

delivered_when : (tokens_of : Signing) (w : Connection) (side : Side) (queue : List Parcel) → queue_of side w ≡ queue → AgreesOver tokens_of w → IsDelivered (Turn side Deliver) (delivered_to tokens_of w side queue).outcome
delivered_when tokens_of w side [] q g = tt
delivered_when tokens_of w side (Sent m ∷ rest) q g = let t = taken tokens_of w side (Sent m) rest q g in let e = t.passes in rw e tt
delivered_when tokens_of w side (Hello r ∷ rest) q g = let t = taken tokens_of w side (Hello r) rest q g in let e = t.passes in let f = t.ahead in rw (e, f) tt

delivered_one : (tokens_of : Signing) (w : Connection) (s : PairStep) → AgreesOver tokens_of w → IsDelivered s (played tokens_of w s).outcome
delivered_one tokens_of w (Turn side (Own u)) g = tt
delivered_one tokens_of w (Turn side Sign) g = tt
delivered_one tokens_of w (Turn side Deliver) g = delivered_when tokens_of w side (queue_of side w) refl g
delivered_one tokens_of w Cut g = tt

-- a step for which memory ran out
delivered_later : (s : PairStep) → IsDelivered s (Refused NoMemory)
delivered_later (Turn side (Own u)) = tt
delivered_later (Turn side Sign) = tt
delivered_later (Turn side Deliver) = refl
delivered_later Cut = tt

pub play_agrees : (tokens_of : Signing) (w : Connection) (steps : List PairStep) (outcomes : List Outcome) (v : Connection) → IsPlay tokens_of w steps outcomes v → IsJoined tokens_of w
    → AreDelivered steps outcomes × AgreesOver tokens_of v
play_agrees tokens_of w [] [] v p g = (tt, subst (AgreesOver tokens_of) (sym p) (agrees_over tokens_of w g))
play_agrees tokens_of w [] (o ∷ outcomes) v p g = absurd p
play_agrees tokens_of w (s ∷ steps) [] v p g = absurd p
play_agrees tokens_of w (s ∷ steps) (o ∷ outcomes) v (inl (e, p)) g =
    let rest = play_agrees tokens_of w steps outcomes v p g in
    ((subst (IsDelivered s) (sym e) (delivered_later s), rest.0), rest.1)
play_agrees tokens_of w (s ∷ steps) (o ∷ outcomes) v (inr (e, p)) g =
    let rest = play_agrees tokens_of (played tokens_of w s).connection steps outcomes v p (joined_played tokens_of w s g) in
    ((subst (IsDelivered s) (sym e) (delivered_one tokens_of w s (agrees_over tokens_of w g)), rest.0), rest.1)

pub plays_agree : PlaysAgree
plays_agree tokens_of terms seed_a seed_b steps outcomes w p = play_agrees tokens_of (opened terms seed_a seed_b) steps outcomes w p (joined_opened tokens_of terms seed_a seed_b)
