-- What the calls of a pair do is its play.
use Rattle.std.proofs.Common.{◌≡◌, ℕ, ◌+◌, ◌<◌, ◌≤◌, List, [], ◌∷◌, ◌++◌, drop, length, get_or, refl, sym, ap, ◌∙◌, subst, inl, inr, append_assoc, append-nil}
use Rattle.std.specs.Prelude.{Result, Ok, Err, cond, is_ok}
use Rattle.std.proofs.lemmas.List.{drop_more, drop_all}
use Rattle.terms.specs.declared.sides.Side.{Side}
use Rattle.terms.specs.declared.sides.Side.TheVariants.{A, B}
use Rattle.updates.specs.declared.errors.ChannelError.TheVariants.{NoMemory}
use Rattle.channel.specs.declared.plays.PairStep.{PairStep}
use Rattle.channel.specs.declared.plays.PairStep.TheVariants.{Cut}
use Rattle.channel.specs.declared.plays.Outcome.{Outcome}
use Rattle.channel.specs.declared.plays.Outcome.TheVariants.{Done, Refused}
use Rattle.channel.specs.declared.reestablish.Reestablish.{Reestablish}
use Rattle.channel.specs.declared.reestablish.Parcel.{Parcel}
use Rattle.channel.specs.declared.reestablish.Parcel.TheVariants.{Hello}
use Rattle.channel.specs.Reestablishing.{forgotten, hello}
use Rattle.channel.specs.States.{Signing, State}
use Rattle.channel.specs.Peers.{AreOpened}
use Rattle.channel.specs.Connections.{Connection, opened, cut_off, Moves, opens, a_moves, b_moves, is_cut_off}
use Rattle.channel.specs.Playing.{state_of, queue_of, moved, IsStep, IsPlay, AreDelivered}
use Rattle.channel.specs.Standing.{IsStanding, AgreesThroughout}
use Rattle.channel.proofs.Standing.{joined, agrees_over}
use Rattle.channel.proofs.Playing.{IsJoined, kept_step, kept_play, play_agrees}

-- a pair that steps led to

pub standing_opened : (tokens_of : Signing) (a b : State) → AreOpened a b → IsStanding tokens_of (record { a = a; b = b; to_a = []; to_b = [] })
standing_opened tokens_of a b o =
    let w = opened o.terms o.seed_a o.seed_b in
    let p : IsStanding tokens_of w = record { terms = o.terms; seed_a = o.seed_a; seed_b = o.seed_b; reached = opens } in
    let e : ◌≡◌ {A = Connection} (record { a = a; b = b; to_a = []; to_b = [] }) w = ap (λ (s : State). record { a = s; b = b; to_a = []; to_b = [] }) o.a_is ∙ ap (λ (s : State). record { a = w.a; b = s; to_a = []; to_b = [] }) o.b_is in
    subst (IsStanding tokens_of) (sym e) p

standing_acts : (tokens_of : Signing) (w : Connection) (side : Side) (me : State) (sent rest : List Parcel) → Moves tokens_of (state_of side w) (queue_of side w) me sent rest → IsStanding tokens_of w → IsStanding tokens_of (moved side w me rest sent)
standing_acts tokens_of w A me sent rest m p = record { terms = p.terms; seed_a = p.seed_a; seed_b = p.seed_b; reached = a_moves p.reached m }
standing_acts tokens_of w B me sent rest m p = record { terms = p.terms; seed_a = p.seed_a; seed_b = p.seed_b; reached = b_moves p.reached m }

standing_cut : (tokens_of : Signing) (w : Connection) → IsStanding tokens_of w → IsStanding tokens_of (cut_off w)
standing_cut tokens_of w p = record { terms = p.terms; seed_a = p.seed_a; seed_b = p.seed_b; reached = is_cut_off p.reached }

pub standing_step : (tokens_of : Signing) (w : Connection) (s : PairStep) (o : Outcome) (v : Connection) → IsStep tokens_of w s o v → IsStanding tokens_of w → IsStanding tokens_of v
standing_step tokens_of w s o v p g = kept_step tokens_of (IsStanding tokens_of) (standing_acts tokens_of) (standing_cut tokens_of) w s o v p g

standing_joined : (tokens_of : Signing) (w : Connection) → IsStanding tokens_of w → IsJoined tokens_of w
standing_joined tokens_of w p = joined tokens_of p.terms p.seed_a p.seed_b w p.reached

pub agrees_throughout : (tokens_of : Signing) (w : Connection) (steps : List PairStep) → IsStanding tokens_of w → AgreesThroughout tokens_of w steps
agrees_throughout tokens_of w steps p first rest outcomes v e q =
    let r = kept_play tokens_of (IsStanding tokens_of) (standing_acts tokens_of) (standing_cut tokens_of) w first outcomes v q p in
    (r, agrees_over tokens_of v (standing_joined tokens_of v r))

pub are_delivered : (tokens_of : Signing) (w : Connection) (steps : List PairStep) (outcomes : List Outcome) (v : Connection) → IsStanding tokens_of w → IsPlay tokens_of w steps outcomes v → AreDelivered steps outcomes
are_delivered tokens_of w steps outcomes v p q = (play_agrees tokens_of w steps outcomes v q (standing_joined tokens_of w p)).0

-- a cut, by what it leaves of each part; and a step for which memory ran out
pub is_cut_step : (tokens_of : Signing) (w v : Connection) (from_a from_b : Reestablish) → v.a ≡ forgotten w.a → v.b ≡ forgotten w.b → from_a ≡ hello w.a → from_b ≡ hello w.b → v.to_a ≡ Hello from_b ∷ []
    → v.to_b ≡ Hello from_a ∷ [] → IsStep tokens_of w Cut Done v
is_cut_step tokens_of w v from_a from_b a b of_a of_b to_a to_b =
    let left = to_a ∙ ap (λ (h : Reestablish). Hello h ∷ []) of_b in
    let right = to_b ∙ ap (λ (h : Reestablish). Hello h ∷ []) of_a in
    inr (refl, λ j. record { a = a j; b = b j; to_a = left j; to_b = right j })

pub is_refused_step : (tokens_of : Signing) (w v : Connection) (s : PairStep) → v.a ≡ w.a → v.b ≡ w.b → v.to_a ≡ w.to_a → v.to_b ≡ w.to_b → IsStep tokens_of w s (Refused NoMemory) v
is_refused_step tokens_of w v s a b to_a to_b = inl (refl, λ j. record { a = a j; b = b j; to_a = to_a j; to_b = to_b j })

-- the same step, from where it begins
pub stepped : (tokens_of : Signing) (start w : Connection) (s t : PairStep) (o : Outcome) (v : Connection) → start ≡ w → t ≡ s → IsStep tokens_of start s o v → IsStep tokens_of w t o v
stepped tokens_of start w s t o v e f p = subst (λ x. IsStep tokens_of x t o v) e (subst (λ x. IsStep tokens_of start x o v) (sym f) p)

-- what is left of a play, after its first steps

abbrev pub IsLeft : Signing → Connection → List PairStep → List Outcome → Connection → List PairStep → Type 0
IsLeft tokens_of w steps done v left = (outcomes : List Outcome) (u : Connection) → IsPlay tokens_of v left outcomes u → IsPlay tokens_of w steps (done ++ outcomes) u

played_on : (tokens_of : Signing) (w : Connection) (s : PairStep) (steps : List PairStep) (o : Outcome) (outcomes : List Outcome) (v u : Connection) → IsStep tokens_of w s o v → IsPlay tokens_of v steps outcomes u → IsPlay tokens_of w (s ∷ steps) (o ∷ outcomes) u
played_on tokens_of w s steps o outcomes v u (inl (e, q)) p = inl (e, subst (λ x. IsPlay tokens_of x steps outcomes u) q p)
played_on tokens_of w s steps o outcomes v u (inr (e, q)) p = inr (e, subst (λ x. IsPlay tokens_of x steps outcomes u) q p)

pub left_on : (tokens_of : Signing) (w : Connection) (steps : List PairStep) (done : List Outcome) (v u : Connection) (s : PairStep) (left : List PairStep) (o : Outcome) → IsStep tokens_of v s o u
    → IsLeft tokens_of w steps done v (s ∷ left) → IsLeft tokens_of w steps (done ++ o ∷ []) u left
left_on tokens_of w steps done v u s left o p l outcomes x q =
    subst (λ os. IsPlay tokens_of w steps os x) (sym (append_assoc done (o ∷ []) outcomes)) (l (o ∷ outcomes) x (played_on tokens_of v s left o outcomes u x p q))

pub left_next : (tokens_of : Signing) (w : Connection) (steps : List PairStep) (done new : List Outcome) (v u : Connection) (i : ℕ) (s : PairStep) (o : Outcome) → i < length steps
    → IsStep tokens_of v (get_or steps i s) o u → new ≡ done ++ o ∷ [] → IsLeft tokens_of w steps done v (drop i steps) → IsLeft tokens_of w steps new u (drop (i + 1) steps)
left_next tokens_of w steps done new v u i s o l p n left =
    subst (λ os. IsLeft tokens_of w steps os u (drop (i + 1) steps)) (sym n)
    (left_on tokens_of w steps done v u (get_or steps i s) (drop (i + 1) steps) o p (subst (IsLeft tokens_of w steps done v) (drop_more steps i s l) left))

pub left_last : (tokens_of : Signing) (w : Connection) (steps : List PairStep) (done : List Outcome) (v : Connection) (i : ℕ) → length steps ≤ i → IsLeft tokens_of w steps done v (drop i steps) → IsPlay tokens_of w steps done v
left_last tokens_of w steps done v i l left =
    let nothing : IsLeft tokens_of w steps done v [] = subst (IsLeft tokens_of w steps done v) (drop_all i steps l) left in
    subst (λ os. IsPlay tokens_of w steps os v) (append-nil done) (nothing [] v refl)

-- what is pushed in place
pub pushed : {T E X : Type 0} (r : Result T E) (x : T) (items a b : X) → r ≡ Ok x → items ≡ cond (is_ok r) a b → items ≡ a
pushed (Ok y) x items a b e h = h
pushed (Err y) x items a b e h = absurd (cc)
