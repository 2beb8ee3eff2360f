-- Updates of one's own that no signature covers: each passes its tests again once the connection was cut, in their order.
use Rattle.std.proofs.Common.{◌≡◌, ℕ, ◌+◌, ◌<◌, ◌≤◌, false, ltb, List, [], ◌∷◌, ◌++◌, length, drop, sym, ap, ◌∙◌, refl, subst, arith, None, append_assoc, append-nil, length-append}
use Rattle.std.proofs.lemmas.Bool.{ltb-false, le-ltb}
use Rattle.std.proofs.lemmas.List.{drop-append-le}
use Rattle.std.proofs.Math.Seq.{drop-append_seam, drop-length}
use Rattle.terms.specs.declared.htlcs.Htlc.{Htlc}
use Rattle.terms.specs.declared.sides.Side.{Side}
use Rattle.terms.specs.declared.agreement.Terms.{Terms}
use Rattle.updates.specs.declared.changes.Update.{Update}
use Rattle.updates.specs.declared.changes.Update.TheVariants.{Add, Fulfil, Fail, Fee}
use Rattle.updates.specs.Updates.{offers, spent_msat, gained_msat, live_count}
use Rattle.updates.specs.Views.{start_msat_of}
use Rattle.updates.specs.Stages.{Stages, uncommitted, committed}
use Rattle.updates.specs.Refusals.{first_refusal, add_tests, update_tests}
use Rattle.updates.specs.Steady.{Held, IsSteady, InOrder, IsBeginning, Numbered, RemovesBelow, own_tests, holding_none, holding_made, holding_signed, holding_update, holding_signature, holding_revocation, holding_committed}
use Rattle.updates.specs.Remade.{CanMake, CanRemake, knowing}
use Rattle.updates.proofs.Sums.{begins, begins_on, gained_rises}
use Rattle.updates.proofs.Accepting.{AllPass, all_pass, none_refuses, update_accepted}
use Rattle.updates.proofs.Funds.{settled_past, past_known}
use Rattle.updates.proofs.Committed.{gained_committed}

-- where more of the sender's own updates are settled, too
rises : (terms : Terms) (by : Side) (s o : Stages) (settled : List Update) (u : Update) → IsBeginning s.settled settled → AllPass (update_tests terms by s o u)
    → AllPass (update_tests terms by (record s { settled = settled }) o u)
rises terms by s o settled (Add p) b (t1, (t2, (t3, (t4, (t5, (t6, t7)))))) =
    let come = gained_rises s.settled settled o.known b in
    let had : p.amount_msat + spent_msat s.known o.settled ≤ start_msat_of by terms + gained_msat s.settled o.known = ltb-false _ _ t6 in
    let enough : ltb (start_msat_of by terms + gained_msat settled o.known) (p.amount_msat + spent_msat s.known o.settled) ≡ false = le-ltb _ _ (omega (arith, come, had)) in
    (t1, (t2, (t3, (t4, (t5, (enough, tt))))))
rises terms by s o settled (Fulfil id preimage) b t = t
rises terms by s o settled (Fail id) b t = t
rises terms by s o settled (Fee feerate_per_kw) b t = t

-- what one side holds later, with the same updates of its own
pub record IsLater (h g : Held) : Type 0 where
  pub terms : g.terms ≡ h.terms
  pub side : g.side ≡ h.side
  pub known : g.own.known ≡ h.own.known
  pub settled : IsBeginning h.own.settled g.own.settled
  pub others_known : IsBeginning h.theirs.known g.theirs.known
  pub others_settled : IsBeginning h.theirs.settled g.theirs.settled

pub passes_later : (h g : Held) (u : Update) → IsLater h g → first_refusal (own_tests h u) ≡ None → first_refusal (own_tests g u) ≡ None
passes_later h g u l e =
    let now : Stages = record g.own { settled = h.own.settled } in
    let first : first_refusal (update_tests h.terms h.side now g.theirs u) ≡ None =
    update_accepted h.terms h.side h.own h.theirs now g.theirs u (record { known = l.known; settled = refl; others_known = l.others_known; others_settled = l.others_settled }) e
    in
    let last = none_refuses _ (rises h.terms h.side now g.theirs g.own.settled u l.settled (all_pass _ first)) in
    subst (λ t. first_refusal (update_tests t g.side g.own g.theirs u) ≡ None) (sym l.terms) (subst (λ s. first_refusal (update_tests h.terms s g.own g.theirs u) ≡ None) (sym l.side) last)

pub can_make_later : (h g : Held) (us : List Update) → IsLater h g → CanMake h us → CanMake g us
can_make_later h g [] l c = tt
can_make_later h g (u ∷ us) l c = (
  passes_later h g u l c.0,
  can_make_later (holding_made u h) (holding_made u g) us
      (record { terms = l.terms; side = l.side; known = ap (λ k. k ++ u ∷ []) l.known; settled = l.settled; others_known = l.others_known; others_settled = l.others_settled }) c.1,
)

pub can_make-append : (h : Held) (us : List Update) (u : Update) → CanMake h us → first_refusal (own_tests (knowing (h.own.known ++ us) h) u) ≡ None → CanMake h (us ++ u ∷ [])
can_make-append h [] u c e = (subst (λ k. first_refusal (own_tests (knowing k h) u) ≡ None) (append-nil h.own.known) e, tt)
can_make-append h (v ∷ us) u c e =
    (c.0, can_make-append (holding_made v h) us u c.1 (subst (λ k. first_refusal (own_tests (knowing k h) u) ≡ None) (sym (append_assoc h.own.known (v ∷ []) us)) e))

-- an update is tested as if the other side's uncommitted updates were not known
passes_committed : (terms : Terms) (by : Side) (s o : Stages) (u : Update) → gained_msat s.settled o.known ≡ gained_msat s.settled o.with_receiver
    → first_refusal (update_tests terms by s o u) ≡ None → first_refusal (update_tests terms by s (committed o) u) ≡ None
passes_committed terms by s o (Add p) g e =
    subst (λ n. first_refusal (add_tests terms by (length (offers s.known)) (live_count s.known o.settled) (start_msat_of by terms + n) (spent_msat s.known o.settled) p) ≡ None) g e
passes_committed terms by s o (Fulfil id preimage) g e = e
passes_committed terms by s o (Fail id) g e = e
passes_committed terms by s o (Fee feerate_per_kw) g e = e

-- what is committed, and then what is not
pub whole_is : (s : Stages) → InOrder s → s.with_receiver ++ uncommitted s ≡ s.known
whole_is s o =
    let b = o.receiver in
    ap (λ l. s.with_receiver ++ drop (length s.with_receiver) l) (sym b.1) ∙ ap (λ l. s.with_receiver ++ l) (drop-append_seam s.with_receiver b.0) ∙ b.1

uncommitted-push : (s : Stages) (u : Update) → InOrder s → drop (length s.with_receiver) (s.known ++ u ∷ []) ≡ uncommitted s ++ u ∷ []
uncommitted-push s u o =
    let b = o.receiver in
    let e = ap length b.1 in
    let f = length-append s.with_receiver b.0 in
    drop-append-le (length s.with_receiver) s.known (u ∷ []) (omega (arith, e, f))

pub remakes_none : (terms : Terms) (side : Side) → CanRemake (holding_none terms side)
remakes_none terms side = tt

pub remakes_made : (h : Held) (u : Update) → IsSteady h → first_refusal (own_tests h u) ≡ None → CanRemake h → CanRemake (holding_made u h)
remakes_made h u k e c =
    let same = gained_committed h.own h.theirs k.own k.theirs k.their_fair.numbered k.own_fair.removes in
    let last : first_refusal (update_tests h.terms h.side h.own (committed h.theirs) u) ≡ None = passes_committed h.terms h.side h.own h.theirs u same e in
    let P : List Update → Type 0 = λ l. first_refusal (update_tests h.terms h.side (record h.own { known = l }) (committed h.theirs) u) ≡ None in
    subst (CanMake (holding_committed h)) (sym (uncommitted-push h.own u k.own))
    (can_make-append (holding_committed h) (uncommitted h.own) u c (subst P (sym (whole_is h.own k.own)) last))

pub remakes_signed : (h : Held) → CanRemake (holding_signed h)
remakes_signed h = subst (CanMake (holding_committed (holding_signed h))) (sym (drop-length h.own.known)) tt

pub remakes_update : (h : Held) (u : Update) → CanRemake h → CanRemake (holding_update u h)
remakes_update h u c = c

pub remakes_signature : (h : Held) → IsSteady h → CanRemake h → CanRemake (holding_signature h)
remakes_signature h k c =
    can_make_later (holding_committed h) (holding_committed (holding_signature h)) (uncommitted h.own)
    (record { terms = refl; side = refl; known = refl; settled = settled_past h.own k.own; others_known = k.theirs.receiver; others_settled = begins h.theirs.settled }) c

pub remakes_revocation : (h : Held) → IsSteady h → CanRemake h → CanRemake (holding_revocation h)
remakes_revocation h k c =
    can_make_later (holding_committed h) (holding_committed (holding_revocation h)) (uncommitted h.own)
    (record { terms = refl; side = refl; known = refl; settled = begins h.own.settled; others_known = begins h.theirs.with_receiver; others_settled = k.theirs.settled }) c

pub remakes_committed : (h : Held) → CanRemake (holding_committed h)
remakes_committed h = subst (CanMake (holding_committed h)) (sym (drop-length h.own.with_receiver)) tt
