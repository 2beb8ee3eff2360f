-- What is kept of pending HTLCs gives the shares of each view.
use Rattle.std.proofs.Common.{◌≡◌, ℕ, ◌+◌, ◌-◌, ◌^◌, ◌<◌, ◌≤◌, List, [], ◌∷◌, ◌++◌, length, take, sym, ap, ◌∙◌, refl, arith, Result, Ok, Err, length-append}
use Rattle.std.specs.Prelude.{IfOk}
use Rattle.std.proofs.lemmas.List.{length-take-le}
use Rattle.terms.specs.declared.htlcs.Htlc.{Htlc}
use Rattle.terms.specs.declared.sides.Side.{Side}
use Rattle.terms.specs.declared.sides.Side.TheVariants.{A, B}
use Rattle.terms.specs.declared.agreement.Terms.{Terms}
use Rattle.terms.specs.declared.views.View.{View}
use Rattle.terms.specs.Sides.{other}
use Rattle.updates.specs.declared.changes.Update.{Update}
use Rattle.updates.specs.declared.pending.Pending.{Pending}
use Rattle.updates.specs.declared.stages.Part.{Part}
use Rattle.updates.specs.declared.stages.Stage.{Stage}
use Rattle.updates.specs.declared.stages.Stage.TheVariants.{Known, WithReceiver, PastReceiver, WithSender}
use Rattle.updates.specs.declared.fates.Fate.{Fate}
use Rattle.updates.specs.declared.fates.Fate.TheVariants.{Live, Fulfilled, Failed}
use Rattle.updates.specs.Updates.{fate, offers, total, if_live, kept_if_live, live_in, live, spent_msat, gained_msat, pending_msat, newest_feerate_per_kw}
use Rattle.updates.specs.Views.{start_msat_of, balance_msat, share_of, feerate_per_kw_of, view_by, IsCovered, IsSoundBy}
use Rattle.updates.specs.Stages.{Stages, part_of, Counts}
use Rattle.updates.specs.Pending.{pending_htlcs, live_at, fulfilled_at, IsKept}
use Rattle.updates.specs.Shares.{amounts_msat, out_at, in_at, share_at, IsPayable, IsPartAt, feerate_per_kw_at, view_from, view_in}
use Rattle.updates.specs.Steady.{Held, IsFair, IsPart, RemovesBelow, IsLedger, InOrder, Numbered}
use Rattle.updates.proofs.Sums.{begins, offers-append, spent_is}
use Rattle.updates.proofs.Numbering.{gained_settled, removes_below-more}
use Rattle.updates.proofs.Funds.{settled_known, settled_past, settled_receiver, past_known, sender_known, removes_below_start}
use Rattle.updates.proofs.OneSide.{sound_at}
use Rattle.updates.proofs.Fees.{part_is}
use Rattle.updates.proofs.Keeping.{fulfilled_in_part, live_in_part}

amounts_if_live : (f : Fate) (h : Htlc) (hs : List Htlc) → amounts_msat (kept_if_live f h hs) ≡ if_live f h.amount_msat + amounts_msat hs
amounts_if_live Live h hs = refl
amounts_if_live Fulfilled h hs = omega arith
amounts_if_live Failed h hs = omega arith

amounts_live : (os : List Htlc) (ends : List Update) → amounts_msat (live_in os ends) ≡ total if_live os ends
amounts_live [] ends = refl
amounts_live (h ∷ os) ends = amounts_if_live (fate h.id ends) h (live_in os ends) ∙ ap (λ n. if_live (fate h.id ends) h.amount_msat + n) (amounts_live os ends)

-- the other side's fulfilments of the HTLCs in a part of the list of `s`
gained_in : (start_msat : ℕ) (p : Pending) (s o : Stages) (a b : List Update) → IsKept p s o → IsFair start_msat o s → Numbered 0 (offers s.known) → InOrder s → InOrder o → IsPart s a → IsPart o b
    → gained_msat b a ≡ p.fulfilled + fulfilled_at (length a) (length b) p.htlcs.items
gained_in start_msat p s o a b k f n so oo sa ob =
    let e = fulfilled_in_part a s.known o.known o.settled b sa.is_known ob.holds_settled ob.is_known in
    let part = settled_known o oo in
    let whole : RemovesBelow (length (offers s.settled)) (o.settled ++ part.0) = rw part.1 f.removes in
    let r = removes_below_start (length (offers s.settled)) o.settled part.0 whole in
    let l : length (offers s.settled) ≤ length (offers a) =
    let g : offers a ≡ offers s.settled ++ offers sa.holds_settled.0 = ap offers (sym sa.holds_settled.1) ∙ offers-append s.settled sa.holds_settled.0 in
    let m = ap length g ∙ length-append (offers s.settled) (offers sa.holds_settled.0) in
    omega (arith, m)
    in
    let same : gained_msat o.settled s.known ≡ gained_msat o.settled a = gained_settled o.settled a s.known sa.is_known n (removes_below-more (length (offers s.settled)) (length (offers a)) o.settled l r) in
    e ∙ ap (λ m. m + fulfilled_at (length a) (length b) (pending_htlcs 0 s.known o.known o.settled)) (sym same ∙ sym k.fulfilled) ∙ ap (λ es. p.fulfilled + fulfilled_at (length a) (length b) es) (sym k.htlcs)

-- of both directions, what is kept of the views of these parts
pub record IsShared (p q : Pending) (a b : List Update) : Type 0 where
  pub lives : live_at (length a) (length b) p.htlcs.items ≡ live a b
  pub ins : in_at q (length a) (length b) ≡ gained_msat a b
  pub outs : out_at p (length a) (length b) ≡ spent_msat a b

shared : (start_msat start_msat' : ℕ) (p q : Pending) (s o : Stages) (a b : List Update) → IsKept p s o → IsKept q o s → InOrder s → InOrder o → IsFair start_msat s o → IsFair start_msat' o s → IsPart s a → IsPart o b → IsShared p q a b
shared start_msat start_msat' p q s o a b k m so oo f g sa ob =
    let lives : live_at (length a) (length b) p.htlcs.items ≡ live a b = ap (live_at (length a) (length b)) k.htlcs ∙ sym (live_in_part a s.known o.known o.settled b sa.is_known ob.holds_settled ob.is_known) in
    record {
      lives = lives;
      ins = sym (gained_in start_msat q o s b a m f g.numbered oo so ob sa);
      outs = (
          let x : amounts_msat (live_at (length a) (length b) p.htlcs.items) ≡ pending_msat a b = ap amounts_msat lives ∙ amounts_live (offers a) b in
          let y = gained_in start_msat' p s o a b k g f.numbered so oo sa ob in
          let z = spent_is a b in
          omega (arith, x, y, z)
          );
    }

share_is : (start_msat : ℕ) (p q : Pending) (a b : List Update) → IsShared p q a b → share_at start_msat p q (length a) (length b) ≡ share_of start_msat a b
share_is start_msat p q a b s =
    ap (λ (n : ℕ). record { balance_msat = start_msat + n - out_at p (length a) (length b); offered = live_at (length a) (length b) p.htlcs.items }) s.ins
    ∙ ap (λ (n : ℕ). record { balance_msat = start_msat + gained_msat a b - n; offered = live_at (length a) (length b) p.htlcs.items }) s.outs
    ∙ ap (λ (l : List Htlc). record { balance_msat = start_msat + gained_msat a b - spent_msat a b; offered = l }) s.lives

payable : (start_msat : ℕ) (p q : Pending) (a b : List Update) → IsShared p q a b → IsCovered start_msat a b → balance_msat start_msat a b < 2 ^ 64 → IsPayable start_msat p q (length a) (length b)
payable start_msat p q a b s c l = record { covered = rw (s.ins, s.outs) c; fits = rw (s.ins, s.outs) l }

-- what a sound view says of both balances
pub record IsPaid (terms : Terms) (side : Side) (a b : List Update) : Type 0 where
  pub own : IsCovered (start_msat_of side terms) a b
  pub theirs : IsCovered (start_msat_of (other side) terms) b a
  pub own_fits : balance_msat (start_msat_of side terms) a b < 2 ^ 64
  pub their_fits : balance_msat (start_msat_of (other side) terms) b a < 2 ^ 64

paid : (terms : Terms) (side : Side) (a b : List Update) → IsSoundBy terms side a b → IsPaid terms side a b
paid terms A a b s =
    let l : terms.capacity_sat ≤ 2100000000000000 = terms.limited in
    let e = s.sum in
    record { own = s.a; theirs = s.b; own_fits = omega (arith, l, e); their_fits = omega (arith, l, e) }
paid terms B a b s =
    let l : terms.capacity_sat ≤ 2100000000000000 = terms.limited in
    let e = s.sum in
    record { own = s.b; theirs = s.a; own_fits = omega (arith, l, e); their_fits = omega (arith, l, e) }

count_is : (s : Stages) (x : Part) → IsPartAt s x → length (take x.count s.known) ≡ x.count
count_is s x at = length-take-le x.count s.known at.kept.within

own_shared : (h : Held) (p q : Pending) (x y : Part) → IsLedger h p q → IsPartAt h.own x → IsPartAt h.theirs y → IsShared p q (take x.count h.own.known) (take y.count h.theirs.known)
own_shared h p q x y k a b = shared _ _ p q h.own h.theirs _ _ k.own_kept k.their_kept k.steady.own k.steady.theirs k.steady.own_fair k.steady.their_fair a.held b.held

their_shared : (h : Held) (p q : Pending) (x y : Part) → IsLedger h p q → IsPartAt h.own x → IsPartAt h.theirs y → IsShared q p (take y.count h.theirs.known) (take x.count h.own.known)
their_shared h p q x y k a b = shared _ _ q p h.theirs h.own _ _ k.their_kept k.own_kept k.steady.theirs k.steady.own k.steady.their_fair k.steady.own_fair b.held a.held

ledger_paid : (h : Held) (p q : Pending) (x y : Part) → IsLedger h p q → IsPartAt h.own x → IsPartAt h.theirs y → IsPaid h.terms h.side (take x.count h.own.known) (take y.count h.theirs.known)
ledger_paid h p q x y k a b = paid h.terms h.side _ _ (sound_at h _ _ k.steady a.held b.held)

pub own_payable : (h : Held) (p q : Pending) (x y : Part) → IsLedger h p q → IsPartAt h.own x → IsPartAt h.theirs y → IsPayable (start_msat_of h.side h.terms) p q x.count y.count
own_payable h p q x y k a b =
    let m = ledger_paid h p q x y k a b in
    rw (count_is h.own x a, count_is h.theirs y b) at (payable (start_msat_of h.side h.terms) p q _ _ (own_shared h p q x y k a b) m.own m.own_fits)

pub their_payable : (h : Held) (p q : Pending) (x y : Part) → IsLedger h p q → IsPartAt h.own x → IsPartAt h.theirs y → IsPayable (start_msat_of (other h.side) h.terms) q p y.count x.count
their_payable h p q x y k a b =
    let m = ledger_paid h p q x y k a b in
    rw (count_is h.own x a, count_is h.theirs y b) at (payable (start_msat_of (other h.side) h.terms) q p _ _ (their_shared h p q x y k a b) m.theirs m.their_fits)

own_share : (h : Held) (p q : Pending) (x y : Part) → IsLedger h p q → IsPartAt h.own x → IsPartAt h.theirs y
    → share_at (start_msat_of h.side h.terms) p q x.count y.count ≡ share_of (start_msat_of h.side h.terms) (take x.count h.own.known) (take y.count h.theirs.known)
own_share h p q x y k a b =
    ap (λ n. share_at (start_msat_of h.side h.terms) p q n y.count) (sym (count_is h.own x a)) ∙ ap (share_at (start_msat_of h.side h.terms) p q (length (take x.count h.own.known))) (sym (count_is h.theirs y b))
    ∙ share_is (start_msat_of h.side h.terms) p q _ _ (own_shared h p q x y k a b)

their_share : (h : Held) (p q : Pending) (x y : Part) → IsLedger h p q → IsPartAt h.own x → IsPartAt h.theirs y
    → share_at (start_msat_of (other h.side) h.terms) q p y.count x.count ≡ share_of (start_msat_of (other h.side) h.terms) (take y.count h.theirs.known) (take x.count h.own.known)
their_share h p q x y k a b =
    ap (λ n. share_at (start_msat_of (other h.side) h.terms) q p n x.count) (sym (count_is h.theirs y b)) ∙ ap (share_at (start_msat_of (other h.side) h.terms) q p (length (take y.count h.theirs.known))) (sym (count_is h.own x a))
    ∙ share_is (start_msat_of (other h.side) h.terms) q p _ _ (their_shared h p q x y k a b)

view_is : (terms : Terms) (side : Side) (a b : List Update)
    → view_from side (share_of (start_msat_of side terms) a b) (share_of (start_msat_of (other side) terms) b a) (feerate_per_kw_at side terms.opener terms.feerate_per_kw (newest_feerate_per_kw a) (newest_feerate_per_kw b)) ≡ view_by terms side a b
view_is terms A a b = ap (λ (r : ℕ). record { a = share_of terms.a.start_msat a b; b = share_of terms.b.start_msat b a; feerate_per_kw = r }) (by terms.opener)
  where
    by : (opener : Side) → feerate_per_kw_at A opener terms.feerate_per_kw (newest_feerate_per_kw a) (newest_feerate_per_kw b) ≡ feerate_per_kw_of opener terms.feerate_per_kw a b
    by A = refl
    by B = refl
view_is terms B a b = ap (λ (r : ℕ). record { a = share_of terms.a.start_msat b a; b = share_of terms.b.start_msat a b; feerate_per_kw = r }) (by terms.opener)
  where
    by : (opener : Side) → feerate_per_kw_at B opener terms.feerate_per_kw (newest_feerate_per_kw a) (newest_feerate_per_kw b) ≡ feerate_per_kw_of opener terms.feerate_per_kw b a
    by A = refl
    by B = refl

-- the view of two parts, by the shares and the newest fees
pub ledger_view : (h : Held) (p q : Pending) (x y : Part) → IsLedger h p q → IsPartAt h.own x → IsPartAt h.theirs y
    → view_from h.side (share_at (start_msat_of h.side h.terms) p q x.count y.count) (share_at (start_msat_of (other h.side) h.terms) q p y.count x.count) (feerate_per_kw_at h.side h.terms.opener h.terms.feerate_per_kw x.feerate_per_kw y.feerate_per_kw)
    ≡ view_by h.terms h.side (take x.count h.own.known) (take y.count h.theirs.known)
ledger_view h p q x y k a b =
    ap (λ s. view_from h.side s (share_at (start_msat_of (other h.side) h.terms) q p y.count x.count) (feerate_per_kw_at h.side h.terms.opener h.terms.feerate_per_kw x.feerate_per_kw y.feerate_per_kw)) (own_share h p q x y k a b)
    ∙ ap (λ s. view_from h.side (share_of (start_msat_of h.side h.terms) (take x.count h.own.known) (take y.count h.theirs.known)) s (feerate_per_kw_at h.side h.terms.opener h.terms.feerate_per_kw x.feerate_per_kw y.feerate_per_kw)) (their_share h p q x y k a b)
    ∙ ap (λ f. view_from h.side (share_of (start_msat_of h.side h.terms) (take x.count h.own.known) (take y.count h.theirs.known)) (share_of (start_msat_of (other h.side) h.terms) (take y.count h.theirs.known) (take x.count h.own.known)) (feerate_per_kw_at h.side h.terms.opener h.terms.feerate_per_kw f y.feerate_per_kw)) a.kept.feerate_per_kw
    ∙ ap (λ f. view_from h.side (share_of (start_msat_of h.side h.terms) (take x.count h.own.known) (take y.count h.theirs.known)) (share_of (start_msat_of (other h.side) h.terms) (take y.count h.theirs.known) (take x.count h.own.known)) (feerate_per_kw_at h.side h.terms.opener h.terms.feerate_per_kw (newest_feerate_per_kw (take x.count h.own.known)) f)) b.kept.feerate_per_kw
    ∙ view_is h.terms h.side (take x.count h.own.known) (take y.count h.theirs.known)

-- a part that a list gives is such a part
pub part_at : (s : Stages) (x : Part) (us : List Update) → Counts x us → IsPart s us → IsPartAt s x
part_at s x us c p =
    let e = part_is x us s.known c p.is_known in
    record {
      kept = record { within = few; feerate_per_kw = c.feerate_per_kw ∙ ap newest_feerate_per_kw (sym e) };
      held = rw e p;
    }
  where
    few : x.count ≤ length s.known
    few =
        let a = c.count in
        let b : length s.known ≡ length us + length p.is_known.0 = ap length (sym p.is_known.1) ∙ length-append us p.is_known.0 in
        omega (arith, a, b)

-- a commitment may hold what has come to a stage
pub part_may : (stage : Stage) (s : Stages) → InOrder s → IsPart s (part_of stage s)
part_may Known s o = record { holds_settled = settled_known s o; is_known = begins s.known }
part_may WithReceiver s o = record { holds_settled = settled_receiver s o; is_known = o.receiver }
part_may PastReceiver s o = record { holds_settled = settled_past s o; is_known = past_known s o }
part_may WithSender s o = record { holds_settled = o.settled; is_known = sender_known s o }

-- the view of counted parts is that of their lists
pub view_at : {E : Type 0} (r : Result View E) (h : Held) (x y : Part) (a b : List Update) → Counts x a → Counts y b → IsPart h.own a → IsPart h.theirs b
    → IfOk r (λ v. v ≡ view_in h (take x.count h.own.known) (take y.count h.theirs.known)) → IfOk r (λ v. v ≡ view_in h a b)
view_at (Ok v) h x y a b c d m n e = e ∙ ap (λ us. view_in h us (take y.count h.theirs.known)) (part_is x a h.own.known c m.is_known) ∙ ap (view_in h a) (part_is y b h.theirs.known d n.is_known)
view_at (Err e) h x y a b c d m n u = tt
