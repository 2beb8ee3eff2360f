-- What a ledger keeps true lasts as the uncommitted updates of both sides are forgotten.
use Rattle.std.proofs.Common.{◌≡◌, ℕ, suc, ◌+◌, ◌*◌, ◌^◌, ◌≤◌, List, [], ◌∷◌, ◌++◌, length, IsTrue, sym, ap, ◌∙◌, refl, arith, length-append}
use Rattle.std.proofs.lemmas.Bool.{and_parts}
use Rattle.terms.specs.declared.htlcs.Htlc.{Htlc}
use Rattle.updates.specs.declared.changes.Update.{Update}
use Rattle.updates.specs.declared.fates.Fate.TheVariants.{Live}
use Rattle.updates.specs.declared.pending.Pending.{Pending}
use Rattle.updates.specs.Updates.{fate, offers, total, one_if_live, spent_msat, gained_msat, live_count}
use Rattle.updates.specs.Views.{expire_at_heights}
use Rattle.updates.specs.Stages.{Stages, committed}
use Rattle.updates.specs.Pending.{pending_htlcs, left_at, IsBounded, IsKept}
use Rattle.updates.specs.Steady.{Held, IsSteady, IsLedger, InOrder, IsBeginning, IsFair, Numbered, RemovesBelow, holding_committed}
use Rattle.updates.proofs.Sums.{begins, offers-append, spent_of_fewer, gained_of_more, live_count-append, live_count_of_fewer}
use Rattle.updates.proofs.Numbering.{numbered_start, numbered_rest, removes_below-more, gained_settled}
use Rattle.updates.proofs.Funds.{settled_known, settled_receiver, removes_below_start, heights_append}
use Rattle.updates.proofs.Keeping.{length_pending}
use Rattle.updates.proofs.Cutting.{left_in_part}

pub order_committed : (s : Stages) → InOrder s → InOrder (committed s)
order_committed s o = record { settled = o.settled; sender = o.sender; past = o.past; receiver = begins s.with_receiver }

-- the offers of a part are the first ones
offers_start : (part whole : List Update) (b : IsBeginning part whole) → offers whole ≡ offers part ++ offers b.0
offers_start part whole b = ap offers (sym b.1) ∙ offers-append part b.0

numbered_part : (part whole : List Update) → IsBeginning part whole → Numbered 0 (offers whole) → Numbered 0 (offers part)
numbered_part part whole b n = numbered_start 0 (offers part) (offers b.0) (rw (offers_start part whole b) at n)

removes_part : (n : ℕ) (part whole : List Update) → IsBeginning part whole → RemovesBelow n whole → RemovesBelow n part
removes_part n part whole b r = let r' : RemovesBelow n (part ++ b.0) = rw b.1 r in removes_below_start n part b.0 r'

-- fulfilments that passed all stages brought nothing beyond what is committed
pub gained_committed : (s o : Stages) → InOrder s → InOrder o → Numbered 0 (offers o.known) → RemovesBelow (length (offers o.settled)) s.known
    → gained_msat s.settled o.known ≡ gained_msat s.settled o.with_receiver
gained_committed s o so oo n r =
    let below = removes_part _ s.settled s.known (settled_known s so) r in
    gained_settled s.settled o.settled o.known (settled_known o oo) n below
    ∙ sym (gained_settled s.settled o.settled o.with_receiver (settled_receiver o oo) (numbered_part o.with_receiver o.known oo.receiver n) below)

pub fair_committed : (start_msat : ℕ) (s o : Stages) → InOrder s → InOrder o → Numbered 0 (offers o.known) → IsFair start_msat s o → IsFair start_msat (committed s) (committed o)
fair_committed start_msat s o so oo n f =
    let out = spent_of_fewer s.with_receiver s.known o.settled so.receiver in
    let come = gained_committed s o so oo n f.removes in
    let had = f.covered in
    let few = f.few in
    let live = live_count_of_fewer s.with_receiver s.known o.settled so.receiver in
    let b = so.receiver in
    let both = sym (heights_append s.with_receiver b.0) ∙ ap (λ l. expire_at_heights (offers l)) b.1 ∙ f.heights in
    record {
      numbered = numbered_part s.with_receiver s.known so.receiver f.numbered;
      removes = removes_part _ s.with_receiver s.known so.receiver f.removes;
      covered = omega (arith, out, come, had);
      few = omega (arith, live, few);
      heights = (and_parts (expire_at_heights (offers s.with_receiver)) (expire_at_heights (offers b.0)) both).0;
    }

pub steady_committed : (h : Held) → IsSteady h → IsSteady (holding_committed h)
steady_committed h k = record {
  own = order_committed h.own k.own;
  theirs = order_committed h.theirs k.theirs;
  own_revoked = k.own_revoked;
  theirs_revoked = k.theirs_revoked;
  own_fair = fair_committed _ h.own h.theirs k.own k.theirs k.their_fair.numbered k.own_fair;
  their_fair = fair_committed _ h.theirs h.own k.theirs k.own k.own_fair.numbered k.their_fair;
}

-- HTLCs from number n on are live, where nobody removes one of these
all_live : (n : ℕ) (os : List Htlc) (us : List Update) → RemovesBelow n us → Numbered n os → total one_if_live os us ≡ length os
all_live n [] us r m = refl
all_live n (o ∷ os) us r m =
    let e : fate o.id us ≡ Live = r o.id (let h = m.0 in omega (arith, h)) in
    let g : one_if_live (fate o.id us) o.amount_msat ≡ 1 = ap (λ f. one_if_live f o.amount_msat) e in
    let h = all_live (suc n) os us (removes_below-more n (suc n) us (omega arith) r) m.1 in
    omega (arith, g, h)

pub kept_committed : (start_msat begin : ℕ) (p q : Pending) (s o : Stages) (added removed : ℕ) → InOrder s → InOrder o → IsFair start_msat s o → IsFair begin o s → IsKept p s o
    → added ≡ length s.with_receiver → removed ≡ length o.with_receiver → q.htlcs.items ≡ left_at added removed p.htlcs.items
    → q.offered + length p.htlcs.items ≡ p.offered + length q.htlcs.items → q.fulfilled ≡ p.fulfilled → IsKept q (committed s) (committed o)
kept_committed start_msat begin p q s o added removed so oo f g k a d htlcs offered fulfilled =
    let b = so.receiver in
    let is : q.htlcs.items ≡ pending_htlcs 0 s.with_receiver o.with_receiver o.settled =
    htlcs ∙ ap (left_at added removed) k.htlcs ∙ ap (λ n. left_at n removed (pending_htlcs 0 s.known o.known o.settled)) a
    ∙ ap (λ n. left_at (length s.with_receiver) n (pending_htlcs 0 s.known o.known o.settled)) d
    ∙ left_in_part s.with_receiver s.known o.with_receiver o.known o.settled b oo.receiver
    in
    let before : length p.htlcs.items ≡ live_count s.known o.settled = ap length k.htlcs ∙ length_pending 0 s.known o.known o.settled in
    let after : length q.htlcs.items ≡ live_count s.with_receiver o.settled = ap length is ∙ length_pending 0 s.with_receiver o.with_receiver o.settled in
    let parts : live_count s.known o.settled ≡ live_count s.with_receiver o.settled + live_count b.0 o.settled = ap (λ l. live_count l o.settled) (sym b.1) ∙ live_count-append s.with_receiver b.0 o.settled in
    let numbers : Numbered 0 (offers s.with_receiver ++ offers b.0) = rw (offers_start s.with_receiver s.known b) at f.numbered in
    let from_zero : 0 + length (offers s.with_receiver) ≡ length (offers s.with_receiver) = omega arith in
    let later : Numbered (0 + length (offers s.with_receiver)) (offers b.0) = numbered_rest 0 (offers s.with_receiver) (offers b.0) numbers in
    let rest : Numbered (length (offers s.with_receiver)) (offers b.0) = rw from_zero at later in
    let few : length (offers s.settled) ≤ length (offers s.with_receiver) =
    (let c = settled_receiver s so in let e = ap length (offers_start s.settled s.with_receiver c) in let h = length-append (offers s.settled) (offers c.0) in omega (arith, e, h))
    in
    let removes : RemovesBelow (length (offers s.with_receiver)) o.settled = removes_below-more _ _ o.settled few (removes_part _ o.settled o.known (settled_known o oo) g.removes) in
    let live : live_count b.0 o.settled ≡ length (offers b.0) = all_live _ (offers b.0) o.settled removes rest in
    let count : p.offered ≡ length (offers s.with_receiver) + length (offers b.0) = k.offered ∙ ap length (offers_start s.with_receiver s.known b) ∙ length-append (offers s.with_receiver) (offers b.0) in
    let bound = k.bound in
    record {
      offered = omega (arith, offered, before, after, parts, live, count);
      fulfilled = fulfilled ∙ k.fulfilled ∙ gained_committed o s oo so f.numbered g.removes;
      htlcs = is;
      bound = omega (arith, offered, fulfilled, bound);
    }

pub ledger_committed : (h : Held) (p q p' q' : Pending) (own theirs : ℕ) → IsLedger h p q → own ≡ length h.own.with_receiver → theirs ≡ length h.theirs.with_receiver
    → p'.htlcs.items ≡ left_at own theirs p.htlcs.items → p'.offered + length p.htlcs.items ≡ p.offered + length p'.htlcs.items → p'.fulfilled ≡ p.fulfilled
    → q'.htlcs.items ≡ left_at theirs own q.htlcs.items → q'.offered + length q.htlcs.items ≡ q.offered + length q'.htlcs.items → q'.fulfilled ≡ q.fulfilled
    → IsLedger (holding_committed h) p' q'
ledger_committed h p q p' q' own theirs k a b c d e f g i = record {
  steady = steady_committed h k.steady;
  own_kept = kept_committed _ _ p p' h.own h.theirs own theirs k.steady.own k.steady.theirs k.steady.own_fair k.steady.their_fair k.own_kept a b c d e;
  their_kept = kept_committed _ _ q q' h.theirs h.own theirs own k.steady.theirs k.steady.own k.steady.their_fair k.steady.own_fair k.their_kept b a f g i;
}
