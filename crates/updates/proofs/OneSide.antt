-- What stays true of one side's state, whatever its peer sends.
use Rattle.std.proofs.Common.{◌≡◌, ℕ, ◌≤◌, List, [], ◌∷◌, length, IsTrue, refl, arith, None}
use Rattle.updates.specs.declared.changes.Update.{Update}
use Rattle.terms.specs.declared.sides.Side.{Side}
use Rattle.terms.specs.declared.agreement.Terms.{Terms}
use Rattle.terms.specs.declared.sides.Side.TheVariants.{A, B}
use Rattle.terms.specs.Sides.{other}
use Rattle.updates.specs.declared.limits.TheConstants.{MAX_HTLCS}
use Rattle.updates.specs.Updates.{live}
use Rattle.updates.specs.Views.{IsCovered, IsSoundBy, start_msat_of, expire_at_heights}
use Rattle.updates.specs.Stages.{none_yet, with_update, to_receiver, by_receiver, to_sender, by_sender}
use Rattle.updates.specs.Refusals.{first_refusal, update_tests}
use Rattle.updates.proofs.Sums.{begins}
use Rattle.updates.proofs.Accepting.{all_pass}
use Rattle.updates.proofs.Funds.{order_made, order_to_receiver, order_by_receiver, order_to_sender, order_by_sender, fair_on, fair_made, settled_past, covered_view, few_in_view, heights_in_view, sound_view}
use Rattle.updates.specs.Steady.{Held, InOrder, IsFair, IsPart, IsSteady, holding_none, holding_made, holding_signed, holding_update, holding_signature, holding_revocation}

none_in_order : InOrder none_yet
none_in_order = record { settled = begins []; sender = begins []; past = begins []; receiver = begins [] }

none_fair : (start_msat : ℕ) → IsFair start_msat none_yet none_yet
none_fair start_msat = record { numbered = tt; removes = λ id h. refl; covered = omega arith; few = omega arith; heights = refl }

pub steady_none : (terms : Terms) (side : Side) → IsSteady (holding_none terms side)
steady_none terms side = record { own = none_in_order; theirs = none_in_order; own_revoked = refl; theirs_revoked = refl; own_fair = none_fair _; their_fair = none_fair _ }

pub steady_made : (h : Held) (u : Update) → first_refusal (update_tests h.terms h.side h.own h.theirs u) ≡ None → IsSteady h → IsSteady (holding_made u h)
steady_made h u e k = record {
  own = order_made u h.own k.own;
  theirs = k.theirs;
  own_revoked = k.own_revoked;
  theirs_revoked = k.theirs_revoked;
  own_fair = fair_made h.terms h.side h.own h.theirs u k.theirs k.their_fair.numbered (all_pass _ e) k.own_fair;
  their_fair = fair_on _ h.theirs h.own h.theirs (with_update u h.own) k.their_fair refl (begins _) (u ∷ [], refl) (begins _);
}

pub steady_signed : (h : Held) → IsSteady h → IsSteady (holding_signed h)
steady_signed h k = record {
  own = order_to_receiver h.own k.own;
  theirs = order_to_sender h.theirs k.theirs;
  own_revoked = k.own_revoked;
  theirs_revoked = k.theirs_revoked;
  own_fair = fair_on _ h.own h.theirs (to_receiver h.own) (to_sender h.theirs) k.own_fair refl (begins _) (begins _) (begins _);
  their_fair = fair_on _ h.theirs h.own (to_sender h.theirs) (to_receiver h.own) k.their_fair refl (begins _) (begins _) (begins _);
}

pub steady_update : (h : Held) (u : Update) → first_refusal (update_tests h.terms (other h.side) h.theirs h.own u) ≡ None → IsSteady h → IsSteady (holding_update u h)
steady_update h u e k = record {
  own = k.own;
  theirs = order_made u h.theirs k.theirs;
  own_revoked = k.own_revoked;
  theirs_revoked = k.theirs_revoked;
  own_fair = fair_on _ h.own h.theirs h.own (with_update u h.theirs) k.own_fair refl (begins _) (u ∷ [], refl) (begins _);
  their_fair = fair_made h.terms (other h.side) h.theirs h.own u k.own k.own_fair.numbered (all_pass _ e) k.their_fair;
}

pub steady_signature : (h : Held) → IsSteady h → IsSteady (holding_signature h)
steady_signature h k = record {
  own = order_by_sender _ (order_to_sender h.own k.own);
  theirs = order_by_receiver _ (order_to_receiver h.theirs k.theirs);
  own_revoked = refl;
  theirs_revoked = refl;
  own_fair = fair_on _ h.own h.theirs (by_sender (to_sender h.own)) (by_receiver (to_receiver h.theirs)) k.own_fair refl (settled_past h.own k.own) (begins _) (begins _);
  their_fair = fair_on _ h.theirs h.own (by_receiver (to_receiver h.theirs)) (by_sender (to_sender h.own)) k.their_fair refl (begins _) (begins _) (settled_past h.own k.own);
}

pub steady_revocation : (h : Held) → IsSteady h → IsSteady (holding_revocation h)
steady_revocation h k = record {
  own = order_by_receiver h.own k.own;
  theirs = order_by_sender h.theirs k.theirs;
  own_revoked = k.own_revoked;
  theirs_revoked = k.theirs_revoked;
  own_fair = fair_on _ h.own h.theirs (by_receiver h.own) (by_sender h.theirs) k.own_fair refl (begins _) (begins _) k.theirs.settled;
  their_fair = fair_on _ h.theirs h.own (by_sender h.theirs) (by_receiver h.own) k.their_fair refl k.theirs.settled (begins _) (begins _);
}

-- every view of one's own list and the other's between what is settled and what is known is sound
pub sound_at : (h : Held) (p q : List Update) → IsSteady h → IsPart h.own p → IsPart h.theirs q → IsSoundBy h.terms h.side p q
sound_at h p q k op tq =
    by h.side (covered_view _ h.own h.theirs p q k.own k.theirs k.own_fair k.their_fair.numbered op tq)
    (covered_view _ h.theirs h.own q p k.theirs k.own k.their_fair k.own_fair.numbered tq op)
    (few_in_view _ h.own h.theirs p q k.own_fair op tq) (few_in_view _ h.theirs h.own q p k.their_fair tq op)
    (heights_in_view _ h.own h.theirs p q k.own_fair op) (heights_in_view _ h.theirs h.own q p k.their_fair tq)
  where
    by : (side : Side) → IsCovered (start_msat_of side h.terms) p q → IsCovered (start_msat_of (other side) h.terms) q p → length (live p q) ≤ MAX_HTLCS → length (live q p) ≤ MAX_HTLCS
        → IsTrue (expire_at_heights (live p q)) → IsTrue (expire_at_heights (live q p)) → IsSoundBy h.terms side p q
    by A c d m n x y = sound_view h.terms p q c d m n x y
    by B c d m n x y = sound_view h.terms q p d c n m y x
