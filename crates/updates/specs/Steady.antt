-- What stays true of a side's two lists of updates, whatever its peer sends.
use Rattle.std.specs.Prelude.{◌≡◌, ℕ, suc, ◌+◌, ◌≤◌, List, [], ◌∷◌, ◌++◌, length, None, IsTrue}
use Rattle.updates.specs.declared.changes.Update.{Update}
use Rattle.terms.specs.declared.htlcs.Htlc.{Htlc}
use Rattle.terms.specs.declared.sides.Side.{Side}
use Rattle.terms.specs.declared.agreement.Terms.{Terms}
use Rattle.updates.specs.declared.fates.Fate.TheVariants.{Live}
use Rattle.updates.specs.declared.limits.TheConstants.{MAX_HTLCS}
use Rattle.updates.specs.Updates.{fate, offers, spent_msat, gained_msat, live_count}
use Rattle.terms.specs.Sides.{other}
use Rattle.updates.specs.declared.pending.Pending.{Pending}
use Rattle.updates.specs.Views.{start_msat_of, expire_at_heights}
use Rattle.updates.specs.Refusals.{Test, first_refusal, update_tests}
use Rattle.updates.specs.Pending.{IsKept}
use Rattle.updates.specs.Stages.{Stages, none_yet, with_update, to_receiver, by_receiver, to_sender, by_sender, committed}

-- one list is the beginning of another
abbrev pub IsBeginning : List Update → List Update → Type 0
IsBeginning xs ys = (rest : List Update) × (xs ++ rest ≡ ys)

-- each part is a beginning of the one before it
pub record InOrder (s : Stages) : Type 0 where
  pub settled : IsBeginning s.settled s.with_sender
  pub sender : IsBeginning s.with_sender s.past_receiver
  pub past : IsBeginning s.past_receiver s.with_receiver
  pub receiver : IsBeginning s.with_receiver s.known

-- the ids count up from k
abbrev pub Numbered : ℕ → List Htlc → Type 0
Numbered k [] = Unit {0}
Numbered k (o ∷ os) = (o.id ≡ k) × Numbered (suc k) os

-- updates that remove no HTLC from number n on
abbrev pub RemovesBelow : ℕ → List Update → Type 0
RemovesBelow n us = (id : ℕ) → n ≤ id → fate id us ≡ Live

-- the ids count up, only settled HTLCs are removed, the sender had what it spent, no more HTLCs are live than allowed, and each expires at a
-- height
pub record IsFair (start_msat : ℕ) (s o : Stages) : Type 0 where
  pub numbered : Numbered 0 (offers s.known)
  pub removes : RemovesBelow (length (offers o.settled)) s.known
  pub covered : spent_msat s.known o.settled ≤ start_msat + gained_msat s.settled o.known
  pub few : live_count s.known o.settled ≤ MAX_HTLCS
  pub heights : IsTrue (expire_at_heights (offers s.known))

-- a part of a list of updates that a commitment may hold: all that is settled is in it, and only what is known
pub record IsPart (s : Stages) (part : List Update) : Type 0 where
  pub holds_settled : IsBeginning s.settled part
  pub is_known : IsBeginning part s.known

-- what a side holds of a channel's updates
pub record Held : Type 0 where
  pub terms : Terms
  pub side : Side
  pub own : Stages
  pub theirs : Stages

pub record IsSteady (h : Held) : Type 0 where
  pub own : InOrder h.own
  pub theirs : InOrder h.theirs
  pub own_revoked : h.own.with_sender ≡ h.own.settled  -- a signature that comes is answered at once
  pub theirs_revoked : h.theirs.with_receiver ≡ h.theirs.past_receiver
  pub own_fair : IsFair (start_msat_of h.side h.terms) h.own h.theirs
  pub their_fair : IsFair (start_msat_of (other h.side) h.terms) h.theirs h.own

-- what calls and messages make of it: nothing yet; an update of one's own, a signature sent; an update received, a signature received and
-- answered by a revocation, a revocation received

abbrev pub holding_none : Terms → Side → Held
holding_none terms side = record { terms = terms; side = side; own = none_yet; theirs = none_yet }

abbrev pub holding_made : Update → Held → Held
holding_made u h = record h { own = with_update u h.own }

abbrev pub holding_signed : Held → Held
holding_signed h = record h { own = to_receiver h.own; theirs = to_sender h.theirs }

abbrev pub holding_update : Update → Held → Held
holding_update u h = record h { theirs = with_update u h.theirs }

abbrev pub holding_signature : Held → Held
holding_signature h =
    record h { own = by_sender (to_sender h.own); theirs = by_receiver (to_receiver h.theirs) }

abbrev pub holding_revocation : Held → Held
holding_revocation h = record h { own = by_receiver h.own; theirs = by_sender h.theirs }

-- what is left once the connection is cut: each side forgets the updates that no signature of their sender covers
abbrev pub holding_committed : Held → Held
holding_committed h = record h { own = committed h.own; theirs = committed h.theirs }

-- the HTLC that a side would offer next
abbrev pub next_htlc : Stages → ℕ → List ℕ → ℕ → Htlc
next_htlc own amount_msat hash expiry_height =
    record { id = length (offers own.known); amount_msat = amount_msat; hash = hash; expiry_height = expiry_height }

-- the tests of an update of one's own, and of the peer's
abbrev pub own_tests : Held → Update → List Test
own_tests h u = update_tests h.terms h.side h.own h.theirs u

abbrev pub their_tests : Held → Update → List Test
their_tests h u = update_tests h.terms (other h.side) h.theirs h.own u

-- what a ledger keeps true of its lists, and of the HTLCs that it keeps for each direction
pub record IsLedger (h : Held) (own theirs : Pending) : Type 0 where
  pub steady : IsSteady h
  pub own_kept : IsKept own h.own h.theirs
  pub their_kept : IsKept theirs h.theirs h.own

-- what the receiver of updates knows, compared with their sender: the same of the sender's updates, and at least as much of the other side's
pub record KnowsMore (sender others sender' others' : Stages) : Type 0 where
  pub known : sender'.known ≡ sender.known
  pub settled : sender'.settled ≡ sender.settled
  pub others_known : IsBeginning others.known others'.known
  pub others_settled : IsBeginning others.settled others'.settled

-- an update that passes its sender's tests passes its receiver's
abbrev pub ReceiversAccept : Type 0
ReceiversAccept =
    (terms : Terms) (by : Side) (sender others sender' others' : Stages) (u : Update) → KnowsMore sender others sender' others'
    → first_refusal (update_tests terms by sender others u) ≡ None → first_refusal (update_tests terms by sender' others' u) ≡ None
