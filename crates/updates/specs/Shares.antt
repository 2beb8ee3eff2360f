-- What a commitment gives to each side, by what is kept of the HTLCs.
use Rattle.std.specs.Prelude.{ℕ, ◌+◌, ◌-◌, ◌^◌, ◌≤◌, ◌<◌, if◌then◌else◌, take, List, [], ◌∷◌, Option, unwrap_or, MatchBool}
use Rattle.terms.specs.declared.htlcs.Htlc.{Htlc}
use Rattle.terms.specs.declared.sides.Side.{Side}
use Rattle.terms.specs.declared.sides.Side.TheVariants.{A, B}
use Rattle.terms.specs.declared.views.Share.{Share}
use Rattle.terms.specs.declared.views.View.{View}
use Rattle.updates.specs.declared.pending.Pending.{Pending}
use Rattle.updates.specs.declared.stages.Part.{Part}
use Rattle.updates.specs.declared.changes.Update.{Update}
use Rattle.updates.specs.Views.{view_by, IsSoundBy}
use Rattle.updates.specs.Stages.{Stages, IsPartOf}
use Rattle.updates.specs.Refusals.{is_side}
use Rattle.updates.specs.Pending.{live_at, fulfilled_at}
use Rattle.updates.specs.Steady.{Held, IsPart}

-- the sum of HTLCs in millisatoshis
abbrev pub amounts_msat : List Htlc → ℕ
amounts_msat [] = 0
amounts_msat (h ∷ hs) = h.amount_msat + amounts_msat hs

-- millisatoshis that went out of a balance, where the first `own` updates of the side and the first `theirs` of its peer count
abbrev pub out_at : Pending → ℕ → ℕ → ℕ
out_at htlcs own theirs = amounts_msat (live_at own theirs htlcs.htlcs.items) + (htlcs.fulfilled + fulfilled_at own theirs htlcs.htlcs.items)

-- millisatoshis that came in by the peer's HTLCs
abbrev pub in_at : Pending → ℕ → ℕ → ℕ
in_at peers own theirs = peers.fulfilled + fulfilled_at theirs own peers.htlcs.items

abbrev pub share_at : ℕ → Pending → Pending → ℕ → ℕ → Share
share_at start_msat htlcs peers own theirs = record { balance_msat = start_msat + in_at peers own theirs - out_at htlcs own theirs; offered = live_at own theirs htlcs.htlcs.items }

-- no balance is below 0, and none exceeds 64 bits
pub record IsPayable (start_msat : ℕ) (htlcs peers : Pending) (own theirs : ℕ) : Type 0 where
  pub covered : out_at htlcs own theirs ≤ start_msat + in_at peers own theirs
  pub fits : start_msat + in_at peers own theirs - out_at htlcs own theirs < 2 ^ 64

-- a part of the updates that a commitment may hold, kept as a count and its newest feerate
pub record IsPartAt (s : Stages) (part : Part) : Type 0 where
  pub kept : IsPartOf s.known part
  pub held : IsPart s (take part.count s.known)

-- the feerate by the opener's newest feerate; `feerate_per_kw` where it has none
abbrev pub feerate_per_kw_at : Side → Side → ℕ → Option ℕ → Option ℕ → ℕ
feerate_per_kw_at side opener feerate_per_kw own theirs = if is_side side opener then unwrap_or own feerate_per_kw else unwrap_or theirs feerate_per_kw

-- the view of this side's share and its peer's
abbrev pub view_from : Side → Share → Share → ℕ → View
view_from A mine peers feerate_per_kw = record { a = mine; b = peers; feerate_per_kw = feerate_per_kw }
view_from B mine peers feerate_per_kw = record { a = peers; b = mine; feerate_per_kw = feerate_per_kw }

-- the views of a ledger: of the parts that a commitment holds
abbrev pub view_in : Held → List Update → List Update → View
view_in h own theirs = view_by h.terms h.side own theirs

-- the view is sound
abbrev pub IsSoundIn : Held → List Update → List Update → Type 0
IsSoundIn h own theirs = IsSoundBy h.terms h.side own theirs

-- the view of a side's newest commitment: the owner's updates that its peer's revocation acknowledged and its peer then signed for, and the peer's
-- updates that the peer's signature covered
abbrev pub newest_view : Held → Side → View
newest_view h owner = if is_side owner h.side then view_in h h.own.with_sender h.theirs.with_receiver else view_in h h.own.with_receiver h.theirs.with_sender

abbrev pub IsNewestSound : Held → Side → Type 0
IsNewestSound h owner = MatchBool (is_side owner h.side) (IsSoundIn h h.own.with_sender h.theirs.with_receiver) (IsSoundIn h h.own.with_receiver h.theirs.with_sender)
