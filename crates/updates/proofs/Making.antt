-- Whatever a side came to hold, its uncommitted updates could be made again.
use Rattle.std.proofs.Common.{◌≡◌, ◌++◌}
use Rattle.updates.specs.Stages.{uncommitted}
use Rattle.updates.specs.Steady.{Held, IsSteady}
use Rattle.updates.specs.Remade.{IsHolding, nothing, made, signed, updated, answered, acknowledged, cut_off, CanRemake, UncommittedAreRemade}
use Rattle.updates.proofs.OneSide.{steady_none, steady_made, steady_signed, steady_update, steady_signature, steady_revocation}
use Rattle.updates.proofs.Committed.{steady_committed}
use Rattle.updates.proofs.Remaking.{whole_is, remakes_none, remakes_made, remakes_signed, remakes_update, remakes_signature, remakes_revocation, remakes_committed}

pub held_steady : (h : Held) → IsHolding h → IsSteady h
held_steady h (nothing terms side) = steady_none terms side
held_steady h (made {h = g} u e l) = steady_made g u e (held_steady g l)
held_steady h (signed {h = g} l) = steady_signed g (held_steady g l)
held_steady h (updated {h = g} u e l) = steady_update g u e (held_steady g l)
held_steady h (answered {h = g} l) = steady_signature g (held_steady g l)
held_steady h (acknowledged {h = g} l) = steady_revocation g (held_steady g l)
held_steady h (cut_off {h = g} l) = steady_committed g (held_steady g l)

pub remade : UncommittedAreRemade
remade h (nothing terms side) = remakes_none terms side
remade h (made {h = g} u e l) = remakes_made g u (held_steady g l) e (remade g l)
remade h (signed {h = g} l) = remakes_signed g
remade h (updated {h = g} u e l) = remakes_update g u (remade g l)
remade h (answered {h = g} l) = remakes_signature g (held_steady g l) (remade g l)
remade h (acknowledged {h = g} l) = remakes_revocation g (held_steady g l) (remade g l)
remade h (cut_off {h = g} l) = remakes_committed g

-- what is committed, and then what is not, is all that is known
pub held_whole : (h : Held) → IsHolding h → h.own.with_receiver ++ uncommitted h.own ≡ h.own.known
held_whole h l = whole_is h.own (held_steady h l).own
