-- What two sides can agree on (BOLT 2, `open_channel`).
use Rattle.std.specs.Prelude.{◌≡◌, ℕ, ◌+◌, ◌*◌, ◌≤◌}
use Rattle.tx.specs.declared.limits.TheConstants.{MAX_VALUE}
use Rattle.tx.specs.declared.input.OutPoint.{OutPoint}
use Rattle.terms.specs.declared.amounts.TheConstants.{MSAT_PER_SAT}
use Rattle.terms.specs.declared.sides.Side.{Side}
use Rattle.terms.specs.declared.sides.Side.TheVariants.{A, B}
use Rattle.terms.specs.declared.agreement.Party.{Party}
use Rattle.terms.specs.declared.agreement.Terms.{Terms}

-- two sides can agree on this capacity in satoshis, with these starting balances in millisatoshis
pub record CanAgree (capacity_sat a b : ℕ) : Type 0 where
  pub limited : capacity_sat ≤ MAX_VALUE
  pub whole : a + b ≡ MSAT_PER_SAT * capacity_sat

-- the terms have these values
pub record HasFields (t : Terms) (funding : OutPoint) (capacity_sat : ℕ) (opener : Side) (feerate_per_kw : ℕ) (a b : Party) : Type 0 where
  pub funding_is : t.funding ≡ funding
  pub capacity_is : t.capacity_sat ≡ capacity_sat
  pub opener_is : t.opener ≡ opener
  pub feerate_is : t.feerate_per_kw ≡ feerate_per_kw
  pub a_is : t.a ≡ a
  pub b_is : t.b ≡ b

-- a side's part of the terms
abbrev pub party : Side → Terms → Party
party A t = t.a
party B t = t.b
