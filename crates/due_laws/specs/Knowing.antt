-- What a node knows of a channel, as its book tells it.
use Rattle.std.specs.Prelude.{◌≡◌, ℕ, Bool, length}
use Rattle.std.specs.List.{AllByRecursion}
use Rattle.resolve.specs.declared.known.Known.{Known}
use Rattle.resolve.specs.Numbered.{AreNumbered}
use Rattle.book.specs.Knowing.{IsKnownOf}
use Rattle.safety.specs.Holdings.{Holding}

-- What is known is what the channel's state says, whichever preimages came. Of values it says what their types say: the i-th revoked commitment has number i, and a preimage has 32 bytes
pub record IsKnownTo (h : Holding) (known : Known) : Type 0 where
  pub kept : ℕ → Bool
  pub is : IsKnownOf h.state kept known.preimages known
  pub numbered : AreNumbered known.revoked
  pub preimages : AllByRecursion (λ x. length x ≡ 32) known.preimages
