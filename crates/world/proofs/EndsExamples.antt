-- A channel just after it was opened: the two sides hold its two ends.
use Rattle.std.proofs.Common.{ℕ, List, [], ◌∷◌, None, refl}
use Rattle.terms.specs.declared.sides.Side.TheVariants.{A}
use Rattle.terms.specs.declared.agreement.Terms.{Terms}
use Rattle.channel.specs.Peers.{opened_both, at_opening}
use Rattle.channel.specs.Recording.{SidesNumber}
use Rattle.channel.specs.Agreeing.{PeersAgree}
use Rattle.book.specs.Books.{ChannelBook}
use Rattle.world.specs.Pairing.{ArePaired, AreEnds}
use Rattle.world.proofs.Ends.{ends_at}

module _ (terms : Terms) (seed_a seed_b : List ℕ) where
  abbrev of_a : ChannelBook
  of_a = record { state = (opened_both terms seed_a seed_b).a; kept = []; closed = None }

  abbrev of_b : ChannelBook
  of_b = record { state = (opened_both terms seed_a seed_b).b; kept = []; closed = None }

  paired : ArePaired A (of_a ∷ []) (of_b ∷ []) ([] ∷ []) ([] ∷ [])
  paired = (record { terms = terms; seed_a = seed_a; seed_b = seed_b; reached = at_opening }, tt)

  ends : PeersAgree → SidesNumber → AreEnds of_a.state of_b.state
  ends agrees numbers = ends_at agrees numbers 0 (of_a ∷ []) (of_b ∷ []) ([] ∷ []) ([] ∷ []) of_a of_b paired refl refl
