use Rattle.std.proofs.Common.{◌≡◌, Ok, subst}
use Rattle.paths.specs.Listing.{CheckedScript, listing}
use Rattle.paths.proofs.SoundWalk.{listing-sound}
use Rattle.paths.proofs.ForcedWalk.{listing-exhaustive}
use Rattle.paths.proofs.listing.Checked.paths.Goals as goal

pub returns-clause-sound : goal.returns-clause-sound
returns-clause-sound c = listing-sound c.args.self.now.ops c.args.self.now.paths (subst (λ (v : CheckedScript). listing v.ops ≡ Ok v.paths) c.self.view_is c.self.invariant)

pub returns-clause-exhaustive : goal.returns-clause-exhaustive
returns-clause-exhaustive c = listing-exhaustive c.args.self.now.ops c.args.self.now.paths (subst (λ (v : CheckedScript). listing v.ops ≡ Ok v.paths) c.self.view_is c.self.invariant)
