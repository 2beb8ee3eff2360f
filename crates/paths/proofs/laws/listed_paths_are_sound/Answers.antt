use Rattle.paths.proofs.SoundWalk.{listing-sound}
use Rattle.paths.proofs.laws.listed_paths_are_sound.Goals as goal

pub returns : goal.returns
returns c = listing-sound
