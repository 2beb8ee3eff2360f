-- What each channel of a history has.
use Rattle.std.proofs.Common.{reverse}
use Rattle.book.specs.Books.{replay}
use Rattle.book.specs.Lived.{ChannelsAreLived, BasesAreOwn}
use Rattle.book.proofs.Accepted.{accepted_means}
use Rattle.book.proofs.KeptReleases.{all_at, OwnsBases, all_own}
use Rattle.book.proofs.KeptSets.{Lives, all_live}

pub channels_are_lived : ChannelsAreLived
channels_are_lived tokens_of history c ch called there = all_at (Lives tokens_of) (replay history) c ch (all_live tokens_of (reverse history) ((accepted_means.accepted_exactly tokens_of history).0 called)) there

pub bases_are_own : BasesAreOwn
bases_are_own history c ch there = all_at OwnsBases (replay history) c ch (all_own (reverse history)) there
