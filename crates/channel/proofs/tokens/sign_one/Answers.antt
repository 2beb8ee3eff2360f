use Rattle.std.proofs.Common.{◌≡◌, true, false}
use Rattle.channel.proofs.tokens.sign_one.Goals as goal

pub unreachable-requires : goal.unreachable-requires
unreachable-requires c = let h : false ≡ true = c.in-Err.ensures.ok.1 c.requires in cc
