use Rattle.std.proofs.Common.{◌≡◌, ◌++◌, map, drop}
use Rattle.script.specs.Token.{token_of}
use Rattle.channel.proofs.tokens.sign_all.Given as goal

abbrev pub invariant-loop-digest : goal.invariant-loop-digest
invariant-loop-digest l = l.tokens.items ++ map (token_of l.key.bytes) (drop l.digest-index l.digests) ≡ map (token_of l.key.bytes) l.digests
