use Rattle.std.proofs.Common.{◌≡◌, map, drop}
use Rattle.script.specs.Token.{token_of}
use Rattle.resolve.proofs.tokens.are_tokens.Given as goal

-- what is left decides
abbrev pub invariant-loop-i : goal.invariant-loop-i
invariant-loop-i l = drop l.i l.tokens ≡ map (token_of l.key.bytes) (drop l.i l.digests) → l.tokens ≡ map (token_of l.key.bytes) l.digests
