use Rattle.std.proofs.Common.{refl}
use Rattle.std.proofs.lemmas.Bool.{false≢true}
use Rattle.script.specs.Token.{token_of}
use Rattle.resolve.proofs.TokenLists.{next, ends, differs}
use Rattle.resolve.proofs.tokens.are_tokens.Goals as goal

pub loop-i-init : goal.loop-i-init
loop-i-init c = λ e. e

pub returns-then-ne : goal.returns-then-ne
returns-then-ne c = (
  λ t. absurd (false≢true t),
  λ e.
      absurd (differs (token_of c.args.key.now.bytes) c.args.tokens.now c.args.digests.now c.loop-i.i c.index-tokens-i.result c.new.result c.loop-i-test.true c.if-tokens-digests.false
      c.index-tokens-i.is c.new.ensures c.if-ne.ensures e),
)

pub loop-i-preserved : goal.loop-i-preserved
loop-i-preserved c =
    next (token_of c.args.key.now.bytes) c.args.tokens.now c.args.digests.now c.loop-i.i c.index-tokens-i.result c.new.result c.loop-i-test.true c.if-tokens-digests.false c.index-tokens-i.is
    c.new.ensures c.if-ne.ensures c.loop-i.invariant

pub returns : goal.returns
returns c = (
  λ t. ends (token_of c.args.key.now.bytes) c.args.tokens.now c.args.digests.now c.loop-i.i c.loop-i-test.false c.if-tokens-digests.false c.loop-i.invariant,
  λ e. refl,
)
