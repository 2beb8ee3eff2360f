use Rattle.std.proofs.Common.{◌≡◌, None, subst}
use Rattle.std.specs.Prelude.{MatchResult}
use Rattle.book.specs.Books.{ChannelBook}
use Rattle.channel.specs.Rights.{rights_of}
use Rattle.book.specs.Signers.{fill_refusal}
use Rattle.book.specs.Calling.{IsFillRefusal}
use Rattle.book.proofs.Released.{tested_by, filled_by}
use Rattle.book.proofs.open_channel.OpenChannel.release.Goals as goal

pub returns-clause-ok : goal.returns-clause-ok
returns-clause-ok c = filled_by c.args.batch.now c.signer.result.now c.filled.result c.filled.ensures.by_signer

pub returns-clause-tested : goal.returns-clause-tested
returns-clause-tested c =
    let b = c.args.batch.now in
    subst (λ (ch : ChannelBook). MatchResult c.filled.result (λ f. fill_refusal b.claims b.outputs (rights_of ch.state) b.preimages ≡ None) (IsFillRefusal (fill_refusal b.claims b.outputs (rights_of ch.state) b.preimages)))
    c.self.view_is (tested_by b c.signer.result.now (rights_of c.self.inside.channel) c.filled.result c.signer.ensures.rights c.filled.ensures.by_signer)
