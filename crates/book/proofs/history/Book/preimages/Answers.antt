use Rattle.std.proofs.Common.{ap, ◌∙◌}
use Rattle.book.specs.Knowing.{preimages_in}
use Rattle.book.proofs.Fulfilled.{of_channel}
use Rattle.book.proofs.history.Book.preimages.Goals as goal

pub returns : goal.returns
returns c =
    let i = c.self.inside in
    c.of.ensures ∙ of_channel i.entries.items i.channels.entries _ c.self.invariant c.args.channel ∙ ap (preimages_in c.args.channel) c.self.view_is
