use Rattle.std.proofs.Common.{List, Option, refl, sym, ◌∙◌, subst}
use Rattle.std.proofs.lemmas.Result.{err_from_is_err_and}
use Rattle.std.specs.Prelude.{slice_get}
use Rattle.book.specs.declared.calls.Entry.{Entry}
use Rattle.book.specs.declared.errors.KnowError.TheVariants.{NoMemory}
use Rattle.book.specs.Books.{ChannelBook, is_kept, replay}
use Rattle.book.specs.Knowing.{IsKnownOf, IsKnownIn, IsKnowRefusal}
use Rattle.book.proofs.Fundings.{stands}
use Rattle.book.proofs.Fulfilled.{of_channel}
use Rattle.book.proofs.history.Book.known.Goals as goal

pub returns-clause-known : goal.returns-clause-known
returns-clause-known c =
    let i = c.self.inside in
    let ch = c.index-open.result.now in
    let found = stands i.entries.items i.channels.entries c.self.invariant.left c.args.channel ch c.index-open.ensures in
    let preimages = c.in_ok-preimages.ensures.items ∙ c.of.ensures ∙ of_channel i.entries.items i.channels.entries _ c.self.invariant c.args.channel in
    let known = subst (λ ps. IsKnownOf ch.state (is_kept ch.kept) ps c.in_ok-known.field-0) preimages c.in_ok-known.ensures in
    let known_in = subst (λ (o : Option ChannelBook). IsKnownIn i.entries.items c.args.channel o c.in_ok-known.field-0) (sym found) known in
    subst (λ (h : List Entry). IsKnownIn h c.args.channel (slice_get (replay h) c.args.channel) c.in_ok-known.field-0) c.self.view_is known_in

pub returns-in_err-known-clause-err : goal.returns-in_err-known-clause-err
returns-in_err-known-clause-err c =
    let i = c.self.inside in
    let found = stands i.entries.items i.channels.entries c.self.invariant.left c.args.channel c.index-open.result.now c.index-open.ensures in
    let refused : IsKnowRefusal (slice_get (replay i.entries.items) c.args.channel) NoMemory = subst (λ (o : Option ChannelBook). IsKnowRefusal o NoMemory) (sym found) refl in
    let p = err_from_is_err_and c.from_residual-in_err-known.result c.from_residual-in_err-known.ensures.1 in
    rw (p.1, p.2) (subst (λ (h : List Entry). IsKnowRefusal (slice_get (replay h) c.args.channel) NoMemory) c.self.view_is refused)
