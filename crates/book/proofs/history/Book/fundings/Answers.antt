use Rattle.std.proofs.Common.{◌≡◌, List, ◌∙◌, subst}
use Rattle.std.specs.Prelude.{IfOk}
use Rattle.tx.specs.declared.input.OutPoint.{OutPoint}
use Rattle.book.specs.declared.calls.Entry.{Entry}
use Rattle.book.specs.Books.{replay, fundings_of}
use Rattle.book.proofs.Fundings.{fundings_are}
use Rattle.book.proofs.history.Book.fundings.Goals as goal

pub returns : goal.returns
returns c =
    let i = c.self.inside in
    let keys = fundings_are i.entries.items i.channels.entries c.self.invariant.left c.as_slice.result.now (c.as_slice.ensures ∙ c.keys.ensures.rest) in
    let given = subst (λ (os : List OutPoint). IfOk c.from_slice.result (λ v. v.items ≡ os)) keys c.from_slice.ensures.items in
    subst (λ (h : List Entry). IfOk c.from_slice.result (λ v. v.items ≡ fundings_of (replay h))) c.self.view_is given
