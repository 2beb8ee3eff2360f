use Rattle.std.proofs.Common.{◌≡◌, List, map, ap, ◌∙◌}
use Rattle.std.proofs.lemmas.Result.{IfOk-weaker}
use Rattle.keys.specs.declared.compressed.Key.{Key}
use Rattle.book.specs.Books.{replay, fundings_of}
use Rattle.running.specs.Threads.{payments_in}
use Rattle.running.proofs.beginning.open_side.Goals as goal

pub returns-clause-fundings : goal.returns-clause-fundings
returns-clause-fundings g c =
    IfOk-weaker c.open_with.result (λ o. o.side.fundings.items ≡ c.in_ok-told.told.fundings.items) (λ o. o.side.fundings.items ≡ fundings_of (replay c.args.book))
    (λ o is. is ∙ c.in_ok-told.ensures.fundings) c.open_with.ensures.fundings

pub returns-clause-payments : goal.returns-clause-payments
returns-clause-payments g c =
    IfOk-weaker c.open_with.result (λ o. o.side.payments.items ≡ c.in_ok-told.told.payments.items) (λ o. map (λ k. k.bytes) o.side.payments.items ≡ payments_in (replay c.args.book))
    (λ o is. ap (λ (ks : List Key). map (λ k. k.bytes) ks) is ∙ c.in_ok-told.ensures.payments) c.open_with.ensures.payments
