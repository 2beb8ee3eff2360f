use Rattle.std.proofs.Common.{sym, ap, ◌∙◌, arith, map}
use Rattle.std.proofs.lemmas.List.{length-map}
use Rattle.tx.specs.Fields.{unsigned_transaction}
use Rattle.filling.proofs.Standing.{open-result, one-open, one-fixed, open-of}
use Rattle.filling.proofs.unsigned.unsigned.Goals as goal

pub returns-then-claims-gt1-clause-unsigned : goal.returns-then-claims-gt1-clause-unsigned
returns-then-claims-gt1-clause-unsigned c =
    let claims = map (λ x. x.now) c.args.claims.now in
    open-result c.open_transaction.result claims c.args.outputs.items (open-of claims c.requires.unmixed (omega (arith, c.if-claims-gt1.true, length-map c.args.claims.now (λ x. x.now)))) c.open_transaction.ensures.value c.open_transaction.ensures.below

pub returns-in_ok-tx-in-Fixed-clause-unsigned : goal.returns-in_ok-tx-in-Fixed-clause-unsigned
returns-in_ok-tx-in-Fixed-clause-unsigned c =
    one-fixed c.args.claims.now _ c.index-claims-0.result c.path.result.now c.in-Fixed.fixed c.strip_witnesses.new.self c.requires.some (omega (arith, c.if-claims-gt1.false)) c.index-claims-0.is
    c.path.ensures.at (sym c.shell.ensures.value ∙ c.in-Fixed.is) c.path.ensures.shell (c.strip_witnesses.ensures ∙ ap unsigned_transaction c.in_ok-tx-in-Fixed.ensures)

pub returns-in-Open-clause-unsigned : goal.returns-in-Open-clause-unsigned
returns-in-Open-clause-unsigned c =
    open-result c.open_transaction-in-Open.result (map (λ x. x.now) c.args.claims.now) c.args.outputs.items
    (one-open c.args.claims.now _ c.index-claims-0.result c.requires.some (omega (arith, c.if-claims-gt1.false)) c.index-claims-0.is (sym c.shell.ensures.value ∙ c.in-Open.is))
    c.open_transaction-in-Open.ensures.value c.open_transaction-in-Open.ensures.below
