use Rattle.std.proofs.Common.{◌≡◌, ℕ, ◌+◌, ◌<◌, ◌≤◌, ◌++◌, List, [], length, get_or, reverse, sym, ap, subst, ◌∙◌, arith}
use Rattle.std.specs.List.{All}
use Rattle.std.proofs.lemmas.List.{length-map, get_or_default}
use Rattle.tx.specs.declared.input.OutPoint.{OutPoint}
use Rattle.side.specs.Reading.{Spends, Reader, is_to_ask, numbers_to_ask}
use Rattle.side.specs.Following.{seen_in, known_in}
use Rattle.side.proofs.Readings.{asked_from, asked_end, all_asked}
use Rattle.side.proofs.Followed.{asked_of_followed}
use Rattle.side.proofs.reading.Reader.to_ask.Goals as goal

pub loop-index-preserved : goal.loop-index-preserved
loop-index-preserved c =
    let i = c.self.inside in
    let txs = reverse c.args.block.now.transactions in
    let index = c.loop-index.index in
    let found = c.loop-index.channels.items in
    let more = c.push_if.new.numbers.items in
    let followed = c.index-followed.result.now in
    let o : OutPoint = get_or i.fundings index (record { txid = []; index = 0 }) in
    let within : index < length i.channels.items = omega arith in
    let at : o ≡ get_or i.fundings index o = get_or_default i.fundings index _ o (omega (arith, within, c.self.invariant.0)) in
    let at_spent = subst (λ (s : Spends). o ≡ get_or s.fundings index o) (sym c.in_ok-spent.ensures) at in
    let asks = c.is_to_ask-asks.ensures o at_spent ∙ ap (λ (s : Spends). is_to_ask o (seen_in followed) (known_in followed) s.txs) c.in_ok-spent.ensures in
    let before = subst (λ (x : Reader). found ++ asked_from x.fundings x.seen x.knowns txs index ≡ numbers_to_ask 0 x.fundings x.seen x.knowns txs) (sym c.self.view_is) c.loop-index.invariant in
    let after =
    asked_of_followed i.fundings i.channels.items txs index o followed c.is_to_ask-asks.result found more c.self.invariant.0 within
    at c.index-followed.ensures asks c.in_ok-push_if.ensures before in
    subst (λ (x : Reader). more ++ asked_from x.fundings x.seen x.knowns txs (index + 1) ≡ numbers_to_ask 0 x.fundings x.seen x.knowns txs) c.self.view_is after

pub returns-clause-within : goal.returns-clause-within
returns-clause-within c =
    let r = c.args.self.now in
    let txs = reverse c.args.block.now.transactions in
    let found = c.loop-index.channels.items in
    let past : length r.seen ≤ c.loop-index.index =
    omega (arith, ap (λ (x : Reader). length x.seen) c.self.view_is, length-map c.self.inside.channels.items seen_in, c.self.inside.channels.ok.0, c.len-index-end.ensures) in
    let asked = numbers_to_ask 0 r.fundings r.seen r.knowns txs in
    let e : found ≡ asked = asked_end c.loop-index.index r.fundings r.seen r.knowns txs found asked past c.loop-index.invariant in
    subst (λ (xs : List ℕ). All (λ k. k < length r.seen) xs) (sym e) (all_asked (length r.seen) 0 r.fundings r.seen r.knowns txs (omega arith))
