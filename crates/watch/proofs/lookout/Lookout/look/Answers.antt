use Rattle.std.proofs.Common.{◌≡◌, List, Vec, Global, reverse, sym, ap, subst, ◌∙◌, true, false}
use Rattle.std.specs.Prelude.{IfSome}
use Rattle.std.specs.List.{list_any}
use Rattle.chain.specs.Blocks.{names}
use Rattle.resolve.specs.declared.known.Known.{Known}
use Rattle.watch.specs.declared.spends.Spend.{Spend}
use Rattle.watch.specs.declared.learning.CommitmentHtlcs.{CommitmentHtlcs}
use Rattle.watch.specs.Learning.{htlcs_by, learnt_in}
use Rattle.watch.specs.Lookouts.{IsSettled}
use Rattle.watch.proofs.Settled.{on_true, sight_of, seen_on}
use Rattle.watch.proofs.lookout.Lookout.look.Goals as goal

pub invariant_of-self-2 : goal.invariant_of-self-2
invariant_of-self-2 c =
    let found = c.spends-spends.result.now in (
      subst (λ (ss : List Spend). IfSome c.shown.new.commitments (λ (v : Vec CommitmentHtlcs Global). v.items ≡ htlcs_by c.self-2.inside.known.value ss)) c.spends-spends.ensures
          (subst (λ (k : Known). IfSome c.shown.new.commitments (λ (v : Vec CommitmentHtlcs Global). v.items ≡ htlcs_by k found)) c.deref-2.ensures c.in_ok-learnt.ensures.kept),
      c.self-2.invariant.1,
    )

pub returns-clause-sight : goal.returns-clause-sight
returns-clause-sight c =
    let is : c.self.inside.is_settled ≡ true = (cc) in
    let txs = c.transactions-txs.result.now in
    let found = c.spends-spends.result.now in
    sight_of (record { seen = c.self.inside.watch; known = c.self.inside.known.value }) (record { seen = c.self-2.inside.watch; known = c.self-2.inside.known.value }) c.args.self.now c.args.height
    (reverse c.args.block.now.transactions) txs found c.new.result.items c.in_ok-learnt.learnt.items c.self.view_is c.self-2.view_is c.transactions-txs.ensures
    (subst (λ (k : Known). list_any (names k.terms.funding) txs ≡ false) c.deref.ensures (sym c.if-some_spends.ensures))
    (on_true c.self.inside.is_settled (IsSettled c.self.inside.watch c.self.inside.known.value) is c.self.invariant.1) c.spends-spends.ensures c.new.ensures.items
    (c.in_ok-learnt.ensures.shown ∙ ap (λ (k : Known). learnt_in (htlcs_by k found) txs) c.deref-2.ensures)

pub returns-clause-ok : goal.returns-clause-ok
returns-clause-ok c =
    let is : c.self.inside.is_settled ≡ true = (cc) in
    let txs = c.transactions-txs.result.now in
    seen_on (record { seen = c.self.inside.watch; known = c.self.inside.known.value }) (record { seen = c.self-2.inside.watch; known = c.self-2.inside.known.value }) c.args.self.now c.args.height
    (reverse c.args.block.now.transactions) txs c.self.view_is c.self-2.view_is c.transactions-txs.ensures
    (subst (λ (k : Known). list_any (names k.terms.funding) txs ≡ false) c.deref.ensures (sym c.if-some_spends.ensures))
    (on_true c.self.inside.is_settled (IsSettled c.self.inside.watch c.self.inside.known.value) is c.self.invariant.1)
