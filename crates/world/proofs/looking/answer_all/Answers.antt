use Rattle.std.proofs.Common.{◌≡◌, ℕ, ◌+◌, ◌<◌, List, [], ◌∷◌, length, drop, reverse, refl, sym, ap, subst, ◌∙◌, arith, add-one, drop-cons}
use Rattle.std.specs.Prelude.{slice_index_or}
use Rattle.std.specs.List.{All}
use Rattle.std.proofs.lemmas.List.{drop_all, length-map}
use Rattle.book.specs.Books.{replay}
use Rattle.side.specs.Reading.{Reader, numbers_to_ask}
use Rattle.world.specs.Asking.{AreKnown}
use Rattle.world.proofs.Readings.{answered, answered_same, answered_known, all_ready}
use Rattle.world.proofs.looking.answer_all.Goals as goal

pub loop-channel-init : goal.loop-channel-init
loop-channel-init c = record { left = c.deref-channel-items.ensures.value ∙ c.in_ok-channels.ensures.exact; known = c.requires.known; same = refl }

pub known_by-requires : goal.known_by-requires
known_by-requires c =
    let i = c.loop-channel.channel-index in
    let all = subst (λ (xs : List ℕ). All (λ k. k < length c.args.reader.now.seen) xs) (sym c.deref-channel-items.ensures.value) c.in_ok-channels.ensures.within in
    let here : slice_index_or c.deref-channel-items.result.now i 0 < length c.args.reader.now.seen = all i 0 (omega arith) in
    omega (arith, here, ap length c.requires.fundings, c.to_ask.ensures.in_step.fundings, length-map (replay c.args.book.now) (λ ch. ch.state.held.terms.funding))

pub answer-requires : goal.answer-requires
answer-requires c =
    let i = c.loop-channel.channel-index in
    let all = subst (λ (xs : List ℕ). All (λ k. k < length c.args.reader.now.seen) xs) (sym c.deref-channel-items.ensures.value) c.in_ok-channels.ensures.within in
    let here : slice_index_or c.deref-channel-items.result.now i 0 < length c.args.reader.now.seen = all i 0 (omega arith) in
    omega (arith, here, ap (λ (x : Reader). length x.seen) c.loop-channel.invariant.same)

pub loop-channel-preserved : goal.loop-channel-preserved
loop-channel-preserved c =
    let r = c.loop-channel.reader in
    let i = c.loop-channel.channel-index in
    let channels = c.deref-channel-items.result.now in
    let n = slice_index_or channels i 0 in
    let known = c.in_ok-known.known in
    let next = c.answer.new.self in
    let split : drop i channels ≡ n ∷ drop (i + 1) channels = drop-cons channels i 0 (omega arith) ∙ ap (λ k. n ∷ drop k channels) (sym (add-one i)) in
    record {
      left = answered r next (reverse c.args.block.now.transactions) n (drop (i + 1) channels) (drop i channels) known split c.loop-channel.invariant.left c.in_ok-answer.ensures.ok;
      known = answered_known c.args.book.now r next n known c.loop-channel.invariant.known c.in_ok-known.ensures c.in_ok-answer.ensures.ok;
      same = answered_same c.args.reader.now r next n known c.loop-channel.invariant.same c.in_ok-answer.ensures.ok;
    }

pub returns-clause-ready : goal.returns-clause-ready
returns-clause-ready c =
    let first = c.args.reader.now in
    let r = c.loop-channel.reader in
    let history = c.args.book.now in
    let txs = reverse c.args.block.now.transactions in
    let same = c.loop-channel.invariant.same in
    let none : numbers_to_ask 0 r.fundings r.seen r.knowns txs ≡ [] = sym c.loop-channel.invariant.left ∙ drop_all c.loop-channel.channel-index c.deref-channel-items.result.now (omega arith) in
    let of_first : numbers_to_ask 0 first.fundings first.seen r.knowns txs ≡ [] = sym (ap (λ (x : Reader). numbers_to_ask 0 x.fundings x.seen r.knowns txs) same) ∙ none in
    let known = subst (λ (xs : List (List ℕ)). AreKnown history xs r.knowns) (ap (λ (x : Reader). x.learnt) same) c.loop-channel.invariant.known in
    all_ready history first.learnt r.knowns first.fundings first.seen txs known c.requires.fundings c.to_ask.ensures.in_step.fundings of_first

pub returns-clause-known : goal.returns-clause-known
returns-clause-known c =
    subst (λ (xs : List (List ℕ)). AreKnown c.args.book.now xs c.loop-channel.reader.knowns) (ap (λ (x : Reader). x.learnt) c.loop-channel.invariant.same) c.loop-channel.invariant.known

pub returns-clause-same : goal.returns-clause-same
returns-clause-same c = c.loop-channel.invariant.same
