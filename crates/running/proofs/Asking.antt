-- What a watcher reads, asks and gives.
use Rattle.std.proofs.Common.{◌≡◌, ℕ, ◌+◌, ◌<◌, ◌≤◌, List, ◌∷◌, length, drop, get_or, sym, ap, ◌∙◌, subst, add-one, drop-cons}
use Rattle.std.proofs.lemmas.List.{length-map, drop_all}
use Rattle.tx.specs.declared.input.OutPoint.{OutPoint}
use Rattle.watch.specs.Watching.{seen_up_to}
use Rattle.side.specs.Reading.{Reader}
use Rattle.desk.specs.Histories.{History}
use Rattle.running.specs.Following.{AreAnswered, IsAnsweredFor, IsRenewed}

-- ---- answers

answered_first : (before history after : History) (c : ℕ) (cs : List ℕ) (r s next : Reader) → IsAnsweredFor before history c r s → AreAnswered history after cs s next
    → AreAnswered before after (c ∷ cs) r next
answered_first before history after c cs r s next is more =
    AreAnswered.answered before history after c cs is.known r next is.since is.is (subst (λ (x : Reader). AreAnswered history after cs x next) is.next_is more)

-- the answer for the next channel, and those for the channels after it
pub answered_next : (before history after : History) (channels : List ℕ) (i : ℕ) (r s next : Reader) → i < length channels → IsAnsweredFor before history (get_or channels i 0) r s
    → AreAnswered history after (drop (i + 1) channels) s next → AreAnswered before after (drop i channels) r next
answered_next before history after channels i r s next low one more =
    let c = get_or channels i 0 in
    let here : drop i channels ≡ c ∷ drop (i + 1) channels = drop-cons channels i 0 low ∙ ap (λ n. c ∷ drop n channels) (sym (add-one i)) in
    subst (λ (cs : List ℕ). AreAnswered before after cs r next) (sym here) (answered_first before history after c (drop (i + 1) channels) r s next one more)

pub all_answered : (history : History) (channels : List ℕ) (i : ℕ) (r : Reader) → length channels ≤ i → AreAnswered history history (drop i channels) r r
all_answered history channels i r past = subst (λ (cs : List ℕ). AreAnswered history history cs r r) (sym (drop_all i channels past)) (AreAnswered.none_left history r)

-- ---- a reader that goes on

pub renewed_many : (fundings : List OutPoint) (height : ℕ) (r next : Reader) → IsRenewed fundings height r next → length next.seen ≡ length r.seen
renewed_many fundings height r next is = ap (λ (x : Reader). length x.seen) is ∙ length-map r.seen (seen_up_to height)
