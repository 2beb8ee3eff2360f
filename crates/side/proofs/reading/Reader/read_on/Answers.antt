use Rattle.std.proofs.Common.{◌≡◌, List, ℕ, true, map, length, reverse, refl, ap, subst, ◌∙◌, arith}
use Rattle.std.specs.Vec.{with_items}
use Rattle.std.proofs.lemmas.List.{with_items_is}
use Rattle.side.specs.Due.{taught}
use Rattle.side.specs.Reading.{Reader, IsRead}
use Rattle.side.specs.Following.{seen_in, known_in, taught_in, reader_of}
use Rattle.side.proofs.Readings.{is_read}
use Rattle.side.proofs.Followed.{seen_taught, known_taught, when_quiet, reads_nothing}
use Rattle.side.proofs.reading.Reader.read_on.Goals as goal

pub returns : goal.returns
returns c =
    let i = c.self.inside in
    let txs = reverse c.args.block.now.transactions in
    let found = c.in_ok-found.found in
    let shown = found.learnt.items in
    let was = c.deref_mut.result.now in
    let read = c.read_channels.new.channels in
    let told = c.teach_all.new.channels in
    let once_read = with_items i.channels read in
    let once_told = with_items once_read told in
    let r : Reader = reader_of i.fundings i.channels.items i.learnt.items i.due.items in
    let next : Reader = reader_of i.fundings once_told.items c.append-2.new.self.items c.append.new.self.items in
    let as_long : length read ≡ i.channels.len = omega arith in
    let as_many : length told ≡ once_read.len = omega arith in
    let told_is : once_told.items ≡ map (taught_in shown) read =
    with_items_is once_read told as_many
    ∙ c.in_ok-teach_all.ensures
    ∙ ap (λ (xs : List (List ℕ)). map (taught_in xs) c.deref_mut-2.result.now) c.deref.ensures.value
    ∙ ap (map (taught_in shown)) (c.deref_mut-2.ensures.value ∙ with_items_is i.channels read as_long) in
    let seen : map seen_in once_told.items ≡ map seen_in read = ap (map seen_in) told_is ∙ seen_taught shown read in
    let knowns : map known_in once_told.items ≡ map (taught shown) (map known_in i.channels.items) =
    ap (map known_in) told_is
    ∙ known_taught shown read
    ∙ ap (map (taught shown)) (c.in_ok-found.ensures.known ∙ ap (map known_in) c.deref_mut.ensures.value) in
    subst (λ (x : Reader). IsRead c.args.height txs x next) c.self.view_is
    (is_read c.args.height txs r next (map known_in was) (map seen_in was) (map seen_in read) found.due.items shown c.in_ok-found.ensures.found (ap (map known_in) c.deref_mut.ensures.value)
    (ap (map seen_in) c.deref_mut.ensures.value) seen c.in_ok-append.ensures.items c.in_ok-append-2.ensures.items knowns refl)

pub returns-then-self : goal.returns-then-self
returns-then-self c =
    let i = c.self.inside in
    let txs = reverse c.args.block.now.transactions in
    let is : i.is_quiet ≡ true = (cc) in
    subst (λ (x : Reader). IsRead c.args.height txs x x) c.self.view_is (reads_nothing c.args.height txs i.fundings i.channels.items i.learnt.items i.due.items (when_quiet i.is_quiet i.channels.items is c.self.invariant.1))
