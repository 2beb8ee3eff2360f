use Rattle.std.proofs.Common.{rules, ◌≡◌, ◌<◌, ◌∷◌, [], length, sym, ap, ◌∙◌, arith}
use Rattle.std.specs.Prelude.{slice_set}
use Rattle.std.specs.Vec.Iter.{into_iter_items}
use Rattle.std.proofs.lemmas.List.{nil_from_length, length-set}
use Rattle.world.specs.Worlds.{Line}
use Rattle.world.proofs.Readings.{put_step, put_end}
use Rattle.world.proofs.looking.put_watches.Goals as goal

pub loop-watch-preserved : goal.loop-watch-preserved
loop-watch-preserved c =
    let i = c.loop-watch.index in
    let e : into_iter_items c.loop-watch.watch-iterator ≡ c.in-Some.watch ∷ into_iter_items c.next.new.self = search rules in
    let here : i < length c.loop-watch.lines = omega (arith, c.loop-watch.invariant.left, ap length e) in
    record {
      rest =
          put_step i c.loop-watch.lines (slice_set c.loop-watch.lines i c.put_watch.new.line) c.index-lines-index.result c.in-Some.watch (into_iter_items c.loop-watch.watch-iterator)
          (into_iter_items c.next.new.self) _ here c.index-lines-index.is (ap (λ (l : Line). slice_set c.loop-watch.lines i l)
          (c.put_watch.ensures ∙ ap (λ (l : Line). record l { seen = c.in-Some.watch }) (sym c.index-lines-index.is))) e c.loop-watch.invariant.rest;
      left = omega (arith, c.loop-watch.invariant.left, ap length e, length-set c.loop-watch.lines i c.put_watch.new.line);
    }

pub bounds-lines-index : goal.bounds-lines-index
bounds-lines-index c =
    let e : into_iter_items c.loop-watch.watch-iterator ≡ c.in-Some.watch ∷ into_iter_items c.next.new.self = search rules in
    omega (arith, c.loop-watch.invariant.left, ap length e)

pub returns : goal.returns
returns c =
    let e : into_iter_items c.loop-watch.watch-iterator ≡ [] = nil_from_length (into_iter_items c.loop-watch.watch-iterator) (omega (arith, c.in-None.ensures.steps.0)) in
    put_end c.loop-watch.index c.loop-watch.lines (into_iter_items c.loop-watch.watch-iterator) _ e (omega (arith, c.loop-watch.invariant.left, ap length e)) c.loop-watch.invariant.rest
