use Rattle.std.proofs.Common.{rules, arith, ◌≡◌, ◌∷◌, [], List, All, length, sym, ap, subst, length-append}
use Rattle.std.specs.Vec.Iter.{into_iter_items}
use Rattle.std.proofs.lemmas.List.Elements.{All-tail, All-push}
use Rattle.std.specs.declared.thread.PromisedHandle.{PromisedHandle}
use Rattle.running.specs.declared.side_threads.SideThread.{SideThread}
use Rattle.running.specs.declared.side_threads.Served.{Served}
use Rattle.running.specs.declared.side_threads.Serving.{Serving}
use Rattle.running.specs.Threads.{IsSideThread}
use Rattle.running.proofs.side_threads.fn.run_beside.scope.Goals as goal

pub loop-mine-preserved : goal.loop-mine-preserved
loop-mine-preserved g c =
    let side = c.captures.side.now in
    let board = c.captures.shared.now.board in
    let thread = c.in-Ok.thread in
    let left = into_iter_items c.next.new.self in
    let e : into_iter_items c.loop-mine.mine-iterator ≡ c.in-Some.mine ∷ left = search rules in
    let was = c.loop-mine.invariant in
    let P : PromisedHandle Served Serving → Type 0 = λ t. t.promise.0.now ≡ side in
    let own : P thread = ap (λ (p : Serving). p.0.now) c.in-Ok.ensures.ok in
    let pushed = c.push_reserved.ensures in
    record {
      left = All-tail (IsSideThread side board) c.in-Some.mine left (subst (All (IsSideThread side board)) e was.left);
      threads = subst (All P) (sym pushed.items) (All-push P c.loop-mine.threads.items thread was.threads own);
      many = let more = length-append c.loop-mine.threads.items (thread ∷ []) in
          let one = ap (λ (l : List (PromisedHandle Served Serving)). length l) pushed.items in
          let rest = ap (λ (l : List SideThread). length l) e in
          omega (arith, was.many, one, more, rest);
      room = omega (arith, was.room, pushed.capacity);
    }
