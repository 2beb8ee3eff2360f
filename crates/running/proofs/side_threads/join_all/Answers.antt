use Rattle.std.proofs.Common.{rules, arith, ◌≡◌, ◌∷◌, [], List, All, length, sym, ap, subst, length-append}
use Rattle.std.specs.Vec.Iter.{into_iter_items}
use Rattle.std.proofs.lemmas.List.Elements.{All-head, All-tail, All-push}
use Rattle.std.specs.declared.thread.PromisedHandle.{PromisedHandle}
use Rattle.running.specs.declared.shared.SideState.{SideState}
use Rattle.running.specs.declared.side_threads.Served.{Served}
use Rattle.running.specs.declared.side_threads.Serving.{Serving}
use Rattle.running.specs.Threads.{HasServed}
use Rattle.running.proofs.side_threads.join_all.Goals as goal

pub loop-thread-preserved : goal.loop-thread-preserved
loop-thread-preserved g c =
    let side = c.args.side.now in
    let thread = c.in-Some.thread in
    let left = into_iter_items c.next.new.self in
    let e : into_iter_items c.loop-thread.thread-iterator ≡ thread ∷ left = search rules in
    let was = c.loop-thread.invariant in
    let P : PromisedHandle Served Serving → Type 0 = λ t. t.promise.0.now ≡ side in
    let all : All P (thread ∷ left) = subst (All P) e was.threads in
    let served : HasServed side c.join.result = subst (λ (o : SideState). HasServed o c.join.result) (All-head P thread left all) c.join.ensures in
    let pushed = c.push_reserved.ensures in
    record {
      threads = All-tail P thread left all;
      each = subst (All (HasServed side)) (sym pushed.items) (All-push (HasServed side) c.loop-thread.served.items c.join.result was.each served);
      many = let one = ap (λ (l : List Served). length l) pushed.items in
          let more = length-append c.loop-thread.served.items (c.join.result ∷ []) in
          let rest = ap (λ (l : List (PromisedHandle Served Serving)). length l) e in
          omega (arith, was.many, one, more, rest);
      room = omega (arith, was.room, pushed.capacity);
    }
