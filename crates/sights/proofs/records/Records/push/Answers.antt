use Rattle.std.proofs.Common.{ℕ, length, sym, ap, ◌∙◌}
use Rattle.tx.specs.Fields.{Transaction}
use Rattle.sights.specs.declared.sighted.Sighted.{Sighted}
use Rattle.sights.specs.declared.origins.Origin.{Origin}
use Rattle.sights.specs.Origins.{origin_in, origin_of}
use Rattle.sights.proofs.Noted.{pushed, popped}
use Rattle.sights.proofs.records.Records.push.Goals as goal

pub invariant_of-self-in-Err : goal.invariant_of-self-in-Err
invariant_of-self-in-Err c =
    let ss = c.self.inside.sighted in
    let s : Sighted = record { height = c.args.height; stage = c.args.stage; tx = c.args.confirmed.now } in
    let of : ℕ → ℕ → Origin = λ n k. record { number = n; height = c.args.height; stage = c.args.stage; outputs = k } in
    let given = of c.len-number.result (length c.outputs.result.now) in
    let same = ap (λ n. of n (length c.outputs.result.now)) c.len-number.ensures ∙ ap (λ k. of (length ss) k) (ap length (c.outputs.ensures.value ∙ ap (λ (t : Transaction). t.outputs) c.tx.ensures)) in
    λ q. popped ss s (origin_in c.note.new.origins) (origin_in c.forget.new.origins) c.id-id.result.now c.len-number.result c.id-id.ensures c.len-number.ensures
    (pushed ss s (origin_in c.self.inside.origins) (origin_in c.note.new.origins) c.id-id.result.now given c.id-id.ensures same c.self.invariant c.in_ok-note.ensures.ok)
    c.forget.ensures q
    ∙ ap (λ xs. origin_of q xs) (sym c.in-Err.ensures.err)
