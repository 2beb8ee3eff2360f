use Rattle.std.proofs.Common.{Some, arith, sym, ap, ◌∙◌, List, ℕ, ◌-◌, inl, inr}
use Rattle.secrets.specs.Inserted.{inserted_at}
use Rattle.secrets.proofs.Storing.{inserted_at-below, inserted_at-above, reached-is, floor-reaches, past-bucket, last-bucket}
use Rattle.secrets.proofs.store.Store.get.Goals as goal

pub returns-then-i-self : goal.returns-then-i-self
returns-then-i-self c =
    let s = c.self.inside in
    elim (c.then-i-self.either) [
      | inl below ↦
          sym (ap (λ (xs : List (List ℕ)). inserted_at xs c.args.i) (sym c.self.view_is)
          ∙ inserted_at-below s.entries s.lowest c.args.i c.self.invariant below)
      | inr past ↦ sym (inserted_at-above c.args.self.now c.args.i past.1)
    ]

pub returns-then-i-bucket : goal.returns-then-i-bucket
returns-then-i-bucket c =
    let s = c.self.inside in
    let p = c.loop-bucket.bucket - 1 in
    sym (reached-is s.entries s.lowest c.args.self.now c.args.i p
    (record { size = c.self.told; within = c.self.invariant; view = c.self.view_is })
    c.if-i-self.false c.if-i-ge-INDEX_END.false c.loop-bucket.invariant
    (floor-reaches s.lowest c.args.i p c.if-i-ge-INDEX_END.false c.if-i-bucket.true)
    ∙ ap Some (sym c.derive.ensures))

pub loop-bucket-preserved : goal.loop-bucket-preserved
loop-bucket-preserved c =
    let s = c.self.inside in
    c.loop-bucket.invariant
    ∙ past-bucket s.entries s.lowest c.args.i (c.loop-bucket.bucket - 1) c.if-i-ge-INDEX_END.false (omega arith) c.if-i-bucket.false

pub returns : goal.returns
returns c =
    let s = c.self.inside in
    sym (last-bucket s.entries s.lowest c.args.self.now c.args.i (c.loop-bucket.bucket - 1)
    (record { size = c.self.told; within = c.self.invariant; view = c.self.view_is })
    c.if-i-self.false c.if-i-ge-INDEX_END.false c.loop-bucket.invariant (omega arith))
