use Rattle.std.proofs.Common.{ℕ, List, [], ◌∷◌, map, sym, ap, subst, ◌∙◌}
use Rattle.keys.specs.declared.bases.Base.TheVariants.{Payment}
use Rattle.keys.specs.Derivation.{base_key}
use Rattle.book.specs.Calls.{IsBatchOf}
use Rattle.side.specs.Batches.{claims_in, preimages_for, output_for as output_to}
use Rattle.world.specs.Worlds.{Node}
use Rattle.world.specs.Releasing.{IsReady}
use Rattle.world.proofs.Releases.{first_of_map, are_together, is_ready}
use Rattle.world.proofs.batches.release_by.Goals as goal

pub returns : goal.returns
returns c =
    let i = c.me.inside in
    let n : Node = record { history = i.book; lines = i.lines.items; read = i.read; learnt = i.learnt.items; jobs = i.jobs.items; taken = i.taken.items } in
    let j = c.in-Some.first.now.now in
    let jobs = map (λ r. r.now) c.args.jobs.now in
    let found = first_of_map (λ r. r.now) c.args.jobs.now c.in-Some.first.now (sym c.in-Some.ensures.value) in
    let payment = c.base-payment.ensures ∙ ap (λ (s : List ℕ). base_key s Payment) c.signer.ensures.seed in
    let paid = subst (λ (k : List ℕ). IsBatchOf (claims_in jobs) (output_to k jobs ∷ []) (preimages_for jobs) c.in_ok-batch.batch) payment c.in_ok-batch.ensures in
    let together = are_together j.channel jobs c.in-Ok.ensures.0 in
    subst (λ (m : Node). IsReady jobs m j.channel c.in_ok-batch.batch) c.me.view_is
    (is_ready jobs n j c.in-Some-channel.state.now c.in_ok-batch.batch found together.all_of together.little c.in-Some-channel.ensures paid)
