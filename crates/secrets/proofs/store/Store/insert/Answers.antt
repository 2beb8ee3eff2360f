use Rattle.std.proofs.Common.{refl, sym, subst}
use Rattle.secrets.proofs.Storing.{seed-leads_to, inserted-is, more_of_seed}
use Rattle.secrets.specs.Inserted.{AreOfSeed}
use Rattle.secrets.proofs.store.Store.insert.Goals as goal

pub returns-then-not-is_led_to-clause-of_one_seed : goal.returns-then-not-is_led_to-clause-of_one_seed
returns-then-not-is_led_to-clause-of_one_seed c = λ seed all next is.
    let leads = seed-leads_to seed c.args.secret.now c.args.i c.args.self.now all is in
    let led = c.is_led_to.ensures.1 leads in
    cc

pub returns-clause-added : goal.returns-clause-added
returns-clause-added c =
    inserted-is c.self.inside.entries c.self.inside.lowest c.args.self.now c.args.secret.now c.args.i c.bucket_of.result
    (record { size = c.self.told; within = c.self.invariant; view = c.self.view_is })
    (c.is_next.ensures.0 c.if-not-is_next.false) c.bucket_of.ensures (c.is_led_to.ensures.0 c.if-not-is_led_to.false)

pub returns-clause-of_one_seed : goal.returns-clause-of_one_seed
returns-clause-of_one_seed c = λ seed all next is.
    let added =
    inserted-is c.self.inside.entries c.self.inside.lowest c.args.self.now c.args.secret.now c.args.i c.bucket_of.result
    (record { size = c.self.told; within = c.self.invariant; view = c.self.view_is })
    next c.bucket_of.ensures (c.is_led_to.ensures.0 c.if-not-is_led_to.false) in
    (refl, subst (AreOfSeed seed) (sym added) (more_of_seed seed c.args.secret.now c.args.i c.args.self.now all next is))
