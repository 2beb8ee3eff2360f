use Rattle.secrets.proofs.Storing.{front-tells}
use Rattle.secrets.proofs.store.Store.is_led_to.Goals as goal

pub returns : goal.returns
returns c =
    let tells = front-tells c.self.inside.entries c.self.inside.lowest c.args.self.now c.args.secret.now c.args.i c.bucket_of.result
    (record { size = c.self.told; within = c.self.invariant; view = c.self.view_is })
    c.requires c.bucket_of.ensures in
    (λ t. tells.0 (c.leads_to.ensures.0 t), λ leads. c.leads_to.ensures.1 (tells.1 leads))
