use Rattle.book.proofs.Fulfilled.{kept, roomy}
use Rattle.book.proofs.fulfils.Fulfils.reserve_preimage.Goals as goal

pub returns-clause-same : goal.returns-clause-same
returns-clause-same c = kept c.args.self.now.channels.items c.args.channel c.index_mut.result.now c.reserve.new.self c.requires c.index_mut.ensures.value c.reserve.ensures.items

pub returns-clause-room : goal.returns-clause-room
returns-clause-room c = roomy c.args.self.now.channels.items c.args.channel c.index_mut.result.now c.reserve.new.self c.requires c.index_mut.ensures.value c.reserve.result c.reserve.ensures.ok
