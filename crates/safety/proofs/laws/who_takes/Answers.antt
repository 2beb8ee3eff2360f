use Rattle.safety.proofs.Takers.{owners_take, htlc_transactions_take, sides_are_apart, channels_are_apart, grants_are_apart}
use Rattle.safety.proofs.laws.who_takes.Goals as goal

pub returns-clause-owners : goal.returns-clause-owners
returns-clause-owners c = owners_take

pub returns-clause-htlcs : goal.returns-clause-htlcs
returns-clause-htlcs c = htlc_transactions_take

pub returns-clause-peers : goal.returns-clause-peers
returns-clause-peers c = sides_are_apart

pub returns-clause-channels : goal.returns-clause-channels
returns-clause-channels c = channels_are_apart

pub returns-clause-grants : goal.returns-clause-grants
returns-clause-grants c = grants_are_apart
