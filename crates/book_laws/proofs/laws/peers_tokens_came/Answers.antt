use Rattle.book_laws.proofs.Received.{peers_tokens_came, own_are_made_of_them}
use Rattle.book_laws.proofs.laws.peers_tokens_came.Goals as goal

pub returns-clause-came : goal.returns-clause-came
returns-clause-came c = peers_tokens_came c.accepted_is_called.ensures

pub returns-clause-made : goal.returns-clause-made
returns-clause-made c = own_are_made_of_them c.accepted_is_called.ensures c.what_channels_have.ensures.lived c.sides_are_sound.ensures.numbered
