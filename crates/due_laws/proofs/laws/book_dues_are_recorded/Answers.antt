use Rattle.due_laws.proofs.Books.{book_dues_are_recorded}
use Rattle.due_laws.proofs.laws.book_dues_are_recorded.Goals as goal

pub returns : goal.returns
returns c = book_dues_are_recorded c.what_channels_have.ensures.lived c.what_is_signed.ensures.revealed c.sides_are_sound.ensures.numbered c.due_places.ensures.known
