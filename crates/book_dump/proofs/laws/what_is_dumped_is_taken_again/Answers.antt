use Rattle.book_dump.proofs.LoadedAgain.{claims_come_back, openings_come_back, entries_come_back}
use Rattle.book_dump.proofs.laws.what_is_dumped_is_taken_again.Goals as goal

pub returns-clause-claims : goal.returns-clause-claims
returns-clause-claims c = claims_come_back

pub returns-clause-openings : goal.returns-clause-openings
returns-clause-openings c = openings_come_back

pub returns-clause-entries : goal.returns-clause-entries
returns-clause-entries c = entries_come_back
