use Rattle.trace.proofs.SentenceParts.{bytes_sentence, slot_sentence, size_sentence, assigned_sentence}
use Rattle.trace.proofs.scripts.sentences.SentenceDisplay.fmt.Goals as goal

pub returns-in-Hash-clause-writes : goal.returns-in-Hash-clause-writes
returns-in-Hash-clause-writes g c = rw (← bytes_sentence _ c.args.self.now.0.now.holds _ _ _ _ c.in-Hash.is c.about-text.ensures c.bytes-in-Hash.ensures) c.write_slot-in-Hash.ensures

pub returns-in-Truth-clause-writes : goal.returns-in-Truth-clause-writes
returns-in-Truth-clause-writes g c = rw (← slot_sentence _ c.args.self.now.0.now.holds _ _ c.in-Truth.is c.about-text.ensures) c.write_number.ensures

pub returns-in-Size-clause-writes : goal.returns-in-Size-clause-writes
returns-in-Size-clause-writes g c = rw (← size_sentence _ c.args.self.now.0.now.holds _ _ _ _ c.in-Size.is c.about-text.ensures c.from.ensures) c.write_count-in-Size.ensures

pub returns-in-Assigned-clause-writes : goal.returns-in-Assigned-clause-writes
returns-in-Assigned-clause-writes g c =
    rw (← assigned_sentence _ c.args.self.now.0.now.holds _ _ _ _ _ c.in-Assigned.is c.about-text.ensures c.values.ensures c.values-in-Assigned.ensures) c.write_assigned.ensures

pub returns-in-Lock-clause-writes : goal.returns-in-Lock-clause-writes
returns-in-Lock-clause-writes g c = rw c.in-Lock.is c.write_lock.ensures

pub returns-in-Age-clause-writes : goal.returns-in-Age-clause-writes
returns-in-Age-clause-writes g c = rw c.in-Age.is c.write_age.ensures
