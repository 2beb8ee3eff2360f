use Rattle.std.proofs.Common.{eq-eqb}
use Rattle.std.proofs.lemmas.Bool.{lt-ltb, le-ltb, ne_eqb}
use Rattle.trace.proofs.scripts.sentences.write_lock.Goals as goal

pub returns-then-not-holds : goal.returns-then-not-holds
returns-then-not-holds g c = rw c.if-not-holds.true c.write_number.ensures

pub returns-then-lock-lt-LOCKTIME_THRESHOLD : goal.returns-then-lock-lt-LOCKTIME_THRESHOLD
returns-then-lock-lt-LOCKTIME_THRESHOLD g c =
    rw (c.if-not-holds.false, lt-ltb c.args.lock 500000000 c.if-lock-lt-LOCKTIME_THRESHOLD.true) c.write_number-then-lock-lt-LOCKTIME_THRESHOLD.ensures

pub returns-then-lock-lt-MAX_LOCK_TIME : goal.returns-then-lock-lt-MAX_LOCK_TIME
returns-then-lock-lt-MAX_LOCK_TIME g c =
    rw (c.if-not-holds.false, le-ltb c.args.lock 500000000 c.if-lock-lt-LOCKTIME_THRESHOLD.false, lt-ltb c.args.lock 0xffffffff c.if-lock-lt-MAX_LOCK_TIME.true) c.write_number-then-lock-lt-MAX_LOCK_TIME.ensures

pub returns-then-lock-eq-MAX_LOCK_TIME : goal.returns-then-lock-eq-MAX_LOCK_TIME
returns-then-lock-eq-MAX_LOCK_TIME g c =
    rw (c.if-not-holds.false, le-ltb c.args.lock 500000000 c.if-lock-lt-LOCKTIME_THRESHOLD.false, le-ltb c.args.lock 0xffffffff c.if-lock-lt-MAX_LOCK_TIME.false, eq-eqb c.args.lock 0xffffffff c.if-lock-eq-MAX_LOCK_TIME.true) c.write_str.ensures.writes

pub returns : goal.returns
returns g c =
    rw (c.if-not-holds.false, le-ltb c.args.lock 500000000 c.if-lock-lt-LOCKTIME_THRESHOLD.false, le-ltb c.args.lock 0xffffffff c.if-lock-lt-MAX_LOCK_TIME.false, ne_eqb c.args.lock 0xffffffff c.if-lock-eq-MAX_LOCK_TIME.false) c.write_str-2.ensures.writes
