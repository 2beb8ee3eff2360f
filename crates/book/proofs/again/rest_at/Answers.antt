use Rattle.std.proofs.Common.{length, refl}
use Rattle.std.proofs.lemmas.Option.{slice_get_read}
use Rattle.book.proofs.Remaining.{rest_is, rest_refused, no_release}
use Rattle.book.proofs.again.rest_at.Goals as goal

pub returns-in-Ok-clause-ok : goal.returns-in-Ok-clause-ok
returns-in-Ok-clause-ok c =
    let es = c.args.entries.now in
    let n = c.args.index in
    let e = c.in-Some.entry.now in
    let found = slice_get_read es (length es) n e refl c.in-Some.ensures.lookup.3.0 c.in-Some.ensures.lookup.1 in
    rest_is es n e c.args.spent.now c.args.outputs c.in-Release.channel c.in-Release.batch c.in-Ok.rest found c.in-Release.is c.in-Ok.ensures.ok

pub returns-in-Err-clause-err : goal.returns-in-Err-clause-err
returns-in-Err-clause-err c =
    let es = c.args.entries.now in
    let n = c.args.index in
    let e = c.in-Some.entry.now in
    let found = slice_get_read es (length es) n e refl c.in-Some.ensures.lookup.3.0 c.in-Some.ensures.lookup.1 in
    rest_refused es n e c.args.spent.now c.args.outputs c.in-Release.channel c.in-Release.batch c.in-Err.error found c.in-Release.is c.in-Err.ensures.err

pub returns-in_default-call : goal.returns-in_default-call
returns-in_default-call c =
    let es = c.args.entries.now in
    let n = c.args.index in
    let e = c.in-Some.entry.now in
    let found = slice_get_read es (length es) n e refl c.in-Some.ensures.lookup.3.0 c.in-Some.ensures.lookup.1 in
    record { ok = tt; err = no_release es n e c.args.spent.now c.args.outputs found c.in_default-call.not-Release }
