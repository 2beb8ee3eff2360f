use Rattle.std.proofs.Common.{string_bytes}
use Rattle.serde_json.specs.View.{view}
use Rattle.book_dump.proofs.Written.{printed, read_again}
use Rattle.book_dump.proofs.LoadedAgain.{loaded_again}
use Rattle.book_dump.proofs.dumping.dump.Goals as goal

pub returns-clause-text : goal.returns-clause-text
returns-clause-text c = printed string_bytes c.args.history.now (view c.in_ok-value.value) c.to_string.result c.in_ok-value.ensures.form c.to_string.ensures.text

pub returns-clause-reads : goal.returns-clause-reads
returns-clause-reads c = read_again string_bytes c.args.history.now (view c.in_ok-value.value) c.to_string.result c.in_ok-value.ensures.form c.to_string.ensures.reads_back

pub returns-clause-loads : goal.returns-clause-loads
returns-clause-loads c =
    loaded_again string_bytes c.args.history.now c.to_string.result c.in_ok-value.ensures.back
    (read_again string_bytes c.args.history.now (view c.in_ok-value.value) c.to_string.result c.in_ok-value.ensures.form c.to_string.ensures.reads_back)
