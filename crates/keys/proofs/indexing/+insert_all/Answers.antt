use Rattle.std.proofs.Common.{sym, ◌∙◌, nat_cmp}
use Rattle.std.specs.Cmp.Lexicographic.{slice_cmp}
use Rattle.std.specs.BTreeSet.{contains}
use Rattle.keys.proofs.Undoing.{undone_after, added_after}
use Rattle.keys.proofs.indexing.+insert_all.Goals as goal

pub returns-then-is_err-clause-err : goal.returns-then-is_err-clause-err
returns-then-is_err-clause-err t c =
    undone_after c.insert_all-rest.result (contains (slice_cmp nat_cmp) c.args.set.now) (contains (slice_cmp nat_cmp) c.insert.new.self) (contains (slice_cmp nat_cmp) c.insert_all-rest.new.set) (contains (slice_cmp nat_cmp) c.remove.new.self) c.in-Some.key.now (sym c.contains.ensures ∙ c.if-contains.false) c.in_ok-insert.ensures.updates.0 c.insert_all-rest.ensures.err c.remove.ensures.updates.0

pub returns-else-is_err-clause-ok : goal.returns-else-is_err-clause-ok
returns-else-is_err-clause-ok t c =
    added_after c.insert_all-rest.result (contains (slice_cmp nat_cmp) c.args.set.now) (contains (slice_cmp nat_cmp) c.insert.new.self) (contains (slice_cmp nat_cmp) c.insert_all-rest.new.set) c.in-Some.key.now c.in-Some.others.now c.args.keys.now c.in-Some.ensures.cases.0 c.in_ok-insert.ensures.updates.0 c.insert_all-rest.ensures.ok
