use Rattle.std.proofs.Common.{◌≡◌, map, take, drop}
use Rattle.std.specs.List.{AllByRecursion}
use Rattle.serde_json.specs.View.{view}
use Rattle.book_dump.specs.Dumping.{history_entry_data}
use Rattle.book_dump.specs.Again.{ComesBack}
use Rattle.book_dump.proofs.dumping.history_value.Given as goal

-- each entry so far comes back
abbrev pub invariant-loop-entry : goal.invariant-loop-entry
invariant-loop-entry l =
    (map view l.entries.items ≡ map history_entry_data (take l.entry-index l.history))
    × (AllByRecursion ComesBack (drop l.entry-index l.history) → AllByRecursion ComesBack l.history)
