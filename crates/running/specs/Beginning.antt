-- What a node begins with.
use Rattle.std.specs.Prelude.{◌≡◌, ℕ, ◌+◌, ◌≤◌, List, length}
use Rattle.book.specs.declared.calls.Entry.{Entry}
use Rattle.desk.specs.Histories.{first_seat}
use Rattle.desk.specs.Seats.{opening_in}
use Rattle.scenario.specs.declared.scenarios.Scenario.{Scenario}
use Rattle.world.specs.declared.taken_apart.BooksAndChain.{BooksAndChain}
use Rattle.world.specs.Worlds.{World}
use Rattle.world.specs.Beginning.{IsBeginning}
use Rattle.running.specs.declared.beginning.Opened.{Opened}
use Rattle.running.specs.Threads.{AreResources, ClosesAfter}

-- the books and the chain of the scenario's world before its first event; no call in it is of a seat above 0
pub record IsBegun (scenario : Scenario) (begun : BooksAndChain) : Type 0 where
  pub world : World
  pub begins : IsBeginning scenario.seeds scenario.channels world
  pub a : begun.a ≡ world.a.history
  pub b : begun.b ≡ world.b.history
  pub chain : begun.chain ≡ world.chain
  pub a_few : first_seat begun.a ≤ 1
  pub b_few : first_seat begun.b ≤ 1

-- a side's desk over a book with this history, with its last seat, which closes it, and as many others as to make this number
pub record IsOpened (history : List Entry) (seats : ℕ) (o : Opened) : Type 0 where
  pub made_with : opening_in o.closing_seat ≡ history
  pub closing_seat : ClosesAfter o.side (length o.resources.seats.items) o.closing_seat
  pub resources : AreResources o.side o.closing_seat o.resources
  pub many : length o.resources.seats.items + 1 ≡ seats
