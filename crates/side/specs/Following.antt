-- A channel as a reader follows it: what was seen of it, and what is known of it, once that was answered.
use Rattle.std.specs.Prelude.{◌≡◌, ℕ, ⊤, List, [], ◌∷◌, map, Option, Some, None}
use Rattle.tx.specs.declared.input.OutPoint.{OutPoint}
use Rattle.resolve.specs.declared.known.Known.{Known}
use Rattle.watch.specs.Watching.{Seen}
use Rattle.side.specs.declared.due.DueClaim.{DueClaim}
use Rattle.side.specs.declared.following.Followed.{Followed}
use Rattle.side.specs.declared.following.Followed.TheVariants.{Alone, Known as Told}
use Rattle.side.specs.Due.{with_preimages}
use Rattle.side.specs.Reading.{Reader}

abbrev pub seen_in : Followed → Seen
seen_in (Alone seen) = seen
seen_in (Told l) = l.seen

abbrev pub known_in : Followed → Option Known
known_in (Alone seen) = None
known_in (Told l) = Some l.known

-- no channel has an answer yet
abbrev pub AreOpen : List Followed → Type 0
AreOpen [] = ⊤
AreOpen (f ∷ fs) = (known_in f ≡ None) × AreOpen fs

-- the channel has no answer yet
abbrev pub unanswered : Seen → Followed
unanswered seen = Alone seen

-- the channel has this answer
abbrev pub told : Known → Followed → Followed
told known f = Told (record { seen = seen_in f; known = known })

-- adds preimages to the answer, if there is one
abbrev pub taught_in : List (List ℕ) → Followed → Followed
taught_in shown (Alone seen) = Alone seen
taught_in shown (Told l) = Told (record l { known = with_preimages shown l.known })

-- the reader of these channels
abbrev pub reader_of : List OutPoint → List Followed → List (List ℕ) → List DueClaim → Reader
reader_of fundings channels learnt due = record { fundings = fundings; seen = map seen_in channels; knowns = map known_in channels; learnt = learnt; jobs = due }
