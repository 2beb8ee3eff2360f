-- The claims that a side finds in blocks are on what its book records.
use Rattle.std.proofs.Common.{ℕ, List, ◌++◌, sym, subst}
use Rattle.std.specs.List.{AllByRecursion, filter_map}
use Rattle.tx.specs.Fields.{Transaction}
use Rattle.chain.specs.Blocks.{Contents}
use Rattle.claim.specs.Claims.{ClaimParts}
use Rattle.resolve.specs.declared.known.Known.{Known}
use Rattle.watch.specs.Watching.{Seen, spends_after}
use Rattle.book.specs.declared.calls.Entry.{Entry}
use Rattle.book.specs.Books.{is_kept}
use Rattle.book.specs.Knowing.{preimages_in}
use Rattle.side.specs.declared.due.DueClaim.{DueClaim}
use Rattle.side.specs.Due.{wanted_by, Finds}
use Rattle.world.specs.Worlds.{Node}
use Rattle.world.specs.Looking.{Knows, ReadsChannel, quiet, sees, ReadsBlock, no_more, channel, Reading, Reads, all_read, block, reading_of}
use Rattle.world.specs.Sources.{IsDueOf, IsDueIn}
use Rattle.world.proofs.Whole.{all_append, all_map}
use Rattle.world.proofs.Unmade.{all_weaker}
use Rattle.world.proofs.Recorded.{given_are_due}

-- claims are on what a book with this history records of their channels
abbrev pub AreJobsIn : List Entry → List DueClaim → Type 0
AreJobsIn history jobs = AllByRecursion (λ j. IsDueIn history j.channel j.claim) jobs

known_jobs : (history : List Entry) (learnt : List (List ℕ)) (height : ℕ) (txs : List Transaction) (c : ℕ) (older newer : Seen) (jobs : List DueClaim) (shown : List (List ℕ)) (known : Known)
    → Knows history learnt c known → Finds known height txs c older newer jobs shown → AreJobsIn history jobs
known_jobs history learnt height txs c older newer jobs shown known k f =
    let given = given_are_due k.ch.state (is_kept k.ch.kept) (preimages_in c history ++ learnt) known height older.given (spends_after older height txs known) f.claims k.is f.sight.due in
    let due = all_weaker (IsDueOf k.ch.state) (IsDueIn history c) (λ x d. record { ch = k.ch; there = k.there; due = d }) f.claims given in
    let job : ClaimParts → DueClaim = λ x. record { channel = c; claim = x; preimages = filter_map (wanted_by known.preimages) x.slots } in
    subst (AreJobsIn history) (sym f.jobs_are) (all_map (λ (j : DueClaim). IsDueIn history j.channel j.claim) job f.claims due)

channel_jobs : {history : List Entry} {learnt : List (List ℕ)} {height : ℕ} {txs : List Transaction} {c : ℕ} {older newer : Seen} {jobs : List DueClaim} {shown : List (List ℕ)}
    → ReadsChannel history learnt height txs c older newer jobs shown → AreJobsIn history jobs
channel_jobs (quiet none) = tt
channel_jobs {history} {learnt} {height} {txs} {c} {older} {newer} {jobs} {shown} (sees known k f) = known_jobs history learnt height txs c older newer jobs shown known k f

block_jobs : {history : List Entry} {learnt : List (List ℕ)} {height : ℕ} {txs : List Transaction} {c : ℕ} {older newer : List Seen} {jobs : List DueClaim} {shown : List (List ℕ)}
    → ReadsBlock history learnt height txs c older newer jobs shown → AreJobsIn history jobs
block_jobs no_more = tt
block_jobs {history} (channel {jobs = jobs} {more_jobs = more_jobs} one rest) = all_append (λ (j : DueClaim). IsDueIn history j.channel j.claim) jobs more_jobs (channel_jobs one) (block_jobs rest)

read_jobs : {history : List Entry} {height : ℕ} {blocks : List Contents} {r done : Reading} → Reads history height blocks r done → AreJobsIn history r.jobs → AreJobsIn history done.jobs
read_jobs all_read before = before
read_jobs {history} (block {r = r} {next = next} after rest) before =
    read_jobs rest
    (subst (AreJobsIn history) (sym after.jobs_are) (all_append (λ (j : DueClaim). IsDueIn history j.channel j.claim) r.jobs after.jobs before (block_jobs after.channels)))

pub found_jobs : (n : Node) (height : ℕ) (blocks : List Contents) (found : Reading) → Reads n.history height blocks (reading_of n) found → AreJobsIn n.history found.jobs
found_jobs n height blocks found reads = read_jobs reads tt
