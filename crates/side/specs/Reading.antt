-- What is asked before a block is read, and what the block then gives.
use Rattle.std.specs.Prelude.{◌≡◌, ℕ, ◌+◌, Bool, false, if◌then◌else◌, List, [], ◌∷◌, ◌++◌, length, map, replicate, slice_set, Option, Some, None}
use Rattle.tx.specs.declared.input.OutPoint.{OutPoint}
use Rattle.tx.specs.Fields.{Transaction}
use Rattle.resolve.specs.declared.known.Known.{Known}
use Rattle.watch.specs.Watching.{Seen, is_spent}
use Rattle.side.specs.declared.due.DueClaim.{DueClaim}
use Rattle.side.specs.Due.{FindsIf, with_preimages, taught}

-- ---- a reader

-- by channel, the funding output, what was seen of it, and what is known of it, once that was answered; and the preimages that blocks showed so far, and the due claims
pub record Reader : Type 0 where
  pub fundings : List OutPoint
  pub seen : List Seen
  pub knowns : List (Option Known)
  pub learnt : List (List ℕ)
  pub jobs : List DueClaim

-- there are as many of each, by channel
pub record IsInStep (r : Reader) : Type 0 where
  pub fundings : length r.fundings ≡ length r.seen
  pub knowns : length r.knowns ≡ length r.seen

-- a reader that has read nothing yet and has no answers
abbrev pub begun : List OutPoint → List Seen → List (List ℕ) → Reader
begun fundings seen learnt = record { fundings = fundings; seen = seen; knowns = replicate (length seen) None; learnt = learnt; jobs = [] }

-- ---- what is asked

-- a block that is read for channels: their funding outputs, and its transactions
pub record Spends : Type 0 where
  pub fundings : List OutPoint
  pub txs : List Transaction

-- a channel is asked about if it has no answer yet, and a transaction that spends its funding output was read or is one of these
abbrev pub is_to_ask : OutPoint → Seen → Option Known → List Transaction → Bool
is_to_ask o seen None txs = is_spent o seen txs
is_to_ask o seen (Some known) txs = false

-- the numbers of these channels, from c on, in increasing order
abbrev pub numbers_to_ask : ℕ → List OutPoint → List Seen → List (Option Known) → List Transaction → List ℕ
numbers_to_ask c (o ∷ fundings) (s ∷ seen) (k ∷ knowns) txs =
    if is_to_ask o s k txs then c ∷ numbers_to_ask (c + 1) fundings seen knowns txs else numbers_to_ask (c + 1) fundings seen knowns txs
numbers_to_ask c fundings seen knowns txs = []

-- this is known of a channel, with the preimages that blocks showed so far
abbrev pub with_answer : ℕ → Known → Reader → Reader
with_answer c known r = record r { knowns = slice_set r.knowns c (Some (with_preimages r.learnt known)) }

-- ---- what is read

-- what a block gives for all channels from number c on, by what is known of each
pub data FindsBlock (height : ℕ) (txs : List Transaction) : ℕ → List (Option Known) → List Seen → List Seen → List DueClaim → List (List ℕ) → Type 0 where
  no_more : {c : ℕ} → FindsBlock height txs c [] [] [] [] []
  channel : {c : ℕ} {k : Option Known} {s t : Seen} {knowns : List (Option Known)} {older newer : List Seen} {more_jobs : List DueClaim} {more_shown : List (List ℕ)}
      (jobs : List DueClaim) (shown : List (List ℕ)) → FindsIf k height txs c s t jobs shown → FindsBlock height txs (c + 1) knowns older newer more_jobs more_shown
      → FindsBlock height txs c (k ∷ knowns) (s ∷ older) (t ∷ newer) (jobs ++ more_jobs) (shown ++ more_shown)

-- after one more block: what it shows is known of all channels from then on
pub record IsRead (height : ℕ) (txs : List Transaction) (r next : Reader) : Type 0 where
  pub jobs : List DueClaim
  pub shown : List (List ℕ)
  pub channels : FindsBlock height txs 0 r.knowns r.seen next.seen jobs shown
  pub jobs_are : next.jobs ≡ r.jobs ++ jobs
  pub learnt_is : next.learnt ≡ r.learnt ++ shown
  pub knowns_are : next.knowns ≡ map (taught shown) r.knowns
  pub fundings_are : next.fundings ≡ r.fundings
