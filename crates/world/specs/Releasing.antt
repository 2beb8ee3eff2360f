-- Jobs that are taken, and claims that are released.
use Rattle.std.specs.Prelude.{◌≡◌, ◌⊎◌, ℕ, ◌==◌, Bool, true, ◌||◌, not, nat_lt, List, [], ◌∷◌, ◌++◌, length, take, drop, Contains, Option, Some, None, Ok}
use Rattle.std.specs.List.{AllByRecursion}
use Rattle.tx.specs.Parts.{Output}
use Rattle.tx.specs.declared.limits.TheConstants.{MAX_INPUTS, MAX_VALUE}
use Rattle.tx.specs.Fields.{Transaction}
use Rattle.keys.specs.declared.bases.Base.TheVariants.{Payment}
use Rattle.keys.specs.Derivation.{base_key}
use Rattle.filling.specs.Filled.{Filling}
use Rattle.channel.specs.States.{State}
use Rattle.book.specs.declared.calls.Batch.{Batch}
use Rattle.book.specs.declared.calls.Call.TheVariants.{Release}
use Rattle.book.specs.declared.calls.Entry.{Entry}
use Rattle.book.specs.declared.errors.ReleaseError.TheVariants.{NoSuchChannel}
use Rattle.book.specs.Calls.{IsBatchOf}
use Rattle.book.specs.Calling.{filling_by}
use Rattle.book.specs.Books.{ChannelBook}
use Rattle.book.specs.Replies.{Reply, released, asked, fill_answer, if_so}
use Rattle.world.specs.declared.errors.EventError.{EventError}
use Rattle.world.specs.declared.errors.EventError.TheVariants.{NoJob, MixedChannels, OverValue}
use Rattle.side.specs.declared.due.DueClaim.{DueClaim}
use Rattle.side.specs.Batches.{are_of, value_of, claims_in, preimages_for, output_for as output_to}
use Rattle.world.specs.Worlds.{Node, channel_of, answer_to, after_call}
use Rattle.world.specs.Refusing.{refusal_in}

-- the k oldest jobs are taken: NoJob if there are fewer
abbrev pub take_refusal : ℕ → Node → Option EventError
take_refusal k n = if_so (nat_lt (length n.jobs) k) NoJob None

abbrev pub with_taken : ℕ → Node → Node
with_taken k n = record n { jobs = drop k n.jobs; taken = n.taken ++ take k n.jobs }

-- ---- releases

-- the claims' whole value goes to the hash of the side's payment key in the channel
abbrev pub output_for : State → List DueClaim → Output
output_for s jobs = output_to (base_key s.seed Payment) jobs

-- the book's reply to a release of claims of a channel
abbrev pub release_answer : ℕ → List DueClaim → Node → Reply
release_answer c jobs n = released (asked NoSuchChannel (channel_of n c) (λ ch. fill_answer ch.state (claims_in jobs) (output_for ch.state jobs ∷ []) (preimages_for jobs)))

-- NoJob, MixedChannels, OverValue, else the refusal of the book
abbrev pub refusal_of : List DueClaim → Node → Option EventError
refusal_of [] n = Some NoJob
refusal_of (j ∷ jobs) n =
    if_so (not (are_of j.channel (j ∷ jobs))) MixedChannels
    (if_so (nat_lt MAX_VALUE (value_of (j ∷ jobs))) OverValue
    (refusal_in (release_answer j.channel (j ∷ jobs) n)))

-- a release has 1 to 4,000 claims, of those that were taken
abbrev pub is_no_count : ℕ → ℕ → Bool
is_no_count k taken = k == 0 || nat_lt MAX_INPUTS k || nat_lt taken k

abbrev pub release_refusal : ℕ → Node → Option EventError
release_refusal k n = if_so (is_no_count k (length n.taken)) NoJob (refusal_of (take k n.taken) n)

-- the claims that were released are no longer among those taken
abbrev pub without_taken : ℕ → Node → Node
without_taken k n = record n { taken = drop k n.taken }

-- this batch releases claims, all of one channel, unless the book refuses it
pub record IsReady (jobs : List DueClaim) (n : Node) (channel : ℕ) (batch : Batch) : Type 0 where
  pub ch : ChannelBook
  pub there : channel_of n channel ≡ Some ch
  pub all_of : are_of channel jobs ≡ true
  pub batch_is : IsBatchOf (claims_in jobs) (output_for ch.state jobs ∷ []) (preimages_for jobs) batch
  pub left : refusal_of jobs n ≡ refusal_in (answer_to n (Release channel batch))

-- the k oldest claims that a side took are released: the side after the release, and the transaction of it
pub record IsReleased (k : ℕ) (n done : Node) (t : Transaction) : Type 0 where
  pub channel : ℕ
  pub batch : Batch
  pub filling : Filling
  pub ready : IsReady (take k n.taken) n channel batch
  pub answer : answer_to n (Release channel batch) ≡ released (Ok filling)
  pub tx : t ≡ filling.tx
  pub after : done ≡ without_taken k (after_call (Release channel batch) n)

-- and the transaction is last in the pool, and last among all that were released
pub record IsReleasedTo (k : ℕ) (n done : Node) (pool released waiting fillings : List Transaction) : Type 0 where
  pub tx : Transaction
  pub is : IsReleased k n done tx
  pub waits : waiting ≡ pool ++ tx ∷ []
  pub stays : fillings ≡ released ++ tx ∷ []

-- ---- what was released

-- a transaction is the filling of a release in a history
pub record IsFillingIn (history : List Entry) (t : Transaction) : Type 0 where
  pub seat : ℕ
  pub channel : ℕ
  pub batch : Batch
  pub noted : Contains history (record { seat = seat; call = Release channel batch })
  pub filled : t ≡ (filling_by batch).tx

-- each of these transactions is one, in the history of one side or of the other
abbrev pub AreFillings : List Entry → List Entry → List Transaction → Type 0
AreFillings a b ts = AllByRecursion (λ t. IsFillingIn a t ⊎ IsFillingIn b t) ts
