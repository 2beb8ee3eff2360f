-- Why claims are not released together, and the batch that releases them.
use Rattle.std.proofs.Common.{◌≡◌, ℕ, ◌≤◌, Bool, true, false, List, [], ◌∷◌, map, take, length, Option, Some, None, Ok, Err, refl, sym, ap, subst, ◌∙◌, arith}
use Rattle.std.specs.Prelude.{slice_get, option_map, nat_lt, not}
use Rattle.std.proofs.lemmas.Bool.Decides.{nat_tests}
use Rattle.std.proofs.lemmas.Option.{none-some, same_Some}
use Rattle.tx.specs.Parts.{Output}
use Rattle.tx.specs.Fields.{Transaction}
use Rattle.tx.specs.declared.limits.TheConstants.{MAX_VALUE}
use Rattle.claim.specs.Claims.{ClaimParts}
use Rattle.filling.specs.declared.errors.FillError.{FillError}
use Rattle.filling.specs.Filling.{filling_of}
use Rattle.filling.specs.Filled.{Filling}
use Rattle.channel.specs.States.{State}
use Rattle.channel.specs.Rights.{rights_of}
use Rattle.book.specs.declared.calls.Batch.{Batch}
use Rattle.book.specs.declared.calls.Call.TheVariants.{Release}
use Rattle.book.specs.declared.calling.Reply.{Reply as Answer}
use Rattle.book.specs.declared.calling.Reply.TheVariants as answers
use Rattle.book.specs.declared.errors.ReleaseError.{ReleaseError}
use Rattle.book.specs.declared.errors.ReleaseError.TheVariants.{NoSuchChannel, Unfilled}
use Rattle.book.specs.Calls.{IsBatchOf}
use Rattle.book.specs.Calling.{IsCall, filling_by}
use Rattle.book.specs.Dispatch.{reply_form}
use Rattle.book.specs.Signers.{fill_refusal}
use Rattle.book.specs.Books.{ChannelBook}
use Rattle.book.specs.Replies.{released, asked, unless, fill_answer, if_so}
use Rattle.world.specs.declared.errors.EventError.{EventError}
use Rattle.world.specs.declared.errors.EventError.TheVariants as errors
use Rattle.side.specs.declared.due.DueClaim.{DueClaim}
use Rattle.world.specs.declared.limits.TheConstants.{SEAT}
use Rattle.world.specs.Worlds.{Node, channel_of, answer_to, after_call}
use Rattle.side.specs.declared.batches.BatchError.{BatchError}
use Rattle.side.specs.declared.batches.BatchError.TheVariants as batches
use Rattle.side.specs.Batches.{are_of, value_of, batch_refusal, claims_in, preimages_for}
use Rattle.world.specs.Refusing.{by_release, by_batch, refusal_in, IsRefusal}
use Rattle.world.specs.Releasing.{output_for, release_answer, refusal_of, is_no_count, release_refusal, without_taken, IsReady, IsReleased}
use Rattle.world.proofs.Answering.{refused, is_done, is_undone}

pub first_of_map : {A B : Type 0} (f : A → B) (xs : List A) (x : A) → slice_get xs 0 ≡ Some x → slice_get (map f xs) 0 ≡ Some (f x)
first_of_map f [] x found = absurd (none-some x found)
first_of_map f (y ∷ ys) x found = ap (λ z. Some (f z)) (same_Some y x found)

-- claims that can be released together are of one channel, and their worth is within the limit
pub record AreTogether (c : ℕ) (jobs : List DueClaim) : Type 0 where
  pub all_of : are_of c jobs ≡ true
  pub little : nat_lt MAX_VALUE (value_of jobs) ≡ false

pub are_together : (c : ℕ) (jobs : List DueClaim) → batch_refusal c jobs ≡ None → AreTogether c jobs
are_together c jobs none =
    let both = go (are_of c jobs) (nat_lt MAX_VALUE (value_of jobs)) none in
    record { all_of = both.0; little = both.1 }
  where
    go : (a b : Bool) → if_so (not a) batches.MixedChannels (if_so b batches.OverValue None) ≡ None → (a ≡ true) × (b ≡ false)
    go true false e = (refl, refl)
    go true true e = absurd (none-some batches.OverValue (sym e))
    go false b e = absurd (none-some batches.MixedChannels (sym e))

pub small_enough : (v : ℕ) → nat_lt MAX_VALUE v ≡ false → v ≤ MAX_VALUE
small_enough v little = grind (arith, nat_tests)

-- the first refusal, given the oldest of the claims
by_first : (jobs : List DueClaim) (n : Node) (j : DueClaim) → slice_get jobs 0 ≡ Some j
    → refusal_of jobs n ≡ if_so (not (are_of j.channel jobs)) errors.MixedChannels (if_so (nat_lt MAX_VALUE (value_of jobs)) errors.OverValue (refusal_in (release_answer j.channel jobs n)))
by_first [] n j found = absurd (none-some j found)
by_first (x ∷ jobs) n j found =
    ap (λ (y : DueClaim). if_so (not (are_of y.channel (x ∷ jobs))) errors.MixedChannels (if_so (nat_lt MAX_VALUE (value_of (x ∷ jobs))) errors.OverValue (refusal_in (release_answer y.channel (x ∷ jobs) n)))) (same_Some x j found)

by_value : (jobs : List DueClaim) (n : Node) (j : DueClaim) → slice_get jobs 0 ≡ Some j → are_of j.channel jobs ≡ true
    → refusal_of jobs n ≡ if_so (nat_lt MAX_VALUE (value_of jobs)) errors.OverValue (refusal_in (release_answer j.channel jobs n))
by_value jobs n j found all = by_first jobs n j found ∙ ap (λ b. if_so (not b) errors.MixedChannels (if_so (nat_lt MAX_VALUE (value_of jobs)) errors.OverValue (refusal_in (release_answer j.channel jobs n)))) all

by_book : (jobs : List DueClaim) (n : Node) (j : DueClaim) → slice_get jobs 0 ≡ Some j → are_of j.channel jobs ≡ true → nat_lt MAX_VALUE (value_of jobs) ≡ false → refusal_of jobs n ≡ refusal_in (release_answer j.channel jobs n)
by_book jobs n j found all little = by_value jobs n j found all ∙ ap (λ b. if_so b errors.OverValue (refusal_in (release_answer j.channel jobs n))) little

-- claims that can't be released together
pub refused_together : (jobs : List DueClaim) (n : Node) (j : DueClaim) (e : BatchError) (x : EventError) → slice_get jobs 0 ≡ Some j → batch_refusal j.channel jobs ≡ Some e → x ≡ by_batch e
    → IsRefusal (refusal_of jobs n) x
refused_together jobs n j e x found is by =
    refused _ x (by_first jobs n j found ∙ go (are_of j.channel jobs) (nat_lt MAX_VALUE (value_of jobs)) (refusal_in (release_answer j.channel jobs n)) is ∙ ap Some (sym by))
  where
    go : (a b : Bool) (later : Option EventError) → if_so (not a) batches.MixedChannels (if_so b batches.OverValue None) ≡ Some e
        → if_so (not a) errors.MixedChannels (if_so b errors.OverValue later) ≡ Some (by_batch e)
    go false b later is = ap (λ (r : Option BatchError). option_map by_batch r) is
    go true true later is = ap (λ (r : Option BatchError). option_map by_batch r) is
    go true false later is = absurd (none-some e is)

-- ---- the channel

-- there is no such channel
pub not_there : (jobs : List DueClaim) (n : Node) (j : DueClaim) → slice_get jobs 0 ≡ Some j → batch_refusal j.channel jobs ≡ None → None ≡ option_map (λ (ch : ChannelBook). ch.state) (channel_of n j.channel)
    → refusal_of jobs n ≡ Some errors.NoSuchChannel
not_there jobs n j found none missing =
    let t = are_together j.channel jobs none in
    by_book jobs n j found t.all_of t.little ∙ go (channel_of n j.channel) missing
  where
    go : (o : Option ChannelBook) → None ≡ option_map (λ (ch : ChannelBook). ch.state) o
        → refusal_in (released (asked NoSuchChannel o (λ ch. fill_answer ch.state (claims_in jobs) (output_for ch.state jobs ∷ []) (preimages_for jobs)))) ≡ Some errors.NoSuchChannel
    go None missing = refl
    go (Some ch) missing = absurd (none-some ch.state missing)

abbrev pub answer_in : Option ChannelBook → (State → List Output) → List ClaimParts → List (List ℕ) → Option EventError
answer_in o outputs claims preimages = refusal_in (released (asked NoSuchChannel o (λ ch. fill_answer ch.state claims (outputs ch.state) preimages)))

pub record IsThere (o : Option ChannelBook) (s : State) : Type 0 where
  pub ch : ChannelBook
  pub there : o ≡ Some ch
  pub state : ch.state ≡ s

pub is_there : (o : Option ChannelBook) (s : State) → Some s ≡ option_map (λ ch. ch.state) o → IsThere o s
is_there None s is = absurd (none-some s (sym is))
is_there (Some ch) s is = record { ch = ch; there = refl; state = sym (same_Some s ch.state is) }

-- ---- the batch

same_answer : (o : Option ChannelBook) (ch : ChannelBook) (outputs : State → List Output) (claims : List ClaimParts) (preimages : List (List ℕ)) (batch : Batch)
    → o ≡ Some ch → IsBatchOf claims (outputs ch.state) preimages batch
    → answer_in o outputs claims preimages ≡ refusal_in (released (asked NoSuchChannel o (λ c. fill_answer c.state batch.claims batch.outputs batch.preimages)))
same_answer o ch outputs claims preimages batch there is =
    ap (λ p. answer_in p outputs claims preimages) there
    ∙ ap (λ cs. refusal_in (released (fill_answer ch.state cs (outputs ch.state) preimages))) (sym is.claims_is)
    ∙ ap (λ os. refusal_in (released (fill_answer ch.state batch.claims os preimages))) (sym is.outputs_is)
    ∙ ap (λ ps. refusal_in (released (fill_answer ch.state batch.claims batch.outputs ps))) (sym is.preimages_is)
    ∙ ap (λ p. refusal_in (released (asked NoSuchChannel p (λ c. fill_answer c.state batch.claims batch.outputs batch.preimages)))) (sym there)

pub is_ready : (jobs : List DueClaim) (n : Node) (j : DueClaim) (s : State) (batch : Batch) → slice_get jobs 0 ≡ Some j → are_of j.channel jobs ≡ true → nat_lt MAX_VALUE (value_of jobs) ≡ false
    → Some s ≡ option_map (λ ch. ch.state) (channel_of n j.channel) → IsBatchOf (claims_in jobs) (output_for s jobs ∷ []) (preimages_for jobs) batch → IsReady jobs n j.channel batch
is_ready jobs n j s batch found all little there is =
    let t = is_there (channel_of n j.channel) s there in
    let batch_is = subst (λ (x : State). IsBatchOf (claims_in jobs) (output_for x jobs ∷ []) (preimages_for jobs) batch) (sym t.state) is in
    record {
      ch = t.ch;
      there = t.there;
      all_of = all;
      batch_is = batch_is;
      left = by_book jobs n j found all little ∙ same_answer (channel_of n j.channel) t.ch (λ x. output_for x jobs ∷ []) (claims_in jobs) (preimages_for jobs) batch t.there batch_is;
    }

-- ---- what is left

unrefused : (k : ℕ) (n : Node) (channel : ℕ) (batch : Batch) → is_no_count k (length n.taken) ≡ false → IsReady (take k n.taken) n channel batch
    → release_refusal k n ≡ refusal_in (answer_to n (Release channel batch))
unrefused k n channel batch counted ready = ap (λ b. if_so b errors.NoJob (refusal_of (take k n.taken) n)) counted ∙ ready.left

-- the filling in the book's reply is that of the batch
pub same_filling : (o : Option ChannelBook) (b : Batch) (f : Filling) → released (asked NoSuchChannel o (λ ch. fill_answer ch.state b.claims b.outputs b.preimages)) ≡ released (Ok f)
    → f.tx ≡ filling_of b.claims b.outputs b.preimages
same_filling None b f e = absurd cc
same_filling (Some ch) b f e = by (fill_refusal b.claims b.outputs (rights_of ch.state) b.preimages) e
  where
    by : (r : Option FillError) → released (unless Unfilled r (filling_by b)) ≡ released (Ok f) → f.tx ≡ filling_of b.claims b.outputs b.preimages
    by None e =
        let same : filling_by b ≡ f = cc in
        ap (λ (x : Filling). x.tx) (sym same)
    by (Some r) e = absurd cc

pub record IsWhole (k : ℕ) (n new : Node) (t copy : Transaction) : Type 0 where
  pub first : release_refusal k n ≡ None
  pub done : IsReleased k n new t
  pub same : copy ≡ t

pub whole : (k : ℕ) (n mid new : Node) (channel : ℕ) (batch : Batch) (f : Filling) (t copy : Transaction) → copy ≡ f.tx → is_no_count k (length n.taken) ≡ false → IsReady (take k n.taken) n channel batch
    → refusal_in (answer_to n (Release channel batch)) ≡ None → mid ≡ after_call (Release channel batch) n → answer_to n (Release channel batch) ≡ released (Ok f) → t ≡ f.tx → new ≡ without_taken k mid
    → IsWhole k n new t copy
whole k n mid new channel batch f t copy made counted ready none after answer tx without = record {
  first = unrefused k n channel batch counted ready ∙ none;
  done = record { channel = channel; batch = batch; filling = f; ready = ready; answer = answer; tx = tx; after = without ∙ ap (without_taken k) after };
  same = made ∙ sym tx;
}

-- ---- the book's reply

pub record IsFilled (n new : Node) (channel : ℕ) (batch : Batch) (f : Filling) : Type 0 where
  pub none : refusal_in (answer_to n (Release channel batch)) ≡ None
  pub after : new ≡ after_call (Release channel batch) n
  pub answer : answer_to n (Release channel batch) ≡ released (Ok f)

pub is_filled : (n new : Node) (channel : ℕ) (batch : Batch) (f : Filling) (answer : Answer) → answer ≡ answers.Released (Ok f)
    → IsCall (reply_form answer) n.history new.history SEAT (Release channel batch) → new ≡ record n { history = new.history } → IsFilled n new channel batch f
is_filled n new channel batch f answer told is rest =
    let call = Release channel batch in
    let d = is_done n new call (released (Ok f)) (subst (λ (a : Answer). IsCall (reply_form a) n.history new.history SEAT call) told is) rest refl in
    record { none = ap refusal_in d.answer; after = d.after; answer = d.answer }

pub is_unfilled : (n new : Node) (channel : ℕ) (batch : Batch) (e : ReleaseError) (x : EventError) (answer : Answer) → answer ≡ answers.Released (Err e) → x ≡ by_release e
    → IsCall (reply_form answer) n.history new.history SEAT (Release channel batch) → new ≡ record n { history = new.history }
    → IsRefusal (refusal_in (answer_to n (Release channel batch))) x × (new ≡ n)
is_unfilled n new channel batch e x answer told by is rest =
    let call = Release channel batch in
    is_undone n new call (released (Err e)) x refl (subst (λ (a : Answer). IsCall (reply_form a) n.history new.history SEAT call) told is) rest refl (ap Some (sym by))
