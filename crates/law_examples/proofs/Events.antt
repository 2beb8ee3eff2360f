-- Events and runs: what an event leaves, and what it does not.
use Rattle.std.proofs.Common.{◌≡◌, ℕ, ◌+◌, ◌-◌, Bool, true, false, List, [], ◌∷◌, ◌++◌, take, drop, length, nat_lt, is_some, Option, Some, None, Ok, sym, ap, ◌∙◌, refl, subst, inl, inr, arith, length-append}
use Rattle.std.specs.Prelude.{◌⊎◌, slice_get}
use Rattle.std.proofs.lemmas.Bool.{true≢false, false≢true}
use Rattle.std.proofs.lemmas.Option.{same_Some}
use Rattle.tx.specs.Fields.{Transaction}
use Rattle.chain.specs.Blocks.{Contents as Block, Standing}
use Rattle.mempool.specs.Mining.{Mined, mined_by, blocks_after, reorganised}
use Rattle.terms.specs.declared.sides.Side.TheVariants.{A, B}
use Rattle.claim.specs.Claims.{ClaimParts}
use Rattle.channel.specs.declared.messages.Message.{Message}
use Rattle.updates.specs.declared.messages.PeerStep.TheVariants.{Update as Updated, CommitmentSigned}
use Rattle.channel.specs.declared.messages.Message.TheVariants.{Step as StepMessage}
use Rattle.updates.specs.declared.messages.Tokens.{Tokens}
use Rattle.channel.specs.Tokens.{peer_tokens}
use Rattle.channel.specs.States.{State}
use Rattle.scenario.specs.declared.events.Event.{Event}
use Rattle.scenario.specs.declared.events.Event.TheVariants as events
use Rattle.updates.specs.declared.changes.Update.{Update}
use Rattle.updates.specs.declared.changes.OwnUpdate.{OwnUpdate}
use Rattle.filling.specs.Filled.{Filling}
use Rattle.book.specs.declared.calls.Batch.{Batch}
use Rattle.book.specs.declared.calls.Call.TheVariants as calls
use Rattle.book.specs.declared.calls.Step.TheVariants.{Own}
use Rattle.book.specs.declared.calls.Entry.{Entry}
use Rattle.book.specs.Books.{ChannelBook, is_kept, replay}
use Rattle.book.specs.Penalties.{is_penalty_set}
use Rattle.book.specs.Replies.{Reply, is_accepted, reply_of, history_after, extended, kept, released}
use Rattle.book.specs.Calls.{IsBatchOf}
use Rattle.book.specs.Knowing.{preimages_in}
use Rattle.book.specs.Acts.{call_of, messages_in}
use Rattle.side.specs.declared.due.DueClaim.{DueClaim}
use Rattle.side.specs.Batches.{are_of, claims_in, preimages_for}
use Rattle.world.specs.declared.errors.EventError.{EventError}
use Rattle.world.specs.declared.errors.EventError.TheVariants.{NoMemory, NoSuchChannel, NoMessage}
use Rattle.world.specs.declared.outcomes.Outcome.{Outcome}
use Rattle.world.specs.declared.outcomes.Outcome.TheVariants.{Done, Looked, Mined as MinedBlocks, Refused}
use Rattle.world.specs.Worlds.{World, Node, Line, channel_of, answer_to, after_call, sent_to}
use Rattle.world.specs.Keeping.{IsSetFor, IsKept}
use Rattle.world.specs.Refusing.{refusal_in}
use Rattle.world.specs.Releasing.{with_taken, output_for, refusal_of as release_refusal_of, without_taken, IsReady, IsReleased}
use Rattle.world.specs.Looking.{Looks, back_to}
use Rattle.world.specs.Publishing.{commitment_in, closing_in, htlc_tx_in}
use Rattle.world.specs.Pairing.{IsShutOut}
use Rattle.world.specs.Theorem.{ShutsOut}
use Rattle.world.specs.Steps.{refusal_of, Happens, updates, signs, receives, keeps, broadcasts, broadcasts_htlc, mines, looks, takes, releases, reorganises, closes, WorldSteps, happens, refuses, runs_out, Runs, ends, goes_on}
use Rattle.law_examples.proofs.Samples.{nobody, empty, world_of}

-- yes: ShutsOut, by crates/world/proofs/StepExamples.antt: shut_out
-- yes: WorldSteps, by crates/world/proofs/StepExamples.antt: shuts
-- yes: Runs, by crates/world/proofs/StepExamples.antt: played

-- ---- one event

abbrev beginning : World
beginning = record { a = nobody; b = nobody; chain = record { blocks = empty ∷ []; greatest = 0 }; pool = []; released = [] }

abbrev grown : World
grown = record { a = nobody; b = nobody; chain = record { blocks = empty ∷ empty ∷ []; greatest = 1 }; pool = []; released = [] }

-- yes: Happens
one_block : Happens beginning (events.Blocks 1) grown (MinedBlocks 1 0)
unfolding blocks_after
one_block = mines {m = mined_by 1 beginning.chain beginning.pool} refl

-- what new blocks and taken jobs leave
abbrev Leaves : World → Event → World → Type 0
Leaves w (events.Blocks k) v = v.chain ≡ (mined_by k w.chain w.pool).chain
Leaves w (events.Take B k) v = v.b ≡ with_taken k w.b
Leaves w e v = Unit {0}

leaves : {w v : World} {e : Event} {o : Outcome} → Happens w e v o → Leaves w e v
leaves updates = tt
leaves signs = tt
leaves receives = tt
leaves (keeps k) = tt
leaves (broadcasts e) = tt
leaves (broadcasts_htlc e) = tt
leaves (mines e) = ap (λ (m : Mined). m.chain) e
leaves (looks l) = tt
leaves (takes {s = A}) = tt
leaves (takes {s = B}) = refl
leaves (releases r) = tt
leaves (reorganises e) = tt
leaves (closes e) = tt

-- no: Happens
no_block : Happens beginning (events.Blocks 1) beginning (MinedBlocks 1 0) → ⊥
unfolding blocks_after
no_block h = let e : 1 ≡ 2 = ap (λ (s : Standing). length s.blocks) (leaves h) in omega (arith, e)

module _ (i j k : DueClaim) where
  abbrev busy : List DueClaim → List DueClaim → World
  busy jobs taken = record beginning { b = record nobody { jobs = jobs; taken = taken } }

  -- yes: Happens
  two_taken : Happens (busy (j ∷ k ∷ []) (i ∷ [])) (events.Take B 2) (busy [] (i ∷ j ∷ k ∷ [])) Done
  two_taken = takes

  -- no: Happens
  one_left : Happens (busy (j ∷ k ∷ []) (i ∷ [])) (events.Take B 2) (busy (k ∷ []) (i ∷ j ∷ [])) Done → ⊥
  one_left h = let e : 1 ≡ 0 = ap (λ (n : Node). length n.jobs) (leaves h) in omega (arith, e)

-- each event at a side, a channel and numbers of its own: B's second channel
module _ (w : World) where
  -- yes: Happens
  update_sent : (u : OwnUpdate) → Happens w (events.Own B 1 u) (record w { a = sent_to 1 (messages_in (answer_to w.b (calls.Step 1 (Own u)))) w.a; b = after_call (calls.Step 1 (Own u)) w.b }) Done
  update_sent u = updates

  -- yes: Happens
  signature_sent : Happens w (events.Sign B 1) (record w { a = sent_to 1 (messages_in (answer_to w.b (calls.Sign 1))) w.a; b = after_call (calls.Sign 1) w.b }) Done
  signature_sent = signs

  -- yes: Happens
  set_kept : (after : Node) → IsKept w.b 1 3 after → Happens w (events.Keep B 1 3) (record w { b = after }) Done
  set_kept after k = keeps k

  -- yes: Happens
  commitment_waits : (t : Transaction) → commitment_in 3 (slice_get (replay w.b.history) 1) ≡ Ok t → Happens w (events.Broadcast B 1 3) (record w { pool = w.pool ++ t ∷ [] }) Done
  commitment_waits t e = broadcasts e

  -- yes: Happens
  htlc_transaction_waits : (t : Transaction) → htlc_tx_in 3 2 (preimages_in 1 w.b.history ++ w.b.learnt) (slice_get (replay w.b.history) 1) ≡ Ok t
      → Happens w (events.BroadcastHtlc B 1 3 2) (record w { pool = w.pool ++ t ∷ [] }) Done
  htlc_transaction_waits t e = broadcasts_htlc e

  -- yes: Happens
  side_looked : (after : Node) → Looks w.b w.chain.blocks after 4 → Happens w (events.Look B) (record w { b = after }) (Looked 4)
  side_looked after l = looks l

  -- yes: Happens
  filling_waits : (after : Node) (t : Transaction) → IsReleased 2 w.b after t → Happens w (events.Release B 2) (record w { b = after; pool = w.pool ++ t ∷ []; released = w.released ++ t ∷ [] }) Done
  filling_waits after t r = releases r

  -- yes: Happens
  newest_waits : (t : Transaction) → closing_in (slice_get (replay w.b.history) 1) ≡ Ok t → Happens w (events.Close B 1) (record w { b = after_call (calls.Close 1) w.b; pool = w.pool ++ t ∷ [] }) Done
  newest_waits t e = closes e

-- a message is delivered: it is no longer on its way, and the answer is on its way back
module _ (of_a of_b : List Entry) (line other : Line) (m : Message) (rest : List Message) where
  abbrev hearing : World
  hearing = record (world_of of_a of_b (empty ∷ [])) { b = record nobody { history = of_b; lines = line ∷ record other { inbox = m ∷ rest } ∷ [] } }

  -- yes: Happens
  message_delivered : Happens hearing (events.Deliver B 1)
      (record hearing {
        a = sent_to 1 (messages_in (reply_of peer_tokens of_b (call_of 1 m))) hearing.a;
        b = record nobody { history = history_after peer_tokens of_b 0 (call_of 1 m); lines = line ∷ record other { inbox = rest } ∷ [] };
      }) Done
  message_delivered = receives

-- two of three blocks are replaced, and both sides go back to height 0
module _ (w : World) (chain : w.chain.blocks ≡ empty ∷ empty ∷ empty ∷ []) where
  -- yes: Happens
  blocks_replaced : (m : Mined) → m ≡ reorganised 2 1 w.chain w.pool w.released
      → Happens w (events.Reorg 2 1) (record w { a = back_to 0 w.a; b = back_to 0 w.b; chain = m.chain; pool = m.waiting }) (MinedBlocks (length m.chain.blocks - 1) m.txs)
  blocks_replaced m e =
      subst (λ (h : ℕ). Happens w (events.Reorg 2 1) (record w { a = back_to h w.a; b = back_to h w.b; chain = m.chain; pool = m.waiting }) (MinedBlocks (length m.chain.blocks - 1) m.txs))
      (ap (λ (bs : List Block). length bs - 1 - 2) chain) (reorganises e)

abbrev is_refused : Outcome → Bool
is_refused (Refused e) = true
is_refused o = false

abbrev code_of : EventError → ℕ
code_of NoSuchChannel = 1
code_of NoMessage = 2
code_of NoMemory = 3
code_of e = 0

abbrev named : Outcome → ℕ
named (Refused e) = code_of e
named o = 9

abbrev first_named : Option EventError → ℕ
first_named None = 9
first_named (Some e) = code_of e

-- nothing refuses a step, or it leaves all as it was and names the refusal, or that memory ran out
how : {w v : World} {e : Event} {o : Outcome} → WorldSteps w e v o → (refusal_of w e ≡ None) ⊎ ((v ≡ w) × (is_refused o ≡ true) × ((named o ≡ first_named (refusal_of w e)) ⊎ (named o ≡ 3)))
how (happens n h) = inl n
how (refuses r) = inr (refl, refl, inl (sym (ap first_named r)))
how runs_out = inr (refl, refl, inr refl)

abbrev How : World → Outcome → Type 0
How v o = (Some NoSuchChannel ≡ None) ⊎ ((v ≡ beginning) × (is_refused o ≡ true) × ((named o ≡ 1) ⊎ (named o ≡ 3)))

-- no: WorldSteps
done_unrefused : WorldSteps beginning (events.Deliver A 0) beginning Done → ⊥
done_unrefused s = by (how s)
  where
    by : How beginning Done → ⊥
    by (inl n) = cc
    by (inr p) = false≢true p.1

-- no: WorldSteps
refused_and_changed : WorldSteps beginning (events.Deliver A 0) grown (Refused NoSuchChannel) → ⊥
refused_and_changed s = by (how s)
  where
    by : How grown (Refused NoSuchChannel) → ⊥
    by (inl n) = cc
    by (inr p) = let e : 2 ≡ 1 = ap (λ (w : World). length w.chain.blocks) p.0 in omega (arith, e)

-- no: WorldSteps
other_refusal : WorldSteps beginning (events.Deliver A 0) beginning (Refused NoMessage) → ⊥
other_refusal s = by (how s)
  where
    by : How beginning (Refused NoMessage) → ⊥
    by (inl n) = cc
    by (inr (e, f, inl g)) = omega (arith, g)
    by (inr (e, f, inr g)) = omega (arith, g)

-- ---- runs

pub counted : {w end : World} {es : List Event} {os : List Outcome} {moments : List World} → Runs w es os moments end → (length os ≡ length es) × (length moments ≡ length es + 1)
counted ends = (refl, refl)
counted (goes_on s r) = let c = counted r in let d = c.0 in let f = c.1 in (omega (arith, d), omega (arith, f))

-- the first event leads to the world in which the second happens
-- yes: Runs
two_events : (w v end : World) (e f : Event) (o p : Outcome) → WorldSteps w e v o → WorldSteps v f end p → Runs w (e ∷ f ∷ []) (o ∷ p ∷ []) (w ∷ v ∷ end ∷ []) end
two_events w v end e f o p s t = goes_on s (goes_on t ends)

-- no: Runs
outcome_without_event : (moments : List World) → Runs beginning [] (Done ∷ []) moments beginning → ⊥
outcome_without_event moments r = let c = (counted r).0 in omega (arith, c)

-- no: Runs
event_without_outcome : (moments : List World) (end : World) → Runs beginning (events.Blocks 1 ∷ []) [] moments end → ⊥
event_without_outcome moments end r = let c = (counted r).0 in omega (arith, c)

-- no: Runs
end_left_out : (o : Outcome) (end : World) → Runs beginning (events.Blocks 1 ∷ []) (o ∷ []) (beginning ∷ []) end → ⊥
end_left_out o end r = let c = (counted r).1 in omega (arith, c)

-- ---- penalties that are kept

module _ (n : Node) (ch : ChannelBook) (there : channel_of n 3 ≡ Some ch) (claims : List ClaimParts) where
  -- yes: IsSetFor
  set_for : length ch.state.secrets ≡ 6 → is_kept ch.kept 5 ≡ false → is_penalty_set ch.state 5 claims ≡ true → IsSetFor n 3 5 claims
  set_for l u s = record { ch = ch; there = there; revoked = rw l refl; unkept = u; set = s }

  -- no: IsSetFor
  not_revoked : length ch.state.secrets ≡ 5 → IsSetFor n 3 5 claims → ⊥
  not_revoked l s =
      let e : length s.ch.state.secrets ≡ 5 = ap (λ (c : ChannelBook). length c.state.secrets) (same_Some s.ch ch (sym s.there ∙ there)) ∙ l in
      false≢true (subst (λ (m : ℕ). nat_lt 5 m ≡ true) e s.revoked)

  -- no: IsSetFor
  kept_before : is_kept ch.kept 5 ≡ true → IsSetFor n 3 5 claims → ⊥
  kept_before k s = true≢false (sym k ∙ ap (λ (c : ChannelBook). is_kept c.kept 5) (same_Some ch s.ch (sym there ∙ s.there)) ∙ s.unkept)

  -- no: IsSetFor
  another_set : is_penalty_set ch.state 5 claims ≡ false → IsSetFor n 3 5 claims → ⊥
  another_set k s = false≢true (sym k ∙ ap (λ (c : ChannelBook). is_penalty_set c.state 5 claims) (same_Some ch s.ch (sym there ∙ s.there)) ∙ s.set)

  -- yes: IsKept
  keeps_it : IsSetFor n 3 5 claims → answer_to n (calls.Keep 3 5 claims) ≡ kept (Ok tt) → IsKept n 3 5 (after_call (calls.Keep 3 5 claims) n)
  keeps_it s a = record { claims = claims; set = s; answer = a; after = refl }

-- the history has one entry more
-- no: IsKept
unchanged : (n : Node) → IsKept n 3 5 n → ⊥
unchanged n k =
    let e : length n.history ≡ length (extended (is_accepted (answer_to n (calls.Keep 3 5 k.claims))) n.history 0 (calls.Keep 3 5 k.claims)) = ap (λ (m : Node). length m.history) k.after in
    let f : length n.history ≡ length (n.history ++ record { seat = 0; call = calls.Keep 3 5 k.claims } ∷ []) =
    subst (λ (r : Reply). length n.history ≡ length (extended (is_accepted r) n.history 0 (calls.Keep 3 5 k.claims))) k.answer e in
    let g = length-append n.history (record { seat = 0; call = calls.Keep 3 5 k.claims } ∷ []) in
    omega (arith, f, g)

-- ---- claims that are released

module _ (n : Node) (i j : DueClaim) (ch : ChannelBook) (batch : Batch) where
  -- yes: IsReady
  ready : channel_of n 3 ≡ Some ch → i.channel ≡ 3 → j.channel ≡ 3 → IsBatchOf (claims_in (i ∷ j ∷ [])) (output_for ch.state (i ∷ j ∷ []) ∷ []) (preimages_for (i ∷ j ∷ [])) batch
      → release_refusal_of (i ∷ j ∷ []) n ≡ refusal_in (answer_to n (calls.Release 3 batch)) → IsReady (i ∷ j ∷ []) n 3 batch
  ready t e f b l = record { ch = ch; there = t; all_of = rw (e, f) refl; batch_is = b; left = l }

  -- no: IsReady
  of_two_channels : i.channel ≡ 3 → j.channel ≡ 4 → IsReady (i ∷ j ∷ []) n 3 batch → ⊥
  of_two_channels e f r = let a : are_of 3 (i ∷ j ∷ []) ≡ false = rw (e, f) refl in false≢true (sym a ∙ r.all_of)

  -- yes: IsReleased
  released_one : (done : Node) (filling : Filling) → n.taken ≡ i ∷ j ∷ [] → IsReady (i ∷ []) n 3 batch → answer_to n (calls.Release 3 batch) ≡ released (Ok filling)
      → done ≡ without_taken 1 (after_call (calls.Release 3 batch) n) → IsReleased 1 n done filling.tx
  released_one done filling t r a e =
      record { channel = 3; batch = batch; filling = filling; ready = subst (λ (ds : List DueClaim). IsReady (take 1 ds) n 3 batch) (sym t) r; answer = a; tx = refl; after = e }

  -- no: IsReleased
  still_taken : (done : Node) (t : Transaction) → n.taken ≡ i ∷ j ∷ [] → done.taken ≡ i ∷ j ∷ [] → IsReleased 1 n done t → ⊥
  still_taken done t e f r =
      let g : length done.taken ≡ 1 = ap (λ (m : Node). length m.taken) r.after ∙ ap (λ (ds : List DueClaim). length (drop 1 ds)) e in
      let h = ap length f in
      omega (arith, g, h)

-- ---- closed channels

module _ (s : State) (kept_numbers : List ℕ) where
  abbrev channel : Option ℕ → ChannelBook
  channel closed = record { state = s; kept = kept_numbers; closed = closed }

  -- yes: IsShutOut
  shut_out : (tokens : Tokens) → IsShutOut (Some (channel (Some 4))) (StepMessage (CommitmentSigned tokens))
  shut_out tokens = record { ch = channel (Some 4); tokens = tokens; there = refl; closed = refl; signature = refl }

  -- no: IsShutOut
  not_closed : (m : Message) → IsShutOut (Some (channel None)) m → ⊥
  not_closed m o = let e : is_some (channel None).closed ≡ is_some o.ch.closed = ap (λ (c : ChannelBook). is_some c.closed) (same_Some (channel None) o.ch o.there) in false≢true (e ∙ o.closed)

  abbrev is_update : Message → Bool
  is_update (StepMessage (Updated u)) = true
  is_update m = false

  -- no: IsShutOut
  no_signature : (u : Update) → IsShutOut (Some (channel (Some 4))) (StepMessage (Updated u)) → ⊥
  no_signature u o = true≢false (ap is_update o.signature)

  -- no: ShutsOut
  nothing_waits : (line : Line) (history : List Entry) → line.inbox ≡ [] → ShutsOut (record nobody { history = history; lines = line ∷ [] }) 0 → ⊥
  nothing_waits line history e o = let l = ap length (sym e ∙ same_Some line.inbox (o.m ∷ o.rest) o.oldest) in omega (arith, l)

  -- no: ShutsOut
  not_closed_there : (line : Line) (history : List Entry) → replay history ≡ channel None ∷ [] → ShutsOut (record nobody { history = history; lines = line ∷ [] }) 0 → ⊥
  not_closed_there line history e o =
      not_closed o.m (subst (λ (chs : List ChannelBook). IsShutOut (slice_get chs 0) o.m) e o.shut)
