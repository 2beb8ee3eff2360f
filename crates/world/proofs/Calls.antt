-- Accepted calls of a book, as steps of its channels.
use Rattle.std.proofs.Common.{◌≡◌, ℕ, zero, suc, Bool, true, false, ◌||◌, ◌&&◌, List, [], ◌∷◌, ◌++◌, length, Option, Some, None, Result, Ok, Err, refl, sym, ap, ◌∙◌, subst, inl, inr}
use Rattle.std.specs.Prelude.{◌⊎◌, drop, slice_get, option_map, is_ok}
use Rattle.std.proofs.lemmas.List.{reverse-append}
use Rattle.std.proofs.lemmas.Option.{none-some, same_Some}
use Rattle.std.proofs.Math.Bool.{and-false, and-true}
use Rattle.terms.specs.declared.sides.Side.{Side}
use Rattle.updates.specs.declared.changes.OwnUpdate.{OwnUpdate}
use Rattle.updates.specs.declared.errors.ChannelError.{ChannelError}
use Rattle.channel.specs.declared.messages.Message.{Message}
use Rattle.updates.specs.declared.messages.PeerStep.TheVariants.{Update as Updated, CommitmentSigned}
use Rattle.channel.specs.declared.messages.Message.TheVariants.{Step as StepMessage, RevokeAndAck}
use Rattle.channel.specs.Tokens.{peer_tokens}
use Rattle.channel.specs.States.{update_of, State, update_refusal, receive_refusal, after_sign, after, answers, signature_message}
use Rattle.channel.specs.Peers.{Acts, updates, signs, receives}
use Rattle.book.specs.declared.calls.Step.{Step}
use Rattle.book.specs.declared.calls.Step.TheVariants.{Own, Peer}
use Rattle.book.specs.declared.calls.Call.{Call}
use Rattle.book.specs.declared.calls.Call.TheVariants.{Step as Stepping, Sign, Keep, Release, Close}
use Rattle.book.specs.declared.calls.Entry.{Entry}
use Rattle.book.specs.Books.{ChannelBook, Channels, at_index, with_state, with_kept, with_closed, is_closed, is_barred, stepped as state_stepped, channels_after, replayed, replay}
use Rattle.book.specs.Replies.{stepped, signed, is_accepted, answer_of, reply_of, extended, history_after, unless, asked, step_refusal, book_step_refusal, messages_of, sign_refusal}
use Rattle.std.specs.Prelude.{nat_le}
use Rattle.updates.specs.Refusals.{first_refusal, covers_nothing}
use Rattle.updates.specs.declared.errors.ChannelError.TheVariants.{NotYourTurn, NoUpdates as NothingCovered}
use Rattle.channel.specs.declared.limits.TheConstants.{LAST_NUMBER}
use Rattle.channel.specs.States.{sign_refusal as channel_refusal}
use Rattle.book.specs.declared.errors.StepError.{StepError}
use Rattle.book.specs.declared.errors.StepError.TheVariants.{Refused, NoSuchChannel as NoChannelToStep, ChannelClosed as ClosedToSteps}
use Rattle.book.specs.declared.errors.SignError.{SignError}
use Rattle.book.specs.declared.errors.SignError.TheVariants.{AwaitingRevocation, NoUpdates, NoSuchChannel as NoChannelToSign, ChannelClosed as ClosedToSigning}
use Rattle.book.specs.Books.{first_missing}
use Rattle.book.specs.Replies.{if_so, if_missing}
use Rattle.claim.specs.Claims.{ClaimParts}
use Rattle.terms.specs.declared.sides.Side.TheVariants.{A, B}
use Rattle.channel.specs.Agreeing.{IsPaired, PeersAgree}
use Rattle.channel.specs.Playing.{placed}
use Rattle.book.specs.declared.calls.Batch.{Batch}
use Rattle.book.specs.Acts.{call_of, messages_in}
use Rattle.world.specs.Pairing.{ArePaired, AgreeBy, IsShutOut, DeliveriesAreTaken}
use Rattle.world.proofs.Turns.{acted_at, unmoved}

-- the channels after an accepted call, and after a refused one
pub replayed_after : (history : List Entry) (seat : ℕ) (call : Call) → is_accepted (reply_of peer_tokens history call) ≡ true
    → replay (history_after peer_tokens history seat call) ≡ channels_after call (replay history)
replayed_after history seat call ok =
    ap (λ b. replay (extended b history seat call)) ok ∙ ap replayed (reverse-append history (record { seat = seat; call = call } ∷ []))

pub refused_stays : (history : List Entry) (seat : ℕ) (call : Call) → is_accepted (reply_of peer_tokens history call) ≡ false → history_after peer_tokens history seat call ≡ history
refused_stays history seat call rejected = ap (λ b. extended b history seat call) rejected

-- what an accepted call of each kind says
ok_of_stepped : {r s : Result (List Message) StepError} → stepped r ≡ stepped s → r ≡ s
ok_of_stepped e = cc

ok_of_signed : {r s : Result Message SignError} → signed r ≡ signed s → r ≡ s
ok_of_signed e = cc

-- the channel does not refuse a step that the book does not refuse
not_barred : (barred : Bool) (r : Option ChannelError) → if_so barred ClosedToSteps (option_map Refused r) ≡ None → r ≡ None
not_barred true r e = absurd cc
not_barred false None e = refl
not_barred false (Some r) e = absurd cc

channel_steps : (ch : ChannelBook) (step : Step) → book_step_refusal peer_tokens ch step ≡ None → step_refusal peer_tokens ch.state step ≡ None
channel_steps ch step none = not_barred (is_closed ch && is_barred step) (step_refusal peer_tokens ch.state step) none

-- a step of one's own update
pub record IsMade (chs : Channels) (c : ℕ) (u : OwnUpdate) (messages : List Message) : Type 0 where
  pub channel : ChannelBook
  pub there : slice_get chs c ≡ Some channel
  pub taken : update_refusal channel.state (update_of channel.state u) ≡ None
  pub sent : messages ≡ StepMessage (Updated (update_of channel.state u)) ∷ []

pub made_of : (found : Option ChannelBook) (u : OwnUpdate) (chs : Channels) (c : ℕ) (ms : List Message) → slice_get chs c ≡ found
    → asked NoChannelToStep found (λ ch. unless (λ e. e) (book_step_refusal peer_tokens ch (Own u)) (StepMessage (Updated (update_of ch.state u)) ∷ [])) ≡ Ok ms → IsMade chs c u ms
made_of None u chs c ms there e = absurd cc
made_of (Some ch) u chs c ms there e = by (book_step_refusal peer_tokens ch (Own u)) refl e
  where
    by : (r : Option StepError) → book_step_refusal peer_tokens ch (Own u) ≡ r → unless (λ e. e) r (StepMessage (Updated (update_of ch.state u)) ∷ []) ≡ Ok ms → IsMade chs c u ms
    by None none e = record { channel = ch; there = there; taken = channel_steps ch (Own u) none; sent = cc }
    by (Some r) some e = absurd cc

-- a signature
pub record IsSigned (chs : Channels) (c : ℕ) (m : Message) : Type 0 where
  pub channel : ChannelBook
  pub there : slice_get chs c ≡ Some channel
  pub taken : sign_refusal channel ≡ None
  pub sent : m ≡ signature_message peer_tokens channel.state

pub signed_of : (found : Option ChannelBook) (chs : Channels) (c : ℕ) (m : Message) → slice_get chs c ≡ found
    → asked NoChannelToSign found (λ ch. unless (λ e. e) (sign_refusal ch) (signature_message peer_tokens ch.state)) ≡ Ok m → IsSigned chs c m
signed_of None chs c m there e = absurd cc
signed_of (Some ch) chs c m there e = by (sign_refusal ch) refl e
  where
    by : (r : Option SignError) → sign_refusal ch ≡ r → unless (λ e. e) r (signature_message peer_tokens ch.state) ≡ Ok m → IsSigned chs c m
    by None none e = record { channel = ch; there = there; taken = none; sent = cc }
    by (Some r) some e = absurd cc

-- the channel does not refuse to sign what the book does not refuse
channel_signs : (ch : ChannelBook) → sign_refusal ch ≡ None → channel_refusal ch.state ≡ None
channel_signs ch none = by (is_closed ch) (ch.state.awaiting || nat_le LAST_NUMBER ch.state.peer_number) (first_missing ch) (covers_nothing ch.state.held.own ch.state.held.theirs) none
  where
    by : (shut waits : Bool) (missing : Option ℕ) (nothing : Bool)
        → if_so shut ClosedToSigning (if_so waits AwaitingRevocation (if_missing missing (if_so nothing NoUpdates None))) ≡ None
        → first_refusal ((waits, NotYourTurn) ∷ (nothing, NothingCovered) ∷ []) ≡ None
    by true waits missing nothing e = absurd cc
    by false true missing nothing e = absurd cc
    by false false (Some n) nothing e = absurd cc
    by false false None true e = absurd cc
    by false false None false e = refl

-- ---- the two books after a call of one of them

same_at : (c : ℕ) (ps : List (List Message)) → at_index (λ p. p) c ps ≡ ps
same_at c [] = refl
same_at zero (p ∷ ps) = refl
same_at (suc c) (p ∷ ps) = ap (λ qs. p ∷ qs) (same_at c ps)

-- a channel in the list has a queue
queue_there : (side : Side) (c : ℕ) (xs ys : Channels) (ps qs : List (List Message)) (x : ChannelBook) → slice_get xs c ≡ Some x → ArePaired side xs ys ps qs → (p : List Message) × (slice_get ps c ≡ Some p)
queue_there side c [] ys ps qs x here paired = absurd (none-some x here)
queue_there side zero (z ∷ xs) (y ∷ ys) (p ∷ ps) (q ∷ qs) x here paired = (p, refl)
queue_there side (suc c) (z ∷ xs) (y ∷ ys) (p ∷ ps) (q ∷ qs) x here paired = queue_there side c xs ys ps qs x here paired.1
queue_there side c (z ∷ xs) [] ps qs x here paired = absurd paired
queue_there side c (z ∷ xs) (y ∷ ys) [] qs x here paired = absurd paired
queue_there side c (z ∷ xs) (y ∷ ys) (p ∷ ps) [] x here paired = absurd paired

-- a side acts in a channel, and the messages to it stay
acted : (side : Side) (f : State → State) (sent : List Message) (c : ℕ) (xs ys : Channels) (ps qs : List (List Message)) (x : ChannelBook) → slice_get xs c ≡ Some x
    → ((p : List Message) → Acts peer_tokens x.state p (f x.state) sent p) → ArePaired side xs ys ps qs → ArePaired side (at_index (with_state f) c xs) ys ps (at_index (λ q. q ++ sent) c qs)
acted side f sent c xs ys ps qs x here acts paired =
    let q = queue_there side c xs ys ps qs x here paired in
    let at = acted_at side f (λ p. p) sent c xs ys ps qs x q.0 here q.1 (acts q.0) paired in
    subst (λ rs. ArePaired side (at_index (with_state f) c xs) ys rs (at_index (λ q. q ++ sent) c qs)) (same_at c ps) at

-- one's own update
pub made : (side : Side) (mine peers : List Entry) (to_me to_peer : List (List Message)) (seat c : ℕ) (u : OwnUpdate) (ms : List Message) → AgreeBy side mine peers to_me to_peer
    → reply_of peer_tokens mine (Stepping c (Own u)) ≡ stepped (Ok ms)
    → AgreeBy side (history_after peer_tokens mine seat (Stepping c (Own u))) peers to_me (at_index (λ q. q ++ ms) c to_peer)
made side mine peers to_me to_peer seat c u ms agree reply =
    let m = made_of (slice_get (replay mine) c) u (replay mine) c ms refl (ok_of_stepped reply) in
    let acts : (p : List Message) → Acts peer_tokens m.channel.state p (state_stepped (Own u) m.channel.state) ms p
    = λ p. subst (λ sent. Acts peer_tokens m.channel.state p (state_stepped (Own u) m.channel.state) sent p) (sym m.sent) (updates (update_of m.channel.state u) m.taken) in
    subst (λ chs. ArePaired side chs (replay peers) to_me (at_index (λ q. q ++ ms) c to_peer)) (sym (replayed_after mine seat (Stepping c (Own u)) (ap is_accepted reply)))
    (acted side (state_stepped (Own u)) ms c (replay mine) (replay peers) to_me to_peer m.channel m.there acts agree)

-- a signature
pub signed_once : (side : Side) (mine peers : List Entry) (to_me to_peer : List (List Message)) (seat c : ℕ) (m : Message) → AgreeBy side mine peers to_me to_peer
    → reply_of peer_tokens mine (Sign c) ≡ signed (Ok m)
    → AgreeBy side (history_after peer_tokens mine seat (Sign c)) peers to_me (at_index (λ q. q ++ m ∷ []) c to_peer)
signed_once side mine peers to_me to_peer seat c m agree reply =
    let s = signed_of (slice_get (replay mine) c) (replay mine) c m refl (ok_of_signed reply) in
    let acts : (p : List Message) → Acts peer_tokens s.channel.state p (after_sign s.channel.state) (m ∷ []) p
    = λ p. subst (λ sent. Acts peer_tokens s.channel.state p (after_sign s.channel.state) (sent ∷ []) p) (sym s.sent) (signs (channel_signs s.channel s.taken)) in
    subst (λ chs. ArePaired side chs (replay peers) to_me (at_index (λ q. q ++ m ∷ []) c to_peer)) (sym (replayed_after mine seat (Sign c) (ap is_accepted reply)))
    (acted side after_sign (m ∷ []) c (replay mine) (replay peers) to_me to_peer s.channel s.there acts agree)

-- ---- deliveries

-- the queue of a side without its oldest message
rest_is : (c : ℕ) (xs ys : Channels) (ps qs : List (List Message)) (side : Side) (m : Message) (rest : List Message) → slice_get ps c ≡ Some (m ∷ rest) → ArePaired side xs ys ps qs
    → (x : ChannelBook) × (slice_get xs c ≡ Some x)
rest_is c [] [] [] [] side m rest queue paired = absurd (none-some (m ∷ rest) queue)
rest_is zero (x ∷ xs) (y ∷ ys) (p ∷ ps) (q ∷ qs) side m rest queue paired = (x, refl)
rest_is (suc c) (x ∷ xs) (y ∷ ys) (p ∷ ps) (q ∷ qs) side m rest queue paired = rest_is c xs ys ps qs side m rest queue paired.1
rest_is c [] (y ∷ ys) ps qs side m rest queue paired = absurd paired
rest_is c [] [] (p ∷ ps) qs side m rest queue paired = absurd paired
rest_is c [] [] [] (q ∷ qs) side m rest queue paired = absurd paired
rest_is c (x ∷ xs) [] ps qs side m rest queue paired = absurd paired
rest_is c (x ∷ xs) (y ∷ ys) [] qs side m rest queue paired = absurd paired
rest_is c (x ∷ xs) (y ∷ ys) (p ∷ ps) [] side m rest queue paired = absurd paired

-- the call of a message changes the state of its channel as the message does, and has its answers
call_changes : (m : Message) (c : ℕ) (chs : Channels) → channels_after (call_of c m) chs ≡ at_index (with_state (λ s. after s m)) c chs
call_changes (StepMessage (Updated u)) c chs = refl
call_changes (StepMessage (CommitmentSigned tokens)) c chs = refl
call_changes (RevokeAndAck revocation) c chs = refl

-- whether the channel is closed to a message
abbrev pub is_shut : ChannelBook → Message → Bool
is_shut x (StepMessage (Updated u)) = false
is_shut x (StepMessage (CommitmentSigned tokens)) = is_closed x
is_shut x (RevokeAndAck revocation) = false

-- the book's reply where the channel takes the message
answer_is : (m : Message) (c : ℕ) (chs : Channels) (x : ChannelBook) → slice_get chs c ≡ Some x → is_shut x m ≡ false → receive_refusal peer_tokens x.state m ≡ None
    → messages_in (answer_of peer_tokens chs (call_of c m)) ≡ answers x.state m
answer_is (StepMessage (Updated u)) c chs x here free none = rw (here, and-false (is_closed x), none) refl
answer_is (StepMessage (CommitmentSigned tokens)) c chs x here free none = rw (here, free, none) refl
answer_is (RevokeAndAck revocation) c chs x here free none = refl

pub taken_is : (m : Message) (c : ℕ) (chs : Channels) (x : ChannelBook) → slice_get chs c ≡ Some x → is_shut x m ≡ false → receive_refusal peer_tokens x.state m ≡ None
    → is_accepted (answer_of peer_tokens chs (call_of c m)) ≡ true
taken_is (StepMessage (Updated u)) c chs x here free none = rw (here, and-false (is_closed x), none) refl
taken_is (StepMessage (CommitmentSigned tokens)) c chs x here free none = rw (here, free, none) refl
taken_is (RevokeAndAck revocation) c chs x here free none = rw (here, none) refl

-- a message to which the channel is closed is a signature
pub shut_out : (m : Message) (o : Option ChannelBook) (x : ChannelBook) → o ≡ Some x → is_shut x m ≡ true → IsShutOut o m
shut_out (StepMessage (Updated u)) o x there shut = absurd cc
shut_out (StepMessage (CommitmentSigned tokens)) o x there shut = record { ch = x; tokens = tokens; there = there; closed = shut; signature = refl }
shut_out (RevokeAndAck revocation) o x there shut = absurd cc

-- and the book refuses it
pub shut_is : (m : Message) (c : ℕ) (chs : Channels) → IsShutOut (slice_get chs c) m → answer_of peer_tokens chs (call_of c m) ≡ stepped (Err ClosedToSteps)
shut_is m c chs s =
    ap (λ (k : Message). answer_of peer_tokens chs (call_of c k)) s.signature
    ∙ ap (λ (o : Option ChannelBook). stepped (asked NoChannelToStep o (λ ch. unless (λ e. e) (book_step_refusal peer_tokens ch (Peer (CommitmentSigned s.tokens))) (answers ch.state (StepMessage (CommitmentSigned s.tokens)))))) s.there
    ∙ ap (λ (b : Bool). stepped (unless (λ e. e) (if_so (b && true) ClosedToSteps (option_map Refused (receive_refusal peer_tokens s.ch.state (StepMessage (CommitmentSigned s.tokens))))) (answers s.ch.state (StepMessage (CommitmentSigned s.tokens))))) s.closed

step_taken : (chs : Channels) (c : ℕ) (x : ChannelBook) (step : Step) → slice_get chs c ≡ Some x → is_accepted (answer_of peer_tokens chs (Stepping c step)) ≡ true
    → is_ok (unless (λ e. e) (book_step_refusal peer_tokens x step) (messages_of x.state step)) ≡ true
step_taken chs c x step here ok =
    sym (ap (λ (o : Option ChannelBook). is_ok (asked NoChannelToStep o (λ ch. unless (λ e. e) (book_step_refusal peer_tokens ch step) (messages_of ch.state step)))) here) ∙ ok

passed : (barred : Bool) (r : Option ChannelError) (ms : List Message) → is_ok (unless (λ (e : StepError). e) (if_so barred ClosedToSteps (option_map Refused r)) ms) ≡ true → (barred ≡ false) × (r ≡ None)
passed true r ms ok = absurd cc
passed false None ms ok = (refl, refl)
passed false (Some r) ms ok = absurd cc

revocation_passed : (r : Option ChannelError) (n : ℕ) → is_ok (unless Refused r n) ≡ true → r ≡ None
revocation_passed None n ok = refl
revocation_passed (Some r) n ok = absurd cc

-- the channel takes what the book takes
pub channel_takes : (m : Message) (c : ℕ) (chs : Channels) (x : ChannelBook) → slice_get chs c ≡ Some x → is_accepted (answer_of peer_tokens chs (call_of c m)) ≡ true
    → (is_shut x m ≡ false) × (receive_refusal peer_tokens x.state m ≡ None)
channel_takes (StepMessage (Updated u)) c chs x here ok =
    (refl, (passed (is_closed x && false) (receive_refusal peer_tokens x.state (StepMessage (Updated u))) (answers x.state (StepMessage (Updated u))) (step_taken chs c x (Peer (Updated u)) here ok)).1)
channel_takes (StepMessage (CommitmentSigned tokens)) c chs x here ok =
    let p = passed (is_closed x && true) (receive_refusal peer_tokens x.state (StepMessage (CommitmentSigned tokens))) (answers x.state (StepMessage (CommitmentSigned tokens))) (step_taken chs c x (Peer (CommitmentSigned tokens)) here ok) in
    (sym (and-true (is_closed x)) ∙ p.0, p.1)
channel_takes (RevokeAndAck revocation) c chs x here ok = (
  refl,
  revocation_passed (receive_refusal peer_tokens x.state (RevokeAndAck revocation)) (length x.state.secrets)
      (sym (ap (λ (o : Option ChannelBook). is_ok (asked NoChannelToStep o (λ k. unless Refused (receive_refusal peer_tokens k.state (RevokeAndAck revocation)) (length k.state.secrets)))) here) ∙ ok),
)

-- the oldest message was delivered, and its answer is on its way
pub received : (side : Side) (mine peers : List Entry) (to_me to_peer : List (List Message)) (seat c : ℕ) (m : Message) (rest : List Message) → AgreeBy side mine peers to_me to_peer
    → slice_get to_me c ≡ Some (m ∷ rest) → is_accepted (reply_of peer_tokens mine (call_of c m)) ≡ true
    → AgreeBy side (history_after peer_tokens mine seat (call_of c m)) peers (at_index (drop 1) c to_me) (at_index (λ q. q ++ messages_in (reply_of peer_tokens mine (call_of c m))) c to_peer)
received side mine peers to_me to_peer seat c m rest agree queue ok =
    let x = rest_is c (replay mine) (replay peers) to_me to_peer side m rest queue agree in
    let taken = channel_takes m c (replay mine) x.0 x.1 ok in
    let sent = answer_is m c (replay mine) x.0 x.1 taken.0 taken.1 in
    let acts : Acts peer_tokens x.0.state (m ∷ rest) (after x.0.state m) (answers x.0.state m) rest = receives m rest refl taken.1 in
    let at = acted_at side (λ s. after s m) (drop 1) (answers x.0.state m) c (replay mine) (replay peers) to_me to_peer x.0 (m ∷ rest) x.1 queue acts agree in
    let changed : replay (history_after peer_tokens mine seat (call_of c m)) ≡ at_index (with_state (λ s. after s m)) c (replay mine)
    = replayed_after mine seat (call_of c m) ok ∙ call_changes m c (replay mine) in
    subst (λ chs. ArePaired side chs (replay peers) (at_index (drop 1) c to_me) (at_index (λ q. q ++ messages_in (reply_of peer_tokens mine (call_of c m))) c to_peer)) (sym changed)
    (subst (λ ms. ArePaired side (at_index (with_state (λ s. after s m)) c (replay mine)) (replay peers) (at_index (drop 1) c to_me) (at_index (λ q. q ++ ms) c to_peer)) (sym sent) at)

-- ---- calls that do not change the states

pub filed : (side : Side) (mine peers : List Entry) (to_me to_peer : List (List Message)) (seat c n : ℕ) (claims : List ClaimParts) → AgreeBy side mine peers to_me to_peer
    → is_accepted (reply_of peer_tokens mine (Keep c n claims)) ≡ true → AgreeBy side (history_after peer_tokens mine seat (Keep c n claims)) peers to_me to_peer
filed side mine peers to_me to_peer seat c n claims agree ok =
    subst (λ chs. ArePaired side chs (replay peers) to_me to_peer) (sym (replayed_after mine seat (Keep c n claims) ok))
    (unmoved side (with_kept n) (λ ch. refl) c (replay mine) (replay peers) to_me to_peer agree)

pub released_by : (side : Side) (mine peers : List Entry) (to_me to_peer : List (List Message)) (seat c : ℕ) (batch : Batch) → AgreeBy side mine peers to_me to_peer
    → is_accepted (reply_of peer_tokens mine (Release c batch)) ≡ true → AgreeBy side (history_after peer_tokens mine seat (Release c batch)) peers to_me to_peer
released_by side mine peers to_me to_peer seat c batch agree ok =
    subst (λ chs. ArePaired side chs (replay peers) to_me to_peer) (sym (replayed_after mine seat (Release c batch) ok)) agree

-- accepted or not
pub shut : (side : Side) (mine peers : List Entry) (to_me to_peer : List (List Message)) (seat c : ℕ) → AgreeBy side mine peers to_me to_peer
    → AgreeBy side (history_after peer_tokens mine seat (Close c)) peers to_me to_peer
shut side mine peers to_me to_peer seat c agree = by (is_accepted (reply_of peer_tokens mine (Close c))) refl
  where
    by : (b : Bool) → is_accepted (reply_of peer_tokens mine (Close c)) ≡ b → AgreeBy side (history_after peer_tokens mine seat (Close c)) peers to_me to_peer
    by true ok =
        subst (λ chs. ArePaired side chs (replay peers) to_me to_peer) (sym (replayed_after mine seat (Close c) ok))
        (unmoved side with_closed (λ ch. refl) c (replay mine) (replay peers) to_me to_peer agree)
    by false rejected = subst (λ (h : List Entry). AgreeBy side h peers to_me to_peer) (sym (refused_stays mine seat (Close c) rejected)) agree

-- ---- the law

-- the channel at an index, and its peer's
record IsThere (side : Side) (xs : Channels) (c : ℕ) (queue : List Message) : Type 0 where
  mine : ChannelBook
  peers : ChannelBook
  to_peer : List Message
  here : slice_get xs c ≡ Some mine
  paired : IsPaired peer_tokens (placed side mine.state peers.state queue to_peer)

there : (c : ℕ) (xs ys : Channels) (ps qs : List (List Message)) (side : Side) (queue : List Message) → slice_get ps c ≡ Some queue → ArePaired side xs ys ps qs → IsThere side xs c queue
there c [] [] [] [] side queue e paired = absurd (none-some queue e)
there zero (x ∷ xs) (y ∷ ys) (p ∷ ps) (q ∷ qs) side queue e paired = record {
  mine = x;
  peers = y;
  to_peer = q;
  here = refl;
  paired = subst (λ r. IsPaired peer_tokens (placed side x.state y.state r q)) (same_Some p queue e) paired.0;
}
there (suc c) (x ∷ xs) (y ∷ ys) (p ∷ ps) (q ∷ qs) side queue e paired =
    let t = there c xs ys ps qs side queue e paired.1 in
    record { mine = t.mine; peers = t.peers; to_peer = t.to_peer; here = t.here; paired = t.paired }
there c [] (y ∷ ys) ps qs side queue e paired = absurd paired
there c [] [] (p ∷ ps) qs side queue e paired = absurd paired
there c [] [] [] (q ∷ qs) side queue e paired = absurd paired
there c (x ∷ xs) [] ps qs side queue e paired = absurd paired
there c (x ∷ xs) (y ∷ ys) [] qs side queue e paired = absurd paired
there c (x ∷ xs) (y ∷ ys) (p ∷ ps) [] side queue e paired = absurd paired

takes_oldest : PeersAgree → (side : Side) (x y : State) (m : Message) (rest q : List Message) → IsPaired peer_tokens (placed side x y (m ∷ rest) q) → receive_refusal peer_tokens x m ≡ None
takes_oldest agree A x y m rest q paired = (agree peer_tokens paired.terms paired.seed_a paired.seed_b _ paired.reached).a_takes m rest refl
takes_oldest agree B x y m rest q paired = (agree peer_tokens paired.terms paired.seed_a paired.seed_b _ paired.reached).b_takes m rest refl

pub deliveries_are_taken : PeersAgree → DeliveriesAreTaken
deliveries_are_taken peers side mine others to_me to_peer c m rest agree queue =
    let t = there c (replay mine) (replay others) to_me to_peer side (m ∷ rest) queue agree in
    let none = takes_oldest peers side t.mine.state t.peers.state m rest t.to_peer t.paired in
    by t.mine t.here none (is_shut t.mine m) refl
  where
    by : (x : ChannelBook) → slice_get (replay mine) c ≡ Some x → receive_refusal peer_tokens x.state m ≡ None → (b : Bool) → is_shut x m ≡ b
        → (is_accepted (reply_of peer_tokens mine (call_of c m)) ≡ true) ⊎ IsShutOut (slice_get (replay mine) c) m
    by x here none true is = inr (shut_out m (slice_get (replay mine) c) x here is)
    by x here none false is = inl (taken_is m c (replay mine) x here is none)
