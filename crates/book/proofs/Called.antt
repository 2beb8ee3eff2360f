-- What a call does to a history, and to what a book keeps beside it.
use Rattle.std.proofs.Common.{◌≡◌, ℕ, ◌<◌, ◌≤◌, Bool, true, false, List, [], ◌∷◌, ◌++◌, length, is_some, Option, Some, None, Ok, Err, refl, sym, ap, ◌∙◌, subst, arith, inl, inr, ◌+◌}
use Rattle.std.specs.Prelude.{slice_get, nat_le}
use Rattle.std.specs.Map.{lookup, values_of}
use Rattle.indexmap.specs.Layout.{set_value_at}
use Rattle.book.specs.declared.limits.TheConstants.{MAX_CHANNELS}
use Rattle.claim.specs.Claims.{ClaimParts, IsWhole}
use Rattle.filling.specs.Filled.{Filling}
use Rattle.channel.specs.Rights.{rights_of}
use Rattle.book.specs.Signers.{fill_refusal}
use Rattle.book.specs.declared.calls.Batch.{Batch}
use Rattle.book.specs.declared.calls.Opening.{Opening}
use Rattle.book.proofs.Fundings.{as_many, funds, stands, written, joined}
use Rattle.std.specs.List.{AllByRecursion, cons_option, list_any}
use Rattle.std.proofs.lemmas.Bool.{and_from}
use Rattle.std.proofs.lemmas.Bool.Decides.{nat_tests}
use Rattle.std.proofs.lemmas.List.{reverse-append}
use Rattle.std.proofs.lemmas.Option.{slice_get_past}
use Rattle.tx.specs.declared.input.OutPoint.{OutPoint}
use Rattle.tx.specs.Fields.{same_outpoint}
use Rattle.keys.specs.declared.compressed.Key.{Key}
use Rattle.channel.specs.Tokens.{peer_tokens}
use Rattle.channel.specs.declared.messages.Message.{Message}
use Rattle.updates.specs.declared.messages.PeerStep.TheVariants.{Update as Updated, CommitmentSigned}
use Rattle.channel.specs.declared.messages.Message.TheVariants.{RevokeAndAck}
use Rattle.channel.specs.States.{after, after_sign, receive_refusal, signature_message}
use Rattle.book.specs.declared.calls.Step.{Step}
use Rattle.book.specs.declared.calls.Step.TheVariants.{Own, Peer}
use Rattle.book.specs.declared.calls.Call.{Call}
use Rattle.book.specs.declared.calls.Call.TheVariants.{Open, Step as Stepping, Sign, Revoke, Keep, Release, Close}
use Rattle.book.specs.declared.calls.Entry.{Entry}
use Rattle.updates.specs.declared.messages.Revocation.{Revocation}
use Rattle.book.specs.declared.errors.StepError.TheVariants.{NoSuchChannel as NoChannelToStep}
use Rattle.book.specs.declared.errors.SignError.TheVariants.{NoSuchChannel as NoChannelToSign}
use Rattle.book.specs.declared.errors.CloseError.TheVariants.{NoSuchChannel as NoChannelToClose}
use Rattle.book.specs.declared.errors.KeepError.TheVariants.{NoSuchChannel as NoChannelToKeep}
use Rattle.book.specs.declared.errors.ReleaseError.TheVariants.{NoSuchChannel as NoChannelToRelease}
use Rattle.book.specs.declared.errors.OpenError.{OpenError}
use Rattle.book.specs.declared.errors.OpenError.TheVariants.{NoMemory as out_of_memory, BookFull, SameFunding, BadSignature}
use Rattle.book.specs.Books.{ChannelBook, Channels, at_index, stepped as state_stepped, with_state, with_kept, with_closed, opened_by, channels_after, replayed, replay}
use Rattle.book.specs.Replies.{Reply, opened, stepped, signed, revoked, kept, released, closed, is_accepted, answer_of, reply_of, extended, book_step_refusal, messages_of, sign_refusal, keep_refusal}
use Rattle.book.specs.Accepted.{all_accepted, claims_by, AreWhole}
use Rattle.book.specs.Kept.{by_funding, AreLeft}
use Rattle.book.specs.Calling.{IsCall, IsOpenRefusal, token_refusal, filling_by}
use Rattle.book.proofs.Accepted.{one_more}

abbrev pub entry : ℕ → Call → Entry
entry seat call = record { seat = seat; call = call }

-- an accepted call
taken : (history new : List Entry) (seat : ℕ) (call : Call) (reply : Reply) → reply_of peer_tokens history call ≡ reply → is_accepted reply ≡ true
    → new ≡ history ++ entry seat call ∷ [] → IsCall reply history new seat call
taken history new seat call reply answer ok is = inr (sym answer, is ∙ ap (λ b. extended b history seat call) (sym (ap is_accepted answer ∙ ok)))

-- the claims of one more call are whole
whole_grown : (history : List Entry) (e : Entry) → AreWhole history → AllByRecursion IsWhole (claims_by e.call) → AreWhole (history ++ e ∷ [])
whole_grown [] e h w = (w, tt)
whole_grown (x ∷ xs) e h w = (h.0, whole_grown xs e h.1 w)

-- what is kept after it
keeping : (history new : List Entry) (channels channels' : List (OutPoint × ChannelBook)) (seat : ℕ) (call : Call) (reply : Reply) → AreLeft history channels → reply_of peer_tokens history call ≡ reply
    → is_accepted reply ≡ true → new ≡ history ++ entry seat call ∷ [] → channels' ≡ by_funding (channels_after call (replay history))
    → AllByRecursion IsWhole (claims_by call) → AreLeft new channels'
keeping history new channels channels' seat call reply k answer ok is after whole = record {
  accepted = ap (all_accepted peer_tokens) is ∙ one_more peer_tokens history (entry seat call) ∙ and_from _ _ (ap is_accepted answer ∙ ok) k.accepted;
  whole = subst AreWhole (sym is) (whole_grown history (entry seat call) k.whole whole);
  left = after ∙ ap by_funding (sym (ap replay is ∙ ap replayed (reverse-append history (entry seat call ∷ []))));
}

-- what is kept after an accepted call that changes one channel
keeping_at : (f : ChannelBook → ChannelBook) → ((ch : ChannelBook) → (f ch).state.held.terms ≡ ch.state.held.terms)
    → (history new : List Entry) (channels : List (OutPoint × ChannelBook)) (seat : ℕ) (call : Call) (reply : Reply) (c : ℕ) (x y : ChannelBook)
    → channels_after call (replay history) ≡ at_index f c (replay history) → AreLeft history channels → reply_of peer_tokens history call ≡ reply → is_accepted reply ≡ true
    → new ≡ history ++ entry seat call ∷ [] → slice_get (values_of channels) c ≡ Some x → y ≡ f x → AllByRecursion IsWhole (claims_by call)
    → AreLeft new (set_value_at channels c y)
keeping_at f same history new channels seat call reply c x y after k answer ok is found e whole =
    keeping history new channels (set_value_at channels c y) seat call reply k answer ok is (written history channels k f same c x y found e ∙ ap by_funding (sym after)) whole

-- a step leaves the terms
pub step_leaves_terms : (step : Step) (ch : ChannelBook) → (state_stepped step ch.state).held.terms ≡ ch.state.held.terms
step_leaves_terms (Own u) ch = refl
step_leaves_terms (Peer (Updated u)) ch = refl
step_leaves_terms (Peer (CommitmentSigned tokens)) ch = refl

-- ---- the answers of accepted calls

pub step_answer : (chs : Channels) (c : ℕ) (ch : ChannelBook) (step : Step) (m : Option Message) → slice_get chs c ≡ Some ch → book_step_refusal peer_tokens ch step ≡ None
    → cons_option m [] ≡ messages_of ch.state step → answer_of peer_tokens chs (Stepping c step) ≡ stepped (Ok (cons_option m []))
step_answer chs c ch step m found none e = rw (found, none) (ap (λ ms. stepped (Ok ms)) (sym e))

pub sign_answer : (chs : Channels) (c : ℕ) (ch : ChannelBook) (m : Message) → slice_get chs c ≡ Some ch → sign_refusal ch ≡ None → m ≡ signature_message peer_tokens ch.state
    → answer_of peer_tokens chs (Sign c) ≡ signed (Ok m)
sign_answer chs c ch m found none e = rw (found, none) (ap (λ x. signed (Ok x)) (sym e))

pub revoke_answer : (chs : Channels) (c : ℕ) (ch : ChannelBook) (secret : List ℕ) (next_point : Key) (n : ℕ) → slice_get chs c ≡ Some ch
    → receive_refusal peer_tokens ch.state (RevokeAndAck (record { secret = secret; next_point = next_point })) ≡ None → n ≡ length ch.state.secrets → answer_of peer_tokens chs (Revoke c (record { secret = secret; next_point = next_point })) ≡ revoked (Ok n)
revoke_answer chs c ch secret next_point n found none e = rw (found, none) (ap (λ k. revoked (Ok k)) (sym e))

pub keep_answer : (chs : Channels) (c n : ℕ) (ch : ChannelBook) (claims : List ClaimParts) → slice_get chs c ≡ Some ch → keep_refusal ch n claims ≡ None → answer_of peer_tokens chs (Keep c n claims) ≡ kept (Ok tt)
keep_answer chs c n ch claims found none = rw (found, none) refl

pub release_answer : (chs : Channels) (c : ℕ) (ch : ChannelBook) (b : Batch) (f : Filling) → slice_get chs c ≡ Some ch → fill_refusal b.claims b.outputs (rights_of ch.state) b.preimages ≡ None → f ≡ filling_by b
    → answer_of peer_tokens chs (Release c b) ≡ released (Ok f)
release_answer chs c ch b f found none filled = rw (found, none) (ap (λ g. released (Ok g)) (sym filled))

close_answer : (chs : Channels) (c : ℕ) (ch : ChannelBook) (n : ℕ) → slice_get chs c ≡ Some ch → n ≡ ch.state.number → answer_of peer_tokens chs (Close c) ≡ closed (Ok n)
close_answer chs c ch n found e = rw found (ap (λ k. closed (Ok k)) (sym e))

-- a channel has the outpoint as its funding output
abbrev is_funding : Channels → OutPoint → Bool
is_funding chs o = list_any (λ ch. same_outpoint ch.state.held.terms.funding o) chs

open_answer : (chs : Channels) (o : Opening) (n : ℕ) → nat_le MAX_CHANNELS (length chs) ≡ false → is_funding chs o.terms.funding ≡ false → token_refusal o ≡ None → n ≡ length chs
    → answer_of peer_tokens chs (Open o) ≡ opened (Ok n)
open_answer chs o n room other token index = rw (room, other, token) (ap (λ m. opened (Ok m)) (sym index))

funding_answer : (chs : Channels) (o : Opening) → nat_le MAX_CHANNELS (length chs) ≡ false → is_funding chs o.terms.funding ≡ true → answer_of peer_tokens chs (Open o) ≡ opened (Err SameFunding)
funding_answer chs o room there = rw (room, there) refl

token_answer : (chs : Channels) (o : Opening) (e : OpenError) → nat_le MAX_CHANNELS (length chs) ≡ false → is_funding chs o.terms.funding ≡ false → token_refusal o ≡ Some e
    → answer_of peer_tokens chs (Open o) ≡ opened (Err e)
token_answer chs o e room other is = rw (room, other, is) refl

-- ---- accepted calls as a whole: their replies, and what is kept after them

-- there is room for one more
pub one_fits : (n room : ℕ) → n + 1 ≤ room → n < room
one_fits n room more = omega (arith, more)

-- the items after one more is filed
pub filed : {A : Type 0} (items before history : List A) (e f : A) → items ≡ before ++ e ∷ [] → before ≡ history → e ≡ f → items ≡ history ++ f ∷ []
filed items before history e f is same named = is ∙ ap (λ es. es ++ e ∷ []) same ∙ ap (λ g. history ++ g ∷ []) named

pub record IsDone (reply : Reply) (history new : List Entry) (channels' : List (OutPoint × ChannelBook)) (seat : ℕ) (call : Call) : Type 0 where
  pub called : IsCall reply history new seat call
  pub keeps : AreLeft new channels'

pub step_done : (history new : List Entry) (channels : List (OutPoint × ChannelBook)) (seat c : ℕ) (x y : ChannelBook) (step : Step) (m : Option Message) → AreLeft history channels
    → slice_get (values_of channels) c ≡ Some x → book_step_refusal peer_tokens x step ≡ None → cons_option m [] ≡ messages_of x.state step → y ≡ with_state (state_stepped step) x
    → new ≡ history ++ entry seat (Stepping c step) ∷ [] → IsDone (stepped (Ok (cons_option m []))) history new (set_value_at channels c y) seat (Stepping c step)
step_done history new channels seat c x y step m k found none message written_as is =
    let answer = step_answer (replay history) c x step m (stands history channels k c x found) none message in
    record {
      called = taken history new seat (Stepping c step) (stepped (Ok (cons_option m []))) answer refl is;
      keeps = keeping_at (with_state (state_stepped step)) (step_leaves_terms step) history new channels seat (Stepping c step) (stepped (Ok (cons_option m []))) c x y refl k answer refl is found written_as tt;
    }

pub revoke_done : (history new : List Entry) (channels : List (OutPoint × ChannelBook)) (seat c : ℕ) (x y : ChannelBook) (secret : List ℕ) (next_point : Key) (n : ℕ) → AreLeft history channels
    → slice_get (values_of channels) c ≡ Some x → receive_refusal peer_tokens x.state (RevokeAndAck (record { secret = secret; next_point = next_point })) ≡ None → n ≡ length x.state.secrets → y ≡ with_state (λ s. after s (RevokeAndAck (record { secret = secret; next_point = next_point }))) x
    → new ≡ history ++ entry seat (Revoke c (record { secret = secret; next_point = next_point })) ∷ [] → IsDone (revoked (Ok n)) history new (set_value_at channels c y) seat (Revoke c (record { secret = secret; next_point = next_point }))
revoke_done history new channels seat c x y secret next_point n k found none number written_as is =
    let answer = revoke_answer (replay history) c x secret next_point n (stands history channels k c x found) none number in
    record {
      called = taken history new seat (Revoke c (record { secret = secret; next_point = next_point })) (revoked (Ok n)) answer refl is;
      keeps = keeping_at (with_state (λ s. after s (RevokeAndAck (record { secret = secret; next_point = next_point })))) (λ ch. refl) history new channels seat (Revoke c (record { secret = secret; next_point = next_point })) (revoked (Ok n)) c x y refl k answer refl is found written_as tt;
    }

pub sign_done : (history new : List Entry) (channels : List (OutPoint × ChannelBook)) (seat c : ℕ) (x y : ChannelBook) (m : Message) → AreLeft history channels
    → slice_get (values_of channels) c ≡ Some x → sign_refusal x ≡ None → m ≡ signature_message peer_tokens x.state → y ≡ with_state after_sign x
    → new ≡ history ++ entry seat (Sign c) ∷ [] → IsDone (signed (Ok m)) history new (set_value_at channels c y) seat (Sign c)
sign_done history new channels seat c x y m k found none message written_as is =
    let answer = sign_answer (replay history) c x m (stands history channels k c x found) none message in
    record {
      called = taken history new seat (Sign c) (signed (Ok m)) answer refl is;
      keeps = keeping_at (with_state after_sign) (λ ch. refl) history new channels seat (Sign c) (signed (Ok m)) c x y refl k answer refl is found written_as tt;
    }

pub open_done : (history new : List Entry) (channels channels' : List (OutPoint × ChannelBook)) (seat n : ℕ) (o : Opening) → AreLeft history channels
    → nat_le MAX_CHANNELS (length channels) ≡ false → is_some (lookup (same_outpoint o.terms.funding) channels) ≡ false → token_refusal o ≡ None → n ≡ length channels
    → channels' ≡ channels ++ (o.terms.funding, opened_by o) ∷ [] → new ≡ history ++ entry seat (Open o) ∷ [] → IsDone (opened (Ok n)) history new channels' seat (Open o)
open_done history new channels channels' seat n o k room absent token index more is =
    let many = as_many history channels k in
    let other = sym (funds history channels k o.terms.funding) ∙ absent in
    let answer = open_answer (replay history) o n (ap (nat_le MAX_CHANNELS) (sym many) ∙ room) other token (index ∙ many) in
    record {
      called = taken history new seat (Open o) (opened (Ok n)) answer refl is;
      keeps = keeping history new channels channels' seat (Open o) (opened (Ok n)) k answer refl is (more ∙ joined history channels k (opened_by o)) tt;
    }

pub close_done : (history new : List Entry) (channels : List (OutPoint × ChannelBook)) (seat c : ℕ) (x y : ChannelBook) (n : ℕ) → AreLeft history channels
    → slice_get (values_of channels) c ≡ Some x → n ≡ x.state.number → y ≡ with_closed x
    → new ≡ history ++ entry seat (Close c) ∷ [] → IsDone (closed (Ok n)) history new (set_value_at channels c y) seat (Close c)
close_done history new channels seat c x y n k found number written_as is =
    let answer = close_answer (replay history) c x n (stands history channels k c x found) number in
    record {
      called = taken history new seat (Close c) (closed (Ok n)) answer refl is;
      keeps = keeping_at with_closed (λ ch. refl) history new channels seat (Close c) (closed (Ok n)) c x y refl k answer refl is found written_as tt;
    }

-- ---- refused calls

refused : (history : List Entry) (seat : ℕ) (call : Call) (reply : Reply) → reply_of peer_tokens history call ≡ reply → is_accepted reply ≡ false
    → IsCall reply history history seat call
refused history seat call reply answer rejected = inr (sym answer, ap (λ b. extended b history seat call) (sym (ap is_accepted answer ∙ rejected)))

-- a call of a channel that is not there
pub not_there : (history : List Entry) (channels : List (OutPoint × ChannelBook)) (seat c : ℕ) (call : Call) (reply : Reply) → AreLeft history channels → length channels ≤ c
    → ((chs : Channels) → slice_get chs c ≡ None → answer_of peer_tokens chs call ≡ reply) → is_accepted reply ≡ false → IsCall reply history history seat call
not_there history channels seat c call reply k past answer rejected =
    refused history seat call reply (answer (replay history) (slice_get_past (replay history) c (subst (λ n. n ≤ c) (as_many history channels k) past))) rejected

pub none_to_keep : (c n : ℕ) (claims : List ClaimParts) (chs : Channels) → slice_get chs c ≡ None → answer_of peer_tokens chs (Keep c n claims) ≡ kept (Err NoChannelToKeep)
none_to_keep c n claims chs none = rw none refl

pub none_to_release : (c : ℕ) (b : Batch) (chs : Channels) → slice_get chs c ≡ None → answer_of peer_tokens chs (Release c b) ≡ released (Err NoChannelToRelease)
none_to_release c b chs none = rw none refl

pub none_to_step : (c : ℕ) (step : Step) (chs : Channels) → slice_get chs c ≡ None → answer_of peer_tokens chs (Stepping c step) ≡ stepped (Err NoChannelToStep)
none_to_step c step chs none = rw none refl

pub none_to_revoke : (c : ℕ) (revocation : Revocation) (chs : Channels) → slice_get chs c ≡ None → answer_of peer_tokens chs (Revoke c revocation) ≡ revoked (Err NoChannelToStep)
none_to_revoke c revocation chs none = rw none refl

pub none_to_sign : (c : ℕ) (chs : Channels) → slice_get chs c ≡ None → answer_of peer_tokens chs (Sign c) ≡ signed (Err NoChannelToSign)
none_to_sign c chs none = rw none refl

pub none_to_close : (c : ℕ) (chs : Channels) → slice_get chs c ≡ None → answer_of peer_tokens chs (Close c) ≡ closed (Err NoChannelToClose)
none_to_close c chs none = rw none refl

pub is_none : {A : Type 0} (o : Option A) → is_some o ≡ false → o ≡ None
is_none None e = refl
is_none (Some x) e = absurd cc

pub no_room : (m n : ℕ) → n < m → nat_le m n ≡ false
no_room m n less = grind (arith, nat_tests)

pub same_funding : (history : List Entry) (channels : List (OutPoint × ChannelBook)) (seat : ℕ) (o : Opening) → AreLeft history channels
    → nat_le MAX_CHANNELS (length channels) ≡ false → is_some (lookup (same_outpoint o.terms.funding) channels) ≡ true → IsCall (opened (Err SameFunding)) history history seat (Open o)
same_funding history channels seat o k room there =
    let room_left = ap (nat_le MAX_CHANNELS) (sym (as_many history channels k)) ∙ room in
    refused history seat (Open o) (opened (Err SameFunding)) (funding_answer (replay history) o room_left (sym (funds history channels k o.terms.funding) ∙ there)) refl

pub no_token : (history : List Entry) (channels : List (OutPoint × ChannelBook)) (seat : ℕ) (o : Opening) (e : OpenError) → AreLeft history channels
    → nat_le MAX_CHANNELS (length channels) ≡ false → is_some (lookup (same_outpoint o.terms.funding) channels) ≡ false → IsOpenRefusal (token_refusal o) e
    → IsCall (opened (Err e)) history history seat (Open o)
no_token history channels seat o e k room absent h = by e h
  where
    room_left : nat_le MAX_CHANNELS (length (replay history)) ≡ false
    room_left = ap (nat_le MAX_CHANNELS) (sym (as_many history channels k)) ∙ room

    other : is_funding (replay history) o.terms.funding ≡ false
    other = sym (funds history channels k o.terms.funding) ∙ absent

    first : (r : OpenError) → token_refusal o ≡ Some r → IsCall (opened (Err r)) history history seat (Open o)
    first r is = refused history seat (Open o) (opened (Err r)) (token_answer (replay history) o r room_left other is) refl

    by : (r : OpenError) → IsOpenRefusal (token_refusal o) r → IsCall (opened (Err r)) history history seat (Open o)
    by out_of_memory is = inl (refl, refl)
    by BookFull is = first BookFull is
    by SameFunding is = first SameFunding is
    by BadSignature is = first BadSignature is

pub release_done : (history new : List Entry) (channels : List (OutPoint × ChannelBook)) (seat c : ℕ) (x : ChannelBook) (b : Batch) (f : Filling) → AreLeft history channels
    → slice_get (values_of channels) c ≡ Some x → fill_refusal b.claims b.outputs (rights_of x.state) b.preimages ≡ None → f ≡ filling_by b
    → new ≡ history ++ entry seat (Release c b) ∷ [] → AllByRecursion IsWhole b.claims → IsDone (released (Ok f)) history new channels seat (Release c b)
release_done history new channels seat c x b f k found none filled is whole =
    let answer = release_answer (replay history) c x b f (stands history channels k c x found) none filled in
    record {
      called = taken history new seat (Release c b) (released (Ok f)) answer refl is;
      keeps = keeping history new channels channels seat (Release c b) (released (Ok f)) k answer refl is k.left whole;
    }

pub keep_done : (history new : List Entry) (channels : List (OutPoint × ChannelBook)) (seat c n : ℕ) (x y : ChannelBook) (claims : List ClaimParts) → AreLeft history channels
    → slice_get (values_of channels) c ≡ Some x → keep_refusal x n claims ≡ None → y ≡ with_kept n x
    → new ≡ history ++ entry seat (Keep c n claims) ∷ [] → AllByRecursion IsWhole claims → IsDone (kept (Ok tt)) history new (set_value_at channels c y) seat (Keep c n claims)
keep_done history new channels seat c n x y claims k found none written_as is whole =
    let answer = keep_answer (replay history) c n x claims (stands history channels k c x found) none in
    record {
      called = taken history new seat (Keep c n claims) (kept (Ok tt)) answer refl is;
      keeps = keeping_at (with_kept n) (λ ch. refl) history new channels seat (Keep c n claims) (kept (Ok tt)) c x y refl k answer refl is found written_as whole;
    }
