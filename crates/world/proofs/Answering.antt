-- What a call of its book does to a side.
use Rattle.std.proofs.Common.{◌≡◌, ℕ, zero, suc, Bool, true, false, List, [], ◌∷◌, length, Option, Some, None, Ok, Err, refl, sym, ap, subst, ◌∙◌, inl, inr}
use Rattle.std.proofs.lemmas.List.{reverse-append}
use Rattle.std.proofs.lemmas.Option.{same_Some}
use Rattle.std.specs.Prelude.{is_some}
use Rattle.std.specs.List.{cons_option}
use Rattle.channel.specs.declared.messages.Message.{Message}
use Rattle.channel.specs.Tokens.{peer_tokens}
use Rattle.book.specs.declared.calls.Call.{Call}
use Rattle.book.specs.declared.calls.Call.TheVariants as calls
use Rattle.book.specs.declared.calls.Entry.{Entry}
use Rattle.book.specs.Books.{Channels, at_index, channels_after, replayed, replay}
use Rattle.book.specs.Replies.{Reply, opened, stepped, signed, revoked, kept, released, closed, is_accepted, answer_of, extended}
use Rattle.book.specs.Calling.{no_memory_of, IsCall}
use Rattle.world.specs.declared.errors.EventError.{EventError}
use Rattle.world.specs.declared.errors.EventError.TheVariants as errors
use Rattle.world.specs.declared.limits.TheConstants.{SEAT}
use Rattle.book.specs.Accepted.{AreWhole}
use Rattle.world.specs.Worlds.{Node, IsNode, answer_to, after_call, opens_none}
use Rattle.book.specs.Acts.{messages_in}
use Rattle.world.specs.Refusing.{refusal_in, IsRefusal, IsAnswered}

-- the first refusal is a refusal
pub refused : (first : Option EventError) (e : EventError) → first ≡ Some e → IsRefusal first e
refused first errors.NoMemory is = tt
refused first errors.NoSuchChannel is = is
refused first errors.NoMessage is = is
refused first errors.NoSuchTx is = is
refused first errors.NoJob is = is
refused first errors.MixedChannels is = is
refused first errors.OverValue is = is
refused first errors.TooDeep is = is
refused first (errors.Channel r) is = is
refused first (errors.Sign r) is = is
refused first (errors.Keep r) is = is
refused first (errors.Fill r) is = is
refused first errors.ChannelClosed is = is

-- ---- replies

pub accepted_none : (reply : Reply) → is_accepted reply ≡ true → refusal_in reply ≡ None
accepted_none (opened r) ok = refl
accepted_none (stepped (Ok x)) ok = refl
accepted_none (signed (Ok x)) ok = refl
accepted_none (revoked (Ok x)) ok = refl
accepted_none (kept (Ok x)) ok = refl
accepted_none (released (Ok x)) ok = refl
accepted_none (closed (Ok x)) ok = refl
accepted_none (stepped (Err e)) ok = absurd cc
accepted_none (signed (Err e)) ok = absurd cc
accepted_none (revoked (Err e)) ok = absurd cc
accepted_none (kept (Err e)) ok = absurd cc
accepted_none (released (Err e)) ok = absurd cc
accepted_none (closed (Err e)) ok = absurd cc

-- a reply to a call that opens no channel is refused by an event's refusal
abbrev is_opening : Reply → Bool
is_opening (opened r) = true
is_opening reply = false

refused_some : (reply : Reply) → is_opening reply ≡ false → is_accepted reply ≡ false → is_some (refusal_in reply) ≡ true
refused_some (opened r) other not_accepted = absurd cc
refused_some (stepped (Ok x)) other not_accepted = absurd cc
refused_some (signed (Ok x)) other not_accepted = absurd cc
refused_some (revoked (Ok x)) other not_accepted = absurd cc
refused_some (kept (Ok x)) other not_accepted = absurd cc
refused_some (released (Ok x)) other not_accepted = absurd cc
refused_some (closed (Ok x)) other not_accepted = absurd cc
refused_some (stepped (Err e)) other not_accepted = refl
refused_some (signed (Err e)) other not_accepted = refl
refused_some (revoked (Err e)) other not_accepted = refl
refused_some (kept (Err e)) other not_accepted = refl
refused_some (released (Err e)) other not_accepted = refl
refused_some (closed (Err e)) other not_accepted = refl

no_opening : (call : Call) (chs : Channels) → opens_none call ≡ true → is_opening (answer_of peer_tokens chs call) ≡ false
no_opening (calls.Open o) chs none = absurd cc
no_opening (calls.Step c step) chs none = refl
no_opening (calls.Sign c) chs none = refl
no_opening (calls.Revoke c revocation) chs none = refl
no_opening (calls.Keep c n claims) chs none = refl
no_opening (calls.Release c batch) chs none = refl
no_opening (calls.Close c) chs none = refl

-- out of memory is one of these refusals, and not an accepted reply
memory_is : (call : Call) → opens_none call ≡ true → refusal_in (no_memory_of call) ≡ Some errors.NoMemory
memory_is (calls.Open o) none = absurd cc
memory_is (calls.Step c step) none = refl
memory_is (calls.Sign c) none = refl
memory_is (calls.Revoke c revocation) none = refl
memory_is (calls.Keep c n claims) none = refl
memory_is (calls.Release c batch) none = refl
memory_is (calls.Close c) none = refl

memory_refused : (call : Call) → is_accepted (no_memory_of call) ≡ false
memory_refused (calls.Open o) = refl
memory_refused (calls.Step c step) = refl
memory_refused (calls.Sign c) = refl
memory_refused (calls.Revoke c revocation) = refl
memory_refused (calls.Keep c n claims) = refl
memory_refused (calls.Release c batch) = refl
memory_refused (calls.Close c) = refl

true_false : true ≡ false → ⊥
true_false e = absurd cc

pub has_refusal : (n : Node) (history : List Entry) (call : Call) (reply : Reply) → opens_none call ≡ true → IsCall reply n.history history SEAT call
    → is_accepted reply ≡ false → is_some (refusal_in reply) ≡ true
has_refusal n history call reply none (inl (is, same)) not_accepted = ap (λ r. is_some (refusal_in r)) is ∙ ap (λ (o : Option EventError). is_some o) (memory_is call none)
has_refusal n history call reply none (inr (is, after)) not_accepted = refused_some reply (ap is_opening is ∙ no_opening call (replay n.history) none) not_accepted

-- what an accepted reply says
pub record IsDone (n new : Node) (call : Call) (reply : Reply) : Type 0 where
  pub answer : answer_to n call ≡ reply
  pub after : new ≡ after_call call n

pub is_done : (n new : Node) (call : Call) (reply : Reply) → IsCall reply n.history new.history SEAT call → new ≡ record n { history = new.history }
    → is_accepted reply ≡ true → IsDone n new call reply
is_done n new call reply (inl (is, same)) rest ok = absurd (true_false (sym ok ∙ ap is_accepted is ∙ memory_refused call))
is_done n new call reply (inr (is, after)) rest ok = record { answer = sym is; after = rest ∙ ap (λ h. record n { history = h }) after }

pub is_answered : (n new : Node) (call : Call) (reply : Reply) (m : Option Message) → IsCall reply n.history new.history SEAT call → new ≡ record n { history = new.history }
    → is_accepted reply ≡ true → messages_in reply ≡ cons_option m [] → IsAnswered call (Ok m) n new
is_answered n new call reply m is rest ok sent =
    let d = is_done n new call reply is rest ok in
    (ap refusal_in d.answer ∙ accepted_none reply ok, ap messages_in d.answer ∙ sent, d.after)

-- what a refused reply says
pub is_undone : (n new : Node) (call : Call) (reply : Reply) (e : EventError) → opens_none call ≡ true → IsCall reply n.history new.history SEAT call
    → new ≡ record n { history = new.history } → is_accepted reply ≡ false → refusal_in reply ≡ Some e → IsRefusal (refusal_in (answer_to n call)) e × (new ≡ n)
is_undone n new call reply e none (inl (is, same)) rest not_accepted first = (
  subst (λ (x : EventError). IsRefusal (refusal_in (answer_to n call)) x) (same_Some _ _ (sym (memory_is call none) ∙ ap refusal_in (sym is) ∙ first)) tt,
  rest ∙ ap (λ h. record n { history = h }) same,
)
is_undone n new call reply e none (inr (is, after)) rest not_accepted first = (
  refused _ e (ap refusal_in (sym is) ∙ first),
  rest ∙ ap (λ h. record n { history = h }) (after ∙ ap (λ b. extended b n.history SEAT call) (ap is_accepted (sym is) ∙ not_accepted)),
)

-- ---- what a side keeps

pub length-at_index : {A : Type 0} (f : A → A) (c : ℕ) (xs : List A) → length (at_index f c xs) ≡ length xs
length-at_index f c [] = refl
length-at_index f zero (x ∷ xs) = refl
length-at_index f (suc c) (x ∷ xs) = ap suc (length-at_index f c xs)

-- calls that open no channel
abbrev pub OpensNone : Call → Type 0
OpensNone call = (chs : Channels) → length (channels_after call chs) ≡ length chs

pub opens_nothing : (call : Call) → opens_none call ≡ true → OpensNone call
opens_nothing (calls.Open o) none = absurd cc
opens_nothing (calls.Step c step) none = λ chs. length-at_index _ c chs
opens_nothing (calls.Sign c) none = λ chs. length-at_index _ c chs
opens_nothing (calls.Revoke c revocation) none = λ chs. length-at_index _ c chs
opens_nothing (calls.Keep c n claims) none = λ chs. length-at_index _ c chs
opens_nothing (calls.Release c batch) none = λ chs. refl
opens_nothing (calls.Close c) none = λ chs. length-at_index _ c chs

extends : (b : Bool) (history : List Entry) (call : Call) → OpensNone call → length (replay (extended b history SEAT call)) ≡ length (replay history)
extends false history call none = refl
extends true history call none = ap (λ es. length (replayed es)) (reverse-append history (record { seat = SEAT; call = call } ∷ [])) ∙ none (replay history)

same_channels : (old new : List Entry) (call : Call) (reply : Reply) → IsCall reply old new SEAT call → OpensNone call → length (replay new) ≡ length (replay old)
same_channels old new call reply (inl (is, same)) none = ap (λ h. length (replay h)) same
same_channels old new call reply (inr (is, after)) none = ap (λ h. length (replay h)) after ∙ extends _ old call none

pub is_node : (n : Node) (history : List Entry) (call : Call) (reply : Reply) → IsNode n → IsCall reply n.history history SEAT call → OpensNone call
    → AreWhole history → IsNode (record n { history = history })
is_node n history call reply is called none whole = record {
  lines = is.lines ∙ sym (same_channels n.history history call reply called none);
  claims_are_whole = whole;
  jobs = is.jobs;
  taken = is.taken;
}
