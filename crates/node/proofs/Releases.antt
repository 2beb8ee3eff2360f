-- What the book answers to a release.
use Rattle.std.proofs.Common.{◌≡◌, ℕ, ◌≤◌, Bool, true, false, List, [], ◌∷◌, Option, Some, None, Result, Ok, Err, refl, sym, ap, ◌∙◌, subst, ⊎_elim, arith}
use Rattle.std.specs.Prelude.{nat_lt, not, slice_get}
use Rattle.std.proofs.lemmas.Bool.Decides.{nat_tests}
use Rattle.std.proofs.lemmas.Option.{none-some}
use Rattle.tx.specs.Fields.{Transaction}
use Rattle.tx.specs.declared.limits.TheConstants.{MAX_VALUE}
use Rattle.channel.specs.Tokens.{peer_tokens}
use Rattle.channel.specs.Rights.{rights_of}
use Rattle.filling.specs.declared.errors.FillError.{FillError}
use Rattle.filling.specs.Filled.{Filling}
use Rattle.book.specs.declared.calls.Batch.{Batch}
use Rattle.book.specs.declared.calls.Call.TheVariants.{Release}
use Rattle.book.specs.declared.calls.Entry.{Entry}
use Rattle.book.specs.declared.calling.Reply.{Reply as Answer}
use Rattle.book.specs.declared.calling.Reply.TheVariants as answers
use Rattle.book.specs.declared.errors.ReleaseError.{ReleaseError}
use Rattle.book.specs.declared.errors.ReleaseError.TheVariants.{NoSuchChannel, Unfilled}
use Rattle.book.specs.Books.{ChannelBook, replay}
use Rattle.book.specs.Calling.{no_memory_of, filling_by}
use Rattle.book.specs.Dispatch.{reply_form}
use Rattle.book.specs.Signers.{fill_refusal}
use Rattle.book.specs.Replies.{Reply, opened, stepped, signed, revoked, kept, released, closed, asked, unless, fill_answer, is_accepted, reply_of, extended, history_after, if_so}
use Rattle.desk.specs.Histories.{History}
use Rattle.desk.specs.Answers.{IsAnswered, calls_after}
use Rattle.side.specs.declared.due.DueClaim.{DueClaim}
use Rattle.side.specs.declared.batches.BatchError.TheVariants.{MixedChannels, OverValue}
use Rattle.side.specs.Batches.{are_of, value_of, batch_refusal}
use Rattle.node.specs.Entering.{by_release}
use Rattle.node.proofs.Adding.{unanswered}

-- ---- the reply

abbrev pub is_release : Reply → Bool
is_release (opened r) = false
is_release (stepped r) = false
is_release (signed r) = false
is_release (revoked r) = false
is_release (kept r) = false
is_release (released r) = true
is_release (closed r) = false

-- the reply to a release is one of a release
pub always_released : (n : ℕ) (channel : ℕ) (batch : Batch) (before after : List Entry) (seen last : History) (answer : Answer) → IsAnswered n before seen (Release channel batch) (reply_form answer) after last
    → ((r : Result Filling ReleaseError) → answer ≡ answers.Released r → ⊥) → ⊥
always_released n channel batch before after seen last answer is other = by answer told other
  where
    told : is_release (reply_form answer) ≡ true
    told = ⊎_elim
        (λ (none_left : (reply_form answer ≡ no_memory_of (Release channel batch)) × (after ≡ before) × (last ≡ is.0)). ap is_release none_left.0)
        (λ (it : (reply_form answer ≡ reply_of peer_tokens is.0 (Release channel batch)) × (after ≡ calls_after before is.0 n (Release channel batch)) × (last ≡ history_after peer_tokens is.0 n (Release channel batch))). ap is_release it.0)
        is.2

    by : (a : Answer) → is_release (reply_form a) ≡ true → ((r : Result Filling ReleaseError) → a ≡ answers.Released r → ⊥) → ⊥
    by (answers.Opened r) e other = absurd cc
    by (answers.Stepped (Ok m)) e other = absurd cc
    by (answers.Stepped (Err x)) e other = absurd cc
    by (answers.Signed r) e other = absurd cc
    by (answers.Revoked r) e other = absurd cc
    by (answers.Kept r) e other = absurd cc
    by (answers.Released r) e other = absurd (other r refl)
    by (answers.Closed r) e other = absurd cc

-- ---- an accepted one

filled_then : (r : Option FillError) (x f : Filling) → released (Ok f) ≡ released (unless Unfilled r x) → f ≡ x
filled_then None x f e = cc
filled_then (Some r) x f e = cc

filled_in : (o : Option ChannelBook) (batch : Batch) (f : Filling) → released (Ok f) ≡ released (asked NoSuchChannel o (λ ch. fill_answer ch.state batch.claims batch.outputs batch.preimages)) → f ≡ filling_by batch
filled_in None batch f e = cc
filled_in (Some ch) batch f e = filled_then (fill_refusal batch.claims batch.outputs (rights_of ch.state) batch.preimages) (filling_by batch) f e

-- the reply to a release, by the reply of the desk
told_as : (n channel : ℕ) (batch : Batch) (before after : List Entry) (seen last : History) (answer : Answer) (r : Result Filling ReleaseError) → answer ≡ answers.Released r → IsAnswered n before seen (Release channel batch) (reply_form answer) after last
    → IsAnswered n before seen (Release channel batch) (released r) after last
told_as n channel batch before after seen last answer r told is = subst (λ (a : Answer). IsAnswered n before seen (Release channel batch) (reply_form a) after last) told is

filled_by_book : (n channel : ℕ) (batch : Batch) (before after : List Entry) (seen last : History) (f : Filling) → IsAnswered n before seen (Release channel batch) (released (Ok f)) after last
    → (f ≡ filling_by batch) × (after ≡ by_release n channel batch before)
filled_by_book n channel batch before after seen last f is = ⊎_elim
    (λ (none_left : (released (Ok f) ≡ no_memory_of (Release channel batch)) × (after ≡ before) × (last ≡ is.0)). let e = none_left.0 in cc)
    (λ (it : (released (Ok f) ≡ reply_of peer_tokens is.0 (Release channel batch)) × (after ≡ calls_after before is.0 n (Release channel batch)) × (last ≡ history_after peer_tokens is.0 n (Release channel batch))). (
      filled_in (slice_get (replay is.0) channel) batch f it.0,
      it.1 ∙ ap (λ b. extended b before n (Release channel batch)) (ap is_accepted (sym it.0)),
    ))
    is.2

-- the transaction is the filling of the batch, and the release came to the seat's calls
pub is_filled : (n channel : ℕ) (batch : Batch) (before after : List Entry) (seen last : History) (answer : Answer) (f : Filling) (tx : Transaction) → answer ≡ answers.Released (Ok f) → tx ≡ f.tx
    → IsAnswered n before seen (Release channel batch) (reply_form answer) after last → (tx ≡ (filling_by batch).tx) × (after ≡ by_release n channel batch before)
is_filled n channel batch before after seen last answer f tx told gives is =
    let made = filled_by_book n channel batch before after seen last f (told_as n channel batch before after seen last answer (Ok f) told is) in
    (gives ∙ ap (λ (x : Filling). x.tx) made.0, made.1)

-- a refused one
pub is_unfilled : (n channel : ℕ) (batch : Batch) (before after : List Entry) (seen last : History) (answer : Answer) (e : ReleaseError) → answer ≡ answers.Released (Err e)
    → IsAnswered n before seen (Release channel batch) (reply_form answer) after last → after ≡ before
is_unfilled n channel batch before after seen last answer e told is =
    unanswered n (Release channel batch) before after seen last (released (Err e)) refl (told_as n channel batch before after seen last answer (Err e) told is)

-- ---- a claim by itself

small_enough : (v : ℕ) → nat_lt MAX_VALUE v ≡ false → v ≤ MAX_VALUE
small_enough v little = grind (arith, nat_tests)

-- a claim that can be released is not worth too much
pub little_enough : (due : DueClaim) → batch_refusal due.channel (due ∷ []) ≡ None → value_of (due ∷ []) ≤ MAX_VALUE
little_enough due fits = small_enough (value_of (due ∷ [])) (go (are_of due.channel (due ∷ [])) (nat_lt MAX_VALUE (value_of (due ∷ []))) fits)
  where
    go : (a b : Bool) → if_so (not a) MixedChannels (if_so b OverValue None) ≡ None → b ≡ false
    go true false e = refl
    go true true e = absurd (none-some OverValue (sym e))
    go false b e = absurd (none-some MixedChannels (sym e))
