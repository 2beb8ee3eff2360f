-- The preimages of each channel's fulfils, as they are kept.
use Rattle.std.proofs.Common.{◌≡◌, ℕ, zero, suc, ◌<◌, List, [], ◌∷◌, ◌++◌, length, map, Bool, true, false, Option, Some, None, Result, Ok, Err, cond, ◌+◌, ◌≤◌, refl, sym, ap, ◌∙◌, set, get_or, subst, arith, reverse}
use Rattle.std.specs.Prelude.{slice_get, unwrap_or, is_ok, OnOk, ◌==◌, if◌then◌else◌}
use Rattle.std.specs.Global.{Vec}
use Rattle.std.specs.List.{cons_option}
use Rattle.std.specs.Vec.{vec_len, vec_capacity}
use Rattle.std.proofs.lemmas.Bool.{and_parts}
use Rattle.std.proofs.lemmas.Bool.Decides.{nat_tests}
use Rattle.std.proofs.lemmas.List.{append-nil, length-map, length-append, reverse-append, reverse-reverse}
use Rattle.std.proofs.lemmas.Option.{none-some, same_Some, slice_get_read, slice_get_within}
use Rattle.std.proofs.lemmas.List.Elements.{filter_map-append}
use Rattle.tx.specs.declared.input.OutPoint.{OutPoint}
use Rattle.channel.specs.States.{Signing}
use Rattle.channel.specs.Tokens.{peer_tokens}
use Rattle.book.specs.declared.calls.Step.{Step}
use Rattle.book.specs.declared.calls.Call.{Call}
use Rattle.book.specs.declared.calls.Call.TheVariants.{Open, Step as Stepping, Sign, Revoke, Keep, Release, Close}
use Rattle.book.specs.declared.calls.Entry.{Entry}
use Rattle.book.specs.Books.{ChannelBook, Channels, at_index, opened_by, channels_after, replayed}
use Rattle.book.specs.declared.errors.StepError.TheVariants.{NoSuchChannel as NoChannelToStep}
use Rattle.book.specs.Replies.{is_accepted, answer_of, unless, book_step_refusal, messages_of}
use Rattle.book.specs.Accepted.{is_taken, are_accepted}
use Rattle.book.specs.Kept.{AreLeft}
use Rattle.book.specs.Knowing.{preimage_in, preimage_of, preimages_in}
use Rattle.book.specs.Fulfilled.{Preimages, preimages_after, preimages_replayed, preimages_of, AreBeside}
use Rattle.book.proofs.Fundings.{as_many}
use Rattle.book.proofs.Accepting.{asked_ok}

-- a channel's list is changed
written_by : (more : List (List ℕ)) (vs : List (Vec (List ℕ))) (c : ℕ) (v w : Vec (List ℕ)) → slice_get vs c ≡ Some v → w.items ≡ v.items ++ more
    → map (λ (x : Vec (List ℕ)). x.items) (set vs c w) ≡ at_index (λ own. own ++ more) c (map (λ (x : Vec (List ℕ)). x.items) vs)
written_by more [] c v w found is = absurd (none-some v found)
written_by more (x ∷ xs) zero v w found is = ap (λ y. y ∷ map (λ (z : Vec (List ℕ)). z.items) xs) (is ∙ ap (λ (z : Vec (List ℕ)). z.items ++ more) (sym (same_Some x v found)))
written_by more (x ∷ xs) (suc c) v w found is = ap (λ ys. x.items ∷ ys) (written_by more xs c v w found is)

-- nothing is appended to a list
pub nothing_more : (c : ℕ) (ps : List (List (List ℕ))) → at_index (λ own. own ++ []) c ps ≡ ps
nothing_more c [] = refl
nothing_more zero (p ∷ ps) = ap (λ q. q ∷ ps) (append-nil p)
nothing_more (suc c) (p ∷ ps) = ap (λ qs. p ∷ qs) (nothing_more c ps)

-- what was written is read back
written_there : {A : Type 0} (xs : List A) (c : ℕ) (x y z : A) → slice_get xs c ≡ Some x → slice_get (set xs c y) c ≡ Some z → z ≡ y
written_there [] c x y z found there = absurd (none-some x found)
written_there (u ∷ us) zero x y z found there = sym (same_Some y z there)
written_there (u ∷ us) (suc c) x y z found there = written_there us c x y z found there

-- a channel that has a list
module _ (vs : List (Vec (List ℕ))) (c : ℕ) (v w : Vec (List ℕ)) (within : c < length (map (λ (x : Vec (List ℕ)). x.items) vs)) (is : v ≡ get_or vs c v) where
  there : slice_get vs c ≡ Some v
  there = slice_get_read vs (length vs) c v refl (subst (λ n. c < n) (length-map vs (λ (x : Vec (List ℕ)). x.items)) within) is

  pub written : (more : List (List ℕ)) → w.items ≡ v.items ++ more → map (λ (x : Vec (List ℕ)). x.items) (set vs c w) ≡ at_index (λ own. own ++ more) c (map (λ (x : Vec (List ℕ)). x.items) vs)
  written more same = written_by more vs c v w there same

  pub kept : w.items ≡ v.items → map (λ (x : Vec (List ℕ)). x.items) (set vs c w) ≡ map (λ (x : Vec (List ℕ)). x.items) vs
  kept same = written [] (same ∙ sym (append-nil v.items)) ∙ nothing_more c (map (λ (x : Vec (List ℕ)). x.items) vs)

  pub roomy : {T E : Type 0} (r : Result T E) → OnOk r (vec_len w + 1 ≤ vec_capacity w) → OnOk r ((x : Vec (List ℕ)) → slice_get (set vs c w) c ≡ Some x → vec_len x < vec_capacity x)
  roomy (Ok t) room = λ x stands. subst (λ (y : Vec (List ℕ)). vec_len y < vec_capacity y) (sym (written_there vs c v w x there stands)) (omega (arith, room))
  roomy (Err e) room = tt

  pub has_room : ((x : Vec (List ℕ)) → slice_get vs c ≡ Some x → vec_len x < vec_capacity x) → vec_len v < vec_capacity v
  has_room room = room v there

-- a preimage was pushed
pub pushed : {T E : Type 0} (r : Result T E) (x : T) (before items : List (List ℕ)) (p : List ℕ) (more : List (List ℕ)) → r ≡ Ok x → items ≡ cond (is_ok r) (before ++ p ∷ []) before → p ∷ [] ≡ more → items ≡ before ++ more
pushed (Ok y) x before items p more ok is one = is ∙ ap (λ ps. before ++ ps) one
pushed (Err e) x before items p more ok is one = absurd cc

-- ---- what stands at an index, and that nothing stands past the end

abbrev at_or : Preimages → ℕ → List (List ℕ)
at_or ps c = unwrap_or (slice_get ps c) []

at_end : (ps : List (List (List ℕ))) (c : ℕ) → at_or (ps ++ [] ∷ []) c ≡ at_or ps c
at_end [] zero = refl
at_end [] (suc c) = refl
at_end (p ∷ ps) zero = refl
at_end (p ∷ ps) (suc c) = at_end ps c

as_long : {A : Type 0} (f : A → A) (c : ℕ) (xs : List A) → length (at_index f c xs) ≡ length xs
as_long f c [] = refl
as_long f zero (x ∷ xs) = refl
as_long f (suc c) (x ∷ xs) = ap suc (as_long f c xs)

-- the numbers of two channels
before_next : (c : ℕ) → (0 == suc c) ≡ false
before_next c = grind (arith, nat_tests)

past_none : (d : ℕ) → (suc d == 0) ≡ false
past_none d = grind (arith, nat_tests)

both_next : (d c : ℕ) → (suc d == suc c) ≡ (d == c)
both_next d c = grind (arith, nat_tests)

at_written : (more : List (List ℕ)) (d c : ℕ) (ps : List (List (List ℕ))) → d < length ps
    → at_or (at_index (λ own. own ++ more) d ps) c ≡ at_or ps c ++ (if d == c then more else [])
at_written more d c [] within = absurd (omega (arith, within))
at_written more zero zero (p ∷ ps) within = refl
at_written more zero (suc c) (p ∷ ps) within = rw (before_next c) (sym (append-nil (at_or ps c)))
at_written more (suc d) zero (p ∷ ps) within = rw (past_none d) (sym (append-nil p))
at_written more (suc d) (suc c) (p ∷ ps) within = at_written more d c ps (omega (arith, within)) ∙ ap (λ b. at_or ps c ++ (if b then more else [])) (sym (both_next d c))

-- ---- after a history

-- the history has one more entry
one_more : (history : List Entry) (e : Entry) → preimages_of (history ++ e ∷ []) ≡ preimages_after e.call (preimages_of history)
one_more history e = ap preimages_replayed (reverse-append history (e ∷ []))

-- there are as many lists as channels
many_after : (call : Call) (ps : Preimages) (chs : Channels) → length ps ≡ length chs → length (preimages_after call ps) ≡ length (channels_after call chs)
many_after (Open o) ps chs same = length-append ps ([] ∷ []) ∙ ap (λ n. n + 1) same ∙ sym (length-append chs (opened_by o ∷ []))
many_after (Stepping c step) ps chs same = as_long _ c ps ∙ same ∙ sym (as_long _ c chs)
many_after (Sign c) ps chs same = same ∙ sym (as_long _ c chs)
many_after (Revoke c revocation) ps chs same = same ∙ sym (as_long _ c chs)
many_after (Keep c n claims) ps chs same = same ∙ sym (as_long _ c chs)
many_after (Release c batch) ps chs same = same
many_after (Close c) ps chs same = same ∙ sym (as_long _ c chs)

many : (es : List Entry) → length (preimages_replayed es) ≡ length (replayed es)
many [] = refl
many (e ∷ es) = many_after e.call (preimages_replayed es) (replayed es) (many es)

-- the channel that a step is taken in is there
taken_within : (tokens_of : Signing) (chs : Channels) (d : ℕ) (step : Step) → is_accepted (answer_of tokens_of chs (Stepping d step)) ≡ true → d < length chs
taken_within tokens_of chs d step ok =
    let there = asked_ok NoChannelToStep (slice_get chs d) (λ ch. unless (λ e. e) (book_step_refusal tokens_of ch step) (messages_of ch.state step)) ok in
    slice_get_within chs d there.0 there.1

chosen : (b : Bool) (o : Option (List ℕ)) → (if b then cons_option o [] else []) ≡ cons_option (if b then o else None) []
chosen true o = refl
chosen false o = refl

-- an accepted call appends to each channel's list what the call is to that channel
added : (tokens_of : Signing) (chs : Channels) (c : ℕ) (call : Call) (ps : Preimages) → length ps ≡ length chs → is_accepted (answer_of tokens_of chs call) ≡ true
    → at_or (preimages_after call ps) c ≡ at_or ps c ++ cons_option (preimage_of c call) []
added tokens_of chs c (Open o) ps same ok = at_end ps c ∙ sym (append-nil (at_or ps c))
added tokens_of chs c (Stepping d step) ps same ok =
    at_written (cons_option (preimage_in step) []) d c ps (subst (λ n. d < n) (sym same) (taken_within tokens_of chs d step ok))
    ∙ ap (λ more. at_or ps c ++ more) (chosen (d == c) (preimage_in step))
added tokens_of chs c (Sign d) ps same ok = sym (append-nil (at_or ps c))
added tokens_of chs c (Revoke d revocation) ps same ok = sym (append-nil (at_or ps c))
added tokens_of chs c (Keep d n claims) ps same ok = sym (append-nil (at_or ps c))
added tokens_of chs c (Release d batch) ps same ok = sym (append-nil (at_or ps c))
added tokens_of chs c (Close d) ps same ok = sym (append-nil (at_or ps c))

none_there : (c : ℕ) → at_or [] c ≡ []
none_there zero = refl
none_there (suc c) = refl

-- each channel's preimages are those of its fulfils in the history
are_in : (tokens_of : Signing) (es : List Entry) (c : ℕ) → are_accepted tokens_of es ≡ true → at_or (preimages_replayed es) c ≡ preimages_in c (reverse es)
are_in tokens_of [] c ok = none_there c
are_in tokens_of (e ∷ es) c ok =
    let parts = and_parts (is_taken tokens_of es e) (are_accepted tokens_of es) ok in
    added tokens_of (replayed es) c e.call (preimages_replayed es) (many es) parts.0
    ∙ ap (λ ps. ps ++ cons_option (preimage_of c e.call) []) (are_in tokens_of es c parts.1)
    ∙ sym (ap (preimages_in c) (reverse-append (e ∷ []) es) ∙ filter_map-append (λ (x : Entry). preimage_of c x.call) (reverse es) (e ∷ []))

-- ---- what is kept beside a history

module _ (history : List Entry) (channels : List (OutPoint × ChannelBook)) (ps : Preimages) (k : AreBeside history channels ps) where
  pub of_channel : (c : ℕ) → unwrap_or (slice_get ps c) [] ≡ preimages_in c history
  of_channel c = ap (λ qs. at_or qs c) k.fulfilled ∙ are_in peer_tokens (reverse history) c k.left.accepted ∙ ap (preimages_in c) (reverse-reverse history)

  pub for_each : length ps ≡ length channels
  for_each = ap length k.fulfilled ∙ many (reverse history) ∙ sym (as_many history channels k.left)

  -- one more call
  pub called : (new : List Entry) (channels' : List (OutPoint × ChannelBook)) (ps' : Preimages) (e : Entry) → new ≡ history ++ e ∷ [] → ps' ≡ preimages_after e.call ps → AreLeft new channels'
      → AreBeside new channels' ps'
  called new channels' ps' e is after left = record {
    left = left;
    fulfilled = after ∙ ap (preimages_after e.call) k.fulfilled ∙ sym (one_more history e) ∙ ap preimages_of (sym is);
  }

  -- a call that is refused
  pub uncalled : (new : List Entry) (channels' : List (OutPoint × ChannelBook)) (ps' : Preimages) → new ≡ history → ps' ≡ ps → AreLeft new channels' → AreBeside new channels' ps'
  uncalled new channels' ps' is same left = record { left = left; fulfilled = same ∙ k.fulfilled ∙ ap preimages_of (sym is) }
