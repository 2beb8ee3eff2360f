-- Entries for tasks come to a seat's calls.
use Rattle.std.proofs.Common.{◌≡◌, ℕ, ◌+◌, ◌<◌, ◌≤◌, Bool, true, false, List, [], ◌∷◌, ◌++◌, length, map, take, get_or, refl, sym, ap, ◌∙◌, subst, ⊎_elim, append_assoc, append-nil}
use Rattle.std.proofs.lemmas.List.{take_more, take_all, map-append}
use Rattle.std.specs.Prelude.{Result, Ok, Err, OnErr, MatchResult}
use Rattle.channel.specs.Tokens.{peer_tokens}
use Rattle.book.specs.declared.calls.Batch.{Batch}
use Rattle.book.specs.declared.calls.Call.{Call}
use Rattle.book.specs.declared.calls.Call.TheVariants.{Release}
use Rattle.book.specs.declared.calls.Entry.{Entry}
use Rattle.book.specs.declared.errors.KeepError.{KeepError}
use Rattle.book.specs.Replies.{Reply, kept, is_accepted, reply_of, extended, history_after}
use Rattle.book.specs.Calling.{no_memory_of}
use Rattle.desk.specs.Histories.{History}
use Rattle.desk.specs.Answers.{IsAnswered, calls_after}
use Rattle.side.specs.declared.due.DueClaim.{DueClaim}
use Rattle.node.specs.Tasks.{Task, Does}
use Rattle.node.specs.Entering.{Made, nothing, left_out, entered, Adds, by_release}

-- ---- entries for tasks

made_then : (n : ℕ) (ts us : List Task) (es fs : List Entry) → Made n ts es → Made n us fs → Made n (ts ++ us) (es ++ fs)
made_then n _ us _ fs nothing g = g
made_then n _ us _ fs (left_out t ts es m) g = left_out t (ts ++ us) (es ++ fs) (made_then n ts us es fs m g)
made_then n _ us _ fs (entered t ts e es s d m) g = entered t (ts ++ us) e (es ++ fs) s d (made_then n ts us es fs m g)

none_made : (n : ℕ) (ts : List Task) → Made n ts []
none_made n [] = nothing
none_made n (t ∷ ts) = left_out t ts [] (none_made n ts)

pub adds_nothing : (n : ℕ) (ts : List Task) (before after : List Entry) → after ≡ before → Adds n ts before after
adds_nothing n ts before after same = record { entries = []; made = none_made n ts; after_is = same ∙ sym (append-nil before) }

pub adds_one : (n : ℕ) (t : Task) (call : Call) (before after : List Entry) → Does t call → after ≡ before ++ record { seat = n; call = call } ∷ [] → Adds n (t ∷ []) before after
adds_one n t call before after does one = record { entries = record { seat = n; call = call } ∷ []; made = entered t [] (record { seat = n; call = call }) [] refl does nothing; after_is = one }

pub adds_then : (n : ℕ) (ts us : List Task) (a b c : List Entry) → Adds n ts a b → Adds n us b c → Adds n (ts ++ us) a c
adds_then n ts us a b c f g = record {
  entries = f.entries ++ g.entries;
  made = made_then n ts us f.entries g.entries f.made g.made;
  after_is = g.after_is ∙ ap (λ l. l ++ g.entries) f.after_is ∙ append_assoc a f.entries g.entries;
}

-- from calls that are the same, by a seat of the same number
pub adds_from : (m n : ℕ) (ts : List Task) (a b c : List Entry) → m ≡ n → b ≡ a → Adds m ts b c → Adds n ts a c
adds_from m n ts a b c number same f = subst (λ (x : ℕ × List Entry). Adds x.0 ts x.1 c) (λ i. (number i, same i)) f

-- ---- one call

after_one : (b : Bool) (n : ℕ) (t : Task) (call : Call) (before after : List Entry) → Does t call → after ≡ extended b before n call → Adds n (t ∷ []) before after
after_one true n t call before after does is = adds_one n t call before after does is
after_one false n t call before after does is = adds_nothing n (t ∷ []) before after is

-- a call through the desk that does the task
pub answered : (n : ℕ) (t : Task) (call : Call) (before after : List Entry) (seen last : History) (reply : Reply) → Does t call → IsAnswered n before seen call reply after last → Adds n (t ∷ []) before after
answered n t call before after seen last reply does a = ⊎_elim
    (λ (none_left : (reply ≡ no_memory_of call) × (after ≡ before) × (last ≡ a.0)). adds_nothing n (t ∷ []) before after none_left.1)
    (λ (it : (reply ≡ reply_of peer_tokens a.0 call) × (after ≡ calls_after before a.0 n call) × (last ≡ history_after peer_tokens a.0 n call)).
    after_one (is_accepted (reply_of peer_tokens a.0 call)) n t call before after does it.1)
    a.2

-- a call that is refused
pub unanswered : (n : ℕ) (call : Call) (before after : List Entry) (seen last : History) (reply : Reply) → is_accepted reply ≡ false → IsAnswered n before seen call reply after last → after ≡ before
unanswered n call before after seen last reply refused a = ⊎_elim
    (λ (none_left : (reply ≡ no_memory_of call) × (after ≡ before) × (last ≡ a.0)). none_left.1)
    (λ (it : (reply ≡ reply_of peer_tokens a.0 call) × (after ≡ calls_after before a.0 n call) × (last ≡ history_after peer_tokens a.0 n call)).
    it.1 ∙ ap (λ b. extended b before n call) (ap is_accepted (sym it.0) ∙ refused))
    a.2

-- a keep that is refused
pub unkept : (n : ℕ) (call : Call) (before after : List Entry) (seen last : History) (r : Result (Unit {0}) KeepError) → IsAnswered n before seen call (kept r) after last → OnErr r (after ≡ before)
unkept n call before after seen last (Ok u) a = tt
unkept n call before after seen last (Err e) a = unanswered n call before after seen last (kept (Err e)) refl a

pub err_from : {A E : Type 0} (r : Result A E) (a b c : List Entry) → b ≡ a → OnErr r (c ≡ b) → OnErr r (c ≡ a)
err_from (Ok u) a b c same e = tt
err_from (Err x) a b c same e = e ∙ same

-- a release that gave a transaction
pub released_one : {A E : Type 0} (n channel : ℕ) (t : Task) (batch : Batch) (r : Result A E) (P : A → Type 0) (before after : List Entry) → Does t (Release channel batch)
    → MatchResult r (λ x. P x × (after ≡ by_release n channel batch before)) (λ _. after ≡ before) → Adds n (t ∷ []) before after
released_one n channel t batch (Ok x) P before after does m = adds_one n t (Release channel batch) before after does m.1
released_one n channel t batch (Err e) P before after does m = adds_nothing n (t ∷ []) before after m

pub unreleased : {A E : Type 0} (n channel : ℕ) (batch : Batch) (r : Result A E) (P : A → Type 0) (before after : List Entry)
    → MatchResult r (λ x. P x × (after ≡ by_release n channel batch before)) (λ _. after ≡ before) → OnErr r (after ≡ before)
unreleased n channel batch (Ok x) P before after m = tt
unreleased n channel batch (Err e) P before after m = m

-- ---- each of several

pub each_more : (f : DueClaim → Task) (n m : ℕ) (due : List DueClaim) (i : ℕ) (d : DueClaim) (a b c : List Entry) → i < length due → d ≡ get_or due i d → m ≡ n → Adds n (map f (take i due)) a b → Adds m (f d ∷ []) b c
    → Adds n (map f (take (i + 1) due)) a c
each_more f n m due i d a b c within is number before one =
    let more : map f (take (i + 1) due) ≡ map f (take i due) ++ f d ∷ [] = ap (map f) (take_more due i d within) ∙ map-append f (take i due) (get_or due i d ∷ []) ∙ ap (λ x. map f (take i due) ++ f x ∷ []) (sym is) in
    subst (λ ts. Adds n ts a c) (sym more) (adds_then n (map f (take i due)) (f d ∷ []) a b c before (adds_from m n (f d ∷ []) b b c number refl one))

pub each_done : (f : DueClaim → Task) (n : ℕ) (due : List DueClaim) (i : ℕ) (a b : List Entry) → length due ≤ i → Adds n (map f (take i due)) a b → Adds n (map f due) a b
each_done f n due i a b all done = subst (λ xs. Adds n (map f xs) a b) (take_all i due all) done
