-- A reply is the book's, at the end of its history.
use Rattle.std.proofs.Common.{◌≡◌, ℕ, Bool, true, false, List, refl, sym, subst, ap, ◌∙◌, ⊎_elim, inl, inr}
use Rattle.channel.specs.Tokens.{peer_tokens}
use Rattle.book.specs.declared.calls.Entry.{Entry}
use Rattle.book.specs.declared.calls.Call.{Call}
use Rattle.book.specs.Replies.{Reply, is_accepted, reply_of, extended, history_after}
use Rattle.book.specs.Calling.{no_memory_of, IsCall}
use Rattle.desk.specs.Histories.{History, calls_of}
use Rattle.desk.specs.Rule.{Follows}
use Rattle.desk.specs.Answers.{IsHistoryFor, IsAnswered, calls_after}
use Rattle.desk.proofs.Parts.{own_longer}

own_after : (n : ℕ) (h : History) (call : Call) (b : Bool) → calls_of n (extended b h n call) ≡ extended b (calls_of n h) n call
own_after n h call true = own_longer n h (record { seat = n; call = call }) refl
own_after n h call false = refl

-- the book was taken with the history h, called, and put back with the history x
pub answers : (n : ℕ) (before after : List Entry) (seen last h x : History) (call : Call) (reply : Reply) → IsHistoryFor n before seen h → after ≡ calls_of n x → last ≡ x → IsCall reply h x n call
    → IsAnswered n before seen call reply after last
answers n before after seen last h x call reply of out there did = (
  h,
  of,
  ⊎_elim
      (λ (none_left : (reply ≡ no_memory_of call) × (x ≡ h)). inl (none_left.0, out ∙ ap (calls_of n) none_left.1 ∙ of.mine, there ∙ none_left.1))
      (λ (it : (reply ≡ reply_of peer_tokens h call) × (x ≡ history_after peer_tokens h n call)).
      inr (it.0, out ∙ ap (calls_of n) it.1 ∙ own_after n h call (is_accepted (reply_of peer_tokens h call)) ∙ ap (λ l. calls_after l h n call) of.mine, there ∙ it.1))
      did,
)

follows_extended : (n : ℕ) (h : History) (call : Call) (b : Bool) → Follows n h (extended b h n call)
follows_extended n h call true = inr (record { seat = n; call = call }, refl, refl)
follows_extended n h call false = inl refl

pub followed : (n : ℕ) (h x : History) (call : Call) (reply : Reply) → IsCall reply h x n call → Follows n h x
followed n h x call reply did = ⊎_elim
    (λ (none_left : (reply ≡ no_memory_of call) × (x ≡ h)). inl none_left.1)
    (λ (it : (reply ≡ reply_of peer_tokens h call) × (x ≡ history_after peer_tokens h n call)).
    subst (Follows n h) (sym it.1) (follows_extended n h call (is_accepted (reply_of peer_tokens h call))))
    did
