-- What a call by a seat does: the seat's own history, the reply, and the job that it puts.
use Rattle.std.proofs.Common.{◌≡◌, ℕ, ◌≤◌, Bool, true, false, List, [], ◌∷◌, ◌++◌, length, None, Ok, inl, inr, sym, ap, ◌∙◌, refl, arith, length-append}
use Rattle.std.proofs.lemmas.Bool.{true≢false}
use Rattle.crossbeam_channel.specs.Claims.{view, IsSeatAt}
use Rattle.crossbeam_channel.specs.Ends.{sends_on, receives_on, ruled_capacity}
use Rattle.channel.specs.declared.messages.Message.{Message}
use Rattle.channel.specs.Tokens.{peer_tokens}
use Rattle.book.specs.declared.calls.Call.{Call}
use Rattle.book.specs.declared.calls.Call.TheVariants.{Sign as Signing}
use Rattle.book.specs.declared.calls.Entry.{Entry}
use Rattle.book.specs.Accepted.{all_accepted}
use Rattle.book.specs.Guarding.{is_guarded}
use Rattle.book.specs.Replies.{Reply, revoked, is_accepted, reply_of, extended, history_after}
use Rattle.book.specs.Acts.{messages_in}
use Rattle.jobs.specs.declared.rule.Hand.{Hand}
use Rattle.jobs.specs.Steps.{IsPut}
use Rattle.desk.specs.declared.desk.Desk.{Desk}
use Rattle.desk.specs.declared.desk.Seat.{Seat}
use Rattle.desk.specs.Histories.{History, calls_of}
use Rattle.desk.specs.Seats.{number_in, calls_in, last_in, IsPassOf, IsSeatOf}
use Rattle.desk.specs.Answers.{IsHistoryFor, calls_after}
use Rattle.node.specs.declared.work.Job.{Job}
use Rattle.node.specs.declared.work.Job.TheVariants.{Keep}
use Rattle.running.specs.Acting.{IsPutOrDropped, PutsIf, job_for, IsOwnReply, IsSent}

-- ---- jobs

module _ (v w : Hand Job) (job : Job) where
  -- yes: IsPutOrDropped
  put_it : IsPut v job w → IsPutOrDropped job v w
  put_it p = inl p

  -- yes: IsPutOrDropped
  dropped : IsPutOrDropped job v v
  dropped = inr refl

  -- no: IsPutOrDropped
  lost : length v.put ≡ 1 → w.put ≡ [] → IsPutOrDropped job v w → ⊥
  lost e f (inl p) =
      let g : length w.put ≡ length (v.put ++ job ∷ []) = ap (λ (u : Hand Job). length u.put) p.added in
      let h = length-append v.put (job ∷ []) in
      let i = ap length f in
      omega (arith, e, g, h, i)
  lost e f (inr p) =
      let g : length w.put ≡ length v.put = ap (λ (u : Hand Job). length u.put) p in
      let i = ap length f in
      omega (arith, e, g, i)

  -- a revocation of the peer's commitment 5 in channel 1 puts one job; any other reply puts none
  -- yes: PutsIf
  puts_keep : IsPut v (Keep 1 5) w → PutsIf (job_for 1 (revoked (Ok 5))) v w
  puts_keep p = inl p

  -- no: PutsIf
  put_without_job : length v.put ≡ 1 → length w.put ≡ 2 → PutsIf None v w → ⊥
  put_without_job e f p = let g : length w.put ≡ length v.put = ap (λ (u : Hand Job). length u.put) p in omega (arith, e, f, g)

-- ---- seats

abbrev by : ℕ → ℕ → Entry
by seat channel = record { seat = seat; call = Signing channel }

module _ (desk : Desk) (seat : Seat) where
  -- yes: IsPassOf
  pass_of : IsSeatAt (sends_on desk.sender) seat.pass → receives_on desk.taker ≡ sends_on desk.sender → ruled_capacity (sends_on desk.sender) ≡ 1 → IsPassOf desk seat.pass
  pass_of a e o = record { at = a; ends = e; one = o }

  -- no: IsPassOf
  two_books : ruled_capacity (sends_on desk.sender) ≡ 2 → IsPassOf desk seat.pass → ⊥
  two_books e p = let f = p.one in omega (arith, e, f)

  -- yes: IsSeatOf
  seat_of : IsPassOf desk seat.pass → (view seat.pass).is_new ≡ false → (view seat.pass).book ≡ None → (view seat.pass).is_spent ≡ false → (view seat.pass).number ≡ seat.number → IsSeatOf desk seat
  seat_of p o i l n = record { pass = p; old = o; idle = i; live = l; number = n }

  -- no: IsSeatOf
  new_seat : (view seat.pass).is_new ≡ true → IsSeatOf desk seat → ⊥
  new_seat e s = true≢false (sym e ∙ s.old)

  -- no: IsSeatOf
  taken_in : (view seat.pass).is_spent ≡ true → IsSeatOf desk seat → ⊥
  taken_in e s = true≢false (sym e ∙ s.live)

  -- no: IsSeatOf
  other_number : (view seat.pass).number ≡ 5 → seat.number ≡ 4 → IsSeatOf desk seat → ⊥
  other_number e f s = let g = s.number in omega (arith, e, f, g)

-- yes: IsHistoryFor
history_for : (h : History) → all_accepted peer_tokens (by 4 1 ∷ h) ≡ true → is_guarded (by 4 1 ∷ h) ≡ true → calls_of 4 (by 4 1 ∷ h) ≡ by 4 1 ∷ [] → IsHistoryFor 4 (by 4 1 ∷ []) [] (by 4 1 ∷ h)
history_for h a g m = record { accepted = a; guarded = g; mine = m; since = (by 4 1 ∷ h, refl) }

-- no: IsHistoryFor
own_call_unknown : IsHistoryFor 4 [] [] (by 4 1 ∷ []) → ⊥
own_call_unknown h = let l = ap length h.mine in omega (arith, l)

-- no: IsHistoryFor
seen_undone : (x : Entry) (calls : List Entry) → IsHistoryFor 4 calls (x ∷ []) [] → ⊥
seen_undone x calls h = let l = ap length h.since.1 in omega (arith, l)

-- ---- calls

no_shorter : (b : Bool) (h : History) (seat : ℕ) (call : Call) → length h ≤ length (extended b h seat call)
no_shorter true h seat call = let l = length-append h (record { seat = seat; call = call } ∷ []) in omega (arith, l)
no_shorter false h seat call = omega arith

module _ (x y : Seat) (reply : Reply) where
  -- yes: IsOwnReply
  own_reply : (h : History) → number_in y ≡ number_in x → IsHistoryFor (number_in x) (calls_in x) (last_in x) h → reply ≡ reply_of peer_tokens h (Signing 1) → calls_in y ≡ calls_after (calls_in x) h (number_in x) (Signing 1)
      → last_in y ≡ history_after peer_tokens h (number_in x) (Signing 1) → IsOwnReply (Signing 1) x y reply
  own_reply h n f r c l = record { history = h; number = n; found = f; reply_is = r; calls = c; last = l }

  -- no: IsOwnReply
  another_seat : (call : Call) → number_in x ≡ 4 → number_in y ≡ 5 → IsOwnReply call x y reply → ⊥
  another_seat call e f o = let g = o.number in omega (arith, e, f, g)

  -- no: IsOwnReply
  forgets : (call : Call) → length (last_in x) ≡ 1 → last_in y ≡ [] → IsOwnReply call x y reply → ⊥
  forgets call e f o =
      let g = ap length o.found.since.1 in
      let h = length-append (last_in x) o.found.since.0 in
      let i = no_shorter (is_accepted (reply_of peer_tokens o.history call)) o.history (number_in x) call in
      let j : length (history_after peer_tokens o.history (number_in x) call) ≡ 0 = ap length (sym o.last ∙ f) in
      omega (arith, e, g, h, i, j)

  module _ (inbox newer : List Message) where
    -- yes: IsSent
    sent : (call : Call) → IsOwnReply call x y reply → newer ≡ inbox ++ messages_in reply → IsSent call x y inbox newer (is_accepted reply)
    sent call o s = record { reply = reply; answered = o; done_is = refl; sent = s }

    -- no: IsSent
    message_lost : (call : Call) (done : Bool) → length inbox ≡ 1 → newer ≡ [] → IsSent call x y inbox newer done → ⊥
    message_lost call done e f s =
        let g = ap length (sym f ∙ s.sent) in
        let h = length-append inbox (messages_in s.reply) in
        omega (arith, e, g, h)
