-- The reply to a call through the desk.
use Rattle.std.specs.Prelude.{◌≡◌, ℕ, ◌⊎◌, true, List}
use Rattle.channel.specs.Tokens.{peer_tokens}
use Rattle.book.specs.declared.calls.Entry.{Entry}
use Rattle.book.specs.declared.calls.Call.{Call}
use Rattle.book.specs.Replies.{Reply, is_accepted, reply_of, extended, history_after}
use Rattle.book.specs.Accepted.{all_accepted}
use Rattle.book.specs.Guarding.{is_guarded}
use Rattle.book.specs.Calling.{no_memory_of}
use Rattle.desk.specs.Histories.{History, GoesOn, calls_of}

-- a history that the book may have when a seat takes it: it is accepted and guarded, the seat's
-- entries in it are the seat's known calls, and it extends the history that the seat last put back
pub record IsHistoryFor (seat : ℕ) (calls : List Entry) (seen history : History) : Type 0 where
  pub accepted : all_accepted peer_tokens history ≡ true
  pub guarded : is_guarded history ≡ true
  pub mine : calls_of seat history ≡ calls
  pub since : GoesOn seen history

-- the seat's calls after a call: one more if it is accepted
abbrev pub calls_after : List Entry → History → ℕ → Call → List Entry
calls_after calls history seat call = extended (is_accepted (reply_of peer_tokens history call)) calls seat call

-- the reply is the book's own at the end of such a history, and the book is put back with the history that the call leaves; or memory ran out, and the book is put back as it was
abbrev pub IsAnswered : ℕ → List Entry → History → Call → Reply → List Entry → History → Type 0
IsAnswered seat before seen call reply after last = (history : History) × IsHistoryFor seat before seen history
    × (((reply ≡ no_memory_of call) × (after ≡ before) × (last ≡ history))
    ⊎ ((reply ≡ reply_of peer_tokens history call) × (after ≡ calls_after before history seat call) × (last ≡ history_after peer_tokens history seat call)))
