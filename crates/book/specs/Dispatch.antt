-- The seven calls of a book as one: the reply.
use Rattle.book.specs.declared.calling.Reply.{Reply as Answer}
use Rattle.book.specs.declared.calling.Reply.TheVariants.{Opened, Stepped, Signed, Revoked, Kept, Released, Closed}
use Rattle.book.specs.Replies.{Reply, opened, signed, revoked, kept, released, closed}
use Rattle.book.specs.Calling.{step_reply}

-- a method's result, as a reply
abbrev pub reply_form : Answer → Reply
reply_form (Opened r) = opened r
reply_form (Stepped r) = step_reply r
reply_form (Signed r) = signed r
reply_form (Revoked r) = revoked r
reply_form (Kept r) = kept r
reply_form (Released r) = released r
reply_form (Closed r) = closed r
