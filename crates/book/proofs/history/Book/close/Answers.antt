use Rattle.std.proofs.Common.{List, subst, Err, Ok, refl, ◌≤◌, length, sym, rules}
use Rattle.book.specs.declared.calls.Call.TheVariants.{Close}
use Rattle.book.specs.declared.calls.Entry.{Entry}
use Rattle.book.specs.declared.errors.CloseError.TheVariants.{NoSuchChannel}
use Rattle.book.specs.Replies.{closed}
use Rattle.book.specs.Calling.{IsCall}
use Rattle.book.proofs.Fulfilled.{called}
use Rattle.book.proofs.Called.{filed, close_done, not_there, none_to_close, one_fits}
use Rattle.book.specs.Fulfilled.{kept_by, AreBeside}
use Rattle.book.proofs.history.Book.close.Goals as goal

pub invariant_of-self-2 : goal.invariant_of-self-2
invariant_of-self-2 c =
    let i = c.self.inside in
    let is = filed c.file.new.entries.items c.reserve.new.self.items i.entries.items _ _ c.file.ensures c.in_ok-reserve.ensures.items refl in
    called i.entries.items i.channels.entries _ c.self.invariant _ _ _ _ is refl
    (close_done i.entries.items c.file.new.entries.items i.channels.entries c.args.seat c.args.channel c.index_mut-open.result.now c.close-number.new.self c.close-number.result c.self.invariant.left c.index_mut-open.ensures.value c.close-number.ensures.number c.close-number.ensures.closed is).keeps

pub returns : goal.returns
returns c =
    let i = c.self.inside in
    let is = filed c.file.new.entries.items c.reserve.new.self.items i.entries.items _ _ c.file.ensures c.in_ok-reserve.ensures.items refl in
    let done = close_done i.entries.items c.file.new.entries.items i.channels.entries c.args.seat c.args.channel c.index_mut-open.result.now c.close-number.new.self c.close-number.result c.self.invariant.left c.index_mut-open.ensures.value c.close-number.ensures.number c.close-number.ensures.closed is in
    subst (λ (h : List Entry). IsCall (closed (Ok c.close-number.result)) h c.file.new.entries.items c.args.seat (Close c.args.channel)) c.self.view_is done.called

pub returns-then-index-len : goal.returns-then-index-len
returns-then-index-len c =
    let i = c.self.inside in
    let past : length i.channels.entries ≤ c.args.channel = search rules in
    subst (λ (h : List Entry). IsCall (closed (Err NoSuchChannel)) h h c.args.seat (Close c.args.channel)) c.self.view_is
    (not_there i.entries.items i.channels.entries c.args.seat c.args.channel (Close c.args.channel) (closed (Err NoSuchChannel)) c.self.invariant.left past (none_to_close c.args.channel) refl)

pub invariant_of-self : goal.invariant_of-self
invariant_of-self c = subst (λ (h : List Entry). AreBeside h c.self.inside.channels.entries (kept_by c.self.inside.fulfils)) (sym c.reserve.ensures.items) c.self.invariant

pub file-requires : goal.file-requires
file-requires c = one_fits _ _ c.in_ok-reserve.ensures.ok
