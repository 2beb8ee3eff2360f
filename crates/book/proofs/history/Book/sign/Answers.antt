use Rattle.std.proofs.Common.{List, subst, Err, Ok, refl, ◌≤◌, length, sym, rules}
use Rattle.std.proofs.lemmas.Result.{err_from_is_err_and}
use Rattle.book.specs.declared.calls.Call.TheVariants.{Sign}
use Rattle.book.specs.declared.calls.Entry.{Entry}
use Rattle.book.specs.declared.errors.SignError.TheVariants.{NoSuchChannel}
use Rattle.book.specs.Replies.{signed}
use Rattle.book.specs.Calling.{IsCall}
use Rattle.book.proofs.Fundings.{left_alone}
use Rattle.book.proofs.Fulfilled.{called, uncalled}
use Rattle.book.proofs.Refused.{sign_refused}
use Rattle.book.proofs.Called.{filed, sign_done, not_there, none_to_sign, one_fits}
use Rattle.book.specs.Fulfilled.{kept_by, AreBeside}
use Rattle.book.proofs.history.Book.sign.Goals as goal

pub invariant_of-self-2 : goal.invariant_of-self-2
invariant_of-self-2 c =
    let i = c.self.inside in
    let is = filed c.file.new.entries.items c.reserve.new.self.items i.entries.items _ _ c.file.ensures c.in_ok-reserve.ensures.items refl in
    called i.entries.items i.channels.entries _ c.self.invariant _ _ _ _ is refl
    (sign_done i.entries.items c.file.new.entries.items i.channels.entries c.args.seat c.args.channel c.index_mut-open.result.now c.sign.new.self c.in_ok-message.message c.self.invariant.left c.index_mut-open.ensures.value c.in_ok-message.ensures.tested c.in_ok-message.ensures.message c.in_ok-message.ensures.ok is).keeps

pub returns : goal.returns
returns c =
    let i = c.self.inside in
    let is = filed c.file.new.entries.items c.reserve.new.self.items i.entries.items _ _ c.file.ensures c.in_ok-reserve.ensures.items refl in
    let done = sign_done i.entries.items c.file.new.entries.items i.channels.entries c.args.seat c.args.channel c.index_mut-open.result.now c.sign.new.self c.in_ok-message.message c.self.invariant.left c.index_mut-open.ensures.value c.in_ok-message.ensures.tested c.in_ok-message.ensures.message c.in_ok-message.ensures.ok is in
    subst (λ (h : List Entry). IsCall (signed (Ok c.in_ok-message.message)) h c.file.new.entries.items c.args.seat (Sign c.args.channel)) c.self.view_is done.called

pub invariant_of-self-in_err-message : goal.invariant_of-self-in_err-message
invariant_of-self-in_err-message c =
    let i = c.self.inside in
    uncalled i.entries.items i.channels.entries _ c.self.invariant _ _ _ c.in_ok-reserve.ensures.items refl
    (left_alone i.entries.items i.channels.entries c.self.invariant.left c.reserve.new.self.items c.in_ok-reserve.ensures.items c.args.channel c.index_mut-open.result.now c.sign.new.self c.index_mut-open.ensures.value c.in_err-message.ensures.err)

pub returns-in_err-message : goal.returns-in_err-message
returns-in_err-message c =
    let i = c.self.inside in
    let refused = sign_refused i.entries.items c.reserve.new.self.items i.channels.entries c.self.invariant.left c.in_ok-reserve.ensures.items c.args.seat c.args.channel c.index_mut-open.result.now c.index_mut-open.ensures.value c.in_err-message.field-0.0 c.in_err-message.ensures.tested in
    let p = err_from_is_err_and c.from_residual-in_err-message.result c.from_residual-in_err-message.ensures.1 in
    rw (p.1, p.2) (subst (λ (h : List Entry). IsCall (signed (Err c.in_err-message.field-0.0)) h c.reserve.new.self.items c.args.seat (Sign c.args.channel)) c.self.view_is refused)

pub returns-then-index-len : goal.returns-then-index-len
returns-then-index-len c =
    let i = c.self.inside in
    let past : length i.channels.entries ≤ c.args.channel = search rules in
    subst (λ (h : List Entry). IsCall (signed (Err NoSuchChannel)) h h c.args.seat (Sign c.args.channel)) c.self.view_is
    (not_there i.entries.items i.channels.entries c.args.seat c.args.channel (Sign c.args.channel) (signed (Err NoSuchChannel)) c.self.invariant.left past (none_to_sign c.args.channel) refl)

pub invariant_of-self : goal.invariant_of-self
invariant_of-self c = subst (λ (h : List Entry). AreBeside h c.self.inside.channels.entries (kept_by c.self.inside.fulfils)) (sym c.reserve.ensures.items) c.self.invariant

pub file-requires : goal.file-requires
file-requires c = one_fits _ _ c.in_ok-reserve.ensures.ok
