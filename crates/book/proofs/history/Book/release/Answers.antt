use Rattle.std.proofs.Common.{◌≤◌, List, length, subst, sym, Err, Ok, refl, rules, inl}
use Rattle.std.proofs.lemmas.Result.{err_from_is_err_and}
use Rattle.std.specs.List.{AllByRecursion}
use Rattle.claim.specs.Claims.{ClaimParts, IsWhole}
use Rattle.filling.specs.declared.errors.FillError.TheVariants.{NoMemory}
use Rattle.book.specs.declared.calls.Call.TheVariants.{Release}
use Rattle.book.specs.declared.calls.Entry.{Entry}
use Rattle.book.specs.declared.errors.ReleaseError.TheVariants.{Unfilled, NoSuchChannel}
use Rattle.book.specs.Fulfilled.{kept_by, AreBeside}
use Rattle.book.specs.Replies.{released}
use Rattle.book.specs.Calling.{IsCall}
use Rattle.book.proofs.Fulfilled.{called}
use Rattle.book.proofs.Refused.{release_refused}
use Rattle.book.proofs.Called.{filed, release_done, not_there, none_to_release, one_fits}
use Rattle.book.proofs.history.Book.release.Goals as goal

pub invariant_of-self-2 : goal.invariant_of-self-2
invariant_of-self-2 c =
    let i = c.self.inside in
    let is = filed c.file.new.entries.items c.reserve.new.self.items i.entries.items _ _ c.file.ensures c.in_ok-reserve.ensures.items refl in
    let whole = subst (λ (cs : List ClaimParts). AllByRecursion IsWhole cs) c.values.ensures c.hold_whole.ensures in
    called i.entries.items i.channels.entries _ c.self.invariant _ _ _ _ is refl
    (release_done i.entries.items c.file.new.entries.items i.channels.entries c.args.seat c.args.channel c.index-open.result.now c.args.batch c.in_ok-filled.filled c.self.invariant.left c.index-open.ensures c.in_ok-filled.ensures.tested c.in_ok-filled.ensures.ok is whole).keeps

pub returns : goal.returns
returns c =
    let i = c.self.inside in
    let is = filed c.file.new.entries.items c.reserve.new.self.items i.entries.items _ _ c.file.ensures c.in_ok-reserve.ensures.items refl in
    let whole = subst (λ (cs : List ClaimParts). AllByRecursion IsWhole cs) c.values.ensures c.hold_whole.ensures in
    let done = release_done i.entries.items c.file.new.entries.items i.channels.entries c.args.seat c.args.channel c.index-open.result.now c.args.batch c.in_ok-filled.filled c.self.invariant.left c.index-open.ensures c.in_ok-filled.ensures.tested c.in_ok-filled.ensures.ok is whole in
    subst (λ (h : List Entry). IsCall (released (Ok c.in_ok-filled.filled)) h c.file.new.entries.items c.args.seat (Release c.args.channel c.args.batch)) c.self.view_is done.called

pub returns-in_err-filled : goal.returns-in_err-filled
returns-in_err-filled c =
    let i = c.self.inside in
    let refused = release_refused i.entries.items c.reserve.new.self.items i.channels.entries c.self.invariant.left c.in_ok-reserve.ensures.items c.args.seat c.args.channel c.index-open.result.now c.index-open.ensures c.args.batch c.in_err-filled.field-0.0 c.in_err-filled.ensures.tested in
    let p = err_from_is_err_and c.from_residual-in_err-filled.result c.from_residual-in_err-filled.ensures.1 in
    rw (p.1, p.2) (subst (λ (h : List Entry). IsCall (released (Err (Unfilled c.in_err-filled.field-0.0))) h c.reserve.new.self.items c.args.seat (Release c.args.channel c.args.batch)) c.self.view_is refused)

pub returns-then-index-len : goal.returns-then-index-len
returns-then-index-len c =
    let i = c.self.inside in
    let past : length i.channels.entries ≤ c.args.channel = search rules in
    subst (λ (h : List Entry). IsCall (released (Err NoSuchChannel)) h h c.args.seat (Release c.args.channel c.args.batch)) c.self.view_is
    (not_there i.entries.items i.channels.entries c.args.seat c.args.channel (Release c.args.channel c.args.batch) (released (Err NoSuchChannel)) c.self.invariant.left past
    (none_to_release c.args.channel c.args.batch) refl)

pub invariant_of-self : goal.invariant_of-self
invariant_of-self c = subst (λ (h : List Entry). AreBeside h c.self.inside.channels.entries (kept_by c.self.inside.fulfils)) (sym c.reserve.ensures.items) c.self.invariant

pub invariant_of-self-in_err-filled : goal.invariant_of-self-in_err-filled
invariant_of-self-in_err-filled c = subst (λ (h : List Entry). AreBeside h c.self.inside.channels.entries (kept_by c.self.inside.fulfils)) (sym c.in_ok-reserve.ensures.items) c.self.invariant

pub returns-in_err-reserve : goal.returns-in_err-reserve
returns-in_err-reserve c =
    let p = err_from_is_err_and c.from_residual.result c.from_residual.ensures.1 in
    rw (p.1, p.2) (subst (λ (h : List Entry). IsCall (released (Err (Unfilled NoMemory))) h c.reserve.new.self.items c.args.seat (Release c.args.channel c.args.batch)) c.self.view_is (inl (refl, c.reserve.ensures.items)))

pub file-requires : goal.file-requires
file-requires c = one_fits _ _ c.in_ok-reserve.ensures.ok
