use Rattle.std.proofs.Common.{◌<◌, List, ◌++◌, length, ap, sym, ◌∙◌, subst, Err, Ok, [], rules, ◌≤◌, refl}
use Rattle.std.proofs.lemmas.Result.{err_from_is_err_and}
use Rattle.std.specs.List.{cons_option}
use Rattle.book.specs.declared.calls.Step.{Step}
use Rattle.book.specs.declared.calls.Call.TheVariants.{Step as Stepping}
use Rattle.book.specs.declared.calls.Entry.{Entry}
use Rattle.book.specs.declared.errors.StepError.TheVariants.{NoSuchChannel}
use Rattle.book.specs.Books.{at_index}
use Rattle.book.specs.Knowing.{preimage_in}
use Rattle.book.specs.Fulfilled.{Preimages, kept_by, AreBeside}
use Rattle.book.specs.Replies.{stepped}
use Rattle.book.specs.Calling.{IsCall}
use Rattle.book.proofs.Fundings.{left_alone}
use Rattle.book.proofs.Fulfilled.{for_each, called, uncalled}
use Rattle.book.proofs.Refused.{step_refused}
use Rattle.book.proofs.Called.{entry, filed, step_done, not_there, none_to_step, one_fits}
use Rattle.book.proofs.history.Book.step.Goals as goal

pub invariant_of-self-2 : goal.invariant_of-self-2
invariant_of-self-2 c =
    let i = c.self.inside in
    let t = c.in_ok-taken.taken in
    let named = ap (λ (s : Step). entry c.args.seat (Stepping c.args.channel s)) c.in_ok-taken.ensures.step in
    let is = filed c.file.new.entries.items c.reserve.new.self.items i.entries.items _ _ c.file.ensures c.in_ok-reserve.ensures.items named in
    let after = c.add_preimage.ensures ∙ ap (λ (x : Step). at_index (λ own. own ++ cons_option (preimage_in x) []) c.args.channel (kept_by c.reserve_preimage.new.self)) c.in_ok-taken.ensures.step
    ∙ ap (λ (ps : Preimages). at_index (λ own. own ++ cons_option (preimage_in c.args.step) []) c.args.channel ps) c.reserve_preimage.ensures.same in
    called i.entries.items i.channels.entries _ c.self.invariant _ _ _ _ is after
    (step_done i.entries.items c.file.new.entries.items i.channels.entries c.args.seat c.args.channel c.index_mut-open.result.now c.step.new.self c.args.step t.message c.self.invariant.left c.index_mut-open.ensures.value c.in_ok-taken.ensures.tested c.in_ok-taken.ensures.message c.in_ok-taken.ensures.ok is).keeps

pub returns : goal.returns
returns c =
    let i = c.self.inside in
    let t = c.in_ok-taken.taken in
    let named = ap (λ (s : Step). entry c.args.seat (Stepping c.args.channel s)) c.in_ok-taken.ensures.step in
    let is = filed c.file.new.entries.items c.reserve.new.self.items i.entries.items _ _ c.file.ensures c.in_ok-reserve.ensures.items named in
    let done = step_done i.entries.items c.file.new.entries.items i.channels.entries c.args.seat c.args.channel c.index_mut-open.result.now c.step.new.self c.args.step t.message c.self.invariant.left c.index_mut-open.ensures.value c.in_ok-taken.ensures.tested c.in_ok-taken.ensures.message c.in_ok-taken.ensures.ok is in
    subst (λ (h : List Entry). IsCall (stepped (Ok (cons_option t.message []))) h c.file.new.entries.items c.args.seat (Stepping c.args.channel c.args.step)) c.self.view_is done.called

pub invariant_of-self-in_err-taken : goal.invariant_of-self-in_err-taken
invariant_of-self-in_err-taken c =
    let i = c.self.inside in
    uncalled i.entries.items i.channels.entries _ c.self.invariant _ _ _ c.in_ok-reserve.ensures.items c.reserve_preimage.ensures.same
    (left_alone i.entries.items i.channels.entries c.self.invariant.left c.reserve.new.self.items c.in_ok-reserve.ensures.items c.args.channel c.index_mut-open.result.now c.step.new.self c.index_mut-open.ensures.value c.in_err-taken.ensures.err)

pub returns-in_err-taken : goal.returns-in_err-taken
returns-in_err-taken c =
    let i = c.self.inside in
    let refused = step_refused i.entries.items c.reserve.new.self.items i.channels.entries c.self.invariant.left c.in_ok-reserve.ensures.items c.args.seat c.args.channel c.index_mut-open.result.now c.index_mut-open.ensures.value c.args.step c.in_err-taken.field-0.0 c.in_err-taken.ensures.tested in
    let p = err_from_is_err_and c.from_residual-in_err-taken.result c.from_residual-in_err-taken.ensures.1 in
    rw (p.1, p.2) (subst (λ (h : List Entry). IsCall (stepped (Err c.in_err-taken.field-0.0)) h c.reserve.new.self.items c.args.seat (Stepping c.args.channel c.args.step)) c.self.view_is refused)

pub reserve_preimage-requires : goal.reserve_preimage-requires
reserve_preimage-requires c =
    let i = c.self.inside in
    let within : c.args.channel < length i.channels.entries = search rules in
    subst (λ n. c.args.channel < n) (sym (for_each i.entries.items i.channels.entries _ c.self.invariant)) within

pub add_preimage-requires-clause-within : goal.add_preimage-requires-clause-within
add_preimage-requires-clause-within c =
    let i = c.self.inside in
    let within : c.args.channel < length i.channels.entries = search rules in
    subst (λ (ps : Preimages). c.args.channel < length ps) (sym c.reserve_preimage.ensures.same) (subst (λ n. c.args.channel < n) (sym (for_each i.entries.items i.channels.entries _ c.self.invariant)) within)

pub returns-then-index-len : goal.returns-then-index-len
returns-then-index-len c =
    let i = c.self.inside in
    let past : length i.channels.entries ≤ c.args.channel = search rules in
    subst (λ (h : List Entry). IsCall (stepped (Err NoSuchChannel)) h h c.args.seat (Stepping c.args.channel c.args.step)) c.self.view_is
    (not_there i.entries.items i.channels.entries c.args.seat c.args.channel (Stepping c.args.channel c.args.step) (stepped (Err NoSuchChannel)) c.self.invariant.left past (none_to_step c.args.channel c.args.step) refl)

pub invariant_of-self : goal.invariant_of-self
invariant_of-self c = subst (λ (h : List Entry). AreBeside h c.self.inside.channels.entries (kept_by c.self.inside.fulfils)) (sym c.reserve.ensures.items) c.self.invariant

pub file-requires : goal.file-requires
file-requires c = one_fits _ _ c.in_ok-reserve.ensures.ok

pub add_preimage-requires-clause-room : goal.add_preimage-requires-clause-room
add_preimage-requires-clause-room c = c.in_ok-reserve_preimage.ensures.room
