use Rattle.std.proofs.Common.{◌≡◌, ◌≤◌, List, None, Bor, subst, Err, Ok, sym, ap, ◌∙◌, length, refl, rules, inl}
use Rattle.std.proofs.lemmas.Result.{err_from_is_err_and}
use Rattle.std.proofs.lemmas.Option.{same_Some}
use Rattle.std.specs.List.{AllByRecursion}
use Rattle.claim.specs.Claims.{ClaimParts, IsWhole}
use Rattle.penalty.specs.declared.states.RevokedState.{RevokedState}
use Rattle.penalty.specs.Claimable.{claimable_of}
use Rattle.penalty.specs.Sets.{AreClaimsOn}
use Rattle.book.specs.declared.calls.Call.TheVariants.{Keep}
use Rattle.book.specs.declared.calls.Entry.{Entry}
use Rattle.book.specs.declared.errors.KeepError.TheVariants.{NoMemory, NoSuchChannel}
use Rattle.book.specs.Books.{replay}
use Rattle.book.specs.Fulfilled.{kept_by, AreBeside}
use Rattle.book.specs.Guarding.{ArePenaltiesIn}
use Rattle.book.specs.Replies.{kept, keep_refusal}
use Rattle.book.specs.Calling.{IsCall, IsKeepRefusal}
use Rattle.book.proofs.Fundings.{left_alone}
use Rattle.book.proofs.Fulfilled.{called, uncalled}
use Rattle.book.proofs.Refused.{keep_refused}
use Rattle.book.proofs.Called.{entry, filed, keep_done, not_there, none_to_keep, one_fits}
use Rattle.book.proofs.KeptSets.{kept_by_call}
use Rattle.book.proofs.history.Book.keep_set.Goals as goal

pub keep-requires : goal.keep-requires
keep-requires c = λ x is.
    subst (λ (r : Bor RevokedState). AreClaimsOn (claimable_of r.now) c.claims.result.now) (same_Some c.state.result x is)
    (subst (λ (s : RevokedState). AreClaimsOn (claimable_of s) c.claims.result.now) (sym c.state.ensures)
    (subst (λ (cs : List ClaimParts). AreClaimsOn (claimable_of c.args.set.state) cs) (sym c.claims.ensures.value) c.claims.ensures.full))

pub invariant_of-self-2 : goal.invariant_of-self-2
invariant_of-self-2 c =
    let i = c.self.inside in
    let claims = c.args.set.claims in
    let named = ap (λ (cs : List ClaimParts). entry c.args.seat (Keep c.args.channel c.args.number cs)) (c.from_vec.ensures ∙ c.into_claims.ensures.value) in
    let is = filed c.file.new.entries.items c.reserve.new.self.items i.entries.items _ _ c.file.ensures c.in_ok-reserve.ensures.items named in
    let tested = subst (λ (cs : List ClaimParts). keep_refusal c.index_mut-open.result.now c.args.number cs ≡ None) c.claims.ensures.value c.in_ok-keep.ensures.tested in
    let whole = subst (λ (cs : List ClaimParts). AllByRecursion IsWhole cs) c.claims-2.ensures.value c.hold_whole.ensures in
    called i.entries.items i.channels.entries _ c.self.invariant _ _ _ _ is refl
    (keep_done i.entries.items c.file.new.entries.items i.channels.entries c.args.seat c.args.channel c.args.number c.index_mut-open.result.now c.keep.new.self claims c.self.invariant.left c.index_mut-open.ensures.value tested c.in_ok-keep.ensures.ok is whole).keeps

pub returns-clause-call : goal.returns-clause-call
returns-clause-call c =
    let i = c.self.inside in
    let claims = c.args.set.claims in
    let named = ap (λ (cs : List ClaimParts). entry c.args.seat (Keep c.args.channel c.args.number cs)) (c.from_vec.ensures ∙ c.into_claims.ensures.value) in
    let is = filed c.file.new.entries.items c.reserve.new.self.items i.entries.items _ _ c.file.ensures c.in_ok-reserve.ensures.items named in
    let tested = subst (λ (cs : List ClaimParts). keep_refusal c.index_mut-open.result.now c.args.number cs ≡ None) c.claims.ensures.value c.in_ok-keep.ensures.tested in
    let whole = subst (λ (cs : List ClaimParts). AllByRecursion IsWhole cs) c.claims-2.ensures.value c.hold_whole.ensures in
    let done = keep_done i.entries.items c.file.new.entries.items i.channels.entries c.args.seat c.args.channel c.args.number c.index_mut-open.result.now c.keep.new.self claims c.self.invariant.left c.index_mut-open.ensures.value tested c.in_ok-keep.ensures.ok is whole in
    subst (λ (h : List Entry). IsCall (kept (Ok tt)) h c.file.new.entries.items c.args.seat (Keep c.args.channel c.args.number claims)) c.self.view_is done.called

pub returns-clause-exact : goal.returns-clause-exact
returns-clause-exact c =
    let i = c.self.inside in
    let claims = c.args.set.claims in
    let named = ap (λ (cs : List ClaimParts). entry c.args.seat (Keep c.args.channel c.args.number cs)) (c.from_vec.ensures ∙ c.into_claims.ensures.value) in
    let is = filed c.file.new.entries.items c.reserve.new.self.items i.entries.items _ _ c.file.ensures c.in_ok-reserve.ensures.items named in
    let tested = subst (λ (cs : List ClaimParts). keep_refusal c.index_mut-open.result.now c.args.number cs ≡ None) c.claims.ensures.value c.in_ok-keep.ensures.tested in
    let whole = subst (λ (cs : List ClaimParts). AllByRecursion IsWhole cs) c.claims-2.ensures.value c.hold_whole.ensures in
    let done = keep_done i.entries.items c.file.new.entries.items i.channels.entries c.args.seat c.args.channel c.args.number c.index_mut-open.result.now c.keep.new.self claims c.self.invariant.left c.index_mut-open.ensures.value tested c.in_ok-keep.ensures.ok is whole in
    subst (λ (h : List Entry). ArePenaltiesIn c.args.channel c.args.number (replay h) claims) c.self.view_is
    (kept_by_call c.sides_are_sound.ensures.numbered i.entries.items c.file.new.entries.items c.args.seat c.args.channel c.args.number claims c.self.invariant.left.accepted whole done.called)

pub invariant_of-self-in_err-keep : goal.invariant_of-self-in_err-keep
invariant_of-self-in_err-keep c =
    let i = c.self.inside in
    uncalled i.entries.items i.channels.entries _ c.self.invariant _ _ _ c.in_ok-reserve.ensures.items refl
    (left_alone i.entries.items i.channels.entries c.self.invariant.left c.reserve.new.self.items c.in_ok-reserve.ensures.items c.args.channel c.index_mut-open.result.now c.keep.new.self c.index_mut-open.ensures.value c.in_err-keep.ensures.err)

pub returns-in_err-keep-clause-call : goal.returns-in_err-keep-clause-call
returns-in_err-keep-clause-call c =
    let i = c.self.inside in
    let claims = c.args.set.claims in
    let tested = subst (λ (cs : List ClaimParts). IsKeepRefusal (keep_refusal c.index_mut-open.result.now c.args.number cs) c.in_err-keep.field-0.0) c.claims.ensures.value c.in_err-keep.ensures.tested in
    let refused = keep_refused i.entries.items c.reserve.new.self.items i.channels.entries c.self.invariant.left c.in_ok-reserve.ensures.items c.args.seat c.args.channel c.index_mut-open.result.now c.index_mut-open.ensures.value c.args.number claims c.in_err-keep.field-0.0 tested in
    let p = err_from_is_err_and c.from_residual-in_err-keep.result c.from_residual-in_err-keep.ensures.1 in
    rw (p.1, p.2) (subst (λ (h : List Entry). IsCall (kept (Err c.in_err-keep.field-0.0)) h c.reserve.new.self.items c.args.seat (Keep c.args.channel c.args.number claims)) c.self.view_is refused)

pub returns-then-index-len-clause-call : goal.returns-then-index-len-clause-call
returns-then-index-len-clause-call c =
    let i = c.self.inside in
    let claims = c.args.set.claims in
    let past : length i.channels.entries ≤ c.args.channel = search rules in
    subst (λ (h : List Entry). IsCall (kept (Err NoSuchChannel)) h h c.args.seat (Keep c.args.channel c.args.number claims)) c.self.view_is
    (not_there i.entries.items i.channels.entries c.args.seat c.args.channel (Keep c.args.channel c.args.number claims) (kept (Err NoSuchChannel)) c.self.invariant.left past
    (none_to_keep c.args.channel c.args.number claims) refl)

pub invariant_of-self : goal.invariant_of-self
invariant_of-self c = subst (λ (h : List Entry). AreBeside h c.self.inside.channels.entries (kept_by c.self.inside.fulfils)) (sym c.reserve.ensures.items) c.self.invariant

pub returns-in_err-reserve-clause-call : goal.returns-in_err-reserve-clause-call
returns-in_err-reserve-clause-call c =
    let p = err_from_is_err_and c.from_residual.result c.from_residual.ensures.1 in
    rw (p.1, p.2) (subst (λ (h : List Entry). IsCall (kept (Err NoMemory)) h c.reserve.new.self.items c.args.seat (Keep c.args.channel c.args.number c.args.set.claims)) c.self.view_is (inl (refl, c.reserve.ensures.items)))

pub file-requires : goal.file-requires
file-requires c = one_fits _ _ c.in_ok-reserve.ensures.ok
