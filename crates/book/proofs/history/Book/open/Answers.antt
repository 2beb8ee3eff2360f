use Rattle.std.proofs.Common.{◌≡◌, ◌<◌, List, [], ◌∷◌, ◌++◌, length, None, Err, Ok, refl, sym, ap, ◌∙◌, subst, inl, rules, arith}
use Rattle.std.proofs.lemmas.Result.{err_from_is_err_and}
use Rattle.tx.specs.declared.input.OutPoint.{OutPoint}
use Rattle.tx.specs.Fields.{same_outpoint}
use Rattle.indexmap.specs.IndexMap.{get}
use Rattle.indexmap.proofs.CallerLemmas.{insert_entry-new}
use Rattle.book.specs.declared.limits.TheConstants.{MAX_CHANNELS}
use Rattle.book.specs.declared.calls.Call.TheVariants.{Open}
use Rattle.book.specs.declared.calls.Entry.{Entry}
use Rattle.book.specs.declared.errors.OpenError.TheVariants.{NoMemory, SameFunding}
use Rattle.book.specs.Books.{ChannelBook}
use Rattle.book.specs.Kept.{AreLeft}
use Rattle.book.specs.Fulfilled.{Preimages, kept_by, AreBeside}
use Rattle.book.specs.Replies.{opened}
use Rattle.book.specs.Calling.{IsCall}
use Rattle.book.proofs.Fulfilled.{called, uncalled}
use Rattle.book.proofs.Called.{filed, no_room, same_funding, no_token, open_done, is_none, one_fits}
use Rattle.book.proofs.history.Book.open.Goals as goal

pub returns-then-contains_key : goal.returns-then-contains_key
returns-then-contains_key c =
    let i = c.self.inside in
    let few : length i.channels.entries < MAX_CHANNELS = omega (arith, c.len.ensures.len, c.if-len-ge-MAX_CHANNELS.false) in
    subst (λ (h : List Entry). IsCall (opened (Err SameFunding)) h h c.args.seat (Open c.args.opening)) c.self.view_is
    (same_funding i.entries.items i.channels.entries c.args.seat c.args.opening c.self.invariant.left (no_room MAX_CHANNELS (length i.channels.entries) few) (sym c.contains_key.ensures ∙ c.if-contains_key.true))

pub returns-in_err-open : goal.returns-in_err-open
returns-in_err-open c =
    let i = c.self.inside in
    let few : length i.channels.entries < MAX_CHANNELS = omega (arith, c.len.ensures.len, c.if-len-ge-MAX_CHANNELS.false) in
    let refused = no_token i.entries.items i.channels.entries c.args.seat c.args.opening c.in_err-open.field-0.0 c.self.invariant.left (no_room MAX_CHANNELS (length i.channels.entries) few) (sym c.contains_key.ensures ∙ c.if-contains_key.false) c.in_err-open.ensures.tested in
    let p = err_from_is_err_and c.from_residual-in_err-open.result c.from_residual-in_err-open.ensures.1 in
    rw (p.1, p.2) (subst (λ (h : List Entry). IsCall (opened (Err c.in_err-open.field-0.0)) h c.reserve.new.self.items c.args.seat (Open c.args.opening)) c.self.view_is
    (subst (λ (h : List Entry). IsCall (opened (Err c.in_err-open.field-0.0)) i.entries.items h c.args.seat (Open c.args.opening)) (sym c.in_ok-reserve.ensures.items) refused))

pub invariant_of-self-2 : goal.invariant_of-self-2
invariant_of-self-2 c =
    let i = c.self.inside in
    let o = c.args.opening in
    let f = o.terms.funding in
    let few : length i.channels.entries < MAX_CHANNELS = omega (arith, c.len.ensures.len, c.if-len-ge-MAX_CHANNELS.false) in
    let index : c.len-index.result ≡ length i.channels.entries = search rules in
    let absent = sym c.contains_key.ensures ∙ c.if-contains_key.false in
    let none : get same_outpoint i.channels f ≡ None = is_none (get same_outpoint i.channels f) absent in
    let more = c.in-Ok.ensures.entries ∙ insert_entry-new same_outpoint i.channels f c.in_ok-open.open none ∙ ap (λ (x : ChannelBook). i.channels.entries ++ (f, x) ∷ []) c.in_ok-open.ensures.ok in
    let is = filed c.file.new.entries.items c.reserve.new.self.items i.entries.items _ _ c.file.ensures c.in_ok-reserve.ensures.items refl in
    called i.entries.items i.channels.entries _ c.self.invariant _ _ _ _ is (c.add_channel.ensures ∙ ap (λ (ps : Preimages). ps ++ [] ∷ []) c.reserve_channel.ensures.same)
    (open_done i.entries.items c.file.new.entries.items i.channels.entries c.insert.new.self.entries c.args.seat c.len-index.result o c.self.invariant.left (no_room MAX_CHANNELS (length i.channels.entries) few) absent c.in_ok-open.ensures.tested index more is).keeps

pub returns : goal.returns
returns c =
    let i = c.self.inside in
    let o = c.args.opening in
    let f = o.terms.funding in
    let few : length i.channels.entries < MAX_CHANNELS = omega (arith, c.len.ensures.len, c.if-len-ge-MAX_CHANNELS.false) in
    let index : c.len-index.result ≡ length i.channels.entries = search rules in
    let absent = sym c.contains_key.ensures ∙ c.if-contains_key.false in
    let none : get same_outpoint i.channels f ≡ None = is_none (get same_outpoint i.channels f) absent in
    let more = c.in-Ok.ensures.entries ∙ insert_entry-new same_outpoint i.channels f c.in_ok-open.open none ∙ ap (λ (x : ChannelBook). i.channels.entries ++ (f, x) ∷ []) c.in_ok-open.ensures.ok in
    let is = filed c.file.new.entries.items c.reserve.new.self.items i.entries.items _ _ c.file.ensures c.in_ok-reserve.ensures.items refl in
    let done = open_done i.entries.items c.file.new.entries.items i.channels.entries c.insert.new.self.entries c.args.seat c.len-index.result o c.self.invariant.left (no_room MAX_CHANNELS (length i.channels.entries) few) absent c.in_ok-open.ensures.tested index more is in
    subst (λ (h : List Entry). IsCall (opened (Ok c.len-index.result)) h c.file.new.entries.items c.args.seat (Open c.args.opening)) c.self.view_is done.called

pub invariant_of-self : goal.invariant_of-self
invariant_of-self c = subst (λ (h : List Entry). AreBeside h c.self.inside.channels.entries (kept_by c.self.inside.fulfils)) (sym c.reserve.ensures.items) c.self.invariant

pub invariant_of-self-in_err-open : goal.invariant_of-self-in_err-open
invariant_of-self-in_err-open c =
    let i = c.self.inside in
    uncalled i.entries.items i.channels.entries _ c.self.invariant _ _ _ c.in_ok-reserve.ensures.items c.reserve_channel.ensures.same
    (subst (λ (h : List Entry). AreLeft h i.channels.entries) (sym c.in_ok-reserve.ensures.items) c.self.invariant.left)

pub invariant_of-self-in-Err : goal.invariant_of-self-in-Err
invariant_of-self-in-Err c =
    let i = c.self.inside in
    let same : c.insert.new.self.entries ≡ i.channels.entries = search rules in
    uncalled i.entries.items i.channels.entries _ c.self.invariant _ _ _ c.in_ok-reserve.ensures.items c.reserve_channel.ensures.same
    (subst (λ (es : List (OutPoint × ChannelBook)). AreLeft c.reserve.new.self.items es) (sym same)
    (subst (λ (h : List Entry). AreLeft h i.channels.entries) (sym c.in_ok-reserve.ensures.items) c.self.invariant.left))

pub returns-in-Err : goal.returns-in-Err
returns-in-Err c =
    subst (λ (h : List Entry). IsCall (opened (Err NoMemory)) h c.reserve.new.self.items c.args.seat (Open c.args.opening)) c.self.view_is (inl (refl, c.in_ok-reserve.ensures.items))

pub returns-in_err-reserve : goal.returns-in_err-reserve
returns-in_err-reserve c =
    let p = err_from_is_err_and c.from_residual.result c.from_residual.ensures.1 in
    rw (p.1, p.2) (subst (λ (h : List Entry). IsCall (opened (Err NoMemory)) h c.reserve.new.self.items c.args.seat (Open c.args.opening)) c.self.view_is (inl (refl, c.reserve.ensures.items)))

pub returns-in_err-reserve_channel : goal.returns-in_err-reserve_channel
returns-in_err-reserve_channel c =
    let p = err_from_is_err_and c.from_residual-in_err-reserve_channel.result c.from_residual-in_err-reserve_channel.ensures.1 in
    rw (p.1, p.2) (subst (λ (h : List Entry). IsCall (opened (Err NoMemory)) h c.reserve.new.self.items c.args.seat (Open c.args.opening)) c.self.view_is (inl (refl, c.in_ok-reserve.ensures.items)))

pub invariant_of-self-in_err-reserve_channel : goal.invariant_of-self-in_err-reserve_channel
invariant_of-self-in_err-reserve_channel c =
    let i = c.self.inside in
    uncalled i.entries.items i.channels.entries _ c.self.invariant _ _ _ c.in_ok-reserve.ensures.items c.reserve_channel.ensures.same
    (subst (λ (h : List Entry). AreLeft h i.channels.entries) (sym c.in_ok-reserve.ensures.items) c.self.invariant.left)

pub file-requires : goal.file-requires
file-requires c = one_fits _ _ c.in_ok-reserve.ensures.ok

pub add_channel-requires : goal.add_channel-requires
add_channel-requires c = c.in_ok-reserve_channel.ensures.room
