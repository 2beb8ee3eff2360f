use Rattle.std.proofs.Common.{◌∷◌, ap, ◌∙◌}
use Rattle.std.proofs.lemmas.Result.{err_from_is_err_and}
use Rattle.machine.proofs.MultiSigs.{no_key_count, many, no_keys, no_sig_count_left, no_sigs, no_extra, bad_forms, good_forms, if_stop_as}
use Rattle.machine.proofs.multisig.check_multi_sig.Goals as goal

pub returns-in_err-key_count-clause-does : goal.returns-in_err-key_count-clause-does
returns-in_err-key_count-clause-does c =
    let p = err_from_is_err_and c.from_residual.result c.from_residual.ensures.1 in
    rw (p.1, p.2) (if_stop_as c.in_err-key_count.field-0.0 (no_key_count c.args.spend.now c.args.counted c.args.stack.now) c.in_err-key_count.ensures)

pub returns-then-counted-key_count-gt-MAX_OPS_PER_SCRIPT-clause-does : goal.returns-then-counted-key_count-gt-MAX_OPS_PER_SCRIPT-clause-does
returns-then-counted-key_count-gt-MAX_OPS_PER_SCRIPT-clause-does c = many c.args.spend.now c.args.counted c.args.stack.now c.take_count.new.stack c.in_ok-key_count.key_count c.in_ok-key_count.ensures c.if-counted-key_count-gt-MAX_OPS_PER_SCRIPT.true

pub returns-in_err-keys-clause-does : goal.returns-in_err-keys-clause-does
returns-in_err-keys-clause-does c =
    let p = err_from_is_err_and c.from_residual-in_err-keys.result c.from_residual-in_err-keys.ensures.1 in
    rw (p.1, p.2) (if_stop_as c.in_err-keys.field-0.0 (λ d h. rw h.0 (no_keys c.args.spend.now c.args.counted c.args.stack.now c.take_count.new.stack c.in_ok-key_count.key_count c.in_ok-key_count.ensures c.if-counted-key_count-gt-MAX_OPS_PER_SCRIPT.false h.1)) c.in_err-keys.ensures)

pub returns-in_err-sig_count-clause-does : goal.returns-in_err-sig_count-clause-does
returns-in_err-sig_count-clause-does c =
    let p = err_from_is_err_and c.from_residual-in_err-sig_count.result c.from_residual-in_err-sig_count.ensures.1 in
    rw (p.1, p.2) (if_stop_as c.in_err-sig_count.field-0.0 (no_sig_count_left c.args.spend.now c.args.counted c.args.stack.now c.take_count.new.stack c.in_ok-key_count.key_count c.in_ok-key_count.ensures c.if-counted-key_count-gt-MAX_OPS_PER_SCRIPT.false c.in_ok-keys.keys c.take_many.new.stack c.in_ok-keys.ensures) c.in_err-sig_count.ensures)

pub returns-in_err-sigs-clause-does : goal.returns-in_err-sigs-clause-does
returns-in_err-sigs-clause-does c =
    let p = err_from_is_err_and c.from_residual-in_err-sigs.result c.from_residual-in_err-sigs.ensures.1 in
    rw (p.1, p.2) (if_stop_as c.in_err-sigs.field-0.0 (λ d h. rw h.0 (no_sigs c.args.spend.now c.args.counted c.args.stack.now c.take_count.new.stack c.in_ok-key_count.key_count c.in_ok-key_count.ensures c.if-counted-key_count-gt-MAX_OPS_PER_SCRIPT.false c.in_ok-keys.keys c.take_many.new.stack c.in_ok-keys.ensures c.take_count-2.new.stack c.in_ok-sig_count.sig_count c.in_ok-sig_count.ensures h.1)) c.in_err-sigs.ensures)

pub returns-in_err-extra-clause-does : goal.returns-in_err-extra-clause-does
returns-in_err-extra-clause-does c =
    let p = err_from_is_err_and c.from_residual-in_err-extra.result c.from_residual-in_err-extra.ensures.1 in
    rw (p.1, p.2, c.in_err-extra.ensures.2) (no_extra c.args.spend.now c.args.counted c.args.stack.now c.take_count.new.stack c.in_ok-key_count.key_count c.in_ok-key_count.ensures c.if-counted-key_count-gt-MAX_OPS_PER_SCRIPT.false c.in_ok-keys.keys c.take_many.new.stack c.in_ok-keys.ensures c.take_count-2.new.stack c.in_ok-sig_count.sig_count c.in_ok-sig_count.ensures c.in_ok-sigs.sigs c.take_many-2.new.stack c.in_ok-sigs.ensures c.in_err-extra.ensures.0)

pub returns-in_err-check_forms-clause-does : goal.returns-in_err-check_forms-clause-does
returns-in_err-check_forms-clause-does c =
    let p = err_from_is_err_and c.from_residual-in_err-check_forms.result c.from_residual-in_err-check_forms.ensures.1 in
    rw (p.1, p.2) (if_stop_as c.in_err-check_forms.field-0.0 (bad_forms c.args.spend.now c.args.counted c.args.stack.now c.take_count.new.stack c.in_ok-key_count.key_count c.in_ok-key_count.ensures c.if-counted-key_count-gt-MAX_OPS_PER_SCRIPT.false c.in_ok-keys.keys c.take_many.new.stack c.in_ok-keys.ensures c.take_count-2.new.stack c.in_ok-sig_count.sig_count c.in_ok-sig_count.ensures c.in_ok-sigs.sigs c.take_many-2.new.stack c.in_ok-sigs.ensures c.in_ok-extra.extra c.take.new.stack c.in_ok-extra.ensures) c.in_err-check_forms.ensures)

pub returns-clause-does : goal.returns-clause-does
returns-clause-does c = good_forms c.args.spend.now c.args.counted c.args.stack.now c.take_count.new.stack c.in_ok-key_count.key_count c.in_ok-key_count.ensures c.if-counted-key_count-gt-MAX_OPS_PER_SCRIPT.false c.in_ok-keys.keys c.take_many.new.stack c.in_ok-keys.ensures c.take_count-2.new.stack c.in_ok-sig_count.sig_count c.in_ok-sig_count.ensures c.in_ok-sigs.sigs c.take_many-2.new.stack c.in_ok-sigs.ensures c.in_ok-extra.extra c.take.new.stack c.in_ok-extra.ensures c.is_assigned-valid.result c.push.new.self c.in_ok-check_forms.ensures c.is_assigned-valid.ensures (c.in_ok-push.ensures.pushed ∙ ap (λ x. x ∷ c.take.new.stack) c.in_ok-flag.ensures)
