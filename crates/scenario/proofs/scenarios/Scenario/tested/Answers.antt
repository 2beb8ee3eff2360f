use Rattle.std.proofs.Common.{sym, ◌∙◌, ap}
use Rattle.scenario.specs.Testing.{is_within_limits, first_bad_terms}
use Rattle.scenario.proofs.Tested.{are_within, no_bad_terms}
use Rattle.scenario.proofs.scenarios.Scenario.tested.Goals as goal

pub invariant_of-result : goal.invariant_of-result
invariant_of-result c =
    let plain = c.args.plain in
    let within = are_within plain.channels plain.events (sym (c.if-not-is_within_limits.ensures ∙ ap (λ xs. is_within_limits xs c.values-2.result.now) c.values.ensures ∙ ap (is_within_limits plain.channels) c.values-2.ensures)) in
    record {
      few_channels = within.few_channels;
      few_events = within.few_events;
      few_blocks = within.few_blocks;
      agreed = no_bad_terms 0 plain.channels (sym (c.in_default.ensures ∙ ap first_bad_terms c.values-3.ensures));
    }
