use Rattle.std.proofs.Common.{sym, ◌∙◌}
use Rattle.claim.specs.Judgement.{bare_shell}
use Rattle.claim.proofs.Judged.{accepted-within}
use Rattle.claim.proofs.Kept.{same_ways, is_way, judged_on, parts_of}
use Rattle.claim.proofs.accepting.accept.Goals as goal

pub into_way-way-requires : goal.into_way-way-requires
into_way-way-requires c = accepted-within c.args.checked c.args.path _ c.args.place _ c.in-Ok.ensures

pub new-claim-requires-clause-way : goal.new-claim-requires-clause-way
new-claim-requires-clause-way c =
    let way = c.into_way-way in
    is_way way.result.script c.args.checked c.args.path way.result.path way.ensures.spelt way.ensures.short way.ensures.listed way.ensures.path

pub new-claim-requires-clause-judged : goal.new-claim-requires-clause-judged
new-claim-requires-clause-judged c =
    let way = c.into_way-way in
    judged_on _ c.args.checked c.args.path _ _ c.args.place _ (same_ways way.result.script c.args.checked way.ensures.spelt way.ensures.short way.ensures.listed) (c.from_vec.ensures ∙ sym c.as_slice.ensures.value) c.in-Ok.ensures

pub returns-in-Ok-clause-accepted : goal.returns-in-Ok-clause-accepted
returns-in-Ok-clause-accepted c =
    let way = c.into_way-way in
    record {
      same =
          parts_of _ c.args.checked c.args.path _ _ c.args.place _ _ _ (same_ways way.result.script c.args.checked way.ensures.spelt way.ensures.short way.ensures.listed) c.from_vec.ensures c.bare-shell.ensures c.new-claim.ensures;
      accepted = c.path.ensures.whole.accepted;
    }
