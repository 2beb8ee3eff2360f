use Rattle.std.proofs.Common.{◌<◌, ℕ, List, length, set, ap, ◌∙◌, arith}
use Rattle.std.proofs.lemmas.List.{length-map}
use Rattle.side.specs.declared.following.Followed.{Followed}
use Rattle.side.specs.Due.{with_preimages}
use Rattle.side.specs.Reading.{Reader, with_answer}
use Rattle.side.specs.Following.{seen_in, reader_of}
use Rattle.side.proofs.Followed.{answers}
use Rattle.side.proofs.reading.Reader.answer.Goals as goal

pub returns-clause-ok : goal.returns-clause-ok
returns-clause-ok c =
    let i = c.self.inside in
    let n = c.args.channel in
    let within : n < length i.channels.items = omega (arith, c.requires, ap (λ (x : Reader). length x.seen) c.self.view_is, length-map i.channels.items seen_in) in
    ap (λ (f : Followed). reader_of i.fundings (set i.channels.items n f) i.learnt.items i.due.items) c.tell.ensures
    ∙ answers i.fundings i.channels.items i.learnt.items i.due.items n c.index_mut.result.now c.args.known c.in_ok-known.known.value within c.index_mut.ensures.value
    (c.in_ok-known.ensures ∙ ap (λ (xs : List (List ℕ)). with_preimages xs c.args.known) c.deref.ensures.value)
    ∙ ap (with_answer n c.args.known) c.self.view_is
